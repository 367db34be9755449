use Rattle.std.proofs.Common.{◌≡◌, ◌∙◌, sym, subst, ap, ◌++◌}
use Rattle.std.specs.Prelude.{string_bytes}
use Rattle.meaning.specs.Expressions.{print}
use Rattle.cond_text.specs.View.{expression}
use Rattle.cond_text.specs.Readings.{IsReadAs}
use Rattle.cond_text.proofs.PrintedText.{print_is_read}
use Rattle.cond_text.proofs.printer.print.Goals as goal

pub returns-clause-reads_back : goal.returns-clause-reads_back
returns-clause-reads_back c =
    let text : string_bytes c.append.new.text ≡ print c.args.names.now (expression c.args.e.now) =
    c.in_ok-append.ensures.text ∙ ap (λ s. s ++ print c.args.names.now (expression c.args.e.now)) c.new-text.ensures.bytes in
    λ all. subst (λ s. IsReadAs c.args.names.now s (expression c.args.e.now)) (sym text)
    (print_is_read c.args.names.now (expression c.args.e.now) c.in_ok-append.ensures.placed all c.requires)
