use Rattle.std.proofs.Common.{◌≡◌, sym, ap, ◌∙◌, ◌+◌, arith}
use Rattle.std.specs.Prelude.{◌==◌}
use Rattle.std.specs.List.{list_any}
use Rattle.invariant_check.proofs.FirstViolations.{holds_at_numbers}
use Rattle.invariant_check.proofs.violation.has_label.Goals as goal

pub returns : goal.returns
returns c =
    let given = c.args.state.now.labels in
    let same : 0 + c.args.label ≡ c.args.label = omega arith in
    c.contains.ensures.value ∙ ap (λ ls. list_any (λ k. k == c.args.label) ls) c.list.ensures
    ∙ sym (holds_at_numbers (λ l. list_any (λ k. k == l) given) 0 c.args._labels c.args.label c.requires ∙ ap (λ l. list_any (λ k. k == l) given) same)
