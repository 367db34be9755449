use Rattle.std.proofs.Common.{◌∙◌, sym, ap, slice_index, arith}
use Rattle.cond_text.proofs.LexemeLaws.{other_stray}
use Rattle.cond_text.proofs.lexeme.lexeme_at.Goals as goal

pub returns-else-is_letter : goal.returns-else-is_letter
returns-else-is_letter c =
    other_stray c.args.text.now c.args.at (slice_index c.as_bytes-bytes.result.now c.args.at) c.requires (ap (λ s. slice_index s c.args.at) (sym c.as_bytes-bytes.ensures.value))
    (λ e. omega arith) (λ e. omega arith) (λ e. omega arith) (λ e. omega arith) (λ e. omega arith) (λ e. omega arith) (λ e. omega arith) (λ e. omega arith)
    (sym c.is_letter.ensures ∙ c.if-is_letter.false)
