use Rattle.std.proofs.Common.{◌+◌, length, drop, ◌∙◌, refl, sym, ap, slice_index, arith}
use Rattle.cond_text.specs.Lexemes.{begins_with}
use Rattle.cond_text.proofs.LexemeLaws.{next_byte}
use Rattle.templates.proofs.TextSteps.{doubled_words, behind_brace, closes_at}
use Rattle.templates.proofs.texts.opened_step.Goals as goal

pub range_from-requires : goal.range_from-requires
range_from-requires c = λ _.
    let s = c.args.text.now in
    let next = ap (λ t. begins_with 123 (drop 1 t)) (sym c.as_bytes.ensures.value) ∙ (sym c.is_at.ensures ∙ c.if-is_at.true) in
    let at = next_byte s 1 123 next in
    (omega (arith, at.0), behind_brace s 1 123 c.utf8.text (closes_at s 1 123 at.0 at.1) (omega arith))

pub returns-then-is_at : goal.returns-then-is_at
returns-then-is_at c =
    let s = c.args.text.now in
    let next = ap (λ t. begins_with 123 (drop 1 t)) (sym c.as_bytes.ensures.value) ∙ (sym c.is_at.ensures ∙ c.if-is_at.true) in
    doubled_words s c.range.result.now c.range_from.result.now 123 c.requires.inside c.requires.opened next refl c.range.ensures.value c.range_from.ensures.value
