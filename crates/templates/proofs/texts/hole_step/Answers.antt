use Rattle.std.proofs.Common.{◌≡◌, ◌+◌, ◌-◌, ◌≤◌, ◌<◌, length, drop, ◌∙◌, sym, ap, subst, length-drop, slice_index, arith}
use Rattle.std.specs.List.{prefix_len}
use Rattle.std.proofs.lemmas.List.Sums.{prefix_len-le-length}
use Rattle.cond_text.specs.Lexemes.{begins_with}
use Rattle.cond_text.proofs.LexemeLaws.{next_byte}
use Rattle.templates.specs.TextReading.{is_plain}
use Rattle.templates.proofs.TextSteps.{hole_is_closed, hole_is_open, behind_brace, count_of_rest, closes_at}
use Rattle.templates.proofs.texts.hole_step.Goals as goal

pub overflow_add-close : goal.overflow_add-close
overflow_add-close c =
    let s = c.args.text.now in
    let n = c.plain_len-close.result in
    let count = count_of_rest c.as_bytes-bytes.result.now s 1 n c.as_bytes-bytes.ensures.value c.plain_len-close.ensures in
    let within : n ≤ length (drop 1 s) = subst (λ k. k ≤ length (drop 1 s)) (sym count) (prefix_len-le-length is_plain (drop 1 s)) in
    let long : length (drop 1 s) ≡ length s - 1 = length-drop 1 s in
    let l = c.as_bytes-bytes.ensures.len in omega arith

pub range-requires-clause-start_boundary : goal.range-requires-clause-start_boundary
range-requires-clause-start_boundary c = λ _. (omega arith, behind_brace c.args.text.now 0 123 c.utf8.text c.requires.opened (omega arith))

pub range_from-requires : goal.range_from-requires
range_from-requires c = λ _.
    let s = c.args.text.now in
    let n = c.plain_len-close.result in
    let closed = ap (λ t. begins_with 125 (drop (1 + n) t)) (sym c.as_bytes-bytes.ensures.value) ∙ (sym c.is_at.ensures ∙ c.if-is_at.true) in
    let at = next_byte s (1 + n) 125 closed in
    (omega (arith, at.0), behind_brace s (1 + n) 125 c.utf8.text (closes_at s (1 + n) 125 at.0 at.1) (omega arith))

pub returns-then-is_at : goal.returns-then-is_at
returns-then-is_at c =
    let s = c.args.text.now in
    let n = c.plain_len-close.result in
    let count = count_of_rest c.as_bytes-bytes.result.now s 1 n c.as_bytes-bytes.ensures.value c.plain_len-close.ensures in
    let closed = ap (λ t. begins_with 125 (drop (1 + n) t)) (sym c.as_bytes-bytes.ensures.value) ∙ (sym c.is_at.ensures ∙ c.if-is_at.true) in
    hole_is_closed s n c.requires.inside c.requires.opened c.requires.single count c.range.result.now c.range_from.result.now closed c.range.ensures.value c.range_from.ensures.value

pub returns-else-is_at : goal.returns-else-is_at
returns-else-is_at c =
    let s = c.args.text.now in
    let n = c.plain_len-close.result in
    let count = count_of_rest c.as_bytes-bytes.result.now s 1 n c.as_bytes-bytes.ensures.value c.plain_len-close.ensures in
    let opened = ap (λ t. begins_with 125 (drop (1 + n) t)) (sym c.as_bytes-bytes.ensures.value) ∙ (sym c.is_at.ensures ∙ c.if-is_at.false) in
    hole_is_open s n c.requires.inside c.requires.opened c.requires.single count opened
