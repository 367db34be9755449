use Rattle.std.proofs.Common.{◌≤◌, length, ◌∙◌, sym, ap, subst, arith}
use Rattle.std.specs.List.{prefix_len}
use Rattle.std.proofs.lemmas.List.Sums.{prefix_len-le-length}
use Rattle.templates.specs.TextReading.{is_plain}
use Rattle.templates.proofs.PlainRuns.{run_ends}
use Rattle.templates.proofs.TextSteps.{plain_words, before_brace}
use Rattle.templates.proofs.texts.word_step.Goals as goal

pub range-requires-clause-end_boundary : goal.range-requires-clause-end_boundary
range-requires-clause-end_boundary c =
    let s = c.args.text.now in
    let n = c.plain_len-end.result in
    let count = c.plain_len-end.ensures ∙ ap (prefix_len is_plain) c.as_bytes.ensures.value in
    let within : n ≤ length s = subst (λ k. k ≤ length s) (sym count) (prefix_len-le-length is_plain s) in
    (within, λ below high. before_brace s n (run_ends s n count below) below high)

pub range_from-requires : goal.range_from-requires
range_from-requires c = λ _.
    let s = c.args.text.now in
    let n = c.plain_len-end.result in
    let count = c.plain_len-end.ensures ∙ ap (prefix_len is_plain) c.as_bytes.ensures.value in
    let within : n ≤ length s = subst (λ k. k ≤ length s) (sym count) (prefix_len-le-length is_plain s) in
    (within, λ below high. before_brace s n (run_ends s n count below) below high)

pub returns : goal.returns
returns c =
    let s = c.args.text.now in
    let n = c.plain_len-end.result in
    let count = c.plain_len-end.ensures ∙ ap (prefix_len is_plain) c.as_bytes.ensures.value in
    plain_words s c.range.result.now c.range_from.result.now n c.requires.inside c.requires.plain count c.range.ensures.value c.range_from.ensures.value
