use Rattle.std.proofs.Common.{◌∙◌, ◌+◌, sym, ap, slice_index, arith}
use Rattle.meaning.specs.Texts.{is_letter, is_word_byte}
use Rattle.path_queries.proofs.TextPieces.{run_there, word_stands, stray_stands, run_ends_at_boundary, count_of_rest}
use Rattle.path_queries.proofs.token_text.run_at.Goals as goal

pub overflow_add-end : goal.overflow_add-end
overflow_add-end c =
    let count = count_of_rest is_word_byte c.as_bytes-bytes.result.now c.args.text.now c.args.at c.run_len.result c.as_bytes-bytes.ensures.value c.run_len.ensures in
    let r = run_there c.args.text.now c.args.at c.run_len.result c.requires.inside c.requires.run count in
    let l = c.as_bytes-bytes.ensures.len in omega arith

pub range-requires-clause-end_boundary : goal.range-requires-clause-end_boundary
range-requires-clause-end_boundary c =
    let count = count_of_rest is_word_byte c.as_bytes-bytes.result.now c.args.text.now c.args.at c.run_len.result c.as_bytes-bytes.ensures.value c.run_len.ensures in (
      (run_there c.args.text.now c.args.at c.run_len.result c.requires.inside c.requires.run count).within,
      run_ends_at_boundary c.args.text.now c.args.at c.run_len.result c.utf8.text c.requires.inside c.requires.run count,
    )

pub returns-in_ok-word : goal.returns-in_ok-word
returns-in_ok-word c =
    let count = count_of_rest is_word_byte c.as_bytes-bytes.result.now c.args.text.now c.args.at c.run_len.result c.as_bytes-bytes.ensures.value c.run_len.ensures in
    let r = run_there c.args.text.now c.args.at c.run_len.result c.requires.inside c.requires.run count in
    rw (c.in_ok-word.ensures) (word_stands c.args.text.now c.args.at c.run_len.result c.range.result.now r c.range.ensures.value
    (ap (λ s. is_letter (slice_index s c.args.at)) (sym c.as_bytes-bytes.ensures.value) ∙ (sym c.is_letter.ensures ∙ c.if-is_letter.true)))

pub returns-else-is_letter : goal.returns-else-is_letter
returns-else-is_letter c =
    let count = count_of_rest is_word_byte c.as_bytes-bytes.result.now c.args.text.now c.args.at c.run_len.result c.as_bytes-bytes.ensures.value c.run_len.ensures in
    let r = run_there c.args.text.now c.args.at c.run_len.result c.requires.inside c.requires.run count in
    stray_stands c.args.text.now c.args.at c.run_len.result r
    (ap (λ s. is_letter (slice_index s c.args.at)) (sym c.as_bytes-bytes.ensures.value) ∙ (sym c.is_letter.ensures ∙ c.if-is_letter.false))
