use Rattle.std.proofs.Common.{◌∙◌, ◌+◌, sym, arith}
use Rattle.cond_text.proofs.WordLaws.{count_of_rest, run_count, ends_at_boundary, word_there, true_stands, false_stands, name_stands, improper_stray, unknown_there}
use Rattle.cond_text.proofs.lexeme.word_at.Goals as goal

pub overflow_add-end : goal.overflow_add-end
overflow_add-end c =
    let r = run_count c.args.text.now c.args.at c.run_len.result c.requires.inside c.requires.letter (count_of_rest c.as_bytes.result.now c.args.text.now c.args.at c.run_len.result c.as_bytes.ensures.value c.run_len.ensures) in
    let l = c.as_bytes.ensures.len in omega arith

pub range-word-requires-clause-end_boundary : goal.range-word-requires-clause-end_boundary
range-word-requires-clause-end_boundary c =
    let count = count_of_rest c.as_bytes.result.now c.args.text.now c.args.at c.run_len.result c.as_bytes.ensures.value c.run_len.ensures in (
      (run_count c.args.text.now c.args.at c.run_len.result c.requires.inside c.requires.letter count).1,
      ends_at_boundary c.args.text.now c.args.at c.run_len.result c.utf8.text c.requires.inside c.requires.letter count,
    )

pub returns-then-eq : goal.returns-then-eq
returns-then-eq c =
    let count = count_of_rest c.as_bytes.result.now c.args.text.now c.args.at c.run_len.result c.as_bytes.ensures.value c.run_len.ensures in
    let there = word_there c.args.text.now c.args.at c.run_len.result c.range-word.result.now c.requires.inside c.requires.letter count c.range-word.ensures.value in
    true_stands c.args.names.now c.args.text.now c.args.at (c.args.at + c.run_len.result) c.range-word.result.now there (sym c.eq.ensures ∙ c.if-eq.true)

pub returns-then-eq-2 : goal.returns-then-eq-2
returns-then-eq-2 c =
    let count = count_of_rest c.as_bytes.result.now c.args.text.now c.args.at c.run_len.result c.as_bytes.ensures.value c.run_len.ensures in
    let there = word_there c.args.text.now c.args.at c.run_len.result c.range-word.result.now c.requires.inside c.requires.letter count c.range-word.ensures.value in
    false_stands c.args.names.now c.args.text.now c.args.at (c.args.at + c.run_len.result) c.range-word.result.now there (sym c.eq-2.ensures ∙ c.if-eq-2.true)

pub returns-then-not-is_name : goal.returns-then-not-is_name
returns-then-not-is_name c =
    let count = count_of_rest c.as_bytes.result.now c.args.text.now c.args.at c.run_len.result c.as_bytes.ensures.value c.run_len.ensures in
    let there = word_there c.args.text.now c.args.at c.run_len.result c.range-word.result.now c.requires.inside c.requires.letter count c.range-word.ensures.value in
    improper_stray c.args.text.now c.args.at (c.args.at + c.run_len.result) c.range-word.result.now there (sym c.eq.ensures ∙ c.if-eq.false) (sym c.eq-2.ensures ∙ c.if-eq-2.false)
    (sym c.is_name.ensures ∙ c.if-not-is_name.true)

pub returns-in-Some : goal.returns-in-Some
returns-in-Some c =
    let count = count_of_rest c.as_bytes.result.now c.args.text.now c.args.at c.run_len.result c.as_bytes.ensures.value c.run_len.ensures in
    let there = word_there c.args.text.now c.args.at c.run_len.result c.range-word.result.now c.requires.inside c.requires.letter count c.range-word.ensures.value in
    name_stands c.args.names.now c.args.text.now c.args.at (c.args.at + c.run_len.result) c.range-word.result.now c.in-Some.number there
    (sym c.is_name.ensures ∙ c.if-not-is_name.false) (sym c.find.ensures ∙ c.in-Some.is)

pub returns-in-None : goal.returns-in-None
returns-in-None c =
    let count = count_of_rest c.as_bytes.result.now c.args.text.now c.args.at c.run_len.result c.as_bytes.ensures.value c.run_len.ensures in
    let there = word_there c.args.text.now c.args.at c.run_len.result c.range-word.result.now c.requires.inside c.requires.letter count c.range-word.ensures.value in
    unknown_there c.args.names.now c.args.text.now c.args.at (c.args.at + c.run_len.result) c.range-word.result.now there (sym c.eq.ensures ∙ c.if-eq.false) (sym c.eq-2.ensures ∙ c.if-eq-2.false)
    (sym c.is_name.ensures ∙ c.if-not-is_name.false) (sym c.find.ensures ∙ c.in-None.is)
