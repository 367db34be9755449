use Rattle.std.proofs.Common.{◌+◌, sym, ap, slice_index, arith}
use Rattle.path_queries.specs.Lexing.{is_no_quote}
use Rattle.path_queries.proofs.TextPieces.{behind_quote, closing_quote, quoted_stands, open_quote_stands, quoted_within, count_of_rest}
use Rattle.path_queries.proofs.token_text.quoted_at.Goals as goal

pub overflow_add-close-2 : goal.overflow_add-close-2
overflow_add-close-2 c =
    let count = count_of_rest is_no_quote c.as_bytes.result.now c.args.text.now (c.args.at + 1) c.quoted_len.result c.as_bytes.ensures.value c.quoted_len.ensures in
    let w = quoted_within c.args.text.now c.args.at c.quoted_len.result c.requires.inside count in
    let l = c.as_bytes.ensures.len in omega arith

pub range-requires-clause-start_boundary : goal.range-requires-clause-start_boundary
range-requires-clause-start_boundary c = λ _. (omega arith, behind_quote c.args.text.now c.args.at c.utf8.text c.requires.quote)

pub range-requires-clause-end_boundary : goal.range-requires-clause-end_boundary
range-requires-clause-end_boundary c =
    let count = count_of_rest is_no_quote c.as_bytes.result.now c.args.text.now (c.args.at + 1) c.quoted_len.result c.as_bytes.ensures.value c.quoted_len.ensures in (
      omega arith,
      λ below high.
          let close = closing_quote c.args.text.now (c.args.at + 1) c.quoted_len.result count below in absurd (omega arith),
    )

pub returns-in_ok-inner : goal.returns-in_ok-inner
returns-in_ok-inner c =
    let count = count_of_rest is_no_quote c.as_bytes.result.now c.args.text.now (c.args.at + 1) c.quoted_len.result c.as_bytes.ensures.value c.quoted_len.ensures in
    rw (c.in_ok-inner.ensures) (quoted_stands c.args.text.now c.args.at c.quoted_len.result c.range.result.now c.requires.inside c.requires.quote count (omega arith) c.range.ensures.value)

pub returns-else-close-text : goal.returns-else-close-text
returns-else-close-text c =
    let count = count_of_rest is_no_quote c.as_bytes.result.now c.args.text.now (c.args.at + 1) c.quoted_len.result c.as_bytes.ensures.value c.quoted_len.ensures in
    open_quote_stands c.args.text.now c.args.at c.quoted_len.result c.requires.inside c.requires.quote count (omega arith)
