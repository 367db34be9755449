use Rattle.std.proofs.Common.{subst}
use Rattle.meaning.specs.Expressions.{IsSame}
use Rattle.cond_text.specs.View.{expression}
use Rattle.cond_text.specs.Phrases.{ReadsFrom}
use Rattle.cond_text.proofs.PhraseLaws.{can_begin, text_phrase, phrase_is_read}
use Rattle.cond_text.proofs.NameBounds.{phrase_bound}
use Rattle.cond_text.proofs.parser.parse.Goals as goal

pub parse_same-requires : goal.parse_same-requires
parse_same-requires c =
    let can = can_begin c.args.names.now c.in_ok-tokens.tokens.items c.in_ok-tokens.ensures.runs in
    rw (c.deref.ensures.value) (record { inside = can.0; goes = can.1 })

pub returns-clause-phrase : goal.returns-clause-phrase
returns-clause-phrase c =
    text_phrase c.args.names.now c.args.text.now c.in_ok-tokens.tokens.items c.in_ok-e.field-0-1 (expression c.in_ok-e.e) c.in_ok-tokens.ensures.tokens c.in_ok-tokens.ensures.runs
    (subst (λ ts. ReadsFrom IsSame 1 ts 0 c.in_ok-e.field-0-1 (expression c.in_ok-e.e)) c.deref.ensures.value c.in_ok-e.ensures.phrase)

pub returns-clause-read : goal.returns-clause-read
returns-clause-read c = phrase_is_read c.args.names.now c.args.text.now (expression c.in_ok-e.e)
    (text_phrase c.args.names.now c.args.text.now c.in_ok-tokens.tokens.items c.in_ok-e.field-0-1 (expression c.in_ok-e.e) c.in_ok-tokens.ensures.tokens c.in_ok-tokens.ensures.runs
    (subst (λ ts. ReadsFrom IsSame 1 ts 0 c.in_ok-e.field-0-1 (expression c.in_ok-e.e)) c.deref.ensures.value c.in_ok-e.ensures.phrase))

pub returns-clause-names : goal.returns-clause-names
returns-clause-names c =
    phrase_bound c.args.names.now c.args.text.now (expression c.in_ok-e.e)
    (text_phrase c.args.names.now c.args.text.now c.in_ok-tokens.tokens.items c.in_ok-e.field-0-1 (expression c.in_ok-e.e) c.in_ok-tokens.ensures.tokens c.in_ok-tokens.ensures.runs
    (subst (λ ts. ReadsFrom IsSame 1 ts 0 c.in_ok-e.field-0-1 (expression c.in_ok-e.e)) c.deref.ensures.value c.in_ok-e.ensures.phrase))
