use Rattle.std.proofs.Common.{◌∙◌, sym, arith}
use Rattle.meaning.specs.Expressions.{IsSame, IsOr, IsAnd}
use Rattle.cond_text.specs.declared.token.Token.TheVariants.{And, Or, Implies, Same}
use Rattle.cond_text.specs.View.{expression}
use Rattle.cond_text.proofs.PhraseLaws.{can_after_operator, and_begins, or_begins, same_begins, both_reads, either_reads, implies_reads, same_reads, imp_alone, true_reads, false_reads, name_reads, can_after_not, not_reads, can_after_open, group_inside, group_reads}
use Rattle.cond_text.proofs.parser.+phrases.Goals as goal

pub parse_and-ands-init : goal.parse_and-ands-init
parse_and-ands-init t c = record {
  next = c.in_ok-left.ensures.next;
  within = c.in_ok-left.ensures.within;
  phrase = and_begins c.args.tokens.now c.args.at c.in_ok-left.next (expression c.in_ok-left.left) c.in_ok-left.ensures.phrase;
}

pub parse_and-parse_neg-requires-in-And : goal.parse_and-parse_neg-requires-in-And
parse_and-parse_neg-requires-in-And t c =
    let can = can_after_operator IsAnd 5 c.args.tokens.now c.args.at c.ands.next (expression c.ands.left) And (omega arith) c.requires.goes c.ands.invariant.phrase
    (sym c.token_at.ensures ∙ c.in-And.is) in
    (omega arith, can)

pub parse_and-ands-preserved : goal.parse_and-ands-preserved
parse_and-ands-preserved t c = record {
  next = omega (arith, c.in_ok-right.ensures.next);
  within = c.in_ok-right.ensures.within;
  phrase = rw (c.in_ok-left-2.ensures)
      (both_reads c.args.tokens.now c.args.at c.ands.next c.in_ok-right.after (expression c.ands.left) (expression c.in_ok-right.right) c.ands.invariant.phrase
      (sym c.token_at.ensures ∙ c.in-And.is) c.in_ok-right.ensures.phrase);
}

pub parse_or-ors-init : goal.parse_or-ors-init
parse_or-ors-init t c = record {
  next = c.in_ok-left.ensures.next;
  within = c.in_ok-left.ensures.within;
  phrase = or_begins c.args.tokens.now c.args.at c.in_ok-left.next (expression c.in_ok-left.left) c.in_ok-left.ensures.phrase;
}

pub parse_or-parse_and-requires-in-Or : goal.parse_or-parse_and-requires-in-Or
parse_or-parse_and-requires-in-Or t c =
    let can = can_after_operator IsOr 4 c.args.tokens.now c.args.at c.ors.next (expression c.ors.left) Or (omega arith) c.requires.goes c.ors.invariant.phrase
    (sym c.token_at.ensures ∙ c.in-Or.is) in
    (omega arith, can)

pub parse_or-ors-preserved : goal.parse_or-ors-preserved
parse_or-ors-preserved t c = record {
  next = omega (arith, c.in_ok-right.ensures.next);
  within = c.in_ok-right.ensures.within;
  phrase = rw (c.in_ok-left-2.ensures)
      (either_reads c.args.tokens.now c.args.at c.ors.next c.in_ok-right.after (expression c.ors.left) (expression c.in_ok-right.right) c.ors.invariant.phrase
      (sym c.token_at.ensures ∙ c.in-Or.is) c.in_ok-right.ensures.phrase);
}

pub parse_same-sames-init : goal.parse_same-sames-init
parse_same-sames-init t c = record {
  next = c.in_ok-left.ensures.next;
  within = c.in_ok-left.ensures.within;
  phrase = same_begins c.args.tokens.now c.args.at c.in_ok-left.next (expression c.in_ok-left.left) c.in_ok-left.ensures.phrase;
}

pub parse_same-parse_imp-requires-in-Same : goal.parse_same-parse_imp-requires-in-Same
parse_same-parse_imp-requires-in-Same t c =
    let can = can_after_operator IsSame 2 c.args.tokens.now c.args.at c.sames.next (expression c.sames.left) Same (omega arith) c.requires.goes c.sames.invariant.phrase
    (sym c.token_at.ensures ∙ c.in-Same.is) in
    (omega arith, can)

pub parse_same-sames-preserved : goal.parse_same-sames-preserved
parse_same-sames-preserved t c = record {
  next = omega (arith, c.in_ok-right.ensures.next);
  within = c.in_ok-right.ensures.within;
  phrase = rw (c.in_ok-left-2.ensures)
      (same_reads c.args.tokens.now c.args.at c.sames.next c.in_ok-right.after (expression c.sames.left) (expression c.in_ok-right.right) c.sames.invariant.phrase
      (sym c.token_at.ensures ∙ c.in-Same.is) c.in_ok-right.ensures.phrase);
}

pub parse_imp-parse_imp-requires : goal.parse_imp-parse_imp-requires
parse_imp-parse_imp-requires t c =
    let can = can_after_operator IsOr 3 c.args.tokens.now c.args.at c.in_ok-left.next (expression c.in_ok-left.left) Implies (omega arith) c.requires.goes c.in_ok-left.ensures.phrase
    (sym c.token_at.ensures ∙ c.in-Implies.is) in
    (omega (arith, c.in_ok-left.ensures.next), can)

pub parse_imp-returns-in_ok-implies-in-Implies-clause-phrase : goal.parse_imp-returns-in_ok-implies-in-Implies-clause-phrase
parse_imp-returns-in_ok-implies-in-Implies-clause-phrase t c =
    rw (c.in_ok-implies-in-Implies.ensures)
    (implies_reads c.args.tokens.now c.args.at c.in_ok-left.next c.in_ok-consequence-in-Implies.after (expression c.in_ok-left.left) (expression c.in_ok-consequence-in-Implies.consequence)
    c.in_ok-left.ensures.phrase (sym c.token_at.ensures ∙ c.in-Implies.is) c.in_ok-consequence-in-Implies.ensures.phrase)

pub parse_imp-returns-in_default : goal.parse_imp-returns-in_default
parse_imp-returns-in_default t c = record {
  next = c.in_ok-left.ensures.next;
  within = c.in_ok-left.ensures.within;
  phrase = imp_alone c.args.tokens.now c.args.at c.in_ok-left.next (expression c.in_ok-left.left) c.in_ok-left.ensures.phrase (λ e. c.in_default.not-Implies (c.token_at.ensures ∙ e));
}

pub parse_neg-parse_neg-requires : goal.parse_neg-parse_neg-requires
parse_neg-parse_neg-requires t c =
    (omega arith, can_after_not c.args.tokens.now c.args.at c.requires.goes (sym c.token_at.ensures ∙ c.in-Not.is))

pub parse_neg-parse_same-requires : goal.parse_neg-parse_same-requires
parse_neg-parse_same-requires t c =
    (omega arith, can_after_open c.args.tokens.now c.args.at c.requires.goes (sym c.token_at.ensures ∙ c.in-Open.is))

pub parse_neg-returns-in-True-clause-phrase : goal.parse_neg-returns-in-True-clause-phrase
parse_neg-returns-in-True-clause-phrase t c = true_reads c.args.tokens.now c.args.at (sym c.token_at.ensures ∙ c.in-True.is)

pub parse_neg-returns-in-False-clause-phrase : goal.parse_neg-returns-in-False-clause-phrase
parse_neg-returns-in-False-clause-phrase t c = false_reads c.args.tokens.now c.args.at (sym c.token_at.ensures ∙ c.in-False.is)

pub parse_neg-returns-in-Name-clause-phrase : goal.parse_neg-returns-in-Name-clause-phrase
parse_neg-returns-in-Name-clause-phrase t c = name_reads c.args.tokens.now c.args.at c.in-Name.number (sym c.token_at.ensures ∙ c.in-Name.is)

pub parse_neg-returns-in_ok-new-in-Not-clause-phrase : goal.parse_neg-returns-in_ok-new-in-Not-clause-phrase
parse_neg-returns-in_ok-new-in-Not-clause-phrase t c =
    rw (c.in_ok-new-in-Not.ensures.ok)
    (not_reads c.args.tokens.now c.args.at c.in_ok-inner-in-Not.next (expression c.in_ok-inner-in-Not.inner) (sym c.token_at.ensures ∙ c.in-Not.is) c.in_ok-inner-in-Not.ensures.phrase)

pub parse_neg-returns-in_ok-inner-in-Open-clause-within : goal.parse_neg-returns-in_ok-inner-in-Open-clause-within
parse_neg-returns-in_ok-inner-in-Open-clause-within t c =
    group_inside c.args.tokens.now c.args.at c.in_ok-inner-in-Open.next (expression c.in_ok-inner-in-Open.inner) c.requires.goes (sym c.token_at.ensures ∙ c.in-Open.is)
    c.in_ok-inner-in-Open.ensures.phrase

pub parse_neg-returns-in_ok-inner-in-Open-clause-phrase : goal.parse_neg-returns-in_ok-inner-in-Open-clause-phrase
parse_neg-returns-in_ok-inner-in-Open-clause-phrase t c =
    group_reads c.args.tokens.now c.args.at c.in_ok-inner-in-Open.next (expression c.in_ok-inner-in-Open.inner) (sym c.token_at.ensures ∙ c.in-Open.is) c.in_ok-inner-in-Open.ensures.phrase
