use Rattle.std.proofs.Common.{◌≤◌, ◌<◌, length, ◌+◌, ◌-◌, ◌*◌}
use Rattle.meaning.specs.Expressions.{IsSame, IsOr, IsAnd}
use Rattle.cond_text.specs.View.{expression}
use Rattle.cond_text.specs.Phrases.{ReadsFrom}
use Rattle.cond_text.proofs.parser.+phrases.Given as goal

abbrev pub decreases-parse_same : goal.decreases-parse_same
decreases-parse_same l = 5 * (length l.tokens.now - l.at) + 4

abbrev pub decreases-parse_imp : goal.decreases-parse_imp
decreases-parse_imp l = 5 * (length l.tokens.now - l.at) + 3

abbrev pub decreases-parse_or : goal.decreases-parse_or
decreases-parse_or l = 5 * (length l.tokens.now - l.at) + 2

abbrev pub decreases-parse_and : goal.decreases-parse_and
decreases-parse_and l = 5 * (length l.tokens.now - l.at) + 1

abbrev pub decreases-parse_neg : goal.decreases-parse_neg
decreases-parse_neg l = 5 * (length l.tokens.now - l.at)

abbrev pub invariant-parse_same-sames : goal.invariant-parse_same-sames
invariant-parse_same-sames l = record {
  next : l.at < l.next;
  within : l.next ≤ length l.tokens;
  phrase : ReadsFrom IsSame 2 l.tokens l.at l.next (expression l.left);
}

abbrev pub decreases-parse_same-sames : goal.decreases-parse_same-sames
decreases-parse_same-sames l = length l.tokens - l.next

abbrev pub invariant-parse_or-ors : goal.invariant-parse_or-ors
invariant-parse_or-ors l = record {
  next : l.at < l.next;
  within : l.next ≤ length l.tokens;
  phrase : ReadsFrom IsOr 4 l.tokens l.at l.next (expression l.left);
}

abbrev pub decreases-parse_or-ors : goal.decreases-parse_or-ors
decreases-parse_or-ors l = length l.tokens - l.next

abbrev pub invariant-parse_and-ands : goal.invariant-parse_and-ands
invariant-parse_and-ands l = record {
  next : l.at < l.next;
  within : l.next ≤ length l.tokens;
  phrase : ReadsFrom IsAnd 5 l.tokens l.at l.next (expression l.left);
}

abbrev pub decreases-parse_and-ands : goal.decreases-parse_and-ands
decreases-parse_and-ands l = length l.tokens - l.next
