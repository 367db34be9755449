use Rattle.std.proofs.Common.{length, ◌-◌}
use Rattle.path_queries.specs.Tokens.{placed}
use Rattle.path_queries.proofs.TextPieces.{Lexed}
use Rattle.path_queries.proofs.token_text.tokens_of.Given as goal

abbrev pub invariant-text : goal.invariant-text
invariant-text l = Lexed placed l.text l.at l.list.items

abbrev pub decreases-text : goal.decreases-text
decreases-text l = length l.text - l.at
