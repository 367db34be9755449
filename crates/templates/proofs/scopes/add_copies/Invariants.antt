use Rattle.std.proofs.Common.{◌≡◌, ◌++◌, drop}
use Rattle.templates.proofs.scopes.add_copies.Given as goal

abbrev pub invariant-more : goal.invariant-more
invariant-more l = l.all.items ++ drop l.variable-index l.more ≡ l.initial.all.items ++ l.more
