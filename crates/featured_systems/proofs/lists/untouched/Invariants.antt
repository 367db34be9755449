use Rattle.std.proofs.Common.{◌≡◌, length}
use Rattle.featured_systems.proofs.lists.untouched.Given as goal

abbrev pub invariant-loop-state : goal.invariant-loop-state
invariant-loop-state l = length l.touched.items ≡ l._state
