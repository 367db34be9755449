use Rattle.std.proofs.Common.{◌≡◌, drop}
use Rattle.std.specs.Prelude.{find}
use Rattle.worlds.specs.Algebra.{has}
use Rattle.invariant_check.proofs.running.target_at.Given as goal

abbrev pub invariant-loop-target : goal.invariant-loop-target
invariant-loop-target g l =
    let a = g.W.Worlds.algebra l.w in
    find (λ t. has a t.1 l.world) l.targets ≡ find (λ t. has a t.1 l.world) (drop l.target-index l.targets)
