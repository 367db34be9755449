use Rattle.std.proofs.Common.{◌≡◌, ◌*◌, length}
use Rattle.meaning.specs.Models.{projection}
use Rattle.annotated_model.specs.View.{system_view}
use Rattle.worlds.specs.Algebra.{Worked}
use Rattle.worlds.specs.Rows.{RowWhere}
use Rattle.featured_systems.specs.Rounds.{layer_of, HasReached}
use Rattle.featured_systems.proofs.exploring.rounds.Given as goal

abbrev pub invariant-rounds : goal.invariant-rounds
invariant-rounds g l =
    let algebra = g.W.Worlds.algebra in
    let there = λ (x : _). (algebra l.fn.w).holds l.fn.there x in
    record {
      worked : Worked (5 * (l.before * length l.system.transitions)) (algebra l.fn.w) (algebra l.w);
      has : HasReached (algebra l.w) there (system_view l.system) l.before l.found.reached.items l.found.parents.items l.found.layers.items;
      last : RowWhere (algebra l.w) l.last.items (λ x. layer_of (there x) (projection x (system_view l.system)) l.before);
      one_for_each : length l.last.items ≡ length l.system.states;
      states : length l.found.reached.items ≡ length l.system.states;
      transitions : length l.found.parents.items ≡ length l.system.transitions;
    }
