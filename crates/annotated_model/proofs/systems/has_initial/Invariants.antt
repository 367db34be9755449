use Rattle.std.proofs.Common.{◌≡◌, drop, codes}
use Rattle.std.specs.List.{list_any}
use Rattle.meaning.specs.Documents.{truth_at}
use Rattle.doc_tree.specs.View.{documents}
use Rattle.annotated_model.proofs.systems.has_initial.Given as goal

abbrev pub invariant-states : goal.invariant-states
invariant-states l = list_any (truth_at (codes "initial")) (documents (drop l.state-index l.states)) ≡ list_any (truth_at (codes "initial")) (documents l.states)
