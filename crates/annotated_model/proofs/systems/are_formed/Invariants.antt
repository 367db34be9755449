use Rattle.std.proofs.Common.{◌≡◌, [], drop}
use Rattle.doc_tree.specs.View.{documents}
use Rattle.annotated_model.specs.SystemRules.{are_formed}
use Rattle.annotated_model.proofs.systems.are_formed.Given as goal

abbrev pub invariant-states : goal.invariant-states
invariant-states l = are_formed l.counted l.names l.no (documents (drop l.no l.states)) ≡ are_formed l.counted [] 0 (documents l.states)
