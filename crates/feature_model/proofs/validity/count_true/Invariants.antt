use Rattle.std.proofs.Common.{◌≡◌, ◌≤◌, take}
use Rattle.std.specs.Prelude.{count_by}
use Rattle.meaning.specs.Texts.{holds_at}
use Rattle.feature_model.proofs.validity.count_true.Given as goal

abbrev pub invariant-children : goal.invariant-children
invariant-children l = (l.count ≡ count_by (holds_at l.world) (take l.child-index l.children)) × (l.count ≤ l.child-index)
