use Rattle.std.proofs.Common.{◌≡◌, drop}
use Rattle.std.specs.List.{list_any}
use Rattle.meaning.specs.Texts.{holds_at}
use Rattle.feature_model.proofs.validity.any_true.Given as goal

abbrev pub invariant-children : goal.invariant-children
invariant-children l = list_any (holds_at l.world) (drop l.child-index l.children) ≡ list_any (holds_at l.world) l.children
