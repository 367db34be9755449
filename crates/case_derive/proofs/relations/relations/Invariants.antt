use Rattle.std.proofs.Common.{◌≡◌, map, take}
use Rattle.gsn.specs.View.{relation_of}
use Rattle.case_derive.specs.AtWorld.{relations_at}
use Rattle.case_derive.proofs.relations.relations.Given as goal

abbrev pub invariant-relations : goal.invariant-relations
invariant-relations g l =
    map relation_of l.there.items ≡ relations_at (g.T.Truth.holds l.truth) l.places.marks.items (take l.one-index l.relations)
