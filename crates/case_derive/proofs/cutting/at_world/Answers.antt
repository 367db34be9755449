use Rattle.std.proofs.Common.{◌∙◌, ap, map}
use Rattle.gsn.specs.View.{node_of, relation_of}
use Rattle.case_derive.specs.AtWorld.{marks_of, nodes_at, relations_at}
use Rattle.case_derive.proofs.Ends.{case_is, ends_in}
use Rattle.case_derive.proofs.cutting.at_world.Goals as goal

cut : goal.returns-clause-cut
cut g c =
    let h = g.T.Truth.holds c.args.truth.now in
    case_is h c.args.case.now c.in_ok-places.places.marks.items (record { nodes = c.of-2.result; relations = c.of-3.result })
    (c.in_ok-places.ensures ∙ c.in_ok-marks.ensures ∙ ap (marks_of h) c.list.ensures)
    (ap (map node_of) c.of-2.ensures ∙ c.in_ok-nodes.ensures ∙ ap (nodes_at h) c.list-2.ensures)
    (ap (map relation_of) c.of-3.ensures ∙ c.in_ok-relations.ensures ∙ ap (relations_at h c.in_ok-places.places.marks.items) c.list-3.ensures)

pub returns-clause-cut : goal.returns-clause-cut
returns-clause-cut g c = cut g c

pub returns-clause-ends : goal.returns-clause-ends
returns-clause-ends g c =
    ends_in (g.T.Truth.holds c.args.truth.now) c.args.case.now (record { nodes = c.of-2.result; relations = c.of-3.result }) (cut g c)
