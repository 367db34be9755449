use Rattle.std.proofs.Common.{◌∙◌, sym, ap, map}
use Rattle.std.specs.Prelude.{option_map}
use Rattle.gsn.specs.View.{relation_of}
use Rattle.case_derive.proofs.Loops.{relation_put, relation_left}
use Rattle.case_derive.proofs.relations.relations.Goals as goal
use Rattle.case_derive.proofs.relations.relations.Goals.{in-Some+in_ok-push, in_default}

pub relations-preserved : goal.relations-preserved
relations-preserved g c =
    let h = g.T.Truth.holds c.args.truth.now in
    let marks = c.args.places.now.marks.items in
    elim c.match-relation.branch [
      | in-Some+in_ok-push w ↦
          relation_put h marks c.args.relations.now c.relations.one-index c.one-item.result c.relations.there.items c.match-relation.there.items w.in-Some.found c.relations-test.true c.one-item.is
          (ap (option_map relation_of) (sym w.in-Some.is) ∙ c.relation.ensures) c.relations.invariant (ap (λ v. v.items) w.there-is ∙ w.in_ok-push.ensures.items)
      | in_default w ↦
          ap (λ v. map relation_of v.items) w.there-is
          ∙ relation_left h marks c.args.relations.now c.relations.one-index c.one-item.result c.relations.there.items c.relations-test.true c.one-item.is
          w.in_default.ensures c.relations.invariant
    ]
