use Rattle.std.proofs.Common.{◌<◌, length, ap, ◌∙◌, arith}
use Rattle.std.proofs.lemmas.List.Elements.{All-get_or}
use Rattle.gsn.specs.declared.case.CRel.{CRel}
use Rattle.gsn.specs.declared.case.RelKind.TheVariants as kind
use Rattle.gsn.proofs.Places.{counted, skipped}
use Rattle.gsn.proofs.needs.all_supports.Goals as goal
use Rattle.gsn.proofs.needs.all_supports.Goals.{then-is_needed, else-is_needed}

pub relations-preserved : goal.relations-preserved
relations-preserved c =
    let d : CRel = record { from = 0; to = 0; kind = kind.SupportedBy } in
    let rs = c.args.relations.now in
    let k = c.relations.relation-index in
    let was = c.relations.invariant in
    let inside : c.relations.relation-index < length c.args.relations.now = c.relations-test.true in
    elim c.if-is_needed.branch [
      | then-is_needed w ↦
          let source = (All-get_or (λ r. (r.from < length c.args.arguing.now) × (r.to < length c.args.arguing.now)) rs k d inside c.requires.ends).0 in
          let now = counted rs c.args.arguing.now c.args.refuted.now k d inside c.relations.needed.items was.needed c.if-is_needed.needed.items w.index_mut.result.now was.few
          (ap (λ v. v.items) w.needed-is) w.index_mut.ensures.value (omega (arith, source, was.sized)) w.if-is_needed.ensures in
          record { sized = now.0 ∙ was.sized; few = now.1; needed = now.2 }
      | else-is_needed w ↦
          let now = skipped rs c.args.arguing.now c.args.refuted.now k d inside c.relations.needed.items was.needed c.if-is_needed.needed.items was.few
          (ap (λ v. v.items) w.needed-is) w.if-is_needed.ensures in
          record { sized = now.0 ∙ was.sized; few = now.1; needed = now.2 }
    ]
