use Rattle.std.proofs.Common.{◌<◌, length, ap, subst, arith}
use Rattle.std.specs.Prelude.{All}
use Rattle.std.proofs.lemmas.List.{take_all}
use Rattle.std.proofs.lemmas.List.Elements.{All-more}
use Rattle.gsn.specs.declared.case.CRel.{CRel}
use Rattle.gsn.specs.declared.case.RelKind.TheVariants as kind
use Rattle.text_tests.proofs.open_cases.ends_in_range.Goals as goal

pub relations-preserved : goal.relations-preserved
relations-preserved c =
    let d : CRel = record { from = 0; to = 0; kind = kind.SupportedBy } in
    let n = c.list-nodes.ensures in
    All-more (λ r. (r.from < length c.args.case.now.nodes) × (r.to < length c.args.case.now.nodes)) c.list-relation-items.result.now c.relations.relation-index d c.relations-test.true c.relations.invariant
    (let a = c.if-relation-nodes.false in let b = c.if-relation-nodes-2.false in let e = ap length n in (omega (arith, a, e), omega (arith, b, e)))

pub returns : goal.returns
returns c = λ _. subst (All (λ r. (r.from < length c.args.case.now.nodes) × (r.to < length c.args.case.now.nodes))) c.list-relation-items.ensures
    (subst (All (λ r. (r.from < length c.args.case.now.nodes) × (r.to < length c.args.case.now.nodes))) (take_all c.relations.relation-index c.list-relation-items.result.now c.relations-test.false) c.relations.invariant)
