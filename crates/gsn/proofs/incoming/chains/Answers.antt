use Rattle.std.proofs.Common.{◌≡◌, ◌<◌, ℕ, ◌+◌, [], ◌∷◌, ◌++◌, set, slice_index, slice_index_or, sym, ap, ◌∙◌, subst, arith}
use Rattle.std.proofs.lemmas.List.{get_or_read}
use Rattle.std.proofs.Math.ListN.{get_or-map}
use Rattle.std.proofs.lemmas.List.Elements.{All-get_or}
use Rattle.gsn.specs.declared.case.CRel.{CRel}
use Rattle.gsn.specs.declared.case.RelKind.TheVariants as kind
use Rattle.gsn.specs.Incoming.{IsIncoming, targets}
use Rattle.gsn.proofs.Chains.{no_relations, one_relation}
use Rattle.gsn.proofs.incoming.chains.Goals as goal

pub relations-init : goal.relations-init
relations-init c =
    subst (λ before. IsIncoming c.args.nodes (targets c.args.relations.now) 0 c.in_ok-last.last.items before) (sym c.new-before.ensures.items)
    (subst (λ last. IsIncoming c.args.nodes (targets c.args.relations.now) 0 last []) (sym c.in_ok-last.ensures) (no_relations c.args.nodes (targets c.args.relations.now)))

pub relations-preserved : goal.relations-preserved
relations-preserved c =
    let rs = c.args.relations.now in
    let d : CRel = record { from = 0; to = 0; kind = kind.SupportedBy } in
    let t : ℕ = (slice_index_or rs c.relations.k d).to in
    let there = (All-get_or (λ r. (r.from < c.args.nodes) × (r.to < c.args.nodes)) rs c.relations.k d (omega arith) c.requires).1 in
    let read : c.index.result.now ≡ slice_index c.relations.last.items t =
    get_or_read c.relations.last.items t c.index.result.now (omega (arith, there, c.relations.invariant.nodes_all)) c.index.ensures 0 in
    subst (λ before. IsIncoming c.args.nodes (targets rs) (c.relations.k + 1) (set c.relations.last.items t (c.relations.k + 1)) before)
    (ap (λ (x : ℕ). c.relations.before.items ++ x ∷ []) (sym read) ∙ sym c.in_ok-push.ensures.items)
    (one_relation c.args.nodes (targets rs) c.relations.k c.relations.last.items c.relations.before.items c.relations.invariant t
    (sym (get_or-map (λ (r : CRel). r.to) rs c.relations.k d)) there)
