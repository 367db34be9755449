use Rattle.std.proofs.Common.{◌≡◌, ◌<◌, ◌++◌, ◌∷◌, [], false, map, length, sym, ap, subst, ◌∙◌, arith}
use Rattle.std.specs.List.{range_with_len}
use Rattle.std.proofs.lemmas.List.{get_or_read, map-append}
use Rattle.std.proofs.lemmas.List.FromFn.{map-range_with_len_more}
use Rattle.meaning.specs.Cases as plain
use Rattle.meaning.specs.Texts.{holds_at}
use Rattle.gsn.specs.View.{case_of, status_view}
use Rattle.gsn.specs.LeastStatuses.{AreLeastStatuses}
use Rattle.gsn.proofs.LeastStatuses.{statuses_least}
use Rattle.gsn.proofs.LeastSets.{holds_is, length_refuted, length_supported, statuses_by_number}
use Rattle.gsn.proofs.status.statuses.Goals as goal

pub index-requires-in-nodes : goal.index-requires-in-nodes
index-requires-in-nodes c =
    let a = ap length c.in_ok-refuted.ensures ∙ length_refuted c.args.case.now.nodes c.args.case.now.relations in
    let b = ap length c.in_ok-supported.ensures ∙ length_supported c.args.case.now.nodes c.args.case.now.relations in
    omega (arith, a, b, c.in_ok-refuted.refuted.ok.0, c.in_ok-supported.supported.ok.0, c.nodes-test.true, c.len-k-end.ensures)

pub nodes-preserved : goal.nodes-preserved
nodes-preserved c =
    let r = c.in_ok-refuted.refuted.items in
    let s = c.in_ok-supported.supported.items in
    let k = c.nodes.k in
    let a = ap length c.in_ok-refuted.ensures ∙ length_refuted c.args.case.now.nodes c.args.case.now.relations in
    let b = ap length c.in_ok-supported.ensures ∙ length_supported c.args.case.now.nodes c.args.case.now.relations in
    let in_r : c.nodes.k < length c.in_ok-refuted.refuted.items = omega (arith, c.in_ok-refuted.refuted.ok.0, c.nodes-test.true, c.len-k-end.ensures) in
    let in_s : c.nodes.k < length c.in_ok-supported.supported.items = omega (arith, a, b, in_r) in
    let read_r : c.index.result.now ≡ holds_at c.in_ok-refuted.refuted.items c.nodes.k = get_or_read r k c.index.result.now in_r c.index.ensures false ∙ sym (holds_is r k) in
    let read_s : c.index-in-nodes.result.now ≡ holds_at c.in_ok-supported.supported.items c.nodes.k =
    get_or_read s k c.index-in-nodes.result.now in_s c.index-in-nodes.ensures false ∙ sym (holds_is s k) in
    ap (map status_view) c.in_ok-push.ensures.items
    ∙ (map-append status_view c.nodes.all.items (c.status.result ∷ [])
    ∙ (ap (λ xs. xs ++ status_view c.status.result ∷ []) c.nodes.invariant
    ∙ (ap (λ y. map (λ i. plain.status_of (holds_at c.in_ok-refuted.refuted.items i) (holds_at c.in_ok-supported.supported.items i)) (range_with_len 0 c.nodes.k) ++ y ∷ [])
    (c.status.ensures ∙ (ap (λ x. plain.status_of x c.index-in-nodes.result.now) read_r ∙ ap (plain.status_of (holds_at c.in_ok-refuted.refuted.items c.nodes.k)) read_s))
    ∙ sym (map-range_with_len_more (λ i. plain.status_of (holds_at c.in_ok-refuted.refuted.items i) (holds_at c.in_ok-supported.supported.items i)) 0 c.nodes.k c.nodes.k (omega arith)))))

pub returns-clause-statuses : goal.returns-clause-statuses
returns-clause-statuses c =
    let n = c.len-k-end.ensures in
    ap (map status_view) c.of.ensures ∙ (c.nodes.invariant
    ∙ (ap (λ k. map (λ i. plain.status_of (holds_at c.in_ok-refuted.refuted.items i) (holds_at c.in_ok-supported.supported.items i)) (range_with_len 0 k))
    (omega (arith, n, c.nodes-test.false, c.nodes.auto.k-end, c.in_ok-refuted.refuted.ok.0))
    ∙ statuses_by_number c.args.case.now.nodes c.args.case.now.relations c.in_ok-refuted.refuted.items c.in_ok-supported.supported.items c.in_ok-refuted.ensures c.in_ok-supported.ensures))

pub returns-clause-least : goal.returns-clause-least
returns-clause-least c =
    subst (AreLeastStatuses (case_of c.args.case.now)) (sym (returns-clause-statuses c)) (statuses_least (case_of c.args.case.now))
