use Rattle.std.proofs.Common.{◌≡◌, ℕ, true, map, length, sym, ap, subst, ◌∙◌}
use Rattle.std.specs.Prelude.{◌&&◌, not, slice_index, if◌then◌else◌}
use Rattle.std.proofs.lemmas.Result.{IfOk-weaker}
use Rattle.meaning.specs.Cases as plain
use Rattle.gsn.specs.View.{kind_of, node_of}
use Rattle.gsn.specs.Marks.{IsLeastClosed, is_in, total}
use Rattle.gsn.proofs.LeastSets.{marked_is_supported, starts_in, length_arguing, length_refuted}
use Rattle.gsn.proofs.status.supported.Goals as goal

pub all_supports-requires-clause-marks : goal.all_supports-requires-clause-marks
all_supports-requires-clause-marks c =
    ap length c.requires.refuted ∙ (length_refuted c.args.case.now.nodes c.args.case.now.relations ∙ sym (length_arguing c.args.case.now.nodes c.deref.result.now
    (c.deref.ensures.value ∙ (c.in_ok-arguing.ensures ∙ ap (λ xs. map (λ n. plain.argues (kind_of n.kind)) xs) c.list-nodes.ensures))))

pub least_marks-requires-clause-start : goal.least_marks-requires-clause-start
least_marks-requires-clause-start c =
    starts_in c.args.case.now.nodes (plain.is_judged true) c.deref-2.result.now c.in_ok-start.start.items c.in_ok-needed.needed.len
    (c.deref-2.ensures.value ∙ (c.in_ok-judged.ensures ∙ ap (λ xs. map (λ n. plain.is_judged true (node_of n)) xs) c.list-nodes.ensures))
    (c.in_ok-needed.needed.ok.0 ∙ (c.in_ok-needed.ensures.sized ∙ length_arguing c.args.case.now.nodes c.deref.result.now
    (c.deref.ensures.value ∙ (c.in_ok-arguing.ensures ∙ ap (λ xs. map (λ n. plain.argues (kind_of n.kind)) xs) c.list-nodes.ensures))))
    c.in_ok-start.ensures

pub returns : goal.returns
returns c =
    IfOk-weaker c.least_marks.result _ _
    (λ v least. marked_is_supported c.args.case.now.nodes c.args.case.now.relations c.deref.result.now
    (c.deref.ensures.value ∙ (c.in_ok-arguing.ensures ∙ ap (λ xs. map (λ n. plain.argues (kind_of n.kind)) xs) c.list-nodes.ensures))
    c.args.refuted.now c.in_ok-needed.needed.items c.in_ok-start.start.items c.deref-2.result.now v.items c.in_ok-needed.ensures.sized
    (subst (λ rs. (x : ℕ) → slice_index c.in_ok-needed.needed.items x ≡ (if is_in c.deref.result.now x && not (is_in c.args.refuted.now x) then total rs x else 0)) c.list-relations.ensures c.in_ok-needed.ensures.needed)
    (c.deref-2.ensures.value ∙ (c.in_ok-judged.ensures ∙ ap (λ xs. map (λ n. plain.is_judged true (node_of n)) xs) c.list-nodes.ensures))
    c.requires.refuted
    c.in_ok-start.ensures (subst (λ rs. IsLeastClosed rs c.in_ok-needed.needed.items c.in_ok-start.start.items v.items) c.list-relations.ensures least)) c.least_marks.ensures
