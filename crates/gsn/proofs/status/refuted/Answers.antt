use Rattle.std.proofs.Common.{false, map, ap, subst, ◌∙◌}
use Rattle.std.proofs.lemmas.Result.{IfOk-weaker}
use Rattle.meaning.specs.Cases as plain
use Rattle.gsn.specs.View.{kind_of, node_of}
use Rattle.gsn.specs.Marks.{IsLeastClosed}
use Rattle.gsn.proofs.LeastSets.{marked_is_refuted, starts_in, length_one_support}
use Rattle.gsn.proofs.status.refuted.Goals as goal

pub least_marks-requires-clause-start : goal.least_marks-requires-clause-start
least_marks-requires-clause-start c =
    starts_in c.args.case.now.nodes (plain.is_judged false) c.deref-2.result.now c.in_ok-start.start.items c.in_ok-needed.needed.len
    (c.deref-2.ensures.value ∙ (c.in_ok-judged.ensures ∙ ap (λ xs. map (λ n. plain.is_judged false (node_of n)) xs) c.list-nodes.ensures))
    (c.in_ok-needed.needed.ok.0 ∙ length_one_support c.args.case.now.nodes c.deref.result.now c.in_ok-needed.needed.items
    (c.deref.ensures.value ∙ (c.in_ok-arguing.ensures ∙ ap (λ xs. map (λ n. plain.argues (kind_of n.kind)) xs) c.list-nodes.ensures)) c.in_ok-needed.ensures)
    c.in_ok-start.ensures

pub returns : goal.returns
returns c =
    IfOk-weaker c.least_marks.result _ _
    (λ v least. marked_is_refuted c.args.case.now.nodes c.args.case.now.relations c.deref.result.now
    (c.deref.ensures.value ∙ (c.in_ok-arguing.ensures ∙ ap (λ xs. map (λ n. plain.argues (kind_of n.kind)) xs) c.list-nodes.ensures))
    c.in_ok-needed.needed.items c.in_ok-start.start.items c.deref-2.result.now v.items c.in_ok-needed.ensures
    (c.deref-2.ensures.value ∙ (c.in_ok-judged.ensures ∙ ap (λ xs. map (λ n. plain.is_judged false (node_of n)) xs) c.list-nodes.ensures))
    c.in_ok-start.ensures (subst (λ rs. IsLeastClosed rs c.in_ok-needed.needed.items c.in_ok-start.start.items v.items) c.list.ensures least)) c.least_marks.ensures
