use Rattle.std.proofs.Common.{◌≡◌, [], sym, ap, ◌∙◌, subst, Some}
use Rattle.std.specs.Prelude.{codes}
use Rattle.meaning.specs.Documents.{text_at}
use Rattle.meaning.specs.BundlePlaces.{broken_at}
use Rattle.meaning.specs.HoleFaults.{text_hole_fault}
use Rattle.meaning.specs.TemplateRules.{hole_fault_of_node}
use Rattle.doc_tree.specs.View.{document}
use Rattle.templates.specs.Faults.{IsFirst, faults_here}
use Rattle.templates.specs.NodeRules.{seeing}
use Rattle.templates.proofs.MemberLaws.{hole_fault_is}
use Rattle.templates.proofs.members.read_words.Goals as goal

pub returns-in-Err-Fault-clause-fault : goal.returns-in-Err-Fault-clause-fault
returns-in-Err-Fault-clause-fault c =
    let m = c.args.model.now in
    let scope = c.args.scope.now in
    let d = document c.args.node.now in
    let told : text_hole_fault m scope c.has_answers.result c.text_at-text.result.now ≡ Some c.in-Err-Fault.at = rw c.in-Err-Fault.field-0-is at c.in-Err-Fault.ensures.fault in
    let same : hole_fault_of_node (seeing m [] scope) (0, d) ≡ Some c.in-Err-Fault.at =
    sym (hole_fault_is m [] scope d)
    ∙ (ap (λ b. text_hole_fault m scope b (text_at (codes "text") d)) (sym c.has_answers.ensures)
    ∙ (ap (text_hole_fault m scope c.has_answers.result) (sym c.text_at-text.ensures) ∙ told)) in
    subst (λ o. IsFirst (faults_here c.args.place (broken_at 27 o)) c.broken_at.result) (sym same) c.broken_at.ensures
