use Rattle.std.proofs.Common.{◌+◌, not, subst, ap, ◌∙◌}
use Rattle.meaning.specs.BundlePlaces.{States, faults_at, is_among, name_in}
use Rattle.meaning.specs.LineRules.{is_within}
use Rattle.meaning.specs.ModelRules.{labels_of}
use Rattle.doc_tree.specs.View.{document}
use Rattle.annotated_model.specs.Faults.{IsFirst}
use Rattle.annotated_model.specs.StateRules.{state_form, texts_broken, state_broken}
use Rattle.annotated_model.proofs.Firsts.{broken_form}
use Rattle.annotated_model.proofs.ItemFaults.{at_error}
use Rattle.annotated_model.proofs.states.read_state.Goals as goal

pub returns-in_err-check_form-clause-fault : goal.returns-in_err-check_form-clause-fault
returns-in_err-check_form-clause-fault c =
    let labels = c.args.labels.now in
    let names = c.args.names.now in
    let d = document c.args.state.now in
    let stop = c.in_err-check_form.field-0.0 in
    at_error c.from_residual.result stop (IsFirst (faults_at States c.args.item c.args.no (state_broken labels c.args.counted names c.args.no d)))
    (broken_form States c.args.item c.args.no (state_form (not (is_among names (name_in d))) (is_within 4096 (c.args.counted + c.args.no)) d) (texts_broken labels (labels_of d)) stop
    (subst (λ b. IsFirst (faults_at States c.args.item c.args.no (state_form (not b) (is_within 4096 (c.args.counted + c.args.no)) d)) stop)
    (c.is_known-new.ensures ∙ ap (is_among names) c.text_at-name.ensures) c.in_err-check_form.ensures.fault)) c.from_residual.ensures.1
