use Rattle.std.proofs.Common.{◌++◌, ◌+◌, codes}
use Rattle.meaning.specs.BundlePlaces.{Transitions, faults_at}
use Rattle.meaning.specs.LineRules.{is_within, expression_rules}
use Rattle.doc_tree.specs.View.{document}
use Rattle.annotated_model.specs.Faults.{IsFirst}
use Rattle.annotated_model.specs.TransitionRules.{transition_form, ends_broken, transition_broken}
use Rattle.annotated_model.proofs.Firsts.{broken_form}
use Rattle.annotated_model.proofs.ItemFaults.{at_error}
use Rattle.annotated_model.proofs.transitions.read_transition.Goals as goal

pub returns-in_err-check_form-clause-fault : goal.returns-in_err-check_form-clause-fault
returns-in_err-check_form-clause-fault c =
    let features = c.args.features.now in
    let states = c.args.states.now in
    let d = document c.args.transition.now in
    let stop = c.in_err-check_form.field-0.0 in
    at_error c.from_residual.result stop (IsFirst (faults_at Transitions c.args.item c.args.no (transition_broken features c.args.counted states c.args.no d)))
    (broken_form Transitions c.args.item c.args.no (transition_form (is_within 16384 (c.args.counted + c.args.no)) d) (expression_rules features (codes "when") d ++ ends_broken states d) stop
    c.in_err-check_form.ensures.fault) c.from_residual.ensures.1
