use Rattle.std.proofs.Common.{ap}
use Rattle.meaning.specs.BundlePlaces.{broken_at}
use Rattle.meaning.specs.TemplateRules.{hole_fault_of_node}
use Rattle.doc_tree.specs.View.{document}
use Rattle.templates.specs.Faults.{IsFirst, faults_here}
use Rattle.templates.specs.Readers.{sees, rest_broken, texts_broken}
use Rattle.templates.proofs.Firsts.{at_error}
use Rattle.templates.proofs.ReaderSteps.{here_in_front, here_behind, none_of_both}
use Rattle.templates.proofs.reader.Reader.read_texts.Goals as goal

pub returns-in_err-text-clause-fault : goal.returns-in_err-text-clause-fault
returns-in_err-text-clause-fault c =
    let r = c.args.self.now in
    let scope = c.args.scope.now in
    let d = document c.args.node.now in
    let place = c.args.place in
    let stop = c.in_err-text.field-0.0 in
    at_error c.from_residual.result stop (IsFirst (faults_here place (texts_broken r scope d)))
    (here_in_front place (broken_at 27 (hole_fault_of_node (sees r scope) (0, d))) (rest_broken r scope d) stop c.in_err-text.ensures.fault)
    c.from_residual.ensures.1

pub returns-in_err-require_rest-clause-fault : goal.returns-in_err-require_rest-clause-fault
returns-in_err-require_rest-clause-fault c =
    let r = c.args.self.now in
    let scope = c.args.scope.now in
    let d = document c.args.node.now in
    let place = c.args.place in
    let stop = c.in_err-require_rest.field-0.0 in
    at_error c.from_residual-in_err-require_rest.result stop (IsFirst (faults_here place (texts_broken r scope d)))
    (here_behind place (broken_at 27 (hole_fault_of_node (sees r scope) (0, d))) (rest_broken r scope d) stop (ap (broken_at 27) c.in_ok-text.ensures.none)
    c.in_err-require_rest.ensures.fault) c.from_residual-in_err-require_rest.ensures.1

pub returns-clause-none : goal.returns-clause-none
returns-clause-none c =
    let r = c.args.self.now in
    let scope = c.args.scope.now in
    let d = document c.args.node.now in
    none_of_both (broken_at 27 (hole_fault_of_node (sees r scope) (0, d))) (rest_broken r scope d) (ap (broken_at 27) c.in_ok-text.ensures.none) c.in_ok-require_rest.ensures.none
