use Rattle.std.proofs.Common.{subst}
use Rattle.meaning.specs.BundlePlaces.{requires}
use Rattle.meaning.specs.TemplateRules.{check_is_right, use_is_right}
use Rattle.doc_tree.specs.View.{document}
use Rattle.templates.specs.Faults.{IsFirst, faults_here}
use Rattle.templates.specs.Readers.{sees, rest_broken}
use Rattle.templates.proofs.Firsts.{at_error}
use Rattle.templates.proofs.ReaderSteps.{here_in_front}
use Rattle.templates.proofs.reader.Reader.require_rest.Goals as goal

pub returns-in_err-require-clause-fault : goal.returns-in_err-require-clause-fault
returns-in_err-require-clause-fault c =
    let r = c.args.self.now in
    let scope = c.args.scope.now in
    let d = document c.args.node.now in
    let place = c.args.place in
    let stop = c.in_err-require.field-0.0 in
    at_error c.from_residual.result stop (IsFirst (faults_here place (rest_broken r scope d)))
    (here_in_front place (requires 28 (check_is_right (sees r scope) (0, d))) (requires 29 (use_is_right (sees r scope) (0, d))) stop
    (subst (λ b. IsFirst (faults_here place (requires 28 b)) stop) c.check_is_right.ensures c.in_err-require.ensures.fault)) c.from_residual.ensures.1
