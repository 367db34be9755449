use Rattle.std.proofs.Common.{sym, ap, ◌∙◌, subst}
use Rattle.meaning.specs.BundlePlaces.{requires}
use Rattle.doc_tree.specs.View.{document}
use Rattle.templates.specs.Faults.{IsFirst, faults_here}
use Rattle.templates.specs.Readers.{members_broken}
use Rattle.templates.proofs.Firsts.{at_error}
use Rattle.templates.proofs.ReaderSteps.{members_are}
use Rattle.templates.proofs.reader.Reader.read_each.Goals as goal

pub returns-in_err-require-clause-fault : goal.returns-in_err-require-clause-fault
returns-in_err-require-clause-fault c =
    let r = c.args.self.now in
    let scope = c.args.scope.now in
    let i = c.args.number in
    let d = document c.args.node.now in
    let stop = c.in_err-require.field-0.0 in
    let fit_is = members_are r scope i d c.in_ok-each.each c.members_fit.result c.in_ok-each.ensures c.members_fit.ensures in
    at_error c.from_residual-in_err-require.result stop (IsFirst (faults_here c.args.place (members_broken r scope i d)))
    (subst (λ b. IsFirst (faults_here c.args.place (requires 25 b)) stop) fit_is c.in_err-require.ensures.fault) c.from_residual-in_err-require.ensures.1

pub returns-clause-none : goal.returns-clause-none
returns-clause-none c =
    let fit_is = members_are c.args.self.now c.args.scope.now c.args.number (document c.args.node.now) c.in_ok-each.each c.members_fit.result c.in_ok-each.ensures c.members_fit.ensures in
    ap (requires 25) (sym fit_is) ∙ c.in_ok-require.ensures.none
