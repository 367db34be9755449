use Rattle.std.proofs.Common.{ap}
use Rattle.meaning.specs.BundlePlaces.{Nodes, broken_at, faults_at}
use Rattle.doc_tree.specs.View.{document}
use Rattle.templates.specs.Faults.{IsFirst}
use Rattle.templates.specs.Readers.{scoped_broken}
use Rattle.templates.proofs.Firsts.{at_error}
use Rattle.templates.proofs.ReaderSteps.{members_stop, queries_stop, texts_stop, none_is}
use Rattle.templates.proofs.reader.Reader.read_scoped.Goals as goal

pub returns-in_err-each-clause-fault : goal.returns-in_err-each-clause-fault
returns-in_err-each-clause-fault c =
    let r = c.args.self.now in
    let scope = c.args.scope.now in
    let i = c.args.number in
    let d = document c.args.node.now in
    let stop = c.in_err-each.field-0.0 in
    at_error c.from_residual.result stop (IsFirst (faults_at Nodes r.number i (scoped_broken r scope i d)))
    (members_stop r scope i d c.inside-place.result c.inside-place.ensures stop c.in_err-each.ensures.fault) c.from_residual.ensures.1

pub returns-in_err-queries-clause-fault : goal.returns-in_err-queries-clause-fault
returns-in_err-queries-clause-fault c =
    let r = c.args.self.now in
    let scope = c.args.scope.now in
    let i = c.args.number in
    let d = document c.args.node.now in
    let stop = c.in_err-queries.field-0.0 in
    at_error c.from_residual-in_err-queries.result stop (IsFirst (faults_at Nodes r.number i (scoped_broken r scope i d)))
    (queries_stop r scope i d c.inside-place.result c.inside-place.ensures stop c.in_ok-each.ensures.none c.in_err-queries.ensures.fault)
    c.from_residual-in_err-queries.ensures.1

pub returns-in_err-texts-clause-fault : goal.returns-in_err-texts-clause-fault
returns-in_err-texts-clause-fault c =
    let r = c.args.self.now in
    let scope = c.args.scope.now in
    let i = c.args.number in
    let d = document c.args.node.now in
    let stop = c.in_err-texts.field-0.0 in
    at_error c.from_residual-in_err-texts.result stop (IsFirst (faults_at Nodes r.number i (scoped_broken r scope i d)))
    (texts_stop r scope i d c.inside-place.result c.inside-place.ensures stop c.in_ok-each.ensures.none (ap (broken_at 26) c.in_ok-queries.ensures.none)
    c.in_err-texts.ensures.fault) c.from_residual-in_err-texts.ensures.1

pub returns-clause-none : goal.returns-clause-none
returns-clause-none c =
    none_is c.args.self.now c.args.scope.now c.args.number (document c.args.node.now) c.in_ok-each.ensures.none (ap (broken_at 26) c.in_ok-queries.ensures.none)
    c.in_ok-texts.ensures.none
