use Rattle.std.proofs.Common.{arith}
use Rattle.std.specs.List.{enumerate_from}
use Rattle.doc_tree.specs.View.{documents}
use Rattle.meaning.specs.BundlePlaces.{Links, faults_at}
use Rattle.annotated_model.specs.Faults.{IsFirst}
use Rattle.annotated_model.specs.Links.{link_rules, link_faults_from}
use Rattle.annotated_model.proofs.ItemFaults.{at_error, first_at_item}
use Rattle.annotated_model.proofs.links.read_items.Goals as goal

pub returns-in_err-read_link-clause-fault : goal.returns-in_err-read_link-clause-fault
returns-in_err-read_link-clause-fault c =
    let features = c.args.features.now in
    let known = c.args.known.now in
    let stop = c.in_err-read_link.field-0.0 in
    at_error c.from_residual.result stop (IsFirst (link_faults_from features known (enumerate_from 0 (documents c.args.items.now))))
    (first_at_item (λ l. faults_at Links l.0 0 (link_rules features known l)) c.args.items.now c.items.no c.index-items-no.result stop (omega arith) c.index-items-no.is c.items.invariant.none
    c.in_err-read_link.ensures.fault) c.from_residual.ensures.1
