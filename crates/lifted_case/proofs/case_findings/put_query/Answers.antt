use Rattle.std.proofs.Common.{ap, map}
use Rattle.meaning.specs.CaseBytes.{witness_data, list_data}
use Rattle.doc_tree.specs.View.{document}
use Rattle.lifted_case.specs.CaseWritten.{id_in, witness_with}
use Rattle.lifted_case.proofs.Writing.{IsWritten-as}
use Rattle.lifted_case.proofs.CaseMembers.{AddsMembers-then, IsWritten-natural}
use Rattle.lifted_case.proofs.case_findings.put_query.Goals as goal

pub returns : goal.returns
returns c =
    let with_id = witness_with (id_in c.args.ids.now) in
    let witnesses = IsWritten-as (document c.in_ok-witnesses.witnesses) (list_data witness_data (map with_id c.list.result.now)) _ (ap (λ xs. list_data witness_data (map with_id xs)) c.list.ensures) c.in_ok-witnesses.ensures in
    let one = c.in_ok-put.ensures _ (IsWritten-natural c.id.ensures c.number.ensures) in
    AddsMembers-then one (c.in_ok-put-2.ensures _ witnesses)
