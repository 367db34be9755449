use Rattle.std.proofs.Common.{ap}
use Rattle.serde_json.specs.Data.{string}
use Rattle.meaning.specs.CaseBytes.{list_data}
use Rattle.doc_tree.specs.View.{document}
use Rattle.lifted_case.proofs.Writing.{IsWritten-as}
use Rattle.lifted_case.proofs.CaseMembers.{IsWritten-natural}
use Rattle.lifted_case.proofs.case_findings.witness.Goals as goal

pub returns : goal.returns
returns c =
    c.in_ok-doc.ensures _ _ (IsWritten-as (document c.in_ok-names.names) (list_data string c.list.result.now) _ (ap (λ ns. list_data string ns) c.list.ensures) c.in_ok-names.ensures)
    (IsWritten-natural c.id.ensures c.number.ensures)
