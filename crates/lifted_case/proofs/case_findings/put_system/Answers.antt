use Rattle.std.proofs.Common.{ap, map}
use Rattle.meaning.specs.CaseBytes.{target_data, list_data}
use Rattle.doc_tree.specs.View.{document}
use Rattle.lifted_case.specs.CaseWritten.{id_in, target_with}
use Rattle.lifted_case.proofs.Writing.{IsWritten-as}
use Rattle.lifted_case.proofs.CaseMembers.{AddsMembers-then, IsWritten-natural}
use Rattle.lifted_case.proofs.case_findings.put_system.Goals as goal

pub returns : goal.returns
returns c =
    let with_id = target_with (id_in c.args.ids.now) in
    let targets = IsWritten-as (document c.in_ok-targets.targets) (list_data target_data (map with_id c.list.result.now)) _ (ap (λ ts. list_data target_data (map with_id ts)) c.list.ensures) c.in_ok-targets.ensures in
    let one = c.in_ok-put.ensures _ (IsWritten-natural c.id.ensures c.number.ensures) in
    let two = AddsMembers-then one (c.in_ok-put-2.ensures _ (IsWritten-natural c.from.ensures c.number-2.ensures)) in
    AddsMembers-then two (c.in_ok-put-3.ensures _ targets)
