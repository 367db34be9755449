use Rattle.std.proofs.Common.{[], ◌∷◌, ap, sym}
use Rattle.std.specs.Prelude.{codes}
use Rattle.serde_json.specs.Data.{string}
use Rattle.meaning.specs.CaseBytes.{finding_members}
use Rattle.lifted_case.specs.CaseView.{check_of}
use Rattle.lifted_case.specs.CaseWritten.{id_in, finding_with}
use Rattle.lifted_case.proofs.CaseMembers.{AddsMembers-then, AddsMembers-as}
use Rattle.lifted_case.proofs.case_findings.put_finding.Goals as goal

pub returns-in_ok-put_system-in-Never : goal.returns-in_ok-put_system-in-Never
returns-in_ok-put_system-in-Never c =
    let found = finding_with (id_in c.args.ids.now) c.args.finding.now in
    AddsMembers-as (sym (ap (λ k. finding_members found (check_of k)) c.in-Never.is))
    (AddsMembers-then (AddsMembers-then c.in_ok-put_text-in-Never.ensures (AddsMembers-as (ap (λ s. (codes "expr", string s) ∷ []) c.text.ensures) c.in_ok-put_text-in-Never-2.ensures)) c.in_ok-put_system-in-Never.ensures)

pub returns-in_ok-put_system-in-NoDeadlock : goal.returns-in_ok-put_system-in-NoDeadlock
returns-in_ok-put_system-in-NoDeadlock c =
    let found = finding_with (id_in c.args.ids.now) c.args.finding.now in
    AddsMembers-as (sym (ap (λ k. finding_members found (check_of k)) c.in-NoDeadlock.is))
    (AddsMembers-then c.in_ok-put_text-in-NoDeadlock.ensures c.in_ok-put_system-in-NoDeadlock.ensures)

pub returns-in_ok-put_query-in-SomeAnswer : goal.returns-in_ok-put_query-in-SomeAnswer
returns-in_ok-put_query-in-SomeAnswer c =
    let found = finding_with (id_in c.args.ids.now) c.args.finding.now in
    AddsMembers-as (sym (ap (λ k. finding_members found (check_of k)) c.in-SomeAnswer.is))
    (AddsMembers-then c.in_ok-put_text-in-SomeAnswer.ensures c.in_ok-put_query-in-SomeAnswer.ensures)
