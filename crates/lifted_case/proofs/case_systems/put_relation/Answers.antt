use Rattle.std.proofs.Common.{[], ◌∷◌, ap}
use Rattle.std.specs.Prelude.{codes}
use Rattle.serde_json.specs.Data.{string}
use Rattle.lifted_case.proofs.CaseMembers.{AddsMembers-then, AddsMembers-as, IsWritten-natural}
use Rattle.lifted_case.proofs.case_systems.put_relation.Goals as goal

pub returns : goal.returns
returns c =
    let one = c.in_ok-put.ensures _ c.number.ensures in
    let two = AddsMembers-then one (AddsMembers-as (ap (λ s. (codes "kind", string s) ∷ []) c.word.ensures) c.in_ok-put_text.ensures) in
    let three = AddsMembers-then two (c.in_ok-put-2.ensures _ c.number-2.ensures) in
    AddsMembers-then three (c.in_ok-put-3.ensures _ (IsWritten-natural c.id.ensures c.number-3.ensures))
