use Rattle.std.proofs.Common.{[], ◌∷◌, ap, map}
use Rattle.std.specs.Prelude.{codes}
use Rattle.serde_json.specs.Data.{string}
use Rattle.meaning.specs.CaseBytes.{natural_data, transition_data, list_data}
use Rattle.doc_tree.specs.View.{document}
use Rattle.lifted_case.specs.CaseWritten.{id_in}
use Rattle.lifted_case.proofs.Writing.{IsWritten-as}
use Rattle.lifted_case.proofs.CaseMembers.{AddsMembers-then, AddsMembers-as}
use Rattle.lifted_case.proofs.case_systems.put_system.Goals as goal

pub returns : goal.returns
returns c =
    let id = id_in c.args.ids.now in
    let parents = IsWritten-as (document c.in_ok-parents.parents) (list_data natural_data (map id c.list.result.now)) _ (ap (λ cs. list_data natural_data (map id cs)) c.list.ensures) c.in_ok-parents.ensures in
    let reached = IsWritten-as (document c.in_ok-reached.reached) (list_data natural_data (map id c.list-2.result.now)) _ (ap (λ cs. list_data natural_data (map id cs)) c.list-2.ensures) c.in_ok-reached.ensures in
    let states = IsWritten-as (document c.in_ok-states.states) (list_data string c.list-3.result.now) _ (ap (λ ns. list_data string ns) c.list-3.ensures) c.in_ok-states.ensures in
    let transitions = IsWritten-as (document c.in_ok-transitions.transitions) (list_data transition_data c.list-4.result.now) _ (ap (λ ts. list_data transition_data ts) c.list-4.ensures) c.in_ok-transitions.ensures in
    let one = AddsMembers-as (ap (λ s. (codes "element", string s) ∷ []) c.text.ensures) c.in_ok-put_text.ensures in
    let two = AddsMembers-then one (c.in_ok-put.ensures _ parents) in
    let three = AddsMembers-then two (c.in_ok-put-2.ensures _ reached) in
    let four = AddsMembers-then three (c.in_ok-put-3.ensures _ states) in
    AddsMembers-then four (c.in_ok-put-4.ensures _ transitions)
