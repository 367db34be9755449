use Rattle.std.proofs.Common.{[], ◌∷◌, ap, map}
use Rattle.std.specs.Prelude.{codes}
use Rattle.serde_json.specs.Data.{string}
use Rattle.meaning.specs.CaseBytes.{list_data, node_data, relation_data, system_data, row_data}
use Rattle.doc_tree.specs.View.{document}
use Rattle.conditions.specs.Tables.{case_rows}
use Rattle.lifted_case.specs.CaseWritten.{id_in, node_with, relation_with, system_with}
use Rattle.lifted_case.proofs.Writing.{IsWritten-as}
use Rattle.lifted_case.proofs.CaseMembers.{AddsMembers-then, AddsMembers-as, IsWritten-natural}
use Rattle.lifted_case.proofs.case_bytes.put_members.Goals as goal

pub returns : goal.returns
returns c =
    let id = id_in c.args.ids.now in
    let nodes = IsWritten-as (document c.in_ok-nodes.nodes) (list_data node_data (map (node_with id) c.list.result.now)) _ (ap (λ ns. list_data node_data (map (node_with id) ns)) c.list.ensures) c.in_ok-nodes.ensures in
    let relations = IsWritten-as (document c.in_ok-relations.relations) (list_data relation_data (map (relation_with id) c.list-2.result.now)) _ (ap (λ rs. list_data relation_data (map (relation_with id) rs)) c.list-2.ensures) c.in_ok-relations.ensures in
    let systems = IsWritten-as (document c.in_ok-systems.systems) (list_data system_data (map (system_with id) c.list-3.result.now)) _ (ap (λ ss. list_data system_data (map (system_with id) ss)) c.list-3.ensures) c.in_ok-systems.ensures in
    let rows = IsWritten-as (document c.in_ok-rows.rows) (list_data row_data (case_rows c.rows.result.now)) _ (ap (λ rs. list_data row_data (case_rows rs)) c.rows.ensures.rows) c.in_ok-rows.ensures in
    let one = c.in_ok-put.ensures _ c.number.ensures in
    let two = AddsMembers-then one (c.in_ok-put-2.ensures _ c.in_ok-features.ensures) in
    let three = AddsMembers-then two (c.in_ok-put-3.ensures _ nodes) in
    let four = AddsMembers-then three (c.in_ok-put-4.ensures _ relations) in
    let five = AddsMembers-then four (c.in_ok-put-5.ensures _ systems) in
    let six = AddsMembers-then five (c.in_ok-put-6.ensures _ rows) in
    let seven = AddsMembers-then six (AddsMembers-as (ap (λ s. (codes "title", string s) ∷ []) c.text.ensures) c.in_ok-put_text.ensures) in
    AddsMembers-then seven (c.in_ok-put-7.ensures _ (IsWritten-natural c.id.ensures c.number-2.ensures))
