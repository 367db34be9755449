use Rattle.std.proofs.Common.{[], ◌∷◌, ◌++◌, List, ℕ, ap, map, subst}
use Rattle.std.specs.Prelude.{codes, option_map}
use Rattle.serde_json.specs.Data.{Data, string}
use Rattle.meaning.specs.Cases.{kind_word}
use Rattle.meaning.specs.CaseBytes.{natural_data, part_data, list_data, branch_members, finding_member}
use Rattle.doc_tree.specs.View.{document}
use Rattle.gsn.specs.View.{kind_of}
use Rattle.lifted_case.specs.CaseView.{case_part_of}
use Rattle.lifted_case.specs.CaseWritten.{AddsMembers, id_in, finding_with}
use Rattle.lifted_case.proofs.Writing.{IsWritten-as}
use Rattle.lifted_case.proofs.CaseMembers.{AddsMembers-then, AddsMembers-as, IsWritten-natural, three_more}
use Rattle.lifted_case.proofs.case_nodes.put_members.Goals as goal

pub returns : goal.returns
returns c =
    let own = c.args.node.now in
    let id = id_in c.args.ids.now in
    let branches = branch_members (map id own.branches) in
    let finding = finding_member (option_map (finding_with id) own.finding) in
    let key : List ℕ × Data = (codes "key", string own.key) in
    let kind : List ℕ × Data = (codes "kind", string (kind_word (kind_of own.kind))) in
    let text : List ℕ × Data = (codes "text", list_data part_data (map case_part_of own.text)) in
    let when : List ℕ × Data = (codes "when", natural_data (id own.when)) in
    let none = c.args.entries.now.items in
    let first : AddsMembers none c.put_branches.new.entries.items branches =
    subst (λ bs. AddsMembers none c.put_branches.new.entries.items (branch_members (map id bs))) c.list.ensures c.in_ok-put_branches.ensures in
    let second : AddsMembers none c.put_finding.new.entries.items (branches ++ finding) = AddsMembers-then first c.in_ok-put_finding.ensures in
    let third = AddsMembers-then second (AddsMembers-as (ap (λ s. (codes "key", string s) ∷ []) c.text.ensures) c.in_ok-put_text.ensures) in
    let fourth = AddsMembers-then third (AddsMembers-as (ap (λ s. (codes "kind", string s) ∷ []) c.word.ensures) c.in_ok-put_text-2.ensures) in
    let fifth = AddsMembers-then fourth (c.in_ok-put.ensures text.1 (IsWritten-as (document c.in_ok-parts.parts) (list_data part_data (map case_part_of c.list-2.result.now)) text.1
    (ap (λ ps. list_data part_data (map case_part_of ps)) c.list-2.ensures) c.in_ok-parts.ensures)) in
    let sixth = AddsMembers-then (AddsMembers-as (three_more (branches ++ finding) key kind text) fifth) c.in_ok-put_undeveloped.ensures in
    AddsMembers-then sixth (c.in_ok-put-2.ensures when.1 (IsWritten-natural c.id.ensures c.number.ensures))
