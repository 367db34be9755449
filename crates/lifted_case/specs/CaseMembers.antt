-- The members of a case's tables, in parts.
use Rattle.std.specs.Prelude.{ℕ, List, [], ◌∷◌, ◌++◌, codes, Bool, true, if◌then◌else◌}
use Rattle.serde_json.specs.Data.{Data, boolean, string}
use Rattle.meaning.specs.Cases.{kind_word}
use Rattle.meaning.specs.CaseFiles.{Finding, CaseNode, CaseRelation, CaseSystem, CaseDocument}
use Rattle.meaning.specs.CaseBytes.{natural_data, list_data, target_data, witness_data, part_data, branch_members, finding_member, node_data, relation_word, relation_data, transition_data, system_data, row_data}

-- of the finding of a check of a system, after those that name the check
abbrev pub system_members : Finding → ℕ → List (List ℕ × Data)
system_members f system = (codes "refuted", natural_data f.refuted) ∷ (codes "system", natural_data system) ∷ (codes "targets", list_data target_data f.targets) ∷ []

-- of the finding of a query, after those that name the check
abbrev pub query_members : Finding → List (List ℕ × Data)
query_members f = (codes "refuted", natural_data f.refuted) ∷ (codes "witnesses", list_data witness_data f.witnesses) ∷ []

-- of a node that is undeveloped
abbrev pub undeveloped_members : Bool → List (List ℕ × Data)
undeveloped_members b = if b then (codes "undeveloped", boolean true) ∷ [] else []

-- of a node
abbrev pub members_of_node : CaseNode → List (List ℕ × Data)
members_of_node n = branch_members n.branches ++ finding_member n.finding
    ++ ((codes "key", string n.key) ∷ (codes "kind", string (kind_word n.kind)) ∷ (codes "text", list_data part_data n.parts) ∷ [])
    ++ undeveloped_members n.undeveloped ++ (codes "when", natural_data n.presence) ∷ []

-- of a relation
abbrev pub members_of_relation : CaseRelation → List (List ℕ × Data)
members_of_relation r = (codes "from", natural_data r.source) ∷ (codes "kind", string (relation_word r.kind))
    ∷ (codes "to", natural_data r.target) ∷ (codes "when", natural_data r.presence) ∷ []

-- of a system of a case
abbrev pub members_of_system : CaseSystem → List (List ℕ × Data)
members_of_system s = (codes "element", string s.element) ∷ (codes "parents", list_data natural_data s.parents)
    ∷ (codes "reached", list_data natural_data s.reached) ∷ (codes "states", list_data string s.states)
    ∷ (codes "transitions", list_data transition_data s.transitions) ∷ []

-- of a case
abbrev pub members_of_case : CaseDocument → List (List ℕ × Data)
members_of_case k = (codes "case", natural_data 1) ∷ (codes "features", list_data string k.features)
    ∷ (codes "nodes", list_data node_data k.nodes) ∷ (codes "relations", list_data relation_data k.relations)
    ∷ (codes "systems", list_data system_data k.systems) ∷ (codes "table", list_data row_data k.table)
    ∷ (codes "title", string k.title) ∷ (codes "valid", natural_data k.valid) ∷ []
