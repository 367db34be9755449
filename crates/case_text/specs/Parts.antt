-- The parts of a case's text, over identifiers and targets that have been gathered.
use Rattle.std.specs.Prelude.{ℕ, List, [], ◌∷◌, ◌++◌, map, length, filter, Bool, true, false, ◌&&◌, ◌==◌, if◌then◌else◌, codes, slice_index_or}
use Rattle.std.specs.List.{range_with_len}
use Rattle.meaning.specs.Texts.{spaced}
use Rattle.meaning.specs.Cases as plain
use Rattle.gsn.specs.declared.case.CRel.{CRel}
use Rattle.gsn.specs.View.{relation_kind_of}

-- the identifier of each node, in the order of the nodes
abbrev pub numbered_identifiers : plain.Case → List (List ℕ)
numbered_identifiers c = map (plain.identifier c) (range_with_len 0 (length c.nodes))

-- ---- targets

abbrev pub same_relation : plain.RelationKind → plain.RelationKind → Bool
same_relation plain.SupportedBy k = plain.is_support k
same_relation plain.InContextOf plain.SupportedBy = false
same_relation plain.InContextOf plain.InContextOf = true

abbrev pub goes_from : plain.RelationKind → ℕ → CRel → Bool
goes_from kind x r = (r.from == x) && same_relation kind (relation_kind_of r.kind)

-- the targets of a node's relations of a kind
abbrev pub targets_of : plain.RelationKind → ℕ → List CRel → List ℕ
targets_of kind x rs = map (λ r. r.to) (filter (goes_from kind x) rs)

-- ---- lines

abbrev pub name_at : List (List ℕ) → ℕ → List ℕ
name_at names t = slice_index_or names t []

abbrev pub ends_line : List (List ℕ) → List ℕ → List ℕ → List ℕ
ends_line names words [] = []
ends_line names words (t ∷ ts) = words ++ spaced (map (name_at names) (t ∷ ts)) ++ plain.newline

abbrev pub first_line : List ℕ → plain.NodeKind → plain.Status → Bool → List ℕ
first_line name kind status undeveloped =
    name ++ codes " " ++ plain.kind_word kind ++ (if plain.has_status kind then codes " " ++ plain.status_word status else [])
    ++ (if undeveloped then codes " undeveloped" else []) ++ plain.newline

abbrev pub node_text : List (List ℕ) → ℕ → plain.Node → plain.Status → List ℕ → List ℕ → List ℕ
node_text names i x status contexts supports =
    first_line (name_at names i) x.kind status x.undeveloped
    ++ codes "  " ++ x.words ++ plain.newline
    ++ ends_line names (codes "  in context of") contexts
    ++ ends_line names (codes "  supported by") supports

abbrev pub true_names_text : List (List ℕ) → List Bool → List ℕ
true_names_text features world = spaced (plain.true_names features world)
