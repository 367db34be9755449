-- The rules at a link, over what is known of link kinds and elements.
use Rattle.std.specs.Prelude.{ℕ, List, Bool, true, ◌&&◌, ◌++◌, map, codes, slice_get, Option, Some, is_some, option_map, option_and_then}
use Rattle.meaning.specs.Texts.{place_of, flat}
use Rattle.meaning.specs.Documents.{Document, text_at}
use Rattle.meaning.specs.Models as meaning
use Rattle.meaning.specs.BundlePlaces.{BundleFault, Links, Broken, requires, where_formed, faults_at}
use Rattle.meaning.specs.LineRules.{expression_rules}
use Rattle.meaning.specs.ModelRules.{link_form}
use Rattle.annotated_model.specs.declared.known.Known.{Known}
use Rattle.annotated_model.specs.View.{type_view}

-- the kind and both ends are known
abbrev pub knows_ends : Known → Document → Bool
knows_ends known d =
    is_some (place_of (text_at (codes "kind") d) known.kind_names)
    && is_some (place_of (text_at (codes "from") d) known.element_names)
    && is_some (place_of (text_at (codes "to") d) known.element_names)

-- the first type is the second or below it, if both are there
abbrev pub is_a_if_there : List meaning.TypeDef → Option ℕ → Option ℕ → Bool
is_a_if_there types (Some t) (Some u) = meaning.is_a types t u
is_a_if_there types _ _ = true

-- the type of the element of a number, and the types of the ends of the kind of a number
abbrev pub type_no : Known → ℕ → Option ℕ
type_no known e = option_map (λ x. x.of_type) (slice_get known.elements e)

abbrev pub source_type : Known → ℕ → Option ℕ
source_type known k = option_map (λ x. x.from) (slice_get known.kinds k)

abbrev pub target_type : Known → ℕ → Option ℕ
target_type known k = option_map (λ x. x.to) (slice_get known.kinds k)

-- the element fits an end of a link
abbrev pub fits_end : Known → Option ℕ → Option ℕ → Bool
fits_end known e end = is_a_if_there (map type_view known.types) (option_and_then (type_no known) e) end

-- both ends fit, of elements and a kind of these numbers
abbrev pub fit_kind : Known → Option ℕ → Option ℕ → Option ℕ → Bool
fit_kind known kind from to =
    fits_end known from (option_and_then (source_type known) kind) && fits_end known to (option_and_then (target_type known) kind)

abbrev pub ends_fit : Known → Document → Bool
ends_fit known d =
    fit_kind known (place_of (text_at (codes "kind") d) known.kind_names) (place_of (text_at (codes "from") d) known.element_names)
    (place_of (text_at (codes "to") d) known.element_names)

-- what is tested after the rules of form
abbrev pub end_rules : Known → Document → List Broken
end_rules known d = requires 17 (knows_ends known d) ++ requires 18 (ends_fit known d)

-- all rules at a link
abbrev pub link_rules : List (List ℕ) → Known → ℕ × Document → List Broken
link_rules features known l = where_formed (link_form l) (expression_rules features (codes "when") l.1 ++ end_rules known l.1)

-- the faults of links from a number on
abbrev pub link_faults_from : List (List ℕ) → Known → List (ℕ × Document) → List BundleFault
link_faults_from features known ls = flat (λ l. faults_at Links l.0 0 (link_rules features known l)) ls
