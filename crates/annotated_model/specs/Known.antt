-- What the later parts know of types, link kinds, labels and elements that were read without a fault.
use Rattle.std.specs.Prelude.{◌≡◌, ℕ, ◌<◌, ◌≤◌, List, [], length, map, codes, Option, Some}
use Rattle.std.specs.List.{All}
use Rattle.meaning.specs.Documents.{Document, list_at}
use Rattle.meaning.specs.Models as meaning
use Rattle.meaning.specs.ModelRules.{context_of, types_in, type_at}
use Rattle.annotated_model.specs.declared.known.Known.{Known}
use Rattle.annotated_model.specs.View.{type_view, kind_view, element_view}
use Rattle.annotated_model.specs.Parts.{type_names_in, names_at, labels_in, kinds_in, elements_in}

-- the parent of a type is an earlier one
abbrev pub ParentsAreEarlier : List meaning.TypeDef → Type 0
ParentsAreEarlier types = (t p : ℕ) → meaning.parent_of types t ≡ Some p → p < t

-- the types that the member of each item names
abbrev pub types_at : List ℕ → List ℕ → Document → List (Option ℕ)
types_at items member model = map (type_at (context_of [] model) member) (list_at items model)

-- values and names are those of the model table
pub record Knows (known : Known) (features : List (List ℕ)) (model : Document) : Type 0 where
  pub types : map type_view known.types ≡ types_in model
  pub type_names : known.type_names ≡ type_names_in model
  pub parents : ParentsAreEarlier (types_in model)
  pub kinds : map kind_view known.kinds ≡ kinds_in model
  pub kind_names : known.kind_names ≡ names_at (codes "kinds") model
  -- the end types of each kind are known
  pub sources : types_at (codes "kinds") (codes "from") model ≡ map (λ k. Some k.from) known.kinds
  pub targets : types_at (codes "kinds") (codes "to") model ≡ map (λ k. Some k.to) known.kinds
  pub labels : known.labels ≡ labels_in model
  pub elements : map element_view known.elements ≡ elements_in features model
  pub element_names : known.element_names ≡ names_at (codes "elements") model
  -- the type of each element is known
  pub element_types : types_at (codes "elements") (codes "type") model ≡ map (λ e. Some e.of_type) known.elements
  -- the numbers of types are in range, and the lists within their limits
  pub source_range : All (λ k. k.from < length known.types) known.kinds
  pub target_range : All (λ k. k.to < length known.types) known.kinds
  pub type_range : All (λ e. e.of_type < length known.types) known.elements
  pub few_types : length known.types ≤ 256
  pub few_kinds : length known.kinds ≤ 256
  pub few_labels : length known.labels ≤ 256
  pub few_elements : length known.elements ≤ 2048
