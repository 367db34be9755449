-- For private clauses: the parts that a model is joined from.
use Rattle.std.specs.Prelude.{◌≡◌, ℕ, List, [], map, Some, slice_get, true}
use Rattle.meaning.specs.Texts.{place_of}
use Rattle.meaning.specs.Models as meaning
use Rattle.meaning.specs.BundlePlaces.{is_among}
use Rattle.annotated_model.specs.declared.known.Known.{Known}
use Rattle.annotated_model.specs.declared.data.Link.{Link}
use Rattle.annotated_model.specs.declared.data.System.{System}
use Rattle.annotated_model.specs.View.{type_view, kind_view, element_view, link_view, system_view}
use Rattle.annotated_model.specs.ModelFacts.{KeepsRules}
use Rattle.annotated_model.specs.ModelTexts.{ModelHasTexts}

-- the model of the parts
abbrev pub joined_view : Known → List Link → List System → meaning.Model
joined_view known links systems = record {
  types = map type_view known.types;
  kinds = map kind_view known.kinds;
  labels = known.labels;
  elements = map element_view known.elements;
  links = map link_view links;
  systems = map system_view systems;
}

-- a model without anything
abbrev pub nothing : meaning.Model
nothing = record { types = []; kinds = []; labels = []; elements = []; links = []; systems = [] }

-- the names of elements are theirs, they and the attributes are texts, each system belongs to the element with the name at its place, and no name stands twice
pub record CanJoin (known : Known) (links : List Link) (systems : List System) (owners : List (List ℕ)) : Type 0 where
  pub rules : KeepsRules (joined_view known links systems)
  pub texts : ModelHasTexts (joined_view known links systems)
  pub named : known.element_names ≡ map (λ e. e.name) known.elements
  pub owned : map (λ s. s.element) systems ≡ map (meaning.number_in known.element_names) owners
  pub names_differ : (n : ℕ) (s : List ℕ) → slice_get known.element_names n ≡ Some s → place_of s known.element_names ≡ Some n
  pub owners_differ : (n : ℕ) (s : List ℕ) → slice_get owners n ≡ Some s → place_of s owners ≡ Some n
  pub owners_known : (n : ℕ) (s : List ℕ) → slice_get owners n ≡ Some s → is_among known.element_names s ≡ true
