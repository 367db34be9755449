-- Where the elements and the links of a model are there, and how large their conditions are.
use Rattle.std.specs.Prelude.{◌≡◌, ℕ, ◌+◌, ◌<◌, List, map, length, Bool, true, false, ◌&&◌, ◌*◌, Option, Some, None, option_map, unwrap_or}
use Rattle.std.specs.List.{slice_get, All}
use Rattle.worlds.specs.Algebra.{Algebra}
use Rattle.worlds.specs.Rows.{RowWhere}
use Rattle.meaning.specs.Expressions.{truth, size_of}
use Rattle.meaning.specs.Models.{Model, Element, Link, has_element}
use Rattle.path_queries.specs.declared.presence.Edge.{Edge}

-- ---- of one element, and of one link

-- the nodes of the condition of an element
abbrev pub element_size : Model → ℕ → ℕ
element_size m e = unwrap_or (option_map (λ x. size_of x.presence) (slice_get m.elements e)) 0

-- the condition of the link holds, and both ends are there
abbrev pub is_kept : Model → List Bool → Link → Bool
is_kept m x l = truth l.presence x && has_element m.elements x l.source && has_element m.elements x l.target

-- a model keeps the link of a number
abbrev pub keeps_link : Model → List Bool → ℕ → Bool
keeps_link m x l = unwrap_or (option_map (is_kept m x) (slice_get m.links l)) false

-- the nodes of the conditions of a link and of its ends
abbrev pub link_size : Model → ℕ → ℕ
link_size m l = unwrap_or (option_map (λ k. size_of k.presence + element_size m k.source + element_size m k.target) (slice_get m.links l)) 0

-- ---- of all elements

abbrev pub elements_at : Model → List Bool → List Bool
elements_at m x = map (λ e. truth e.presence x) m.elements

-- one condition for each element, which holds where it is there
pub record TellElements {C : Type 0} (a : Algebra C) (m : Model) (cs : List C) : Type 0 where
  pub size : length cs ≡ length m.elements
  pub rows : RowWhere a cs (elements_at m)

-- ---- of all links

-- a link between two elements, which is there or isn't
pub record Arrow : Type 0 where
  pub kind : ℕ
  pub source : ℕ
  pub target : ℕ
  pub present : Bool

abbrev pub arrow_of : Model → List Bool → Link → Arrow
arrow_of m x l = record { kind = l.kind; source = l.source; target = l.target; present = is_kept m x l }

abbrev pub arrow_at : {C : Type 0} → Algebra C → List Bool → Edge C → Arrow
arrow_at a x e = record { kind = e.kind; source = e.from; target = e.to; present = a.holds e.when x }

-- an edge between two of so many elements, with a live condition
pub record IsEdge {C : Type 0} (a : Algebra C) (n : ℕ) (e : Edge C) : Type 0 where
  pub source : e.from < n
  pub target : e.to < n
  pub live : a.live e.when

-- the edge tells the link of a number
abbrev pub TellsLink : {C : Type 0} → Algebra C → Model → ℕ → Edge C → Type 0
TellsLink a m l e = (x : List Bool) → a.is_world x ≡ true → slice_get (map (arrow_of m x) m.links) l ≡ Some (arrow_at a x e)

-- what the condition of a link asks
abbrev pub link_asks : Option Link → ℕ
link_asks None = 0
link_asks (Some l) = 8 * size_of l.presence + 2

-- one edge for each link, there where the model keeps the link
pub record TellLinks {C : Type 0} (a : Algebra C) (m : Model) (es : List (Edge C)) : Type 0 where
  pub edges : All (IsEdge a (length m.elements)) es
  pub arrows : (x : List Bool) → a.is_world x ≡ true → map (arrow_at a x) es ≡ map (arrow_of m x) m.links
  pub size : length es ≡ length m.links
