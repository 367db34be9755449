-- Elements that a product has, and texts whose variables are bound to such elements.
use Rattle.std.specs.Prelude.{◌≡◌, ℕ, ◌<◌, List, Bool, Some, ⊤}
use Rattle.std.specs.List.{slice_get}
use Rattle.meaning.specs.Models.{Model, Element, model_at, element_at}
use Rattle.meaning.specs.Templates.{TextPart, Words, NameOf, AttributeOf, Count}

-- the product at a world has this element
pub record IsThere (m : Model) (w : List Bool) (e : ℕ) : Type 0 where
  pub element : Element
  pub stands : slice_get m.elements e ≡ Some element
  pub found : element_at (model_at m w) e ≡ Some element

-- the variable of a part of a text is one of so many
abbrev pub PartFits : ℕ → TextPart → Type 0
PartFits n (Words s) = ⊤
PartFits n (NameOf v) = v < n
PartFits n (AttributeOf v a) = v < n
PartFits n Count = ⊤
