-- The texts that a model holds of its elements.
use Rattle.std.specs.Prelude.{◌≡◌, true}
use Rattle.meaning.specs.Texts.{is_text}
use Rattle.meaning.specs.Models.{Model}
use Rattle.meaning.proofs.CutTrees.{Each}

-- the names of the elements and the values of their attributes are texts
pub record ModelHasTexts (m : Model) : Type 0 where
  pub names : Each (λ e. is_text e.name ≡ true) m.elements
  pub attributes : Each (λ e. Each (λ s. is_text s ≡ true) e.attributes) m.elements
