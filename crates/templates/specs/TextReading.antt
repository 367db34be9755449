-- For private clauses: the front of what is left of a template text, outside its holes.
use Rattle.std.specs.Prelude.{◌≡◌, ℕ, ◌+◌, ◌<◌, ⊤, List, [], ◌∷◌, ◌++◌, map, length, Bool, true, not, ◌&&◌, ◌==◌, Option, Some, option_map}
use Rattle.std.specs.List.{list_all}
use Rattle.meaning.specs.Models.{Model}
use Rattle.meaning.specs.QueryTexts.{Scope}
use Rattle.meaning.specs.Templates.{TextPart, Words}
use Rattle.meaning.specs.TemplateTexts.{mark_of, outside_hole, hole_part, part_of}
use Rattle.meaning.specs.BundlePlaces.{or_else}
use Rattle.meaning.specs.HoleFaults.{hole_fault, outside_hole_fault}
use Rattle.templates.specs.declared.texts.Step.{Step}
use Rattle.templates.specs.declared.texts.Step.TheVariants as step

-- the byte is no brace
abbrev pub is_plain : ℕ → Bool
is_plain c = not (c == 123) && not (c == 125)

-- ---- what is left of a text

-- its parts, where its braces are right
abbrev pub parts_left : Model → Scope → List ℕ → Option (List TextPart)
parts_left m scope rest = option_map (map (part_of m scope)) (outside_hole (map mark_of rest))

-- the byte of its first fault, where it begins at a byte and so many holes stand before it
abbrev pub fault_left : Model → Scope → Bool → (at holes : ℕ) → List ℕ → Option ℕ
fault_left m scope counts at holes rest = outside_hole_fault m scope counts at holes (map mark_of rest)

-- words in front of parts: one part with the words that those begin with
abbrev pub in_front : List ℕ → List TextPart → List TextPart
in_front [] ps = ps
in_front (c ∷ cs) (Words s ∷ ps) = Words ((c ∷ cs) ++ s) ∷ ps
in_front (c ∷ cs) ps = Words (c ∷ cs) ∷ ps

-- ---- the front of what is left

-- words, which take so many bytes, and what follows them
pub record BeginsWithWords (rest words after : List ℕ) : Type 0 where
  pub shorter : length after < length rest
  pub parts : (m : Model) (scope : Scope) → parts_left m scope rest ≡ option_map (in_front words) (parts_left m scope after)
  pub fault : (m : Model) (scope : Scope) (counts : Bool) (at next holes : ℕ) → at + length rest ≡ next + length after
      → fault_left m scope counts at holes rest ≡ fault_left m scope counts next holes after

-- a hole, and what follows it
pub record BeginsWithHole (rest inner after : List ℕ) : Type 0 where
  pub shorter : length after < length rest
  pub within : length inner < length rest
  pub parts : (m : Model) (scope : Scope) → parts_left m scope rest ≡ option_map (λ ps. hole_part m scope inner ∷ ps) (parts_left m scope after)
  pub fault : (m : Model) (scope : Scope) (counts : Bool) (at next holes : ℕ) → at + length rest ≡ next + length after
      → fault_left m scope counts at holes rest ≡ or_else (hole_fault m scope counts holes at inner) (fault_left m scope counts next (holes + 1) after)

-- a brace that begins and ends no hole
abbrev pub BeginsWithFault : List ℕ → Type 0
BeginsWithFault rest = (m : Model) (scope : Scope) (counts : Bool) (at holes : ℕ) → fault_left m scope counts at holes rest ≡ Some at

abbrev pub BeginsWith : List ℕ → Step → Type 0
BeginsWith rest (step.Words words after) = BeginsWithWords rest words.now after.now
BeginsWith rest (step.Hole inner after) = BeginsWithHole rest inner.now after.now
BeginsWith rest step.Fault = BeginsWithFault rest
