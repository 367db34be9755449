-- The grammar of template texts: the texts that are words and holes in turn, with their parts, over a model and the variables in scope.
use Rattle.std.specs.Prelude.{◌≡◌, ℕ, List, [], ◌∷◌, ◌++◌, length, Bool, true, false, ◌||◌, ◌==◌, Some, None, codes, ◌≤◌, filter}
use Rattle.meaning.specs.Models.{Model}
use Rattle.meaning.specs.Templates.{TextPart, Words, NameOf, AttributeOf, Count}
use Rattle.meaning.specs.TemplateTexts.{parts_of}
use Rattle.meaning.specs.QueryTexts.{Scope, variable_number, attribute_number}
use Rattle.meaning.specs.HoleFaults.{is_word, text_hole_fault}

-- the byte is a brace
abbrev pub is_brace : ℕ → Bool
is_brace c = (c == 123) || (c == 125)

-- the bytes spell the words: a doubled brace stands for itself, and another byte for itself
pub data Spells : List ℕ → List ℕ → Type 0 where
  nothing : Spells [] []
  a_byte : {c : ℕ} {s w : List ℕ} → is_brace c ≡ false → Spells s w → Spells (c ∷ s) (c ∷ w)
  an_open_brace : {s w : List ℕ} → Spells s w → Spells (123 ∷ 123 ∷ s) (123 ∷ w)
  a_close_brace : {s w : List ℕ} → Spells s w → Spells (125 ∷ 125 ∷ s) (125 ∷ w)

-- the word is the name of this variable in scope
pub record IsVariableOf (scope : Scope) (w : List ℕ) (v : ℕ) : Type 0 where
  pub is_one : is_word w ≡ true
  pub stands : variable_number scope w ≡ Some v

-- the word is that of this attribute of the variable's type; `name` never is one
pub record IsValueOf (m : Model) (scope : Scope) (v : ℕ) (w : List ℕ) (n : ℕ) : Type 0 where
  pub is_one : is_word w ≡ true
  pub other : w ≡ codes "name" → ⊥
  pub stands : attribute_number m scope v w ≡ Some n

-- what stands between the braces of a hole. `counts` says whether the number of answers may stand there
pub data IsHole (m : Model) (scope : Scope) (counts : Bool) : List ℕ → TextPart → Type 0 where
  number_of_answers : counts ≡ true → IsHole m scope counts (codes "#") Count
  name_of : {x : List ℕ} {v : ℕ} → IsVariableOf scope x v → IsHole m scope counts (x ++ codes ".name") (NameOf v)
  attribute_of : {x a : List ℕ} {v n : ℕ} → IsVariableOf scope x v → IsValueOf m scope v a n
      → IsHole m scope counts (x ++ (codes "." ++ a)) (AttributeOf v n)

mutual
  -- holes with words before, between and behind them; words are as long as possible and not empty
  pub data IsHoles (m : Model) (scope : Scope) (counts : Bool) : List ℕ → List TextPart → Type 0 where
    of_rest : {s : List ℕ} {ps : List TextPart} → IsRest m scope counts s ps → IsHoles m scope counts s ps
    words : {s t w : List ℕ} {c : ℕ} {ps : List TextPart}
        → Spells s (c ∷ w) → IsRest m scope counts t ps → IsHoles m scope counts (s ++ t) (Words (c ∷ w) ∷ ps)

  -- the end, or a hole in front of others
  pub data IsRest (m : Model) (scope : Scope) (counts : Bool) : List ℕ → List TextPart → Type 0 where
    the_end : IsRest m scope counts [] []
    a_hole : {h s : List ℕ} {p : TextPart} {ps : List TextPart}
        → IsHole m scope counts h p → IsHoles m scope counts s ps → IsRest m scope counts (codes "{" ++ (h ++ (codes "}" ++ s))) (p ∷ ps)

-- the part is a hole
abbrev pub is_hole : TextPart → Bool
is_hole (Words s) = false
is_hole _ = true

-- the text has holes and words for these parts, and at most eight holes
pub record IsTextWithHoles (m : Model) (scope : Scope) (counts : Bool) (s : List ℕ) (parts : List TextPart) : Type 0 where
  pub tree : IsHoles m scope counts s parts
  pub few_holes : length (filter is_hole parts) ≤ 8

-- ---- what a fault and the reader are to mean

-- a text has no fault exactly where it is a text with holes
abbrev pub FaultlessHasHoles : Type 0
FaultlessHasHoles = (m : Model) (scope : Scope) (counts : Bool) (s : List ℕ)
    → (text_hole_fault m scope counts s ≡ None → (parts : List TextPart) × IsTextWithHoles m scope counts s parts)
    × ((parts : List TextPart) → IsTextWithHoles m scope counts s parts → text_hole_fault m scope counts s ≡ None)

-- the parts that are read of such a text are those of the grammar, and where it has no fault it is one with these
abbrev pub ReadsHoles : Type 0
ReadsHoles = (m : Model) (scope : Scope) (counts : Bool) (s : List ℕ)
    → ((parts : List TextPart) → IsTextWithHoles m scope counts s parts → parts_of m scope s ≡ parts)
    × (text_hole_fault m scope counts s ≡ None → IsTextWithHoles m scope counts s (parts_of m scope s))

-- a text has one list of parts at most
abbrev pub OneListOfParts : Type 0
OneListOfParts = (m : Model) (scope : Scope) (counts : Bool) (s : List ℕ) (parts others : List TextPart)
    → IsHoles m scope counts s parts → IsHoles m scope counts s others → parts ≡ others
