-- Lists of distinct names.
use Rattle.std.specs.Prelude.{◌≡◌, ℕ, List, Option, Some, None, slice_get}
use Rattle.meaning.specs.Texts.{place_of}
use Rattle.cond_text.specs.declared.names.NameStop.{NameStop}
use Rattle.cond_text.specs.declared.names.NameStop.TheVariants.{Repeated, NoMemory}

-- why a name is not added, which is at this place or at none
abbrev pub Refuses : NameStop → Option ℕ → Type 0
Refuses (Repeated number) place = place ≡ Some number
Refuses NoMemory place = place ≡ None

-- each name is found at its own place
abbrev pub AreDistinct : List (List ℕ) → Type 0
AreDistinct names = (no : ℕ) (name : List ℕ) → slice_get names no ≡ Some name → place_of name names ≡ Some no
