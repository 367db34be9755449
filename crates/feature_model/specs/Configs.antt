-- What a configuration says, in the words of the definitions, and how its reader tells it.
use Rattle.std.specs.Prelude.{◌≡◌, ℕ, List, Bool, true, false, Option, Some, None, option_and_then, codes, set, slice_index_or}
use Rattle.std.specs.Prelude.{Result, Ok, Err}
use Rattle.meaning.specs.Texts.{with_each, place_of}
use Rattle.meaning.specs.Documents.{Document, as_text, as_list, member_of}
use Rattle.meaning.specs.Counts.{capped}
use Rattle.meaning.specs.Configurations.{Configuration, Refused, of_names}
use Rattle.meaning.specs.Configurations as meaning
use Rattle.feature_model.specs.declared.config.ConfigStop.{ConfigStop}
use Rattle.feature_model.specs.declared.config.ConfigStop.TheVariants.{NotList, UnknownFeature, Repeated, NoMemory}

-- the names that a document lists under `features`, if it has a list of texts there
abbrev pub told : Document → Option (List (List ℕ))
told d = option_and_then (with_each as_text) (option_and_then as_list (member_of (codes "features") d))

-- what the document says of these features
abbrev pub config_of : List (List ℕ) → Document → Configuration
config_of features d = of_names features (told d)

-- the stop is what the document is refused for; want of memory tells nothing of it
abbrev pub TellsStop : ConfigStop → Configuration → Type 0
TellsStop NotList c = c ≡ Refused meaning.NoList
TellsStop (UnknownFeature at) c = c ≡ Refused (meaning.UnknownFeature at)
TellsStop (Repeated at) c = c ≡ Refused (meaning.Repeated at)
TellsStop NoMemory c = Unit {0}

-- ---- for private clauses: a name is met in front of which the world is `before`, and `after` it

-- the feature was false and is true now
pub record IsMarked (features : List (List ℕ)) (before : List Bool) (name : List ℕ) (after : List Bool) : Type 0 where
  pub no : ℕ
  pub place : place_of name features ≡ Some no
  pub was : slice_index_or before no false ≡ false
  pub becomes : after ≡ set before no true

-- the feature was true
pub record WasMarked (features : List (List ℕ)) (before : List Bool) (name : List ℕ) : Type 0 where
  pub no : ℕ
  pub place : place_of name features ≡ Some no
  pub was : slice_index_or before no false ≡ true

abbrev pub StopsMark : List (List ℕ) → List Bool → List ℕ → ℕ → ConfigStop → Type 0
StopsMark features before name at NotList = ⊥
StopsMark features before name at (UnknownFeature told) = (told ≡ capped at) × (place_of name features ≡ None)
StopsMark features before name at (Repeated told) = (told ≡ capped at) × WasMarked features before name
StopsMark features before name at NoMemory = Unit {0}

abbrev pub Marks : List (List ℕ) → List Bool → List ℕ → ℕ → Result (Unit {0}) ConfigStop → List Bool → Type 0
Marks features before name at (Ok done) after = IsMarked features before name after
Marks features before name at (Err stop) after = StopsMark features before name at stop
