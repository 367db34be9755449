-- Answers tuple by tuple: those that begin with elements that are given.
use Rattle.std.specs.Prelude.{◌≡◌, ℕ, ◌+◌, ◌<◌, List, [], ◌∷◌, ◌++◌, map, filter, drop, length, Bool, true, ◌&&◌, Contains, option_map, unwrap_or, if◌then◌else◌}
use Rattle.std.specs.List.{All, list_all, slice_get}
use Rattle.worlds.specs.Algebra.{Algebra}
use Rattle.meaning.specs.Models.{Model, PlainModel, has_element, is_a, model_at}
use Rattle.meaning.specs.Queries.{Query, tuples, meets}
use Rattle.meaning.specs.Tidy.{Among, whole_model}
use Rattle.path_queries.specs.Answering.{Somewhere, tuples_of, tuples_at}

-- ---- of one product

abbrev pub accepts : PlainModel → Query → (bound : List ℕ) → List ℕ → Bool
accepts m q bound es = list_all (meets m (bound ++ es)) q.constraints

-- the tuples that begin with these elements
abbrev pub tuples_from : PlainModel → List ℕ → (given : List ℕ) → List (List ℕ)
tuples_from m types given = map (λ es. given ++ es) (tuples m (drop (length given) types))

abbrev pub answers_from : PlainModel → Query → (bound given : List ℕ) → List (List ℕ)
answers_from m q bound given = filter (accepts m q bound) (tuples_from m q.variables given)

-- ---- at a world where a condition holds

abbrev pub answers_below : {C : Type 0} → Algebra C → Model → Query → (bound given : List ℕ) → C → List Bool → List (List ℕ)
answers_below a m q bound given under x = if a.holds under x then answers_from (model_at m x) q bound given else []

-- the type of an element
abbrev pub type_at : Model → ℕ → ℕ
type_at m e = unwrap_or (option_map (λ x. x.of_type) (slice_get m.elements e)) 0

-- the element is there, and answers for the type
abbrev pub is_choice : Model → List Bool → ℕ → ℕ → Bool
is_choice m x t e = has_element m.elements x e && is_a m.types (type_at m e) t

-- those that go on with an element for a variable of the type
abbrev pub answers_with : {C : Type 0} → Algebra C → Model → Query → (bound given : List ℕ) → C → (t e : ℕ) → List Bool → List (List ℕ)
answers_with a m q bound given under t e x =
    if a.holds under x && is_choice m x t e then answers_from (model_at m x) q bound (given ++ e ∷ []) else []

-- the tuples that go on with an element, if it answers for the type
abbrev pub possible_with : Model → List ℕ → (given : List ℕ) → (t e : ℕ) → List (List ℕ)
possible_with m types given t e = if is_a m.types (type_at m e) t then tuples_from (whole_model m) types (given ++ e ∷ []) else []

-- ---- rows of answers

-- the rows got more of them, which tell what was found and are some of what was possible
pub record Adds {C : Type 0} (a : Algebra C) (old new : List (List ℕ × C)) (found : List Bool → List (List ℕ)) (possible : List (List ℕ)) : Type 0 where
  pub added : List (List ℕ × C)
  pub is : new ≡ old ++ added
  pub live : All (λ r. a.live r.1) added
  pub holds : (x : List Bool) → a.is_world x ≡ true → tuples_at a added x ≡ found x
  pub somewhere : All (λ r. Somewhere a r.1) added
  pub order : Among (tuples_of added) possible

-- more tuples are found, each at some world, than there is room for
pub record Overflows {C : Type 0} (a : Algebra C) (old : List (List ℕ × C)) (found : List Bool → List (List ℕ)) (possible : List (List ℕ)) (most : ℕ) : Type 0 where
  pub added : List (List ℕ)
  pub order : Among added possible
  pub each_found : (t : List ℕ) → Contains added t → (x : List Bool) × (a.is_world x ≡ true) × Contains (found x) t
  pub many : most < length old + length added
