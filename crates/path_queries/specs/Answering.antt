-- What rows of answers mean at the worlds, and when there are too many.
use Rattle.std.specs.Prelude.{◌≡◌, ℕ, ◌<◌, List, [], map, filter, length, Bool, true, Some, Contains, if◌then◌else◌}
use Rattle.std.specs.List.{slice_get}
use Rattle.worlds.specs.Algebra.{Algebra, IsRefusal}
use Rattle.worlds.specs.declared.stops.QStop.{QStop}
use Rattle.worlds.specs.declared.stops.QStop.TheVariants.{NodeLimit as AtLimit, TooMany, NoMemory}
use Rattle.meaning.specs.Models.{Model, model_at}
use Rattle.meaning.specs.Queries.{Query, answers}

-- the condition holds at a world
abbrev pub Somewhere : {C : Type 0} → Algebra C → C → Type 0
Somewhere a c = (x : List Bool) × (a.is_world x ≡ true) × (a.holds c x ≡ true)

-- the tuples of rows of answers
abbrev pub tuples_of : {C : Type 0} → List (List ℕ × C) → List (List ℕ)
tuples_of rows = map (λ r. r.0) rows

-- the tuples whose condition holds at a list
abbrev pub tuples_at : {C : Type 0} → Algebra C → List (List ℕ × C) → List Bool → List (List ℕ)
tuples_at a rows x = tuples_of (filter (λ r. a.holds r.1 x) rows)

-- the answers at a world, where a condition holds there, and else none
abbrev pub answers_at : {C : Type 0} → Algebra C → Model → Query → List ℕ → C → List Bool → List (List ℕ)
answers_at a m q bound under x = if a.holds under x then answers (model_at m x) q bound else []

-- more than so many tuples answer, each at some world where the condition holds
pub record ManyAnswers {C : Type 0} (a : Algebra C) (m : Model) (q : Query) (bound : List ℕ) (under : C) (most : ℕ) : Type 0 where
  pub tuples : List (List ℕ)
  pub once : (i j : ℕ) (t : List ℕ) → slice_get tuples i ≡ Some t → slice_get tuples j ≡ Some t → i ≡ j
  pub each_answers : (t : List ℕ) → Contains tuples t → (x : List Bool) × (a.is_world x ≡ true) × Contains (answers_at a m q bound under x) t
  pub many : most < length tuples

-- why answers stopped: a refusal, want of memory, or too many of them, of which this is known
abbrev pub StopsWith : {C : Type 0} → Algebra C → Algebra C → Type 0 → QStop → Type 0
StopsWith before after many (AtLimit stop) = IsRefusal before after stop
StopsWith before after many TooMany = many
StopsWith before after many NoMemory = Unit {0}
