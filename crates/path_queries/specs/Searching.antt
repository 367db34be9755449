-- What a search knows before it tries tuples.
use Rattle.std.specs.Prelude.{◌≡◌, ℕ, ◌+◌, ◌-◌, ◌*◌, ◌<◌, ◌^◌, zero, suc, List, [], length, Bool, Some, ⊤, ◌&&◌, true, nat_lt, option_map, option_and_then, unwrap_or}
use Rattle.std.specs.List.{slice_get, sum_by}
use Rattle.worlds.specs.Algebra.{Algebra}
use Rattle.meaning.specs.Models.{Model, PlainModel, model_at}
use Rattle.meaning.specs.Queries as meaning
use Rattle.meaning.specs.Expressions.{size_of}
use Rattle.meaning.specs.Bounds.{path_of, path_size}
use Rattle.path_queries.specs.declared.data.Constraint.{Constraint}
use Rattle.path_queries.specs.declared.data.Constraint.TheVariants.{Walk, Attr}
use Rattle.path_queries.specs.declared.answering.preparation.Search.{Search}
use Rattle.path_queries.specs.declared.data.Query.{Query}
use Rattle.path_queries.specs.View.{path, constraint, query}
use Rattle.path_queries.specs.Tuples.{answers_below, answers_with, tuples_from, possible_with}
use Rattle.meaning.specs.Tidy.{whole_model}
use Rattle.path_queries.specs.Presence.{TellElements}
use Rattle.path_queries.specs.Relations.{Relation}
use Rattle.path_queries.specs.Matrices.{MatrixWhere}

-- the value of an attribute of an element, empty where there is none
abbrev pub value_at : Model → ℕ → ℕ → List ℕ
value_at m e a = unwrap_or (option_and_then (λ x. slice_get x.attributes a) (slice_get m.elements e)) []

-- the relation leads from the one to the other, both below the bound
abbrev pub leads_within : ℕ → Relation → ℕ → ℕ → Bool
leads_within n r i j = nat_lt i n && nat_lt j n && r i j

-- the elements meet the constraint of a number, if there is one
abbrev pub meets_number : PlainModel → meaning.Query → List ℕ → ℕ → Bool
meets_number m q es number = unwrap_or (option_map (meaning.meets m es) (slice_get q.constraints number)) true

-- the cells tell the walks of a constraint
abbrev pub TellsWalks : {C : Type 0} → Algebra C → Model → List C → Constraint → Type 0
TellsWalks a m cells (Walk from along to negated) = MatrixWhere a (length m.elements) cells (λ x. meaning.walks (model_at m x) (path along))
TellsWalks a m cells (Attr variable attribute text equal) = ⊤

-- the matrices tell the walks of the constraints
pub record TellConstraints {C : Type 0} (a : Algebra C) (m : Model) (relations : List (List C)) (cs : List Constraint) : Type 0 where
  pub size : length relations ≡ length cs
  pub each : (i : ℕ) (cells : List C) (c : Constraint) → slice_get relations i ≡ Some cells → slice_get cs i ≡ Some c → TellsWalks a m cells c

-- there are few elements, and what was asked tells them and the constraints
pub record IsReady {C : Type 0} (a : Algebra C) (s : Search C) : Type 0 where
  pub few : length s.model.now.elements < 2 ^ 16
  pub elements : TellElements a s.model.now s.elements
  pub relations : TellConstraints a s.model.now s.relations s.query.now.constraints

-- ---- how much is asked

-- for the walks of a constraint
abbrev pub walk_asks : Model → Constraint → ℕ
walk_asks m c = sum_by path_size (path_of (constraint c)) * (16 * (length m.links + (length m.elements + 1) ^ 3))

-- before tuples are tried
abbrev pub asks_before : Model → Query → ℕ
asks_before m q = 8 * sum_by (λ e. size_of e.presence) m.elements + sum_by (λ l. 8 * size_of l.presence + 2) m.links + sum_by (walk_asks m) q.constraints

-- of the tuples that begin with elements for all variables but so many
abbrev pub asks_of_tuples : (elements constraints : ℕ) → (left : ℕ) → ℕ
asks_of_tuples n c zero = c
asks_of_tuples n c (suc left) = n * (asks_of_tuples n c left + 2)

-- of the tuples that begin with these elements
abbrev pub asks_left : {C : Type 0} → Search C → (given : List ℕ) → ℕ
asks_left s given = asks_of_tuples (length s.model.now.elements) (length s.query.now.constraints) (length s.query.now.vars - length given)

-- of those that go on with one more
abbrev pub asks_with_one : {C : Type 0} → Search C → (given : List ℕ) → ℕ
asks_with_one s given = 1 + asks_of_tuples (length s.model.now.elements) (length s.query.now.constraints) (length s.query.now.vars - (length given + 1))

-- ---- what is found

-- the answers that begin with these elements, where a condition holds
abbrev pub found_below : {C : Type 0} → Algebra C → Search C → (given : List ℕ) → C → List Bool → List (List ℕ)
found_below a s given under x = answers_below a s.model.now (query s.query.now) s.bound.now given under x

-- those that go on with an element for the type
abbrev pub found_with : {C : Type 0} → Algebra C → Search C → (given : List ℕ) → C → (t e : ℕ) → List Bool → List (List ℕ)
found_with a s given under t e x = answers_with a s.model.now (query s.query.now) s.bound.now given under t e x

-- the tuples that begin with these elements, and those that go on with an element for the type
abbrev pub possible_below : {C : Type 0} → Search C → (given : List ℕ) → List (List ℕ)
possible_below s given = tuples_from (whole_model s.model.now) s.query.now.vars given

abbrev pub possible_next : {C : Type 0} → Search C → (given : List ℕ) → (t e : ℕ) → List (List ℕ)
possible_next s given t e = possible_with s.model.now s.query.now.vars given t e
