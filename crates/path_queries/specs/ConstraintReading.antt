-- For private clauses: constraints between two places of the tokens of a text, and their fault.
use Rattle.std.specs.Prelude.{◌≡◌, ℕ, ◌+◌, ◌*◌, ◌<◌, ◌≤◌, nat_le, List, [], ◌∷◌, length, Bool, true, false, if◌then◌else◌, Option, Some, None, option_and_then, codes, bytes_eq}
use Rattle.meaning.specs.Models.{Model}
use Rattle.meaning.specs.Queries.{Path, Constraint, Walks}
use Rattle.meaning.specs.QueryTexts.{Token, word, dot, Scope, variable_number, walk_from, kind_names, read_path, read_constraint, read_constraints}
use Rattle.meaning.specs.QueryFaults.{Next, a_step, an_attribute, a_negated_walk, a_constraint, after_constraint, Progress, is_stray}
use Rattle.cond_text.specs.Stops.{capped}
use Rattle.path_queries.specs.declared.token.Tokens.{Tokens}
use Rattle.path_queries.specs.declared.fault.QueryStop.{QueryStop}
use Rattle.path_queries.specs.declared.fault.QueryStop.TheVariants.{Syntax, TooMany}
use Rattle.path_queries.specs.Tokens.{left_at}
use Rattle.path_queries.specs.Stops.{Tells}
use Rattle.path_queries.specs.PathReading.{fault_at, AreFew}

-- what is read so far: the variables, how many of them are new, and how many constraints there are
abbrev pub state : Scope → ℕ → ℕ → Next → Progress
state scope new constraints next = record { next = next; scope = scope; new = new; constraints = constraints }

-- the word is this one
abbrev pub says : List ℕ → Option (List ℕ) → Bool
says s None = false
says s (Some w) = bytes_eq w s

-- from one place to another: a path in brackets, behind the first of them, and the variable at the other end
pub record ReadsWalk (m : Model) (scope : Scope) (ts : Tokens) (at next : ℕ) (p : Path) (target : ℕ) : Type 0 where
  pub beyond : at < next
  pub within : next ≤ length ts.list
  pub short : next ≤ 256
  pub goes : (new k : ℕ) → fault_at m ts at (state scope new k (a_step 0)) ≡ fault_at m ts next (state scope new k after_constraint)
  pub reads : AreFew ts → (negated : Bool) (v : ℕ)
      → option_and_then (walk_from scope negated v) (read_path (kind_names m) (8 * length (left_at ts at) + 8) (left_at ts at)) ≡ Some (Walks v p target negated, left_at ts next)

-- an attribute and a comparison, behind the dot
pub record ReadsTest (m : Model) (scope : Scope) (ts : Tokens) (at next v : ℕ) (c : Constraint) : Type 0 where
  pub beyond : at < next
  pub within : next ≤ length ts.list
  pub short : next ≤ 256
  pub goes : (new k : ℕ) → fault_at m ts at (state scope new k (an_attribute v)) ≡ fault_at m ts next (state scope new k after_constraint)
  pub reads : (x : List ℕ) → variable_number scope x ≡ Some v → read_constraint m scope (word x ∷ dot ∷ left_at ts at) ≡ Some (c, left_at ts next)

-- a walk, behind `not`
pub record ReadsNegated (m : Model) (scope : Scope) (ts : Tokens) (at next : ℕ) (c : Constraint) : Type 0 where
  pub beyond : at < next
  pub within : next ≤ length ts.list
  pub short : next ≤ 256
  pub goes : (new k : ℕ) → fault_at m ts at (state scope new k a_negated_walk) ≡ fault_at m ts next (state scope new k after_constraint)
  pub reads : AreFew ts → (n : List ℕ) → bytes_eq n (codes "not") ≡ true → read_constraint m scope (word n ∷ left_at ts at) ≡ Some (c, left_at ts next)

-- a constraint, with fewer than sixteen before it
pub record ReadsConstraint (m : Model) (scope : Scope) (ts : Tokens) (at next : ℕ) (c : Constraint) : Type 0 where
  pub beyond : at < next
  pub within : next ≤ length ts.list
  pub short : next ≤ 256
  pub goes : (new k : ℕ) → nat_le 16 k ≡ false → fault_at m ts at (state scope new k a_constraint) ≡ fault_at m ts next (state scope new (k + 1) after_constraint)
  pub reads : AreFew ts → read_constraint m scope (left_at ts at) ≡ Some (c, left_at ts next)

-- constraints up to the end of the text
pub record ReadsConstraints (m : Model) (scope : Scope) (ts : Tokens) (at : ℕ) (cs : List Constraint) : Type 0 where
  pub few : AreFew ts
  pub goes : (new : ℕ) → fault_at m ts at (state scope new 0 a_constraint) ≡ None
  pub reads : read_constraints (2 * length (left_at ts at) + 2) m scope (left_at ts at) ≡ Some cs

-- the first fault from a place on
abbrev pub StopsAt : Model → Scope → Tokens → ℕ → Next → QueryStop → Type 0
StopsAt m scope ts at next stop = (new k : ℕ) → Tells stop (fault_at m ts at (state scope new k next))

-- the same at a constraint with fewer than sixteen before it
abbrev pub ConstraintStops : Model → Scope → Tokens → ℕ → QueryStop → Type 0
ConstraintStops m scope ts at stop = (new k : ℕ) → nat_le 16 k ≡ false → Tells stop (fault_at m ts at (state scope new k a_constraint))

abbrev pub ConstraintsStop : Model → Scope → Tokens → ℕ → QueryStop → Type 0
ConstraintsStop m scope ts at stop = (new : ℕ) → Tells stop (fault_at m ts at (state scope new 0 a_constraint))

-- the fault where a seventeenth constraint would begin
abbrev pub seventeenth : ℕ → ℕ → List (ℕ × Token) → QueryStop
seventeenth end at [] = Syntax (capped end)
seventeenth end at (q ∷ ts) = if nat_le 256 at then TooMany (capped q.0) else (if is_stray q.1 then Syntax (capped q.0) else TooMany (capped q.0))
