-- For private clauses: a path between two places of the tokens of a text, and its fault.
use Rattle.std.specs.Prelude.{◌≡◌, ℕ, ◌+◌, ◌-◌, ◌*◌, ◌<◌, ◌≤◌, List, length, Option, Some}
use Rattle.meaning.specs.ExpressionFaults.{TextFault}
use Rattle.meaning.specs.Models.{Model}
use Rattle.meaning.specs.Queries.{Path}
use Rattle.meaning.specs.QueryTexts.{Token, Parsed}
use Rattle.meaning.specs.QueryFaults.{Progress, a_step, after_step, going_on, fault_from}
use Rattle.path_queries.specs.declared.token.Tokens.{Tokens}
use Rattle.path_queries.specs.declared.token_at.Sign.{Sign}
use Rattle.path_queries.specs.declared.token_at.Sign.TheVariants.{Plus, Slash, Bar}
use Rattle.path_queries.specs.declared.fault.QueryStop.{QueryStop}
use Rattle.path_queries.specs.Tokens.{rest_at, left_at}
use Rattle.path_queries.specs.Signs.{shown}
use Rattle.path_queries.specs.Stops.{Tells}

-- the first fault from a place among the tokens on
abbrev pub fault_at : Model → Tokens → ℕ → Progress → Option TextFault
fault_at m ts at p = fault_from m ts.end at p (rest_at ts at)

-- from some number on the answer is this one
abbrev pub From : {A : Type 0} → ℕ → (ℕ → A) → A → Type 0
From k f x = (n : ℕ) → k ≤ n → f n ≡ x

-- the tokens are not too many
abbrev pub AreFew : Tokens → Type 0
AreFew ts = length ts.list ≤ 256

-- how strongly a sign binds
abbrev pub binding : Sign → ℕ
binding Plus = 3
binding Slash = 2
binding Bar = 1
binding s = 0

-- from one place to another, what is read is a path, with no sign behind it that binds so strongly
pub record ReadsPath (read : ℕ → List Token → Parsed) (cost level : ℕ) (m : Model) (ts : Tokens) (at next : ℕ) (p : Path) : Type 0 where
  pub beyond : at < next
  pub within : next ≤ length ts.list
  pub short : next ≤ 256
  pub weaker : binding (shown next (rest_at ts next)) < level
  pub goes : (q : Progress) (opened : ℕ) → fault_at m ts at (going_on q (a_step opened)) ≡ fault_at m ts next (going_on q (after_step opened))
  pub reads : AreFew ts → From (8 * (next - at) + cost) (λ n. read n (left_at ts at)) (Some (p, left_at ts next))

-- the same in the midst of a row of operands: what is read from the first place on is what goes on from here
pub record GoesOn (read : ℕ → List Token → Parsed) (more : ℕ → Path × List Token → Parsed) (cost level : ℕ) (m : Model) (ts : Tokens) (at next : ℕ) (p : Path) : Type 0 where
  pub beyond : at < next
  pub within : next ≤ length ts.list
  pub short : next ≤ 256
  pub weaker : binding (shown next (rest_at ts next)) < level
  pub goes : (q : Progress) (opened : ℕ) → fault_at m ts at (going_on q (a_step opened)) ≡ fault_at m ts next (going_on q (after_step opened))
  pub reads : AreFew ts → (k : ℕ) (o : Parsed) → From k (λ n. more n (p, left_at ts next)) o → From (8 * (next - at) + cost + k) (λ n. read n (left_at ts at)) o

-- the first fault of a path from a place on
abbrev pub PathStops : Model → Tokens → ℕ → QueryStop → Type 0
PathStops m ts at stop = (q : Progress) (opened : ℕ) → Tells stop (fault_at m ts at (going_on q (a_step opened)))
