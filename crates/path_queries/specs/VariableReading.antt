-- For private clauses: new variables between two places of the tokens of a text, and their fault.
use Rattle.std.specs.Prelude.{◌≡◌, ℕ, ◌+◌, ◌*◌, ◌<◌, ◌≤◌, nat_le, List, [], ◌∷◌, ◌++◌, length, Bool, true, false, if◌then◌else◌, Option, Some, None, is_some, codes}
use Rattle.meaning.specs.Models.{Model}
use Rattle.meaning.specs.Queries.{Constraint}
use Rattle.meaning.specs.QueryTexts.{Token, word, colon, Scope, type_number, read_variables, typed, read_conditions}
use Rattle.meaning.specs.QueryFaults.{a_query, a_new_variable, after_type}
use Rattle.path_queries.specs.declared.token.Tokens.{Tokens}
use Rattle.path_queries.specs.declared.token_at.Sign.{Sign}
use Rattle.path_queries.specs.declared.token_at.Sign.TheVariants.{Colon, Comma, End}
use Rattle.path_queries.specs.declared.fault.QueryStop.{QueryStop}
use Rattle.path_queries.specs.declared.fault.QueryStop.TheVariants.{Repeated, TooMany}
use Rattle.path_queries.specs.Tokens.{rest_at, left_at}
use Rattle.path_queries.specs.Signs.{shown, word_first, name_first}
use Rattle.path_queries.specs.Stops.{Tells, refusal}
use Rattle.path_queries.specs.PathReading.{fault_at}
use Rattle.path_queries.specs.ConstraintReading.{state, says}

-- a name that a colon follows
abbrev pub behind_colon : Sign → Option (List ℕ) → Option (List ℕ)
behind_colon Colon name = name
behind_colon s name = None

abbrev pub declared : Tokens → ℕ → Option (List ℕ)
declared ts at = behind_colon (shown (at + 1) (rest_at ts (at + 1))) (name_first at (rest_at ts at))

-- where there is none
abbrev pub undeclared : Tokens → ℕ → QueryStop
undeclared ts at = if is_some (name_first at (rest_at ts at)) then refusal ts.end (at + 1) (rest_at ts (at + 1)) else refusal ts.end at (rest_at ts at)

-- the fault at the name of a new variable with so many before it, where another variable has this number
abbrev pub new_stop : ℕ → Option ℕ → ℕ → Option QueryStop
new_stop new other place = if nat_le 3 new then Some (TooMany place) else (if is_some other then Some (Repeated place) else None)

-- a variable behind these new ones
pub record ReadsVariable (m : Model) (scope new : Scope) (ts : Tokens) (at : ℕ) (v : List ℕ × ℕ) : Type 0 where
  pub few : length new < 3
  pub within : at + 3 ≤ length ts.list
  pub goes : fault_at m ts at (state (scope ++ new) (length new) 0 a_new_variable) ≡ fault_at m ts (at + 3) (state ((scope ++ new) ++ v ∷ []) (length new + 1) 0 after_type)
  pub type_name : List ℕ
  pub left : left_at ts at ≡ word v.0 ∷ colon ∷ word type_name ∷ left_at ts (at + 3)
  pub typed : type_number m type_name ≡ Some v.1

abbrev pub VariableStops : Model → Scope → Scope → Tokens → ℕ → QueryStop → Type 0
VariableStops m scope new ts at stop = Tells stop (fault_at m ts at (state (scope ++ new) (length new) 0 a_new_variable))

-- all new variables, up to a place where no comma stands
pub record ReadsVariables (m : Model) (scope : Scope) (ts : Tokens) (next : ℕ) (new : Scope) : Type 0 where
  pub few : length new ≤ 3
  pub short : next ≤ 12
  pub within : next ≤ length ts.list
  pub ends : shown next (rest_at ts next) ≡ Comma → ⊥
  pub goes : fault_at m ts 0 (state scope 0 0 a_new_variable) ≡ fault_at m ts next (state (scope ++ new) (length new) 0 after_type)
  pub types : typed m (read_variables (left_at ts 0)).0 ≡ Some new
  pub left : (read_variables (left_at ts 0)).1 ≡ left_at ts next

abbrev pub VariablesStop : Model → Scope → Tokens → QueryStop → Type 0
VariablesStop m scope ts stop = Tells stop (fault_at m ts 0 (state scope 0 0 a_new_variable))

-- the text ends, or `with` stands there
abbrev pub begins_conditions : Tokens → ℕ → Bool
begins_conditions ts at = elim (shown at (rest_at ts at)) as (λ _. Bool) [ End ↦ true | _ ↦ says (codes "with") (word_first at (rest_at ts at)) ]

-- no colon follows the first token
abbrev pub NoColon : Tokens → Type 0
NoColon ts = (us : List Token) → left_at ts 1 ≡ colon ∷ us → ⊥

-- the new variables of a query, with what may come next. Where there is none, the conditions begin at the first token
pub record ReadsNew (m : Model) (scope : Scope) (ts : Tokens) (next : ℕ) (new : Scope) : Type 0 where
  pub few : length new ≤ 3
  pub short : next ≤ 12
  pub conditions : begins_conditions ts next ≡ true
  pub first : Bool
  pub from_start : first ≡ true → next ≡ 0
  pub goes : fault_at m ts 0 (state scope 0 0 a_query) ≡ fault_at m ts next (state (scope ++ new) (length new) 0 (if first then a_query else after_type))
  pub types : (first ≡ true → NoColon ts) → typed m (read_variables (left_at ts 0)).0 ≡ Some new
  pub left : (first ≡ true → NoColon ts) → (read_variables (left_at ts 0)).1 ≡ left_at ts next

abbrev pub NewStops : Model → Scope → Tokens → QueryStop → Type 0
NewStops m scope ts stop = Tells stop (fault_at m ts 0 (state scope 0 0 a_query))

-- the conditions of a query, behind its new variables
pub record ReadsConditions (m : Model) (scope : Scope) (ts : Tokens) (at : ℕ) (cs : List Constraint) : Type 0 where
  pub goes : (new : ℕ) (first : Bool) → fault_at m ts at (state scope new 0 (if first then a_query else after_type)) ≡ None
  pub reads : read_conditions m scope (left_at ts at) ≡ Some cs
  pub no_colon : (us : List Token) → left_at ts (at + 1) ≡ colon ∷ us → ⊥

abbrev pub ConditionsStop : Model → Scope → Tokens → ℕ → QueryStop → Type 0
ConditionsStop m scope ts at stop = (new : ℕ) (first : Bool) → Tells stop (fault_at m ts at (state scope new 0 (if first then a_query else after_type)))
