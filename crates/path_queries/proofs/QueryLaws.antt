-- A whole query: the conditions behind the new variables, and what the text is read as.
use Rattle.std.proofs.Common.{◌≡◌, ◌∙◌, sym, ap, subst, refl, ℕ, zero, suc, ◌+◌, ◌-◌, ◌*◌, ◌<◌, ◌≤◌, List, [], ◌∷◌, ◌++◌, length, Bool, true, false, not, ◌&&◌, ◌||◌, Option, Some, None, map, arith}
use Rattle.std.specs.Prelude.{if◌then◌else◌, option_and_then, option_map, codes, bytes_eq}
use Rattle.std.proofs.lemmas.Bool.{true≢false}
use Rattle.std.proofs.lemmas.List.{append-nil}
use Rattle.meaning.specs.Texts.{is_name}
use Rattle.meaning.specs.Models.{Model}
use Rattle.meaning.specs.Queries.{Constraint, Query}
use Rattle.meaning.specs.QueryTexts.{Token, word, colon, comma, Scope, cut_at_quotes, alternate, proper, tokens_of, typed, read_variables, read_constraints, read_conditions, query_of_tokens, query_of}
use Rattle.meaning.specs.QueryFaults.{a_query, a_new_variable, after_type, a_constraint, goes_on, is_with, new_variable, follows_colon, is_variable_too_many, stands_in_scope, the_colon, placed_tokens, fault_from, query_fault}
use Rattle.path_queries.specs.declared.token.Tokens.{Tokens}
use Rattle.path_queries.specs.declared.token_at.Sign.{Sign}
use Rattle.path_queries.specs.declared.token_at.Sign.TheVariants as code
use Rattle.path_queries.specs.declared.fault.QueryStop.{QueryStop}
use Rattle.path_queries.specs.Tokens.{placed_all, rest_at, bare, left_at}
use Rattle.path_queries.specs.Signs.{sign, shown, word_in, word_first}
use Rattle.path_queries.specs.Stops.{Tells, refusal}
use Rattle.path_queries.specs.PathReading.{fault_at}
use Rattle.path_queries.specs.ConstraintReading.{state, says, ReadsConstraints, ConstraintsStop}
use Rattle.path_queries.specs.VariableReading.{begins_conditions, NoColon, ReadsVariables, VariablesStop, ReadsNew, NewStops, ReadsConditions, ConditionsStop}
use Rattle.path_queries.proofs.FirstTokens.{IsAt, left_front, left_length, nothing_left, word_is_at}
use Rattle.path_queries.proofs.FaultSteps.{takes, takes_at, Halts, refused, moved}
use Rattle.path_queries.proofs.Cuts.{cut_shape}
use Rattle.path_queries.proofs.VariableLaws.{with_no_name}
use Rattle.path_queries.proofs.VariableLists.{conditions_part, starts_as_variable}
use Rattle.path_queries.proofs.ConstraintLaws.{shown_sign}
use Rattle.path_queries.proofs.TextTokens.{NoStrays, no_strays, pieces_are_tokens}

abbrev pub built : Scope → List Constraint → Query
built new cs = record { variables = map (λ v. v.1) new; constraints = cs }

says_part : (o : Option (List ℕ)) → says (codes "with") o ≡ true → (w : List ℕ) × (o ≡ Some w) × (is_with w ≡ true)
says_part None e = absurd cc
says_part (Some w) e = (w, refl, e)

-- the text ends, or `with` stands there
conditions_cases : (s : Sign) (b : Bool) → (elim s as (λ _. Bool) [ code.End ↦ true | _ ↦ b ]) ≡ true → b ≡ false → s ≡ code.End
conditions_cases code.End b e other = refl
conditions_cases s b e other = absurd (true≢false (sym e ∙ other))

module _ (m : Model) (scope : Scope) (ts : Tokens) where
  with_goes : (new at : ℕ) (first : Bool) (w : List ℕ) → IsAt ts at (word w) → is_with w ≡ true
      → fault_at m ts at (state scope new 0 (if first then a_query else after_type)) ≡ fault_at m ts (at + 1) (state scope new 0 a_constraint)
  with_goes new at true w is e =
      let lone : new_variable a_query (word w) (rest_at ts (at + 1)) ≡ None =
      ap (λ b. if b && follows_colon (rest_at ts (at + 1)) then Some w else None) (with_no_name w e) in
      takes_at m ts at (word w) (state scope new 0 a_query) is (ap (is_variable_too_many (state scope new 0 a_query)) lone) refl (ap (λ b. b || is_name w) e) refl
      (ap (stands_in_scope (state scope new 0 a_query)) lone)
      ∙ ap (λ b. fault_at m ts (at + 1) (state scope new 0 (if b then a_constraint else the_colon w))) e
  with_goes new at false w is e = takes m ts at (word w) (state scope new 0 after_type) is refl e refl

  no_colon_constraints : (n : ℕ) (us : List Token) → read_constraints n m scope (colon ∷ us) ≡ None
  no_colon_constraints zero us = refl
  no_colon_constraints (suc n) us = refl

  pub with_reads : (at : ℕ) (cs : List Constraint) → says (codes "with") (word_first at (rest_at ts at)) ≡ true → ReadsConstraints m scope ts (at + 1) cs
      → ReadsConditions m scope ts at cs
  with_reads at cs e h = there (says_part (word_first at (rest_at ts at)) e)
    where
      there : (w : List ℕ) × (word_first at (rest_at ts at) ≡ Some w) × (is_with w ≡ true) → ReadsConditions m scope ts at cs
      there (w, first_is, is) = record {
        goes = λ new first. with_goes new at first w (word_is_at ts at w first_is) is ∙ h.goes new;
        reads = ap (read_conditions m scope) (left_front ts at (word w) (word_is_at ts at w first_is))
            ∙ (ap (λ b. if b then read_constraints (2 * length (left_at ts (at + 1)) + 2) m scope (left_at ts (at + 1)) else None) is ∙ h.reads);
        no_colon = λ us starts.
            let none = no_colon_constraints (2 * length (left_at ts (at + 1)) + 2) us in
            let some = sym (ap (read_constraints (2 * length (left_at ts (at + 1)) + 2) m scope) starts) ∙ h.reads in cc;
      }

  pub end_reads : (at : ℕ) → begins_conditions ts at ≡ true → says (codes "with") (word_first at (rest_at ts at)) ≡ false → ReadsConditions m scope ts at []
  end_reads at e other =
      let none = nothing_left ts at (conditions_cases (shown at (rest_at ts at)) (says (codes "with") (word_first at (rest_at ts at))) e other) in
      record {
        goes = λ new first. ap (fault_from m ts.end at (state scope new 0 (if first then a_query else after_type))) none.0 ∙ ends new first;
        reads = ap (λ ls. read_conditions m scope (bare ls)) none.0;
        no_colon = λ us starts. nothing (left_length ts (at + 1)) none.1 us starts;
      }
    where
      nothing : length (left_at ts (at + 1)) ≡ length ts.list - (at + 1) → length ts.list ≤ at → (us : List Token) → left_at ts (at + 1) ≡ colon ∷ us → ⊥
      nothing long past us starts = let l = ap length starts in omega arith

      ends : (new : ℕ) (first : Bool) → fault_from m ts.end at (state scope new 0 (if first then a_query else after_type)) [] ≡ None
      ends new true = refl
      ends new false = refl

  pub with_stops : (at : ℕ) (stop : QueryStop) → says (codes "with") (word_first at (rest_at ts at)) ≡ true → ConstraintsStop m scope ts (at + 1) stop
      → ConditionsStop m scope ts at stop
  with_stops at stop e s = there (says_part (word_first at (rest_at ts at)) e)
    where
      there : (w : List ℕ) × (word_first at (rest_at ts at) ≡ Some w) × (is_with w ≡ true) → ConditionsStop m scope ts at stop
      there (w, first_is, is) = λ new first.
          moved stop (fault_at m ts at (state scope new 0 (if first then a_query else after_type))) (fault_at m ts (at + 1) (state scope new 0 a_constraint))
          (with_goes new at first w (word_is_at ts at w first_is) is) (s new)

  -- ---- where the variables end

  alone : (us : List Token) (w : List ℕ) → ((vs : List Token) → us ≡ colon ∷ vs → ⊥) → read_variables (word w ∷ us) ≡ ([], word w ∷ us)
  alone [] w other = refl
  alone (colon ∷ vs) w other = absurd (other vs refl)
  alone (u ∷ vs) w other = refl

  start_alone : begins_conditions ts 0 ≡ true → NoColon ts → read_variables (left_at ts 0) ≡ ([], left_at ts 0)
  start_alone e plain = go (says (codes "with") (word_first 0 (rest_at ts 0))) refl
    where
      go : (b : Bool) → says (codes "with") (word_first 0 (rest_at ts 0)) ≡ b → read_variables (left_at ts 0) ≡ ([], left_at ts 0)
      go true is =
          let part = says_part (word_first 0 (rest_at ts 0)) is in
          let front = left_front ts 0 (word part.0) (word_is_at ts 0 part.0 part.1) in
          ap read_variables front ∙ (alone (left_at ts 1) part.0 plain ∙ ap (λ us. ([], us)) (sym front))
      go false other =
          let none = nothing_left ts 0 (conditions_cases (shown 0 (rest_at ts 0)) (says (codes "with") (word_first 0 (rest_at ts 0))) e other) in
          ap (λ ls. read_variables (bare ls)) none.0 ∙ ap (λ ls. ([], bare ls)) (sym none.0)

  pub without_variables : begins_conditions ts 0 ≡ true → ReadsNew m scope ts 0 []
  without_variables e = record {
    few = omega arith;
    short = omega arith;
    conditions = e;
    first = true;
    from_start = λ is. refl;
    goes = ap (λ s. fault_at m ts 0 (state s 0 0 a_query)) (sym (append-nil scope));
    types = λ plain. ap (λ r. typed m r.0) (start_alone e (plain refl));
    left = λ plain. ap (λ r. r.1) (start_alone e (plain refl));
  }

  pub behind_variables : (next : ℕ) (new : Scope) → ReadsVariables m scope ts next new → begins_conditions ts 0 ≡ false → begins_conditions ts next ≡ true → ReadsNew m scope ts next new
  behind_variables next new h start e = record {
    few = h.few;
    short = h.short;
    conditions = e;
    first = false;
    from_start = λ is. absurd (true≢false (sym is));
    goes = starts_as_variable m scope ts start ∙ h.goes;
    types = λ plain. h.types;
    left = λ plain. h.left;
  }

  pub variables_stop : (stop : QueryStop) → begins_conditions ts 0 ≡ false → VariablesStop m scope ts stop → NewStops m scope ts stop
  variables_stop stop start s = moved stop (fault_at m ts 0 (state scope 0 0 a_query)) (fault_at m ts 0 (state scope 0 0 a_new_variable)) (starts_as_variable m scope ts start) s

  type_halts : (at : ℕ) (ls : List (ℕ × Token)) → (shown at ls ≡ code.Comma → ⊥) → (shown at ls ≡ code.End → ⊥) → says (codes "with") (word_first at ls) ≡ false → Halts at ls after_type
  type_halts at [] no_comma no_end other = absurd (no_end refl)
  type_halts at (q ∷ us) no_comma no_end other =
      λ few. go q.1 (λ e. no_comma (shown_sign at q us few ∙ e)) (sym (ap (λ b. says (codes "with") (if b then None else word_in q.1)) few) ∙ other)
    where
      go : (t : Token) → (sign t ≡ code.Comma → ⊥) → says (codes "with") (word_in t) ≡ false → goes_on after_type t ≡ false
      go comma no_comma other = absurd (no_comma refl)
      go (word w) no_comma other = other
      go t no_comma other = refl

  pub behind_stops : (next : ℕ) (new : Scope) (stop : QueryStop) → ReadsVariables m scope ts next new → begins_conditions ts 0 ≡ false → begins_conditions ts next ≡ false
      → stop ≡ refusal ts.end next (rest_at ts next) → NewStops m scope ts stop
  behind_stops next new stop h start e is =
      let parts = conditions_part m scope ts (shown next (rest_at ts next)) (says (codes "with") (word_first next (rest_at ts next))) e in
      moved stop (fault_at m ts 0 (state scope 0 0 a_query)) (fault_at m ts next (state (scope ++ new) (length new) 0 after_type)) (starts_as_variable m scope ts start ∙ h.goes)
      (subst (λ s. Tells s (fault_at m ts next (state (scope ++ new) (length new) 0 after_type))) (sym is)
      (refused m ts next (state (scope ++ new) (length new) 0 after_type) refl (type_halts next (rest_at ts next) h.ends parts.0 parts.1)))

  -- ---- the whole text

  module _ (s : List ℕ) (list : placed_all ts.list ≡ placed_tokens 0 (cut_at_quotes s)) (end : ts.end ≡ length s) where
    fault_is : query_fault m scope s ≡ fault_at m ts 0 (state scope 0 0 a_query)
    unfolding query_fault
    fault_is =
        ap (λ n. fault_from m n 0 (state scope 0 0 a_query) (placed_tokens 0 (cut_at_quotes s))) (sym end) ∙ ap (fault_from m ts.end 0 (state scope 0 0 a_query)) (sym list)

    tokens_are : fault_at m ts 0 (state scope 0 0 a_query) ≡ None → tokens_of s ≡ Some (left_at ts 0)
    tokens_are e =
        let strays = no_strays m ts.end (rest_at ts 0) 0 (state scope 0 0 a_query) e in
        there (cut_shape s) (subst NoStrays list strays)
      where
        there : (h : List ℕ) × (hs : List (List ℕ)) × (cut_at_quotes s ≡ h ∷ hs) → NoStrays (placed_tokens 0 (cut_at_quotes s)) → tokens_of s ≡ Some (left_at ts 0)
        there (h, hs, shape) strays =
            ap (λ ss. option_and_then proper (alternate ss)) shape
            ∙ (pieces_are_tokens h hs 0 (subst (λ ss. NoStrays (placed_tokens 0 ss)) shape strays)
            ∙ (ap (λ ss. Some (bare (placed_tokens 0 ss))) (sym shape) ∙ ap (λ qs. Some (bare qs)) (sym list)))

    -- the text is this query, and has no fault
    pub query_is_read : (next : ℕ) (new : Scope) (cs : List Constraint) → ReadsNew m scope ts next new → ReadsConditions m (scope ++ new) ts next cs
        → (query_fault m scope s ≡ None) × (query_of m scope s ≡ Some (new, built new cs))
    unfolding query_of
    query_is_read next new cs h c =
        let none : fault_at m ts 0 (state scope 0 0 a_query) ≡ None = h.goes ∙ c.goes (length new) h.first in
        let plain : h.first ≡ true → NoColon ts = λ is us starts. c.no_colon us (ap (λ k. left_at ts (k + 1)) (h.from_start is) ∙ starts) in (
          fault_is ∙ none,
          ap (option_and_then (query_of_tokens m scope)) (tokens_are none)
              ∙ (ap (option_and_then (λ vs. option_map (λ ds. (vs, built vs ds))
              (read_conditions m (scope ++ vs) (read_variables (left_at ts 0)).1))) (h.types plain)
              ∙ ap (option_map (λ ds. (new, built new ds)))
              (ap (read_conditions m (scope ++ new)) (h.left plain) ∙ c.reads)),
        )

    pub new_part_stops : (stop : QueryStop) → NewStops m scope ts stop → Tells stop (query_fault m scope s)
    new_part_stops stop h = moved stop (query_fault m scope s) (fault_at m ts 0 (state scope 0 0 a_query)) fault_is h

    pub conditions_stop : (next : ℕ) (new : Scope) (stop : QueryStop) → ReadsNew m scope ts next new → ConditionsStop m (scope ++ new) ts next stop → Tells stop (query_fault m scope s)
    conditions_stop next new stop h c =
        moved stop (query_fault m scope s) (fault_at m ts next (state (scope ++ new) (length new) 0 (if h.first then a_query else after_type))) (fault_is ∙ h.goes) (c (length new) h.first)
