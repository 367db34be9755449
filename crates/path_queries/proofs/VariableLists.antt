-- New variables after one another, from the first token of a text on.
use Rattle.std.proofs.Common.{◌≡◌, ◌∙◌, sym, ap, subst, refl, ℕ, zero, suc, ◌+◌, ◌-◌, ◌*◌, ◌<◌, ◌≤◌, List, [], ◌∷◌, ◌++◌, length, append_assoc, length-append, Bool, true, false, not, ◌&&◌, ◌||◌, Option, Some, None, arith}
use Rattle.std.specs.Prelude.{if◌then◌else◌, nat_le, option_and_then, option_map, is_some, unwrap_or, codes, bytes_eq}
use Rattle.std.proofs.lemmas.Bool.{true≢false, lt-leb}
use Rattle.std.proofs.lemmas.Bool.Decides.{nat_tests}
use Rattle.std.proofs.lemmas.Slice.Eq.{bytes_eq-Decides}
use Rattle.std.proofs.lemmas.List.{append-nil}
use Rattle.meaning.specs.Texts.{is_name}
use Rattle.meaning.specs.Models.{Model}
use Rattle.meaning.specs.BundlePlaces.{or_else}
use Rattle.meaning.specs.ExpressionFaults.{TextFault, TooMany, Syntax, UnknownName, Repeated}
use Rattle.meaning.specs.QueryTexts.{Token, word, quoted, colon, comma, Scope, type_number, variable_number, read_variables, typed}
use Rattle.meaning.specs.QueryFaults.{a_query, a_new_variable, the_colon, the_type, after_type, goes_on, is_known, is_with, new_variable, follows_colon, is_variable_too_many, stands_in_scope, fault_from, progress_after}
use Rattle.cond_text.specs.Stops.{capped}
use Rattle.path_queries.specs.declared.token.Tokens.{Tokens}
use Rattle.path_queries.specs.declared.token_at.Sign.{Sign}
use Rattle.path_queries.specs.declared.token_at.Sign.TheVariants as code
use Rattle.path_queries.specs.declared.fault.QueryStop.{QueryStop}
use Rattle.path_queries.specs.declared.fault.QueryStop.TheVariants as stops
use Rattle.path_queries.specs.Tokens.{rest_at, left_at, bare}
use Rattle.path_queries.specs.Signs.{sign, shown, word_in, word_first, name_first}
use Rattle.path_queries.specs.Stops.{Tells, place_told, refusal}
use Rattle.path_queries.specs.Lookups.{looked_up, lookup_stop}
use Rattle.path_queries.specs.PathReading.{fault_at}
use Rattle.path_queries.specs.ConstraintReading.{state, says}
use Rattle.path_queries.specs.VariableReading.{behind_colon, declared, undeclared, new_stop, begins_conditions, ReadsVariable, VariableStops, ReadsVariables, VariablesStop, ReadsNew, NewStops}
use Rattle.path_queries.proofs.FirstTokens.{IsAt, NameAt, left_front, colon_at, comma_at, name_is_at, not_many}
use Rattle.path_queries.proofs.FaultSteps.{takes, takes_at, Halts, refused, refused_new, OnlyNames, some_if, lookup_takes, lookup_stops, moved}
use Rattle.path_queries.proofs.ConstraintLaws.{shown_sign}

-- ---- variables after one another

module _ (m : Model) (scope : Scope) (ts : Tokens) where
  -- what follows a variable
  pub rest_variables : List Token → List (List ℕ × List ℕ) × List Token
  rest_variables (comma ∷ us) = read_variables us
  rest_variables us = ([], us)

  variable_then_rest : (x t : List ℕ) (us : List Token)
      → read_variables (word x ∷ colon ∷ word t ∷ us) ≡ ((x, t) ∷ (rest_variables us).0, (rest_variables us).1)
  unfolding rest_variables
  variable_then_rest x t [] = refl
  variable_then_rest x t (comma ∷ us) = refl
  variable_then_rest x t (u ∷ us) = refl

  -- the variables so far
  pub record Variables (next : ℕ) (new : Scope) : Type 0 where
    pub few : length new ≤ 3
    pub places : next + 1 ≡ 4 * length new
    pub within : next ≤ length ts.list
    pub goes : fault_at m ts 0 (state scope 0 0 a_new_variable) ≡ fault_at m ts next (state (scope ++ new) (length new) 0 after_type)
    pub types : typed m (read_variables (left_at ts 0)).0 ≡ option_map (λ vs. new ++ vs) (typed m (rest_variables (left_at ts next)).0)
    pub left : (read_variables (left_at ts 0)).1 ≡ (rest_variables (left_at ts next)).1

  -- the types of a variable and of those behind it
  one_typed : (x t : List ℕ) (i : ℕ) (vs : List (List ℕ × List ℕ)) → type_number m t ≡ Some i → typed m ((x, t) ∷ vs) ≡ option_map (λ rest. (x, i) ∷ rest) (typed m vs)
  one_typed x t i vs e = ap (option_and_then (λ n. option_map (λ rest. (x, n) ∷ rest) (typed m vs))) e

  pub first_variable : (v : List ℕ × ℕ) → ReadsVariable m scope [] ts 0 v → Variables 3 (v ∷ [])
  first_variable v h =
      let read = ap read_variables h.left ∙ variable_then_rest v.0 h.type_name (left_at ts 3) in
      record {
        few = omega arith;
        places = refl;
        within = (let i = h.within in omega arith);
        goes = ap (λ s. fault_at m ts 0 (state s 0 0 a_new_variable)) (sym (append-nil scope)) ∙ (h.goes ∙ ap (λ s. fault_at m ts 3 (state (s ++ v ∷ []) 1 0 after_type)) (append-nil scope));
        types = ap (λ r. typed m r.0) read ∙ one_typed v.0 h.type_name v.1 (rest_variables (left_at ts 3)).0 h.typed;
        left = ap (λ r. r.1) read;
      }

  comma_goes : (at : ℕ) (new : Scope) → IsAt ts at comma
      → fault_at m ts at (state (scope ++ new) (length new) 0 after_type) ≡ fault_at m ts (at + 1) (state (scope ++ new) (length new) 0 a_new_variable)
  comma_goes at new is = takes m ts at comma (state (scope ++ new) (length new) 0 after_type) is refl refl refl

  both_mapped : (new : Scope) (v : List ℕ × ℕ) (o : Option Scope) → option_map (λ vs. new ++ vs) (option_map (λ rest. v ∷ rest) o) ≡ option_map (λ vs. (new ++ v ∷ []) ++ vs) o
  both_mapped new v None = refl
  both_mapped new v (Some vs) = ap Some (sym (append_assoc new (v ∷ []) vs))

  pub variables_go_on : (next : ℕ) (new : Scope) (v : List ℕ × ℕ) → Variables next new → shown next (rest_at ts next) ≡ code.Comma → ReadsVariable m scope new ts (next + 1) v
      → Variables (next + 4) (new ++ v ∷ [])
  unfolding rest_variables
  variables_go_on next new v h shows r =
      let is = comma_at ts next shows in
      let four : next + 1 + 3 ≡ next + 4 = omega arith in
      let count : length (new ++ v ∷ []) ≡ length new + 1 = (let l = length-append new (v ∷ []) in omega arith) in
      let read = ap rest_variables (left_front ts next comma is) ∙ (ap read_variables r.left ∙ variable_then_rest v.0 r.type_name (left_at ts (next + 1 + 3))) in
      let types = h.types ∙ (ap (λ q. option_map (λ vs. new ++ vs) (typed m q.0)) read
      ∙ (ap (option_map (λ vs. new ++ vs)) (one_typed v.0 r.type_name v.1 (rest_variables (left_at ts (next + 1 + 3))).0 r.typed)
      ∙ both_mapped new v (typed m (rest_variables (left_at ts (next + 1 + 3))).0))) in
      record {
        few = (let i = r.few in omega arith);
        places = (let i = h.places in omega arith);
        within = (let i = r.within in omega arith);
        goes = h.goes ∙ (comma_goes next new is ∙ (r.goes
            ∙ (ap (λ k. fault_at m ts k (state ((scope ++ new) ++ v ∷ []) (length new + 1) 0 after_type)) four
            ∙ (ap (λ s. fault_at m ts (next + 4) (state s (length new + 1) 0 after_type)) (append_assoc scope new (v ∷ []))
            ∙ ap (λ k. fault_at m ts (next + 4) (state (scope ++ (new ++ v ∷ [])) k 0 after_type)) (sym count)))));
        types = types ∙ ap (λ k. option_map (λ vs. (new ++ v ∷ []) ++ vs) (typed m (rest_variables (left_at ts k)).0)) four;
        left = h.left ∙ (ap (λ q. q.1) read ∙ ap (λ k. (rest_variables (left_at ts k)).1) four);
      }

  pub variables_end : (next : ℕ) (new : Scope) → Variables next new → (shown next (rest_at ts next) ≡ code.Comma → ⊥) → ReadsVariables m scope ts next new
  unfolding rest_variables
  variables_end next new h other =
      let few_tokens : next < 256 = (let i = h.places in let j = h.few in omega arith) in
      let last = no_comma (rest_at ts next) few_tokens other in
      record {
        few = h.few;
        short = (let i = h.places in let j = h.few in omega arith);
        within = h.within;
        ends = other;
        goes = h.goes;
        types = h.types ∙ (ap (λ q. option_map (λ vs. new ++ vs) (typed m q.0)) last ∙ ap Some (append-nil new));
        left = h.left ∙ ap (λ q. q.1) last;
      }
    where
      no_comma : (ls : List (ℕ × Token)) → next < 256 → (shown next ls ≡ code.Comma → ⊥) → rest_variables (bare ls) ≡ ([], bare ls)
      no_comma [] few other = refl
      no_comma ((k, comma) ∷ us) few other = absurd (other (shown_sign next (k, comma) us (not_many next few)))
      no_comma (q ∷ us) few other = refl

  pub first_variable_stops : (stop : QueryStop) → VariableStops m scope [] ts 0 stop → VariablesStop m scope ts stop
  first_variable_stops stop h = subst (λ s. Tells stop (fault_at m ts 0 (state s 0 0 a_new_variable))) (append-nil scope) h

  pub next_variable_stops : (next : ℕ) (new : Scope) (stop : QueryStop) → Variables next new → shown next (rest_at ts next) ≡ code.Comma
      → VariableStops m scope new ts (next + 1) stop → VariablesStop m scope ts stop
  next_variable_stops next new stop h shows s =
      moved stop (fault_at m ts 0 (state scope 0 0 a_new_variable)) (fault_at m ts (next + 1) (state (scope ++ new) (length new) 0 a_new_variable))
      (h.goes ∙ comma_goes next new (comma_at ts next shows)) s

  -- ---- the start of a query

  pub conditions_part : (s : Sign) (b : Bool) → (elim s as (λ _. Bool) [ code.End ↦ true | _ ↦ b ]) ≡ false → (s ≡ code.End → ⊥) × (b ≡ false)
  conditions_part code.End b e = absurd (true≢false e)
  conditions_part s b e = ((λ is. cc), e)

  -- behind a name that is not `with`, a query goes on as a new variable does
  pub starts_as_variable : begins_conditions ts 0 ≡ false → fault_at m ts 0 (state scope 0 0 a_query) ≡ fault_at m ts 0 (state scope 0 0 a_new_variable)
  starts_as_variable e =
      let parts = conditions_part (shown 0 (rest_at ts 0)) (says (codes "with") (word_first 0 (rest_at ts 0))) e in go (rest_at ts 0) parts.0 parts.1
    where
      go : (ls : List (ℕ × Token)) → (shown 0 ls ≡ code.End → ⊥) → says (codes "with") (word_first 0 ls) ≡ false
          → fault_from m ts.end 0 (state scope 0 0 a_query) ls ≡ fault_from m ts.end 0 (state scope 0 0 a_new_variable) ls
      go [] some other = absurd (some refl)
      go ((k, word w) ∷ us) some other = rw other refl
      go (q ∷ us) some other = refl
