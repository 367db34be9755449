-- New variables between two places of the tokens of a text.
use Rattle.std.proofs.Common.{◌≡◌, ◌∙◌, sym, ap, subst, refl, ℕ, zero, suc, ◌+◌, ◌-◌, ◌*◌, ◌<◌, ◌≤◌, List, [], ◌∷◌, ◌++◌, length, append_assoc, length-append, Bool, true, false, not, ◌&&◌, ◌||◌, Option, Some, None, arith}
use Rattle.std.specs.Prelude.{if◌then◌else◌, nat_le, option_and_then, option_map, is_some, unwrap_or, codes, bytes_eq}
use Rattle.std.proofs.lemmas.Bool.{true≢false, lt-leb}
use Rattle.std.proofs.lemmas.Bool.Decides.{nat_tests}
use Rattle.std.proofs.lemmas.Slice.Eq.{bytes_eq-Decides}
use Rattle.std.proofs.lemmas.List.{append-nil}
use Rattle.meaning.specs.Texts.{is_name}
use Rattle.meaning.specs.Models.{Model}
use Rattle.meaning.specs.BundlePlaces.{or_else}
use Rattle.meaning.specs.ExpressionFaults.{TextFault, TooMany, Syntax, UnknownName, Repeated}
use Rattle.meaning.specs.QueryTexts.{Token, word, quoted, colon, comma, Scope, type_number, variable_number, read_variables, typed}
use Rattle.meaning.specs.QueryFaults.{a_query, a_new_variable, the_colon, the_type, after_type, goes_on, is_known, is_with, new_variable, follows_colon, is_variable_too_many, stands_in_scope, fault_from, progress_after}
use Rattle.cond_text.specs.Stops.{capped}
use Rattle.path_queries.specs.declared.token.Tokens.{Tokens}
use Rattle.path_queries.specs.declared.token_at.Sign.{Sign}
use Rattle.path_queries.specs.declared.token_at.Sign.TheVariants as code
use Rattle.path_queries.specs.declared.fault.QueryStop.{QueryStop}
use Rattle.path_queries.specs.declared.fault.QueryStop.TheVariants as stops
use Rattle.path_queries.specs.Tokens.{rest_at, left_at, bare}
use Rattle.path_queries.specs.Signs.{sign, shown, word_in, word_first, name_first}
use Rattle.path_queries.specs.Stops.{Tells, place_told, refusal}
use Rattle.path_queries.specs.Lookups.{looked_up, lookup_stop}
use Rattle.path_queries.specs.PathReading.{fault_at}
use Rattle.path_queries.specs.ConstraintReading.{state, says}
use Rattle.path_queries.specs.VariableReading.{behind_colon, declared, undeclared, new_stop, begins_conditions, ReadsVariable, VariableStops, ReadsVariables, VariablesStop, ReadsNew, NewStops}
use Rattle.path_queries.proofs.FirstTokens.{IsAt, NameAt, left_front, colon_at, comma_at, name_is_at, not_many}
use Rattle.path_queries.proofs.FaultSteps.{new_name_stops, takes, takes_at, Halts, refused, refused_new, OnlyNames, some_if, lookup_takes, lookup_stops, moved}
use Rattle.path_queries.proofs.ConstraintLaws.{shown_sign}

-- a colon shows there, and the name stands in front of it
declared_parts : (s : Sign) (o : Option (List ℕ)) (w : List ℕ) → behind_colon s o ≡ Some w → (s ≡ code.Colon) × (o ≡ Some w)
declared_parts code.Colon o w e = (refl, e)
declared_parts s o w e = absurd cc

undeclared_parts : (s : Sign) (w : List ℕ) → behind_colon s (Some w) ≡ None → s ≡ code.Colon → ⊥
undeclared_parts code.Colon w e is = cc
undeclared_parts s w e is = cc

pub with_no_name : (w : List ℕ) → is_with w ≡ true → is_name w ≡ false
with_no_name w e = ap is_name ((bytes_eq-Decides w (codes "with")).0 e)

module _ (m : Model) (scope new : Scope) (ts : Tokens) where
  -- the name of a new variable stands at a place, and a colon behind it
  record DeclaredAt (at : ℕ) (w : List ℕ) : Type 0 where
    named : NameAt ts at w
    behind : IsAt ts (at + 1) colon
    variable : new_variable a_new_variable (word w) (rest_at ts (at + 1)) ≡ Some w

  declared_is_at : (at : ℕ) (w : List ℕ) → declared ts at ≡ Some w → DeclaredAt at w
  declared_is_at at w e =
      let parts = declared_parts (shown (at + 1) (rest_at ts (at + 1))) (name_first at (rest_at ts at)) w e in
      let named = name_is_at ts at w parts.1 in
      let behind = colon_at ts (at + 1) parts.0 in
      record {
        named = named;
        behind = behind;
        variable = ap (λ b. if b && follows_colon (rest_at ts (at + 1)) then Some w else None) named.proper ∙ ap (λ ls. if follows_colon ls then Some w else None) behind.front;
      }

  colon_goes : (at : ℕ) (w : List ℕ) → DeclaredAt at w → length new < 3 → variable_number (scope ++ new) w ≡ None
      → fault_at m ts at (state (scope ++ new) (length new) 0 a_new_variable) ≡ fault_at m ts (at + 2) (state (scope ++ new) (length new) 0 (the_type w))
  colon_goes at w d few absent =
      takes_at m ts at (word w) (state (scope ++ new) (length new) 0 a_new_variable) d.named.stands
      (ap (is_variable_too_many (state (scope ++ new) (length new) 0 a_new_variable)) d.variable ∙ lt-leb 3 (length new) few) refl d.named.proper refl
      (ap (stands_in_scope (state (scope ++ new) (length new) 0 a_new_variable)) d.variable ∙ ap is_some absent)
      ∙ (takes m ts (at + 1) colon (state (scope ++ new) (length new) 0 (the_colon w)) d.behind refl refl refl
      ∙ ap (λ i. fault_at m ts i (state (scope ++ new) (length new) 0 (the_type w))) (let e : at + 1 + 1 ≡ at + 2 = omega arith in e))

  -- no fault at the name
  record IsNew (w : List ℕ) : Type 0 where
    few : length new < 3
    absent : variable_number (scope ++ new) w ≡ None

  is_new : (w : List ℕ) (place : ℕ) → new_stop (length new) (variable_number (scope ++ new) w) place ≡ None → IsNew w
  is_new w place e = go (nat_le 3 (length new)) refl (variable_number (scope ++ new) w) refl e
    where
      go : (b : Bool) → nat_le 3 (length new) ≡ b → (o : Option ℕ) → variable_number (scope ++ new) w ≡ o
          → (if b then Some (stops.TooMany place) else (if is_some o then Some (stops.Repeated place) else None)) ≡ None → IsNew w
      go true many o number e = absurd cc
      go false many (Some n) number e = absurd cc
      go false many None number e = record { few = (let f : length new < 3 = grind (arith, nat_tests) in f); absent = number }

  pub variable_reads : (at : ℕ) (w : List ℕ) (place i : ℕ) → declared ts at ≡ Some w → new_stop (length new) (variable_number (scope ++ new) w) place ≡ None
      → looked_up (type_number m) (at + 2) (rest_at ts (at + 2)) ≡ Some i → ReadsVariable m scope new ts at (w, i)
  variable_reads at w place i e none number = there (declared_is_at at w e) (is_new w place none) (lookup_takes m ts (at + 2) (type_number m) i number)
    where
      three : at + 2 + 1 ≡ at + 3
      three = omega arith

      there : DeclaredAt at w → IsNew w → (t : List ℕ) × NameAt ts (at + 2) t × (type_number m t ≡ Some i) → ReadsVariable m scope new ts at (w, i)
      there d n (t, named, is) = record {
        few = n.few;
        within = (let j = named.stands.inside in omega arith);
        goes = colon_goes at w d n.few n.absent
            ∙ (takes m ts (at + 2) (word t) (state (scope ++ new) (length new) 0 (the_type w)) named.stands refl named.proper (ap is_some is)
            ∙ (ap (λ o. fault_at m ts (at + 2 + 1) (state ((scope ++ new) ++ (w, unwrap_or o 0) ∷ []) (length new + 1) 0 after_type)) is
            ∙ ap (λ k. fault_at m ts k (state ((scope ++ new) ++ (w, i) ∷ []) (length new + 1) 0 after_type)) three));
        type_name = t;
        left = left_front ts at (word w) d.named.stands ∙ ap (λ us. word w ∷ us) (left_front ts (at + 1) colon d.behind ∙ ap (λ us. colon ∷ us)
            (ap (left_at ts) (let f : at + 1 + 1 ≡ at + 2 = omega arith in f) ∙ (left_front ts (at + 2) (word t) named.stands ∙ ap (λ k. word t ∷ left_at ts k) three)));
        typed = is;
      }

  -- ---- stops

  type_names : (w : List ℕ) (at : ℕ) (ls : List (ℕ × Token)) → OnlyNames at ls (the_type w)
  type_names w at [] = refl
  type_names w at (q ∷ us) = λ few. go q.1
    where
      go : (t : Token) → goes_on (the_type w) t ≡ is_some (option_and_then (λ v. if is_name v then Some v else None) (word_in t))
      go (word v) = sym (some_if (is_name v) v)
      go t = refl

  pub type_stops : (at : ℕ) (w : List ℕ) (place : ℕ) (stop : QueryStop) → declared ts at ≡ Some w → new_stop (length new) (variable_number (scope ++ new) w) place ≡ None
      → looked_up (type_number m) (at + 2) (rest_at ts (at + 2)) ≡ None → stop ≡ lookup_stop ts.end (at + 2) (rest_at ts (at + 2)) → VariableStops m scope new ts at stop
  type_stops at w place stop e none number is =
      let n = is_new w place none in
      moved stop (fault_at m ts at (state (scope ++ new) (length new) 0 a_new_variable)) (fault_at m ts (at + 2) (state (scope ++ new) (length new) 0 (the_type w)))
      (colon_goes at w (declared_is_at at w e) n.few n.absent)
      (subst (λ s. Tells s (fault_at m ts (at + 2) (state (scope ++ new) (length new) 0 (the_type w)))) (sym is)
      (lookup_stops m ts (at + 2) (state (scope ++ new) (length new) 0 (the_type w)) (type_number m) number refl (type_names w (at + 2) (rest_at ts (at + 2))) (λ t. refl)))

  pub new_stops : (at : ℕ) (w : List ℕ) (stop : QueryStop) → declared ts at ≡ Some w
      → new_stop (length new) (variable_number (scope ++ new) w) (place_told ts.end (rest_at ts at)) ≡ Some stop → VariableStops m scope new ts at stop
  new_stops at w stop e is =
      let d = declared_is_at at w e in
      new_name_stops m ts at (word w) (state (scope ++ new) (length new) 0 a_new_variable) w stop d.named.stands refl d.named.proper refl d.variable is

  name_halts : (at : ℕ) (ls : List (ℕ × Token)) → name_first at ls ≡ None → Halts at ls a_new_variable
  name_halts at [] none = refl
  name_halts at (q ∷ us) none = λ few. go q.1 (sym (ap (λ b. option_and_then (λ w. if is_name w then Some w else None) (if b then None else word_in q.1)) few) ∙ none)
    where
      go : (t : Token) → option_and_then (λ w. if is_name w then Some w else None) (word_in t) ≡ None → goes_on a_new_variable t ≡ false
      go (word w) none = sym (some_if (is_name w) w) ∙ ap is_some none
      go t none = refl

  no_variable : (t : Token) (us : List (ℕ × Token)) → goes_on a_new_variable t ≡ false → is_variable_too_many (state (scope ++ new) (length new) 0 a_new_variable) (new_variable a_new_variable t us) ≡ false
  no_variable (word w) us e = ap (λ b. is_variable_too_many (state (scope ++ new) (length new) 0 a_new_variable) (if b && follows_colon us then Some w else None)) e
  no_variable t us e = refl

  colon_halts : (w : List ℕ) (at : ℕ) (ls : List (ℕ × Token)) → (shown at ls ≡ code.Colon → ⊥) → Halts at ls (the_colon w)
  colon_halts w at [] other = refl
  colon_halts w at (q ∷ us) other = λ few. go q.1 (λ e. other (shown_sign at q us few ∙ e))
    where
      go : (t : Token) → (sign t ≡ code.Colon → ⊥) → goes_on (the_colon w) t ≡ false
      go colon other = absurd (other refl)
      go t other = refl

  no_colon : (at : ℕ) (ls : List (ℕ × Token)) → at < 256 → (shown at ls ≡ code.Colon → ⊥) → follows_colon ls ≡ false
  no_colon at [] few other = refl
  no_colon at ((k, colon) ∷ us) few other = absurd (other (shown_sign at (k, colon) us (not_many at few)))
  no_colon at (q ∷ us) few other = refl

  pub undeclared_stops : (at : ℕ) (stop : QueryStop) → at ≤ 12 → declared ts at ≡ None → stop ≡ undeclared ts at → VariableStops m scope new ts at stop
  undeclared_stops at stop short none is = subst (λ s. Tells s (fault_at m ts at (state (scope ++ new) (length new) 0 a_new_variable))) (sym is) (go (name_first at (rest_at ts at)) refl none)
    where
      go : (o : Option (List ℕ)) → name_first at (rest_at ts at) ≡ o → behind_colon (shown (at + 1) (rest_at ts (at + 1))) o ≡ None
          → Tells (if is_some o then refusal ts.end (at + 1) (rest_at ts (at + 1)) else refusal ts.end at (rest_at ts at))
          (fault_at m ts at (state (scope ++ new) (length new) 0 a_new_variable))
      go None first none =
          refused_new m ts at (state (scope ++ new) (length new) 0 a_new_variable) (rest_at ts at) (name_halts at (rest_at ts at) first) no_variable (λ t. refl)
      go (Some w) first none =
          let named = name_is_at ts at w first in
          let other = undeclared_parts (shown (at + 1) (rest_at ts (at + 1))) w none in
          let lone : new_variable a_new_variable (word w) (rest_at ts (at + 1)) ≡ None =
          ap (λ b. if is_name w && b then Some w else None) (no_colon (at + 1) (rest_at ts (at + 1)) (omega arith) other) ∙ ap (λ b. if b && false then Some w else None) named.proper in
          moved (refusal ts.end (at + 1) (rest_at ts (at + 1))) (fault_at m ts at (state (scope ++ new) (length new) 0 a_new_variable))
          (fault_at m ts (at + 1) (state (scope ++ new) (length new) 0 (the_colon w)))
          (takes_at m ts at (word w) (state (scope ++ new) (length new) 0 a_new_variable) named.stands
          (ap (is_variable_too_many (state (scope ++ new) (length new) 0 a_new_variable)) lone) refl named.proper refl
          (ap (stands_in_scope (state (scope ++ new) (length new) 0 a_new_variable)) lone))
          (refused m ts (at + 1) (state (scope ++ new) (length new) 0 (the_colon w)) refl (colon_halts w (at + 1) (rest_at ts (at + 1)) other))
