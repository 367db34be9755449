-- Constraints after one another, to the end of a text.
use Rattle.std.proofs.Common.{◌≡◌, ◌∙◌, sym, ap, subst, refl, ℕ, zero, suc, ◌+◌, ◌-◌, ◌*◌, ◌<◌, ◌≤◌, List, [], ◌∷◌, ◌++◌, length, append_assoc, length-append, Bool, true, false, not, ◌&&◌, ◌||◌, Option, Some, None, arith}
use Rattle.std.specs.Prelude.{if◌then◌else◌, nat_le, option_and_then, option_map}
use Rattle.std.proofs.lemmas.Bool.{true≢false, lt-leb}
use Rattle.std.proofs.lemmas.Bool.Decides.{nat_tests}
use Rattle.std.proofs.lemmas.List.{append-nil}
use Rattle.meaning.specs.Models.{Model}
use Rattle.meaning.specs.Queries.{Constraint}
use Rattle.meaning.specs.BundlePlaces.{or_else}
use Rattle.meaning.specs.ExpressionFaults.{TextFault, TooMany, Syntax, UnknownName, Repeated}
use Rattle.meaning.specs.QueryTexts.{Token, comma, strange, Scope, read_constraint, read_constraints, more_constraints}
use Rattle.meaning.specs.QueryFaults.{a_constraint, after_constraint, goes_on, is_stray, is_known, fault_from, progress_after}
use Rattle.cond_text.specs.Stops.{capped}
use Rattle.path_queries.specs.declared.token.Tokens.{Tokens}
use Rattle.path_queries.specs.declared.token_at.Sign.TheVariants as code
use Rattle.path_queries.specs.declared.fault.QueryStop.{QueryStop}
use Rattle.path_queries.specs.declared.fault.QueryStop.TheVariants as stops
use Rattle.path_queries.specs.Tokens.{rest_at, left_at, bare}
use Rattle.path_queries.specs.Signs.{sign, shown}
use Rattle.path_queries.specs.Stops.{Tells, refusal}
use Rattle.path_queries.specs.PathReading.{fault_at, AreFew, From}
use Rattle.path_queries.specs.ConstraintReading.{state, ReadsConstraint, ReadsConstraints, ConstraintStops, ConstraintsStop, seventeenth}
use Rattle.path_queries.proofs.FirstTokens.{IsAt, left_front, left_length, comma_at, nothing_left}
use Rattle.path_queries.proofs.FaultSteps.{takes, Halts, refused, moved}
use Rattle.path_queries.proofs.ConstraintLaws.{shown_sign}

module _ (m : Model) (scope : Scope) (ts : Tokens) where
  -- what follows a constraint
  pub rest_constraints : ℕ → List Token → Option (List Constraint)
  rest_constraints n [] = Some []
  rest_constraints n (comma ∷ us) = read_constraints n m scope us
  rest_constraints n us = None

  more_is_rest : (n : ℕ) (c : Constraint) (us : List Token) → more_constraints (suc n) m scope (c, us) ≡ option_map (λ cs. c ∷ cs) (rest_constraints n us)
  unfolding rest_constraints
  more_is_rest n c [] = refl
  more_is_rest n c (comma ∷ us) = refl
  more_is_rest n c (u ∷ us) = refl

  -- a constraint in front of what follows it
  one_more : (at next : ℕ) (c : Constraint) (k : ℕ) (cs : List Constraint) → read_constraint m scope (left_at ts at) ≡ Some (c, left_at ts next)
      → From k (λ n. rest_constraints n (left_at ts next)) (Some cs) → From (k + 2) (λ n. read_constraints n m scope (left_at ts at)) (Some (c ∷ cs))
  one_more at next c k cs reads from zero above = absurd (omega arith)
  one_more at next c k cs reads from (suc zero) above = absurd (omega arith)
  one_more at next c k cs reads from (suc (suc n)) above =
      ap (option_and_then (more_constraints (suc n) m scope)) reads ∙ (more_is_rest n c (left_at ts next) ∙ ap (option_map (λ ds. c ∷ ds)) (from n (omega arith)))

  -- the constraints so far, from one place to another
  pub record SoFar (at next : ℕ) (found : List Constraint) : Type 0 where
    pub beyond : at < next
    pub within : next ≤ length ts.list
    pub short : next ≤ 256
    pub goes : (new : ℕ) → fault_at m ts at (state scope new 0 a_constraint) ≡ fault_at m ts next (state scope new (length found) after_constraint)
    pub reads : AreFew ts → (k : ℕ) (cs : List Constraint) → From k (λ n. rest_constraints n (left_at ts next)) (Some cs)
        → From (2 * (next - at) + k) (λ n. read_constraints n m scope (left_at ts at)) (Some (found ++ cs))

  pub first_of_list : (at next : ℕ) (c : Constraint) → ReadsConstraint m scope ts at next c → SoFar at next (c ∷ [])
  first_of_list at next c h = record {
    beyond = h.beyond;
    within = h.within;
    short = h.short;
    goes = λ new. h.goes new 0 refl;
    reads = λ few k cs from. λ n above. one_more at next c k cs (h.reads few) from n (let i = h.beyond in let g : k + 2 ≤ n = omega arith in g);
  }

  comma_goes : (new k at : ℕ) → IsAt ts at comma → fault_at m ts at (state scope new k after_constraint) ≡ fault_at m ts (at + 1) (state scope new k a_constraint)
  comma_goes new k at is = takes m ts at comma (state scope new k after_constraint) is refl refl refl

  pub list_goes_on : (at next after : ℕ) (found : List Constraint) (c : Constraint) → SoFar at next found → shown next (rest_at ts next) ≡ code.Comma → length found < 16
      → ReadsConstraint m scope ts (next + 1) after c → SoFar at after (found ++ c ∷ [])
  unfolding rest_constraints
  list_goes_on at next after found c h shows few_found r =
      let is = comma_at ts next shows in
      let count : length found + 1 ≡ length (found ++ c ∷ []) = (let l = length-append found (c ∷ []) in omega arith) in
      record {
        beyond = (let i = h.beyond in let j = r.beyond in omega arith);
        within = r.within;
        short = r.short;
        goes = λ new. h.goes new ∙ (comma_goes new (length found) next is ∙ (r.goes new (length found) (lt-leb 16 (length found) few_found)
            ∙ ap (λ k. fault_at m ts after (state scope new k after_constraint)) count));
        reads = λ few k cs from. λ n above.
            h.reads few (k + 2) (c ∷ cs) (behind is few k cs from) n (let i = h.beyond in let j = r.beyond in let g : 2 * (next - at) + (k + 2) ≤ n = omega arith in g)
            ∙ ap Some (sym (append_assoc found (c ∷ []) cs));
      }
    where
      behind : IsAt ts next comma → AreFew ts → (k : ℕ) (cs : List Constraint) → From k (λ n. rest_constraints n (left_at ts after)) (Some cs)
          → From (k + 2) (λ n. rest_constraints n (left_at ts next)) (Some (c ∷ cs))
      behind is few k cs from n above =
          ap (rest_constraints n) (left_front ts next comma is) ∙ one_more (next + 1) after c k cs (r.reads few) from n above

  pub list_ends : (at next : ℕ) (found : List Constraint) → SoFar at next found → shown next (rest_at ts next) ≡ code.End → ReadsConstraints m scope ts at found
  unfolding rest_constraints
  list_ends at next found h shows =
      let none = nothing_left ts next shows in
      let few : AreFew ts = (let i = none.1 in let j = h.short in omega arith) in
      record {
        few = few;
        goes = λ new. h.goes new ∙ ap (fault_from m ts.end next (state scope new (length found) after_constraint)) none.0;
        reads = h.reads few 0 [] (λ n above. ap (λ us. rest_constraints n (bare us)) none.0) (2 * length (left_at ts at) + 2)
            (let long = left_length ts at in let i = h.beyond in let j = h.within in let g : 2 * (next - at) + 0 ≤ 2 * length (left_at ts at) + 2 = omega arith in g)
            ∙ ap Some (append-nil found);
      }

  -- ---- stops

  end_halts : (at : ℕ) (ls : List (ℕ × Token)) → (shown at ls ≡ code.Comma → ⊥) → (shown at ls ≡ code.End → ⊥) → Halts at ls after_constraint
  end_halts at [] no_comma no_end = absurd (no_end refl)
  end_halts at (q ∷ us) no_comma no_end = λ few. go q.1 (λ e. no_comma (shown_sign at q us few ∙ e))
    where
      go : (t : Token) → (sign t ≡ code.Comma → ⊥) → goes_on after_constraint t ≡ false
      go comma other = absurd (other refl)
      go t other = refl

  pub list_end_stops : (at next : ℕ) (found : List Constraint) (stop : QueryStop) → SoFar at next found → (shown next (rest_at ts next) ≡ code.Comma → ⊥)
      → (shown next (rest_at ts next) ≡ code.End → ⊥) → stop ≡ refusal ts.end next (rest_at ts next) → ConstraintsStop m scope ts at stop
  list_end_stops at next found stop h no_comma no_end is = λ new.
      moved stop (fault_at m ts at (state scope new 0 a_constraint)) (fault_at m ts next (state scope new (length found) after_constraint)) (h.goes new)
      (subst (λ s. Tells s (fault_at m ts next (state scope new (length found) after_constraint))) (sym is)
      (refused m ts next (state scope new (length found) after_constraint) refl (end_halts next (rest_at ts next) no_comma no_end)))

  pub first_stops : (at : ℕ) (stop : QueryStop) → ConstraintStops m scope ts at stop → ConstraintsStop m scope ts at stop
  first_stops at stop s = λ new. s new 0 refl

  pub next_stops : (at next : ℕ) (found : List Constraint) (stop : QueryStop) → SoFar at next found → shown next (rest_at ts next) ≡ code.Comma → length found < 16
      → ConstraintStops m scope ts (next + 1) stop → ConstraintsStop m scope ts at stop
  next_stops at next found stop h shows few_found s = λ new.
      moved stop (fault_at m ts at (state scope new 0 a_constraint)) (fault_at m ts (next + 1) (state scope new (length found) a_constraint))
      (h.goes new ∙ comma_goes new (length found) next (comma_at ts next shows)) (s new (length found) (lt-leb 16 (length found) few_found))

  seventeenth_tells : (k at : ℕ) (ls : List (ℕ × Token)) (new : ℕ) → nat_le 16 k ≡ true → Tells (seventeenth ts.end at ls) (fault_from m ts.end at (state scope new k a_constraint) ls)
  seventeenth_tells k at [] new many = (ts.end, refl, refl)
  seventeenth_tells k at (q ∷ us) new many = go (nat_le 256 at) (nat_le 16 k) many q.1
    where
      go : (a b : Bool) → b ≡ true → (t : Token)
          → Tells (if a then stops.TooMany (capped q.0) else (if is_stray t then stops.Syntax (capped q.0) else stops.TooMany (capped q.0)))
          (or_else (if a || false || (b && not (is_stray t)) then Some (TooMany q.0) else (if not (goes_on a_constraint t) then Some (Syntax q.0)
          else (if not (is_known m (state scope new k a_constraint) a_constraint t) then Some (UnknownName q.0) else None)))
          (fault_from m ts.end (at + 1) (progress_after m (state scope new k a_constraint) a_constraint t) us))
      go true b is t = (q.0, refl, refl)
      go false true is strange = (q.0, refl, refl)
      go false true is t = (q.0, refl, refl)
      go false false is t = absurd cc

  pub seventeenth_stops : (at next : ℕ) (found : List Constraint) (stop : QueryStop) → SoFar at next found → shown next (rest_at ts next) ≡ code.Comma → 16 ≤ length found
      → stop ≡ seventeenth ts.end (next + 1) (rest_at ts (next + 1)) → ConstraintsStop m scope ts at stop
  seventeenth_stops at next found stop h shows many is = λ new.
      moved stop (fault_at m ts at (state scope new 0 a_constraint)) (fault_at m ts (next + 1) (state scope new (length found) a_constraint))
      (h.goes new ∙ comma_goes new (length found) next (comma_at ts next shows))
      (subst (λ s. Tells s (fault_at m ts (next + 1) (state scope new (length found) a_constraint))) (sym is)
      (seventeenth_tells (length found) (next + 1) (rest_at ts (next + 1)) new (let e : nat_le 16 (length found) ≡ true = grind (arith, nat_tests) in e)))
