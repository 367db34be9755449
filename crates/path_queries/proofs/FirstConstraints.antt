-- A constraint from its first token on.
use Rattle.std.proofs.Common.{◌≡◌, ◌∙◌, sym, ap, subst, refl, ℕ, suc, ◌+◌, ◌<◌, ◌≤◌, List, [], ◌∷◌, length, Bool, true, false, not, ◌&&◌, ◌||◌, Option, Some, None, arith}
use Rattle.std.specs.Prelude.{if◌then◌else◌, nat_le, option_and_then, is_some, unwrap_or, codes, bytes_eq}
use Rattle.meaning.specs.Texts.{is_name}
use Rattle.meaning.specs.Models.{Model}
use Rattle.meaning.specs.Queries.{Path, Constraint, Walks}
use Rattle.meaning.specs.QueryTexts.{Token, word, open_bracket, dot, Scope, variable_number, read_constraint}
use Rattle.meaning.specs.QueryFaults.{a_step, an_attribute, a_negated_walk, after_variable, a_constraint, after_constraint, goes_on, is_known, is_stray, number_of}
use Rattle.path_queries.specs.declared.token.Tokens.{Tokens}
use Rattle.path_queries.specs.declared.token_at.Sign.TheVariants as code
use Rattle.path_queries.specs.declared.fault.QueryStop.{QueryStop}
use Rattle.path_queries.specs.Tokens.{rest_at, left_at}
use Rattle.path_queries.specs.Signs.{sign, shown, word_in, word_first}
use Rattle.path_queries.specs.Stops.{Tells, refusal}
use Rattle.path_queries.specs.Lookups.{looked_up, lookup_stop}
use Rattle.path_queries.specs.PathReading.{fault_at, AreFew}
use Rattle.path_queries.specs.ConstraintReading.{state, says, ReadsWalk, ReadsTest, ReadsNegated, ReadsConstraint, StopsAt, ConstraintStops}
use Rattle.path_queries.proofs.FirstTokens.{IsAt, NameAt, left_front, dot_at, open_bracket_at, word_is_at, first_word}
use Rattle.path_queries.proofs.FaultSteps.{takes, takes_at, Halts, refused, OnlyNames, some_if, lookup_takes, lookup_stops_new, moved}
use Rattle.path_queries.proofs.ConstraintLaws.{open_goes, reads_walk, two_on, shown_sign}

or_true : (a b : Bool) → a ≡ true → a || b ≡ true
or_true a b e = ap (λ c. c || b) e

or_false : (a b : Bool) → a ≡ false → a || b ≡ b
or_false a b e = ap (λ c. c || b) e

says_word : (o : Option (List ℕ)) → says (codes "not") o ≡ true → (n : List ℕ) × (o ≡ Some n) × (bytes_eq n (codes "not") ≡ true)
says_word None e = absurd cc
says_word (Some n) e = (n, refl, e)

module _ (m : Model) (scope : Scope) (ts : Tokens) where
  -- ---- `not`

  not_goes : (new k at : ℕ) (n : List ℕ) → IsAt ts at (word n) → bytes_eq n (codes "not") ≡ true → nat_le 16 k ≡ false
      → fault_at m ts at (state scope new k a_constraint) ≡ fault_at m ts (at + 1) (state scope new (k + 1) a_negated_walk)
  not_goes new k at n is is_not less =
      takes_at m ts at (word n) (state scope new k a_constraint) is refl (ap (λ b. b && true) less) (or_true (bytes_eq n (codes "not")) (is_name n) is_not)
      (or_true (bytes_eq n (codes "not")) (is_some (variable_number scope n)) is_not) refl
      ∙ ap (λ b. fault_at m ts (at + 1) (state scope new (k + 1) (if b then a_negated_walk else after_variable (number_of scope n) false))) is_not

  pub not_reads : (at next : ℕ) (c : Constraint) → says (codes "not") (word_first at (rest_at ts at)) ≡ true → ReadsNegated m scope ts (at + 1) next c
      → ReadsConstraint m scope ts at next c
  not_reads at next c e h = there (says_word (word_first at (rest_at ts at)) e)
    where
      there : (n : List ℕ) × (word_first at (rest_at ts at) ≡ Some n) × (bytes_eq n (codes "not") ≡ true) → ReadsConstraint m scope ts at next c
      there (n, first, is_not) =
          let is = word_is_at ts at n first in record {
            beyond = (let i = h.beyond in omega arith);
            within = h.within;
            short = h.short;
            goes = λ new k less. not_goes new k at n is is_not less ∙ h.goes new (k + 1);
            reads = λ few. ap (read_constraint m scope) (left_front ts at (word n) is) ∙ h.reads few n is_not;
          }

  pub not_stops : (at : ℕ) (stop : QueryStop) → says (codes "not") (word_first at (rest_at ts at)) ≡ true → StopsAt m scope ts (at + 1) a_negated_walk stop
      → ConstraintStops m scope ts at stop
  not_stops at stop e s = there (says_word (word_first at (rest_at ts at)) e)
    where
      there : (n : List ℕ) × (word_first at (rest_at ts at) ≡ Some n) × (bytes_eq n (codes "not") ≡ true) → ConstraintStops m scope ts at stop
      there (n, first, is_not) = λ new k less.
          moved stop (fault_at m ts at (state scope new k a_constraint)) (fault_at m ts (at + 1) (state scope new (k + 1) a_negated_walk))
          (not_goes new k at n (word_is_at ts at n first) is_not less) (s new (k + 1))

  -- ---- a variable

  -- the name at the place of a word other than `not`
  no_not : (at : ℕ) (x : List ℕ) → IsAt ts at (word x) → says (codes "not") (word_first at (rest_at ts at)) ≡ false → bytes_eq x (codes "not") ≡ false
  no_not at x is other = sym (ap (says (codes "not")) (first_word ts at x is)) ∙ other

  variable_goes : (new k at v : ℕ) (x : List ℕ) → NameAt ts at x → bytes_eq x (codes "not") ≡ false → variable_number scope x ≡ Some v → nat_le 16 k ≡ false
      → fault_at m ts at (state scope new k a_constraint) ≡ fault_at m ts (at + 1) (state scope new (k + 1) (after_variable v false))
  variable_goes new k at v x named other number less =
      takes_at m ts at (word x) (state scope new k a_constraint) named.stands refl (ap (λ b. b && true) less) (or_false (bytes_eq x (codes "not")) (is_name x) other ∙ named.proper)
      (or_false (bytes_eq x (codes "not")) (is_some (variable_number scope x)) other ∙ ap is_some number) refl
      ∙ (ap (λ b. fault_at m ts (at + 1) (state scope new (k + 1) (if b then a_negated_walk else after_variable (number_of scope x) false))) other
      ∙ ap (λ o. fault_at m ts (at + 1) (state scope new (k + 1) (after_variable (unwrap_or o 0) false))) number)

  pub plain_walk_reads : (at next v : ℕ) (p : Path) (u : ℕ) → says (codes "not") (word_first at (rest_at ts at)) ≡ false → looked_up (variable_number scope) at (rest_at ts at) ≡ Some v
      → shown (at + 1) (rest_at ts (at + 1)) ≡ code.OpenBracket → ReadsWalk m scope ts (at + 2) next p u → ReadsConstraint m scope ts at next (Walks v p u false)
  plain_walk_reads at next v p u other e opens h = there (lookup_takes m ts at (variable_number scope) v e) (open_bracket_at ts (at + 1) opens)
    where
      there : (x : List ℕ) × NameAt ts at x × (variable_number scope x ≡ Some v) → IsAt ts (at + 1) open_bracket → ReadsConstraint m scope ts at next (Walks v p u false)
      there (x, named, number) open_is = record {
        beyond = (let i = h.beyond in omega arith);
        within = h.within;
        short = h.short;
        goes = λ new k less. variable_goes new k at v x named (no_not at x named.stands other) number less ∙ (open_goes m scope ts new (k + 1) (at + 1) v false open_is
            ∙ (ap (λ i. fault_at m ts i (state scope new (k + 1) (a_step 0))) (let e : at + 1 + 1 ≡ at + 2 = omega arith in e) ∙ h.goes new (k + 1)));
        reads = λ few. ap (read_constraint m scope) (two_on m scope ts at x open_bracket named.stands open_is) ∙ reads_walk m scope ts (at + 2) next v p u x false number h few;
      }

  dot_goes : (new k at v : ℕ) → IsAt ts at dot → fault_at m ts at (state scope new k (after_variable v false)) ≡ fault_at m ts (at + 1) (state scope new k (an_attribute v))
  dot_goes new k at v is = takes m ts at dot (state scope new k (after_variable v false)) is refl refl refl

  pub plain_test_reads : (at next v : ℕ) (c : Constraint) → says (codes "not") (word_first at (rest_at ts at)) ≡ false → looked_up (variable_number scope) at (rest_at ts at) ≡ Some v
      → shown (at + 1) (rest_at ts (at + 1)) ≡ code.Dot → ReadsTest m scope ts (at + 2) next v c → ReadsConstraint m scope ts at next c
  plain_test_reads at next v c other e dots h = there (lookup_takes m ts at (variable_number scope) v e) (dot_at ts (at + 1) dots)
    where
      there : (x : List ℕ) × NameAt ts at x × (variable_number scope x ≡ Some v) → IsAt ts (at + 1) dot → ReadsConstraint m scope ts at next c
      there (x, named, number) dot_is = record {
        beyond = (let i = h.beyond in omega arith);
        within = h.within;
        short = h.short;
        goes = λ new k less. variable_goes new k at v x named (no_not at x named.stands other) number less ∙ (dot_goes new (k + 1) (at + 1) v dot_is
            ∙ (ap (λ i. fault_at m ts i (state scope new (k + 1) (an_attribute v))) (let e : at + 1 + 1 ≡ at + 2 = omega arith in e) ∙ h.goes new (k + 1)));
        reads = λ few. ap (read_constraint m scope) (two_on m scope ts at x dot named.stands dot_is) ∙ h.reads x number;
      }

  -- ---- stops

  variable_names : (at : ℕ) (ls : List (ℕ × Token)) → says (codes "not") (word_first at ls) ≡ false → OnlyNames at ls a_constraint
  variable_names at [] other = refl
  variable_names at (q ∷ us) other = λ few. go q.1 (sym (ap (λ b. says (codes "not") (if b then None else word_in q.1)) few) ∙ other)
    where
      go : (t : Token) → says (codes "not") (word_in t) ≡ false → goes_on a_constraint t ≡ is_some (option_and_then (λ w. if is_name w then Some w else None) (word_in t))
      go (word w) other = or_false (bytes_eq w (codes "not")) (is_name w) other ∙ sym (some_if (is_name w) w)
      go t other = refl

  pub variable_stops : (at : ℕ) (stop : QueryStop) → says (codes "not") (word_first at (rest_at ts at)) ≡ false → looked_up (variable_number scope) at (rest_at ts at) ≡ None
      → stop ≡ lookup_stop ts.end at (rest_at ts at) → ConstraintStops m scope ts at stop
  variable_stops at stop other none is = λ new k less.
      subst (λ s. Tells s (fault_at m ts at (state scope new k a_constraint))) (sym is)
      (lookup_stops_new m ts at (state scope new k a_constraint) (variable_number scope) none (λ t us. refl) (λ t. starts (nat_le 16 k) t less)
      (variable_names at (rest_at ts at) other) (known at (rest_at ts at) other))
    where
      starts : (b : Bool) (t : Token) → b ≡ false → b && not (is_stray t) ≡ false
      starts b t e = ap (λ c. c && not (is_stray t)) e

      known : (at : ℕ) (ls : List (ℕ × Token)) → says (codes "not") (word_first at ls) ≡ false → (w : List ℕ) → word_first at ls ≡ Some w
          → bytes_eq w (codes "not") || is_some (variable_number scope w) ≡ is_some (variable_number scope w)
      known at ls other w first = or_false (bytes_eq w (codes "not")) (is_some (variable_number scope w)) (sym (ap (says (codes "not")) first) ∙ other)

  plain_halts : (v at : ℕ) (ls : List (ℕ × Token)) → (shown at ls ≡ code.OpenBracket → ⊥) → (shown at ls ≡ code.Dot → ⊥) → Halts at ls (after_variable v false)
  plain_halts v at [] no_bracket no_dot = refl
  plain_halts v at (q ∷ us) no_bracket no_dot = λ few. go q.1 (λ e. no_bracket (shown_sign at q us few ∙ e)) (λ e. no_dot (shown_sign at q us few ∙ e))
    where
      go : (t : Token) → (sign t ≡ code.OpenBracket → ⊥) → (sign t ≡ code.Dot → ⊥) → goes_on (after_variable v false) t ≡ false
      go open_bracket no_bracket no_dot = absurd (no_bracket refl)
      go dot no_bracket no_dot = absurd (no_dot refl)
      go t no_bracket no_dot = refl

  pub behind_variable_stops : (at v : ℕ) (stop : QueryStop) → says (codes "not") (word_first at (rest_at ts at)) ≡ false → looked_up (variable_number scope) at (rest_at ts at) ≡ Some v
      → (shown (at + 1) (rest_at ts (at + 1)) ≡ code.OpenBracket → ⊥) → (shown (at + 1) (rest_at ts (at + 1)) ≡ code.Dot → ⊥)
      → stop ≡ refusal ts.end (at + 1) (rest_at ts (at + 1)) → ConstraintStops m scope ts at stop
  behind_variable_stops at v stop other e no_bracket no_dot is = there (lookup_takes m ts at (variable_number scope) v e)
    where
      there : (x : List ℕ) × NameAt ts at x × (variable_number scope x ≡ Some v) → ConstraintStops m scope ts at stop
      there (x, named, number) = λ new k less.
          moved stop (fault_at m ts at (state scope new k a_constraint)) (fault_at m ts (at + 1) (state scope new (k + 1) (after_variable v false)))
          (variable_goes new k at v x named (no_not at x named.stands other) number less)
          (subst (λ s. Tells s (fault_at m ts (at + 1) (state scope new (k + 1) (after_variable v false)))) (sym is)
          (refused m ts (at + 1) (state scope new (k + 1) (after_variable v false)) refl (plain_halts v (at + 1) (rest_at ts (at + 1)) no_bracket no_dot)))

  pub plain_walk_stops : (at v : ℕ) (stop : QueryStop) → says (codes "not") (word_first at (rest_at ts at)) ≡ false → looked_up (variable_number scope) at (rest_at ts at) ≡ Some v
      → shown (at + 1) (rest_at ts (at + 1)) ≡ code.OpenBracket → StopsAt m scope ts (at + 2) (a_step 0) stop → ConstraintStops m scope ts at stop
  plain_walk_stops at v stop other e opens s = there (lookup_takes m ts at (variable_number scope) v e) (open_bracket_at ts (at + 1) opens)
    where
      there : (x : List ℕ) × NameAt ts at x × (variable_number scope x ≡ Some v) → IsAt ts (at + 1) open_bracket → ConstraintStops m scope ts at stop
      there (x, named, number) open_is = λ new k less.
          moved stop (fault_at m ts at (state scope new k a_constraint)) (fault_at m ts (at + 2) (state scope new (k + 1) (a_step 0)))
          (variable_goes new k at v x named (no_not at x named.stands other) number less ∙ (open_goes m scope ts new (k + 1) (at + 1) v false open_is
          ∙ ap (λ i. fault_at m ts i (state scope new (k + 1) (a_step 0))) (let e : at + 1 + 1 ≡ at + 2 = omega arith in e))) (s new (k + 1))

  pub plain_test_stops : (at v : ℕ) (stop : QueryStop) → says (codes "not") (word_first at (rest_at ts at)) ≡ false → looked_up (variable_number scope) at (rest_at ts at) ≡ Some v
      → shown (at + 1) (rest_at ts (at + 1)) ≡ code.Dot → StopsAt m scope ts (at + 2) (an_attribute v) stop → ConstraintStops m scope ts at stop
  plain_test_stops at v stop other e dots s = there (lookup_takes m ts at (variable_number scope) v e) (dot_at ts (at + 1) dots)
    where
      there : (x : List ℕ) × NameAt ts at x × (variable_number scope x ≡ Some v) → IsAt ts (at + 1) dot → ConstraintStops m scope ts at stop
      there (x, named, number) dot_is = λ new k less.
          moved stop (fault_at m ts at (state scope new k a_constraint)) (fault_at m ts (at + 2) (state scope new (k + 1) (an_attribute v)))
          (variable_goes new k at v x named (no_not at x named.stands other) number less ∙ (dot_goes new (k + 1) (at + 1) v dot_is
          ∙ ap (λ i. fault_at m ts i (state scope new (k + 1) (an_attribute v))) (let e : at + 1 + 1 ≡ at + 2 = omega arith in e))) (s new (k + 1))
