-- Constraints between two places of the tokens of a text.
use Rattle.std.proofs.Common.{◌≡◌, ◌∙◌, sym, ap, subst, refl, ℕ, zero, suc, ◌+◌, ◌-◌, ◌*◌, ◌<◌, ◌≤◌, List, [], ◌∷◌, ◌++◌, length, append_assoc, length-append, Bool, true, false, not, ◌&&◌, ◌||◌, Option, Some, None, arith}
use Rattle.std.specs.Prelude.{if◌then◌else◌, nat_le, option_and_then, option_map, is_some, unwrap_or, codes, bytes_eq}
use Rattle.std.proofs.lemmas.Bool.{true≢false, lt-leb}
use Rattle.std.proofs.lemmas.List.{append-nil}
use Rattle.meaning.specs.Texts.{is_name, place_of}
use Rattle.meaning.specs.Models.{Model}
use Rattle.meaning.specs.Queries.{Path, Constraint, Walks, Attribute}
use Rattle.meaning.specs.QueryTexts.{Token, word, quoted, colon, comma, open_bracket, close_bracket, open_paren, close_paren, dot, equal_sign, exclamation, bar, slash, plus, caret, blank, strange, Scope, variable_number, attribute_number, walk_from, kind_names, read_path, read_walk, read_constraint, read_constraints, more_constraints}
use Rattle.meaning.specs.QueryFaults.{Next, a_step, after_step, an_attribute, a_comparison, a_quoted_text, a_negated_walk, after_variable, the_other_end, a_constraint, after_constraint, Progress, goes_on, is_known, is_stray, begins_constraint_too_many, number_of, going_on}
use Rattle.path_queries.specs.declared.token.Tokens.{Tokens}
use Rattle.path_queries.specs.declared.token_at.Sign.{Sign}
use Rattle.path_queries.specs.declared.token_at.Sign.TheVariants as code
use Rattle.path_queries.specs.declared.fault.QueryStop.{QueryStop}
use Rattle.path_queries.specs.Tokens.{rest_at, left_at}
use Rattle.path_queries.specs.Signs.{sign, shown, word_in, word_first, quoted_in, quoted_first, compared_in, compared}
use Rattle.path_queries.specs.Stops.{Tells, refusal}
use Rattle.path_queries.specs.Lookups.{looked_up, lookup_stop}
use Rattle.path_queries.specs.PathReading.{fault_at, AreFew, binding, ReadsPath, PathStops}
use Rattle.path_queries.specs.ConstraintReading.{state, says, ReadsWalk, ReadsTest, ReadsNegated, ReadsConstraint, StopsAt, ConstraintStops}
use Rattle.path_queries.proofs.FirstTokens.{IsAt, NameAt, left_front, left_length, not_many, dot_at, open_bracket_at, close_bracket_at, quoted_is_at, word_is_at, compared_is_at, first_word}
use Rattle.path_queries.proofs.FaultSteps.{takes, takes_at, Halts, refused, OnlyNames, some_if, lookup_takes, lookup_stops, lookup_stops_new, moved}

abbrev name_in : Token → Option (List ℕ)
name_in t = option_and_then (λ w. if is_name w then Some w else None) (word_in t)

pub shown_sign : (at : ℕ) (q : ℕ × Token) (us : List (ℕ × Token)) → nat_le 256 at ≡ false → shown at (q ∷ us) ≡ sign q.1
shown_sign at q us few = ap (λ b. if b then code.Excess else sign q.1) few

module _ (m : Model) (scope : Scope) (ts : Tokens) where
  -- ---- walks

  bracket_goes : (new k at : ℕ) → IsAt ts at close_bracket → fault_at m ts at (state scope new k (after_step 0)) ≡ fault_at m ts (at + 1) (state scope new k the_other_end)
  bracket_goes new k at is = takes m ts at close_bracket (state scope new k (after_step 0)) is refl refl refl

  pub walk_reads : (at next : ℕ) (p : Path) (u : ℕ) → ReadsPath (read_path (kind_names m)) 6 1 m ts at next p → shown next (rest_at ts next) ≡ code.CloseBracket
      → looked_up (variable_number scope) (next + 1) (rest_at ts (next + 1)) ≡ Some u → ReadsWalk m scope ts at (next + 2) p u
  walk_reads at next p u h closes e = there (close_bracket_at ts next closes) (lookup_takes m ts (next + 1) (variable_number scope) u e)
    where
      there : IsAt ts next close_bracket → (w : List ℕ) × NameAt ts (next + 1) w × (variable_number scope w ≡ Some u) → ReadsWalk m scope ts at (next + 2) p u
      there close (w, named, number) = record {
        beyond = (let i = h.beyond in omega arith);
        within = (let i = named.stands.inside in omega arith);
        short = (let i = named.stands.short in omega arith);
        goes = λ new k. h.goes (state scope new k the_other_end) 0 ∙ (bracket_goes new k next close
            ∙ (takes m ts (next + 1) (word w) (state scope new k the_other_end) named.stands refl named.proper (ap is_some number)
            ∙ ap (λ i. fault_at m ts i (state scope new k after_constraint)) two));
        reads = λ few negated v.
            ap (option_and_then (walk_from scope negated v)) (h.reads few (8 * length (left_at ts at) + 8) bound)
            ∙ (ap (λ us. walk_from scope negated v (p, us))
            (left_front ts next close_bracket close ∙ ap (λ us. close_bracket ∷ us) (left_front ts (next + 1) (word w) named.stands ∙ ap (λ i. word w ∷ left_at ts i) two))
            ∙ ap (option_map (λ i. (Walks v p i negated, left_at ts (next + 2)))) number);
      }
        where
          two : next + 1 + 1 ≡ next + 2
          two = omega arith

          bound : 8 * (next - at) + 6 ≤ 8 * length (left_at ts at) + 8
          bound = let long = left_length ts at in let i = h.within in let j = h.beyond in omega arith

  bracket_halts : (t : Token) → binding (sign t) < 1 → (sign t ≡ code.CloseBracket → ⊥) → goes_on (after_step 0) t ≡ false
  bracket_halts plus weak other = absurd (omega arith)
  bracket_halts slash weak other = absurd (omega arith)
  bracket_halts bar weak other = absurd (omega arith)
  bracket_halts close_bracket weak other = absurd (other refl)
  bracket_halts t weak other = refl

  pub unclosed_walk_stops : (at next : ℕ) (p : Path) (stop : QueryStop) → ReadsPath (read_path (kind_names m)) 6 1 m ts at next p
      → (shown next (rest_at ts next) ≡ code.CloseBracket → ⊥) → stop ≡ refusal ts.end next (rest_at ts next) → StopsAt m scope ts at (a_step 0) stop
  unclosed_walk_stops at next p stop h other is = λ new k.
      moved stop (fault_at m ts at (state scope new k (a_step 0))) (fault_at m ts next (state scope new k (after_step 0))) (h.goes (state scope new k the_other_end) 0)
      (subst (λ s. Tells s (fault_at m ts next (state scope new k (after_step 0)))) (sym is)
      (refused m ts next (state scope new k (after_step 0)) refl (halts (rest_at ts next) h.weaker other)))
    where
      halts : (ls : List (ℕ × Token)) → binding (shown next ls) < 1 → (shown next ls ≡ code.CloseBracket → ⊥) → Halts next ls (after_step 0)
      halts [] weak other = refl
      halts (q ∷ us) weak other =
          λ few. bracket_halts q.1 (subst (λ s. binding s < 1) (shown_sign next q us few) weak) (λ e. other (shown_sign next q us few ∙ e))

  end_names : (at : ℕ) (ls : List (ℕ × Token)) → OnlyNames at ls the_other_end
  end_names at [] = refl
  end_names at (q ∷ us) = λ few. go q.1
    where
      go : (t : Token) → goes_on the_other_end t ≡ is_some (name_in t)
      go (word w) = sym (some_if (is_name w) w)
      go t = refl

  pub walk_end_stops : (at next : ℕ) (p : Path) (stop : QueryStop) → ReadsPath (read_path (kind_names m)) 6 1 m ts at next p → shown next (rest_at ts next) ≡ code.CloseBracket
      → looked_up (variable_number scope) (next + 1) (rest_at ts (next + 1)) ≡ None → stop ≡ lookup_stop ts.end (next + 1) (rest_at ts (next + 1))
      → StopsAt m scope ts at (a_step 0) stop
  walk_end_stops at next p stop h closes none is = λ new k.
      moved stop (fault_at m ts at (state scope new k (a_step 0))) (fault_at m ts (next + 1) (state scope new k the_other_end))
      (h.goes (state scope new k the_other_end) 0 ∙ bracket_goes new k next (close_bracket_at ts next closes))
      (subst (λ s. Tells s (fault_at m ts (next + 1) (state scope new k the_other_end))) (sym is)
      (lookup_stops m ts (next + 1) (state scope new k the_other_end) (variable_number scope) none refl (end_names (next + 1) (rest_at ts (next + 1))) (λ w. refl)))

  pub path_stops_walk : (at : ℕ) (stop : QueryStop) → PathStops m ts at stop → StopsAt m scope ts at (a_step 0) stop
  path_stops_walk at stop s = λ new k. s (state scope new k the_other_end) 0

  -- ---- attribute tests

  attribute_names : (v at : ℕ) (ls : List (ℕ × Token)) → OnlyNames at ls (an_attribute v)
  attribute_names v at [] = refl
  attribute_names v at (q ∷ us) = λ few. go q.1
    where
      go : (t : Token) → goes_on (an_attribute v) t ≡ is_some (name_in t)
      go (word w) = sym (some_if (is_name w) w)
      go t = refl

  attribute_goes : (new k at v n : ℕ) (a : List ℕ) → NameAt ts at a → attribute_number m scope v a ≡ Some n
      → fault_at m ts at (state scope new k (an_attribute v)) ≡ fault_at m ts (at + 1) (state scope new k a_comparison)
  attribute_goes new k at v n a named number = takes m ts at (word a) (state scope new k (an_attribute v)) named.stands refl named.proper (ap is_some number)

  comparison_goes : (new k at : ℕ) (b : Bool) → IsAt ts at (if b then equal_sign else exclamation)
      → fault_at m ts at (state scope new k a_comparison) ≡ fault_at m ts (at + 1) (state scope new k a_quoted_text)
  comparison_goes new k at true is = takes m ts at equal_sign (state scope new k a_comparison) is refl refl refl
  comparison_goes new k at false is = takes m ts at exclamation (state scope new k a_comparison) is refl refl refl

  read_test : (x a s : List ℕ) (b : Bool) (v n : ℕ) (us : List Token) → variable_number scope x ≡ Some v → attribute_number m scope v a ≡ Some n
      → read_constraint m scope (word x ∷ dot ∷ word a ∷ (if b then equal_sign else exclamation) ∷ quoted s ∷ us) ≡ Some (Attribute v n s b, us)
  read_test x a s true v n us variable number =
      ap (option_and_then (λ i. option_map (λ j. (Attribute i j s true, us)) (attribute_number m scope i a))) variable ∙ ap (option_map (λ j. (Attribute v j s true, us))) number
  read_test x a s false v n us variable number =
      ap (option_and_then (λ i. option_map (λ j. (Attribute i j s false, us)) (attribute_number m scope i a))) variable ∙ ap (option_map (λ j. (Attribute v j s false, us))) number

  pub test_reads : (at v n : ℕ) (b : Bool) (s : List ℕ) → looked_up (attribute_number m scope v) at (rest_at ts at) ≡ Some n → compared (at + 1) (rest_at ts (at + 1)) ≡ Some b
      → quoted_first (at + 2) (rest_at ts (at + 2)) ≡ Some s → ReadsTest m scope ts at (at + 3) v (Attribute v n s b)
  test_reads at v n b s e compares quotes =
      there (lookup_takes m ts at (attribute_number m scope v) n e) (compared_is_at ts (at + 1) b compares) (quoted_is_at ts (at + 2) s quotes)
    where
      two : at + 1 + 1 ≡ at + 2
      two = omega arith

      three : at + 2 + 1 ≡ at + 3
      three = omega arith

      there : (a : List ℕ) × NameAt ts at a × (attribute_number m scope v a ≡ Some n) → IsAt ts (at + 1) (if b then equal_sign else exclamation) → IsAt ts (at + 2) (quoted s)
          → ReadsTest m scope ts at (at + 3) v (Attribute v n s b)
      there (a, named, number) sign_is text_is = record {
        beyond = omega arith;
        within = (let i = text_is.inside in omega arith);
        short = (let i = text_is.short in omega arith);
        goes = λ new k. attribute_goes new k at v n a named number ∙ (comparison_goes new k (at + 1) b sign_is ∙ (ap (λ i. fault_at m ts i (state scope new k a_quoted_text)) two
            ∙ (takes m ts (at + 2) (quoted s) (state scope new k a_quoted_text) text_is refl refl refl ∙ ap (λ i. fault_at m ts i (state scope new k after_constraint)) three)));
        reads = λ x variable.
            ap (λ us. read_constraint m scope (word x ∷ dot ∷ us)) (left_front ts at (word a) named.stands ∙ ap (λ us. word a ∷ us)
            (left_front ts (at + 1) (if b then equal_sign else exclamation) sign_is ∙ ap (λ us. (if b then equal_sign else exclamation) ∷ us)
            (ap (left_at ts) two ∙ (left_front ts (at + 2) (quoted s) text_is ∙ ap (λ i. quoted s ∷ left_at ts i) three))))
            ∙ read_test x a s b v n (left_at ts (at + 3)) variable number;
      }

  pub attribute_stops : (at v : ℕ) (stop : QueryStop) → looked_up (attribute_number m scope v) at (rest_at ts at) ≡ None → stop ≡ lookup_stop ts.end at (rest_at ts at)
      → StopsAt m scope ts at (an_attribute v) stop
  attribute_stops at v stop none is = λ new k.
      subst (λ s. Tells s (fault_at m ts at (state scope new k (an_attribute v)))) (sym is)
      (lookup_stops m ts at (state scope new k (an_attribute v)) (attribute_number m scope v) none refl (attribute_names v at (rest_at ts at)) (λ w. refl))

  comparison_halts : (at : ℕ) (ls : List (ℕ × Token)) → compared at ls ≡ None → Halts at ls a_comparison
  comparison_halts at [] none = refl
  comparison_halts at (q ∷ us) none = λ few. go q.1 (sym (ap (λ b. if b then None else compared_in q.1) few) ∙ none)
    where
      go : (t : Token) → compared_in t ≡ None → goes_on a_comparison t ≡ false
      go equal_sign none = absurd cc
      go exclamation none = absurd cc
      go t none = refl

  pub comparison_stops : (at v n : ℕ) (stop : QueryStop) → looked_up (attribute_number m scope v) at (rest_at ts at) ≡ Some n → compared (at + 1) (rest_at ts (at + 1)) ≡ None
      → stop ≡ refusal ts.end (at + 1) (rest_at ts (at + 1)) → StopsAt m scope ts at (an_attribute v) stop
  comparison_stops at v n stop e none is = there (lookup_takes m ts at (attribute_number m scope v) n e)
    where
      there : (a : List ℕ) × NameAt ts at a × (attribute_number m scope v a ≡ Some n) → StopsAt m scope ts at (an_attribute v) stop
      there (a, named, number) = λ new k.
          moved stop (fault_at m ts at (state scope new k (an_attribute v))) (fault_at m ts (at + 1) (state scope new k a_comparison)) (attribute_goes new k at v n a named number)
          (subst (λ s. Tells s (fault_at m ts (at + 1) (state scope new k a_comparison))) (sym is)
          (refused m ts (at + 1) (state scope new k a_comparison) refl (comparison_halts (at + 1) (rest_at ts (at + 1)) none)))

  quoted_halts : (at : ℕ) (ls : List (ℕ × Token)) → quoted_first at ls ≡ None → Halts at ls a_quoted_text
  quoted_halts at [] none = refl
  quoted_halts at (q ∷ us) none = λ few. go q.1 (sym (ap (λ b. if b then None else quoted_in q.1) few) ∙ none)
    where
      go : (t : Token) → quoted_in t ≡ None → goes_on a_quoted_text t ≡ false
      go (quoted s) none = absurd cc
      go t none = refl

  pub text_stops : (at v n : ℕ) (b : Bool) (stop : QueryStop) → looked_up (attribute_number m scope v) at (rest_at ts at) ≡ Some n → compared (at + 1) (rest_at ts (at + 1)) ≡ Some b
      → quoted_first (at + 2) (rest_at ts (at + 2)) ≡ None → stop ≡ refusal ts.end (at + 2) (rest_at ts (at + 2)) → StopsAt m scope ts at (an_attribute v) stop
  text_stops at v n b stop e compares none is = there (lookup_takes m ts at (attribute_number m scope v) n e) (compared_is_at ts (at + 1) b compares)
    where
      there : (a : List ℕ) × NameAt ts at a × (attribute_number m scope v a ≡ Some n) → IsAt ts (at + 1) (if b then equal_sign else exclamation) → StopsAt m scope ts at (an_attribute v) stop
      there (a, named, number) sign_is = λ new k.
          moved stop (fault_at m ts at (state scope new k (an_attribute v))) (fault_at m ts (at + 2) (state scope new k a_quoted_text))
          (attribute_goes new k at v n a named number ∙ (comparison_goes new k (at + 1) b sign_is
          ∙ ap (λ i. fault_at m ts i (state scope new k a_quoted_text)) (let e : at + 1 + 1 ≡ at + 2 = omega arith in e)))
          (subst (λ s. Tells s (fault_at m ts (at + 2) (state scope new k a_quoted_text))) (sym is)
          (refused m ts (at + 2) (state scope new k a_quoted_text) refl (quoted_halts (at + 2) (rest_at ts (at + 2)) none)))

  -- ---- walks behind `not`

  pub open_goes : (new k at v : ℕ) (negated : Bool) → IsAt ts at open_bracket
      → fault_at m ts at (state scope new k (after_variable v negated)) ≡ fault_at m ts (at + 1) (state scope new k (a_step 0))
  open_goes new k at v negated is = takes m ts at open_bracket (state scope new k (after_variable v negated)) is refl refl refl

  negated_goes : (new k at v : ℕ) (x : List ℕ) → NameAt ts at x → variable_number scope x ≡ Some v
      → fault_at m ts at (state scope new k a_negated_walk) ≡ fault_at m ts (at + 1) (state scope new k (after_variable (number_of scope x) true))
  negated_goes new k at v x named number = takes m ts at (word x) (state scope new k a_negated_walk) named.stands refl named.proper (ap is_some number)

  -- a walk from a variable whose name stands at a place, behind it an opening bracket
  pub reads_walk : (at next v : ℕ) (p : Path) (u : ℕ) (x : List ℕ) (negated : Bool) → variable_number scope x ≡ Some v → ReadsWalk m scope ts at next p u → AreFew ts
      → read_walk m scope negated x (left_at ts at) ≡ Some (Walks v p u negated, left_at ts next)
  reads_walk at next v p u x negated number h few =
      ap (option_and_then (λ i. option_and_then (walk_from scope negated i) (read_path (kind_names m) (8 * length (left_at ts at) + 8) (left_at ts at)))) number ∙ h.reads few negated v

  pub two_on : (at : ℕ) (x : List ℕ) (t : Token) → IsAt ts at (word x) → IsAt ts (at + 1) t → left_at ts at ≡ word x ∷ t ∷ left_at ts (at + 2)
  two_on at x t first second =
      left_front ts at (word x) first ∙ ap (λ us. word x ∷ us) (left_front ts (at + 1) t second ∙ ap (λ i. t ∷ left_at ts i) (let e : at + 1 + 1 ≡ at + 2 = omega arith in e))

  pub negated_reads : (at next v : ℕ) (p : Path) (u : ℕ) → looked_up (variable_number scope) at (rest_at ts at) ≡ Some v → shown (at + 1) (rest_at ts (at + 1)) ≡ code.OpenBracket
      → ReadsWalk m scope ts (at + 2) next p u → ReadsNegated m scope ts at next (Walks v p u true)
  negated_reads at next v p u e opens h = there (lookup_takes m ts at (variable_number scope) v e) (open_bracket_at ts (at + 1) opens)
    where
      there : (x : List ℕ) × NameAt ts at x × (variable_number scope x ≡ Some v) → IsAt ts (at + 1) open_bracket → ReadsNegated m scope ts at next (Walks v p u true)
      there (x, named, number) open_is = record {
        beyond = (let i = h.beyond in omega arith);
        within = h.within;
        short = h.short;
        goes = λ new k. negated_goes new k at v x named number ∙ (open_goes new k (at + 1) (number_of scope x) true open_is
            ∙ (ap (λ i. fault_at m ts i (state scope new k (a_step 0))) (let e : at + 1 + 1 ≡ at + 2 = omega arith in e) ∙ h.goes new k));
        reads = λ few n is_not.
            ap (λ us. read_constraint m scope (word n ∷ us)) (two_on at x open_bracket named.stands open_is)
            ∙ (ap (λ b. if b then read_walk m scope true x (left_at ts (at + 2)) else None) is_not ∙ reads_walk (at + 2) next v p u x true number h few);
      }

  negated_names : (at : ℕ) (ls : List (ℕ × Token)) → OnlyNames at ls a_negated_walk
  negated_names at [] = refl
  negated_names at (q ∷ us) = λ few. go q.1
    where
      go : (t : Token) → goes_on a_negated_walk t ≡ is_some (name_in t)
      go (word w) = sym (some_if (is_name w) w)
      go t = refl

  pub negated_variable_stops : (at : ℕ) (stop : QueryStop) → looked_up (variable_number scope) at (rest_at ts at) ≡ None → stop ≡ lookup_stop ts.end at (rest_at ts at)
      → StopsAt m scope ts at a_negated_walk stop
  negated_variable_stops at stop none is = λ new k.
      subst (λ s. Tells s (fault_at m ts at (state scope new k a_negated_walk))) (sym is)
      (lookup_stops m ts at (state scope new k a_negated_walk) (variable_number scope) none refl (negated_names at (rest_at ts at)) (λ w. refl))

  negated_halts : (v at : ℕ) (ls : List (ℕ × Token)) → (shown at ls ≡ code.OpenBracket → ⊥) → Halts at ls (after_variable v true)
  negated_halts v at [] other = refl
  negated_halts v at (q ∷ us) other = λ few. go q.1 (λ e. other (shown_sign at q us few ∙ e))
    where
      go : (t : Token) → (sign t ≡ code.OpenBracket → ⊥) → goes_on (after_variable v true) t ≡ false
      go open_bracket other = absurd (other refl)
      go t other = refl

  pub negated_bracket_stops : (at v : ℕ) (stop : QueryStop) → looked_up (variable_number scope) at (rest_at ts at) ≡ Some v
      → (shown (at + 1) (rest_at ts (at + 1)) ≡ code.OpenBracket → ⊥) → stop ≡ refusal ts.end (at + 1) (rest_at ts (at + 1)) → StopsAt m scope ts at a_negated_walk stop
  negated_bracket_stops at v stop e other is = there (lookup_takes m ts at (variable_number scope) v e)
    where
      there : (x : List ℕ) × NameAt ts at x × (variable_number scope x ≡ Some v) → StopsAt m scope ts at a_negated_walk stop
      there (x, named, number) = λ new k.
          moved stop (fault_at m ts at (state scope new k a_negated_walk)) (fault_at m ts (at + 1) (state scope new k (after_variable (number_of scope x) true)))
          (negated_goes new k at v x named number)
          (subst (λ s. Tells s (fault_at m ts (at + 1) (state scope new k (after_variable (number_of scope x) true)))) (sym is)
          (refused m ts (at + 1) (state scope new k (after_variable (number_of scope x) true)) refl (negated_halts (number_of scope x) (at + 1) (rest_at ts (at + 1)) other)))

  pub negated_walk_stops : (at v : ℕ) (stop : QueryStop) → looked_up (variable_number scope) at (rest_at ts at) ≡ Some v → shown (at + 1) (rest_at ts (at + 1)) ≡ code.OpenBracket
      → StopsAt m scope ts (at + 2) (a_step 0) stop → StopsAt m scope ts at a_negated_walk stop
  negated_walk_stops at v stop e opens s = there (lookup_takes m ts at (variable_number scope) v e) (open_bracket_at ts (at + 1) opens)
    where
      there : (x : List ℕ) × NameAt ts at x × (variable_number scope x ≡ Some v) → IsAt ts (at + 1) open_bracket → StopsAt m scope ts at a_negated_walk stop
      there (x, named, number) open_is = λ new k.
          moved stop (fault_at m ts at (state scope new k a_negated_walk)) (fault_at m ts (at + 2) (state scope new k (a_step 0)))
          (negated_goes new k at v x named number ∙ (open_goes new k (at + 1) (number_of scope x) true open_is
          ∙ ap (λ i. fault_at m ts i (state scope new k (a_step 0))) (let e : at + 1 + 1 ≡ at + 2 = omega arith in e))) (s new k)
