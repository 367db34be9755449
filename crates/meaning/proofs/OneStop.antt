-- A text has one place at most where its tokens first begin nothing.
use Rattle.std.proofs.Common.{◌≡◌, ◌∙◌, sym, ap, subst, refl, ℕ, List, [], ◌∷◌, ◌++◌, map, Bool, true, false, append_assoc, Option, Some, None}
use Rattle.std.specs.Prelude.{unwrap_or}
use Rattle.std.proofs.lemmas.Bool.{true≢false}
use Rattle.std.proofs.lemmas.List.{append-nil}
use Rattle.meaning.specs.Expressions.{Expression, Token, IsSame}
use Rattle.meaning.specs.QueryTexts.{Token as QueryToken, strange}
use Rattle.meaning.specs.QueryFaults.{Next, a_query, after_step, goes_on}
use Rattle.meaning.specs.QueryGrammar.{IsQuery}
use Rattle.meaning.specs.FaultPlaces.{BeginsExpression, found_tokens, without_places, ExpressionStopsAt, at_token, at_stray, at_end, OneStopOfExpression, BeginsQuery, bare_tokens, QueryStopsAt, at_query_token, at_query_stray, at_query_end, OneStopOfQuery}
use Rattle.meaning.proofs.QueryRuns.{step, Runs, query_runs}

-- ---- two ways to cut a list

data Meets {Y : Type 0} (b c r s : List Y) : Type 0 where
  left_longer : (d : List Y) → b ≡ c ++ d → s ≡ d ++ r → Meets b c r s
  right_longer : (d : List Y) → c ≡ b ++ d → r ≡ d ++ s → Meets b c r s

abbrev first_of : {Y : Type 0} → List Y → Option Y
first_of [] = None
first_of (y ∷ ys) = Some y

abbrev behind_first : {Y : Type 0} → List Y → List Y
behind_first [] = []
behind_first (y ∷ ys) = ys

one_more : {Y : Type 0} (x y : Y) (b c r s : List Y) → x ≡ y → Meets b c r s → Meets (x ∷ b) (y ∷ c) r s
one_more x y b c r s is (left_longer d e f) = left_longer d (ap (λ z. z ∷ b) is ∙ ap (λ zs. y ∷ zs) e) f
one_more x y b c r s is (right_longer d e f) = right_longer d (ap (λ z. z ∷ c) (sym is) ∙ ap (λ zs. x ∷ zs) e) f

meets : {Y : Type 0} (b c r s : List Y) → b ++ r ≡ c ++ s → Meets b c r s
meets [] c r s e = right_longer c refl e
meets (x ∷ b) [] r s e = left_longer (x ∷ b) refl (sym e)
meets (x ∷ b) (y ∷ c) r s e = one_more x y b c r s (ap (λ l. unwrap_or (first_of l) x) e) (meets b c r s (ap behind_first e))

-- ---- where the tokens stop

abbrev bare : {X : Type 0} → List (ℕ × X) → List X
bare qs = map (λ q. q.1) qs

abbrev place_in : {X : Type 0} → ℕ → List (ℕ × X) → ℕ
place_in end [] = end
place_in end (q ∷ qs) = q.0

abbrev head_of : {X : Type 0} → X → List (ℕ × X) → X
head_of x [] = x
head_of x (q ∷ qs) = q.1

abbrev is_empty : {X : Type 0} → List X → Bool
is_empty [] = true
is_empty (x ∷ xs) = false

bare_joined : {X : Type 0} (b d : List (ℕ × X)) → bare (b ++ d) ≡ bare b ++ bare d
bare_joined [] d = refl
bare_joined (q ∷ b) d = ap (λ xs. q.1 ∷ xs) (bare_joined b d)

module _ {X : Type 0} (Starts : List X → Type 0) (shorter : (ts us : List X) → Starts (ts ++ us) → Starts ts) (end : ℕ) (all : List (ℕ × X)) where
  record Stop (at : ℕ) : Type 0 where
    before : List (ℕ × X)
    rest : List (ℕ × X)
    front : all ≡ before ++ rest
    place : at ≡ place_in end rest
    starts : Starts (bare before)
    halts : (p : ℕ) (t : X) (r : List (ℕ × X)) → rest ≡ (p, t) ∷ r → Starts (bare before ++ t ∷ []) → ⊥

  not_longer : (at : ℕ) (a : Stop at) (d s : List (ℕ × X)) → a.rest ≡ d ++ s → Starts (bare (a.before ++ d)) → a.rest ≡ s
  not_longer at a [] s e st = e
  not_longer at a ((p, t) ∷ d) s e st =
      absurd (a.halts p t (d ++ s) e
      (shorter (bare a.before ++ t ∷ []) (bare d) (subst Starts (bare_joined a.before ((p, t) ∷ d) ∙ sym (append_assoc (bare a.before) (t ∷ []) (bare d))) st)))

  one_stop : (i j : ℕ) (a : Stop i) (b : Stop j) → i ≡ j
  one_stop i j a b = go (meets a.before b.before a.rest b.rest (sym a.front ∙ b.front))
    where
      go : Meets a.before b.before a.rest b.rest → i ≡ j
      go (left_longer d e f) =
          a.place ∙ (ap (place_in end) (sym (not_longer j b d a.rest f (subst (λ z. Starts (bare z)) e a.starts))) ∙ sym b.place)
      go (right_longer d e f) =
          a.place ∙ (ap (place_in end) (not_longer i a d b.rest f (subst (λ z. Starts (bare z)) e b.starts)) ∙ sym b.place)

-- ---- queries

query_shorter : (ts us : List QueryToken) → BeginsQuery (ts ++ us) → BeginsQuery ts
query_shorter ts us (m, scope, vs, q, h) = (m, scope, us ++ vs, q, subst (λ ws. IsQuery m scope ws q) (append_assoc ts us vs) h)

stray_halts : (n : Next) → goes_on n strange ≡ true → ⊥
stray_halts a_query e = true≢false (sym e)
stray_halts (after_step opened) e = true≢false (sym e)
stray_halts n e = true≢false (sym e)

runs_no_stray : (ts us : List QueryToken) (n : Next) → Runs n (ts ++ strange ∷ us) → ⊥
runs_no_stray [] us n r = stray_halts n r.0
runs_no_stray (t ∷ ts) us n r = runs_no_stray ts us (step n t) r.1

no_stray : (ts : List QueryToken) → BeginsQuery (ts ++ strange ∷ []) → ⊥
no_stray ts (m, scope, us, q, h) = runs_no_stray ts us a_query (subst (Runs a_query) (append_assoc ts (strange ∷ []) us) (query_runs m h))

module _ (end : ℕ) (all : List (ℕ × QueryToken)) where
  query_stop : (at : ℕ) → QueryStopsAt end all at → Stop BeginsQuery query_shorter end all at
  query_stop at (at_query_token before t behind front is starts halts) = record {
    before = before;
    rest = (at, t) ∷ behind;
    front = front;
    place = refl;
    starts = starts;
    halts = λ p u r e b. halts (subst (λ v. BeginsQuery (bare_tokens before ++ v ∷ [])) (ap (λ qs. head_of t qs) (sym e)) b);
  }
  query_stop at (at_query_stray before behind front starts) = record {
    before = before;
    rest = (at, strange) ∷ behind;
    front = front;
    place = refl;
    starts = starts;
    halts = λ p u r e b. no_stray (bare_tokens before) (subst (λ v. BeginsQuery (bare_tokens before ++ v ∷ [])) (ap (λ qs. head_of strange qs) (sym e)) b);
  }
  query_stop at (at_query_end is starts none) = record {
    before = all;
    rest = [];
    front = sym (append-nil all);
    place = is;
    starts = starts;
    halts = λ p u r e b. absurd (true≢false (ap is_empty e));
  }

pub one_stop_of_query : OneStopOfQuery
one_stop_of_query end all a b h g = one_stop BeginsQuery query_shorter end all a b (query_stop end all a h) (query_stop end all b g)

-- ---- expressions

-- the tokens that are there
abbrev somes : List (Option Token) → List Token
somes [] = []
somes (Some t ∷ ts) = t ∷ somes ts
somes (None ∷ ts) = somes ts

abbrev all_there : List (Option Token) → Bool
all_there [] = true
all_there (Some t ∷ ts) = all_there ts
all_there (None ∷ ts) = false

somes_joined : (ts us : List (Option Token)) → somes (ts ++ us) ≡ somes ts ++ somes us
somes_joined [] us = refl
somes_joined (Some t ∷ ts) us = ap (λ vs. t ∷ vs) (somes_joined ts us)
somes_joined (None ∷ ts) us = somes_joined ts us

there_before : (ts us : List (Option Token)) → all_there (ts ++ us) ≡ true → all_there ts ≡ true
there_before [] us e = refl
there_before (Some t ∷ ts) us e = there_before ts us e
there_before (None ∷ ts) us e = absurd (true≢false (sym e))

none_last : (ts : List (Option Token)) → all_there (ts ++ None ∷ []) ≡ true → ⊥
none_last [] e = true≢false (sym e)
none_last (Some t ∷ ts) e = none_last ts e
none_last (None ∷ ts) e = true≢false (sym e)

found_there : (qs : List (ℕ × Token)) → all_there (bare (found_tokens qs)) ≡ true
found_there [] = refl
found_there (q ∷ qs) = found_there qs

found_somes : (qs : List (ℕ × Token)) → somes (bare (found_tokens qs)) ≡ without_places qs
found_somes [] = refl
found_somes (q ∷ qs) = ap (λ ts. q.1 ∷ ts) (found_somes qs)

-- some tokens go on from these to an expression
record BeginsHere (names : List (List ℕ)) (ts : List Token) : Type 0 where
  more : List Token
  tree : Expression
  phrase : IsSame names (ts ++ more) tree

module _ (names : List (List ℕ)) (end : ℕ) (all : List (ℕ × Option Token)) where
  abbrev Starts : List (Option Token) → Type 0
  Starts ts = (all_there ts ≡ true) × BeginsHere names (somes ts)

  starts_shorter : (ts us : List (Option Token)) → Starts (ts ++ us) → Starts ts
  starts_shorter ts us (e, h) = (
    there_before ts us e,
    record {
      more = somes us ++ h.more;
      tree = h.tree;
      phrase = subst (λ ws. IsSame names ws h.tree) (ap (λ z. z ++ h.more) (somes_joined ts us) ∙ append_assoc (somes ts) (somes us) h.more) h.phrase;
    },
  )

  starts_found : (before : List (ℕ × Token)) → BeginsExpression names (without_places before) → Starts (bare (found_tokens before))
  starts_found before b =
      (found_there before, record { more = b.0; tree = b.1; phrase = subst (λ z. IsSame names (z ++ b.0) b.1) (sym (found_somes before)) b.2 })

  begins_again : (before : List (ℕ × Token)) (t : Token) → Starts (bare (found_tokens before) ++ Some t ∷ []) → BeginsExpression names (without_places before ++ t ∷ [])
  begins_again before t (e, h) =
      (h.more, h.tree, subst (λ z. IsSame names (z ++ h.more) h.tree) (somes_joined (bare (found_tokens before)) (Some t ∷ []) ∙ ap (λ z. z ++ t ∷ []) (found_somes before)) h.phrase)

  expression_stop : (at : ℕ) → ExpressionStopsAt names end all at → Stop Starts starts_shorter end all at
  expression_stop at (at_token before t behind front starts halts) = record {
    before = found_tokens before;
    rest = (at, Some t) ∷ behind;
    front = front;
    place = refl;
    starts = starts_found before starts;
    halts = λ p u r e b. halts names (begins_again before t (subst (λ v. Starts (bare (found_tokens before) ++ v ∷ [])) (ap (λ qs. head_of (Some t) qs) (sym e)) b));
  }
  expression_stop at (at_stray before behind front starts) = record {
    before = found_tokens before;
    rest = (at, None) ∷ behind;
    front = front;
    place = refl;
    starts = starts_found before starts;
    halts = λ p u r e b.
        let c = subst (λ v. Starts (bare (found_tokens before) ++ v ∷ [])) (ap (λ qs. head_of None qs) (sym e)) b in none_last (bare (found_tokens before)) c.0;
  }
  expression_stop at (at_end before front is starts none) = record {
    before = found_tokens before;
    rest = [];
    front = front ∙ sym (append-nil (found_tokens before));
    place = is;
    starts = starts_found before starts;
    halts = λ p u r e b. absurd (true≢false (ap is_empty e));
  }

pub one_stop_of_expression : OneStopOfExpression
one_stop_of_expression names end all a b h g =
    one_stop (Starts names end all) (starts_shorter names end all) end all a b (expression_stop names end all a h) (expression_stop names end all b g)
