-- Tuples that are tried element by element: how much is asked, and what is found so far.
use Rattle.std.proofs.Common.{◌≡◌, ◌∙◌, refl, sym, ap, subst, ℕ, zero, suc, ◌+◌, ◌-◌, ◌*◌, ◌<◌, ◌≤◌, List, [], ◌∷◌, ◌++◌, length, Bool, true, false, cond, Option, Some, None, append_assoc, arith}
use Rattle.std.specs.Prelude.{◌&&◌, ◌||◌, not, Contains}
use Rattle.std.specs.List.{slice_get, range_with_len}
use Rattle.std.proofs.Math.Nat.{mul-le-mul}
use Rattle.std.proofs.lemmas.List.{length-append}
use Rattle.std.proofs.lemmas.List.Elements.{Contains-append_left}
use Rattle.std.proofs.lemmas.Option.{slice_get_within}
use Rattle.meaning.specs.Texts.{flat}
use Rattle.meaning.specs.Models.{model_at}
use Rattle.meaning.specs.Queries.{is_empty}
use Rattle.meaning.specs.Tidy.{Among}
use Rattle.worlds.specs.Algebra.{Algebra, Kept, HoldsWhere}
use Rattle.worlds.specs.declared.stops.QStop.{QStop}
use Rattle.worlds.specs.declared.stops.QStop.TheVariants.{NodeLimit as AtLimit, TooMany, NoMemory}
use Rattle.worlds.proofs.Kept.{refused_later, holds_as, holds_later, world_before}
use Rattle.path_queries.specs.Answering.{StopsWith}
use Rattle.path_queries.specs.View.{query}
use Rattle.path_queries.specs.Tuples.{is_choice, answers_from, Adds, Overflows}
use Rattle.path_queries.specs.Searching.{IsReady, asks_of_tuples, asks_left, asks_with_one, found_below, found_with, possible_below, possible_next}
use Rattle.path_queries.specs.declared.answering.preparation.Search.{Search}
use Rattle.path_queries.proofs.Presences.{elements_later}
use Rattle.path_queries.proofs.Cells.{rows_within}
use Rattle.path_queries.proofs.Preparing.{constraints_later}
use Rattle.path_queries.proofs.TupleSplits.{flat_append, flat_one_more, answers_by_element, possible_by_element}
use Rattle.path_queries.proofs.AnswerRowLaws.{among_more, adds_later, adds_then, adds_as, overflows_after, overflows_more, overflows_later}

pub ready_later : {C : Type 0} {a b : Algebra C} {s : Search C} → Kept a b → IsReady a s → IsReady b s
ready_later kept ready = record { few = ready.few; elements = elements_later kept ready.elements; relations = constraints_later kept ready.relations }

-- ---- how much is asked

pub none_past : {X : Type 0} (xs : List X) (i : ℕ) → slice_get xs i ≡ None → length xs ≤ i
none_past [] i at = omega arith
none_past (x ∷ xs) zero at = absurd cc
none_past (x ∷ xs) (suc i) at = let past = none_past xs i at in omega (arith, past)

module _ {C : Type 0} (s : Search C) (given : List ℕ) where
  pub asks_last : length s.query.now.vars ≤ length given → asks_left s given ≡ length s.query.now.constraints
  asks_last last =
      let none : length s.query.now.vars - length given ≡ 0 = omega (arith, last) in
      ap (asks_of_tuples (length s.model.now.elements) (length s.query.now.constraints)) none

  pub asks_next : (t : ℕ) → slice_get s.query.now.vars (length given) ≡ Some t → asks_left s given ≡ length s.model.now.elements * (asks_with_one s given + 1)
  asks_next t at =
      let within = slice_get_within s.query.now.vars (length given) t at in
      let left : length s.query.now.vars - length given ≡ suc (length s.query.now.vars - (length given + 1)) = omega (arith, within) in
      let after = asks_of_tuples (length s.model.now.elements) (length s.query.now.constraints) (length s.query.now.vars - (length given + 1)) in
      let two : after + 2 ≡ 1 + after + 1 = omega arith in
      ap (asks_of_tuples (length s.model.now.elements) (length s.query.now.constraints)) left ∙ ap (λ k. length s.model.now.elements * k) two

  pub asks_longer : (e : ℕ) → asks_left s (given ++ e ∷ []) + 1 ≡ asks_with_one s given
  asks_longer e =
      let after = asks_of_tuples (length s.model.now.elements) (length s.query.now.constraints) (length s.query.now.vars - (length given + 1)) in
      let one : after + 1 ≡ 1 + after = omega arith in
      ap (λ k. asks_of_tuples (length s.model.now.elements) (length s.query.now.constraints) (length s.query.now.vars - k) + 1) (length-append given (e ∷ [])) ∙ one

  -- for so many elements, and for one more
  pub asks_for_one : (t e : ℕ) → slice_get s.query.now.vars (length given) ≡ Some t → e < length s.model.now.elements → e * (asks_with_one s given + 1) + (asks_with_one s given + 1) ≤ asks_left s given
  asks_for_one t e at below =
      subst (λ k. e * (asks_with_one s given + 1) + (asks_with_one s given + 1) ≤ k) (sym (asks_next t at)) (rows_within e (length s.model.now.elements) (asks_with_one s given + 1) below)

  pub asks_for_tuples : (t e : ℕ) → slice_get s.query.now.vars (length given) ≡ Some t → e ≤ length s.model.now.elements → e * asks_with_one s given ≤ asks_left s given
  asks_for_tuples t e at within =
      let more : asks_with_one s given ≤ asks_with_one s given + 1 = omega arith in
      subst (λ k. e * asks_with_one s given ≤ k) (sym (asks_next t at)) (mul-le-mul within more)

  -- the measure of the search falls
  pub one_less : (t : ℕ) → slice_get s.query.now.vars (length given) ≡ Some t → 2 * (length s.query.now.vars - (length given + 1)) + 1 < 2 * (length s.query.now.vars - length given)
  one_less t at = let within = slice_get_within s.query.now.vars (length given) t at in omega (arith, within)

  pub half_less : (e : ℕ) (longer : List ℕ) → longer ≡ given ++ e ∷ [] → 2 * (length s.query.now.vars - length longer) < 2 * (length s.query.now.vars - (length given + 1)) + 1
  half_less e longer is = let size = ap length is ∙ length-append given (e ∷ []) in omega (arith, size)

-- ---- the numbers below a bound, in two parts

ranges : (a k l : ℕ) → range_with_len a (k + l) ≡ range_with_len a k ++ range_with_len (a + k) l
ranges a zero l = let same : a ≡ a + 0 = omega arith in let all : 0 + l ≡ l = omega arith in ap (range_with_len a) all ∙ ap (λ b. range_with_len b l) same
ranges a (suc k) l =
    let more : suc k + l ≡ suc (k + l) = omega arith in
    let same : a + 1 + k ≡ a + suc k = omega arith in
    ap (range_with_len a) more ∙ ap (λ ns. a ∷ ns) (ranges (a + 1) k l) ∙ ap (λ b. a ∷ range_with_len (a + 1) k ++ range_with_len b l) same

flat_of_two : {Y : Type 0} (f : ℕ → List Y) (k n : ℕ) → k ≤ n → flat f (range_with_len 0 n) ≡ flat f (range_with_len 0 k) ++ flat f (range_with_len (0 + k) (n - k))
flat_of_two f k n below =
    let all : n ≡ k + (n - k) = omega (arith, below) in
    ap (λ i. flat f (range_with_len 0 i)) all ∙ ap (flat f) (ranges 0 k (n - k)) ∙ flat_append f (range_with_len 0 k) (range_with_len (0 + k) (n - k))

pub found_further : (f : ℕ → List (List ℕ)) (k n : ℕ) → k ≤ n → (t : List ℕ) → Contains (flat f (range_with_len 0 k)) t → Contains (flat f (range_with_len 0 n)) t
found_further f k n below t there =
    subst (λ ts. Contains ts t) (sym (flat_of_two f k n below)) (Contains-append_left (flat f (range_with_len 0 k)) (flat f (range_with_len (0 + k) (n - k))) t there)

pub among_further : (f : ℕ → List (List ℕ)) (k n : ℕ) → k ≤ n → (ts : List (List ℕ)) → Among ts (flat f (range_with_len 0 k)) → Among ts (flat f (range_with_len 0 n))
among_further f k n below ts among =
    subst (Among ts) (sym (flat_of_two f k n below)) (among_more ts (flat f (range_with_len 0 k)) (flat f (range_with_len (0 + k) (n - k))) among)

-- ---- what is found so far

-- below elements that are given, with an element below a bound for the next variable
abbrev pub found_so_far : {C : Type 0} → Algebra C → Search C → (given : List ℕ) → C → (t k : ℕ) → List Bool → List (List ℕ)
found_so_far a s given under t k x = flat (λ e. found_with a s given under t e x) (range_with_len 0 k)

abbrev pub possible_so_far : {C : Type 0} → Search C → (given : List ℕ) → (t k : ℕ) → List (List ℕ)
possible_so_far s given t k = flat (possible_next s given t) (range_with_len 0 k)

module _ {C : Type 0} {a b c : Algebra C} (s : Search C) (given : List ℕ) (under : C) (t k : ℕ) (before : Kept a b) (after : Kept b c) (live : a.live under) where
  found_kept : (x : List Bool) → found_with b s given under t k x ≡ found_with a s given under t k x
  found_kept x =
      ap (λ h. cond (h && is_choice s.model.now x t k) (answers_from (model_at s.model.now x) (query s.query.now) s.bound.now (given ++ k ∷ [])) []) (before.holds under live x)

  found_one_more : (x : List Bool) → (found_so_far a s given under t k x ++ found_with b s given under t k x) ≡ found_so_far a s given under t (k + 1) x
  found_one_more x =
      ap (λ ts. found_so_far a s given under t k x ++ ts) (found_kept x) ∙ sym (flat_one_more (λ e. found_with a s given under t e x) k)

  -- the rows for one more element
  pub adds_so_far : {rows more all : List (List ℕ × C)} → Adds b rows more (found_so_far a s given under t k) (possible_so_far s given t k)
      → Adds c more all (found_with b s given under t k) (possible_next s given t k) → Adds c rows all (found_so_far a s given under t (k + 1)) (possible_so_far s given t (k + 1))
  adds_so_far so_far one =
      adds_as (found_so_far a s given under t (k + 1)) (possible_so_far s given t (k + 1)) (λ x w. found_one_more x) (sym (flat_one_more (possible_next s given t) k)) (adds_then (adds_later after so_far) one)

  module _ (next : slice_get s.query.now.vars (length given) ≡ Some t) (below : k + 1 ≤ length s.model.now.elements) where
    -- more of them than there is room for are too many of all
    pub overflows_so_far : {rows more : List (List ℕ × C)} {most : ℕ} → Adds b rows more (found_so_far a s given under t k) (possible_so_far s given t k)
        → Overflows c more (found_with b s given under t k) (possible_next s given t k) most → Overflows c rows (found_below a s given under) (possible_below s given) most
    overflows_so_far so_far one =
        overflows_more (found_below a s given under) (possible_below s given)
        (λ x w u there.
        subst (λ ts. Contains ts u) (answers_by_element a s.model.now (query s.query.now) s.bound.now given under t x next)
        (found_further (λ e. found_with a s given under t e x) (k + 1) (length s.model.now.elements) below u (subst (λ ts. Contains ts u) (found_one_more x) there)))
        (λ ts among.
        subst (Among ts) (possible_by_element s.model.now s.query.now.vars given t next)
        (among_further (possible_next s given t) (k + 1) (length s.model.now.elements) below ts (subst (Among ts) (sym (flat_one_more (possible_next s given t) k)) among)))
        (overflows_after (adds_later after so_far) one)

    pub stops_so_far : {rows more : List (List ℕ × C)} (most : ℕ) (stop : QStop) → Adds b rows more (found_so_far a s given under t k) (possible_so_far s given t k)
        → StopsWith b c (Overflows c more (found_with b s given under t k) (possible_next s given t k) most) stop → StopsWith a c (Overflows c rows (found_below a s given under) (possible_below s given) most) stop
    stops_so_far most (AtLimit limit) so_far h = refused_later before h
    stops_so_far most TooMany so_far h = overflows_so_far so_far h
    stops_so_far most NoMemory so_far h = tt

-- with all elements, everything is found
module _ {C : Type 0} (a : Algebra C) (s : Search C) (given : List ℕ) (under : C) (t : ℕ) (next : slice_get s.query.now.vars (length given) ≡ Some t) where
  pub found_all : (x : List Bool) → found_so_far a s given under t (length s.model.now.elements) x ≡ found_below a s given under x
  found_all x = answers_by_element a s.model.now (query s.query.now) s.bound.now given under t x next

  pub adds_all : {c : Algebra C} {rows all : List (List ℕ × C)} → Adds c rows all (found_so_far a s given under t (length s.model.now.elements)) (possible_so_far s given t (length s.model.now.elements))
      → Adds c rows all (found_below a s given under) (possible_below s given)
  adds_all added = adds_as (found_below a s given under) (possible_below s given) (λ x w. found_all x) (possible_by_element s.model.now s.query.now.vars given t next) added

  pub any_all : {c : Algebra C} {found : C} → HoldsWhere c found (λ x. not (is_empty (found_so_far a s given under t (length s.model.now.elements) x))) → HoldsWhere c found (λ x. not (is_empty (found_below a s given under x)))
  any_all made =
      holds_as (λ x. not (is_empty (found_so_far a s given under t (length s.model.now.elements) x))) (λ x. not (is_empty (found_below a s given under x))) (λ x w. ap (λ ts. not (is_empty ts)) (found_all x)) made

-- ---- whether something is found

some_of_two : {X : Type 0} (xs ys : List X) → (not (is_empty xs) || not (is_empty ys)) ≡ not (is_empty (xs ++ ys))
some_of_two [] ys = refl
some_of_two (x ∷ xs) ys = refl

pub any_so_far : {C : Type 0} {a b c d : Algebra C} (s : Search C) (given : List ℕ) (under : C) (t k : ℕ) {found here more : C} → Kept a b → Kept b c → Kept c d → a.live under
    → HoldsWhere b found (λ x. not (is_empty (found_so_far a s given under t k x))) → HoldsWhere c here (λ x. not (is_empty (found_with b s given under t k x)))
    → HoldsWhere d more (λ x. c.holds found x || c.holds here x) → HoldsWhere d more (λ x. not (is_empty (found_so_far a s given under t (k + 1) x)))
any_so_far {a} {b} {c} {d} s given under t k {found} {here} {more} first second third live so_far one made =
    holds_as (λ x. c.holds found x || c.holds here x) (λ x. not (is_empty (found_so_far a s given under t (k + 1) x)))
    (λ x w. let now = world_before x third w in
    ap (λ u. u || c.holds here x) ((holds_later second so_far).holds x now)
    ∙ ap (λ u. not (is_empty (found_so_far a s given under t k x)) || u) (one.holds x now)
    ∙ some_of_two (found_so_far a s given under t k x) (found_with b s given under t k x)
    ∙ ap (λ ts. not (is_empty ts)) (found_one_more {c = c} s given under t k first second live x)) made

-- ---- one more element

-- a stop of a later call, where what is known of too many is known here
pub stops_along : {C : Type 0} {a b : Algebra C} (c : Algebra C) {M N : Type 0} (stop : QStop) → Kept a b → (M → N) → StopsWith b c M stop → StopsWith a c N stop
stops_along c (AtLimit limit) kept f h = refused_later kept h
stops_along c TooMany kept f h = f h
stops_along c NoMemory kept f h = tt
