-- What a replay answers: its end is that of a run of the product's own system.
use Rattle.std.proofs.Common.{◌≡◌, ◌<◌, ◌+◌, refl, sym, ap, ◌∙◌, ℕ, zero, suc, Bool, true, false, cond, List, [], ◌∷◌, Option, Some, None, arith}
use Rattle.std.specs.Prelude.{◌==◌, not, filter, find, option_map, option_and_then}
use Rattle.std.specs.List.{slice_get, enumerate_from}
use Rattle.std.proofs.lemmas.Bool.{eq-eqb}
use Rattle.std.proofs.lemmas.Bool.Decides.{nat_tests}
use Rattle.meaning.specs.Counts.{capped}
use Rattle.meaning.specs.Expressions.{truth}
use Rattle.meaning.specs.Models.{Transition, System, projection}
use Rattle.meaning.specs.Systems.{is_initial, joined, transition_at, end_of, replays}
use Rattle.meaning.specs.Replay.{Replayed, NotInitial, NotJoined, NotPresent, Ends, taken, end_of_step, or_on, steps_replayed, replay_answer, ReplayIsRun}

-- ---- a numbered item of those that pass a test

abbrev pub if_passes : {A : Type 0} → (A → Bool) → Option A → Option A
if_passes g None = None
if_passes g (Some x) = cond (g x) (Some x) None

module _ {A : Type 0} (g : A → Bool) where
  numbered_later : (k j : ℕ) (xs : List A) → j < k → find (λ p. p.0 == j) (filter (λ p. g p.1) (enumerate_from k xs)) ≡ None
  numbered_later k j [] below = refl
  numbered_later k j (x ∷ xs) below = go (g x) (numbered_later (k + 1) j xs (omega (arith, below)))
    where
      differ : (k == j) ≡ false
      differ = grind (arith, nat_tests)

      go : (b : Bool) → find (λ p. p.0 == j) (filter (λ p. g p.1) (enumerate_from (k + 1) xs)) ≡ None
          → find (λ p. p.0 == j) (cond b ((k, x) ∷ filter (λ p. g p.1) (enumerate_from (k + 1) xs)) (filter (λ p. g p.1) (enumerate_from (k + 1) xs))) ≡ None
      go true later = ap (λ b. cond b (Some (k, x)) (find (λ p. p.0 == j) (filter (λ p. g p.1) (enumerate_from (k + 1) xs)))) differ ∙ later
      go false later = later

  -- the item with a number is the item at that place, where it passes
  pub found_at : (k i : ℕ) (xs : List A) → option_map (λ p. p.1) (find (λ p. p.0 == k + i) (filter (λ p. g p.1) (enumerate_from k xs))) ≡ if_passes g (slice_get xs i)
  found_at k i [] = refl
  found_at k zero (x ∷ xs) = go (g x) (numbered_later (k + 1) (k + 0) xs (omega arith))
    where
      same : (k == k + 0) ≡ true
      same = eq-eqb k (k + 0) (omega arith)

      go : (b : Bool) → find (λ p. p.0 == k + 0) (filter (λ p. g p.1) (enumerate_from (k + 1) xs)) ≡ None
          → option_map (λ p. p.1) (find (λ p. p.0 == k + 0) (cond b ((k, x) ∷ filter (λ p. g p.1) (enumerate_from (k + 1) xs)) (filter (λ p. g p.1) (enumerate_from (k + 1) xs)))) ≡ cond b (Some x) None
      go true later = ap (λ b. option_map (λ p. p.1) (cond b (Some (k, x)) (find (λ p. p.0 == k + 0) (filter (λ p. g p.1) (enumerate_from (k + 1) xs))))) same
      go false later = ap (option_map (λ p. p.1)) later
  found_at k (suc i) (x ∷ xs) =
      go (g x) (let same : k + 1 + i ≡ k + suc i = omega arith in
      ap (λ j. option_map (λ p. p.1) (find (λ p. p.0 == j) (filter (λ p. g p.1) (enumerate_from (k + 1) xs)))) (sym same) ∙ found_at (k + 1) i xs)
    where
      differ : (k == k + suc i) ≡ false
      differ = grind (arith, nat_tests)

      go : (b : Bool) → option_map (λ p. p.1) (find (λ p. p.0 == k + suc i) (filter (λ p. g p.1) (enumerate_from (k + 1) xs))) ≡ if_passes g (slice_get xs i)
          → option_map (λ p. p.1) (find (λ p. p.0 == k + suc i) (cond b ((k, x) ∷ filter (λ p. g p.1) (enumerate_from (k + 1) xs)) (filter (λ p. g p.1) (enumerate_from (k + 1) xs)))) ≡ if_passes g (slice_get xs i)
      go true later = ap (λ b. option_map (λ p. p.1) (cond b (Some (k, x)) (find (λ p. p.0 == k + suc i) (filter (λ p. g p.1) (enumerate_from (k + 1) xs))))) differ ∙ later
      go false later = later

-- a transition of a product is that of the featured system with its number, where it is present
pub transition_there : (s : System) (w : List Bool) (t : ℕ) → transition_at (projection w s) t ≡ if_passes (λ d. truth d.presence w) (slice_get s.transitions t)
transition_there s w t =
    let same : 0 + t ≡ t = omega arith in
    ap (λ j. option_map (λ p. p.1) (find (λ p. p.0 == j) (projection w s).transitions)) (sym same) ∙ found_at (λ d. truth d.presence w) 0 t s.transitions

-- ---- the end of a replay

abbrev pub end_state : Replayed → Option ℕ
end_state NotInitial = None
end_state (NotJoined step) = None
end_state (NotPresent step) = None
end_state (Ends state) = Some state

is_end : (r : Replayed) (end : ℕ) → end_state r ≡ Some end → r ≡ Ends end
is_end NotInitial end e = absurd cc
is_end (NotJoined step) end e = absurd cc
is_end (NotPresent step) end e = absurd cc
is_end (Ends state) end e = let same : state ≡ end = cc in ap Ends same

-- one step, by what the transition is
one_step : (w : List Bool) (at x : ℕ) (rest : Replayed) (after : ℕ → Option ℕ) (o : Option Transition) → end_state rest ≡ after (end_of_step x o)
    → end_state (or_on (taken w at x o) rest) ≡ option_and_then after (joined x (if_passes (λ d. truth d.presence w) o))
one_step w at x rest after None later = refl
one_step w at x rest after (Some d) later = go (d.source == x) (truth d.presence w) refl
  where
    go : (b c : Bool) → (d.source == x) ≡ b → end_state (or_on (cond (not b) (Some (NotJoined (capped at))) (cond c None (Some (NotPresent (capped at))))) rest)
        ≡ option_and_then after (joined x (cond c (Some d) None))
    go true true e = later ∙ sym (ap (λ b. option_and_then after (cond b (Some d.target) None)) e)
    go true false e = refl
    go false true e = sym (ap (λ b. option_and_then after (cond b (Some d.target) None)) e)
    go false false e = refl

steps_end : (s : System) (w : List Bool) (at x : ℕ) (ts : List ℕ) → end_state (steps_replayed s w at x ts) ≡ end_of (projection w s) x ts
steps_end s w at x [] = refl
steps_end s w at x (t ∷ ts) =
    let o = slice_get s.transitions t in
    one_step w at x (steps_replayed s w (suc at) (end_of_step x o) ts) (λ y. end_of (projection w s) y ts) o (steps_end s w (suc at) (end_of_step x o) ts)
    ∙ ap (λ d. option_and_then (λ y. end_of (projection w s) y ts) (joined x d)) (sym (transition_there s w t))

-- a replay ends where the run does
pub replay_end : (s : System) (w : List Bool) (start : ℕ) (steps : List ℕ) → end_state (replay_answer s w start steps) ≡ replays (projection w s) start steps
unfolding replay_answer
replay_end s w start steps = go (is_initial (projection w s) start)
  where
    go : (b : Bool) → end_state (cond b (steps_replayed s w 0 start steps) NotInitial) ≡ cond b (end_of (projection w s) start steps) None
    go true = steps_end s w 0 start steps
    go false = refl

pub replay_is_run : ReplayIsRun
replay_is_run s w start steps end =
    let same = replay_end s w start steps in
    (λ e. sym same ∙ ap end_state e, λ e. is_end (replay_answer s w start steps) end (same ∙ e))
