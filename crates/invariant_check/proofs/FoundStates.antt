-- What the first met violations say of a check: where it is supported and refuted, and in which state its run ends.
use Rattle.std.proofs.Common.{◌≡◌, ◌∙◌, refl, sym, ap, ℕ, zero, suc, ◌+◌, ◌<◌, ◌≤◌, List, [], ◌∷◌, map, length, get_or, Bool, true, false, cond, Option, Some, None, arith}
use Rattle.std.specs.Prelude.{◌&&◌, not, filter, find, option_map, option_to_list, is_none, if◌then◌else◌}
use Rattle.std.proofs.Math.Bool.{not-not}
use Rattle.meaning.specs.Texts.{numbers_from, holds_at}
use Rattle.meaning.specs.Models.{Model, System, projection}
use Rattle.meaning.specs.Layers.{is_system_there, layers_there, states_by_distance}
use Rattle.meaning.specs.Systems.{Property, violates, is_number, is_refuted, last_state}
use Rattle.worlds.specs.Algebra.{Algebra, Kept, HoldsWhere}
use Rattle.worlds.specs.Rows.{RowWhere, row_at}
use Rattle.worlds.proofs.Kept.{holds_as, holds_later, world_before}
use Rattle.worlds.proofs.Rows.{row_is_at, row_later}
use Rattle.featured_systems.specs.Exploring.{layers_at}
use Rattle.invariant_check.specs.Findings.{last_there}
use Rattle.invariant_check.specs.Searching.{Violating, first_met, is_open, firsts_at}
use Rattle.invariant_check.specs.Targets.{ends_at, IsJudged}
use Rattle.invariant_check.proofs.PlainChecks.{place_holds}
use Rattle.invariant_check.proofs.FirstViolations.{holds_at_numbers, one_is, none_are, find_filter, find_map, last_is_first, refuted_has_last, state_of_pair}
use Rattle.invariant_check.proofs.LeftStates.{numbers_length}
use Rattle.invariant_check.proofs.LayerPlaces.{last_below}

-- ---- truth values

open_if : (u : Bool) (o p : Option ℕ) (r : Bool) → (u ≡ true → o ≡ p) → r ≡ not (is_none p) → (u && is_none o) ≡ (u && not r)
open_if false o p r same refuted = refl
open_if true o p r same refuted = ap is_none (same refl) ∙ sym (not-not (is_none p)) ∙ sym (ap not refuted)

refuted_if : (u s r : Bool) → s ≡ (u && not r) → (u && not s) ≡ (u && r)
refuted_if false s r is = refl
refuted_if true s r is = ap not is ∙ not-not r

first_if : (u : Bool) (o p : Option ℕ) (n : ℕ) → (u ≡ true → o ≡ p) → map (λ i. u && is_number i o) (numbers_from 0 n) ≡ map (λ i. u && is_number i p) (numbers_from 0 n)
first_if false o p n same = refl
first_if true o p n same = ap (λ q. map (λ i. is_number i q) (numbers_from 0 n)) (same refl)

-- ---- numbers at which a row is true

filter_numbers : (f g : ℕ → Bool) (n : ℕ) → ((i : ℕ) → i < n → f i ≡ g i) → (k m : ℕ) → k + m ≤ n → filter f (numbers_from k m) ≡ filter g (numbers_from k m)
filter_numbers f g n same k zero within = refl
filter_numbers f g n same k (suc m) within =
    ap (λ b. cond b (k ∷ filter f (numbers_from (suc k) m)) (filter f (numbers_from (suc k) m))) (same k (omega (arith, within)))
    ∙ ap (λ ks. cond (g k) (k ∷ ks) ks) (filter_numbers f g n same (suc k) m (omega (arith, within)))

true_numbers : (g : ℕ → Bool) (n : ℕ) → filter (λ i. get_or (map g (numbers_from 0 n)) i false) (numbers_from 0 n) ≡ filter g (numbers_from 0 n)
true_numbers g n =
    filter_numbers (λ i. get_or (map g (numbers_from 0 n)) i false) g n
    (λ i below. (let long = numbers_length g 0 n in let first : 0 + i ≡ i = omega arith in
    sym (place_holds (map g (numbers_from 0 n)) i false (omega (arith, long, below))) ∙ holds_at_numbers g 0 n i below ∙ ap g first)) 0 n (omega arith)

never_kept : (ns : List ℕ) → filter (λ (i : ℕ). false) ns ≡ []
never_kept [] = refl
never_kept (n ∷ ns) = never_kept ns

one_kept : (u : Bool) (o : Option ℕ) (n : ℕ) → ((m : ℕ) → o ≡ Some m → m < n) → filter (λ i. u && is_number i o) (numbers_from 0 n) ≡ (if u then option_to_list o else [])
one_kept false o n below = never_kept (numbers_from 0 n)
one_kept true None n below = none_are 0 n
one_kept true (Some m) n below = one_is 0 n m (omega arith) (omega (arith, below m refl))

map_both : {A B D : Type 0} (f : A → B) (g : B → D) (o : Option A) → option_map (λ x. g (f x)) o ≡ option_map g (option_map f o)
map_both f g None = refl
map_both f g (Some x) = refl

-- ---- over conditions

module _ {C : Type 0} (a : Algebra C) (violating : List C) (layers : List (ℕ × ℕ × C)) where
  -- the first layer that holds and whose state violates is the first of the layers there whose state does
  met_there : (x : List Bool) → first_met a violating layers x ≡ option_map state_of_pair (find (λ l. holds_at (row_at a violating x) l.1) (layers_at a layers x))
  met_there x =
      let test : ℕ × ℕ × C → Bool = λ l. holds_at (row_at a violating x) l.1 in
      let pair : ℕ × ℕ × C → ℕ × ℕ = λ l. (l.0, l.1) in
      let kept = filter (λ (l : ℕ × ℕ × C). a.holds l.2 x) layers in
      ap (option_map (λ (l : ℕ × ℕ × C). l.1)) (sym (find_filter (λ (l : ℕ × ℕ × C). a.holds l.2 x) test layers))
      ∙ map_both pair state_of_pair (find test kept)
      ∙ ap (option_map state_of_pair) (sym (find_map pair (λ (l : ℕ × ℕ). holds_at (row_at a violating x) l.1) kept))

  module _ (m : Model) (s : System) (p : Property) (violates_there : Violating a m s p violating)
      (layered : (x : List Bool) → a.is_world x ≡ true → layers_at a layers x ≡ layers_there m s x) where
    pub met_is_last : (x : List Bool) → a.is_world x ≡ true → is_system_there m s x ≡ true → first_met a violating layers x ≡ last_state (length m.labels) (projection x s) p
    met_is_last x w there =
        met_there x
        ∙ ap (λ row. option_map state_of_pair (find (λ (l : ℕ × ℕ). holds_at row l.1) (layers_at a layers x))) (violates_there.holds x w there)
        ∙ ap (λ ps. option_map state_of_pair (find (λ (l : ℕ × ℕ). holds_at (map (violates (length m.labels) (projection x s) p) (numbers_from 0 (length s.states))) l.1) ps))
        (layered x w ∙ ap (λ b. if b then states_by_distance (projection x s) else []) there)
        ∙ last_is_first (length m.labels) (projection x s) p

    module _ {b c : Algebra C} (under : C) (ab : Kept a b) (bc : Kept b c) (live : a.live under)
        (there : (x : List Bool) → a.is_world x ≡ true → a.holds under x ≡ true → is_system_there m s x ≡ true) where
      supported_at : (x : List Bool) → a.is_world x ≡ true → is_open a under violating layers x ≡ (a.holds under x && not (is_refuted (length m.labels) (projection x s) p))
      supported_at x w = open_if (a.holds under x) (first_met a violating layers x) (last_state (length m.labels) (projection x s) p) (is_refuted (length m.labels) (projection x s) p)
          (λ held. met_is_last x w (there x w held)) (refuted_has_last (length m.labels) (projection x s) p)

      -- where no violation is met, and where one is
      pub judged_is : (supported refuted : C) (ends : List C) → HoldsWhere b supported (is_open a under violating layers) → RowWhere b ends (firsts_at a under violating layers)
          → HoldsWhere c refuted (λ x. b.holds under x && not (b.holds supported x))
          → IsJudged c (length m.labels) s p under supported refuted ends
      judged_is supported refuted ends open_b ends_b made = record {
        where_supported = holds_as (is_open a under violating layers) (λ x. c.holds under x && not (is_refuted (length m.labels) (projection x s) p))
            (λ x w. supported_at x (before x w) ∙ ap (λ u. u && not (is_refuted (length m.labels) (projection x s) p)) (sym (under_later x))) (holds_later bc open_b);
        where_refuted = holds_as (λ x. b.holds under x && not (b.holds supported x)) (λ x. c.holds under x && is_refuted (length m.labels) (projection x s) p)
            (λ x w. ap (λ u. u && not (b.holds supported x)) (ab.holds under live x)
            ∙ refuted_if (a.holds under x) (b.holds supported x) (is_refuted (length m.labels) (projection x s) p) (open_b.holds x (world_before x bc w) ∙ supported_at x (before x w))
            ∙ ap (λ u. u && is_refuted (length m.labels) (projection x s) p) (sym (under_later x))) made;
        where_ends = row_is_at (firsts_at a under violating layers) (ends_at c under (length m.labels) s p)
            (λ x w. ap (λ n. map (λ i. a.holds under x && is_number i (first_met a violating layers x)) (numbers_from 0 n)) violates_there.size
            ∙ first_if (a.holds under x) (first_met a violating layers x) (last_state (length m.labels) (projection x s) p) (length s.states) (λ held. met_is_last x (before x w) (there x (before x w) held))
            ∙ ap (λ u. map (λ i. u && is_number i (last_state (length m.labels) (projection x s) p)) (numbers_from 0 (length s.states))) (sym (under_later x))) (row_later bc ends_b);
      }
        where
          before : (x : List Bool) → c.is_world x ≡ true → a.is_world x ≡ true
          before x w = world_before x ab (world_before x bc w)

          under_later : (x : List Bool) → c.holds under x ≡ a.holds under x
          under_later x = bc.holds under (ab.live under live) x ∙ ab.holds under live x

-- the states at whose place the row is true
pub ends_listed : {C : Type 0} (a : Algebra C) (under : C) (labels : ℕ) (s : System) (p : Property) (x : List Bool)
    → filter (λ i. get_or (ends_at a under labels s p x) i false) (numbers_from 0 (length s.states)) ≡ last_there labels s p (a.holds under x) x
ends_listed a under labels s p x =
    true_numbers (λ i. a.holds under x && is_number i (last_state labels (projection x s) p)) (length s.states)
    ∙ one_kept (a.holds under x) (last_state labels (projection x s) p) (length s.states) (last_below labels (projection x s) p)
