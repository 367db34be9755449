-- The list of the targets, one state after another.
use Rattle.std.proofs.Common.{◌≡◌, ◌∙◌, sym, ap, subst, ℕ, suc, ◌+◌, ◌<◌, List, [], ◌∷◌, ◌++◌, map, get_or, Bool, false, arith}
use Rattle.std.specs.Prelude.{if◌then◌else◌, filter}
use Rattle.std.specs.List.{AllByRecursion}
use Rattle.std.proofs.lemmas.List.{map-append}
use Rattle.std.proofs.lemmas.List.Elements.{All-push, All-weaker, All-map, recursion_from_All, filter-append}
use Rattle.meaning.specs.Texts.{numbers_from}
use Rattle.meaning.proofs.RunDistances.{numbers_push}
use Rattle.worlds.specs.Algebra.{Algebra}
use Rattle.invariant_check.specs.Findings.{IsTarget, Ascend}
use Rattle.invariant_check.specs.Targets.{AreTargets}

ascend_push : (ns : List ℕ) (n : ℕ) → Ascend ns → AllByRecursion (λ m. m < n) ns → Ascend (ns ++ n ∷ [])
ascend_push [] n ascend all = tt
ascend_push (m ∷ []) n ascend all = (all.0, tt)
ascend_push (m ∷ k ∷ ns) n ascend all = (ascend.0, ascend_push (k ∷ ns) n ascend.1 all.1)

module _ {C : Type 0} {a : Algebra C} where
  pub targets_push : (targets : List (ℕ × C)) (n : ℕ) (c : C) → AreTargets a targets n → IsTarget a (n, c) → AreTargets a (targets ++ (n, c) ∷ []) (n + 1)
  targets_push targets n c h target = record {
    each = All-push (IsTarget a) targets (n, c) h.each target;
    ascend = subst Ascend (sym (map-append {B = ℕ} (λ t. t.0) targets ((n, c) ∷ [])))
        (ascend_push (map {B = ℕ} (λ t. t.0) targets) n h.ascend
        (recursion_from_All (λ m. m < n) (map {B = ℕ} (λ t. t.0) targets) (All-map (λ m. m < n) (λ t. t.0) targets h.below)));
    below = All-push (λ t. t.0 < n + 1) targets (n, c) (All-weaker (λ t. t.0 < n) (λ t. t.0 < n + 1) (λ t l. omega (arith, l)) targets h.below) (omega arith);
  }

  pub targets_past : (targets : List (ℕ × C)) (n : ℕ) → AreTargets a targets n → AreTargets a targets (n + 1)
  targets_past targets n h = record {
    each = h.each;
    ascend = h.ascend;
    below = All-weaker (λ t. t.0 < n) (λ t. t.0 < n + 1) (λ t l. omega (arith, l)) targets h.below;
  }

-- one number more of those at which a row is true
pub numbers_more : (row : List Bool) (n : ℕ) (before now : List ℕ) (b : Bool) → b ≡ get_or row n false → before ≡ filter (λ i. get_or row i false) (numbers_from 0 n)
    → now ≡ before ++ (if b then n ∷ [] else []) → now ≡ filter (λ i. get_or row i false) (numbers_from 0 (n + 1))
numbers_more row n before now b is so_far more =
    let next : n + 1 ≡ suc n = omega arith in
    let first : 0 + n ≡ n = omega arith in
    more ∙ ap (λ ns. ns ++ (if b then n ∷ [] else [])) so_far
    ∙ ap (λ t. filter (λ i. get_or row i false) (numbers_from 0 n) ++ (if t then n ∷ [] else [])) is
    ∙ sym (ap (λ k. filter (λ i. get_or row i false) (numbers_from 0 k)) next
    ∙ ap (filter (λ i. get_or row i false)) (numbers_push 0 n ∙ ap (λ k. numbers_from 0 n ++ k ∷ []) first)
    ∙ filter-append (λ i. get_or row i false) (numbers_from 0 n) (n ∷ []))
