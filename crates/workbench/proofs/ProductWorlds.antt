-- Diagrams that are restricted to the condition of a line have its valid worlds.
use Rattle.std.proofs.Common.{◌≡◌, refl, sym, ap, ◌∙◌, ℕ, zero, suc, ◌≤◌, List, [], ◌∷◌, length, Bool, true, false, ◌&&◌, inl, inr, arith}
use Rattle.std.specs.Prelude.{◌⊎◌, ◌==◌}
use Rattle.std.specs.List.{list_all}
use Rattle.meaning.proofs.EqualityTests.{equal_numbers}
use Rattle.meaning.specs.Features.{Line, is_valid, respects_tree, respects_mandatory, respects_groups}
use Rattle.meaning.specs.Expressions.{Expression, truth}
use Rattle.meaning.specs.BundleRules.{NoWorldIsValid}
use Rattle.node_pool.specs.declared.node.NodeNo.{NodeNo}
use Rattle.node_pool.specs.Functions.{function_of, world_of}
use Rattle.node_pool.proofs.Values.{value-constant}
use Rattle.worlds.specs.Algebra.{Kept, HoldsWhere, HoldsNowhere, has}
use Rattle.conditions.specs.Diagrams.{State, algebra_of, IsRestricted}
use Rattle.workbench.specs.Products.{SameLimits}

-- ---- lists of truth values

-- some list of this length passes the test, or none does
pub some_or_none : (n : ℕ) (test : List Bool → Bool) → ((x : List Bool) × (length x ≡ n) × (test x ≡ true)) ⊎ ((x : List Bool) → length x ≡ n → test x ≡ false)
some_or_none zero test = empty (test []) refl
  where
    only_empty : test [] ≡ false → (x : List Bool) → length x ≡ 0 → test x ≡ false
    only_empty e [] l = e
    only_empty e (b ∷ x) l = absurd (omega (arith, l))

    empty : (b : Bool) → test [] ≡ b → ((x : List Bool) × (length x ≡ 0) × (test x ≡ true)) ⊎ ((x : List Bool) → length x ≡ 0 → test x ≡ false)
    empty true e = inl ([], refl, e)
    empty false e = inr (only_empty e)
some_or_none (suc n) test = go (some_or_none n (λ x. test (true ∷ x))) (some_or_none n (λ x. test (false ∷ x)))
  where
    neither : ((x : List Bool) → length x ≡ n → test (true ∷ x) ≡ false) → ((x : List Bool) → length x ≡ n → test (false ∷ x) ≡ false)
        → (x : List Bool) → length x ≡ suc n → test x ≡ false
    neither f g [] l = absurd (omega (arith, l))
    neither f g (true ∷ x) l = f x (omega (arith, l))
    neither f g (false ∷ x) l = g x (omega (arith, l))

    go : ((x : List Bool) × (length x ≡ n) × (test (true ∷ x) ≡ true)) ⊎ ((x : List Bool) → length x ≡ n → test (true ∷ x) ≡ false)
        → ((x : List Bool) × (length x ≡ n) × (test (false ∷ x) ≡ true)) ⊎ ((x : List Bool) → length x ≡ n → test (false ∷ x) ≡ false)
        → ((x : List Bool) × (length x ≡ suc n) × (test x ≡ true)) ⊎ ((x : List Bool) → length x ≡ suc n → test x ≡ false)
    go (inl h) other = inl (true ∷ h.0, (let l : length h.0 ≡ n = h.1 in omega (arith, l)), h.2)
    go (inr f) (inl h) = inl (false ∷ h.0, (let l : length h.0 ≡ n = h.1 in omega (arith, l)), h.2)
    go (inr f) (inr g) = inr (neither f g)

-- ---- limits

pub kept_limits : (s t : State) → Kept (algebra_of s) (algebra_of t) → SameLimits s t
kept_limits s t k = record { vars = k.count; limit = k.limit; refused = k.refused }

pub same_limits : (s : State) → SameLimits s s
same_limits s = record { vars = refl; limit = refl; refused = omega arith }

pub limits_later : (s t u : State) → SameLimits s t → SameLimits t u → SameLimits s u
limits_later s t u h i = record {
  vars = i.vars ∙ h.vars;
  limit = i.limit ∙ h.limit;
  refused = let a : s.refused ≤ t.refused = h.refused in let b : t.refused ≤ u.refused = i.refused in omega (arith, a, b);
}

-- ---- worlds

module _ (old mid : State) (all : old.valid ≡ record { 0 = 1 }) (k : Kept (algebra_of old) (algebra_of mid)) where
  world_by_length : (w : List Bool) → (algebra_of mid).is_world w ≡ (length w == old.region.vars)
  world_by_length w =
      k.worlds w ∙ ap (λ b. (length w == old.region.vars) && b)
      (ap (λ (v : NodeNo). function_of old.region v.0 (world_of w)) all ∙ value-constant old.region.nodes 1 (world_of w) (omega arith))
      ∙ with_true (length w == old.region.vars)
    where
      with_true : (b : Bool) → (b && true) ≡ b
      with_true true = refl
      with_true false = refl

  module _ (line : Line) (places : old.region.vars ≡ length line.features) (c : NodeNo) (e : Expression)
      (exact : (w : List Bool) → length w ≡ length line.features → truth e w ≡ is_valid line w)
      (made : HoldsWhere (algebra_of mid) c (λ x. truth e x)) where
    many_is : (w : List Bool) (b : Bool) → (length w == old.region.vars) ≡ b → (length w == length line.features) ≡ b
    many_is w b h = ap (λ n. length w == n) (sym places) ∙ h

    other_length : (w : List Bool) → (length w == old.region.vars) ≡ false → is_valid line w ≡ false
    unfolding is_valid
    other_length w h =
        ap (λ b. b && respects_tree line w && respects_mandatory line w && respects_groups line w && list_all (λ x. truth x w) line.constraints) (many_is w false h)

    same_length : (w : List Bool) → (length w == old.region.vars) ≡ true → length w ≡ length line.features
    same_length w h = equal_numbers (length w) old.region.vars h ∙ places

    holds_here : (w : List Bool) → (length w == old.region.vars) ≡ true → (algebra_of mid).holds c w ≡ is_valid line w
    holds_here w h = made.holds w (world_by_length w ∙ h) ∙ exact w (same_length w h)

    has_where : (w : List Bool) (b : Bool) → (length w == old.region.vars) ≡ b → has (algebra_of mid) c w ≡ is_valid line w
    has_where w true h = ap (λ x. x && (algebra_of mid).holds c w) (world_by_length w ∙ h) ∙ holds_here w h
    has_where w false h = ap (λ x. x && (algebra_of mid).holds c w) (world_by_length w ∙ h) ∙ sym (other_length w h)

    pub no_product : HoldsNowhere (algebra_of mid) c → NoWorldIsValid line
    no_product none w = go (length w == old.region.vars) refl
      where
        go : (b : Bool) → (length w == old.region.vars) ≡ b → is_valid line w ≡ false
        go true h = sym (holds_here w h) ∙ none w (world_by_length w ∙ h)
        go false h = other_length w h

    -- some world has it
    pub some_product : (HoldsNowhere (algebra_of mid) c → ⊥) → (w : List Bool) × (is_valid line w ≡ true)
    some_product some = go (some_or_none old.region.vars (is_valid line))
      where
        go : ((x : List Bool) × (length x ≡ old.region.vars) × (is_valid line x ≡ true)) ⊎ ((x : List Bool) → length x ≡ old.region.vars → is_valid line x ≡ false)
            → (w : List Bool) × (is_valid line w ≡ true)
        go (inl h) = (h.0, h.2)
        go (inr none) = absurd (some (λ x world. holds_here x (sym (world_by_length x) ∙ world) ∙ none x (equal_numbers (length x) old.region.vars (sym (world_by_length x) ∙ world))))

    module _ (new : State) (r : IsRestricted mid new c) where
      pub worlds_are_valid : (w : List Bool) → (algebra_of new).is_world w ≡ is_valid line w
      worlds_are_valid w = r.worlds w ∙ has_where w (length w == old.region.vars) refl

      pub restricted_limits : SameLimits old new
      restricted_limits =
          limits_later old mid new (kept_limits old mid k)
          (record { vars = r.count; limit = r.limit; refused = let e : new.refused ≡ mid.refused = r.refused in omega (arith, e) })
