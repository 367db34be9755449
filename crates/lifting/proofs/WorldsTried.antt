-- A condition that is not never holds at some world: all lists of truth values of one length can be tried.
use Rattle.std.proofs.Common.{◌≡◌, refl, ap, ℕ, zero, suc, List, [], ◌∷◌, length, Bool, true, false, ◌⊎◌, inl, inr, arith}
use Rattle.std.specs.Prelude.{◌&&◌, ◌↔◌, not}
use Rattle.std.specs.Bool.{OnTrue, OnFalse}
use Rattle.std.proofs.lemmas.Bool.{false≢true}
use Rattle.worlds.specs.Algebra.{Algebra, HoldsNowhere, has}
use Rattle.path_queries.specs.Answering.{Somewhere}
use Rattle.meaning.proofs.EmptyLists.{both_true}

Passes : ℕ → (List Bool → Bool) → Type 0
Passes n p = (x : List Bool) × (length x ≡ n) × (p x ≡ true)

Fails : ℕ → (List Bool → Bool) → Type 0
Fails n p = (x : List Bool) → length x ≡ n → p x ≡ false

empty_fails : (p : List Bool → Bool) → p [] ≡ false → (x : List Bool) → length x ≡ zero → p x ≡ false
empty_fails p e [] long = e
empty_fails p e (b ∷ x) long = absurd (omega (arith, long))

both_fail : (n : ℕ) (p : List Bool → Bool) → Fails n (λ x. p (false ∷ x)) → Fails n (λ x. p (true ∷ x)) → (x : List Bool) → length x ≡ suc n → p x ≡ false
unfolding Fails
both_fail n p f g [] long = absurd (omega (arith, long))
both_fail n p f g (false ∷ x) long = f x (omega (arith, long))
both_fail n p f g (true ∷ x) long = g x (omega (arith, long))

-- a test passes at some list of this length, or fails at each
tried : (n : ℕ) (p : List Bool → Bool) → Passes n p ⊎ Fails n p
unfolding Passes Fails
tried zero p = go (p []) refl
  where
    go : (b : Bool) → p [] ≡ b → ((x : List Bool) × (length x ≡ zero) × (p x ≡ true)) ⊎ ((x : List Bool) → length x ≡ zero → p x ≡ false)
    go true e = inl ([], refl, e)
    go false e = inr (λ x long. empty_fails p e x long)
tried (suc n) p = go (tried n (λ x. p (false ∷ x))) (tried n (λ x. p (true ∷ x)))
  where
    go : Passes n (λ x. p (false ∷ x)) ⊎ Fails n (λ x. p (false ∷ x)) → Passes n (λ x. p (true ∷ x)) ⊎ Fails n (λ x. p (true ∷ x)) → Passes (suc n) p ⊎ Fails (suc n) p
    go (inl h) k = inl (false ∷ h.0, ap suc h.1, h.2)
    go (inr f) (inl h) = inl (true ∷ h.0, ap suc h.1, h.2)
    go (inr f) (inr g) = inr (λ x long. both_fail n p f g x long)

-- one that is a world and does not pass is one at which the condition does not hold
not_held : (w h : Bool) → w ≡ true → (w && h) ≡ false → h ≡ false
not_held true h e f = f
not_held false h e f = cc

fails_at_world : {C : Type 0} (a : Algebra C) (c : C) → ((x : List Bool) → a.is_world x ≡ true → length x ≡ a.count) → Fails a.count (has a c) → HoldsNowhere a c
unfolding Fails
fails_at_world a c long fails x w = not_held (a.is_world x) (a.holds c x) w (fails x (long x w))

-- a condition that is not never holds somewhere
somewhere : {C : Type 0} (a : Algebra C) (c : C) → ((x : List Bool) → a.is_world x ≡ true → length x ≡ a.count) → (HoldsNowhere a c → ⊥) → Somewhere a c
unfolding Passes
somewhere a c long not_never = go (tried a.count (has a c))
  where
    go : Passes a.count (has a c) ⊎ Fails a.count (has a c) → Somewhere a c
    go (inl h) = let parts = both_true (a.is_world h.0) (a.holds c h.0) h.2 in (h.0, parts.0, parts.1)
    go (inr fails) = absurd (not_never (fails_at_world a c long fails))

-- whether it holds at none tells whether it holds somewhere
pub somewhere_told : {C : Type 0} (a : Algebra C) (c : C) (r : Bool) → ((x : List Bool) → a.is_world x ≡ true → length x ≡ a.count) → (r ≡ true) ↔ HoldsNowhere a c → OnTrue (not r) (Somewhere a c)
somewhere_told a c true long h = tt
somewhere_told a c false long h = somewhere a c long (λ never. false≢true (h.1 never))

pub nowhere_told : {C : Type 0} (a : Algebra C) (c : C) (r : Bool) → (r ≡ true) ↔ HoldsNowhere a c → OnFalse (not r) (HoldsNowhere a c)
nowhere_told a c true h = h.0 refl
nowhere_told a c false h = tt
