-- What is seen of a list whose elements have keys, no two of them the same: of two such lists with the same keys the same elements are seen.
use Rattle.std.proofs.Common.{◌≡◌, ◌≢◌, List, [], ◌∷◌, map, Bool, true, false, refl, sym, ap, ◌∙◌, subst, inl, inr}
use Rattle.std.specs.Prelude.{cond, filter}
use Rattle.meaning.proofs.CutTrees.{Each}
use Rattle.meaning.proofs.Members.{Member, Pairwise}
use Rattle.meaning.proofs.PairedLists.{Paired}
use Rattle.meaning.proofs.OnceLists.{not_member}

-- ---- what is seen of a list whose keys differ

module _ {A N K : Type 0} (key_of : N → K) where
  module _ (p : A → Bool) (f : A → N) (key : A → K) (same : (x : A) → key_of (f x) ≡ key x) where
    abbrev pub seen : List A → List N
    seen xs = map f (filter p xs)

    pub seen_key : (xs : List A) (z : N) → Member z (seen xs) → Member (key_of z) (map key xs)
    seen_key [] z m = m
    seen_key (x ∷ xs) z m = go (p x) m (seen_key xs z)
      where
        go : (b : Bool) → Member z (map f (cond b (x ∷ filter p xs) (filter p xs))) → (Member z (seen xs) → Member (key_of z) (map key xs)) → Member (key_of z) (map key (x ∷ xs))
        go true (inl e) later = inl (sym (same x) ∙ ap key_of e)
        go true (inr n) later = inr (later n)
        go false n later = inr (later n)

    -- what is seen is that of the element with its key
    abbrev pub IsThat : N → A → Type 0
    IsThat z x = key x ≡ key_of z → (p x ≡ true) × (f x ≡ z)

    pub seen_is_that : (xs : List A) → Pairwise (λ s t. s ≢ t) (map key xs) → (z : N) → Member z (seen xs) → Each (IsThat z) xs
    seen_is_that [] d z m = tt
    seen_is_that (x ∷ xs) d z m = go (p x) refl m (λ n. seen_is_that xs d.1 z n)
      where
        other_keys : (ys : List A) → f x ≡ z → Each (λ t. key x ≢ t) (map key ys) → Each (IsThat z) ys
        other_keys [] e h = tt
        other_keys (y ∷ ys) e h = ((λ g. elim (h.0 (sym (same x) ∙ ap key_of e ∙ sym g)) [ ]), other_keys ys e h.1)

        not_this : Member z (seen xs) → IsThat z x
        not_this n e = elim (not_member (key x) (map key xs) d.0 (subst (λ k. Member k (map key xs)) (sym e) (seen_key xs z n))) [ ]

        go : (b : Bool) → p x ≡ b → Member z (map f (cond b (x ∷ filter p xs) (filter p xs))) → (Member z (seen xs) → Each (IsThat z) xs) → Each (IsThat z) (x ∷ xs)
        go true e (inl g) later = ((λ i. (e, g)), other_keys xs g d.0)
        go true e (inr n) later = (not_this n, later n)
        go false e n later = (not_this n, later n)

-- ---- what is seen of two lists with the same keys

module _ {A B N K : Type 0} (key_of : N → K) (p : A → Bool) (f : A → N) (key : A → K) (same : (x : A) → key_of (f x) ≡ key x)
    (q : B → Bool) (g : B → N) (other_key : B → K) (also : (y : B) → key_of (g y) ≡ other_key y) where
  abbrev pub SeenAlike : A → B → Type 0
  SeenAlike x y = (p x ≡ q y) × (p x ≡ true → f x ≡ g y)

  pub seen_alike : (xs : List A) (ys : List B) → Paired (λ x y. key x ≡ other_key y) xs ys
      → Pairwise (λ s t. s ≢ t) (map key xs) → Pairwise (λ s t. s ≢ t) (map other_key ys)
      → map f (filter p xs) ≡ map g (filter q ys) → Paired SeenAlike xs ys
  seen_alike [] [] k d c e = tt
  seen_alike [] (y ∷ ys) k d c e = elim k [ ]
  seen_alike (x ∷ xs) [] k d c e = elim k [ ]
  seen_alike (x ∷ xs) (y ∷ ys) k d c e = go (p x) (q y) refl refl e (λ h. seen_alike xs ys k.1 d.1 c.1 h)
    where
      first : {a b : N} {cs ds : List N} → a ∷ cs ≡ b ∷ ds → a ≡ b
      first h = cc

      rest : {a b : N} {cs ds : List N} → a ∷ cs ≡ b ∷ ds → cs ≡ ds
      rest h = cc

      go : (b c' : Bool) → p x ≡ b → q y ≡ c' → map f (cond b (x ∷ filter p xs) (filter p xs)) ≡ map g (cond c' (y ∷ filter q ys) (filter q ys))
          → (map f (filter p xs) ≡ map g (filter q ys) → Paired SeenAlike xs ys) → Paired SeenAlike (x ∷ xs) (y ∷ ys)
      go true true u v h later = ((u ∙ sym v, λ i. first h), later (rest h))
      go false false u v h later = ((u ∙ sym v, λ i. elim (no_true (sym u ∙ i)) [ ]), later h)
        where
          no_true : false ≡ true → ⊥
          no_true j = cc
      go true false u v h later =
          elim (not_member (other_key y) (map other_key ys) c.0
          (subst (λ t. Member t (map other_key ys)) (same x ∙ k.0) (seen_key key_of q g other_key also ys (f x) (subst (Member (f x)) h (inl refl))))) [ ]
      go false true u v h later =
          elim (not_member (key x) (map key xs) d.0
          (subst (λ t. Member t (map key xs)) (also y ∙ sym k.0) (seen_key key_of p f key same xs (g y) (subst (Member (g y)) (sym h) (inl refl))))) [ ]

-- ---- two filters that keep at the same places

module _ {A B N : Type 0} (p : A → Bool) (f : A → N) (q : B → Bool) (g : B → N) where
  pub kept_alike : (xs : List A) (ys : List B) → Paired (λ x y. p x ≡ q y) xs ys → map f (filter p xs) ≡ map g (filter q ys) → Paired (λ x y. p x ≡ true → f x ≡ g y) xs ys
  kept_alike [] [] k e = tt
  kept_alike [] (y ∷ ys) k e = elim k [ ]
  kept_alike (x ∷ xs) [] k e = elim k [ ]
  kept_alike (x ∷ xs) (y ∷ ys) k e = go (p x) (q y) refl k.0 e (λ h. kept_alike xs ys k.1 h)
    where
      first : {a b : N} {cs ds : List N} → a ∷ cs ≡ b ∷ ds → a ≡ b
      first h = cc

      rest : {a b : N} {cs ds : List N} → a ∷ cs ≡ b ∷ ds → cs ≡ ds
      rest h = cc

      apart : {C : Type 0} (b : Bool) → b ≡ true → b ≡ false → C
      apart b i j = elim (no_true b i j) [ ]
        where
          no_true : (b : Bool) → b ≡ true → b ≡ false → ⊥
          no_true b i j = cc

      go : (b c : Bool) → p x ≡ b → p x ≡ c → map f (cond b (x ∷ filter p xs) (filter p xs)) ≡ map g (cond c (y ∷ filter q ys) (filter q ys))
          → (map f (filter p xs) ≡ map g (filter q ys) → Paired (λ x y. p x ≡ true → f x ≡ g y) xs ys) → Paired (λ x y. p x ≡ true → f x ≡ g y) (x ∷ xs) (y ∷ ys)
      go true true u v h later = ((λ i. first h), later (rest h))
      go false false u v h later = ((λ i. apart (p x) i u), later h)
      go true false u v h later = apart (p x) u v
      go false true u v h later = apart (p x) v u
