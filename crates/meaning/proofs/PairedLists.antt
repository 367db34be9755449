-- Two lists of one length, of which the elements at each place stand in a relation.
use Rattle.std.proofs.Common.{◌≡◌, ℕ, zero, suc, List, [], ◌∷◌, ◌++◌, map, length, Some, None, refl, sym, ap, arith}
use Rattle.std.specs.List.{slice_get}
use Rattle.meaning.specs.Texts.{flat}
use Rattle.meaning.proofs.CutTrees.{Each}

abbrev pub Paired : {A B : Type 0} → (A → B → Type 0) → List A → List B → Type 0
Paired R [] [] = Unit {0}
Paired R [] (y ∷ ys) = ⊥
Paired R (x ∷ xs) [] = ⊥
Paired R (x ∷ xs) (y ∷ ys) = R x y × Paired R xs ys

module _ {A B : Type 0} (R : A → B → Type 0) where
  pub paired_length : (xs : List A) (ys : List B) → Paired R xs ys → length xs ≡ length ys
  paired_length [] [] h = refl
  paired_length [] (y ∷ ys) h = elim h [ ]
  paired_length (x ∷ xs) [] h = elim h [ ]
  paired_length (x ∷ xs) (y ∷ ys) h = ap suc (paired_length xs ys h.1)

  pub paired_append : (xs : List A) (ys : List B) (us : List A) (vs : List B) → Paired R xs ys → Paired R us vs → Paired R (xs ++ us) (ys ++ vs)
  paired_append [] [] us vs h g = g
  paired_append [] (y ∷ ys) us vs h g = elim h [ ]
  paired_append (x ∷ xs) [] us vs h g = elim h [ ]
  paired_append (x ∷ xs) (y ∷ ys) us vs h g = (h.0, paired_append xs ys us vs h.1 g)

  pub paired_at : (xs : List A) (ys : List B) → Paired R xs ys → (i : ℕ) (x : A) (y : B) → slice_get xs i ≡ Some x → slice_get ys i ≡ Some y → R x y
  paired_at [] ys h i x y e f = elim (none_is_some e) [ ]
    where
      none_is_some : None ≡ Some x → ⊥
      none_is_some e = cc
  paired_at (a ∷ xs) [] h i x y e f = elim h [ ]
  paired_at (a ∷ xs) (b ∷ ys) h zero x y e f = rw (sym (some_is a x e), sym (some_is b y f)) h.0
    where
      some_is : {C : Type 0} (c d : C) → Some c ≡ Some d → c ≡ d
      some_is c d e = cc
  paired_at (a ∷ xs) (b ∷ ys) h (suc i) x y e f = paired_at xs ys h.1 i x y e f

  -- the place of an element has one in the other list
  pub paired_place : (xs : List A) (ys : List B) → Paired R xs ys → (i : ℕ) (x : A) → slice_get xs i ≡ Some x → (y : B) × (slice_get ys i ≡ Some y) × R x y
  paired_place [] ys h i x e = elim (none_is_some e) [ ]
    where
      none_is_some : None ≡ Some x → ⊥
      none_is_some e = cc
  paired_place (a ∷ xs) [] h i x e = elim h [ ]
  paired_place (a ∷ xs) (b ∷ ys) h zero x e = (b, refl, rw (sym (some_is e)) h.0)
    where
      some_is : Some a ≡ Some x → a ≡ x
      some_is e = cc
  paired_place (a ∷ xs) (b ∷ ys) h (suc i) x e = paired_place xs ys h.1 i x e

  pub paired_by_place : (xs : List A) (ys : List B) → length xs ≡ length ys
      → ((i : ℕ) (x : A) (y : B) → slice_get xs i ≡ Some x → slice_get ys i ≡ Some y → R x y) → Paired R xs ys
  paired_by_place [] [] l h = tt
  paired_by_place [] (y ∷ ys) l h = absurd (omega (arith, l))
  paired_by_place (x ∷ xs) [] l h = absurd (omega (arith, l))
  paired_by_place (x ∷ xs) (y ∷ ys) l h = (h 0 x y refl refl, paired_by_place xs ys (omega (arith, l)) (λ i a b e f. h (suc i) a b e f))

module _ {A B C D : Type 0} (R : A → B → Type 0) (S : C → D → Type 0) where
  pub paired_map : (f : A → C) (g : B → D) → ((x : A) (y : B) → R x y → S (f x) (g y)) → (xs : List A) (ys : List B) → Paired R xs ys → Paired S (map f xs) (map g ys)
  paired_map f g k [] [] h = tt
  paired_map f g k [] (y ∷ ys) h = elim h [ ]
  paired_map f g k (x ∷ xs) [] h = elim h [ ]
  paired_map f g k (x ∷ xs) (y ∷ ys) h = (k x y h.0, paired_map f g k xs ys h.1)

  pub paired_flat : (f : A → List C) (g : B → List D) → ((x : A) (y : B) → R x y → Paired S (f x) (g y)) → (xs : List A) (ys : List B) → Paired R xs ys → Paired S (flat f xs) (flat g ys)
  paired_flat f g k [] [] h = tt
  paired_flat f g k [] (y ∷ ys) h = elim h [ ]
  paired_flat f g k (x ∷ xs) [] h = elim h [ ]
  paired_flat f g k (x ∷ xs) (y ∷ ys) h = paired_append S (f x) (g y) (flat f xs) (flat g ys) (k x y h.0) (paired_flat f g k xs ys h.1)

module _ {A B : Type 0} where
  pub paired_by : (R S : A → B → Type 0) → ((x : A) (y : B) → R x y → S x y) → (xs : List A) (ys : List B) → Paired R xs ys → Paired S xs ys
  paired_by R S f [] [] h = tt
  paired_by R S f [] (y ∷ ys) h = elim h [ ]
  paired_by R S f (x ∷ xs) [] h = elim h [ ]
  paired_by R S f (x ∷ xs) (y ∷ ys) h = (f x y h.0, paired_by R S f xs ys h.1)

module _ {A : Type 0} where
  -- where paired elements are equal, so are the lists
  pub paired_equal : (R : A → A → Type 0) → ((x y : A) → R x y → x ≡ y) → (xs ys : List A) → Paired R xs ys → xs ≡ ys
  paired_equal R f [] [] h = refl
  paired_equal R f [] (y ∷ ys) h = elim h [ ]
  paired_equal R f (x ∷ xs) [] h = elim h [ ]
  paired_equal R f (x ∷ xs) (y ∷ ys) h = rw (f x y h.0, paired_equal R f xs ys h.1) refl

-- lists that two functions map to one
pub paired_of_maps : {A B C : Type 0} (f : A → C) (g : B → C) (xs : List A) (ys : List B) → map f xs ≡ map g ys → Paired (λ x y. f x ≡ g y) xs ys
paired_of_maps f g [] [] e = tt
paired_of_maps f g [] (y ∷ ys) e = elim (no_item e) [ ]
  where
    no_item : [] ≡ g y ∷ map g ys → ⊥
    no_item h = cc
paired_of_maps f g (x ∷ xs) [] e = elim (no_item e) [ ]
  where
    no_item : f x ∷ map f xs ≡ [] → ⊥
    no_item h = cc
paired_of_maps f g (x ∷ xs) (y ∷ ys) e = (first e, paired_of_maps f g xs ys (rest e))
  where
    first : f x ∷ map f xs ≡ g y ∷ map g ys → f x ≡ g y
    first h = cc

    rest : f x ∷ map f xs ≡ g y ∷ map g ys → map f xs ≡ map g ys
    rest h = cc

pub paired_two : {A B : Type 0} (R S : A → B → Type 0) (xs : List A) (ys : List B) → Paired R xs ys → Paired S xs ys → Paired (λ x y. R x y × S x y) xs ys
paired_two R S [] [] h g = tt
paired_two R S [] (y ∷ ys) h g = elim h [ ]
paired_two R S (x ∷ xs) [] h g = elim h [ ]
paired_two R S (x ∷ xs) (y ∷ ys) h g = ((h.0, g.0), paired_two R S xs ys h.1 g.1)

-- with what holds of each element of the two lists
pub paired_with : {A B : Type 0} (P : A → Type 0) (Q : B → Type 0) (R S : A → B → Type 0) → ((x : A) (y : B) → P x → Q y → R x y → S x y)
    → (xs : List A) (ys : List B) → Each P xs → Each Q ys → Paired R xs ys → Paired S xs ys
paired_with P Q R S f [] [] p q h = tt
paired_with P Q R S f [] (y ∷ ys) p q h = elim h [ ]
paired_with P Q R S f (x ∷ xs) [] p q h = elim h [ ]
paired_with P Q R S f (x ∷ xs) (y ∷ ys) p q h = (f x y p.0 q.0 h.0, paired_with P Q R S f xs ys p.1 q.1 h.1)

-- at each of many, of each pair: of each pair, at each
pub paired_for_all : {A B W : Type 0} (Q : W → A → B → Type 0) (R : A → B → Type 0) (xs : List A) (ys : List B) → Paired R xs ys → ((w : W) → Paired (Q w) xs ys) → Paired (λ x y. (w : W) → Q w x y) xs ys
paired_for_all Q R [] [] r h = tt
paired_for_all Q R [] (y ∷ ys) r h = elim r [ ]
paired_for_all Q R (x ∷ xs) [] r h = elim r [ ]
paired_for_all Q R (x ∷ xs) (y ∷ ys) r h = ((λ w. (h w).0), paired_for_all Q R xs ys r.1 (λ w. (h w).1))
