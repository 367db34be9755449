-- Facts of each member of a list: of a part of the list, of a mapped one, and of the member at a place.
use Rattle.std.proofs.Common.{ℕ, zero, suc, ◌<◌, List, [], ◌∷◌, map, length, Bool, true, false, refl, subst, arith}
use Rattle.std.specs.Prelude.{cond, filter, Contains, slice_index_or}
use Rattle.meaning.proofs.CutTrees.{Each}

module _ {A : Type 0} where
  pub each_filtered : (P : A → Type 0) (p : A → Bool) (xs : List A) → Each P xs → Each P (filter p xs)
  each_filtered P p [] h = tt
  each_filtered P p (x ∷ xs) h = go (p x) (each_filtered P p xs h.1)
    where
      go : (b : Bool) → Each P (filter p xs) → Each P (cond b (x ∷ filter p xs) (filter p xs))
      go true i = (h.0, i)
      go false i = i

  pub each_by : (P Q : A → Type 0) → ((x : A) → P x → Q x) → (xs : List A) → Each P xs → Each Q xs
  each_by P Q f [] h = tt
  each_by P Q f (x ∷ xs) h = (f x h.0, each_by P Q f xs h.1)

each_at : {A : Type 0} (P : A → Type 0) (xs : List A) → Each P xs → (i : ℕ) (d : A) → i < length xs → P (slice_index_or xs i d)
each_at P [] h i d l = elim (none_below i l) [ ]
  where
    none_below : (i : ℕ) → i < 0 → ⊥
    none_below i l = omega (arith, l)
each_at P (x ∷ xs) h zero d l = h.0
each_at P (x ∷ xs) h (suc i) d l = each_at P xs h.1 i d (omega (arith, l))

pub each_member : {A : Type 0} (P : A → Type 0) (xs : List A) → Each P xs → (x : A) → Contains xs x → P x
each_member P xs h x c = subst P c.2 (each_at P xs h c.0 x c.1)

pub member_later : {A : Type 0} (y : A) (xs : List A) (x : A) → Contains xs x → Contains (y ∷ xs) x
member_later y xs x c = (suc c.0, omega (arith, c.1), c.2)

pub each_mapped : {A B : Type 0} (P : B → Type 0) (f : A → B) (xs : List A) → Each (λ x. P (f x)) xs → Each P (map f xs)
each_mapped P f [] h = tt
each_mapped P f (x ∷ xs) h = (h.0, each_mapped P f xs h.1)

pub each_from_members : {A : Type 0} (P : A → Type 0) (xs : List A) → ((x : A) → Contains xs x → P x) → Each P xs
each_from_members P [] h = tt
each_from_members P (x ∷ xs) h = (h x (0, omega arith, refl), each_from_members P xs (λ y c. h y (member_later x xs y c)))
