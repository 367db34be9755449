-- The members of a list, by recursion: what they are in parts of lists, and that lists without repetition are no longer than those that have all of theirs.
use Rattle.std.proofs.Common.{◌≡◌, ◌≢◌, ℕ, zero, suc, ◌<◌, ◌≤◌, List, [], ◌∷◌, ◌++◌, map, length, Bool, true, false, Some, None, refl, sym, ap, ◌∙◌, subst, arith, ◌⊎◌, inl, inr}
use Rattle.std.specs.Prelude.{cond, filter, Contains}
use Rattle.std.specs.List.{slice_get}
use Rattle.meaning.specs.Texts.{flat}
use Rattle.meaning.proofs.CutTrees.{Each}
use Rattle.meaning.proofs.EachMembers.{member_later}
use Rattle.meaning.proofs.EachMembers.{each_by}
use Rattle.meaning.proofs.Lists.{each_two}

abbrev pub Member : {A : Type 0} → A → List A → Type 0
Member x [] = ⊥
Member x (y ∷ ys) = (y ≡ x) ⊎ Member x ys

-- every two elements, the earlier and the later, stand in the relation
abbrev pub Pairwise : {A : Type 0} → (A → A → Type 0) → List A → Type 0
Pairwise R [] = Unit {0}
Pairwise R (x ∷ xs) = Each (R x) xs × Pairwise R xs

module _ {A : Type 0} where
  pub member_front : (x : A) (xs ys : List A) → Member x xs → Member x (xs ++ ys)
  member_front x [] ys h = elim h [ ]
  member_front x (z ∷ xs) ys (inl e) = inl e
  member_front x (z ∷ xs) ys (inr h) = inr (member_front x xs ys h)

  pub member_behind : (x : A) (xs ys : List A) → Member x ys → Member x (xs ++ ys)
  member_behind x [] ys h = h
  member_behind x (z ∷ xs) ys h = inr (member_behind x xs ys h)

  pub member_either : (x : A) (xs ys : List A) → Member x (xs ++ ys) → Member x xs ⊎ Member x ys
  member_either x [] ys h = inr h
  member_either x (z ∷ xs) ys (inl e) = inl (inl e)
  member_either x (z ∷ xs) ys (inr h) = go (member_either x xs ys h)
    where
      go : Member x xs ⊎ Member x ys → Member x (z ∷ xs) ⊎ Member x ys
      go (inl i) = inl (inr i)
      go (inr i) = inr i

  pub member_each : (P : A → Type 0) (xs : List A) → Each P xs → (x : A) → Member x xs → P x
  member_each P [] h x m = elim m [ ]
  member_each P (y ∷ xs) h x (inl e) = subst P e h.0
  member_each P (y ∷ xs) h x (inr m) = member_each P xs h.1 x m

  pub each_from_members : (P : A → Type 0) (xs : List A) → ((x : A) → Member x xs → P x) → Each P xs
  each_from_members P [] h = tt
  each_from_members P (x ∷ xs) h = (h x (inl refl), each_from_members P xs (λ y m. h y (inr m)))

  pub member_of_contains : (x : A) (xs : List A) → Contains xs x → Member x xs
  member_of_contains x [] c = elim (none_below c.0 c.1) [ ]
    where
      none_below : (i : ℕ) → i < 0 → ⊥
      none_below i l = omega (arith, l)
  member_of_contains x (y ∷ xs) (zero, l, e) = inl e
  member_of_contains x (y ∷ xs) (suc i, l, e) = inr (member_of_contains x xs (i, omega (arith, l), e))

  pub contains_member : (x : A) (xs : List A) → Member x xs → Contains xs x
  contains_member x [] m = elim m [ ]
  contains_member x (y ∷ xs) (inl e) = (0, omega arith, e)
  contains_member x (y ∷ xs) (inr m) = member_later y xs x (contains_member x xs m)

  pub member_at : (xs : List A) (i : ℕ) (x : A) → slice_get xs i ≡ Some x → Member x xs
  member_at [] i x e = elim (none_is_some e) [ ]
    where
      none_is_some : None ≡ Some x → ⊥
      none_is_some e = cc
  member_at (y ∷ xs) zero x e = inl (some_is e)
    where
      some_is : Some y ≡ Some x → y ≡ x
      some_is e = cc
  member_at (y ∷ xs) (suc i) x e = inr (member_at xs i x e)

  pub member_kept : (p : A → Bool) (xs : List A) (x : A) → Member x xs → p x ≡ true → Member x (filter p xs)
  member_kept p [] x m e = elim m [ ]
  member_kept p (y ∷ xs) x (inl f) e = go (p y) (ap p f ∙ e)
    where
      go : (b : Bool) → b ≡ true → Member x (cond b (y ∷ filter p xs) (filter p xs))
      go true g = inl f
      go false g = elim (no_true g) [ ]
        where
          no_true : false ≡ true → ⊥
          no_true g = cc
  member_kept p (y ∷ xs) x (inr m) e = go (p y) (member_kept p xs x m e)
    where
      go : (b : Bool) → Member x (filter p xs) → Member x (cond b (y ∷ filter p xs) (filter p xs))
      go true g = inr g
      go false g = g

  -- ---- without repetition

  -- no two places have the same element
  pub one_place : (xs : List A) → Pairwise (λ x y. x ≢ y) xs → (i j : ℕ) (x : A) → slice_get xs i ≡ Some x → slice_get xs j ≡ Some x → i ≡ j
  one_place [] d i j x e f = elim (none_is_some e) [ ]
    where
      none_is_some : None ≡ Some x → ⊥
      none_is_some e = cc
  one_place (y ∷ xs) d zero zero x e f = refl
  one_place (y ∷ xs) d zero (suc j) x e f = elim (member_each (λ z. y ≢ z) xs d.0 x (member_at xs j x f) (some_is e)) [ ]
    where
      some_is : Some y ≡ Some x → y ≡ x
      some_is e = cc
  one_place (y ∷ xs) d (suc i) zero x e f = elim (member_each (λ z. y ≢ z) xs d.0 x (member_at xs i x e) (some_is f)) [ ]
    where
      some_is : Some y ≡ Some x → y ≡ x
      some_is e = cc
  one_place (y ∷ xs) d (suc i) (suc j) x e f = ap suc (one_place xs d.1 i j x e f)

  -- a list without one member
  abbrev without : (x : A) (ys : List A) → Member x ys → List A
  without x [] m = []
  without x (y ∷ ys) (inl e) = ys
  without x (y ∷ ys) (inr m) = y ∷ without x ys m

  one_fewer : (x : A) (ys : List A) (m : Member x ys) → suc (length (without x ys m)) ≡ length ys
  one_fewer x [] m = elim m [ ]
  one_fewer x (y ∷ ys) (inl e) = refl
  one_fewer x (y ∷ ys) (inr m) = ap suc (one_fewer x ys m)

  still_member : (x : A) (ys : List A) (m : Member x ys) (z : A) → x ≢ z → Member z ys → Member z (without x ys m)
  still_member x [] m z d h = elim m [ ]
  still_member x (y ∷ ys) (inl e) z d (inl f) = elim (d (sym e ∙ f)) [ ]
  still_member x (y ∷ ys) (inl e) z d (inr h) = h
  still_member x (y ∷ ys) (inr m) z d (inl f) = inl f
  still_member x (y ∷ ys) (inr m) z d (inr h) = inr (still_member x ys m z d h)

  -- elements that all differ and all stand in a list are no more than it has
  pub no_more : (xs ys : List A) → Pairwise (λ x y. x ≢ y) xs → Each (λ x. Member x ys) xs → length xs ≤ length ys
  no_more [] ys d h = omega arith
  no_more (x ∷ xs) ys d h =
      omega (
        arith,
        one_fewer x ys h.0,
        no_more xs (without x ys h.0) d.1
            (each_by (λ z. x ≢ z × Member z ys) (λ z. Member z (without x ys h.0)) (λ z p. still_member x ys h.0 z p.0 p.1) xs (each_two (λ z. x ≢ z) (λ z. Member z ys) xs d.0 h.1)),
      )

module _ {A B : Type 0} where
  pub member_mapped : (f : A → B) (x : A) (xs : List A) → Member x xs → Member (f x) (map f xs)
  member_mapped f x [] m = m
  member_mapped f x (y ∷ xs) (inl e) = inl (ap f e)
  member_mapped f x (y ∷ xs) (inr m) = inr (member_mapped f x xs m)

  pub mapped_member : (f : A → B) (z : B) (xs : List A) → Member z (map f xs) → (x : A) × Member x xs × (f x ≡ z)
  mapped_member f z [] m = elim m [ ]
  mapped_member f z (y ∷ xs) (inl e) = (y, inl refl, e)
  mapped_member f z (y ∷ xs) (inr m) = let found : (x : A) × Member x xs × (f x ≡ z) = mapped_member f z xs m in (found.0, inr found.1, found.2)

  pub member_of_flat : (f : A → List B) (z : B) (x : A) (xs : List A) → Member x xs → Member z (f x) → Member z (flat f xs)
  member_of_flat f z x [] m h = elim m [ ]
  member_of_flat f z x (y ∷ xs) (inl e) h = member_front z (f y) (flat f xs) (subst (λ y. Member z (f y)) (sym e) h)
  member_of_flat f z x (y ∷ xs) (inr m) h = member_behind z (f y) (flat f xs) (member_of_flat f z x xs m h)

  pub flat_member : (f : A → List B) (z : B) (xs : List A) → Member z (flat f xs) → (x : A) × Member x xs × Member z (f x)
  flat_member f z [] m = elim m [ ]
  flat_member f z (y ∷ xs) m = go (member_either z (f y) (flat f xs) m) (flat_member f z xs)
    where
      later : (x : A) × Member x xs × Member z (f x) → (x : A) × Member x (y ∷ xs) × Member z (f x)
      later found = (found.0, inr found.1, found.2)

      go : Member z (f y) ⊎ Member z (flat f xs) → (Member z (flat f xs) → (x : A) × Member x xs × Member z (f x)) → (x : A) × Member x (y ∷ xs) × Member z (f x)
      go (inl h) further = (y, inl refl, h)
      go (inr h) further = later (further h)
