-- Lists without repetition that have the same members: in one order they are one list.
use Rattle.std.proofs.Common.{◌≡◌, ◌≢◌, ℕ, List, [], ◌∷◌, map, refl, sym, ap, ◌∙◌, subst, ◌⊎◌, inl, inr}
use Rattle.meaning.specs.Tidy.{Among, none, taken, passed, is_before, Ascend}
use Rattle.meaning.proofs.CutTrees.{Each}
use Rattle.meaning.proofs.Members.{Member, Pairwise, member_each, member_mapped}
use Rattle.meaning.proofs.AscendingTuples.{never_before_itself, before_both, pairs_from_ascend}

-- all members of the second are members of the first
abbrev pub HasAllOf : {A : Type 0} → List A → List A → Type 0
HasAllOf {A = A} ys xs = (x : A) → Member x xs → Member x ys

-- ---- some of a list, in its order

module _ {A : Type 0} where
  among_member : {xs zs : List A} → Among xs zs → (x : A) → Member x xs → Member x zs
  among_member none x m = m
  among_member (taken a) x (inl e) = inl e
  among_member (taken a) x (inr m) = inr (among_member a x m)
  among_member (passed a) x m = inr (among_member a x m)

  pub not_member : (x : A) (xs : List A) → Each (λ y. x ≢ y) xs → Member x xs → ⊥
  not_member x xs h m = member_each (λ y. x ≢ y) xs h x m refl

  abbrev HasFirst : List A → A → List A → Type 0
  HasFirst xs z zs = (rest : List A) × (xs ≡ z ∷ rest) × Among rest zs

  taken_or_passed : {xs zs : List A} {z : A} → Among xs (z ∷ zs) → HasFirst xs z zs ⊎ Among xs zs
  taken_or_passed (taken {xs = xs} a) = inl (xs, refl, a)
  taken_or_passed (passed a) = inr a

  of_nothing : {xs : List A} → Among xs [] → xs ≡ []
  of_nothing none = refl

  rest_has_all : (z : A) (r s zs : List A) → Each (λ y. z ≢ y) zs → Among r zs → HasAllOf (z ∷ s) (z ∷ r) → HasAllOf s r
  rest_has_all z r s zs d a h x m = go (h x (inr m))
    where
      go : Member x (z ∷ s) → Member x s
      go (inl e) = elim (not_member z zs d (subst (λ y. Member y zs) (sym e) (among_member a x m))) [ ]
      go (inr n) = n

  pub among_same : (zs : List A) → Pairwise (λ x y. x ≢ y) zs → (xs ys : List A) → Among xs zs → Among ys zs → HasAllOf ys xs → HasAllOf xs ys → xs ≡ ys
  among_same [] d xs ys a b h g = of_nothing a ∙ sym (of_nothing b)
  among_same (z ∷ zs) d xs ys a b h g = go (taken_or_passed a) (taken_or_passed b) (λ us vs. among_same zs d.1 us vs)
    where
      go : HasFirst xs z zs ⊎ Among xs zs → HasFirst ys z zs ⊎ Among ys zs
          → ((us vs : List A) → Among us zs → Among vs zs → HasAllOf vs us → HasAllOf us vs → us ≡ vs) → xs ≡ ys
      go (inl (r, e, i)) (inl (s, f, j)) same =
          let all : HasAllOf (z ∷ s) (z ∷ r) = subst (λ vs. HasAllOf vs (z ∷ r)) f (subst (λ us. HasAllOf ys us) e h) in
          let back : HasAllOf (z ∷ r) (z ∷ s) = subst (λ vs. HasAllOf (z ∷ r) vs) f (subst (λ us. HasAllOf us ys) e g) in
          e ∙ ap (λ us. z ∷ us) (same r s i j (rest_has_all z r s zs d.0 i all) (rest_has_all z s r zs d.0 j back)) ∙ sym f
      go (inl (r, e, i)) (inr j) same = elim (not_member z zs d.0 (among_member j z (h z (subst (Member z) (sym e) (inl refl))))) [ ]
      go (inr i) (inl (s, f, j)) same = elim (not_member z zs d.0 (among_member i z (g z (subst (Member z) (sym f) (inl refl))))) [ ]
      go (inr i) (inr j) same = same xs ys i j h g

  among_each : (P : A → Type 0) {xs zs : List A} → Among xs zs → Each P zs → Each P xs
  among_each P none h = tt
  among_each P (taken a) h = (h.0, among_each P a h.1)
  among_each P (passed a) h = among_each P a h.1

  -- what differs among all differs among some
  pub among_pairs : (R : A → A → Type 0) {xs zs : List A} → Among xs zs → Pairwise R zs → Pairwise R xs
  among_pairs R none h = tt
  among_pairs R (taken {x = x} a) h = (among_each (R x) a h.0, among_pairs R a h.1)
  among_pairs R (passed a) h = among_pairs R a h.1

-- members with one name are one, where the names differ
pub one_of_name : {A K : Type 0} (name : A → K) (xs : List A) → Pairwise (λ s t. s ≢ t) (map name xs) → (x y : A) → Member x xs → Member y xs → name x ≡ name y → x ≡ y
one_of_name name [] d x y m n e = elim m [ ]
one_of_name name (z ∷ xs) d x y (inl f) (inl g) e = sym f ∙ g
one_of_name name (z ∷ xs) d x y (inl f) (inr n) e =
    elim (not_member (name z) (map name xs) d.0 (subst (λ k. Member k (map name xs)) (sym (ap name f ∙ e)) (member_mapped name y xs n))) [ ]
one_of_name name (z ∷ xs) d x y (inr m) (inl g) e =
    elim (not_member (name z) (map name xs) d.0 (subst (λ k. Member k (map name xs)) (e ∙ sym (ap name g)) (member_mapped name x xs m))) [ ]
one_of_name name (z ∷ xs) d x y (inr m) (inr n) e = one_of_name name xs d.1 x y m n e

-- ---- tuples that ascend

later_has_all : (x : List ℕ) (xs ys : List (List ℕ)) → Each (is_before x) xs → HasAllOf (x ∷ ys) (x ∷ xs) → HasAllOf ys xs
later_has_all x xs ys d h v m = go (h v (inr m))
  where
    go : Member v (x ∷ ys) → Member v ys
    go (inl e) = elim (never_before_itself v (subst (λ t. is_before t v) e (member_each (is_before x) xs d v m))) [ ]
    go (inr n) = n

same_first : (x y : List ℕ) (xs ys : List (List ℕ)) → Each (is_before x) xs → Each (is_before y) ys → Member x (y ∷ ys) → Member y (x ∷ xs) → x ≡ y
same_first x y xs ys d e (inl f) n = sym f
same_first x y xs ys d e (inr m) (inl f) = f
same_first x y xs ys d e (inr m) (inr n) =
    elim (never_before_itself y (before_both y x y (member_each (is_before y) ys e x m) (member_each (is_before x) xs d y n))) [ ]

pairs_same : (xs ys : List (List ℕ)) → Pairwise is_before xs → Pairwise is_before ys → HasAllOf ys xs → HasAllOf xs ys → xs ≡ ys
pairs_same [] [] d e h g = refl
pairs_same [] (y ∷ ys) d e h g = elim (g y (inl refl)) [ ]
pairs_same (x ∷ xs) [] d e h g = elim (h x (inl refl)) [ ]
pairs_same (x ∷ xs) (y ∷ ys) d e h g =
    let first : x ≡ y = same_first x y xs ys d.0 e.0 (h x (inl refl)) (g y (inl refl)) in
    let all : HasAllOf (x ∷ ys) (x ∷ xs) = subst (λ z. HasAllOf (z ∷ ys) (x ∷ xs)) (sym first) h in
    let back : HasAllOf (x ∷ xs) (x ∷ ys) = subst (λ z. HasAllOf (x ∷ xs) (z ∷ ys)) (sym first) g in
    let before : Each (is_before x) ys = subst (λ z. Each (is_before z) ys) (sym first) e.0 in
    ap (λ z. z ∷ xs) first ∙ ap (λ zs. y ∷ zs) (pairs_same xs ys d.1 e.1 (later_has_all x xs ys d.0 all) (later_has_all x ys xs before back))

pub ascending_same : (xs ys : List (List ℕ)) → Ascend xs → Ascend ys → HasAllOf ys xs → HasAllOf xs ys → xs ≡ ys
ascending_same xs ys d e h g = pairs_same xs ys (pairs_from_ascend xs d) (pairs_from_ascend ys e) h g
