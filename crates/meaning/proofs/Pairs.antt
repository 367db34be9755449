-- Lists of which every two elements, the earlier and the later, stand in a relation.
use Rattle.std.proofs.Common.{◌≡◌, ◌≢◌, ℕ, List, [], ◌∷◌, ◌++◌, map, Bool, true, false, not, ◌&&◌, ◌||◌, refl, ap, ◌∙◌}
use Rattle.std.specs.Prelude.{cond, filter, bytes_eq}
use Rattle.std.specs.List.{list_any}
use Rattle.std.proofs.lemmas.Slice.Eq.{bytes_eq-Decides}
use Rattle.meaning.specs.Texts.{flat}
use Rattle.meaning.specs.Tidy.{all_differ}
use Rattle.meaning.proofs.CutTrees.{Each}
use Rattle.meaning.proofs.EachMembers.{each_filtered, each_by}
use Rattle.meaning.proofs.Lists.{each_append, each_two}
pub use Rattle.meaning.proofs.Members.{Pairwise}

-- ---- each

module _ {A B : Type 0} where
  pub each_of_map : (P : B → Type 0) (f : A → B) (xs : List A) → Each (λ x. P (f x)) xs → Each P (map f xs)
  each_of_map P f [] h = tt
  each_of_map P f (x ∷ xs) h = (h.0, each_of_map P f xs h.1)

  pub each_of_flat : (P : B → Type 0) (f : A → List B) (xs : List A) → Each (λ x. Each P (f x)) xs → Each P (flat f xs)
  each_of_flat P f [] h = tt
  each_of_flat P f (x ∷ xs) h = each_append P (f x) (flat f xs) h.0 (each_of_flat P f xs h.1)

  none_left : (R : A → B → Type 0) (xs : List A) → Each (λ x. Each (R x) []) xs
  none_left R [] = tt
  none_left R (x ∷ xs) = (tt, none_left R xs)

  one_more : (R : A → B → Type 0) (y : B) (ys : List B) (xs : List A) → Each (λ x. R x y) xs → Each (λ x. Each (R x) ys) xs → Each (λ x. Each (R x) (y ∷ ys)) xs
  one_more R y ys [] h g = tt
  one_more R y ys (x ∷ xs) h g = ((h.0, g.0), one_more R y ys xs h.1 g.1)

  pub each_swap : (R : A → B → Type 0) (xs : List A) (ys : List B) → Each (λ y. Each (λ x. R x y) xs) ys → Each (λ x. Each (R x) ys) xs
  each_swap R xs [] h = none_left R xs
  each_swap R xs (y ∷ ys) h = one_more R y ys xs h.0 (each_swap R xs ys h.1)

-- ---- pairs

module _ {A : Type 0} where
  pub pairs_append : (R : A → A → Type 0) (xs ys : List A) → Pairwise R xs → Pairwise R ys → Each (λ x. Each (R x) ys) xs → Pairwise R (xs ++ ys)
  pairs_append R [] ys h g i = g
  pairs_append R (x ∷ xs) ys h g i = (each_append (R x) xs ys h.0 i.0, pairs_append R xs ys h.1 g i.1)

  pub pairs_filtered : (R : A → A → Type 0) (p : A → Bool) (xs : List A) → Pairwise R xs → Pairwise R (filter p xs)
  pairs_filtered R p [] h = tt
  pairs_filtered R p (x ∷ xs) h = go (p x) (pairs_filtered R p xs h.1)
    where
      go : (b : Bool) → Pairwise R (filter p xs) → Pairwise R (cond b (x ∷ filter p xs) (filter p xs))
      go true g = (each_filtered (R x) p xs h.0, g)
      go false g = g

  pub pairs_by : (R S : A → A → Type 0) → ((x y : A) → R x y → S x y) → (xs : List A) → Pairwise R xs → Pairwise S xs
  pairs_by R S f [] h = tt
  pairs_by R S f (x ∷ xs) h = (each_by (R x) (S x) (λ y r. f x y r) xs h.0, pairs_by R S f xs h.1)

  -- of elements that have a property besides
  pub pairs_where : (P : A → Type 0) (R S : A → A → Type 0) → ((x y : A) → P x → P y → R x y → S x y) → (xs : List A) → Each P xs → Pairwise R xs → Pairwise S xs
  pairs_where P R S f [] p h = tt
  pairs_where P R S f (x ∷ xs) p h = (
    each_by (λ y. P y × R x y) (S x) (λ y q. f x y p.0 q.0 q.1) xs (each_two P (R x) xs p.1 h.0),
    pairs_where P R S f xs p.1 h.1,
  )

pub pairs_mapped : {A B : Type 0} (R : B → B → Type 0) (f : A → B) (xs : List A) → Pairwise (λ x y. R (f x) (f y)) xs → Pairwise R (map f xs)
pairs_mapped R f [] h = tt
pairs_mapped R f (x ∷ xs) h = (each_of_map (R (f x)) f xs h.0, pairs_mapped R f xs h.1)

-- pairs of a mapped list
pub pairs_from_map : {A B : Type 0} (R : B → B → Type 0) (f : A → B) (xs : List A) → Pairwise R (map f xs) → Pairwise (λ x y. R (f x) (f y)) xs
pairs_from_map R f [] h = tt
pairs_from_map {A = A} {B = B} R f (x ∷ xs) h = (each_from_map (R (f x)) xs h.0, pairs_from_map R f xs h.1)
  where
    each_from_map : (P : B → Type 0) (xs : List A) → Each P (map f xs) → Each (λ x. P (f x)) xs
    each_from_map P [] h = tt
    each_from_map P (x ∷ xs) h = (h.0, each_from_map P xs h.1)

pub pairs_flat : {A B : Type 0} (R : B → B → Type 0) (f : A → List B) (xs : List A) → Each (λ x. Pairwise R (f x)) xs
    → Pairwise (λ x y. Each (λ a. Each (R a) (f y)) (f x)) xs → Pairwise R (flat f xs)
pairs_flat R f [] h g = tt
pairs_flat R f (x ∷ xs) h g =
    pairs_append R (f x) (flat f xs) h.0 (pairs_flat R f xs h.1 g.1)
    (each_by (λ a. Each (λ y. Each (R a) (f y)) xs) (λ a. Each (R a) (flat f xs)) (λ a i. each_of_flat (R a) f xs i) (f x)
    (each_swap (λ a y. Each (R a) (f y)) (f x) xs g.0))

-- ---- texts that differ

no_text_is : (s : List ℕ) (ss : List (List ℕ)) → Each (λ t. s ≢ t) ss → list_any (bytes_eq s) ss ≡ false
no_text_is s [] h = refl
no_text_is s (t ∷ ss) h = ap (λ b. b || list_any (bytes_eq s) ss) (go (bytes_eq s t) refl) ∙ no_text_is s ss h.1
  where
    go : (b : Bool) → bytes_eq s t ≡ b → b ≡ false
    go true e = elim (h.0 ((bytes_eq-Decides s t).0 e)) [ ]
    go false e = refl

pub all_differ_from_pairs : (ss : List (List ℕ)) → Pairwise (λ s t. s ≢ t) ss → all_differ ss ≡ true
all_differ_from_pairs [] h = refl
all_differ_from_pairs (s ∷ ss) h = rw (no_text_is s ss h.0, all_differ_from_pairs ss h.1) refl

no_text_from : (s : List ℕ) (ss : List (List ℕ)) → list_any (bytes_eq s) ss ≡ false → Each (λ t. s ≢ t) ss
no_text_from s [] h = tt
no_text_from s (t ∷ ss) h = (λ e. not_both (bytes_eq s t) ((bytes_eq-Decides s t).1 e) (first_false (bytes_eq s t) h).0, no_text_from s ss (first_false (bytes_eq s t) h).1)
  where
    not_both : (b : Bool) → b ≡ true → b ≡ false → ⊥
    not_both b e g = cc

    first_false : (b : Bool) → (b || list_any (bytes_eq s) ss) ≡ false → (b ≡ false) × (list_any (bytes_eq s) ss ≡ false)
    first_false false e = (refl, e)
    first_false true e = cc

pub pairs_from_all_differ : (ss : List (List ℕ)) → all_differ ss ≡ true → Pairwise (λ s t. s ≢ t) ss
pairs_from_all_differ [] h = tt
pairs_from_all_differ (s ∷ ss) h = (no_text_from s ss (both (list_any (bytes_eq s) ss) h).0, pairs_from_all_differ ss (both (list_any (bytes_eq s) ss) h).1)
  where
    both : (b : Bool) → (not b && all_differ ss) ≡ true → (b ≡ false) × (all_differ ss ≡ true)
    both false e = (refl, e)
    both true e = cc
