-- Lists that are some of another's elements, in its order.
use Rattle.std.proofs.Common.{List, [], ◌∷◌, ◌++◌, map, Bool, true, false}
use Rattle.std.specs.Prelude.{cond, filter}
use Rattle.meaning.specs.Texts.{flat}
use Rattle.meaning.specs.Tidy.{Among, none, taken, passed}
use Rattle.meaning.proofs.CutTrees.{Each}
use Rattle.meaning.proofs.Pairs.{Pairwise}

module _ {A : Type 0} where
  pub among_nothing : (ys : List A) → Among [] ys
  among_nothing [] = none
  among_nothing (y ∷ ys) = passed (among_nothing ys)

  pub among_itself : (xs : List A) → Among xs xs
  among_itself [] = none
  among_itself (x ∷ xs) = taken (among_itself xs)

  pub among_append : {us vs xs ys : List A} → Among us vs → Among xs ys → Among (xs ++ us) (ys ++ vs)
  among_append a none = a
  among_append a (taken b) = taken (among_append a b)
  among_append a (passed b) = passed (among_append a b)

  pub among_filtered : (p : A → Bool) (xs : List A) → Among (filter p xs) xs
  among_filtered p [] = none
  among_filtered p (x ∷ xs) = go (p x) (among_filtered p xs)
    where
      go : (b : Bool) → Among (filter p xs) xs → Among (cond b (x ∷ filter p xs) (filter p xs)) (x ∷ xs)
      go true a = taken a
      go false a = passed a

  pub among_filters : (p : A → Bool) {xs ys : List A} → Among xs ys → Among (filter p xs) (filter p ys)
  among_filters p none = none
  among_filters p (taken {x = x} {xs = xs} {ys = ys} a) = go (p x) (among_filters p a)
    where
      go : (b : Bool) → Among (filter p xs) (filter p ys) → Among (cond b (x ∷ filter p xs) (filter p xs)) (cond b (x ∷ filter p ys) (filter p ys))
      go true i = taken i
      go false i = i
  among_filters p (passed {y = y} {xs = xs} {ys = ys} a) = go (p y) (among_filters p a)
    where
      go : (b : Bool) → Among (filter p xs) (filter p ys) → Among (filter p xs) (cond b (y ∷ filter p ys) (filter p ys))
      go true i = passed i
      go false i = i

  -- those of some of some
  pub among_both : {ys zs : List A} → Among ys zs → {xs : List A} → Among xs ys → Among xs zs
  among_both none a = a
  among_both (taken b) (taken a) = taken (among_both b a)
  among_both (taken b) (passed a) = passed (among_both b a)
  among_both (passed b) a = passed (among_both b a)

  pub among_each : (P : A → Type 0) {xs ys : List A} → Among xs ys → Each P ys → Each P xs
  among_each P none h = tt
  among_each P (taken a) h = (h.0, among_each P a h.1)
  among_each P (passed a) h = among_each P a h.1

  pub among_pairs : (R : A → A → Type 0) {xs ys : List A} → Among xs ys → Pairwise R ys → Pairwise R xs
  among_pairs R none h = tt
  among_pairs R (taken {x = x} a) h = (among_each (R x) a h.0, among_pairs R a h.1)
  among_pairs R (passed a) h = among_pairs R a h.1

module _ {A B : Type 0} where
  pub among_mapped : (f : A → B) {xs ys : List A} → Among xs ys → Among (map f xs) (map f ys)
  among_mapped f none = none
  among_mapped f (taken a) = taken (among_mapped f a)
  among_mapped f (passed a) = passed (among_mapped f a)

  -- lists made for some, of those made for all
  pub among_flats : (f g : A → List B) → ((x : A) → Among (f x) (g x)) → {xs ys : List A} → Among xs ys → Among (flat f xs) (flat g ys)
  among_flats f g h none = none
  among_flats f g h (taken {x = x} a) = among_append (among_flats f g h a) (h x)
  among_flats f g h (passed {y = y} a) = among_append (among_flats f g h a) (among_nothing (g y))

  pub among_flat : (f g : A → List B) (xs : List A) → Each (λ x. Among (f x) (g x)) xs → Among (flat f xs) (flat g xs)
  among_flat f g [] h = none
  among_flat f g (x ∷ xs) h = among_append (among_flat f g xs h.1) h.0
