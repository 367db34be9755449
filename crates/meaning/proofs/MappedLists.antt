-- What is kept of a mapped list, and a list that is mapped twice.
use Rattle.std.proofs.Common.{◌≡◌, List, [], ◌∷◌, map, Bool, true, false, refl, ap}
use Rattle.std.specs.Prelude.{cond, filter}

pub filter_of_map : {A B : Type 0} (h : A → B) (p : B → Bool) (xs : List A) → filter p (map h xs) ≡ map h (filter (λ x. p (h x)) xs)
filter_of_map h p [] = refl
filter_of_map {A = A} {B = B} h p (x ∷ xs) = go (p (h x)) (filter_of_map h p xs)
  where
    go : (b : Bool) → filter p (map h xs) ≡ map h (filter (λ x. p (h x)) xs)
        → cond b (h x ∷ filter p (map h xs)) (filter p (map h xs)) ≡ map h (cond b (x ∷ filter (λ x. p (h x)) xs) (filter (λ x. p (h x)) xs))
    go true e = ap (λ ys. h x ∷ ys) e
    go false e = e

pub map_of_map : {A B C : Type 0} (g : B → C) (h : A → B) (xs : List A) → map g (map h xs) ≡ map (λ x. g (h x)) xs
map_of_map g h [] = refl
map_of_map g h (x ∷ xs) = ap (λ ys. g (h x) ∷ ys) (map_of_map g h xs)
