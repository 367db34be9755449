-- Functions that agree are one.
use Rattle.std.proofs.Common.{◌≡◌, List, map, ap}

pub same_function : {A B : Type 0} (f g : A → B) → ((x : A) → f x ≡ g x) → f ≡ g
same_function f g e = λ i x. e x i

pub map_same : {A B : Type 0} (f g : A → B) → ((x : A) → f x ≡ g x) → (xs : List A) → map f xs ≡ map g xs
map_same f g e xs = ap (λ h. map h xs) (same_function f g e)
