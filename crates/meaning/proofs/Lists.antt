-- Small lemmas on lists: what holds of each element, and filters, maps and flat lists side by side.
use Rattle.std.proofs.Common.{◌≡◌, List, [], ◌∷◌, ◌++◌, map, Bool, true, false, refl, sym, ap, ◌∙◌}
use Rattle.std.specs.Prelude.{cond, filter}
use Rattle.std.proofs.lemmas.List.{append_assoc}
use Rattle.meaning.specs.Texts.{flat}
use Rattle.meaning.proofs.CutTrees.{Each}

module _ {A : Type 0} where
  pub each_append : (P : A → Type 0) (xs ys : List A) → Each P xs → Each P ys → Each P (xs ++ ys)
  each_append P [] ys h g = g
  each_append P (x ∷ xs) ys h g = (h.0, each_append P xs ys h.1 g)

  pub flat_append : {B : Type 0} (f : A → List B) (xs ys : List A) → flat f (xs ++ ys) ≡ flat f xs ++ flat f ys
  flat_append f [] ys = refl
  flat_append f (x ∷ xs) ys = ap (λ zs. f x ++ zs) (flat_append f xs ys) ∙ sym (append_assoc (f x) (flat f xs) (flat f ys))

  -- no element
  pub no_element : (xs : List A) → (x : A) (ys : List A) → xs ≡ [] → xs ≡ x ∷ ys → ⊥
  no_element xs x ys e f = not_both (sym e ∙ f)
    where
      not_both : [] ≡ x ∷ ys → ⊥
      not_both g = cc

  pub cond_append : (u : Bool) (xs ys : List A) → cond u xs [] ++ cond u ys [] ≡ cond u (xs ++ ys) []
  cond_append true xs ys = refl
  cond_append false xs ys = refl

pub map_nothing : {A B : Type 0} (f : A → B) (xs : List A) → map f xs ≡ [] → xs ≡ []
map_nothing f [] e = refl
map_nothing f (x ∷ xs) e = cc

pub map_itself : {A : Type 0} (xs : List A) → map (λ x. x) xs ≡ xs
map_itself [] = refl
map_itself (x ∷ xs) = ap (λ ys. x ∷ ys) (map_itself xs)

pub cond_flat : {A B : Type 0} (f : A → List B) (u : Bool) (xs : List A) → flat f (cond u xs []) ≡ cond u (flat f xs) []
cond_flat f true xs = refl
cond_flat f false xs = refl

pub cond_map : {A B : Type 0} (f : A → B) (u : Bool) (xs : List A) → map f (cond u xs []) ≡ cond u (map f xs) []
cond_map f true xs = refl
cond_map f false xs = refl

-- ---- functions that agree on a list

module _ {A B : Type 0} where
  pub map_same : (f g : A → B) (xs : List A) → Each (λ x. f x ≡ g x) xs → map f xs ≡ map g xs
  map_same f g [] h = refl
  map_same f g (x ∷ xs) h = rw (h.0, map_same f g xs h.1) refl

  pub flat_same : (f g : A → List B) (xs : List A) → Each (λ x. f x ≡ g x) xs → flat f xs ≡ flat g xs
  flat_same f g [] h = refl
  flat_same f g (x ∷ xs) h = rw (h.0, flat_same f g xs h.1) refl

pub each_of_all : {A : Type 0} (P : A → Type 0) → ((x : A) → P x) → (xs : List A) → Each P xs
each_of_all P h [] = tt
each_of_all P h (x ∷ xs) = (h x, each_of_all P h xs)

-- ---- each

pub each_two : {A : Type 0} (P Q : A → Type 0) (xs : List A) → Each P xs → Each Q xs → Each (λ x. P x × Q x) xs
each_two P Q [] h g = tt
each_two P Q (x ∷ xs) h g = ((h.0, g.0), each_two P Q xs h.1 g.1)

-- at each of many, for each element: for each element, at each
pub each_for_all : {A W : Type 0} (Q : W → A → Type 0) (xs : List A) → ((w : W) → Each (Q w) xs) → Each (λ x. (w : W) → Q w x) xs
each_for_all Q [] h = tt
each_for_all Q (x ∷ xs) h = ((λ w. (h w).0), each_for_all Q xs (λ w. (h w).1))

-- the filter's own test holds of what it keeps
pub each_passes : {A : Type 0} (p : A → Bool) (xs : List A) → Each (λ x. p x ≡ true) (filter p xs)
each_passes p [] = tt
each_passes {A = A} p (x ∷ xs) = go (p x) refl (each_passes p xs)
  where
    go : (b : Bool) → p x ≡ b → Each (λ x. p x ≡ true) (filter p xs) → Each (λ x. p x ≡ true) (cond b (x ∷ filter p xs) (filter p xs))
    go true e h = (e, h)
    go false e h = h

-- ---- flat lists

pub flat_of_map : {A B C : Type 0} (f : B → List C) (g : A → B) (xs : List A) → flat f (map g xs) ≡ flat (λ x. f (g x)) xs
flat_of_map f g [] = refl
flat_of_map f g (x ∷ xs) = ap (λ ys. f (g x) ++ ys) (flat_of_map f g xs)

pub flat_of_flat : {A B C : Type 0} (f : B → List C) (g : A → List B) (xs : List A) → flat f (flat g xs) ≡ flat (λ x. flat f (g x)) xs
flat_of_flat f g [] = refl
flat_of_flat f g (x ∷ xs) = flat_append f (g x) (flat g xs) ∙ ap (λ ys. flat f (g x) ++ ys) (flat_of_flat f g xs)
