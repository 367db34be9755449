-- The place of an element's name among the owners of systems is the place of its system.
use Rattle.std.proofs.Common.{◌≡◌, refl, sym, ap, ◌∙◌, subst, ℕ, zero, suc, ◌+◌, List, [], ◌∷◌, map, take, Bool, true, false, Option, Some, None, arith}
use Rattle.std.specs.Prelude.{option_map, option_and_then, slice_get, unwrap_or, bytes_eq, if◌then◌else◌, ◌||◌}
use Rattle.std.specs.List.{AllByRecursion, enumerate_from}
use Rattle.std.proofs.lemmas.Option.{slice_get-map}
use Rattle.std.proofs.lemmas.Slice.Eq.{bytes_eq-Decides}
use Rattle.meaning.specs.Texts.{place_of}
use Rattle.meaning.specs.Models as meaning
use Rattle.meaning.specs.BundlePlaces.{is_among}
use Rattle.meaning.proofs.NameTexts.{place_among}
use Rattle.annotated_model.specs.declared.data.Element.{Element}
use Rattle.annotated_model.specs.SystemPlaces.{owner_at, TellSystems}

-- ---- names that are new are found at their own places

same_text : (s : List ℕ) → bytes_eq s s ≡ true
same_text s = (bytes_eq-Decides s s).1 refl

neither : (a b : Bool) → (a || b) ≡ false → (a ≡ false) × (b ≡ false)
neither true b e = absurd cc
neither false b e = (refl, e)

-- a text that isn't among those before it is found at its own place
pub own_place : (names : List (List ℕ)) (n : ℕ) (s : List ℕ) → slice_get names n ≡ Some s → is_among (take n names) s ≡ false → place_of s names ≡ Some n
own_place [] n s at new = absurd cc
own_place (x ∷ xs) zero s at new =
    let same : x ≡ s = cc in
    let yes : bytes_eq s x ≡ true = ap (bytes_eq s) same ∙ same_text s in
    ap (λ b. if b then Some 0 else option_map suc (place_of s xs)) yes
own_place (x ∷ xs) (suc n) s at new =
    let parts = neither (bytes_eq s x) (is_among (take n xs) s) new in
    ap (λ b. if b then Some 0 else option_map suc (place_of s xs)) parts.0 ∙ ap (option_map suc) (own_place xs n s at parts.1)

-- the text of a place is there
pub there : (names : List (List ℕ)) (s : List ℕ) (n : ℕ) → place_of s names ≡ Some n → slice_get names n ≡ Some s
there [] s n e = absurd cc
there (x ∷ xs) s n e = go (bytes_eq s x) n (place_of s xs) refl (there xs s) e
  where
    go : (b : Bool) (n : ℕ) (o : Option ℕ) → bytes_eq s x ≡ b → ((k : ℕ) → o ≡ Some k → slice_get xs k ≡ Some s)
        → (if b then Some 0 else option_map suc o) ≡ Some n → slice_get (x ∷ xs) n ≡ Some s
    go true zero o same_here later e = ap Some (sym ((bytes_eq-Decides s x).0 same_here))
    go true (suc n) o same_here later e = absurd cc
    go false zero None other_here later e = absurd cc
    go false zero (Some k) other_here later e = absurd cc
    go false (suc n) None other_here later e = absurd cc
    go false (suc n) (Some k) other_here later e = let same : k ≡ n = cc in later n (ap Some same)

-- what holds of each item with its number holds at a place
pub at_number : {X : Type 0} (P : ℕ → X → Type 0) (i : ℕ) (xs : List X) → AllByRecursion (λ y. P y.0 y.1) (enumerate_from i xs)
    → (k : ℕ) (x : X) (n : ℕ) → n ≡ i + k → slice_get xs k ≡ Some x → P n x
at_number P i [] h k x n is at = absurd cc
at_number P i (y ∷ ys) h zero x n is at =
    let same : y ≡ x = cc in let number : i ≡ n = omega arith in subst (λ z. P n z) same (subst (λ j. P j y) number h.0)
at_number P i (y ∷ ys) h (suc k) x n is at = at_number P (i + 1) ys h.1 k x n (omega arith) at

-- ---- elements and systems

pub some_there : {X Y : Type 0} (f : X → Y) (o : Option X) (y : Y) → option_map f o ≡ Some y → (x : X) × (o ≡ Some x) × (f x ≡ y)
some_there f None y e = absurd cc
some_there f (Some x) y e = let same : f x ≡ y = cc in (x, refl, same)

told_there : (o : Option Element) (s : ℕ) → option_and_then (λ x. x.system) o ≡ Some s → (x : Element) × (o ≡ Some x) × (x.system ≡ Some s)
told_there None s e = absurd cc
told_there (Some x) s e = (x, refl, e)

pub record Placed (elements : List Element) (systems : List meaning.System) (names owners : List (List ℕ)) : Type 0 where
  pub named : names ≡ map (λ e. e.name) elements
  pub placed : map (λ e. e.system) elements ≡ map (λ s. place_of s owners) names
  pub owned : map (λ s. s.element) systems ≡ map (meaning.number_in names) owners
  pub names_differ : (n : ℕ) (s : List ℕ) → slice_get names n ≡ Some s → place_of s names ≡ Some n
  pub owners_differ : (n : ℕ) (s : List ℕ) → slice_get owners n ≡ Some s → place_of s owners ≡ Some n
  pub known : (n : ℕ) (s : List ℕ) → slice_get owners n ≡ Some s → is_among names s ≡ true

module _ (elements : List Element) (systems : List meaning.System) (names owners : List (List ℕ)) (p : Placed elements systems names owners) where
  name_at : (e : ℕ) (x : Element) → slice_get elements e ≡ Some x → slice_get names e ≡ Some x.name
  name_at e x at = ap (λ ns. slice_get ns e) p.named ∙ slice_get-map (λ y. y.name) elements e ∙ ap (option_map (λ y. y.name)) at

  system_at : (e : ℕ) (x : Element) → slice_get elements e ≡ Some x → x.system ≡ place_of x.name owners
  system_at e x at =
      let left : slice_get (map (λ y. y.system) elements) e ≡ Some x.system = slice_get-map (λ y. y.system) elements e ∙ ap (option_map (λ y. y.system)) at in
      let right : slice_get (map (λ s. place_of s owners) names) e ≡ Some (place_of x.name owners) =
      slice_get-map (λ s. place_of s owners) names e ∙ ap (option_map (λ s. place_of s owners)) (name_at e x at) in
      let both : Some x.system ≡ Some (place_of x.name owners) = sym left ∙ ap (λ os. slice_get os e) p.placed ∙ right in
      cc

  owner_is : (s : ℕ) → owner_at systems s ≡ option_map (meaning.number_in names) (slice_get owners s)
  owner_is s = sym (slice_get-map (λ x. x.element) systems s) ∙ ap (λ es. slice_get es s) p.owned ∙ slice_get-map (meaning.number_in names) owners s

  pub tell_systems : TellSystems elements systems
  tell_systems = record {
    belongs = λ e s told.
        let x = told_there (slice_get elements e) s told in
        let owner : slice_get owners s ≡ Some x.0.name = there owners x.0.name s (sym (system_at e x.0 x.1) ∙ x.2) in
        let number : meaning.number_in names x.0.name ≡ e = ap (λ o. unwrap_or o 0) (p.names_differ e x.0.name (name_at e x.0 x.1)) in
        owner_is s ∙ ap (option_map (meaning.number_in names)) owner ∙ ap Some number;
    told = λ e s owned.
        let o = some_there (meaning.number_in names) (slice_get owners s) e (sym (owner_is s) ∙ owned) in
        let n = place_among names o.0 (p.known s o.0 o.1) in
        let number : n.0 ≡ e = sym (ap (λ q. unwrap_or q 0) n.1) ∙ o.2 in
        let named : slice_get names e ≡ Some o.0 = there names o.0 e (n.1 ∙ ap Some number) in
        let x = some_there (λ y. y.name) (slice_get elements e) o.0 (sym (slice_get-map (λ y. y.name) elements e) ∙ ap (λ ns. slice_get ns e) (sym p.named) ∙ named) in
        ap (option_and_then (λ y. y.system)) x.1 ∙ system_at e x.0 x.1 ∙ ap (λ t. place_of t owners) x.2 ∙ p.owners_differ s o.0 o.1;
  }
