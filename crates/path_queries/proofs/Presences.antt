-- Elements and links by their numbers: where they are there, and how large their conditions are.
use Rattle.std.proofs.Common.{◌≡◌, ◌∙◌, refl, sym, ap, subst, ℕ, zero, suc, ◌+◌, ◌*◌, ◌<◌, ◌≤◌, List, [], ◌∷◌, ◌++◌, length, map, take, get_or, Bool, true, false, Option, Some, None, arith}
use Rattle.std.specs.Prelude.{◌&&◌, option_map, unwrap_or}
use Rattle.std.specs.List.{slice_get, sum_by, All}
use Rattle.std.proofs.lemmas.List.{take_more, map-append, length-map}
use Rattle.std.proofs.lemmas.List.Sums.{sum_by_more, sum_by_more_le}
use Rattle.std.proofs.lemmas.List.Elements.{All-get_or}
use Rattle.std.proofs.lemmas.Option.{slice_get-map, slice_get-get_or, slice_get_within, get_or_from_slice_get}
use Rattle.meaning.specs.Expressions.{Expression, Top, Bottom, Name, Not, Both, Either, Implies, Same, truth, size_of}
use Rattle.meaning.specs.Models.{Model, Element, Link, has_element}
use Rattle.worlds.specs.Algebra.{Algebra, Kept, HoldsWhere}
use Rattle.worlds.proofs.Kept.{holds_as, world_before}
use Rattle.worlds.proofs.Rows.{row_later, holds_at_place}
use Rattle.annotated_model.specs.ModelFacts.{NamesFeatures}
use Rattle.path_queries.specs.Presence.{element_size, is_kept, keeps_link, link_size, link_asks, elements_at, TellElements, Arrow, arrow_of}

-- ---- an item of a list by its number

module _ {X : Type 0} where
  -- what holds of all items holds of this one
  pub all_at : (P : X → Type 0) (xs : List X) (i : ℕ) (x : X) → All P xs → slice_get xs i ≡ Some x → P x
  all_at P xs i x all at =
      subst P (get_or_from_slice_get xs i x x at) (All-get_or P xs i x (slice_get_within xs i x at) all)

  pub sum_more : (f : X → ℕ) (xs : List X) (i : ℕ) (x : X) → slice_get xs i ≡ Some x → sum_by f (take (i + 1) xs) ≡ sum_by f (take i xs) + f x
  sum_more f xs i x at =
      sum_by_more f xs i x (slice_get_within xs i x at) ∙ ap (λ y. sum_by f (take i xs) + f y) (get_or_from_slice_get xs i x x at)

  pub sum_within : (f : X → ℕ) (xs : List X) (i : ℕ) (x : X) → slice_get xs i ≡ Some x → sum_by f (take i xs) + f x ≤ sum_by f xs
  sum_within f xs i x at =
      subst (λ y. sum_by f (take i xs) + f y ≤ sum_by f xs) (get_or_from_slice_get xs i x x at) (sum_by_more_le f xs i x (slice_get_within xs i x at))

  pub take_one_more : (xs : List X) (i : ℕ) (x : X) → slice_get xs i ≡ Some x → take (i + 1) xs ≡ take i xs ++ x ∷ []
  take_one_more xs i x at =
      take_more xs i x (slice_get_within xs i x at) ∙ ap (λ y. take i xs ++ y ∷ []) (get_or_from_slice_get xs i x x at)

  pub map_more : {Y : Type 0} (f : X → Y) (xs : List X) (i : ℕ) (x : X) → slice_get xs i ≡ Some x → map f (take (i + 1) xs) ≡ map f (take i xs) ++ f x ∷ []
  map_more f xs i x at = ap (map f) (take_one_more xs i x at) ∙ map-append f (take i xs) (x ∷ [])

-- an item of a list that is seen as another list
pub viewed : {X Y : Type 0} (v : X → Y) (xs : List X) (ys : List Y) (k i : ℕ) (d : X) → map v xs ≡ ys → k ≡ i → i < length ys → slice_get ys i ≡ Some (v (get_or xs k d))
viewed v xs ys k i d is same within =
    let long : length xs ≡ length ys = sym (length-map xs v) ∙ ap length is in
    let below : i < length xs = omega (arith, long, within) in
    ap (λ zs. slice_get zs i) (sym is) ∙ slice_get-map v xs i ∙ ap (option_map v) (slice_get-get_or xs i d below) ∙ ap (λ j. Some (v (get_or xs j d))) (sym same)

-- the item that a loop has reached
pub viewed_item : {X Y : Type 0} (v : X → Y) (xs : List X) (ys : List Y) (i : ℕ) (x : X) → map v xs ≡ ys → i < length xs → x ≡ get_or xs i x → slice_get ys i ≡ Some (v x)
viewed_item v xs ys i x is below item =
    ap (λ zs. slice_get zs i) (sym is) ∙ slice_get-map v xs i ∙ ap (option_map v) (slice_get-get_or xs i x below) ∙ ap (λ y. Some (v y)) (sym item)

pub viewed_within : {X Y : Type 0} (v : X → Y) (xs : List X) (ys : List Y) (i : ℕ) (x : X) → map v xs ≡ ys → i < length ys → x ≡ get_or xs i x → slice_get ys i ≡ Some (v x)
viewed_within v xs ys i x is within item =
    let long : length xs ≡ length ys = sym (length-map xs v) ∙ ap length is in
    viewed_item v xs ys i x is (omega (arith, long, within)) item

pub viewed_at : {X Y : Type 0} (v : X → Y) (xs : List X) (ys : List Y) (k i : ℕ) (x : X) → map v xs ≡ ys → k ≡ i → i < length ys → x ≡ get_or xs k x → slice_get ys i ≡ Some (v x)
viewed_at v xs ys k i x is same within item = viewed v xs ys k i x is same within ∙ ap (λ y. Some (v y)) (sym item)

-- what is below the length of a list is below that of its view
pub below_view : {X Y : Type 0} (v : X → Y) (xs : List X) (ys : List Y) (i : ℕ) → map v xs ≡ ys → i < length xs → i < length ys
below_view v xs ys i is below =
    let long : length xs ≡ length ys = sym (length-map xs v) ∙ ap length is in
    omega (arith, long, below)

-- below the length there is an item
pub there_is : {X : Type 0} (xs : List X) (i : ℕ) → i < length xs → (x : X) × (slice_get xs i ≡ Some x)
there_is [] i below = absurd (omega (arith, below))
there_is (x ∷ xs) zero below = (x, refl)
there_is (x ∷ xs) (suc i) below = there_is xs i (omega (arith, below))

-- ---- where elements are there

there_in : (es : List Element) (x : List Bool) (e : ℕ) → has_element es x e ≡ get_or (map (λ y. truth y.presence x) es) e false
there_in [] x e = refl
there_in (y ∷ es) x zero = refl
there_in (y ∷ es) x (suc e) = there_in es x e

pub element_there : (m : Model) (x : List Bool) (e : ℕ) → has_element m.elements x e ≡ get_or (elements_at m x) e false
element_there m x e = there_in m.elements x e

pub element_in : (es : List Element) (x : List Bool) (e : ℕ) (y : Element) → slice_get es e ≡ Some y → has_element es x e ≡ truth y.presence x
element_in [] x e y at = absurd cc
element_in (z ∷ es) x zero y at = let same : z ≡ y = cc in ap (λ u. truth u.presence x) same
element_in (z ∷ es) x (suc e) y at = element_in es x e y at

pub element_is : (m : Model) (x : List Bool) (e : ℕ) (y : Element) → slice_get m.elements e ≡ Some y → truth y.presence x ≡ has_element m.elements x e
element_is m x e y at = sym (element_in m.elements x e y at)

pub element_size_is : (m : Model) (e : ℕ) (y : Element) → slice_get m.elements e ≡ Some y → element_size m e ≡ size_of y.presence
element_size_is m e y at = ap (λ o. unwrap_or (option_map (λ z. size_of z.presence) o) 0) at

-- ---- where links are there

pub link_is : (m : Model) (x : List Bool) (l : ℕ) (k : Link) → slice_get m.links l ≡ Some k → is_kept m x k ≡ keeps_link m x l
link_is m x l k at = sym (ap (λ o. unwrap_or (option_map (is_kept m x) o) false) at)

pub link_size_is : (m : Model) (l : ℕ) (k : Link) → slice_get m.links l ≡ Some k → link_size m l ≡ size_of k.presence + element_size m k.source + element_size m k.target
link_size_is m l k at = ap (λ o. unwrap_or (option_map (λ k. size_of k.presence + element_size m k.source + element_size m k.target) o) 0) at

pub link_asks_is : (m : Model) (l : ℕ) (k : Link) → slice_get m.links l ≡ Some k → link_asks (slice_get m.links l) ≡ 8 * size_of k.presence + 2
link_asks_is m l k at = ap link_asks at

pub arrow_is : (m : Model) (x : List Bool) (l : ℕ) (k : Link) → slice_get m.links l ≡ Some k → slice_get (map (arrow_of m x) m.links) l ≡ Some (arrow_of m x k)
arrow_is m x l k at = slice_get-map (arrow_of m x) m.links l ∙ ap (option_map (arrow_of m x)) at

-- an expression has a node
pub size_positive : (e : Expression) → 1 ≤ size_of e
size_positive Top = omega arith
size_positive Bottom = omega arith
size_positive (Name n) = omega arith
size_positive (Not a) = omega arith
size_positive (Both a b) = omega arith
size_positive (Either a b) = omega arith
size_positive (Implies a b) = omega arith
size_positive (Same a b) = omega arith

-- ---- conditions of elements and of links

pub names_later : {C : Type 0} {a b : Algebra C} {m : Model} → Kept a b → NamesFeatures a.count m → NamesFeatures b.count m
names_later {m} kept names = subst (λ n. NamesFeatures n m) (sym kept.count) names

pub elements_later : {C : Type 0} {a b : Algebra C} {m : Model} {cs : List C} → Kept a b → TellElements a m cs → TellElements b m cs
elements_later kept told = record { size = told.size; rows = row_later kept told.rows }

-- the condition of an element
pub element_holds : {C : Type 0} {a : Algebra C} {m : Model} {cs : List C} (i e : ℕ) (c : C) → TellElements a m cs → i ≡ e → i < length cs → c ≡ get_or cs i c → HoldsWhere a c (λ x. has_element m.elements x e)
element_holds {a} {m} i e c told same below is =
    holds_as (λ x. get_or (elements_at m x) i false) (λ x. has_element m.elements x e)
    (λ x w. ap (λ k. get_or (elements_at m x) k false) same ∙ sym (element_there m x e)) (holds_at_place i c below is told.rows)

-- the condition of a link, by those of its expression and its ends
pub link_holds : {C : Type 0} {a b : Algebra C} {itself source target when : C} (m : Model) (l : Link)
    → HoldsWhere a itself (λ x. truth l.presence x) → HoldsWhere a source (λ x. has_element m.elements x l.source) → HoldsWhere a target (λ x. has_element m.elements x l.target)
    → Kept a b → HoldsWhere b when (λ x. a.holds itself x && a.holds source x && a.holds target x) → HoldsWhere b when (λ x. is_kept m x l)
link_holds {a} {b} {itself} {source} {target} m l here from to kept made =
    holds_as (λ x. a.holds itself x && a.holds source x && a.holds target x) (λ x. is_kept m x l)
    (λ x w. let before = world_before x kept w in
    ap (λ p. p && a.holds source x && a.holds target x) (here.holds x before)
    ∙ ap (λ p. truth l.presence x && p && a.holds target x) (from.holds x before)
    ∙ ap (λ p. truth l.presence x && has_element m.elements x l.source && p) (to.holds x before)) made

-- the arrow of an edge is that of the link which its condition tells
pub arrow_told : {C : Type 0} {b : Algebra C} {when : C} (m : Model) (n : ℕ) (l : Link) → slice_get m.links n ≡ Some l → HoldsWhere b when (λ x. is_kept m x l)
    → (x : List Bool) → b.is_world x ≡ true
    → slice_get (map (arrow_of m x) m.links) n ≡ Some (record { kind = l.kind; source = l.source; target = l.target; present = b.holds when x })
arrow_told {b} {when} m n l at made x w =
    arrow_is m x n l at ∙ ap (λ p. Some (with_presence p)) (sym (made.holds x w))
  where
    with_presence : Bool → Arrow
    with_presence p = record { kind = l.kind; source = l.source; target = l.target; present = p }
