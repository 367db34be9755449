-- Rows of conditions: their truth at a world, at later moments and after one more condition.
use Rattle.std.proofs.Common.{◌≡◌, ◌∙◌, sym, ap, subst, ℕ, ◌<◌, List, [], ◌∷◌, ◌++◌, Bool, true, false, length, map, refl, get_or, set, arith}
use Rattle.std.specs.List.{All, AllByRecursion}
use Rattle.std.proofs.lemmas.List.{map-set, map-append, get_or-map}
use Rattle.std.proofs.lemmas.List.{length-map}
use Rattle.std.proofs.lemmas.List.Elements.{All-set, All-push, All-weaker, recursion_from_All}
use Rattle.worlds.specs.Algebra.{Algebra, Kept, HoldsWhere}
use Rattle.worlds.specs.Rows.{AllLive, RowWhere, row_at}
use Rattle.worlds.proofs.Kept.{world_before}

-- ---- lists, each of whose elements has a property

map_same_of : {X Y : Type 0} (P : X → Type 0) (f g : X → Y) (xs : List X) → ((x : X) → P x → f x ≡ g x) → AllByRecursion P xs → map f xs ≡ map g xs
map_same_of P f g [] same all = refl
map_same_of P f g (x ∷ xs) same all =
    let here = same x all.0 in
    let rest = map_same_of P f g xs same all.1 in
    cc

-- two functions that agree where the property holds give the same list
pub map_same : {X Y : Type 0} (P : X → Type 0) (f g : X → Y) (xs : List X) → ((x : X) → P x → f x ≡ g x) → All P xs → map f xs ≡ map g xs
map_same P f g xs same all = map_same_of P f g xs same (recursion_from_All P xs all)

-- what holds of each element holds of this one
pub element_has : {X : Type 0} (P : X → Type 0) (xs : List X) (i : ℕ) (e : X) → All P xs → i < length xs → e ≡ get_or xs i e → P e
element_has P xs i e all below is = subst P (sym is) (all i e below)

-- ---- one condition of a row

-- the truth of a condition is in the row
pub at_row : {C : Type 0} (a : Algebra C) (cs : List C) (x : List Bool) (i : ℕ) (c : C) → i < length cs → c ≡ get_or cs i c → a.holds c x ≡ get_or (row_at a cs x) i false
at_row a cs x i c below is =
    ap (λ k. a.holds k x) is ∙ sym (get_or-map (λ k. a.holds k x) cs i c false below)

pub live_at : {C : Type 0} (a : Algebra C) (cs : List C) (i : ℕ) (c : C) → AllLive a cs → i < length cs → c ≡ get_or cs i c → a.live c
live_at a cs i c live below is = element_has a.live cs i c live below is

-- a condition of a row holds where the row says
pub holds_at_place : {C : Type 0} {a : Algebra C} {cs : List C} {row : List Bool → List Bool} (i : ℕ) (c : C) → i < length cs → c ≡ get_or cs i c → RowWhere a cs row → HoldsWhere a c (λ x. get_or (row x) i false)
holds_at_place {a} {cs} {row} i c below is h = record {
  live = live_at a cs i c h.live below is;
  holds = λ x w. at_row a cs x i c below is ∙ ap (λ r. get_or r i false) (h.holds x w);
}

pub row_length : {C : Type 0} (a : Algebra C) (cs : List C) (x : List Bool) → length (row_at a cs x) ≡ length cs
row_length a cs x = length-map cs (λ c. a.holds c x)

-- ---- rows at later moments

-- live conditions have the truth that they had
pub row_kept : {C : Type 0} {a b : Algebra C} (cs : List C) (x : List Bool) → Kept a b → AllLive a cs → row_at b cs x ≡ row_at a cs x
row_kept {a} {b} cs x kept live =
    map_same a.live (λ c. b.holds c x) (λ c. a.holds c x) cs (λ c l. kept.holds c l x) live

pub live_later : {C : Type 0} {a b : Algebra C} (cs : List C) → Kept a b → AllLive a cs → AllLive b cs
live_later {a} {b} cs kept live = All-weaker a.live b.live kept.live cs live

-- what was a row still is
pub row_later : {C : Type 0} {a b : Algebra C} {cs : List C} {row : List Bool → List Bool} → Kept a b → RowWhere a cs row → RowWhere b cs row
row_later {a} {b} {cs} {row} kept h = record {
  live = live_later cs kept h.live;
  holds = λ x w. row_kept cs x kept h.live ∙ h.holds x (world_before x kept w);
}

-- live conditions are a row with the truth that they had
pub row_as_before : {C : Type 0} {a b : Algebra C} (cs : List C) → Kept a b → AllLive a cs → RowWhere b cs (row_at a cs)
row_as_before cs kept live = record { live = live_later cs kept live; holds = λ x w. row_kept cs x kept live }

-- ---- other words for a row

pub row_is : {C : Type 0} {a : Algebra C} {cs : List C} (row other : List Bool → List Bool) → ((x : List Bool) → row x ≡ other x) → RowWhere a cs row → RowWhere a cs other
row_is row other same h = record { live = h.live; holds = λ x w. h.holds x w ∙ same x }

-- only the worlds count
pub row_is_at : {C : Type 0} {a : Algebra C} {cs : List C} (row other : List Bool → List Bool) → ((x : List Bool) → a.is_world x ≡ true → row x ≡ other x) → RowWhere a cs row → RowWhere a cs other
row_is_at row other same h = record { live = h.live; holds = λ x w. h.holds x w ∙ same x w }

-- ---- rows that are built

pub row_empty : {C : Type 0} (a : Algebra C) → RowWhere a [] (λ x. [])
row_empty a = record { live = λ i d below. absurd (omega arith); holds = λ x w. refl }

-- one more condition at the end
pub row_push : {C : Type 0} {a b : Algebra C} {cs : List C} {row : List Bool → List Bool} {test : List Bool → Bool} (c : C) → Kept a b → RowWhere a cs row → HoldsWhere b c test → RowWhere b (cs ++ c ∷ []) (λ x. row x ++ test x ∷ [])
row_push {a} {b} {cs} {row} {test} c kept rows made =
    let later = row_later kept rows in
    record {
      live = All-push b.live cs c later.live made.live;
      holds = λ x w.
          let so_far = later.holds x w in
          let here = made.holds x w in
          map-append (λ k. b.holds k x) cs (c ∷ []) ∙ cc;
    }

-- a condition in place of another one
pub row_set : {C : Type 0} {a b : Algebra C} {cs : List C} {row : List Bool → List Bool} {test : List Bool → Bool} (i : ℕ) (c : C) → Kept a b → RowWhere a cs row → HoldsWhere b c test → RowWhere b (set cs i c) (λ x. set (row x) i (test x))
row_set {a} {b} {cs} {row} {test} i c kept rows made =
    let later = row_later kept rows in
    record {
      live = All-set b.live cs i c made.live later.live;
      holds = λ x w.
          let so_far = later.holds x w in
          let here = made.holds x w in
          map-set (λ k. b.holds k x) cs i c ∙ cc;
    }
