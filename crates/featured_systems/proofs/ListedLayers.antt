-- The list of the layers, one state after another.
use Rattle.std.proofs.Common.{◌≡◌, ◌∙◌, refl, sym, ap, subst, ℕ, suc, ◌+◌, inl, inr, List, [], ◌∷◌, ◌++◌, map, get_or, Bool, true, false, append_assoc, arith}
use Rattle.std.specs.Prelude.{if◌then◌else◌, filter}
use Rattle.std.specs.List.{All, AllByRecursion}
use Rattle.std.proofs.lemmas.List.{map-append}
use Rattle.std.proofs.lemmas.List.Elements.{All-push, All-weaker, All-map, recursion_from_All, filter-append}
use Rattle.meaning.specs.Texts.{numbers_from}
use Rattle.meaning.proofs.RunDistances.{numbers_push}
use Rattle.worlds.specs.Algebra.{Algebra, Kept}
use Rattle.featured_systems.specs.Exploring.{IsLayer, IsNearer, Ascending, layers_at}
use Rattle.featured_systems.specs.Rounds.{states_in, Listed}

-- ---- the order

ascending_push : (ps : List (ℕ × ℕ)) (q : ℕ × ℕ) → Ascending ps → AllByRecursion (λ p. IsNearer p q) ps → Ascending (ps ++ q ∷ [])
ascending_push [] q ascending all = tt
ascending_push (p ∷ []) q ascending all = (all.0, tt)
ascending_push (p ∷ r ∷ ps) q ascending all = (ascending.0, ascending_push (r ∷ ps) q ascending.1 all.1)

nearer_than_next : (d y : ℕ) (p : ℕ × ℕ) → IsNearer p (d, y) → IsNearer p (d, y + 1)
nearer_than_next d y p (inl less) = inl less
nearer_than_next d y p (inr same) = inr (same.0, omega (arith, same.1))

nearer_than_further : (d y : ℕ) (p : ℕ × ℕ) → IsNearer p (d, y) → IsNearer p (d + 1, 0)
nearer_than_further d y p (inl less) = inl (omega (arith, less))
nearer_than_further d y p (inr same) = inl (omega (arith, same.0))

module _ {C : Type 0} {a : Algebra C} where
  pub listed_push : (layers : List (ℕ × ℕ × C)) (d y : ℕ) (c : C) → Listed a layers d y → IsLayer a (d, y, c) → Listed a (layers ++ (d, y, c) ∷ []) d (y + 1)
  listed_push layers d y c h layer = record {
    layered = All-push (IsLayer a) layers (d, y, c) h.layered layer;
    ascending = subst Ascending (sym (map-append {B = ℕ × ℕ} (λ l. (l.0, l.1)) layers ((d, y, c) ∷ [])))
        (ascending_push (map {B = ℕ × ℕ} (λ l. (l.0, l.1)) layers) (d, y) h.ascending
        (recursion_from_All (λ p. IsNearer p (d, y)) (map {B = ℕ × ℕ} (λ l. (l.0, l.1)) layers) (All-map (λ p. IsNearer p (d, y)) (λ l. (l.0, l.1)) layers h.nearer)));
    nearer = All-push (λ l. IsNearer (l.0, l.1) (d, y + 1)) layers (d, y, c)
        (All-weaker (λ l. IsNearer (l.0, l.1) (d, y)) (λ l. IsNearer (l.0, l.1) (d, y + 1)) (λ l. nearer_than_next d y (l.0, l.1)) layers h.nearer)
        (inr (refl, omega arith));
  }

  -- a state that isn't listed
  pub listed_past : (layers : List (ℕ × ℕ × C)) (d y : ℕ) → Listed a layers d y → Listed a layers d (y + 1)
  listed_past layers d y h = record {
    layered = h.layered;
    ascending = h.ascending;
    nearer = All-weaker (λ l. IsNearer (l.0, l.1) (d, y)) (λ l. IsNearer (l.0, l.1) (d, y + 1)) (λ l. nearer_than_next d y (l.0, l.1)) layers h.nearer;
  }

  pub listed_next : (layers : List (ℕ × ℕ × C)) (d y : ℕ) → Listed a layers d y → Listed a layers (d + 1) 0
  listed_next layers d y h = record {
    layered = h.layered;
    ascending = h.ascending;
    nearer = All-weaker (λ l. IsNearer (l.0, l.1) (d, y)) (λ l. IsNearer (l.0, l.1) (d + 1, 0)) (λ l. nearer_than_further d y (l.0, l.1)) layers h.nearer;
  }

-- ---- later

layer_later : {C : Type 0} {a b : Algebra C} (l : ℕ × ℕ × C) → Kept a b → IsLayer a l → IsLayer b l
layer_later l kept h = record {
  live = kept.live l.2 h.live;
  somewhere = λ nowhere. h.somewhere (λ x w. sym (kept.holds l.2 h.live x) ∙ nowhere x (kept.worlds x ∙ w));
}

pub listed_later : {C : Type 0} {a b : Algebra C} (layers : List (ℕ × ℕ × C)) (d y : ℕ) → Kept a b → Listed a layers d y → Listed b layers d y
listed_later {a} {b} layers d y kept h = record {
  layered = All-weaker (IsLayer a) (IsLayer b) (λ l. layer_later l kept) layers h.layered;
  ascending = h.ascending;
  nearer = h.nearer;
}

same_layers_at : {C : Type 0} {a b : Algebra C} (layers : List (ℕ × ℕ × C)) (x : List Bool) → Kept a b → AllByRecursion (IsLayer a) layers → layers_at b layers x ≡ layers_at a layers x
same_layers_at [] x kept all = refl
same_layers_at {a} {b} (l ∷ ls) x kept all =
    let here = kept.holds l.2 (all.0.live) x in
    let rest = same_layers_at ls x kept all.1 in
    go (a.holds l.2 x) here rest
  where
    go : (h : Bool) → b.holds l.2 x ≡ a.holds l.2 x → layers_at b ls x ≡ layers_at a ls x → layers_at b (l ∷ ls) x ≡ layers_at a (l ∷ ls) x
    go h here rest = rw here (both (a.holds l.2 x) rest)
      where
        both : (t : Bool) → layers_at b ls x ≡ layers_at a ls x
            → map {B = ℕ × ℕ} (λ k. (k.0, k.1)) (if t then l ∷ filter (λ k. b.holds k.2 x) ls else filter (λ k. b.holds k.2 x) ls)
            ≡ map {B = ℕ × ℕ} (λ k. (k.0, k.1)) (if t then l ∷ filter (λ k. a.holds k.2 x) ls else filter (λ k. a.holds k.2 x) ls)
        both true r = ap (λ ps. (l.0, l.1) ∷ ps) r
        both false r = r

pub layers_later : {C : Type 0} {a b : Algebra C} (layers : List (ℕ × ℕ × C)) (x : List Bool) → Kept a b → All (IsLayer a) layers → layers_at b layers x ≡ layers_at a layers x
layers_later {a} layers x kept all = same_layers_at layers x kept (recursion_from_All (IsLayer a) layers all)

-- ---- one state more

pub states_more : (d : ℕ) (row : List Bool) (y : ℕ) → states_in d row (y + 1) ≡ states_in d row y ++ (if get_or row y false then (d, y) ∷ [] else [])
states_more d row y =
    let same : y + 1 ≡ suc y = omega arith in
    let first : 0 + y ≡ y = omega arith in
    ap (states_in d row) same
    ∙ ap (λ ns. map {B = ℕ × ℕ} (λ z. (d, z)) (filter (λ z. get_or row z false) ns)) (numbers_push 0 y ∙ ap (λ n. numbers_from 0 y ++ n ∷ []) first)
    ∙ ap (map {B = ℕ × ℕ} (λ z. (d, z))) (filter-append (λ z. get_or row z false) (numbers_from 0 y) (y ∷ []))
    ∙ map-append {B = ℕ × ℕ} (λ z. (d, z)) (filter (λ z. get_or row z false) (numbers_from 0 y)) (filter (λ z. get_or row z false) (y ∷ []))
    ∙ ap (λ ps. states_in d row y ++ ps) (go (get_or row y false))
  where
    go : (b : Bool) → map {B = ℕ × ℕ} (λ z. (d, z)) (if b then y ∷ [] else []) ≡ (if b then (d, y) ∷ [] else [])
    go true = refl
    go false = refl

pub one_more_state : (d : ℕ) (row : List Bool) (y : ℕ) (old before now : List (ℕ × ℕ)) (b : Bool) → b ≡ get_or row y false → before ≡ old ++ states_in d row y
    → now ≡ before ++ (if b then (d, y) ∷ [] else []) → now ≡ old ++ states_in d row (y + 1)
one_more_state d row y old before now b is so_far more =
    more ∙ ap (λ ps. ps ++ (if b then (d, y) ∷ [] else [])) so_far
    ∙ append_assoc old (states_in d row y) (if b then (d, y) ∷ [] else [])
    ∙ ap (λ t. old ++ (states_in d row y ++ (if t then (d, y) ∷ [] else []))) is
    ∙ ap (λ ps. old ++ ps) (sym (states_more d row y))
