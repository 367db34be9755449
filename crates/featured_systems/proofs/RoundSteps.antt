-- One more transition, and one more state, of a round at one world.
use Rattle.std.proofs.Common.{◌≡◌, ◌∙◌, refl, sym, ap, ℕ, zero, suc, ◌+◌, ◌<◌, ◌≤◌, List, [], ◌∷◌, ◌++◌, length, get_or, set, Bool, true, false, arith}
use Rattle.std.specs.Prelude.{◌&&◌, ◌||◌, not, if◌then◌else◌, Option, Some, None, find}
use Rattle.std.specs.Option.{option_or}
use Rattle.std.proofs.lemmas.List.{set-get_or, get_or-set_other}
use Rattle.std.proofs.lemmas.List.Folds.{find-append}
use Rattle.meaning.specs.Systems.{is_some_number}
use Rattle.meaning.proofs.RunDistances.{found}
use Rattle.std.proofs.lemmas.Bool.{false≢true}
use Rattle.std.proofs.lemmas.List.Elements.{All-contains}
use Rattle.featured_systems.specs.Rounds.{Front, places, comes, first_into, marked, seen_below}
use Rattle.featured_systems.proofs.Places.{IsPlace, all_places}

or_false : (b : Bool) → (b || false) ≡ b
or_false true = refl
or_false false = refl

-- a transition enters where it leads on from the last layer and the state isn't seen yet
abbrev pub gains : (ℕ → Bool) → Bool → List ℕ → ℕ → Bool
gains c before ts t = c t && not (before || is_some_number (find c ts))

pub seen_more : (c : ℕ → Bool) (before : Bool) (ts : List ℕ) (t : ℕ)
    → ((before || is_some_number (find c ts)) || gains c before ts t) ≡ (before || is_some_number (find c (ts ++ t ∷ [])))
seen_more c before ts t = go before (find c ts) (c t) ∙ ap (λ o. before || is_some_number o) (sym (find-append c ts (t ∷ [])))
  where
    go : (s : Bool) (o : Option ℕ) (b : Bool) → ((s || is_some_number o) || (b && not (s || is_some_number o))) ≡ (s || is_some_number (option_or o (if b then Some t else None)))
    go true o true = refl
    go true o false = refl
    go false (Some u) true = refl
    go false (Some u) false = refl
    go false None true = refl
    go false None false = refl

pub entered_more : (c : ℕ → Bool) (before : Bool) (ts : List ℕ) (t : ℕ)
    → ((not before && is_some_number (find c ts)) || gains c before ts t) ≡ (not before && is_some_number (find c (ts ++ t ∷ [])))
entered_more c before ts t = go before (find c ts) (c t) ∙ ap (λ o. not before && is_some_number o) (sym (find-append c ts (t ∷ [])))
  where
    go : (s : Bool) (o : Option ℕ) (b : Bool) → ((not s && is_some_number o) || (b && not (s || is_some_number o))) ≡ (not s && is_some_number (option_or o (if b then Some t else None)))
    go true o true = refl
    go true o false = refl
    go false (Some u) true = refl
    go false (Some u) false = refl
    go false None true = refl
    go false None false = refl

pub parents_more : (c : ℕ → Bool) (before : Bool) (ts : List ℕ) (t : ℕ) (parents : List Bool)
    → set (marked before (find c ts) parents) t (get_or (marked before (find c ts) parents) t false || gains c before ts t) ≡ marked before (find c (ts ++ t ∷ [])) parents
parents_more c before ts t parents = go before (find c ts) (c t) ∙ ap (λ o. marked before o parents) (sym (find-append c ts (t ∷ [])))
  where
    same : (p : List Bool) → set p t (get_or p t false || false) ≡ p
    same p = ap (set p t) (or_false (get_or p t false)) ∙ set-get_or p t false

    or_true : (b : Bool) → (b || true) ≡ true
    or_true true = refl
    or_true false = refl

    go : (s : Bool) (o : Option ℕ) (b : Bool)
        → set (marked s o parents) t (get_or (marked s o parents) t false || (b && not (s || is_some_number o))) ≡ marked s (option_or o (if b then Some t else None)) parents
    go true (Some u) true = same parents
    go true (Some u) false = same parents
    go true None true = same parents
    go true None false = same parents
    go false (Some u) true = same (set parents u true)
    go false (Some u) false = same (set parents u true)
    go false None true = ap (set parents t) (or_true (get_or parents t false))
    go false None false = same parents

-- the states from k on are as they were
pub seen_above : (f : Front) (seen : List Bool) (k y : ℕ) → k ≤ y → get_or (seen_below f seen k) y false ≡ get_or seen y false
seen_above f seen zero y above = refl
seen_above f seen (suc k) y above =
    get_or-set_other (seen_below f seen k) k y (get_or seen k false || is_some_number (first_into f k)) false (λ (same : y ≡ k). omega (arith, above, same))
    ∙ seen_above f seen k y (omega (arith, above))

-- a state to which no transition leads from the last layer has no first one
pub none_into : (f : Front) (y : ℕ) → ((t : ℕ) → t < length f.targets → get_or f.targets t 0 ≡ y → comes f t ≡ false) → first_into f y ≡ None
none_into f y fails = go (first_into f y) refl
  where
    go : (o : Option ℕ) → first_into f y ≡ o → first_into f y ≡ None
    go None e = e
    go (Some t) e =
        let r = found (comes f) (places 0 y f.targets) t e in
        let place = All-contains (IsPlace 0 y f.targets) (places 0 y f.targets) t (all_places y f.targets) r.0 in
        let below : t < length f.targets = omega (arith, place.below) in
        let same : t ≡ 0 + t = omega arith in
        absurd (false≢true (sym (fails t below (place.there t same)) ∙ r.1))
