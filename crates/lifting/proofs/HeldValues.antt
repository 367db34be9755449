-- Values with conditions, told as a list at each world: those whose condition holds. So branches, targets and witnesses are told.
use Rattle.std.proofs.Common.{◌≡◌, ◌≢◌, ℕ, zero, suc, List, [], ◌∷◌, map, length, Bool, true, false, ◌&&◌, ◌||◌, ◌==◌, Option, Some, None, refl, sym, ap, ◌∙◌, subst, arith}
use Rattle.std.specs.Prelude.{cond, filter, IsTrue}
use Rattle.std.specs.List.{slice_get, list_any}
use Rattle.meaning.specs.Features.{is_valid}
use Rattle.meaning.specs.Systems.{is_number}
use Rattle.meaning.specs.CaseFiles.{CaseDocument, holds}
use Rattle.meaning.specs.Derivation.{Bundle}
use Rattle.meaning.specs.Entries.{only}
use Rattle.meaning.specs.Tidy.{ValidWorld, AreConditionsOf, same_tuple, is_tuple}
use Rattle.meaning.proofs.CutTrees.{Each}
use Rattle.lifting.specs.LiftedCases.{Noted, there_in}
use Rattle.meaning.proofs.Pairs.{Pairwise}
use Rattle.lifting.proofs.LiftedNotes.{same_conditions}
use Rattle.meaning.proofs.EqualityTests.{same_number, equal_numbers, same_text, equal_texts, none_is_some, some_is}

-- the values whose condition holds
abbrev pub those_held : {A : Type 0} → (ℕ → Bool) → List A → List ℕ → List A
those_held hold [] ids = []
those_held hold (v ∷ vs) [] = []
those_held hold (v ∷ vs) (id ∷ ids) = cond (hold id) (v ∷ those_held hold vs ids) (those_held hold vs ids)

-- of rows: the values of those whose condition holds
pub held_rows : {A R : Type 0} (hold : ℕ → Bool) (value : R → A) (id_of : R → ℕ) (rows : List R)
    → those_held hold (map value rows) (map id_of rows) ≡ map value (filter (λ r. hold (id_of r)) rows)
held_rows hold value id_of [] = refl
held_rows {A = A} {R = R} hold value id_of (r ∷ rows) = go (hold (id_of r)) (held_rows hold value id_of rows)
  where
    go : (b : Bool) → those_held hold (map value rows) (map id_of rows) ≡ map value (filter (λ r. hold (id_of r)) rows)
        → cond b (value r ∷ those_held hold (map value rows) (map id_of rows)) (those_held hold (map value rows) (map id_of rows))
        ≡ map value (cond b (r ∷ filter (λ r. hold (id_of r)) rows) (filter (λ r. hold (id_of r)) rows))
    go true e = ap (λ vs. value r ∷ vs) e
    go false e = e

-- a test that tells values apart
module _ {A : Type 0} (same : A → A → Bool) (itself : (x : A) → same x x ≡ true) (equal : (x y : A) → same x y ≡ true → x ≡ y) where
  other : (x y : A) → x ≢ y → same x y ≡ false
  other x y d = go (same x y) refl
    where
      go : (b : Bool) → same x y ≡ b → b ≡ false
      go true e = elim (d (equal x y e)) [ ]
      go false e = refl

  module _ (hold : ℕ → Bool) where
    none_held : (v : A) (vs : List A) (ids : List ℕ) → Each (λ u. v ≢ u) vs → list_any (same v) (those_held hold vs ids) ≡ false
    none_held v [] ids h = refl
    none_held v (u ∷ vs) [] h = refl
    none_held v (u ∷ vs) (id ∷ ids) h = go (hold id) (none_held v vs ids h.1)
      where
        go : (b : Bool) → list_any (same v) (those_held hold vs ids) ≡ false → list_any (same v) (cond b (u ∷ those_held hold vs ids) (those_held hold vs ids)) ≡ false
        go true e = ap (λ b. b || list_any (same v) (those_held hold vs ids)) (other v u h.0) ∙ e
        go false e = e

    -- a value is among them exactly where its condition holds
    held_exactly : (vs : List A) (ids : List ℕ) → Pairwise (λ u v. u ≢ v) vs → (i : ℕ) (v : A) (id : ℕ) → slice_get vs i ≡ Some v → slice_get ids i ≡ Some id
        → hold id ≡ list_any (same v) (those_held hold vs ids)
    held_exactly [] ids d i v id p q = elim (none_is_some v p) [ ]
    held_exactly (u ∷ vs) [] d i v id p q = elim (none_is_some id q) [ ]
    held_exactly (u ∷ vs) (x ∷ ids) d zero v id p q =
        ap hold (sym (some_is x id q)) ∙ go (hold x) ∙ ap (λ y. list_any (same y) (cond (hold x) (u ∷ those_held hold vs ids) (those_held hold vs ids))) (some_is u v p)
      where
        go : (b : Bool) → b ≡ list_any (same u) (cond b (u ∷ those_held hold vs ids) (those_held hold vs ids))
        go true = sym (ap (λ b. b || list_any (same u) (those_held hold vs ids)) (itself u))
        go false = sym (none_held u vs ids d.0)
    held_exactly (u ∷ vs) (x ∷ ids) d (suc i) v id p q = held_exactly vs ids d.1 i v id p q ∙ go (hold x)
      where
        at : (P : A → Type 0) (vs : List A) (i : ℕ) (v : A) → Each P vs → slice_get vs i ≡ Some v → P v
        at P [] i v h p = elim (none_is_some v p) [ ]
        at P (y ∷ ys) zero v h p = subst P (some_is y v p) h.0
        at P (y ∷ ys) (suc i) v h p = at P ys i v h.1 p

        differ : v ≢ u
        differ e = at (λ y. u ≢ y) vs i v d.0 p (sym e)

        go : (b : Bool) → list_any (same v) (those_held hold vs ids) ≡ list_any (same v) (cond b (u ∷ those_held hold vs ids) (those_held hold vs ids))
        go true = sym (ap (λ b. b || list_any (same v) (those_held hold vs ids)) (other v u differ))
        go false = refl

    -- what is among them is a value
    held_is_value : (vs : List A) (ids : List ℕ) (v : A) → list_any (same v) (those_held hold vs ids) ≡ true → (i : ℕ) × (slice_get vs i ≡ Some v)
    held_is_value [] ids v e = elim (no_true e) [ ]
      where
        no_true : false ≡ true → ⊥
        no_true e = cc
    held_is_value (u ∷ vs) [] v e = elim (no_true e) [ ]
      where
        no_true : false ≡ true → ⊥
        no_true e = cc
    held_is_value (u ∷ vs) (x ∷ ids) v e = go (hold x) e (held_is_value vs ids v)
      where
        next : (i : ℕ) × (slice_get vs i ≡ Some v) → (i : ℕ) × (slice_get (u ∷ vs) i ≡ Some v)
        next f = (suc f.0, f.1)

        either : (b : Bool) → same v u ≡ b → (b || list_any (same v) (those_held hold vs ids)) ≡ true
            → (list_any (same v) (those_held hold vs ids) ≡ true → (i : ℕ) × (slice_get vs i ≡ Some v)) → (i : ℕ) × (slice_get (u ∷ vs) i ≡ Some v)
        either true s f later = (0, ap Some (sym (equal v u s)))
        either false s f later = next (later f)

        go : (b : Bool) → list_any (same v) (cond b (u ∷ those_held hold vs ids) (those_held hold vs ids)) ≡ true
            → (list_any (same v) (those_held hold vs ids) ≡ true → (i : ℕ) × (slice_get vs i ≡ Some v)) → (i : ℕ) × (slice_get (u ∷ vs) i ≡ Some v)
        go true f later = either (same v u) refl f later
        go false f later = next (later f)

  at_same_place : (vs : List A) (ids : List ℕ) → length ids ≡ length vs → (i : ℕ) (v : A) → slice_get vs i ≡ Some v → (id : ℕ) × (slice_get ids i ≡ Some id)
  at_same_place [] ids l i v p = elim (none_is_some v p) [ ]
  at_same_place (u ∷ vs) [] l i v p = elim (too_short l) [ ]
    where
      too_short : 0 ≡ suc (length vs) → ⊥
      too_short l = omega (arith, l)
  at_same_place (u ∷ vs) (id ∷ ids) l zero v p = (id, refl)
  at_same_place (u ∷ vs) (id ∷ ids) l (suc i) v p = at_same_place vs ids (omega (arith, l)) i v p

  -- the conditions of the values, where at each valid world those that hold are listed, and each holds at one
  pub conditions_from_lists : (k : CaseDocument) (b : Bundle) (listed : List Bool → List A) (values : List A) (ids : List ℕ)
      → length ids ≡ length values
      → Pairwise (λ u v. u ≢ v) values
      → ((w : List Bool) → IsTrue (is_valid b.line w) → those_held (holds k w) values ids ≡ listed w)
      → ((i id : ℕ) → slice_get ids i ≡ Some id → (w : ValidWorld b) × IsTrue (holds k w.0 id))
      → AreConditionsOf k b (λ w v. list_any (same v) (listed w)) values ids
  conditions_from_lists k b listed values ids l d at_each each_holds = record {
    same_length = l;
    exact = λ i v id p q w o. exact i v id p q w o;
    each_occurs = λ i v p. occurs i v p (at_same_place values ids l i v p);
    every = λ w v o. held_is_value (holds k w.0) values ids v (ap (list_any (same v)) (at_each w.0 w.1) ∙ o);
  }
    where
      exact : (i : ℕ) (v : A) (id : ℕ) → slice_get values i ≡ Some v → slice_get ids i ≡ Some id → (w : List Bool) → IsTrue (is_valid b.line w)
          → holds k w id ≡ list_any (same v) (listed w)
      exact i v id p q w o = held_exactly (holds k w) values ids d i v id p q ∙ ap (list_any (same v)) (at_each w o)

      occurs : (i : ℕ) (v : A) → slice_get values i ≡ Some v → (id : ℕ) × (slice_get ids i ≡ Some id) → (w : ValidWorld b) × IsTrue (list_any (same v) (listed w.0))
      occurs i v p q = let held : (w : ValidWorld b) × IsTrue (holds k w.0 q.0) = each_holds i q.0 q.1 in (held.0, sym (exact i v q.0 p q.1 held.0.0 held.0.1) ∙ held.1)

-- ---- branches, targets and witnesses of a node

abbrev same_state : ℕ → ℕ → Bool
same_state s t = t == s

or_false : (b : Bool) → (b || false) ≡ b
or_false true = refl
or_false false = refl

module _ (b : Bundle) (k : CaseDocument) (n : Noted) where
  abbrev where_there : {A : Type 0} → List Bool → List A → List A
  where_there w vs = cond (there_in k w n) vs []

  pub branches_from_lists : (values : List (List ℕ)) (ids : List ℕ)
      → length ids ≡ length values
      → Pairwise (λ u v. u ≢ v) values
      → ((w : List Bool) → IsTrue (is_valid b.line w) → those_held (holds k w) values ids ≡ where_there w (n.1 w).branches)
      → ((i id : ℕ) → slice_get ids i ≡ Some id → (w : ValidWorld b) × IsTrue (holds k w.0 id))
      → AreConditionsOf k b (λ w t. there_in k w n && list_any (same_tuple t) (n.1 w).branches) values ids
  branches_from_lists values ids l d at_each each_holds =
      same_conditions k b (λ w t. list_any (same_tuple t) (where_there w (n.1 w).branches)) (λ w t. there_in k w n && list_any (same_tuple t) (n.1 w).branches) values ids
      (λ w v t. go (there_in k w n) (n.1 w).branches t)
      (conditions_from_lists same_tuple same_text equal_texts k b (λ w. where_there w (n.1 w).branches) values ids l d at_each each_holds)
    where
      go : (there : Bool) (vs : List (List ℕ)) (t : List ℕ) → list_any (same_tuple t) (cond there vs []) ≡ (there && list_any (same_tuple t) vs)
      go true vs t = refl
      go false vs t = refl

  pub targets_from_lists : (values ids : List ℕ)
      → length ids ≡ length values
      → Pairwise (λ u v. u ≢ v) values
      → ((w : List Bool) → IsTrue (is_valid b.line w) → those_held (holds k w) values ids ≡ where_there w (only (n.1 w).last))
      → ((i id : ℕ) → slice_get ids i ≡ Some id → (w : ValidWorld b) × IsTrue (holds k w.0 id))
      → AreConditionsOf k b (λ w s. there_in k w n && is_number s (n.1 w).last) values ids
  targets_from_lists values ids l d at_each each_holds =
      same_conditions k b (λ w s. list_any (same_state s) (where_there w (only (n.1 w).last))) (λ w s. there_in k w n && is_number s (n.1 w).last) values ids
      (λ w v s. go (there_in k w n) (n.1 w).last s)
      (conditions_from_lists same_state (λ s. same_number s s refl) (λ s t e. sym (equal_numbers t s e)) k b (λ w. where_there w (only (n.1 w).last)) values ids l d at_each each_holds)
    where
      go : (there : Bool) (o : Option ℕ) (s : ℕ) → list_any (same_state s) (cond there (only o) []) ≡ (there && is_number s o)
      go true None s = refl
      go true (Some t) s = or_false (t == s)
      go false o s = refl

  pub witnesses_from_lists : (values : List (List ℕ)) (ids : List ℕ)
      → length ids ≡ length values
      → Pairwise (λ u v. u ≢ v) values
      → ((w : List Bool) → IsTrue (is_valid b.line w) → those_held (holds k w) values ids ≡ where_there w (only (n.1 w).first))
      → ((i id : ℕ) → slice_get ids i ≡ Some id → (w : ValidWorld b) × IsTrue (holds k w.0 id))
      → AreConditionsOf k b (λ w t. there_in k w n && is_tuple t (n.1 w).first) values ids
  witnesses_from_lists values ids l d at_each each_holds =
      same_conditions k b (λ w t. list_any (same_tuple t) (where_there w (only (n.1 w).first))) (λ w t. there_in k w n && is_tuple t (n.1 w).first) values ids
      (λ w v t. go (there_in k w n) (n.1 w).first t)
      (conditions_from_lists same_tuple same_text equal_texts k b (λ w. where_there w (only (n.1 w).first)) values ids l d at_each each_holds)
    where
      go : (there : Bool) (o : Option (List ℕ)) (t : List ℕ) → list_any (same_tuple t) (cond there (only o) []) ≡ (there && is_tuple t o)
      go true None t = refl
      go true (Some u) t = or_false (same_tuple t u)
      go false o t = refl
