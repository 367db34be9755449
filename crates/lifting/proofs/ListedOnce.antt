-- What occurs at the valid worlds can be listed, each once; and no list of different things that occur is longer.
use Rattle.std.proofs.Common.{◌≡◌, ◌≢◌, ◌≤◌, List, [], ◌∷◌, map, length, Bool, true, false, ◌||◌, refl, sym, ap, ◌∙◌, subst, inl, inr}
use Rattle.std.specs.Prelude.{cond, filter, Contains}
use Rattle.std.specs.List.{list_any}
use Rattle.meaning.specs.Texts.{flat}
use Rattle.meaning.specs.Worlds.{worlds}
use Rattle.meaning.specs.Features.{is_valid}
use Rattle.meaning.specs.Derivation.{Bundle}
use Rattle.meaning.specs.Tidy.{ValidWorld}
use Rattle.meaning.specs.Entries.{ListsEach}
use Rattle.meaning.proofs.CutTrees.{Each}
use Rattle.meaning.proofs.ValidWorlds.{valid_is_long}
use Rattle.meaning.proofs.EachMembers.{each_by}
use Rattle.meaning.proofs.Pairs.{Pairwise}
use Rattle.meaning.proofs.Members.{Member, member_front, member_behind, member_mapped, member_of_flat, flat_member, member_kept, member_each, member_of_contains, contains_member, one_place, no_more}
use Rattle.meaning.proofs.Lists.{each_passes}

-- ---- all worlds

pub every_world : (w : List Bool) → Member w (worlds (length w))
every_world [] = inl refl
every_world (false ∷ w) = member_front (false ∷ w) _ _ (member_mapped (λ v. false ∷ v) w (worlds (length w)) (every_world w))
every_world (true ∷ w) = member_behind (true ∷ w) (map (λ v. false ∷ v) (worlds (length w))) _ (member_mapped (λ v. true ∷ v) w (worlds (length w)) (every_world w))

-- ---- each once

module _ {A : Type 0} (same : A → A → Bool) (itself : (x : A) → same x x ≡ true) (equal : (x y : A) → same x y ≡ true → x ≡ y) where
  abbrev pub each_once : List A → List A
  each_once [] = []
  each_once (x ∷ xs) = cond (list_any (same x) (each_once xs)) (each_once xs) (x ∷ each_once xs)

  is_member : (x : A) (xs : List A) → list_any (same x) xs ≡ true → Member x xs
  is_member x [] e = elim (no_true e) [ ]
    where
      no_true : false ≡ true → ⊥
      no_true e = cc
  is_member x (y ∷ xs) e = go (same x y) refl e (is_member x xs)
    where
      go : (b : Bool) → same x y ≡ b → (b || list_any (same x) xs) ≡ true → (list_any (same x) xs ≡ true → Member x xs) → Member x (y ∷ xs)
      go true f g later = inl (sym (equal x y f))
      go false f g later = inr (later g)

  is_no_member : (x : A) (xs : List A) → list_any (same x) xs ≡ false → Each (λ y. x ≢ y) xs
  is_no_member x [] e = tt
  is_no_member x (y ∷ xs) e = go (same x y) refl e (is_no_member x xs)
    where
      not_both : (b : Bool) → b ≡ true → b ≡ false → ⊥
      not_both b e f = cc

      go : (b : Bool) → same x y ≡ b → (b || list_any (same x) xs) ≡ false → (list_any (same x) xs ≡ false → Each (λ y. x ≢ y) xs) → Each (λ y. x ≢ y) (y ∷ xs)
      go true f g later = elim (not_both true refl g) [ ]
      go false f g later = ((λ h. not_both (same x y) (ap (same x) (sym h) ∙ itself x) f), later g)

  once_differ : (xs : List A) → Pairwise (λ x y. x ≢ y) (each_once xs)
  once_differ [] = tt
  once_differ (x ∷ xs) = go (list_any (same x) (each_once xs)) refl (once_differ xs)
    where
      go : (b : Bool) → list_any (same x) (each_once xs) ≡ b → Pairwise (λ x y. x ≢ y) (each_once xs) → Pairwise (λ x y. x ≢ y) (cond b (each_once xs) (x ∷ each_once xs))
      go true e h = h
      go false e h = (is_no_member x (each_once xs) e, h)

  once_all : (xs : List A) (z : A) → Member z xs → Member z (each_once xs)
  once_all [] z m = m
  once_all (x ∷ xs) z (inl e) = go (list_any (same x) (each_once xs)) refl
    where
      go : (b : Bool) → list_any (same x) (each_once xs) ≡ b → Member z (cond b (each_once xs) (x ∷ each_once xs))
      go true f = subst (λ y. Member y (each_once xs)) e (is_member x (each_once xs) f)
      go false f = inl e
  once_all (x ∷ xs) z (inr m) = go (list_any (same x) (each_once xs)) (once_all xs z m)
    where
      go : (b : Bool) → Member z (each_once xs) → Member z (cond b (each_once xs) (x ∷ each_once xs))
      go true h = h
      go false h = inr h

  once_only : (xs : List A) (z : A) → Member z (each_once xs) → Member z xs
  once_only [] z m = m
  once_only (x ∷ xs) z m = go (list_any (same x) (each_once xs)) m (once_only xs z)
    where
      go : (b : Bool) → Member z (cond b (each_once xs) (x ∷ each_once xs)) → (Member z (each_once xs) → Member z xs) → Member z (x ∷ xs)
      go true h later = inr (later h)
      go false (inl e) later = inl e
      go false (inr h) later = inr (later h)

  -- ---- what occurs at some valid world

  module _ (b : Bundle) (occurs : List Bool → List A) where
    abbrev valid_worlds : List (List Bool)
    valid_worlds = filter (is_valid b.line) (worlds (length b.line.features))

    abbrev pub all_that_occurs : List A
    all_that_occurs = each_once (flat occurs valid_worlds)

    valid_member : (w : ValidWorld b) → Member w.0 valid_worlds
    valid_member w = member_kept (is_valid b.line) (worlds (length b.line.features)) w.0 (subst (λ n. Member w.0 (worlds n)) (valid_is_long b.line w.0 w.1) (every_world w.0)) w.1

    occurring : (x : A) → Member x (flat occurs valid_worlds) → (w : ValidWorld b) × Contains (occurs w.0) x
    occurring x m =
        let found : (w : List Bool) × Member w valid_worlds × Member x (occurs w) = flat_member occurs x valid_worlds m in
        ((found.0, member_each (λ w. is_valid b.line w ≡ true) valid_worlds (each_passes (is_valid b.line) (worlds (length b.line.features))) found.0 found.1), contains_member x (occurs found.0) found.2)

    -- the list is there
    pub lists_each : ListsEach b occurs all_that_occurs
    lists_each = record {
      once = one_place all_that_occurs (once_differ (flat occurs valid_worlds));
      each_occurs = λ x c. occurring x (once_only (flat occurs valid_worlds) x (member_of_contains x all_that_occurs c));
      every = λ w x c. contains_member x all_that_occurs (once_all (flat occurs valid_worlds) x (member_of_flat occurs x w.0 valid_worlds (valid_member w) (member_of_contains x (occurs w.0) c)));
    }

-- things that differ and occur are no more than those of a list of all
pub no_more_occur : {A : Type 0} (b : Bundle) (occurs : List Bool → List A) (some all : List A) → ListsEach b occurs all
    → Pairwise (λ x y. x ≢ y) some → Each (λ x. (w : ValidWorld b) × Contains (occurs w.0) x) some → length some ≤ length all
no_more_occur b occurs some all h d o = no_more some all d (each_by _ (λ x. Member x all) (λ x p. member_of_contains x all (h.every p.0 x p.1)) some o)
