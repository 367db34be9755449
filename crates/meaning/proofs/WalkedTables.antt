-- Tables whose rows stand in the order of a walk over conditions with the same functions are one table.
use Rattle.std.proofs.Common.{◌≡◌, ℕ, zero, suc, ◌+◌, ◌<◌, List, [], ◌∷◌, ◌++◌, length, Bool, true, false, ◌==◌, Some, None, Option, refl, sym, ap, ◌∙◌, subst, arith, ◌⊎◌, inl, inr}
use Rattle.std.specs.Prelude.{cond}
use Rattle.std.specs.List.{slice_get, list_any}
use Rattle.std.proofs.lemmas.Option.{slice_get_within}
use Rattle.meaning.specs.Texts.{numbers_from}
use Rattle.meaning.specs.CaseFiles.{Row}
use Rattle.meaning.specs.TableOrder.{row_of_id, row_ahead, left_after, left_after_all}
use Rattle.meaning.proofs.TableValues.{value_end}
use Rattle.meaning.proofs.EqualityTests.{same_number, equal_numbers}
use Rattle.meaning.proofs.ReducedTables.{IsReduced, IsWithin, IsRow, Alike, end_or_row}
use Rattle.meaning.proofs.CanonicalIdentifiers.{canonical, children_within, children_below, Matching, same_end, same_row, matching, row_same}
use Rattle.meaning.proofs.EmptyLists.{same_truth}
use Rattle.meaning.proofs.PairedLists.{Paired, paired_length, paired_append, paired_at, paired_by_place, paired_equal}

-- ---- steps of the walk

abbrev no_row : Option Row
no_row = None

no_row_either : (b : Bool) → cond b no_row no_row ≡ None
no_row_either true = refl
no_row_either false = refl

module _ (rows : List Row) where
  abbrev row_or_left : ℕ → List ℕ → ℕ → Option Row → List ℕ
  row_or_left depth left id o = elim o as (λ _. List ℕ) [ None ↦ left | Some row ↦ left_after depth rows (left_after depth rows left row.low) row.high ++ id ∷ [] ]

  -- what the walk has left before, and an end, leave nothing
  pub walk_seen : (depth : ℕ) (left : List ℕ) (id : ℕ) → list_any (λ x. x == id) left ≡ true → left_after depth rows left id ≡ left
  walk_seen zero left id e = refl
  walk_seen (suc depth) left id e = ap (λ b. row_or_left depth left id (cond b None (row_of_id rows id))) e

  end_has_no_row : (left : List ℕ) (id : ℕ) → id < 2 → row_ahead rows left id ≡ None
  end_has_no_row left zero l = no_row_either (list_any (λ x. x == 0) left)
  end_has_no_row left (suc zero) l = no_row_either (list_any (λ x. x == 1) left)
  end_has_no_row left (suc (suc r)) l = absurd (omega (arith, l))

  pub walk_end : (depth : ℕ) (left : List ℕ) (id : ℕ) → id < 2 → left_after depth rows left id ≡ left
  walk_end zero left id l = refl
  walk_end (suc depth) left id l = ap (row_or_left depth left id) (end_has_no_row left id l)

  pub walk_row : (depth : ℕ) (left : List ℕ) (id : ℕ) → list_any (λ x. x == id) left ≡ false → (x : IsRow rows id)
      → left_after (suc depth) rows left id ≡ left_after depth rows (left_after depth rows left x.row.low) x.row.high ++ id ∷ []
  walk_row depth left id e x =
      ap (λ b. row_or_left depth left id (cond b None (row_of_id rows id))) e
      ∙ ap (row_or_left depth left id) (ap (row_of_id rows) x.is ∙ x.stands)

-- ---- two walks

module _ (features : ℕ) (rows others : List Row) (first : IsReduced features rows) (second : IsReduced features others) where
  -- identifiers of the two tables with one function
  pub record Pair (i j : ℕ) : Type 0 where
    pub within : IsWithin rows i
    pub there : IsWithin others j
    pub alike : Alike features rows others i j

  -- each has one partner
  pub one_partner : (i j k : ℕ) → Pair i j → Pair i k → j ≡ k
  one_partner i j k p q = canonical features others second j k p.there q.there (λ w l. sym (p.alike w l) ∙ q.alike w l)

  pub partner_of_one : (i j k : ℕ) → Pair i k → Pair j k → i ≡ j
  partner_of_one i j k p q = canonical features rows first i j p.within q.within (λ w l. p.alike w l ∙ sym (q.alike w l))

  same_test : (x y i j : ℕ) → Pair x y → Pair i j → (x == i) ≡ (y == j)
  same_test x y i j p q =
      same_truth (x == i) (y == j)
      (λ e. same_number y j (one_partner i y j (subst (λ z. Pair z y) (equal_numbers x i e) p) q))
      (λ e. same_number x i (partner_of_one x i j (subst (λ z. Pair x z) (equal_numbers y j e) p) q))

  same_seen : (left lefts : List ℕ) (i j : ℕ) → Paired Pair left lefts → Pair i j → list_any (λ x. x == i) left ≡ list_any (λ y. y == j) lefts
  same_seen [] [] i j h p = refl
  same_seen [] (y ∷ lefts) i j h p = elim h [ ]
  same_seen (x ∷ left) [] i j h p = elim h [ ]
  same_seen (x ∷ left) (y ∷ lefts) i j h p = rw (same_test x y i j h.0 p, same_seen left lefts i j h.1 p) refl

  ends_left : (depth deep : ℕ) (left lefts : List ℕ) (i j : ℕ) → i < 2 → j < 2 → Paired Pair left lefts → Paired Pair (left_after depth rows left i) (left_after deep others lefts j)
  ends_left depth deep left lefts i j a b h = rw (walk_end rows depth left i a, walk_end others deep lefts j b) h

  -- an end's partner is that end, and a row's partner is a row
  partner_of_end : (i j : ℕ) → Pair i j → i < 2 → j < 2
  partner_of_end i j p l = go (matching features rows others first second i j p.within p.there p.alike)
    where
      go : Matching features rows others i j → j < 2
      go (same_end small e) = omega (arith, small, e)
      go (same_row x y v a b) = absurd (omega (arith, x.is, l))

  end_of_partner : (i j : ℕ) → Pair i j → j < 2 → i < 2
  end_of_partner i j p l = go (matching features rows others first second i j p.within p.there p.alike)
    where
      go : Matching features rows others i j → i < 2
      go (same_end small e) = small
      go (same_row x y v a b) = absurd (omega (arith, y.is, l))

  low_pair : (i j : ℕ) → Pair i j → (x : IsRow rows i) (y : IsRow others j) → Alike features rows others x.row.low y.row.low → Pair x.row.low y.row.low
  low_pair i j p x y h = record {
    within = (children_within features rows first i p.within x).0;
    there = (children_within features others second j p.there y).0;
    alike = h;
  }

  high_pair : (i j : ℕ) → Pair i j → (x : IsRow rows i) (y : IsRow others j) → Alike features rows others x.row.high y.row.high → Pair x.row.high y.row.high
  high_pair i j p x y h = record {
    within = (children_within features rows first i p.within x).1;
    there = (children_within features others second j p.there y).1;
    alike = h;
  }

  -- what two walks leave are pairs
  Walk : ℕ → ℕ → Type 0
  Walk depth deep = (left lefts : List ℕ) (i j : ℕ) → i < depth + 2 → j < deep + 2 → Paired Pair left lefts → Pair i j
      → Paired Pair (left_after depth rows left i) (left_after deep others lefts j)

  walks_step : (depth deep : ℕ) → Walk depth deep → Walk (suc depth) (suc deep)
  unfolding Walk
  walks_step depth deep walk left lefts i j a b h p = go (list_any (λ x. x == i) left) refl (matching features rows others first second i j p.within p.there p.alike)
    where
      below : (x : IsRow rows i) (y : IsRow others j) → Pair x.row.low y.row.low → Pair x.row.high y.row.high
          → Paired Pair (left_after depth rows (left_after depth rows left x.row.low) x.row.high) (left_after deep others (left_after deep others lefts y.row.low) y.row.high)
      below x y low high =
          walk _ _ x.row.high y.row.high (omega (arith, a, (children_below features rows first i x).1)) (omega (arith, b, (children_below features others second j y).1))
          (walk left lefts x.row.low y.row.low (omega (arith, a, (children_below features rows first i x).0)) (omega (arith, b, (children_below features others second j y).0)) h low)
          high

      go : (c : Bool) → list_any (λ x. x == i) left ≡ c → Matching features rows others i j → Paired Pair (left_after (suc depth) rows left i) (left_after (suc deep) others lefts j)
      go true e m = rw (walk_seen rows (suc depth) left i e, walk_seen others (suc deep) lefts j (sym (same_seen left lefts i j h p) ∙ e)) h
      go false e (same_end small f) = ends_left (suc depth) (suc deep) left lefts i j small (omega (arith, small, f)) h
      go false e (same_row x y v low high) =
          rw (walk_row rows depth left i e x, walk_row others deep lefts j (sym (same_seen left lefts i j h p) ∙ e) y)
          (paired_append Pair _ _ (i ∷ []) (j ∷ []) (below x y (low_pair i j p x y low) (high_pair i j p x y high)) (p, tt))

  walks : (depth deep : ℕ) → Walk depth deep
  unfolding Walk
  walks zero deep left lefts i j a b h p = ends_left zero deep left lefts i j (omega (arith, a)) (partner_of_end i j p (omega (arith, a))) h
  walks (suc depth) zero left lefts i j a b h p = ends_left (suc depth) zero left lefts i j (end_of_partner i j p (omega (arith, b))) (omega (arith, b)) h
  walks (suc depth) (suc deep) left lefts i j a b h p = walks_step depth deep (walks depth deep) left lefts i j a b h p

  walks_all : (ids partners left lefts : List ℕ) → Paired Pair ids partners → Paired Pair left lefts → Paired Pair (left_after_all rows left ids) (left_after_all others lefts partners)
  unfolding Walk
  walks_all [] [] left lefts h g = g
  walks_all [] (j ∷ partners) left lefts h g = elim h [ ]
  walks_all (i ∷ ids) [] left lefts h g = elim h [ ]
  walks_all (i ∷ ids) (j ∷ partners) left lefts h g =
      walks_all ids partners _ _ h.1 (walks (length rows) (length others) left lefts i j h.0.within h.0.there g h.0)

-- ---- the tables

number_at : (k n i : ℕ) → i < n → slice_get (numbers_from k n) i ≡ Some (k + i)
number_at k zero i l = absurd (omega (arith, l))
number_at k (suc n) zero l = ap Some (omega arith)
number_at k (suc n) (suc i) l = number_at (suc k) n i (omega (arith, l)) ∙ ap Some (omega arith)

how_many_numbers : (k n : ℕ) → length (numbers_from k n) ≡ n
how_many_numbers k zero = refl
how_many_numbers k (suc n) = ap suc (how_many_numbers (suc k) n)

-- a table stands in the order of the walk over conditions
abbrev pub IsWalked : List Row → List ℕ → Type 0
IsWalked rows ids = left_after_all rows [] ids ≡ numbers_from 2 (length rows)

module _ (features : ℕ) (rows others : List Row) (first : IsReduced features rows) (second : IsReduced features others) where
  module _ (numbers : Paired (Pair features rows others first second) (numbers_from 2 (length rows)) (numbers_from 2 (length others))) where
    same_length : length rows ≡ length others
    same_length = sym (how_many_numbers 2 (length rows)) ∙ paired_length _ _ _ numbers ∙ how_many_numbers 2 (length others)

    -- each identifier is its own partner
    own_partner : (i : ℕ) → IsWithin rows i → Alike features rows others i i
    own_partner i within = go (end_or_row rows i within)
      where
        go : (i < 2) ⊎ IsRow rows i → Alike features rows others i i
        go (inl l) = λ w e. value_end rows w i l ∙ sym (value_end others w i l)
        go (inr x) = subst (λ j. Alike features rows others j j) (omega (arith, x.is)) at_place.alike
          where
            at_place : Pair features rows others first second (2 + x.place) (2 + x.place)
            at_place = paired_at _ _ _ numbers x.place (2 + x.place) (2 + x.place)
                (number_at 2 (length rows) x.place (omega (arith, x.is, within))) (number_at 2 (length others) x.place (omega (arith, x.is, within, same_length)))

    within_both : (i : ℕ) → IsWithin rows i → IsWithin others i
    within_both i l = omega (arith, l, same_length)

    -- so paired identifiers are equal
    partner_is : (i j : ℕ) → Pair features rows others first second i j → i ≡ j
    partner_is i j p = canonical features others second i j (within_both i p.within) p.there (λ w l. sym (own_partner i p.within w l) ∙ p.alike w l)

    rows_equal : rows ≡ others
    rows_equal = paired_equal (λ x y. x ≡ y) (λ x y e. e) rows others (paired_by_place (λ x y. x ≡ y) rows others same_length row_equal)
      where
        row_equal : (r : ℕ) (x y : Row) → slice_get rows r ≡ Some x → slice_get others r ≡ Some y → x ≡ y
        row_equal r x y e f = go (matching features rows others first second (suc (suc r)) (suc (suc r)) within (within_both _ within) (own_partner _ within))
          where
            within : IsWithin rows (suc (suc r))
            within = omega (arith, slice_get_within rows r x e)

            pair : Pair features rows others first second (suc (suc r)) (suc (suc r))
            pair = record { within = within; there = within_both _ within; alike = own_partner _ within }

            here : (xs : List Row) (z : Row) (s : ℕ) (u : Row) → suc (suc r) ≡ suc (suc s) → slice_get xs r ≡ Some z → slice_get xs s ≡ Some u → z ≡ u
            here xs z s u a b c = some_is (sym b ∙ ap (slice_get xs) (omega (arith, a)) ∙ c)
              where
                some_is : Some z ≡ Some u → z ≡ u
                some_is e = cc

            go : Matching features rows others (suc (suc r)) (suc (suc r)) → x ≡ y
            go (same_end small g) = absurd (omega (arith, small))
            go (same_row a b v low high) =
                here rows x a.place a.row a.is e a.stands
                ∙ row_same a.row b.row v
                (partner_is _ _ (low_pair features rows others first second _ _ pair a b low))
                (partner_is _ _ (high_pair features rows others first second _ _ pair a b high))
                ∙ sym (here others y b.place b.row b.is f b.stands)

  -- two tables, each in the order of a walk over its conditions, are one where the conditions have the same functions; and then these are one
  pub record AreOne : Type 0 where
    pub tables : rows ≡ others
    pub identifiers : (i j : ℕ) → Pair features rows others first second i j → i ≡ j

  pub walked_tables_are_one : (ids partners : List ℕ) → Paired (Pair features rows others first second) ids partners → IsWalked rows ids → IsWalked others partners → AreOne
  walked_tables_are_one ids partners h walk other_walk = record { tables = rows_equal numbers; identifiers = partner_is numbers }
    where
      numbers : Paired (Pair features rows others first second) (numbers_from 2 (length rows)) (numbers_from 2 (length others))
      numbers = rw (sym walk, sym other_walk) (walks_all features rows others first second ids partners [] [] h tt)
