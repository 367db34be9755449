-- In a reduced table two identifiers with one function are one, and in two such tables they are rows of one variable with like children.
use Rattle.std.proofs.Common.{◌≡◌, ℕ, zero, suc, ◌+◌, ◌<◌, List, Some, sym, ap, ◌∙◌, arith}
use Rattle.meaning.specs.CaseFiles.{Row}
use Rattle.meaning.proofs.ReducedTables.{IsReduced, Fits, IsWithin, IsRow, Alike, Meeting, ends, both_rows, first_idle, second_idle, meet}

pub row_same : (a b : Row) → a.variable ≡ b.variable → a.low ≡ b.low → a.high ≡ b.high → a ≡ b
row_same a b p q r = λ i. record { variable = p i; low = q i; high = r i }

module _ (features : ℕ) (rows : List Row) (reduced : IsReduced features rows) where
  fits_of : (i : ℕ) (x : IsRow rows i) → Fits features rows x.place x.row
  fits_of i x = reduced.fits x.place x.row x.stands

  low_within : (i : ℕ) → IsWithin rows i → (x : IsRow rows i) → IsWithin rows x.row.low
  low_within i within x = omega (arith, within, x.is, (fits_of i x).low)

  high_within : (i : ℕ) → IsWithin rows i → (x : IsRow rows i) → IsWithin rows x.row.high
  high_within i within x = omega (arith, within, x.is, (fits_of i x).high)

  -- rows with one variable and the same children are one row
  one_row : (i j : ℕ) (x : IsRow rows i) (y : IsRow rows j) → x.row ≡ y.row → i ≡ j
  one_row i j x y e = x.is ∙ ap (λ r. suc (suc r)) (reduced.once x.place y.place x.row x.stands (y.stands ∙ ap Some (sym e))) ∙ sym y.is

  canonical_below : (bound i j : ℕ) → i + j < bound → IsWithin rows i → IsWithin rows j → Alike features rows rows i j → i ≡ j
  canonical_below zero i j l a b h = absurd (omega (arith, l))
  canonical_below (suc bound) i j l a b h = go (λ c d less p q same. canonical_below bound c d (omega (arith, l, less)) p q same) (meet features rows rows reduced reduced i j a b h)
    where
      go : ((c d : ℕ) → c + d < i + j → IsWithin rows c → IsWithin rows d → Alike features rows rows c d → c ≡ d)
          → Meeting features rows rows reduced reduced i j → i ≡ j
      go below (ends small e) = e
      go below (both_rows x y v low high) =
          one_row i j x y
          (row_same x.row y.row v
          (below x.row.low y.row.low (omega (arith, x.is, y.is, (fits_of i x).low, (fits_of j y).low)) (low_within i a x) (low_within j b y) low)
          (below x.row.high y.row.high (omega (arith, x.is, y.is, (fits_of i x).high, (fits_of j y).high)) (high_within i a x) (high_within j b y) high))
      go below (first_idle x low high) =
          absurd ((fits_of i x).differ
          (below x.row.low j (omega (arith, x.is, (fits_of i x).low)) (low_within i a x) b low
          ∙ sym (below x.row.high j (omega (arith, x.is, (fits_of i x).high)) (high_within i a x) b high)))
      go below (second_idle y low high) =
          absurd ((fits_of j y).differ
          (sym (below i y.row.low (omega (arith, y.is, (fits_of j y).low)) a (low_within j b y) low)
          ∙ below i y.row.high (omega (arith, y.is, (fits_of j y).high)) a (high_within j b y) high))

  -- two identifiers with one function are one
  pub canonical : (i j : ℕ) → IsWithin rows i → IsWithin rows j → Alike features rows rows i j → i ≡ j
  canonical i j a b h = canonical_below (suc (i + j)) i j (omega arith) a b h

  pub children_within : (i : ℕ) → IsWithin rows i → (x : IsRow rows i) → IsWithin rows x.row.low × IsWithin rows x.row.high
  children_within i within x = (low_within i within x, high_within i within x)

  pub children_below : (i : ℕ) (x : IsRow rows i) → (x.row.low < i) × (x.row.high < i)
  children_below i x = (omega (arith, x.is, (fits_of i x).low), omega (arith, x.is, (fits_of i x).high))

  -- no row is idle: its children don't have the function of one identifier
  pub not_idle : (i : ℕ) → IsWithin rows i → (x : IsRow rows i) → Alike features rows rows x.row.low x.row.high → ⊥
  not_idle i within x h = (fits_of i x).differ (canonical x.row.low x.row.high (low_within i within x) (high_within i within x) h)

-- identifiers of two tables with one function: the same end, or rows of one variable with like children
pub data Matching (features : ℕ) (rows others : List Row) (i j : ℕ) : Type 0 where
  same_end : i < 2 → i ≡ j → Matching features rows others i j
  same_row : (x : IsRow rows i) (y : IsRow others j) → x.row.variable ≡ y.row.variable
      → Alike features rows others x.row.low y.row.low → Alike features rows others x.row.high y.row.high → Matching features rows others i j

pub matching : (features : ℕ) (rows others : List Row) → IsReduced features rows → IsReduced features others
    → (i j : ℕ) → IsWithin rows i → IsWithin others j → Alike features rows others i j → Matching features rows others i j
matching features rows others first second i j a b h = go (meet features rows others first second i j a b h)
  where
    go : Meeting features rows others first second i j → Matching features rows others i j
    go (ends small e) = same_end small e
    go (both_rows x y v low high) = same_row x y v low high
    go (first_idle x low high) = absurd (not_idle features rows first i a x (λ w l. low w l ∙ sym (high w l)))
    go (second_idle y low high) = absurd (not_idle features others second j b y (λ w l. sym (low w l) ∙ high w l))
