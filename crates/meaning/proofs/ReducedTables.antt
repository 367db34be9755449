-- Tables in which no row is idle and none stands twice: identifiers with one function are one identifier.
use Rattle.std.proofs.Common.{◌≡◌, ◌≢◌, ℕ, zero, suc, ◌+◌, ◌<◌, ◌≤◌, List, [], ◌∷◌, length, Bool, true, false, ◌==◌, Some, Option, refl, sym, ap, ◌∙◌, arith, ◌⊎◌, inl, inr}
use Rattle.std.specs.Prelude.{cond, unwrap_or, option_map}
use Rattle.std.specs.List.{slice_get}
use Rattle.std.proofs.lemmas.Bool.{cases_lt}
use Rattle.std.proofs.lemmas.Bool.Decides.{nat_tests}
use Rattle.meaning.specs.Texts.{holds_at}
use Rattle.meaning.specs.CaseFiles.{Row}
use Rattle.meaning.specs.CaseReading.{variable_after}
use Rattle.meaning.proofs.TableValues.{value, value_end, value_row}

-- ---- a world with one truth value changed

pub put : List Bool → ℕ → Bool → List Bool
put [] v b = []
put (c ∷ w) zero b = b ∷ w
put (c ∷ w) (suc v) b = c ∷ put w v b

pub put_length : (w : List Bool) (v : ℕ) (b : Bool) → length (put w v b) ≡ length w
unfolding put
put_length [] v b = refl
put_length (c ∷ w) zero b = refl
put_length (c ∷ w) (suc v) b = ap suc (put_length w v b)

pub put_here : (w : List Bool) (v : ℕ) (b : Bool) → v < length w → holds_at (put w v b) v ≡ b
unfolding put
put_here [] v b l = absurd (omega (arith, l))
put_here (c ∷ w) zero b l = refl
put_here (c ∷ w) (suc v) b l = put_here w v b (omega (arith, l))

pub put_elsewhere : (w : List Bool) (v u : ℕ) (b : Bool) → v ≢ u → holds_at (put w v b) u ≡ holds_at w u
unfolding put
put_elsewhere [] v u b d = refl
put_elsewhere (c ∷ w) zero zero b d = elim (d refl) [ ]
put_elsewhere (c ∷ w) zero (suc u) b d = refl
put_elsewhere (c ∷ w) (suc v) zero b d = refl
put_elsewhere (c ∷ w) (suc v) (suc u) b d = put_elsewhere w v u b (λ e. d (ap suc e))

pub some_world : ℕ → List Bool
some_world zero = []
some_world (suc n) = false ∷ some_world n

pub some_world_length : (n : ℕ) → length (some_world n) ≡ n
unfolding some_world
some_world_length zero = refl
some_world_length (suc n) = ap suc (some_world_length n)

-- ---- reduced tables

-- a row of a table over so many features, in its place: its children are earlier identifiers with later variables, and differ
pub record Fits (features : ℕ) (rows : List Row) (r : ℕ) (row : Row) : Type 0 where
  pub variable : row.variable < features
  pub low : row.low < r + 2
  pub high : row.high < r + 2
  pub low_later : row.variable < variable_after rows features row.low
  pub high_later : row.variable < variable_after rows features row.high
  pub differ : row.low ≢ row.high

pub record IsReduced (features : ℕ) (rows : List Row) : Type 0 where
  pub fits : (r : ℕ) (row : Row) → slice_get rows r ≡ Some row → Fits features rows r row
  pub once : (r s : ℕ) (row : Row) → slice_get rows r ≡ Some row → slice_get rows s ≡ Some row → r ≡ s

abbrev pub IsWithin : List Row → ℕ → Type 0
IsWithin rows id = id < length rows + 2

-- the first variable that an identifier tells apart; past all where it is an end
pub variable_of : List Row → ℕ → ℕ → ℕ
variable_of rows features id = variable_after rows features id

-- an identifier is an end or that of a row
pub record IsRow (rows : List Row) (id : ℕ) : Type 0 where
  pub place : ℕ
  pub row : Row
  pub is : id ≡ suc (suc place)
  pub stands : slice_get rows place ≡ Some row

pub slice_there : {A : Type 0} (xs : List A) (i : ℕ) → i < length xs → (x : A) × (slice_get xs i ≡ Some x)
slice_there [] i l = absurd (omega (arith, l))
slice_there (x ∷ xs) zero l = (x, refl)
slice_there (x ∷ xs) (suc i) l = slice_there xs i (omega (arith, l))

pub end_or_row : (rows : List Row) (id : ℕ) → IsWithin rows id → (id < 2) ⊎ IsRow rows id
end_or_row rows zero l = inl (omega arith)
end_or_row rows (suc zero) l = inl (omega arith)
end_or_row rows (suc (suc r)) l =
    let s : (x : Row) × (slice_get rows r ≡ Some x) = slice_there rows r (omega (arith, l)) in
    inr (record { place = r; row = s.0; is = refl; stands = s.1 })

module _ (features : ℕ) (rows : List Row) where
  pub variable_of_end : (id : ℕ) → id < 2 → variable_of rows features id ≡ features
  unfolding variable_of
  variable_of_end zero l = refl
  variable_of_end (suc zero) l = refl
  variable_of_end (suc (suc r)) l = absurd (omega (arith, l))

  pub variable_of_row : (id : ℕ) (x : IsRow rows id) → variable_of rows features id ≡ x.row.variable
  unfolding variable_of
  variable_of_row id x = ap (variable_after rows features) x.is ∙ go (slice_get rows x.place) x.stands
    where
      go : (o : Option Row) → o ≡ Some x.row → unwrap_or (option_map (λ y. y.variable) o) features ≡ x.row.variable
      go o e = ap (λ o. unwrap_or (option_map (λ y. y.variable) o) features) e

  module _ (reduced : IsReduced features rows) where
    -- what a row tells of its identifier
    pub record Inner (id : ℕ) : Type 0 where
      pub variable : ℕ
      pub low : ℕ
      pub high : ℕ
      pub within : variable < features
      pub low_below : low < id
      pub high_below : high < id
      pub low_later : variable < variable_of rows features low
      pub high_later : variable < variable_of rows features high
      pub differ : low ≢ high
      pub first : variable_of rows features id ≡ variable
      pub value_is : (w : List Bool) → value rows w id ≡ value rows w (cond (holds_at w variable) high low)

    pub inner_of : (id : ℕ) (x : IsRow rows id) → Inner id
    unfolding variable_of
    inner_of id x = record {
      variable = x.row.variable;
      low = x.row.low;
      high = x.row.high;
      within = fits.variable;
      low_below = omega (arith, fits.low, x.is);
      high_below = omega (arith, fits.high, x.is);
      low_later = fits.low_later;
      high_later = fits.high_later;
      differ = fits.differ;
      first = variable_of_row id x;
      value_is = λ w. ap (value rows w) x.is ∙ value_row rows x.place x.row w x.stands fits.low fits.high;
    }
      where
        fits : Fits features rows x.place x.row
        fits = reduced.fits x.place x.row x.stands

    -- variables before the first don't count
    unmoved_below : (bound id : ℕ) → id < bound → IsWithin rows id → (v : ℕ) → v < variable_of rows features id
        → (w : List Bool) (b : Bool) → value rows (put w v b) id ≡ value rows w id
    unmoved_below zero id l within v before w b = absurd (omega (arith, l))
    unmoved_below (suc bound) id l within v before w b =
        go (λ c less later. unmoved_below bound c (omega (arith, l, less)) (omega (arith, within, less)) v later w b) (end_or_row rows id within)
      where
        go : ((c : ℕ) → c < id → v < variable_of rows features c → value rows (put w v b) c ≡ value rows w c)
            → (id < 2) ⊎ IsRow rows id → value rows (put w v b) id ≡ value rows w id
        go below (inl end) = value_end rows (put w v b) id end ∙ sym (value_end rows w id end)
        go below (inr x) =
            i.value_is (put w v b)
            ∙ ap (λ c. value rows (put w v b) (cond c i.high i.low)) (put_elsewhere w v i.variable b (λ e. omega (arith, e, before, i.first)))
            ∙ child (holds_at w i.variable) ∙ sym (i.value_is w)
          where
            i : Inner id
            i = inner_of id x

            child : (c : Bool) → value rows (put w v b) (cond c i.high i.low) ≡ value rows w (cond c i.high i.low)
            child true = below i.high i.high_below (omega (arith, before, i.first, i.high_later))
            child false = below i.low i.low_below (omega (arith, before, i.first, i.low_later))

    pub unmoved : (id : ℕ) → IsWithin rows id → (v : ℕ) → v < variable_of rows features id
        → (w : List Bool) (b : Bool) → value rows (put w v b) id ≡ value rows w id
    unmoved id within v before w b = unmoved_below (suc id) id (omega arith) within v before w b

    -- a row's identifier with its variable false is its low, and with it true its high
    pub child_at : (id : ℕ) → IsWithin rows id → (i : Inner id) (b : Bool) (w : List Bool) → length w ≡ features
        → value rows (put w i.variable b) id ≡ value rows w (cond b i.high i.low)
    child_at id within i b w l =
        i.value_is (put w i.variable b)
        ∙ ap (λ c. value rows (put w i.variable b) (cond c i.high i.low)) (put_here w i.variable b (omega (arith, l, i.within)))
        ∙ child b
      where
        child : (c : Bool) → value rows (put w i.variable b) (cond c i.high i.low) ≡ value rows w (cond c i.high i.low)
        child true = unmoved i.high (omega (arith, within, i.high_below)) i.variable i.high_later w b
        child false = unmoved i.low (omega (arith, within, i.low_below)) i.variable i.low_later w b

-- ---- identifiers of two tables with one function

abbrev pub Alike : ℕ → List Row → List Row → ℕ → ℕ → Type 0
Alike features rows others i j = (w : List Bool) → length w ≡ features → value rows w i ≡ value others w j

pub alike_back : (features : ℕ) (rows others : List Row) (i j : ℕ) → Alike features rows others i j → Alike features others rows j i
alike_back features rows others i j h w l = sym (h w l)

-- two ends of one value are one end
pub ends_same : (features : ℕ) (rows others : List Row) (i j : ℕ) → i < 2 → j < 2 → Alike features rows others i j → i ≡ j
ends_same features rows others i j a b h = same i j a b (sym (value_end rows w i a) ∙ h w (some_world_length features) ∙ value_end others w j b)
  where
    w : List Bool
    w = some_world features

    same : (i j : ℕ) → i < 2 → j < 2 → (i == 1) ≡ (j == 1) → i ≡ j
    same i j a b e = grind (arith, nat_tests)

module _ (features : ℕ) (rows others : List Row) (first : IsReduced features rows) (second : IsReduced features others) where
  -- where the other tells only later variables apart, both children have its function
  pub child_alike : (i j : ℕ) → IsWithin rows i → IsWithin others j → (x : Inner features rows first i) → x.variable < variable_of others features j
      → Alike features rows others i j → (b : Bool) → Alike features rows others (cond b x.high x.low) j
  child_alike i j within there x later h b w l =
      sym (child_at features rows first i within x b w l)
      ∙ h (put w x.variable b) (put_length w x.variable b ∙ l)
      ∙ unmoved features others second j there x.variable later w b

  -- where both begin with one variable, their children have one function
  pub children_alike : (i j : ℕ) → IsWithin rows i → IsWithin others j → (x : Inner features rows first i) (y : Inner features others second j)
      → x.variable ≡ y.variable → Alike features rows others i j → (b : Bool) → Alike features rows others (cond b x.high x.low) (cond b y.high y.low)
  children_alike i j within there x y same h b w l =
      sym (child_at features rows first i within x b w l)
      ∙ h (put w x.variable b) (put_length w x.variable b ∙ l)
      ∙ ap (λ v. value others (put w v b) j) same
      ∙ child_at features others second j there y b w l

  -- both are one end; or rows of one variable with like children; or one has two children like the other
  pub data Meeting (i j : ℕ) : Type 0 where
    ends : i < 2 → i ≡ j → Meeting i j
    both_rows : (x : IsRow rows i) (y : IsRow others j) → x.row.variable ≡ y.row.variable
        → Alike features rows others x.row.low y.row.low → Alike features rows others x.row.high y.row.high → Meeting i j
    first_idle : (x : IsRow rows i) → Alike features rows others x.row.low j → Alike features rows others x.row.high j → Meeting i j
    second_idle : (y : IsRow others j) → Alike features rows others i y.row.low → Alike features rows others i y.row.high → Meeting i j

  first_earlier : (i j : ℕ) → IsWithin rows i → IsWithin others j → Alike features rows others i j → (x : IsRow rows i)
      → x.row.variable < variable_of others features j → Meeting i j
  unfolding inner_of
  first_earlier i j within there h x later =
      first_idle x
      (child_alike i j within there (inner_of features rows first i x) later h false)
      (child_alike i j within there (inner_of features rows first i x) later h true)

  both_at_once : (i j : ℕ) → IsWithin rows i → IsWithin others j → Alike features rows others i j → (x : IsRow rows i) (y : IsRow others j)
      → x.row.variable ≡ y.row.variable → Meeting i j
  unfolding inner_of
  both_at_once i j within there h x y same =
      both_rows x y same
      (children_alike i j within there (inner_of features rows first i x) (inner_of features others second j y) same h false)
      (children_alike i j within there (inner_of features rows first i x) (inner_of features others second j y) same h true)

module _ (features : ℕ) (rows others : List Row) (first : IsReduced features rows) (second : IsReduced features others) where
  meet_rows : (i j : ℕ) → IsWithin rows i → IsWithin others j → Alike features rows others i j
      → (x : IsRow rows i) (y : IsRow others j) → Meeting features rows others first second i j
  meet_rows i j within there h x y = go (cases_lt x.row.variable y.row.variable) (cases_lt y.row.variable x.row.variable)
    where
      turned : Meeting features others rows second first j i → Meeting features rows others first second i j
      turned (ends l e) = ends (omega (arith, l, e)) (sym e)
      turned (both_rows y x e a b) = both_rows x y (sym e) (alike_back features others rows _ _ a) (alike_back features others rows _ _ b)
      turned (first_idle y a b) = second_idle y (alike_back features others rows _ _ a) (alike_back features others rows _ _ b)
      turned (second_idle x a b) = first_idle x (alike_back features others rows _ _ a) (alike_back features others rows _ _ b)

      go : (x.row.variable < y.row.variable) ⊎ (y.row.variable ≤ x.row.variable) → (y.row.variable < x.row.variable) ⊎ (x.row.variable ≤ y.row.variable)
          → Meeting features rows others first second i j
      go (inl l) _ = first_earlier features rows others first second i j within there h x (omega (arith, l, variable_of_row features others j y))
      go (inr l) (inl k) =
          turned (first_earlier features others rows second first j i there within (alike_back features rows others i j h) y (omega (arith, k, variable_of_row features rows i x)))
      go (inr l) (inr k) = both_at_once features rows others first second i j within there h x y (omega (arith, l, k))

  -- every two of one function meet in one of these ways
  pub meet : (i j : ℕ) → IsWithin rows i → IsWithin others j → Alike features rows others i j → Meeting features rows others first second i j
  unfolding inner_of
  meet i j within there h = go (end_or_row rows i within) (end_or_row others j there)
    where
      back : Alike features others rows j i
      back = alike_back features rows others i j h

      go : (i < 2) ⊎ IsRow rows i → (j < 2) ⊎ IsRow others j → Meeting features rows others first second i j
      go (inl a) (inl b) = ends a (ends_same features rows others i j a b h)
      go (inr x) (inr y) = meet_rows i j within there h x y
      go (inr x) (inl b) =
          first_earlier features rows others first second i j within there h x
          (omega (arith, variable_of_end features others j b, (first.fits x.place x.row x.stands).variable))
      go (inl a) (inr y) = second_idle y (alike_back features others rows _ _ low) (alike_back features others rows _ _ high)
        where
          later : y.row.variable < variable_of rows features i
          later = omega (arith, variable_of_end features rows i a, (second.fits y.place y.row y.stands).variable)

          low : Alike features others rows y.row.low i
          low = child_alike features others rows second first j i there within (inner_of features others second j y) later back false

          high : Alike features others rows y.row.high i
          high = child_alike features others rows second first j i there within (inner_of features others second j y) later back true
