-- What a product tells of an element and of a constraint.
use Rattle.std.proofs.Common.{◌≡◌, ◌∙◌, refl, sym, ap, subst, ℕ, zero, suc, ◌+◌, ◌<◌, ◌≤◌, List, [], ◌∷◌, ◌++◌, length, map, take, get_or, Bool, true, false, cond, Option, Some, None, arith}
use Rattle.std.specs.Prelude.{◌&&◌, ◌==◌, not, filter, find, option_map, option_and_then, unwrap_or, bytes_eq}
use Rattle.std.specs.List.{enumerate_from, slice_get, list_all}
use Rattle.std.proofs.lemmas.Bool.{false≢true, eq-eqb, ne_eqb}
use Rattle.meaning.specs.Texts.{numbered}
use Rattle.meaning.specs.Expressions.{truth}
use Rattle.meaning.specs.Models.{Model, PlainModel, Element, has_element, model_at, attribute_at}
use Rattle.meaning.specs.Queries.{Query, Constraint, meets, alike, element_of_variable}
use Rattle.path_queries.specs.Searching.{value_at, meets_number}

-- ---- the attribute of an element that may be absent

not_found : (x : List Bool) (i n : ℕ) (es : List Element) → n < i → find (λ p. p.0 == n) (filter (λ y. truth y.1.presence x) (enumerate_from i es)) ≡ None
not_found x i n [] before = refl
not_found x i n (e ∷ es) before = go (truth e.presence x) (not_found x (i + 1) n es (omega (arith, before)))
  where
    go : (b : Bool) → find (λ p. p.0 == n) (filter (λ y. truth y.1.presence x) (enumerate_from (i + 1) es)) ≡ None
        → find (λ p. p.0 == n) (cond b ((i, e) ∷ filter (λ y. truth y.1.presence x) (enumerate_from (i + 1) es)) (filter (λ y. truth y.1.presence x) (enumerate_from (i + 1) es))) ≡ None
    go true h = ap (λ b. cond b (Some (i, e)) (find (λ p. p.0 == n) (filter (λ y. truth y.1.presence x) (enumerate_from (i + 1) es)))) (ne_eqb i n (λ same. omega (arith, before, same))) ∙ h
    go false h = h

element_found : (x : List Bool) (i k n : ℕ) (es : List Element) → n ≡ i + k
    → option_map (λ p. p.1) (find (λ p. p.0 == n) (filter (λ y. truth y.1.presence x) (enumerate_from i es))) ≡ cond (has_element es x k) (slice_get es k) None
element_found x i k n [] is = refl
element_found x i zero n (e ∷ es) is = go (truth e.presence x)
  where
    go : (b : Bool) → option_map (λ p. p.1) (find (λ p. p.0 == n) (cond b ((i, e) ∷ filter (λ y. truth y.1.presence x) (enumerate_from (i + 1) es)) (filter (λ y. truth y.1.presence x) (enumerate_from (i + 1) es)))) ≡ cond b (Some e) None
    go true =
        let same : i ≡ n = omega (arith, is) in
        ap (λ b. option_map (λ p. p.1) (cond b (Some (i, e)) (find (λ p. p.0 == n) (filter (λ y. truth y.1.presence x) (enumerate_from (i + 1) es))))) (eq-eqb i n same)
    go false = ap (option_map (λ p. p.1)) (not_found x (i + 1) n es (omega (arith, is)))
element_found x i (suc k) n (e ∷ es) is = go (truth e.presence x) (element_found x (i + 1) k n es (omega (arith, is)))
  where
    go : (b : Bool) → option_map (λ p. p.1) (find (λ p. p.0 == n) (filter (λ y. truth y.1.presence x) (enumerate_from (i + 1) es))) ≡ cond (has_element es x k) (slice_get es k) None
        → option_map (λ p. p.1) (find (λ p. p.0 == n) (cond b ((i, e) ∷ filter (λ y. truth y.1.presence x) (enumerate_from (i + 1) es)) (filter (λ y. truth y.1.presence x) (enumerate_from (i + 1) es))))
        ≡ cond (has_element es x k) (slice_get es k) None
    go true h =
        ap (λ b. option_map (λ p. p.1) (cond b (Some (i, e)) (find (λ p. p.0 == n) (filter (λ y. truth y.1.presence x) (enumerate_from (i + 1) es))))) (ne_eqb i n (λ same. omega (arith, is, same))) ∙ h
    go false h = h

pub attribute_is : (m : Model) (x : List Bool) (e a : ℕ) → attribute_at (model_at m x) e a ≡ cond (has_element m.elements x e) (value_at m e a) []
unfolding model_at
attribute_is m x e a =
    ap (λ o. unwrap_or (option_and_then (λ y. slice_get y.attributes a) o) []) (element_found x 0 e e m.elements (omega arith)) ∙ go (has_element m.elements x e)
  where
    go : (b : Bool) → unwrap_or (option_and_then (λ y. slice_get y.attributes a) (cond b (slice_get m.elements e) None)) [] ≡ cond b (value_at m e a) []
    go true = refl
    go false = refl

-- ---- the cases of a test of an attribute

-- whether the value agrees with the text, where the element is there or not
agreement : (there : Bool) (value text : List ℕ) (equal : Bool) → alike equal (bytes_eq (cond there value []) text) ≡ cond there (alike equal (bytes_eq value text)) (alike equal (bytes_eq [] text))
agreement true value text equal = refl
agreement false value text equal = refl

module _ (m : Model) (x : List Bool) (e a : ℕ) (text : List ℕ) (equal : Bool) where
  told : alike equal (bytes_eq (attribute_at (model_at m x) e a) text) ≡ cond (has_element m.elements x e) (alike equal (bytes_eq (value_at m e a) text)) (alike equal (bytes_eq [] text))
  told = ap (λ v. alike equal (bytes_eq v text)) (attribute_is m x e a) ∙ agreement (has_element m.elements x e) (value_at m e a) text equal

  pub told_absent : (u : Bool) → has_element m.elements x e ≡ false → (u && alike equal (bytes_eq [] text)) ≡ (u && alike equal (bytes_eq (attribute_at (model_at m x) e a) text))
  told_absent u absent = ap (λ b. u && b) (sym (told ∙ ap (λ b. cond b (alike equal (bytes_eq (value_at m e a) text)) (alike equal (bytes_eq [] text))) absent))

  pub told_alike : (u : Bool) → alike equal (bytes_eq (value_at m e a) text) ≡ alike equal (bytes_eq [] text) → (u && alike equal (bytes_eq [] text)) ≡ (u && alike equal (bytes_eq (attribute_at (model_at m x) e a) text))
  told_alike u same =
      ap (λ b. u && b) (sym (told ∙ ap (λ b. cond (has_element m.elements x e) b (alike equal (bytes_eq [] text))) same ∙ either (has_element m.elements x e) (alike equal (bytes_eq [] text))))
    where
      either : (b c : Bool) → cond b c c ≡ c
      either true c = refl
      either false c = refl

  pub told_there : (u : Bool) → alike equal (bytes_eq (value_at m e a) text) ≡ true → alike equal (bytes_eq [] text) ≡ false
      → (u && has_element m.elements x e) ≡ (u && alike equal (bytes_eq (attribute_at (model_at m x) e a) text))
  told_there u agreed differing =
      ap (λ b. u && b) (sym (told ∙ ap (λ b. cond (has_element m.elements x e) b (alike equal (bytes_eq [] text))) agreed ∙ ap (λ b. cond (has_element m.elements x e) true b) differing ∙ itself (has_element m.elements x e)))
    where
      itself : (b : Bool) → cond b true false ≡ b
      itself true = refl
      itself false = refl

  pub told_away : (u : Bool) → alike equal (bytes_eq (value_at m e a) text) ≡ false → alike equal (bytes_eq [] text) ≡ true
      → (u && not (has_element m.elements x e)) ≡ (u && alike equal (bytes_eq (attribute_at (model_at m x) e a) text))
  told_away u differing agreed =
      ap (λ b. u && b) (sym (told ∙ ap (λ b. cond (has_element m.elements x e) b (alike equal (bytes_eq [] text))) differing ∙ ap (λ b. cond (has_element m.elements x e) false b) agreed ∙ turned (has_element m.elements x e)))
    where
      turned : (b : Bool) → cond b false true ≡ not b
      turned true = refl
      turned false = refl

-- an element past the end is nowhere
pub past_elements : (es : List Element) (x : List Bool) (e : ℕ) → length es ≤ e → has_element es x e ≡ false
past_elements [] x e past = refl
past_elements (y ∷ es) x zero past = absurd (omega (arith, past))
past_elements (y ∷ es) x (suc e) past = past_elements es x e (omega (arith, past))

-- ---- variables and constraints by their numbers

pub variable_is : (es : List ℕ) (v : ℕ) → element_of_variable es v ≡ get_or es v 0
variable_is [] v = refl
variable_is (e ∷ es) zero = refl
variable_is (e ∷ es) (suc v) = variable_is es v

pub meets_more : (m : PlainModel) (q : Query) (es : List ℕ) (k : ℕ) → k < length q.constraints
    → list_all (meets m es) (take (k + 1) q.constraints) ≡ (list_all (meets m es) (take k q.constraints) && meets_number m q es k)
meets_more m q es k below = ap (λ n. list_all (meets m es) (take n q.constraints)) (one_more k) ∙ go q.constraints k below
  where
    one_more : (n : ℕ) → n + 1 ≡ suc n
    one_more n = omega arith

    and_true : (b : Bool) → (b && true) ≡ b
    and_true true = refl
    and_true false = refl

    and_assoc : (a b c : Bool) → (a && (b && c)) ≡ ((a && b) && c)
    and_assoc true b c = refl
    and_assoc false b c = refl

    go : (cs : List Constraint) (n : ℕ) → n < length cs → list_all (meets m es) (take (suc n) cs) ≡ (list_all (meets m es) (take n cs) && unwrap_or (option_map (meets m es) (slice_get cs n)) true)
    go [] n below = absurd (omega (arith, below))
    go (c ∷ cs) zero below = and_true (meets m es c)
    go (c ∷ cs) (suc n) below = ap (λ b. meets m es c && b) (go cs n (omega (arith, below))) ∙ and_assoc (meets m es c) (list_all (meets m es) (take n cs)) (unwrap_or (option_map (meets m es) (slice_get cs n)) true)
