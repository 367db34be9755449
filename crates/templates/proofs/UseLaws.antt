-- A use, by the names and the parameters that were read, is right where the rule says so.
use Rattle.std.proofs.Common.{◌≡◌, ◌≢◌, refl, sym, ap, ◌∙◌, subst, ℕ, zero, suc, ◌+◌, ◌<◌, ◌≤◌, List, [], ◌∷◌, length, map, take, drop, get_or, Bool, true, false, Option, Some, None, arith}
use Rattle.std.specs.Prelude.{◌&&◌, codes, bytes_eq, option_map, option_and_then, if◌then◌else◌}
use Rattle.std.specs.List.{slice_get}
use Rattle.std.proofs.lemmas.List.{take-map, length-map, drop_more, drop_all}
use Rattle.meaning.specs.Texts.{place_of}
use Rattle.meaning.specs.Documents.{Document, text_at, list_at, texts_in}
use Rattle.meaning.specs.Models.{Model, is_a}
use Rattle.meaning.specs.QueryTexts.{Scope, type_number}
use Rattle.meaning.specs.BundlePlaces.{name_in}
use Rattle.meaning.specs.ModelRules.{label_text}
use Rattle.meaning.specs.TemplateRules.{holds_for_some, type_of_variable, arguments_fit, earlier_template}
use Rattle.doc_tree.specs.declared.doc.Doc.{Doc}
use Rattle.doc_tree.specs.View.{document, documents}
use Rattle.templates.specs.ListRules.{types_named, types_known}
use Rattle.templates.specs.NodeRules.{seeing}
use Rattle.templates.specs.UseReads.{fits_type, all_fit}

-- ---- places in the front of a list

pub place_before : (s : List ℕ) (xs : List (List ℕ)) (n p : ℕ) → place_of s xs ≡ Some p → p < n → place_of s (take n xs) ≡ Some p
place_before s [] n p e l = absurd cc
place_before s (x ∷ xs) zero p e l = absurd (omega arith)
place_before s (x ∷ xs) (suc n) p e l = go (bytes_eq s x) (place_of s xs) (place_before s xs n) p e l
  where
    go : (b : Bool) (o : Option ℕ) → ((q : ℕ) → o ≡ Some q → q < n → place_of s (take n xs) ≡ Some q) → (p : ℕ) → (if b then Some 0 else option_map suc o) ≡ Some p → p < suc n
        → (if b then Some 0 else option_map suc (place_of s (take n xs))) ≡ Some p
    go true o later p e l = e
    go false None later p e l = absurd cc
    go false (Some q) later p e l = let next : suc q ≡ p = cc in ap (option_map suc) (later q refl (omega arith)) ∙ ap Some next

pub place_not_before : (s : List ℕ) (xs : List (List ℕ)) (n p : ℕ) → place_of s xs ≡ Some p → n ≤ p → place_of s (take n xs) ≡ None
place_not_before s [] n p e l = absurd cc
place_not_before s (x ∷ xs) zero p e l = refl
place_not_before s (x ∷ xs) (suc n) p e l = go (bytes_eq s x) (place_of s xs) (place_not_before s xs n) p e l
  where
    go : (b : Bool) (o : Option ℕ) → ((q : ℕ) → o ≡ Some q → n ≤ q → place_of s (take n xs) ≡ None) → (p : ℕ) → (if b then Some 0 else option_map suc o) ≡ Some p → suc n ≤ p
        → (if b then Some 0 else option_map suc (place_of s (take n xs))) ≡ None
    go true o later p e l = let zero_is : 0 ≡ p = cc in absurd (omega arith)
    go false None later p e l = absurd cc
    go false (Some q) later p e l = let next : suc q ≡ p = cc in ap (option_map suc) (later q refl (omega arith))

pub place_nowhere_before : (s : List ℕ) (xs : List (List ℕ)) (n : ℕ) → place_of s xs ≡ None → place_of s (take n xs) ≡ None
place_nowhere_before s [] zero e = refl
place_nowhere_before s [] (suc n) e = refl
place_nowhere_before s (x ∷ xs) zero e = refl
place_nowhere_before s (x ∷ xs) (suc n) e = go (bytes_eq s x) (place_of s xs) (place_nowhere_before s xs n) e
  where
    go : (b : Bool) (o : Option ℕ) → (o ≡ None → place_of s (take n xs) ≡ None) → (if b then Some 0 else option_map suc o) ≡ None
        → (if b then Some 0 else option_map suc (place_of s (take n xs))) ≡ None
    go true o later e = absurd cc
    go false None later e = ap (option_map suc) (later refl)
    go false (Some q) later e = absurd cc

-- the place in the front is one in the whole list
pub place_behind : (s : List ℕ) (xs : List (List ℕ)) (n p : ℕ) → place_of s (take n xs) ≡ Some p → place_of s xs ≡ Some p
place_behind s xs zero p e = absurd cc
place_behind s [] (suc n) p e = absurd cc
place_behind s (x ∷ xs) (suc n) p e = go (bytes_eq s x) (place_of s (take n xs)) (place_behind s xs n) p e
  where
    go : (b : Bool) (o : Option ℕ) → ((q : ℕ) → o ≡ Some q → place_of s xs ≡ Some q) → (p : ℕ) → (if b then Some 0 else option_map suc o) ≡ Some p
        → (if b then Some 0 else option_map suc (place_of s xs)) ≡ Some p
    go true o later p e = e
    go false None later p e = absurd cc
    go false (Some q) later p e = ap (option_map suc) (later q refl) ∙ e

module _ {X : Type 0} where
  pub found_before : (xs : List X) (n i : ℕ) → i < n → slice_get (take n xs) i ≡ slice_get xs i
  found_before xs zero i l = absurd (omega arith)
  found_before [] (suc n) i l = refl
  found_before (x ∷ xs) (suc n) zero l = refl
  found_before (x ∷ xs) (suc n) (suc i) l = found_before xs n i (omega arith)

  pub found_item : (xs : List X) (i : ℕ) (x : X) → i < length xs → x ≡ get_or xs i x → slice_get xs i ≡ Some x
  found_item [] i x l is = absurd (omega arith)
  found_item (y ∷ ys) zero x l is = ap Some (sym is)
  found_item (y ∷ ys) (suc i) x l is = found_item ys i x (omega arith) is

  pub found_none : (xs : List X) (i : ℕ) → length xs ≤ i → slice_get xs i ≡ None
  found_none [] i l = refl
  found_none (y ∷ ys) zero l = absurd (omega arith)
  found_none (y ∷ ys) (suc i) l = found_none ys i (omega arith)

  pub found_mapped : {Y : Type 0} (f : X → Y) (xs : List X) (i : ℕ) → slice_get (map f xs) i ≡ option_map f (slice_get xs i)
  found_mapped f [] i = refl
  found_mapped f (x ∷ xs) zero = refl
  found_mapped f (x ∷ xs) (suc i) = found_mapped f xs i

-- ---- arguments

module _ (m : Model) (earlier : List Document) (scope : Scope) where
  pub fit_is : (xs : List (List ℕ)) (ps : List Document) (row : Scope) → types_named m ps ≡ types_known row
      → all_fit m scope xs (map (λ p. p.1) row) ≡ arguments_fit (seeing m earlier scope) 0 xs ps
  fit_is [] [] [] e = refl
  fit_is (x ∷ xs) [] [] e = refl
  fit_is xs [] (r ∷ rs) e = absurd cc
  fit_is xs (p ∷ ps) [] e = absurd cc
  fit_is [] (p ∷ ps) (r ∷ rs) e = refl
  fit_is (x ∷ xs) (p ∷ ps) (r ∷ rs) e =
      let first : type_number m (text_at (codes "type") p) ≡ Some r.1 = cc in
      let others : types_named m ps ≡ types_known rs = cc in
      ap (λ b. fits_type m scope x r.1 && b) (fit_is xs ps rs others)
      ∙ ap (λ o. holds_for_some (λ t. holds_for_some (is_a m.types t) o) (type_of_variable scope x) && arguments_fit (seeing m earlier scope) 0 xs ps) (sym first)

-- ---- arguments, one after another

module _ (m : Model) (scope : Scope) where
  falls_short : (b : Bool) → (b && false) ≡ false
  falls_short true = refl
  falls_short false = refl

  lengths_differ : (xs : List (List ℕ)) (ts : List ℕ) → length xs ≢ length ts → false ≡ all_fit m scope xs ts
  lengths_differ [] [] other = absurd (other refl)
  lengths_differ [] (t ∷ ts) other = refl
  lengths_differ (x ∷ xs) [] other = refl
  lengths_differ (x ∷ xs) (t ∷ ts) other =
      sym (falls_short (fits_type m scope x t)) ∙ ap (λ b. fits_type m scope x t && b) (lengths_differ xs ts (λ e. other (ap suc e)))

  module _ (arguments : List Doc) (parameters : Scope) where
    abbrev left : ℕ → Bool
    left n = all_fit m scope (texts_in (documents (drop n arguments))) (map (λ p. p.1) (drop n parameters))

    abbrev whole : Bool
    whole = all_fit m scope (texts_in (documents arguments)) (map (λ p. p.1) parameters)

    -- the arguments so far fit
    abbrev pub FitSoFar : ℕ → Type 0
    FitSoFar n = left n ≡ whole

    pub not_as_many : length arguments ≢ length parameters → false ≡ whole
    not_as_many other =
        lengths_differ (texts_in (documents arguments)) (map (λ p. p.1) parameters)
        (λ e. other (sym (length-map arguments document) ∙ (sym (length-map (documents arguments) label_text) ∙ (e ∙ length-map parameters (λ p. p.1)))))

    next : (n : ℕ) (argument : Doc) (parameter : List ℕ × ℕ) → n < length arguments → argument ≡ get_or arguments n argument → n < length parameters
        → parameter ≡ get_or parameters n parameter → left n ≡ (fits_type m scope (label_text (document argument)) parameter.1 && left (n + 1))
    next n argument parameter inside is among there =
        ap (λ xs. all_fit m scope (texts_in (documents xs)) (map (λ p. p.1) (drop n parameters))) (drop_more arguments n argument inside ∙ ap (λ x. x ∷ drop (n + 1) arguments) (sym is))
        ∙ ap (λ ps. all_fit m scope (texts_in (documents (argument ∷ drop (n + 1) arguments))) (map (λ p. p.1) ps))
        (drop_more parameters n parameter among ∙ ap (λ p. p ∷ drop (n + 1) parameters) (sym there))

    pub fits_on : (n : ℕ) (argument : Doc) (parameter : List ℕ × ℕ) → n < length arguments → argument ≡ get_or arguments n argument → n < length parameters
        → parameter ≡ get_or parameters n parameter → fits_type m scope (label_text (document argument)) parameter.1 ≡ true → FitSoFar n → FitSoFar (n + 1)
    fits_on n argument parameter inside is among there fits before =
        sym (next n argument parameter inside is among there ∙ ap (λ b. b && left (n + 1)) fits) ∙ before

    pub fits_not : (n : ℕ) (argument : Doc) (parameter : List ℕ × ℕ) → n < length arguments → argument ≡ get_or arguments n argument → n < length parameters
        → parameter ≡ get_or parameters n parameter → fits_type m scope (label_text (document argument)) parameter.1 ≡ false → FitSoFar n → false ≡ whole
    fits_not n argument parameter inside is among there misses before =
        sym (next n argument parameter inside is among there ∙ ap (λ b. b && left (n + 1)) misses) ∙ before

    pub fits_to_end : (n : ℕ) → length arguments ≤ n → length arguments ≡ length parameters → FitSoFar n → true ≡ whole
    fits_to_end n past many before =
        sym (ap (λ xs. all_fit m scope (texts_in (documents xs)) (map (λ p. p.1) (drop n parameters))) (drop_all n arguments past)
        ∙ ap (λ ps. all_fit m scope [] (map (λ p. p.1) ps)) (drop_all n parameters (omega arith))) ∙ before

-- ---- the template that is used

module _ (m : Model) (docs : List Doc) (names : List (List ℕ)) (rows : List Scope) (number : ℕ) (scope : Scope)
    (names_are : names ≡ map name_in (documents docs))
    (types : map (λ d. types_named m (list_at (codes "params") d)) (documents docs) ≡ map types_known rows)
    (s : List ℕ) (xs : List (List ℕ)) where
  abbrev earlier : List Document
  earlier = documents (take number docs)

  -- the arguments fit an earlier template of the name
  abbrev pub Fits : Bool
  Fits = holds_for_some (λ t. arguments_fit (seeing m earlier scope) 0 xs (list_at (codes "params") t)) (earlier_template (seeing m earlier scope) s)

  names_before : map name_in earlier ≡ take number names
  names_before =
      ap (map name_in) (sym (take-map document number docs)) ∙ (sym (take-map name_in number (documents docs)) ∙ ap (take number) (sym names_are))

  abbrev told : Option ℕ → Bool
  told o = holds_for_some (λ t. arguments_fit (seeing m earlier scope) 0 xs (list_at (codes "params") t)) (option_and_then (slice_get earlier) o)

  place_told : (o : Option ℕ) → place_of s (take number names) ≡ o → told o ≡ Fits
  place_told o is = ap told (sym is ∙ ap (place_of s) (sym names_before))

  pub uses_none : place_of s names ≡ None → false ≡ Fits
  uses_none e = place_told None (place_nowhere_before s names number e)

  pub uses_later : (p : ℕ) → place_of s names ≡ Some p → number ≤ p → false ≡ Fits
  uses_later p e l = place_told None (place_not_before s names number p e l)

  rows_there : (p : ℕ) → option_map (λ d. types_named m (list_at (codes "params") d)) (slice_get (documents docs) p) ≡ option_map types_known (slice_get rows p)
  rows_there p =
      sym (found_mapped (λ d. types_named m (list_at (codes "params") d)) (documents docs) p) ∙ (ap (λ ts. slice_get ts p) types ∙ found_mapped types_known rows p)

  earlier_is : (p : ℕ) → p < number → slice_get earlier p ≡ slice_get (documents docs) p
  earlier_is p l = ap (λ ds. slice_get ds p) (sym (take-map document number docs)) ∙ found_before (documents docs) number p l

  pub uses_there : (p : ℕ) (row : Scope) → place_of s names ≡ Some p → p < number → slice_get rows p ≡ Some row → all_fit m scope xs (map (λ r. r.1) row) ≡ Fits
  uses_there p row e l there = go (slice_get (documents docs) p) (earlier_is p l) (rows_there p ∙ ap (option_map types_known) there)
    where
      go : (o : Option Document) → slice_get earlier p ≡ o → option_map (λ d. types_named m (list_at (codes "params") d)) o ≡ Some (types_known row)
          → all_fit m scope xs (map (λ r. r.1) row) ≡ Fits
      go None is same = absurd cc
      go (Some d) is same =
          let equal : types_named m (list_at (codes "params") d) ≡ types_known row = cc in
          fit_is m earlier scope xs (list_at (codes "params") d) row equal
          ∙ (ap (holds_for_some (λ t. arguments_fit (seeing m earlier scope) 0 xs (list_at (codes "params") t))) (sym is)
          ∙ place_told (Some p) (place_before s names number p e l))

  pub uses_unread : (p : ℕ) → place_of s names ≡ Some p → p < number → slice_get rows p ≡ None → false ≡ Fits
  uses_unread p e l there = go (slice_get (documents docs) p) (earlier_is p l) (rows_there p ∙ ap (option_map types_known) there)
    where
      go : (o : Option Document) → slice_get earlier p ≡ o → option_map (λ d. types_named m (list_at (codes "params") d)) o ≡ None → false ≡ Fits
      go None is same =
          ap (holds_for_some (λ t. arguments_fit (seeing m earlier scope) 0 xs (list_at (codes "params") t))) (sym is) ∙ place_told (Some p) (place_before s names number p e l)
      go (Some d) is same = absurd cc
