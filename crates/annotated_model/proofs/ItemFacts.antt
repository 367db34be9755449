-- What follows for the items of a list that break no rule.
use Rattle.std.proofs.Common.{◌≡◌, refl, sym, ap, ◌∙◌, subst, ℕ, ◌+◌, ◌<◌, List, [], ◌∷◌, ◌++◌, length, map, Bool, true, false, Option, Some, None}
use Rattle.std.specs.Prelude.{codes, option_and_then, unwrap_or, is_some, not, ◌&&◌}
use Rattle.std.specs.List.{AllByRecursion}
use Rattle.meaning.specs.Texts.{place_of, is_name}
use Rattle.meaning.specs.Documents.{Document, as_text, member_of, text_at}
use Rattle.meaning.specs.Models.{TypeDef, number_in}
use Rattle.meaning.specs.BundlePlaces.{Part, Broken, requires, faults_at, is_text_value, if_there, needs, name_in, is_among, text_of_member}
use Rattle.meaning.specs.LineRules.{is_within, expression_rules}
use Rattle.meaning.specs.ModelRules.{kind_has_form, element_has_form}
use Rattle.meaning.proofs.FirstFaults.{nothing_left}
use Rattle.meaning.proofs.NameTexts.{place_among}
use Rattle.annotated_model.specs.Items.{faults_after, named_form, texts_form, named_type, kind_broken, end_types_known, element_broken, element_form_broken, attributes_given}
use Rattle.annotated_model.proofs.TypeLaws.{where_formed_none, requires_none}

pub left_true : (a b : Bool) → (a && b) ≡ true → a ≡ true
left_true true b e = refl
left_true false b e = absurd cc

pub right_true : (a b : Bool) → (a && b) ≡ true → b ≡ true
right_true true b e = e
right_true false b e = absurd cc

pub named_form_first : (a b c d : Bool) → named_form a b c d ≡ [] → a ≡ true
named_form_first true b c d e = refl
named_form_first false b c d e = absurd cc

pub texts_form_first : (a b c d f : Bool) → texts_form a b c d f ≡ [] → a ≡ true
texts_form_first true b c d f e = refl
texts_form_first false b c d f e = absurd cc

-- ---- members that are texts

-- a text that is needed and there
pub needs_text : (k : List ℕ) (d : Document) → needs is_text_value k d ≡ true → text_of_member k d ≡ Some (text_at k d)
needs_text k d e = go (member_of k d) e
  where
    text_in : (v : Document) (o : Option (List ℕ)) → is_some o ≡ true → o ≡ Some (unwrap_or o [])
    text_in v None e = absurd cc
    text_in v (Some s) e = refl

    go : (o : Option Document) → (is_some o && if_there is_text_value o) ≡ true → option_and_then as_text o ≡ Some (unwrap_or (option_and_then as_text o) [])
    go None e = absurd cc
    go (Some v) e = text_in v (as_text v) e

-- what the member names is known, with its number
pub record IsNamed (names : List (List ℕ)) (k : List ℕ) (d : Document) : Type 0 where
  pub named : named_type names k d ≡ Some (number_in names (text_at k d))
  pub within : number_in names (text_at k d) < length names

pub is_named : (names : List (List ℕ)) (k : List ℕ) (d : Document) → needs is_text_value k d ≡ true → is_among names (text_at k d) ≡ true → IsNamed names k d
is_named names k d there known =
    let p = place_among names (text_at k d) known in
    let number : number_in names (text_at k d) ≡ p.0 = ap (λ o. unwrap_or o 0) p.1 in
    record {
      named = ap (option_and_then (λ s. place_of s names)) (needs_text k d there) ∙ p.1 ∙ ap Some (sym number);
      within = subst (λ n. n < length names) (sym number) p.2;
    }

-- ---- each item of a list

module _ {X : Type 0} where
  pub map_same : {Y : Type 0} (f g : X → Y) (xs : List X) → AllByRecursion (λ x. f x ≡ g x) xs → map f xs ≡ map g xs
  map_same f g [] h = refl
  map_same f g (x ∷ xs) h = ap (λ y. y ∷ map f xs) h.0 ∙ ap (λ ys. g x ∷ ys) (map_same f g xs h.1)

  pub weaker : (P Q : X → Type 0) → ((x : X) → P x → Q x) → (xs : List X) → AllByRecursion P xs → AllByRecursion Q xs
  weaker P Q f [] h = tt
  weaker P Q f (x ∷ xs) h = (f x h.0, weaker P Q f xs h.1)

  pub all_mapped : {Y : Type 0} (P : Y → Type 0) (f : X → Y) (xs : List X) → AllByRecursion (λ x. P (f x)) xs → AllByRecursion P (map f xs)
  all_mapped P f [] h = tt
  all_mapped P f (x ∷ xs) h = (h.0, all_mapped P f xs h.1)

  pub all_of_mapped : {Y : Type 0} (P : Y → Type 0) (f : X → Y) (xs : List X) → AllByRecursion P (map f xs) → AllByRecursion (λ x. P (f x)) xs
  all_of_mapped P f [] h = tt
  all_of_mapped P f (x ∷ xs) h = (h.0, all_of_mapped P f xs h.1)

nothing_at : (part : Part) (i : ℕ) (broken : List Broken) → faults_at part i 0 broken ≡ [] → broken ≡ []
nothing_at part i [] e = refl
nothing_at part i (b ∷ bs) e = absurd cc

module _ (part : Part) (name : Document → List ℕ) (rules : List (List ℕ) → ℕ → Document → List Broken) (P : Document → Type 0)
    (each : (before : List (List ℕ)) (i : ℕ) (d : Document) → rules before i d ≡ [] → P d) where
  pub each_item : (before : List (List ℕ)) (i : ℕ) (ds : List Document) → faults_after part name rules before i ds ≡ [] → AllByRecursion P ds
  each_item before i [] none = tt
  each_item before i (d ∷ ds) none =
      let parts = nothing_left (faults_at part i 0 (rules before i d)) (faults_after part name rules (before ++ name d ∷ []) (i + 1) ds) none in
      (each before i d (nothing_at part i (rules before i d) parts.0), each_item (before ++ name d ∷ []) (i + 1) ds parts.1)

-- ---- link kinds and elements

pub record KindEnds (types : List (List ℕ)) (d : Document) : Type 0 where
  pub source : IsNamed types (codes "from") d
  pub target : IsNamed types (codes "to") d

pub kind_ends : (types before : List (List ℕ)) (i : ℕ) (d : Document) → kind_broken types before i d ≡ [] → KindEnds types d
kind_ends types before i d none =
    let parts = where_formed_none (named_form (kind_has_form d) (is_name (name_in d)) (not (is_among before (name_in d))) (is_within 256 i)) (requires 14 (end_types_known types d)) none in
    let form : kind_has_form d ≡ true = named_form_first _ _ _ _ parts.0 in
    let known : end_types_known types d ≡ true = requires_none 14 _ parts.1 in
    record {
      source = is_named types (codes "from") d (right_true _ _ (left_true _ _ form)) (left_true _ _ known);
      target = is_named types (codes "to") d (right_true _ _ form) (right_true _ _ known);
    }

pub element_type : (features names : List (List ℕ)) (types : List TypeDef) (before : List (List ℕ)) (i : ℕ) (d : Document)
    → element_broken features names types before i d ≡ [] → IsNamed names (codes "type") d
element_type features names types before i d none =
    let others = expression_rules features (codes "when") d ++ requires 15 (is_among names (text_at (codes "type") d)) in
    let parts = where_formed_none (element_form_broken before i d) (others ++ requires 16 (attributes_given names types d)) none in
    let form : element_has_form d ≡ true = texts_form_first _ _ _ _ _ parts.0 in
    let known : is_among names (text_at (codes "type") d) ≡ true = requires_none 15 _ (nothing_left _ _ (nothing_left others _ parts.1).0).1 in
    is_named names (codes "type") d (right_true _ _ (left_true _ _ (left_true _ _ form))) known
