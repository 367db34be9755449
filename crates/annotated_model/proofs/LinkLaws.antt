-- The rules at a link over what is known are those of the definitions.
use Rattle.std.proofs.Common.{◌≡◌, ◌∙◌, sym, ap, refl, ℕ, zero, suc, List, [], ◌∷◌, ◌++◌, map, Option, Some, None, slice_get, append_assoc}
use Rattle.std.specs.Prelude.{Bool, ◌&&◌, codes, is_some, option_map, option_and_then}
use Rattle.std.specs.List.{enumerate_from}
use Rattle.meaning.specs.Texts.{flat, place_of}
use Rattle.meaning.specs.Documents.{Document, text_at, list_at}
use Rattle.meaning.specs.BundlePlaces.{Links, requires, where_formed, faults_at, may_have, is_list_value, is_among}
use Rattle.meaning.specs.LineRules.{expression_rules}
use Rattle.meaning.specs.ModelRules.{ModelContext, context_of, names_in, items_in, named_in, type_at, type_of_element, is_a_if_known, end_fits, kind_and_ends_are_known, link_form, link_rules}
use Rattle.meaning.proofs.NamePlaces.{some_place}
use Rattle.annotated_model.specs.declared.known.Known.{Known}
use Rattle.annotated_model.specs.Known.{Knows}
use Rattle.annotated_model.specs.Links as links
use Rattle.annotated_model.specs.Parts.{link_faults}

-- two functions that agree make one list of it all
pub flat_same : {A B : Type 0} (f g : A → List B) → ((x : A) → f x ≡ g x) → (xs : List A) → flat f xs ≡ flat g xs
flat_same f g same [] = refl
flat_same f g same (x ∷ xs) = rw (same x, flat_same f g same xs) refl

-- what an item tells is told by the value of its number
pub told_by : {X : Type 0} (f : Document → Option ℕ) (g : X → ℕ) (ds : List Document) (xs : List X) → map f ds ≡ map (λ x. Some (g x)) xs → (n : ℕ)
    → option_and_then f (slice_get ds n) ≡ option_map g (slice_get xs n)
told_by f g [] [] same n = refl
told_by f g [] (x ∷ xs) same n = absurd cc
told_by f g (d ∷ ds) [] same n = absurd cc
told_by f g (d ∷ ds) (x ∷ xs) same zero = let first : f d ≡ Some (g x) = cc in first
told_by f g (d ∷ ds) (x ∷ xs) same (suc n) = let rest : map f ds ≡ map (λ x. Some (g x)) xs = cc in told_by f g ds xs rest n

pub told_at : {X : Type 0} (f : Document → Option ℕ) (g : X → ℕ) (ds : List Document) (xs : List X) → map f ds ≡ map (λ x. Some (g x)) xs → (o : Option ℕ)
    → option_and_then f (option_and_then (slice_get ds) o) ≡ option_and_then (λ n. option_map g (slice_get xs n)) o
told_at f g ds xs same None = refl
told_at f g ds xs same (Some n) = told_by f g ds xs same n

same_is_a : (c : ModelContext) (t u : Option ℕ) → is_a_if_known c t u ≡ links.is_a_if_there c.types t u
same_is_a c None u = refl
same_is_a c (Some t) None = refl
same_is_a c (Some t) (Some u) = refl

-- the names are known where they have places
pub among_place : (names known : List (List ℕ)) (s : List ℕ) → known ≡ names → is_among names s ≡ is_some (place_of s known)
among_place names known s same = rw same (sym (some_place names s))

module _ (features : List (List ℕ)) (known : Known) (model : Document) (knows : Knows known features model) where
  abbrev c : ModelContext
  c = context_of features model

  same_ends : (d : Document) → kind_and_ends_are_known c d ≡ links.knows_ends known d
  same_ends d =
      rw (
        among_place (names_in c (codes "kinds")) known.kind_names (text_at (codes "kind") d) knows.kind_names,
        among_place (names_in c (codes "elements")) known.element_names (text_at (codes "from") d) knows.element_names,
        among_place (names_in c (codes "elements")) known.element_names (text_at (codes "to") d) knows.element_names,
      ) refl

  pub same_element_type : (e : List ℕ) → type_of_element c e ≡ option_and_then (links.type_no known) (place_of e known.element_names)
  same_element_type e =
      told_at (type_at c (codes "type")) (λ x. x.of_type) (items_in c (codes "elements")) known.elements knows.element_types (place_of e (names_in c (codes "elements")))
      ∙ ap (λ names. option_and_then (links.type_no known) (place_of e names)) (sym knows.element_names)

  same_source : (k : List ℕ) → option_and_then (type_at c (codes "from")) (named_in c (codes "kinds") k) ≡ option_and_then (links.source_type known) (place_of k known.kind_names)
  same_source k =
      told_at (type_at c (codes "from")) (λ x. x.from) (items_in c (codes "kinds")) known.kinds knows.sources (place_of k (names_in c (codes "kinds")))
      ∙ ap (λ names. option_and_then (links.source_type known) (place_of k names)) (sym knows.kind_names)

  same_target : (k : List ℕ) → option_and_then (type_at c (codes "to")) (named_in c (codes "kinds") k) ≡ option_and_then (links.target_type known) (place_of k known.kind_names)
  same_target k =
      told_at (type_at c (codes "to")) (λ x. x.to) (items_in c (codes "kinds")) known.kinds knows.targets (place_of k (names_in c (codes "kinds")))
      ∙ ap (λ names. option_and_then (links.target_type known) (place_of k names)) (sym knows.kind_names)

  same_source_fits : (d : Document) → end_fits c d (codes "from")
      ≡ links.fits_end known (place_of (text_at (codes "from") d) known.element_names) (option_and_then (links.source_type known) (place_of (text_at (codes "kind") d) known.kind_names))
  same_source_fits d =
      rw (same_element_type (text_at (codes "from") d), same_source (text_at (codes "kind") d))
      (same_is_a c (option_and_then (links.type_no known) (place_of (text_at (codes "from") d) known.element_names)) (option_and_then (links.source_type known) (place_of (text_at (codes "kind") d) known.kind_names))
      ∙ ap (λ types. links.is_a_if_there types (option_and_then (links.type_no known) (place_of (text_at (codes "from") d) known.element_names)) (option_and_then (links.source_type known) (place_of (text_at (codes "kind") d) known.kind_names)))
      (sym knows.types))

  same_target_fits : (d : Document) → end_fits c d (codes "to")
      ≡ links.fits_end known (place_of (text_at (codes "to") d) known.element_names) (option_and_then (links.target_type known) (place_of (text_at (codes "kind") d) known.kind_names))
  same_target_fits d =
      rw (same_element_type (text_at (codes "to") d), same_target (text_at (codes "kind") d))
      (same_is_a c (option_and_then (links.type_no known) (place_of (text_at (codes "to") d) known.element_names)) (option_and_then (links.target_type known) (place_of (text_at (codes "kind") d) known.kind_names))
      ∙ ap (λ types. links.is_a_if_there types (option_and_then (links.type_no known) (place_of (text_at (codes "to") d) known.element_names)) (option_and_then (links.target_type known) (place_of (text_at (codes "kind") d) known.kind_names)))
      (sym knows.types))

  -- the rules, where the tests of the kind and the ends give these
  rules_by : (l : ℕ × Document) → Bool → Bool → List (ℕ × ℕ)
  rules_by l ends fits = where_formed (link_form l) (expression_rules features (codes "when") l.1 ++ requires 17 ends ++ requires 18 fits)

  rules_are : (l : ℕ × Document) → link_rules c l ≡ rules_by l (kind_and_ends_are_known c l.1) (end_fits c l.1 (codes "from") && end_fits c l.1 (codes "to"))
  unfolding link_rules rules_by
  rules_are l = refl

  known_rules_are : (l : ℕ × Document) → links.link_rules features known l ≡ rules_by l (links.knows_ends known l.1) (links.ends_fit known l.1)
  unfolding rules_by
  known_rules_are l =
      ap (where_formed (link_form l))
      (sym (append_assoc (expression_rules features (codes "when") l.1) (requires 17 (links.knows_ends known l.1)) (requires 18 (links.ends_fit known l.1))))

  same_fit : (d : Document) → (end_fits c d (codes "from") && end_fits c d (codes "to")) ≡ links.ends_fit known d
  same_fit d = rw (same_source_fits d, same_target_fits d) refl

  same_rules : (l : ℕ × Document) → link_rules c l ≡ links.link_rules features known l
  same_rules l =
      rules_are l ∙ (ap (λ b. rules_by l b (end_fits c l.1 (codes "from") && end_fits c l.1 (codes "to"))) (same_ends l.1)
      ∙ (ap (rules_by l (links.knows_ends known l.1)) (same_fit l.1) ∙ sym (known_rules_are l)))

  -- the faults of the list of links and of its items
  pub link_faults_are : link_faults features model ≡ faults_at Links 0 0 (requires 2 (may_have is_list_value (codes "links") model))
      ++ links.link_faults_from features known (enumerate_from 0 (list_at (codes "links") model))
  link_faults_are =
      ap (λ fs. faults_at Links 0 0 (requires 2 (may_have is_list_value (codes "links") model)) ++ fs)
      (flat_same (λ l. faults_at Links l.0 0 (link_rules c l)) (λ l. faults_at Links l.0 0 (links.link_rules features known l))
      (λ l. ap (faults_at Links l.0 0) (same_rules l)) (enumerate_from 0 (list_at (codes "links") model)))
