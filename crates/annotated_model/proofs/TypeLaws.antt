-- The faults of types, each read after the types before it, and the types that are read so, are those of the definitions.
use Rattle.std.proofs.Common.{◌≡◌, refl, sym, ap, ◌∙◌, ℕ, suc, ◌+◌, ◌-◌, List, [], ◌∷◌, ◌++◌, length, map, take, Bool, true, false, Option, Some, None, append_assoc, length-append, arith}
use Rattle.std.specs.Prelude.{codes, option_map, option_and_then, slice_get, bytes_eq, if◌then◌else◌, not, ◌&&◌, ◌||◌, nat_le, unwrap_or}
use Rattle.std.specs.List.{enumerate_from}
use Rattle.std.proofs.Math.Seq.{take-append_seam}
use Rattle.std.proofs.lemmas.List.{length-map, map-append, append-nil}
use Rattle.std.proofs.lemmas.Option.{slice_get_past}
use Rattle.meaning.specs.Texts.{flat, first_of_list, place_of}
use Rattle.meaning.specs.Documents.{Document, list_at, truth_at}
use Rattle.meaning.specs.Models.{TypeDef, inherited, inherits_system, type_of, types_after}
use Rattle.meaning.specs.BundlePlaces.{Types, Broken, requires, where_formed, faults_at, if_some, name_in, is_among, are_new, text_of_member, or_else}
use Rattle.meaning.specs.LineRules.{is_within}
use Rattle.meaning.specs.ModelRules.{ModelContext, context_of, types_in, attributes_of, own_attributes, type_has_form, type_gives_names, type_rules}
use Rattle.meaning.proofs.FirstFaults.{first_of_append, nothing_left}
use Rattle.annotated_model.specs.Items.{named_form, named_type, type_broken, types_broken_after, types_broken, types_told, part_form, part_faults}
use Rattle.annotated_model.specs.Parts.{type_names_in, names_at, type_faults}

-- ---- lists

at_seam : {X : Type 0} (xs : List X) (y : X) (ys : List X) → slice_get (xs ++ y ∷ ys) (length xs) ≡ Some y
at_seam [] y ys = refl
at_seam (x ∷ xs) y ys = at_seam xs y ys

one_later : {X : Type 0} (x : X) (xs : List X) (o : Option ℕ) → option_and_then (slice_get (x ∷ xs)) (option_map suc o) ≡ option_and_then (slice_get xs) o
one_later x xs None = refl
one_later x xs (Some n) = refl

nothing_there : {X : Type 0} (o : Option ℕ) → option_and_then (slice_get {X = X} []) o ≡ None
nothing_there None = refl
nothing_there (Some n) = slice_get_past [] n (omega arith)

-- what stands at the place of a text is the same where texts follow for which nothing stands
found_before : {X : Type 0} (xs : List X) (ss more : List (List ℕ)) (s : List ℕ) → length xs ≡ length ss
    → option_and_then (slice_get xs) (place_of s (ss ++ more)) ≡ option_and_then (slice_get xs) (place_of s ss)
found_before [] [] more s e = nothing_there (place_of s more)
found_before [] (t ∷ ss) more s e = absurd (omega arith)
found_before (x ∷ xs) [] more s e = absurd (omega arith)
found_before (x ∷ xs) (t ∷ ss) more s e = go (bytes_eq s t) (found_before xs ss more s (omega arith))
  where
    go : (b : Bool) → option_and_then (slice_get xs) (place_of s (ss ++ more)) ≡ option_and_then (slice_get xs) (place_of s ss)
        → option_and_then (slice_get (x ∷ xs)) (if b then Some 0 else option_map suc (place_of s (ss ++ more)))
        ≡ option_and_then (slice_get (x ∷ xs)) (if b then Some 0 else option_map suc (place_of s ss))
    go true later = refl
    go false later = one_later x xs (place_of s (ss ++ more)) ∙ later ∙ sym (one_later x xs (place_of s ss))

-- a text of a list has its place there, whatever follows
pub place_in_front : (s : List ℕ) (ss more : List (List ℕ)) → is_among ss s ≡ true → place_of s (ss ++ more) ≡ place_of s ss
place_in_front s [] more e = absurd cc
place_in_front s (t ∷ ss) more e = go (bytes_eq s t) (place_in_front s ss more) e
  where
    go : (b : Bool) → (is_among ss s ≡ true → place_of s (ss ++ more) ≡ place_of s ss) → (b || is_among ss s) ≡ true
        → (if b then Some 0 else option_map suc (place_of s (ss ++ more))) ≡ (if b then Some 0 else option_map suc (place_of s ss))
    go true later e = refl
    go false later e = ap (option_map suc) (later e)

-- ---- rules that are not broken

pub where_formed_none : (form others : List Broken) → where_formed form others ≡ [] → (form ≡ []) × (others ≡ [])
where_formed_none [] others e = (refl, e)
where_formed_none (f ∷ fs) others e = absurd cc

pub requires_none : (rule : ℕ) (b : Bool) → requires rule b ≡ [] → b ≡ true
requires_none rule true e = refl
requires_none rule false e = absurd cc

abbrev inherited_of : Option TypeDef → List (List ℕ)
inherited_of o = unwrap_or (option_map (λ t. t.attributes) o) []

-- ---- the types in order

-- the types after others begin with those
begins_with : (names : List (List ℕ)) (before : List TypeDef) (ds : List Document) → (rest : List TypeDef) × (types_after names before ds ≡ before ++ rest)
begins_with names before [] = ([], sym (append-nil before))
begins_with names before (d ∷ ds) =
    let r = begins_with names (before ++ type_of names before d ∷ []) ds in
    (type_of names before d ∷ r.0, r.1 ∙ append_assoc before (type_of names before d ∷ []) r.0)

pub names_of_types : (names : List (List ℕ)) (before : List TypeDef) (ds : List Document)
    → map (λ t. t.name) (types_after names before ds) ≡ map (λ t. t.name) before ++ map name_in ds
names_of_types names before [] = sym (append-nil (map (λ t. t.name) before))
names_of_types names before (d ∷ ds) =
    names_of_types names (before ++ type_of names before d ∷ []) ds
    ∙ ap (λ ns. ns ++ map name_in ds) (map-append (λ t. t.name) before (type_of names before d ∷ []))
    ∙ append_assoc (map (λ t. t.name) before) (name_in d ∷ []) (map name_in ds)

module _ (c : ModelContext) (all : List (List ℕ)) where
  -- the types so far, whose names these are, with the documents that are left
  record Stands (before : List TypeDef) (names : List (List ℕ)) (i : ℕ) (ds : List Document) : Type 0 where
    count : length before ≡ i
    named : names ≡ map (λ t. t.name) before
    types : c.types ≡ types_after all before ds
    whole : names ++ map name_in ds ≡ all

  counted : (before : List TypeDef) (names : List (List ℕ)) (i : ℕ) (ds : List Document) → Stands before names i ds → length before ≡ length names
  counted before names i ds s = sym (ap length s.named ∙ length-map before (λ t. t.name))

  -- what is inherited is found among the types so far
  same_inherited : (before : List TypeDef) (names : List (List ℕ)) (i : ℕ) (d : Document) (ds : List Document) → Stands before names i (d ∷ ds)
      → inherited before (named_type all (codes "parent") d) ≡ inherited before (named_type names (codes "parent") d)
  same_inherited before names i d ds s = go (text_of_member (codes "parent") d)
    where
      go : (o : Option (List ℕ)) → inherited before (option_and_then (λ s. place_of s all) o) ≡ inherited before (option_and_then (λ s. place_of s names) o)
      go None = refl
      go (Some t) =
          ap (λ r. inherited_of (option_and_then (slice_get before) r)) (ap (place_of t) (sym s.whole))
          ∙ ap inherited_of (found_before before names (map name_in (d ∷ ds)) t (counted before names i (d ∷ ds) s))

  -- the parent is the same where it is an earlier type
  same_parent : (before : List TypeDef) (names : List (List ℕ)) (i : ℕ) (d : Document) (ds : List Document) → Stands before names i (d ∷ ds)
      → if_some (is_among names) (text_of_member (codes "parent") d) ≡ true
      → named_type all (codes "parent") d ≡ named_type names (codes "parent") d
  same_parent before names i d ds s earlier = go (text_of_member (codes "parent") d) earlier
    where
      go : (o : Option (List ℕ)) → if_some (is_among names) o ≡ true
          → option_and_then (λ s. place_of s all) o ≡ option_and_then (λ s. place_of s names) o
      go None e = refl
      go (Some t) e = ap (place_of t) (sym s.whole) ∙ place_in_front t names (map name_in (d ∷ ds)) e

  -- the rules at a type, over the names before it, what it inherits, and all its attributes
  abbrev rules_at : List (List ℕ) → List (List ℕ) → List (List ℕ) → ℕ → Document → List Broken
  rules_at names inherited attributes i d =
      where_formed (named_form (type_has_form d) (type_gives_names d) (not (is_among names (name_in d)) && are_new inherited (own_attributes d))
      (is_within 256 i && nat_le (length attributes) 32)) (requires 13 (if_some (is_among names) (text_of_member (codes "parent") d)))

  rules_are : (i : ℕ) (d : Document)
      → type_rules c (i, d) ≡ rules_at (take i (map (λ t. t.name) c.types)) (take (length (attributes_of c i) - length (own_attributes d)) (attributes_of c i)) (attributes_of c i) i d
  unfolding type_rules
  rules_are i d = refl

  -- the attributes of the next type
  attributes_here : (before : List TypeDef) (names : List (List ℕ)) (i : ℕ) (d : Document) (ds : List Document) → Stands before names i (d ∷ ds)
      → attributes_of c i ≡ inherited before (named_type names (codes "parent") d) ++ own_attributes d
  attributes_here before names i d ds s =
      let t = type_of all before d in
      let r = begins_with all (before ++ t ∷ []) ds in
      let types : c.types ≡ before ++ t ∷ r.0 = s.types ∙ r.1 ∙ append_assoc before (t ∷ []) r.0 in
      let there : slice_get c.types i ≡ Some t = ap (slice_get c.types) (sym s.count) ∙ ap (λ ts. slice_get ts (length before)) types ∙ at_seam before t r.0 in
      ap inherited_of there ∙ ap (λ xs. xs ++ own_attributes d) (same_inherited before names i d ds s)

  names_here : (before : List TypeDef) (names : List (List ℕ)) (i : ℕ) (d : Document) (ds : List Document) → Stands before names i (d ∷ ds)
      → take i (map (λ t. t.name) c.types) ≡ names
  names_here before names i d ds s =
      let named : map (λ t. t.name) c.types ≡ names ++ map name_in (d ∷ ds) =
      ap (map (λ t. t.name)) s.types ∙ names_of_types all before (d ∷ ds) ∙ ap (λ ns. ns ++ map name_in (d ∷ ds)) (sym s.named) in
      let count : i ≡ length names = sym s.count ∙ counted before names i (d ∷ ds) s in
      ap (λ n. take n (map (λ t. t.name) c.types)) count ∙ ap (take (length names)) named ∙ take-append_seam names (map name_in (d ∷ ds))

  rules_here : (before : List TypeDef) (names : List (List ℕ)) (i : ℕ) (d : Document) (ds : List Document) → Stands before names i (d ∷ ds)
      → type_rules c (i, d) ≡ type_broken names before i d
  rules_here before names i d ds s =
      let own = own_attributes d in
      let before_own = inherited before (named_type names (codes "parent") d) in
      let attributes = attributes_here before names i d ds s in
      let count : length (before_own ++ own) - length own ≡ length before_own = omega (arith, length-append before_own own) in
      let front : take (length (attributes_of c i) - length own) (attributes_of c i) ≡ before_own =
      ap (λ xs. take (length xs - length own) xs) attributes ∙ ap (λ n. take n (before_own ++ own)) count ∙ take-append_seam before_own own in
      rules_are i d ∙ ap (λ ns. rules_at ns (take (length (attributes_of c i) - length own) (attributes_of c i)) (attributes_of c i) i d) (names_here before names i d ds s)
      ∙ ap (λ xs. rules_at names xs (attributes_of c i) i d) front ∙ ap (λ xs. rules_at names before_own xs i d) attributes

  -- a type that breaks no rule is the same over all names
  same_type : (before : List TypeDef) (names : List (List ℕ)) (i : ℕ) (d : Document) (ds : List Document) → Stands before names i (d ∷ ds)
      → type_broken names before i d ≡ [] → type_of all before d ≡ type_of names before d
  same_type before names i d ds s none =
      ap (λ p. record { name = name_in d; parent = p; attributes = inherited before p ++ own_attributes d; has_system = truth_at (codes "system") d || inherits_system before p })
      (same_parent before names i d ds s
      (requires_none 13 (if_some (is_among names) (text_of_member (codes "parent") d)) (where_formed_none _ _ none).1))

  goes_on : (before : List TypeDef) (names : List (List ℕ)) (i : ℕ) (d : Document) (ds : List Document) → Stands before names i (d ∷ ds)
      → type_broken names before i d ≡ [] → Stands (before ++ type_of names before d ∷ []) (names ++ name_in d ∷ []) (i + 1) ds
  goes_on before names i d ds s none = record {
    count = length-append before (type_of names before d ∷ []) ∙ ap (λ n. n + 1) s.count;
    named = ap (λ ns. ns ++ name_in d ∷ []) s.named ∙ sym (map-append (λ t. t.name) before (type_of names before d ∷ []));
    types = s.types ∙ ap (λ t. types_after all (before ++ t ∷ []) ds) (same_type before names i d ds s none);
    whole = append_assoc names (name_in d ∷ []) (map name_in ds) ∙ s.whole;
  }

  firsts : (before : List TypeDef) (names : List (List ℕ)) (i : ℕ) (ds : List Document) → Stands before names i ds
      → first_of_list (flat (λ x. faults_at Types x.0 0 (type_rules c x)) (enumerate_from i ds)) ≡ first_of_list (types_broken_after names before i ds)
  firsts before names i [] s = refl
  firsts before names i (d ∷ ds) s =
      ap (λ broken. first_of_list (faults_at Types i 0 broken ++ flat (λ x. faults_at Types x.0 0 (type_rules c x)) (enumerate_from (i + 1) ds))) (rules_here before names i d ds s)
      ∙ go (type_broken names before i d) (λ none. firsts (before ++ type_of names before d ∷ []) (names ++ name_in d ∷ []) (i + 1) ds (goes_on before names i d ds s none)) refl
    where
      go : (broken : List Broken)
          → (type_broken names before i d ≡ [] → first_of_list (flat (λ x. faults_at Types x.0 0 (type_rules c x)) (enumerate_from (i + 1) ds))
          ≡ first_of_list (types_broken_after (names ++ name_in d ∷ []) (before ++ type_of names before d ∷ []) (i + 1) ds))
          → type_broken names before i d ≡ broken
          → first_of_list (faults_at Types i 0 broken ++ flat (λ x. faults_at Types x.0 0 (type_rules c x)) (enumerate_from (i + 1) ds))
          ≡ first_of_list (faults_at Types i 0 broken ++ types_broken_after (names ++ name_in d ∷ []) (before ++ type_of names before d ∷ []) (i + 1) ds)
      go [] later is = later is
      go (b ∷ bs) later is = refl

  told : (before : List TypeDef) (names : List (List ℕ)) (i : ℕ) (ds : List Document) → Stands before names i ds
      → types_broken_after names before i ds ≡ [] → types_told names before ds ≡ c.types
  told before names i [] s none = sym s.types
  told before names i (d ∷ ds) s none =
      let parts = nothing_left (faults_at Types i 0 (type_broken names before i d))
      (types_broken_after (names ++ name_in d ∷ []) (before ++ type_of names before d ∷ []) (i + 1) ds) none in
      let here : type_broken names before i d ≡ [] = nothing_at (type_broken names before i d) parts.0 in
      told (before ++ type_of names before d ∷ []) (names ++ name_in d ∷ []) (i + 1) ds (goes_on before names i d ds s here) parts.1
    where
      nothing_at : (broken : List Broken) → faults_at Types i 0 broken ≡ [] → broken ≡ []
      nothing_at [] e = refl
      nothing_at (b ∷ bs) e = absurd cc

module _ (features : List (List ℕ)) (model : Document) where
  at_start : Stands (context_of features model) (names_at (codes "types") model) [] [] 0 (list_at (codes "types") model)
  at_start = record { count = refl; named = refl; types = refl; whole = refl }

  -- the first fault of the types is the first that is found
  pub type_first : first_of_list (type_faults features model) ≡ first_of_list (part_faults Types (codes "types") types_broken model)
  type_first =
      let c = context_of features model in
      let types = list_at (codes "types") model in
      first_of_append _ _ ∙ ap (or_else (first_of_list (part_form Types (codes "types") model))) (firsts c (names_at (codes "types") model) [] [] 0 types at_start)
      ∙ sym (first_of_append (part_form Types (codes "types") model) (types_broken types))

  pub types_are : types_broken (list_at (codes "types") model) ≡ [] → types_told [] [] (list_at (codes "types") model) ≡ types_in model
  types_are none = told (context_of features model) (names_at (codes "types") model) [] [] 0 (list_at (codes "types") model) at_start none

pub type_names_are : (model : Document) → type_names_in model ≡ names_at (codes "types") model
type_names_are model = names_of_types (names_at (codes "types") model) [] (list_at (codes "types") model)
