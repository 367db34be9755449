-- A model that breaks no rule keeps its numbers in range.
use Rattle.std.proofs.Common.{◌≡◌, refl, sym, ap, ◌∙◌, subst, ℕ, ◌+◌, ◌<◌, ◌≤◌, List, [], ◌∷◌, ◌++◌, length, map, Bool, true, false}
use Rattle.std.specs.Prelude.{codes, unwrap_or, not, ◌&&◌, ◌||◌}
use Rattle.std.specs.List.{All, AllByRecursion, enumerate_from, list_any, list_all}
use Rattle.std.proofs.lemmas.List.{length-map}
use Rattle.std.proofs.lemmas.List.Elements.{All-from_recursion}
use Rattle.meaning.specs.Texts.{flat, numbered}
use Rattle.meaning.specs.Documents.{Document, text_at, list_at}
use Rattle.meaning.specs.Models.{Model, number_in, state_of, transition_of, system_from}
use Rattle.meaning.specs.BundlePlaces.{Part, States, Transitions, BundleFault, Broken, requires, faults_at, faults_of_items, may_have, is_list_value, name_in, is_among}
use Rattle.meaning.specs.LineRules.{expression_rules}
use Rattle.meaning.specs.ModelRules.{ModelContext, faults_in_list, faults_in_item, link_form, kind_and_ends_are_known, end_fits, link_rules, state_form, labels_of, state_rules, transition_form, ends_are_states, transition_rules, system_form, element_takes_system, states_have_form, has_initial_state, is_formed, system_rules}
use Rattle.meaning.proofs.FirstFaults.{nothing_left}
use Rattle.meaning.proofs.NameTexts.{place_among}
use Rattle.annotated_model.specs.ModelFacts.{TransitionFits, SystemFits}
use Rattle.annotated_model.specs.Parts.{names_at}
use Rattle.annotated_model.proofs.TypeLaws.{where_formed_none, requires_none}
use Rattle.annotated_model.proofs.ItemFacts.{left_true, right_true, weaker, all_mapped}

-- ---- lists without a fault

pub no_faults_at : (part : Part) (item sub : ℕ) (broken : List Broken) → faults_at part item sub broken ≡ [] → broken ≡ []
no_faults_at part item sub [] e = refl
no_faults_at part item sub (b ∷ bs) e = absurd cc

-- what follows for each item of a list, from a number on
pub each_of_flat : {X : Type 0} (faults : ℕ × X → List BundleFault) (P : ℕ → X → Type 0) → ((i : ℕ) (x : X) → faults (i, x) ≡ [] → P i x)
    → (i : ℕ) (xs : List X) → flat faults (enumerate_from i xs) ≡ [] → AllByRecursion (λ y. P y.0 y.1) (enumerate_from i xs)
each_of_flat faults P each i [] none = tt
each_of_flat faults P each i (x ∷ xs) none =
    let parts = nothing_left (faults (i, x)) (flat faults (enumerate_from (i + 1) xs)) none in
    (each i x parts.0, each_of_flat faults P each (i + 1) xs parts.1)

-- the same without the numbers
pub unnumbered : {X : Type 0} (P : X → Type 0) (i : ℕ) (xs : List X) → AllByRecursion (λ y. P y.1) (enumerate_from i xs) → AllByRecursion P xs
unnumbered P i [] h = tt
unnumbered P i (x ∷ xs) h = (h.0, unnumbered P (i + 1) xs h.1)

pub with_numbers : {X : Type 0} (P : X → Type 0) (i : ℕ) (xs : List X) → AllByRecursion P xs → AllByRecursion (λ y. P y.1) (enumerate_from i xs)
with_numbers P i [] h = tt
with_numbers P i (x ∷ xs) h = (h.0, with_numbers P (i + 1) xs h.1)

module _ (c : ModelContext) (part : Part) (k : List ℕ) (rules : ℕ × Document → List Broken) (P : Document → Type 0)
    (each : (i : ℕ) (d : Document) → rules (i, d) ≡ [] → P d) where
  pub each_in_list : faults_in_list c part k rules ≡ [] → AllByRecursion P (list_at k c.table)
  each_in_list none =
      unnumbered P 0 (list_at k c.table)
      (each_of_flat (λ x. faults_at part x.0 0 (rules x)) (λ i d. P d) (λ i d e. each i d (no_faults_at part i 0 (rules (i, d)) e)) 0 (list_at k c.table)
      (nothing_left (faults_at part 0 0 (requires 2 (may_have is_list_value k c.table))) (faults_of_items part rules (list_at k c.table)) none).1)

module _ (part : Part) (k : List ℕ) (x : ℕ × Document) (rules : ℕ × Document → List Broken) where
  -- the list inside an item is one, and its items break no rule
  formed_in_item : faults_in_item part k rules x ≡ [] → may_have is_list_value k x.1 ≡ true
  formed_in_item none =
      requires_none 2 _ (no_faults_at part x.0 0 _ (nothing_left (faults_at part x.0 0 (requires 2 (may_have is_list_value k x.1))) _ none).0)

  each_in_item : (P : ℕ → Document → Type 0) → ((i : ℕ) (d : Document) → rules (i, d) ≡ [] → P i d) → faults_in_item part k rules x ≡ []
      → AllByRecursion (λ y. P y.0 y.1) (numbered (list_at k x.1))
  each_in_item P each none =
      each_of_flat (λ y. faults_at part x.0 y.0 (rules y)) P (λ i d e. each i d (no_faults_at part x.0 i (rules (i, d)) e)) 0 (list_at k x.1)
      (nothing_left (faults_at part x.0 0 (requires 2 (may_have is_list_value k x.1))) _ none).1

-- ---- numbers in range

pub number_within : (names : List (List ℕ)) (s : List ℕ) → is_among names s ≡ true → number_in names s < length names
number_within names s known =
    let p = place_among names s known in subst (λ n. n < length names) (sym (ap (λ o. unwrap_or o 0) p.1)) p.2

numbers_within : (names ss : List (List ℕ)) → list_all (is_among names) ss ≡ true → AllByRecursion (λ n. n < length names) (map (number_in names) ss)
numbers_within names [] known = tt
numbers_within names (s ∷ ss) known =
    (number_within names s (left_true _ _ known), numbers_within names ss (right_true _ _ known))

module _ (c : ModelContext) where
  -- a link's kind and ends
  pub link_known : (i : ℕ) (d : Document) → link_rules c (i, d) ≡ [] → kind_and_ends_are_known c d ≡ true
  unfolding link_rules
  link_known i d none =
      let others = expression_rules c.features (codes "when") d in
      let parts = where_formed_none (link_form (i, d))
      (others ++ requires 17 (kind_and_ends_are_known c d) ++ requires 18 (end_fits c d (codes "from") && end_fits c d (codes "to"))) none in
      requires_none 17 _ (nothing_left others _ (nothing_left (others ++ requires 17 (kind_and_ends_are_known c d)) _ parts.1).0).1

  state_known : (x : ℕ × Document) (i : ℕ) (d : Document) → state_rules c x (i, d) ≡ []
      → (is_formed (state_form c x (i, d)) ≡ true) × (list_all (is_among c.labels) (labels_of d) ≡ true)
  unfolding state_rules
  state_known x i d none =
      let parts = where_formed_none (state_form c x (i, d)) (requires 22 (list_all (is_among c.labels) (labels_of d))) none in
      (ap is_formed parts.0, requires_none 22 _ parts.1)

  transition_known : (x : ℕ × Document) (i : ℕ) (d : Document) → transition_rules c x (i, d) ≡ [] → ends_are_states x.1 d ≡ true
  unfolding transition_rules
  transition_known x i d none =
      let others = expression_rules c.features (codes "when") d in
      let parts = where_formed_none (transition_form c x (i, d)) (others ++ requires 22 (ends_are_states x.1 d)) none in
      requires_none 22 _ (nothing_left others _ parts.1).1

  pub system_known : (i : ℕ) (d : Document) → system_rules c (i, d) ≡ []
      → (element_takes_system c (i, d) ≡ true) × ((not (states_have_form c (i, d)) || has_initial_state d) ≡ true)
  unfolding system_rules
  system_known i d none =
      let first = requires 19 (element_takes_system c (i, d)) in
      let parts = where_formed_none (system_form (i, d)) (first ++ requires 21 (not (states_have_form c (i, d)) || has_initial_state d)) none in
      let both = nothing_left first _ parts.1 in
      (requires_none 19 _ both.0, requires_none 21 _ both.1)

-- ---- lists of facts

pub both : {X : Type 0} (P Q : X → Type 0) (xs : List X) → AllByRecursion P xs → AllByRecursion Q xs → AllByRecursion (λ x. P x × Q x) xs
both P Q [] h g = tt
both P Q (x ∷ xs) h g = ((h.0, g.0), both P Q xs h.1 g.1)

all_true : {X : Type 0} (p : X → Bool) (xs : List X) → AllByRecursion (λ x. p x ≡ true) xs → list_all p xs ≡ true
all_true p [] h = refl
all_true p (x ∷ xs) h = ap (λ b. b && list_all p xs) h.0 ∙ all_true p xs h.1

any_mapped : {X Y : Type 0} (p : Y → Bool) (f : X → Y) (xs : List X) → list_any p (map f xs) ≡ list_any (λ x. p (f x)) xs
any_mapped p f [] = refl
any_mapped p f (x ∷ xs) = ap (λ b. p (f x) || b) (any_mapped p f xs)

not_or : (a b : Bool) → a ≡ true → (not a || b) ≡ true → b ≡ true
not_or true b e h = h
not_or false b e h = absurd cc

-- what is read as a list of facts of the documents is one of the values
pub all_values : {X Y : Type 0} (P : Y → Type 0) (f : X → Y) (xs : List X) → AllByRecursion (λ x. P (f x)) xs → All P (map f xs)
all_values P f xs h = All-from_recursion P (map f xs) (all_mapped P f xs h)

-- ---- a system

-- the states and the transitions of a system are within the limits
abbrev pub IsFew : Document → Type 0
IsFew d = (length (list_at (codes "states") d) ≤ 4096) × (length (list_at (codes "transitions") d) ≤ 16384)

module _ (c : ModelContext) (features : List (List ℕ)) (m : Model) (labels : c.labels ≡ m.labels)
    (elements : length (names_at (codes "elements") c.table) ≡ length m.elements) where
  -- the three parts of a system have no fault
  abbrev pub SystemPasses : ℕ × Document → Type 0
  SystemPasses x =
      (system_rules c x ≡ []) × (faults_in_item States (codes "states") (state_rules c x) x ≡ [])
      × (faults_in_item Transitions (codes "transitions") (transition_rules c x) x ≡ [])

  pub system_fits : (i : ℕ) (d : Document) → SystemPasses (i, d) → IsFew d
      → SystemFits m (system_from features c.labels (names_at (codes "elements") c.table) d)
  system_fits i d p few =
      let x : ℕ × Document = (i, d) in
      let states = list_at (codes "states") d in
      let transitions = list_at (codes "transitions") d in
      let names = map name_in states in
      let known = system_known c i d p.0 in
      let takes : is_among (names_at (codes "elements") c.table) (text_at (codes "element") d) ≡ true = left_true _ _ (left_true _ _ known.0) in
      let formed = each_in_item States (codes "states") x (state_rules c x) (λ k s. is_formed (state_form c x (k, s)) ≡ true) (λ k s e. (state_known c x k s e).0) p.1 in
      let have_form : states_have_form c x ≡ true =
      ap (λ b. b && list_all (λ s. is_formed (state_form c x s)) (numbered states)) (formed_in_item States (codes "states") x (state_rules c x) p.1)
      ∙ all_true (λ s. is_formed (state_form c x s)) (numbered states) formed in
      let initial : has_initial_state d ≡ true = not_or (states_have_form c x) (has_initial_state d) have_form known.1 in
      let labelled = unnumbered (λ s. list_all (is_among c.labels) (labels_of s) ≡ true) 0 states
      (each_in_item States (codes "states") x (state_rules c x) (λ k s. list_all (is_among c.labels) (labels_of s) ≡ true) (λ k s e. (state_known c x k s e).1) p.1) in
      let joined = unnumbered (λ t. ends_are_states d t ≡ true) 0 transitions
      (each_in_item Transitions (codes "transitions") x (transition_rules c x) (λ k t. ends_are_states d t ≡ true) (λ k t e. transition_known c x k t e) p.2) in
      let count : length names ≡ length (map (state_of c.labels) states) = length-map states name_in ∙ sym (length-map states (state_of c.labels)) in
      record {
        element = subst (λ n. number_in (names_at (codes "elements") c.table) (text_at (codes "element") d) < n) elements
            (number_within (names_at (codes "elements") c.table) (text_at (codes "element") d) takes);
        initial = any_mapped (λ s. s.initial) (state_of c.labels) states ∙ initial;
        labels = all_values (λ s. All (λ l. l < length m.labels) s.labels) (state_of c.labels) states
            (weaker _ _ (λ s e. subst (λ n. All (λ l. l < n) (map (number_in c.labels) (labels_of s))) (ap length labels)
            (All-from_recursion (λ l. l < length c.labels) (map (number_in c.labels) (labels_of s)) (numbers_within c.labels (labels_of s) e))) states labelled);
        transitions = all_values (TransitionFits (system_from features c.labels (names_at (codes "elements") c.table) d)) (transition_of features names) transitions
            (weaker _ _ (λ t e. record {
              source = subst (λ n. number_in names (text_at (codes "from") t) < n) count (number_within names (text_at (codes "from") t) (left_true _ _ e));
              target = subst (λ n. number_in names (text_at (codes "to") t) < n) count (number_within names (text_at (codes "to") t) (right_true _ _ e));
            }) transitions joined);
        few_states = subst (λ n. n ≤ 4096) (sym (length-map states (state_of c.labels))) few.0;
        few_transitions = subst (λ n. n ≤ 16384) (sym (length-map transitions (transition_of features names))) few.1;
      }
