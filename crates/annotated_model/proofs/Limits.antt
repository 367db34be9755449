-- No list of a model that breaks no rule is past its limit.
use Rattle.std.proofs.Common.{◌≡◌, refl, sym, ap, ◌∙◌, subst, ℕ, ◌+◌, ◌≤◌, List, [], ◌∷◌, ◌++◌, length, map, Bool, true, arith}
use Rattle.std.specs.Prelude.{codes, not}
use Rattle.std.specs.List.{AllByRecursion, enumerate_from, sum_by}
use Rattle.std.proofs.lemmas.Bool.Decides.{nat_tests}
use Rattle.std.proofs.lemmas.List.Sums.{sum_by-cons}
use Rattle.meaning.specs.Documents.{Document, list_at}
use Rattle.meaning.specs.BundlePlaces.{Part, States, Transitions, Broken, requires, faults_at, may_have, is_list_value, name_in, is_among}
use Rattle.meaning.specs.LineRules.{is_within}
use Rattle.meaning.specs.ModelRules.{ModelContext, faults_in_list, type_rules, type_form, parent_is_earlier, kind_rules, kind_form, end_types_are_known, label_rules, element_rules, element_form, link_rules, link_form, system_rules, system_form}
use Rattle.meaning.proofs.FirstFaults.{nothing_left}
use Rattle.annotated_model.specs.StateRules.{state_form, given_states, state_broken, states_broken, system_states_broken, all_states_broken}
use Rattle.annotated_model.specs.TransitionRules.{given_transitions, transition_form, transition_broken, transitions_broken, system_transitions_broken, all_transitions_broken}
use Rattle.annotated_model.specs.StateRules.{names_given}
use Rattle.annotated_model.proofs.TypeLaws.{where_formed_none, requires_none}
use Rattle.annotated_model.proofs.ItemFacts.{left_true}
use Rattle.annotated_model.proofs.RulesKept.{no_faults_at, each_of_flat}

-- ---- a list in which none is the first past the limit

within_next : (limit n : ℕ) → n ≤ limit → is_within limit n ≡ true → n + 1 ≤ limit
within_next limit n few within = grind (arith, nat_tests)

few_from : {X : Type 0} (limit i : ℕ) (xs : List X) → i ≤ limit → AllByRecursion (λ y. is_within limit y.0 ≡ true) (enumerate_from i xs) → i + length xs ≤ limit
few_from limit i [] few within = omega arith
few_from limit i (x ∷ xs) few within =
    let rest = few_from limit (i + 1) xs (within_next limit i few within.0) within.1 in omega arith

-- the last rule of form holds
last_holds : (before : List Broken) (rule : ℕ) (holds : Bool) → before ++ requires rule holds ≡ [] → holds ≡ true
last_holds before rule holds none = requires_none rule holds (nothing_left before (requires rule holds) none).1

module _ (c : ModelContext) (part : Part) (k : List ℕ) (rules : ℕ × Document → List Broken) (limit : ℕ)
    (within : (i : ℕ) (d : Document) → rules (i, d) ≡ [] → is_within limit i ≡ true) where
  pub few_in_list : faults_in_list c part k rules ≡ [] → length (list_at k c.table) ≤ limit
  few_in_list none =
      let few = few_from limit 0 (list_at k c.table) (omega arith)
      (each_of_flat (λ x. faults_at part x.0 0 (rules x)) (λ i d. is_within limit i ≡ true) (λ i d e. within i d (no_faults_at part i 0 (rules (i, d)) e)) 0 (list_at k c.table)
      (nothing_left (faults_at part 0 0 (requires 2 (may_have is_list_value k c.table))) _ none).1) in omega arith

module _ (c : ModelContext) where
  pub type_within : (i : ℕ) (d : Document) → type_rules c (i, d) ≡ [] → is_within 256 i ≡ true
  unfolding type_rules
  type_within i d none = left_true _ _ (last_holds _ 6 _ (where_formed_none (type_form c (i, d)) (requires 13 (parent_is_earlier c (i, d))) none).0)

  pub kind_within : (i : ℕ) (d : Document) → kind_rules c (i, d) ≡ [] → is_within 256 i ≡ true
  unfolding kind_rules
  kind_within i d none = last_holds _ 6 _ (where_formed_none (kind_form c (i, d)) (requires 14 (end_types_are_known c d)) none).0

  pub label_within : (i : ℕ) (d : Document) → label_rules c (i, d) ≡ [] → is_within 256 i ≡ true
  unfolding label_rules
  label_within i d none = last_holds _ 6 _ none

  pub element_within : (i : ℕ) (d : Document) → element_rules c (i, d) ≡ [] → is_within 2048 i ≡ true
  unfolding element_rules
  element_within i d none = last_holds _ 6 _ (where_formed_none (element_form c (i, d)) _ none).0

  pub link_within : (i : ℕ) (d : Document) → link_rules c (i, d) ≡ [] → is_within 16384 i ≡ true
  unfolding link_rules
  link_within i d none = last_holds _ 6 _ (where_formed_none (link_form (i, d)) _ none).0

  pub system_within : (i : ℕ) (d : Document) → system_rules c (i, d) ≡ [] → is_within 256 i ≡ true
  unfolding system_rules
  system_within i d none = last_holds _ 6 _ (where_formed_none (system_form (i, d)) _ none).0

-- ---- states and transitions, behind so many of earlier systems

states_few : (labels : List (List ℕ)) (item counted : ℕ) (before : List (List ℕ)) (k : ℕ) (ds : List Document) → counted + k ≤ 4096
    → states_broken labels item counted before k ds ≡ [] → counted + k + length ds ≤ 4096
states_few labels item counted before k [] few none = omega arith
states_few labels item counted before k (d ∷ ds) few none =
    let here = state_broken labels counted before k d in
    let parts = nothing_left (faults_at States item k here) (states_broken labels item counted (before ++ name_in d ∷ []) (k + 1) ds) none in
    let within = last_holds _ 6 _ (where_formed_none (state_form (not (is_among before (name_in d))) (is_within 4096 (counted + k)) d) _ (no_faults_at States item k here parts.0)).0 in
    let next : counted + (k + 1) ≤ 4096 = let n = within_next 4096 (counted + k) few within in omega arith in
    let rest = states_few labels item counted (before ++ name_in d ∷ []) (k + 1) ds next parts.1 in omega arith

all_states_few : (labels : List (List ℕ)) (item counted : ℕ) (ds : List Document) → counted ≤ 4096
    → all_states_broken labels item counted ds ≡ [] → counted + sum_by (λ d. length (given_states d)) ds ≤ 4096
all_states_few labels item counted [] few none = omega arith
all_states_few labels item counted (d ∷ ds) few none =
    let parts = nothing_left (system_states_broken labels item counted d) (all_states_broken labels (item + 1) (counted + length (given_states d)) ds) none in
    let own = nothing_left (faults_at States item 0 (requires 2 (may_have is_list_value (codes "states") d))) (states_broken labels item counted [] 0 (given_states d)) parts.0 in
    let here = states_few labels item counted [] 0 (given_states d) (omega arith) own.1 in
    let rest = all_states_few labels (item + 1) (counted + length (given_states d)) ds (omega arith) parts.1 in
    rw (sum_by-cons (λ x. length (given_states x)) d ds) (omega arith)

transitions_few : (features : List (List ℕ)) (item counted : ℕ) (states : List (List ℕ)) (k : ℕ) (ds : List Document) → counted + k ≤ 16384
    → transitions_broken features item counted states k ds ≡ [] → counted + k + length ds ≤ 16384
transitions_few features item counted states k [] few none = omega arith
transitions_few features item counted states k (d ∷ ds) few none =
    let here = transition_broken features counted states k d in
    let parts = nothing_left (faults_at Transitions item k here) (transitions_broken features item counted states (k + 1) ds) none in
    let within = last_holds _ 6 _ (where_formed_none (transition_form (is_within 16384 (counted + k)) d) _ (no_faults_at Transitions item k here parts.0)).0 in
    let next : counted + (k + 1) ≤ 16384 = let n = within_next 16384 (counted + k) few within in omega arith in
    let rest = transitions_few features item counted states (k + 1) ds next parts.1 in omega arith

all_transitions_few : (features : List (List ℕ)) (item counted : ℕ) (ds : List Document) → counted ≤ 16384
    → all_transitions_broken features item counted ds ≡ [] → counted + sum_by (λ d. length (given_transitions d)) ds ≤ 16384
all_transitions_few features item counted [] few none = omega arith
all_transitions_few features item counted (d ∷ ds) few none =
    let parts = nothing_left (system_transitions_broken features item counted d) (all_transitions_broken features (item + 1) (counted + length (given_transitions d)) ds) none in
    let own = nothing_left (faults_at Transitions item 0 (requires 2 (may_have is_list_value (codes "transitions") d)))
    (transitions_broken features item counted (names_given d) 0 (given_transitions d)) parts.0 in
    let here = transitions_few features item counted (names_given d) 0 (given_transitions d) (omega arith) own.1 in
    let rest = all_transitions_few features (item + 1) (counted + length (given_transitions d)) ds (omega arith) parts.1 in
    rw (sum_by-cons (λ x. length (given_transitions x)) d ds) (omega arith)

-- the states of all systems, and their transitions, are within the limits
pub states_in_all : (labels : List (List ℕ)) (systems : List Document) → all_states_broken labels 0 0 systems ≡ [] → sum_by (λ d. length (given_states d)) systems ≤ 4096
states_in_all labels systems none = let few = all_states_few labels 0 0 systems (omega arith) none in omega arith

pub transitions_in_all : (features : List (List ℕ)) (systems : List Document) → all_transitions_broken features 0 0 systems ≡ []
    → sum_by (λ d. length (given_transitions d)) systems ≤ 16384
transitions_in_all features systems none = let few = all_transitions_few features 0 0 systems (omega arith) none in omega arith

-- ---- sums over a list

-- each of the sum is at most the sum
pub each_in_sum : {X : Type 0} (f : X → ℕ) (limit : ℕ) (xs : List X) → sum_by f xs ≤ limit → AllByRecursion (λ x. f x ≤ limit) xs
each_in_sum f limit [] few = tt
each_in_sum f limit (x ∷ xs) few =
    let sum : f x + sum_by f xs ≤ limit = subst (λ n. n ≤ limit) (sum_by-cons f x xs) few in
    (omega arith, each_in_sum f limit xs (omega arith))

-- a sum over what is made of the items
pub sum_of_map : {X Y : Type 0} (f : Y → ℕ) (g : X → Y) (h : X → ℕ) → ((x : X) → f (g x) ≡ h x) → (xs : List X) → sum_by f (map g xs) ≡ sum_by h xs
sum_of_map f g h same [] = refl
sum_of_map f g h same (x ∷ xs) =
    sum_by-cons f (g x) (map g xs) ∙ (ap (λ n. n + sum_by f (map g xs)) (same x) ∙ ap (λ n. h x + n) (sum_of_map f g h same xs)) ∙ sym (sum_by-cons h x xs)
