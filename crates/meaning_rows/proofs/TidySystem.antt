-- The built case of a system, word by word against the products of its bundle: what makes it a tidy one, computed by the check.
use Rattle.std.specs.Prelude.{◌≡◌, ℕ, List, [], ◌∷◌, map, Bool, true, false, Option, Some, None, refl, codes, option_map, option_and_then, bytes_eq}
use Rattle.meaning.specs.Documents.{Json, document_of}
use Rattle.meaning.specs.CaseFiles.{CaseDocument, holds, cut}
use Rattle.meaning.specs.CaseReading.{read_case, Broken, Is}
use Rattle.meaning.specs.Derivation.{Bundle, bundle_of, case_at}
use Rattle.meaning.specs.Models.{model_at, system_of}
use Rattle.meaning.specs.Systems.{Never, is_closed, run_to}
use Rattle.meaning.specs.Expressions.{Name}
use Rattle.meaning.specs.Tidy.{findings_at, node_with_key, has_branch, has_last, is_refuted_there, reachable_at, goes_back_at, possible_keys, all_differ}
use Rattle.meaning_rows.proofs.TramDoors.{tram_bundle}
use Rattle.meaning_rows.proofs.Samples.{system_bundle, system_case, meaning_on_literals}

-- the valid worlds of three features, the root and two under it
products : List (List Bool)
products =
    (true ∷ false ∷ false ∷ []) ∷ (true ∷ false ∷ true ∷ []) ∷ (true ∷ true ∷ false ∷ []) ∷ (true ∷ true ∷ true ∷ []) ∷ []

case_says : {A : Type 0} → (CaseDocument → List Bool → A) → Option (List A)
case_says {A = A} test = elim (read_case system_case) as (λ _. Option (List A)) [ Broken f ↦ None | Is k ↦ Some (map (test k) products) ]

bundle_says : {A : Type 0} → (Bundle → List Bool → A) → Option (List A)
bundle_says test = option_map (λ d. map (test (bundle_of d)) products) (document_of Json system_bundle)

-- the truth of a condition at the four products
condition_says : ℕ → Option (List Bool)
condition_says id = case_says (λ k w. holds k w id)

solution_key : List ℕ
solution_key = codes "0/1/0:2/3"

cuts_are_the_products : case_says cut ≡ bundle_says case_at
unfolding meaning_on_literals products case_says bundle_says
cuts_are_the_products = refl

branch_is_the_answer : condition_says 2 ≡ bundle_says (λ b w. has_branch (0 ∷ []) (findings_at b w (codes "0/1")))
unfolding meaning_on_literals products case_says bundle_says condition_says
branch_is_the_answer = refl

refuted_without_the_first_feature : condition_says 4 ≡ Some (true ∷ true ∷ false ∷ false ∷ [])
unfolding meaning_on_literals products case_says condition_says
refuted_without_the_first_feature = refl

refuted_where_the_product_is : condition_says 4 ≡ bundle_says (λ b w. is_refuted_there (node_with_key b w solution_key))
unfolding meaning_on_literals products case_says bundle_says condition_says solution_key
refuted_where_the_product_is = refl

target_is_the_last_state : condition_says 4 ≡ bundle_says (λ b w. has_last 3 (findings_at b w solution_key))
unfolding meaning_on_literals products case_says bundle_says condition_says solution_key
target_is_the_last_state = refl

no_other_state_is_the_last : condition_says 0 ≡ bundle_says (λ b w. has_last 2 (findings_at b w solution_key))
unfolding meaning_on_literals products case_says bundle_says condition_says solution_key
no_other_state_is_the_last = refl

third_state_is_always_reached : condition_says 2 ≡ bundle_says (λ b w. reachable_at b 0 2 w)
unfolding meaning_on_literals products case_says bundle_says condition_says
third_state_is_always_reached = refl

bad_state_is_reached_where_it_may : condition_says 4 ≡ bundle_says (λ b w. reachable_at b 0 3 w)
unfolding meaning_on_literals products case_says bundle_says condition_says
bad_state_is_reached_where_it_may = refl

runs_go_back_over_the_second_step : condition_says 2 ≡ bundle_says (λ b w. goes_back_at b 0 1 2 w)
unfolding meaning_on_literals products case_says bundle_says condition_says
runs_go_back_over_the_second_step = refl

runs_go_back_over_the_slip_where_it_is : condition_says 4 ≡ bundle_says (λ b w. goes_back_at b 0 2 3 w)
unfolding meaning_on_literals products case_says bundle_says condition_says
runs_go_back_over_the_slip_where_it_is = refl

-- ---- the invariant and the run that a build promises

-- the states that the case says to be reached are closed in the product and have no bad one, exactly where the check isn't refuted
reached_states_are_safe : option_map (λ d. map (λ w. option_map
    (λ s. is_closed 1 s (Never (Name 0)) (true ∷ true ∷ true ∷ false ∷ [])) (system_of (model_at (bundle_of d).model w) 0)) products)
    (document_of Json system_bundle)
    ≡ Some (Some false ∷ Some false ∷ Some true ∷ Some true ∷ [])
unfolding meaning_on_literals products
reached_states_are_safe = refl

run_at_the_first_product : option_and_then (λ d. option_map (λ s. run_to s 3) (system_of (model_at (bundle_of d).model (true ∷ false ∷ false ∷ [])) 0))
    (document_of Json system_bundle) ≡ Some (0, 0 ∷ 2 ∷ [])
unfolding meaning_on_literals
run_at_the_first_product = refl

-- ---- keys of the tram

-- some of the keys, in their order
is_among : List (List ℕ) → List (List ℕ) → Bool
is_among [] ks = true
is_among (s ∷ ss) [] = false
is_among (s ∷ ss) (k ∷ ks) = is_among (elim (bytes_eq s k) as (λ _. List (List ℕ)) [ true ↦ ss | false ↦ s ∷ ss ]) ks

tram_night : List Bool
tram_night = true ∷ true ∷ true ∷ false ∷ true ∷ true ∷ false ∷ false ∷ false ∷ true ∷ false ∷ true ∷ []

keys_of_the_tram_stand_in_order :
    option_map (λ d. is_among (map (λ n. n.key) (case_at (bundle_of d) tram_night).nodes) (possible_keys (bundle_of d))) (document_of Json tram_bundle) ≡ Some true
unfolding meaning_on_literals tram_bundle tram_night possible_keys is_among
keys_of_the_tram_stand_in_order = refl

possible_keys_of_the_tram_differ : option_map (λ d. all_differ (possible_keys (bundle_of d))) (document_of Json tram_bundle) ≡ Some true
unfolding meaning_on_literals tram_bundle possible_keys
possible_keys_of_the_tram_differ = refl
