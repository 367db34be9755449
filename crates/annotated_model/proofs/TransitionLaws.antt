-- The rules at transitions, read one after another, are those of the definitions.
use Rattle.std.proofs.Common.{◌≡◌, refl, ap, ◌∙◌, ℕ, ◌+◌, List, [], ◌∷◌, ◌++◌, length}
use Rattle.std.specs.Prelude.{codes, ◌&&◌}
use Rattle.std.specs.List.{enumerate_from}
use Rattle.meaning.specs.Texts.{flat}
use Rattle.meaning.specs.Documents.{Document, text_at, list_at}
use Rattle.meaning.specs.BundlePlaces.{Transitions, requires, where_formed, faults_at, may_have, is_list_value, is_among}
use Rattle.meaning.specs.LineRules.{is_within, expression_rules}
use Rattle.meaning.specs.ModelRules.{ModelContext, context_of, items_in, state_names, counted_before, faults_in_item, ends_are_states, transition_rules}
use Rattle.annotated_model.specs.Parts.{transition_faults}
use Rattle.annotated_model.specs.TransitionRules.{given_transitions, transition_form, ends_broken, transition_broken, transitions_broken, system_transitions_broken, all_transitions_broken}
use Rattle.annotated_model.proofs.LinkLaws.{among_place}
use Rattle.annotated_model.proofs.StateLaws.{before_place, one_more, one_longer, counted_in, one_counted}

module _ (c : ModelContext) where
  ends_are : (states : List (List ℕ)) (d : Document)
      → requires 22 (is_among states (text_at (codes "from") d) && is_among states (text_at (codes "to") d)) ≡ ends_broken states d
  ends_are states d =
      rw (among_place states states (text_at (codes "from") d) refl, among_place states states (text_at (codes "to") d) refl) refl

  rules_by : (n i k : ℕ) (d : Document) → List (ℕ × ℕ) → List (ℕ × ℕ)
  rules_by n i k d ends = where_formed (transition_form (is_within 16384 (n + k)) d) (expression_rules c.features (codes "when") d ++ ends)

  rules_are : (i : ℕ) (system : Document) (k : ℕ) (d : Document)
      → transition_rules c (i, system) (k, d) ≡ rules_by (counted_before (codes "transitions") (items_in c (codes "systems")) i) i k d (requires 22 (ends_are_states system d))
  unfolding transition_rules rules_by
  rules_are i system k d = refl

  broken_are : (n i : ℕ) (system : Document) (k : ℕ) (d : Document) → rules_by n i k d (ends_broken (state_names system) d) ≡ transition_broken c.features n (state_names system) k d
  unfolding rules_by
  broken_are n i system k d = refl

  module _ (i : ℕ) (system : Document) (counted : ℕ) (count : counted_before (codes "transitions") (items_in c (codes "systems")) i ≡ counted) where
    walk : (k : ℕ) (ds : List Document)
        → flat (λ t. faults_at Transitions i t.0 (transition_rules c (i, system) t)) (enumerate_from k ds) ≡ transitions_broken c.features i counted (state_names system) k ds
    walk k [] = refl
    walk k (d ∷ ds) =
        let here : transition_rules c (i, system) (k, d) ≡ transition_broken c.features counted (state_names system) k d =
        rules_are i system k d ∙ (ap (λ n. rules_by n i k d (requires 22 (ends_are_states system d))) count
        ∙ (ap (rules_by counted i k d) (ends_are (state_names system) d) ∙ broken_are counted i system k d)) in
        ap (λ broken. faults_at Transitions i k broken ++ flat (λ t. faults_at Transitions i t.0 (transition_rules c (i, system) t)) (enumerate_from (k + 1) ds)) here
        ∙ ap (λ fs. faults_at Transitions i k (transition_broken c.features counted (state_names system) k d) ++ fs) (walk (k + 1) ds)

    in_system : faults_in_item Transitions (codes "transitions") (transition_rules c (i, system)) (i, system) ≡ system_transitions_broken c.features i counted system
    in_system = ap (λ fs. faults_at Transitions i 0 (requires 2 (may_have is_list_value (codes "transitions") system)) ++ fs) (walk 0 (given_transitions system))

  in_systems : (before ds : List Document) (i counted : ℕ) → before ++ ds ≡ items_in c (codes "systems") → length before ≡ i → counted_in (codes "transitions") before ≡ counted
      → flat (λ x. faults_in_item Transitions (codes "transitions") (transition_rules c x) x) (enumerate_from i ds) ≡ all_transitions_broken c.features i counted ds
  in_systems before [] i counted whole many count = refl
  in_systems before (d ∷ ds) i counted whole many count =
      let so_far : counted_before (codes "transitions") (items_in c (codes "systems")) i ≡ counted =
      ap (counted_in (codes "transitions")) (before_place before (d ∷ ds) (items_in c (codes "systems")) i whole many) ∙ count in
      let rest = in_systems (before ++ d ∷ []) ds (i + 1) (counted + length (given_transitions d)) (one_more before ds (items_in c (codes "systems")) d whole) (one_longer before d i many)
      (one_counted (codes "transitions") before d counted count) in
      ap (λ fs. fs ++ flat (λ x. faults_in_item Transitions (codes "transitions") (transition_rules c x) x) (enumerate_from (i + 1) ds)) (in_system i d counted so_far)
      ∙ ap (λ fs. system_transitions_broken c.features i counted d ++ fs) rest

pub transition_faults_are : (features : List (List ℕ)) (model : Document)
    → transition_faults features model ≡ all_transitions_broken features 0 0 (list_at (codes "systems") model)
transition_faults_are features model = in_systems (context_of features model) [] (list_at (codes "systems") model) 0 0 refl refl refl
