-- The case that a test writes breaks no rule.
use Rattle.std.proofs.Common.{◌≡◌, ℕ, ◌<◌, List, [], ◌∷◌, true, refl, arith}
use Rattle.std.specs.List.{All, list_all}
use Rattle.std.proofs.lemmas.List.Elements.{All-nil, All-from_recursion}
use Rattle.meaning.specs.Texts.{is_text}
use Rattle.lifted_case.specs.declared.lifted.LNode.{LNode}
use Rattle.lifted_case.specs.CaseContents.{NodeKeepsRules, RelationKeepsRules, SystemKeepsRules, BreaksNoRule, IsOfSystem, IsOfQuery, are_joined, TextsAreJoined}
use Rattle.lifted_case.specs.CaseWritten.{conditions_in}
use Rattle.case_tests.specs.CaseExamples.{all_checks, never_finding, deadlock_finding, no_answer, some_answer, small_system}

module _ {C : Type 0} (P : C → Type 0) where
  pub all_checks-live : (valid other never : C) → P valid → P other → P never → All P (conditions_in (all_checks valid other never))
  all_checks-live valid other never v o n = All-from_recursion P (conditions_in (all_checks valid other never)) (v, (v, (o, (o, (v, (o, (o, (v, (v, (o, (v, (n, (v, (o, (o, tt)))))))))))))))

abbrev IsJoined : {C : Type 0} → LNode C → Type 0
IsJoined n = are_joined n.text ≡ true

module _ {C : Type 0} where
  pub all_checks-texts : (valid other never : C) → TextsAreJoined (all_checks valid other never)
  all_checks-texts valid other never = All-from_recursion IsJoined (all_checks valid other never).nodes (refl, (refl, (refl, (refl, tt))))

  pub all_checks-rules : (valid other never : C) → BreaksNoRule (all_checks valid other never)
  all_checks-rules valid other never =
      let systems = (all_checks valid other never).systems in
      let never_bad : IsOfSystem systems (never_finding other) 0 = record {
        system = omega arith;
        targets = All-from_recursion (λ (t : ℕ × C). t.0 < 2) ((1, other) ∷ []) (omega arith, tt);
        no_witnesses = refl;
      } in
      let deadlock : IsOfSystem systems (deadlock_finding other) 0 = record {
        system = omega arith;
        targets = All-from_recursion (λ (t : ℕ × C). t.0 < 2) ((0, other) ∷ []) (omega arith, tt);
        no_witnesses = refl;
      } in
      let none : IsOfQuery (no_answer valid other) = record {
        names = All-from_recursion (λ (x : List (List ℕ) × C). list_all is_text x.0 ≡ true) (no_answer valid other).witnesses (refl, tt);
        no_targets = refl;
      } in
      let some : IsOfQuery (some_answer never) = record { names = All-nil (λ (x : List (List ℕ) × C). list_all is_text x.0 ≡ true); no_targets = refl } in
      record {
        title = refl;
        names = refl;
        systems = All-from_recursion SystemKeepsRules systems (
          record {
            element = refl;
            states = refl;
            actions = refl;
            each_state = refl;
            each_transition = refl;
            ends = All-from_recursion (λ (t : ℕ × ℕ × List ℕ). (t.0 < 2) × (t.1 < 2)) (small_system valid other).transitions ((omega arith, omega arith), tt);
          },
          tt,
        );
        nodes = All-from_recursion (NodeKeepsRules systems) (all_checks valid other never).nodes (record { key = refl; words = refl; branching = refl; arguing = refl; finding = (refl, (refl, never_bad)) }, (record { key = refl; words = refl; branching = refl; arguing = refl; finding = (refl, deadlock) }, (record { key = refl; words = refl; branching = refl; arguing = refl; finding = (refl, none) }, (record { key = refl; words = refl; branching = refl; arguing = refl; finding = (refl, some) }, tt))));
        relations = All-nil (RelationKeepsRules 4);
        few_features = omega arith;
        few_systems = omega arith;
        few_states = omega arith;
        few_transitions = omega arith;
        few_nodes = omega arith;
        few_relations = omega arith;
      }
