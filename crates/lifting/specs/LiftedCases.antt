-- A lifted case of a bundle: at every valid world it is left with the product's own instance.
use Rattle.std.specs.Prelude.{◌≡◌, ℕ, List, [], ◌∷◌, map, length, Bool, true, false, ◌&&◌, Some, IsTrue, IsFalse, Contains}
use Rattle.std.specs.List.{list_any, slice_get}
use Rattle.meaning.specs.Features.{feature_names, is_valid}
use Rattle.meaning.specs.Systems.{is_number}
use Rattle.meaning.specs.Templates.{Findings, Check}
use Rattle.meaning.specs.CaseFiles.{CaseDocument, CaseNode, CaseRelation, CaseSystem, Finding, holds, node_at_world}
use Rattle.meaning.specs.TableOrder.{conditions_of}
use Rattle.meaning.specs.Derivation.{Bundle}
use Rattle.meaning.specs.Tidy.{ValidWorld, Among, Ascend, AreConditionsOf, TellsCheck, TidySystem, IsChecked, instance_at, same_tuple, is_tuple, names_of_tuple, name_of_element, presence_of, possible_keys}
use Rattle.meaning.proofs.CutTrees.{Tree, Each}
use Rattle.meaning.proofs.CutCases.{case_tree, plain_relation}
use Rattle.lifting.specs.Lifting.{Seen, Lifts}
use Rattle.lifting.specs.RootedTrees.{IsRooted}

-- a node of the case, and what the product's instance tells of it at each world at which it is there
abbrev pub Noted : Type 0
Noted = CaseNode × (List Bool → Findings)

abbrev pub there_in : CaseDocument → List Bool → Noted → Bool
there_in k w n = holds k w n.0.presence

abbrev pub seen_in : CaseDocument → List Bool → Noted → Seen
seen_in k w n = (node_at_world k w n.0, n.1 w)

abbrev pub noted_tree : CaseDocument → List Noted → Tree Noted
noted_tree k notes = record { nodes = notes; relations = map plain_relation k.relations }

-- a finding tells the check; it is refuted only where its node is there; its targets and witnesses are the last states and the first answers that occur
pub record IsLiftedFinding (b : Bundle) (k : CaseDocument) (n : Noted) (f : Finding) : Type 0 where
  pub tells : (w : List Bool) → IsTrue (is_valid b.line w) → there_in k w n ≡ true → (c : Check) → (n.1 w).check ≡ Some c
      → TellsCheck b k (n.1 w).system c f.check
  pub only_there : (w : List Bool) → IsTrue (is_valid b.line w) → there_in k w n ≡ false → holds k w f.refuted ≡ false
  pub targets_ascend : Ascend (map (λ t. t.0 ∷ []) f.targets)
  pub targets : AreConditionsOf k b (λ w s. there_in k w n && is_number s (n.1 w).last) (map (λ t. t.0) f.targets) (map (λ t. t.1) f.targets)
  pub tuples_of_witnesses : List (List ℕ)
  pub witnesses_ascend : Ascend tuples_of_witnesses
  pub witnesses_named : map (λ x. x.0) f.witnesses ≡ map (names_of_tuple b) tuples_of_witnesses
  pub witnesses : AreConditionsOf k b (λ w t. there_in k w n && is_tuple t (n.1 w).first) tuples_of_witnesses (map (λ x. x.1) f.witnesses)

-- a node is there at some valid world; it has one branch for each tuple that answers at one
pub record IsLiftedNode (b : Bundle) (k : CaseDocument) (n : Noted) : Type 0 where
  pub occurs : (w : ValidWorld b) × IsTrue (there_in k w.0 n)
  pub parts : (w : List Bool) → IsTrue (is_valid b.line w) → there_in k w n ≡ true → n.0.parts ≡ (n.1 w).parts
  pub answers : List (List ℕ)
  pub answers_ascend : Ascend answers
  pub branches : AreConditionsOf k b (λ w t. there_in k w n && list_any (same_tuple t) (n.1 w).branches) answers n.0.branches
  pub finding : (f : Finding) → n.0.finding ≡ Some f → IsLiftedFinding b k n f

pub record IsLiftedCase (k : CaseDocument) (b : Bundle) : Type 0 where
  pub title : k.title ≡ b.title
  pub features : k.features ≡ feature_names b.line
  pub valid : (w : List Bool) → length w ≡ length k.features → holds k w k.valid ≡ is_valid b.line w
  pub nowhere_else : (id : ℕ) → Contains (conditions_of k) id → (w : List Bool) → length w ≡ length k.features
      → IsFalse (is_valid b.line w) → holds k w id ≡ false
  -- the nodes with their notes, as a tree, are at each valid world left with the product's instance
  pub notes : List Noted
  pub of_nodes : map (λ n. n.0) notes ≡ k.nodes
  pub lifts : (w : List Bool) → IsTrue (is_valid b.line w) → Lifts (there_in k w) (seen_in k w) (noted_tree k notes) true (instance_at b w)
  pub rooted : IsRooted (λ n. n.key) (case_tree k)
  pub keys : Among (map (λ n. n.key) k.nodes) (possible_keys b)
  pub nodes : Each (IsLiftedNode b k) notes
  pub relations_with_targets : (r : CaseRelation) → Contains k.relations r → (w : List Bool) → length w ≡ length k.features
      → holds k w r.presence ≡ holds k w (presence_of k r.target)
  pub systems : (x : CaseSystem) → Contains k.systems x → TidySystem b k x
  pub systems_in_order : Among (map (λ x. x.element) k.systems) (map (λ s. name_of_element b s.element) b.model.systems)
  pub systems_of_findings : (i : ℕ) (x : CaseSystem) → slice_get k.systems i ≡ Some x → IsChecked k i
