-- A case document whose tree with notes is left with an instance at a world is cut there to the instance's case.
use Rattle.std.proofs.Common.{◌≡◌, List, map, Bool, true, sym, ap, ◌∙◌}
use Rattle.std.specs.Prelude.{filter}
use Rattle.meaning.specs.Cases.{Node, Case}
use Rattle.meaning.specs.CaseFiles.{CaseDocument, cut, holds, node_at_world}
use Rattle.meaning.specs.Templates.{Instance, case_of}
use Rattle.meaning.specs.Tidy.{presence_of}
use Rattle.meaning.proofs.CutTrees.{Each, cut_tree, tree_map}
use Rattle.meaning.proofs.CutCases.{as_case, case_tree, is_node_there, plain_relation, IsImplied, cut_is_tree, implied_by_target}
use Rattle.meaning.proofs.EachMembers.{each_by}
use Rattle.meaning.proofs.MappedLists.{map_of_map}
use Rattle.lifting.specs.Lifting.{Lifts}
use Rattle.lifting.specs.LiftedCases.{Noted, there_in, seen_in, noted_tree}
use Rattle.lifting.proofs.MappedTrees.{cut_mapped}

module _ (k : CaseDocument) (w : List Bool) (notes : List Noted) (of_nodes : map (λ n. n.0) notes ≡ k.nodes) (i : Instance)
    (with_targets : Each (λ r. holds k w r.presence ≡ holds k w (presence_of k r.target)) k.relations)
    (lifts : Lifts (there_in k w) (seen_in k w) (noted_tree k notes) true i) where
  noted_is : case_tree k ≡ tree_map (λ n. n.0) (noted_tree k notes)
  noted_is = ap (λ ns. record { nodes = ns; relations = map plain_relation k.relations }) (sym of_nodes)

  pub cut_is_instance : cut k w ≡ case_of i
  cut_is_instance =
      cut_is_tree k w (each_by (λ r. holds k w r.presence ≡ holds k w (presence_of k r.target)) (IsImplied k w) (implied_by_target k w) k.relations with_targets)
      ∙ ap (λ t. as_case (tree_map (node_at_world k w) (cut_tree (is_node_there k w) t))) noted_is
      ∙ ap (λ t. as_case (tree_map (node_at_world k w) t)) (cut_mapped (is_node_there k w) (λ n. n.0) (noted_tree k notes))
      ∙ ap (λ ns. of_both ns) (map_of_map (node_at_world k w) (λ n. n.0) there ∙ sym (map_of_map (λ s. s.0) (seen_in k w) there))
      ∙ ap (λ t. as_case (tree_map (λ s. s.0) t)) lifts.cuts
    where
      there : List Noted
      there = filter (there_in k w) notes

      of_both : List Node → Case
      of_both ns = record { nodes = ns; relations = (cut_tree (there_in k w) (noted_tree k notes)).relations }
