-- The cut of a lifted case at a valid world is the product's own case, and a node is found in it exactly where it is there.
use Rattle.std.proofs.Common.{◌≡◌, ◌≢◌, List, map, length, Bool, Some, None, sym, ap, ◌∙◌}
use Rattle.std.specs.Prelude.{cond, filter, find, bytes_eq, IsTrue}
use Rattle.std.proofs.lemmas.List.{length-map}
use Rattle.meaning.specs.Features.{is_valid}
use Rattle.meaning.specs.CaseFiles.{CaseDocument, holds, cut}
use Rattle.meaning.specs.Derivation.{Bundle, case_at}
use Rattle.meaning.specs.Tidy.{instance_at, node_with_key, presence_of}
use Rattle.meaning.proofs.CutTrees.{Each}
use Rattle.meaning.proofs.EachMembers.{each_by}
use Rattle.meaning.proofs.ValidWorlds.{valid_is_long}
use Rattle.meaning.proofs.EachMembers.{each_from_members}
use Rattle.lifting.specs.Lifting.{key_seen}
use Rattle.lifting.specs.LiftedCases.{there_in, seen_in, IsLiftedCase}
use Rattle.meaning.proofs.Pairs.{Pairwise}
use Rattle.lifting.proofs.CutInstances.{cut_is_instance}
use Rattle.lifting.proofs.FoundNodes.{IsFoundWhereThere, each_found_there}

module _ (k : CaseDocument) (b : Bundle) (h : IsLiftedCase k b) where
  -- a world that is valid has a truth value for each feature of the case
  pub valid_worlds_fit : (w : List Bool) → IsTrue (is_valid b.line w) → length w ≡ length k.features
  valid_worlds_fit w v = valid_is_long b.line w v ∙ sym (length-map b.line.features (λ f. f.name)) ∙ ap length (sym h.features)

  module _ (w : List Bool) (v : IsTrue (is_valid b.line w)) where
    pub cut_is_case : cut k w ≡ case_at b w
    unfolding case_at
    cut_is_case =
        cut_is_instance k w h.notes h.of_nodes (instance_at b w)
        (each_from_members (λ r. holds k w r.presence ≡ holds k w (presence_of k r.target)) k.relations (λ r c. h.relations_with_targets r c w (valid_worlds_fit w v))) (h.lifts w v)

    instance_nodes : (instance_at b w).nodes ≡ map (seen_in k w) (filter (there_in k w) h.notes)
    instance_nodes = sym (ap (λ t. t.nodes) (h.lifts w v).cuts)

    -- where the keys differ a node is found under its key, exactly where it is there
    pub found_in_product : Pairwise (λ n m. n.0.key ≢ m.0.key) h.notes
        → Each (λ n. node_with_key b w n.0.key ≡ cond (there_in k w n) (Some (seen_in k w n)) None) h.notes
    found_in_product d =
        each_by (IsFoundWhereThere (there_in k w) (seen_in k w) h.notes) _
        (λ n f. ap (find (λ s. bytes_eq (key_seen s) n.0.key)) instance_nodes ∙ f) h.notes
        (each_found_there (there_in k w) (seen_in k w) h.notes d)
