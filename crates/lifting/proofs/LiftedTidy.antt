-- A lifted case is tidy.
use Rattle.std.proofs.Common.{◌≡◌, ◌≢◌, ◌^◌, ◌≤◌, List, [], ◌∷◌, map, length, Bool, Some, None, sym, ap, ◌∙◌, subst}
use Rattle.std.specs.Prelude.{cond, pred, IsTrue, Contains}
use Rattle.meaning.specs.Texts.{numbers_from}
use Rattle.meaning.specs.Features.{is_valid}
use Rattle.meaning.specs.Cases.{Node}
use Rattle.meaning.specs.CaseFiles.{CaseDocument, CaseRelation, cut}
use Rattle.meaning.specs.Derivation.{Bundle, case_at}
use Rattle.meaning.specs.Tidy.{Tidy, TidyNode, ValidWorld, node_with_key, key_above, key_of}
use Rattle.meaning.proofs.CutTrees.{Each}
use Rattle.meaning.proofs.CutCases.{plain_relation}
use Rattle.meaning.proofs.EachMembers.{each_by}
use Rattle.meaning.proofs.MappedLists.{map_of_map}
use Rattle.meaning.proofs.EachMembers.{each_member}
use Rattle.meaning.proofs.CutKeys.{cut_keys}
use Rattle.lifting.specs.LiftedCases.{there_in, seen_in, IsLiftedNode, IsLiftedCase}
use Rattle.meaning.proofs.Pairs.{pairs_from_map, Pairwise, each_of_map, all_differ_from_pairs}
use Rattle.lifting.proofs.AmongLists.{among_pairs}
use Rattle.meaning.proofs.KeysDiffer.{AreFew, possible_keys_under}
use Rattle.lifting.proofs.LiftedNotes.{tidy_node}
use Rattle.lifting.proofs.LiftedCuts.{cut_is_case, found_in_product}
use Rattle.meaning.proofs.Lists.{each_two, each_for_all}

module _ (k : CaseDocument) (b : Bundle) (few_elements : length b.model.elements ≤ 2 ^ 64) (few_nodes : AreFew b.templates) (h : IsLiftedCase k b) where
  keys_differ : Pairwise (λ s t. s ≢ t) (map (λ n. n.key) k.nodes)
  keys_differ = among_pairs (λ s t. s ≢ t) h.keys (possible_keys_under b few_elements few_nodes).differ

  notes_differ : Pairwise (λ n m. n.0.key ≢ m.0.key) h.notes
  notes_differ =
      pairs_from_map (λ s t. s ≢ t) (λ n. n.0.key) h.notes
      (subst (Pairwise (λ s t. s ≢ t)) (sym (ap (map (λ n. n.key)) h.of_nodes) ∙ map_of_map (λ n. n.key) (λ n. n.0) h.notes) keys_differ)

  each_found : Each (λ n. (w : ValidWorld b) → node_with_key b w.0 n.0.key ≡ cond (there_in k w.0 n) (Some (seen_in k w.0 n)) None) h.notes
  each_found = each_for_all (λ w n. node_with_key b w.0 n.0.key ≡ cond (there_in k w.0 n) (Some (seen_in k w.0 n)) None) h.notes (λ w. found_in_product k b h w.0 w.1 notes_differ)

  tidy_nodes : Each (TidyNode b k) k.nodes
  tidy_nodes =
      subst (Each (TidyNode b k)) h.of_nodes
      (each_of_map (TidyNode b k) (λ n. n.0) h.notes
      (each_by _ (λ n. TidyNode b k n.0) (λ n p. tidy_node b k n (λ w v. p.1 (w, v)) p.0) h.notes (each_two (IsLiftedNode b k) _ h.notes h.nodes each_found)))

  every_key : (w : List Bool) → IsTrue (is_valid b.line w) → (n : Node) → Contains (case_at b w).nodes n → Contains (map (λ m. m.key) k.nodes) n.key
  every_key w v n c =
      each_member (λ m. Contains (map (λ m. m.key) k.nodes) m.key) (cut k w).nodes (cut_keys k w) n
      (subst (λ x. Contains x.nodes n) (sym (cut_is_case k b h w v)) c)

  one_relation_each : map (λ r. r.target) k.relations ≡ numbers_from 1 (pred (length k.nodes))
  one_relation_each = sym (map_of_map (λ r. r.target) plain_relation k.relations) ∙ h.rooted.targets

  from_above : (r : CaseRelation) → Contains k.relations r → key_of k r.source ≡ key_above (key_of k r.target)
  from_above r c = each_member (λ r. key_of k r.source ≡ key_above (key_of k r.target)) k.relations (plain k.relations h.rooted.above) r c
    where
      plain : (rs : List CaseRelation) → Each (λ r. key_of k r.source ≡ key_above (key_of k r.target)) (map plain_relation rs) → Each (λ r. key_of k r.source ≡ key_above (key_of k r.target)) rs
      plain [] h = tt
      plain (r ∷ rs) h = (h.0, plain rs h.1)

  -- all that makes a case tidy
  pub lifted_is_tidy : Tidy k b
  lifted_is_tidy = record {
    title = h.title;
    features = h.features;
    valid = h.valid;
    nowhere_else = h.nowhere_else;
    every_key = λ w n c. every_key w.0 w.1 n c;
    each_once = all_differ_from_pairs (map (λ n. n.key) k.nodes) keys_differ;
    in_order = h.keys;
    cuts = cut_is_case k b h;
    nodes = λ n c. each_member (TidyNode b k) k.nodes tidy_nodes n c;
    one_relation_each = one_relation_each;
    relations_from_above = from_above;
    relations_with_targets = h.relations_with_targets;
    systems = h.systems;
    systems_in_order = h.systems_in_order;
    systems_of_findings = h.systems_of_findings;
  }
