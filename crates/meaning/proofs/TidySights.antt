-- What a tidy case has at a valid world: the node of each key that the product has, and the node above each that is there.
use Rattle.std.proofs.Common.{◌≡◌, ◌≢◌, ℕ, List, [], ◌∷◌, map, Bool, true, false, ◌&&◌, Some, None, Option, refl, sym, ap, ◌∙◌, subst, inl, inr}
use Rattle.std.specs.Prelude.{cond, filter, find, bytes_eq, is_some, IsTrue}
use Rattle.meaning.specs.Features.{is_valid}
use Rattle.meaning.specs.Cases.{Node}
use Rattle.meaning.specs.Templates.{Findings}
use Rattle.meaning.specs.CaseFiles.{CaseDocument, CaseNode, holds, cut, node_at_world, relation_at_world, is_there}
use Rattle.meaning.specs.Derivation.{Bundle, case_at}
use Rattle.meaning.specs.Tidy.{Tidy, ValidWorld, node_with_key, instance_at, possible_keys, name_of_element, key_above}
use Rattle.meaning.proofs.SeenLists.{IsThat, seen_is_that}
use Rattle.meaning.proofs.CutTrees.{Each}
use Rattle.meaning.proofs.Members.{Member, Pairwise, member_each, member_mapped, mapped_member, member_kept, contains_member}
use Rattle.meaning.proofs.Pairs.{pairs_from_all_differ}
use Rattle.meaning.proofs.EqualityTests.{equal_texts, none_is_some, some_is}
use Rattle.meaning.proofs.InstanceNodes.{Seen}
use Rattle.meaning.proofs.UpperKeys.{key_seen}

-- what the rules of bundles give: no possible key and no element with a system stands twice, and the node above a node is there
pub record HasProperNames (b : Bundle) : Type 0 where
  pub keys : Pairwise (λ s t. s ≢ t) (possible_keys b)
  pub owners : Pairwise (λ s t. s ≢ t) (map (λ s. name_of_element b s.element) b.model.systems)
  pub upper : (w : List Bool) → Each (λ s. Member (key_above s.0.key) (map key_seen (instance_at b w).nodes)) (instance_at b w).nodes

-- ---- a key that some product has

pub record Sight (b : Bundle) (key : List ℕ) : Type 0 where
  pub world : List Bool
  pub valid : IsTrue (is_valid b.line world)
  pub node : Node
  pub findings : Findings
  pub found : node_with_key b world key ≡ Some (node, findings)

pub found_member : {A : Type 0} (p : A → Bool) (xs : List A) (z : A) → find p xs ≡ Some z → Member z xs × (p z ≡ true)
found_member p [] z e = elim (none_is_some z e) [ ]
found_member {A = A} p (x ∷ xs) z e = go (p x) refl e (λ f. found_member p xs z f)
  where
    go : (b : Bool) → p x ≡ b → cond b (Some x) (find p xs) ≡ Some z → (find p xs ≡ Some z → Member z xs × (p z ≡ true)) → Member z (x ∷ xs) × (p z ≡ true)
    go true g f later = (inl (some_is x z f), sym (ap p (some_is x z f)) ∙ g)
    go false g f later = (inr (later f).0, (later f).1)

pub sight_of : (b : Bundle) (key : List ℕ) → (w : ValidWorld b) × IsTrue (is_some (node_with_key b w.0 key)) → Sight b key
sight_of b key o = go (node_with_key b o.0.0 key) refl o.1
  where
    go : (n : Option (Node × Findings)) → node_with_key b o.0.0 key ≡ n → IsTrue (is_some n) → Sight b key
    go None e t = elim (no_true t) [ ]
      where
        no_true : false ≡ true → ⊥
        no_true h = cc
    go (Some x) e t = record { world = o.0.0; valid = o.0.1; node = x.0; findings = x.1; found = e }

module _ (b : Bundle) (key : List ℕ) (s : Sight b key) where
  pub sight_in_instance : Member (s.node, s.findings) (instance_at b s.world).nodes
  sight_in_instance = (found_member (λ n. bytes_eq n.0.key key) (instance_at b s.world).nodes (s.node, s.findings) s.found).0

  pub sight_key : s.node.key ≡ key
  sight_key = equal_texts s.node.key key (found_member (λ n. bytes_eq n.0.key key) (instance_at b s.world).nodes (s.node, s.findings) s.found).1

  pub sight_in_case : Member s.node (case_at b s.world).nodes
  unfolding case_at
  sight_in_case = member_mapped (λ n. n.0) (s.node, s.findings) (instance_at b s.world).nodes sight_in_instance

-- ---- the case at a valid world

module _ (b : Bundle) (k : CaseDocument) (tidy : Tidy k b) where
  pub keys_differ : Pairwise (λ s t. s ≢ t) (map (λ n. n.key) k.nodes)
  keys_differ = pairs_from_all_differ (map (λ n. n.key) k.nodes) tidy.each_once

  module _ (w : List Bool) (v : IsTrue (is_valid b.line w)) where
    pub nodes_at : map (node_at_world k w) (filter (λ n. holds k w n.presence) k.nodes) ≡ (case_at b w).nodes
    unfolding cut
    nodes_at = ap (λ c. c.nodes) (tidy.cuts w v)

    pub relations_at : map (relation_at_world k w) (filter (λ r. holds k w r.presence && is_there k w r.source && is_there k w r.target) k.relations) ≡ (case_at b w).relations
    unfolding cut
    relations_at = ap (λ c. c.relations) (tidy.cuts w v)

    -- the node with the key of a node of the product is that node, and is there
    pub node_is_that : (z : Node) → Member z (case_at b w).nodes → (n : CaseNode) → Member n k.nodes → n.key ≡ z.key → (holds k w n.presence ≡ true) × (node_at_world k w n ≡ z)
    node_is_that z m n there e =
        member_each (IsThat (λ x. x.key) (λ n. holds k w n.presence) (node_at_world k w) (λ n. n.key) (λ n. refl) z) k.nodes
        (seen_is_that (λ x. x.key) (λ n. holds k w n.presence) (node_at_world k w) (λ n. n.key) (λ n. refl) k.nodes keys_differ z
        (subst (Member z) (sym nodes_at) m)) n there e

    -- a node that is there is a node of the product
    pub node_in_case : (n : CaseNode) → Member n k.nodes → holds k w n.presence ≡ true → Member (node_at_world k w n) (case_at b w).nodes
    node_in_case n there e =
        subst (Member (node_at_world k w n)) nodes_at
        (member_mapped (node_at_world k w) n (filter (λ n. holds k w n.presence) k.nodes) (member_kept (λ n. holds k w n.presence) k.nodes n there e))

    -- the node above a node that is there is there
    pub upper_holds : HasProperNames b → (n : CaseNode) → Member n k.nodes → holds k w n.presence ≡ true
        → (m : CaseNode) → Member m k.nodes → m.key ≡ key_above n.key → holds k w m.presence ≡ true
    unfolding case_at
    upper_holds proper n there e m other f = (node_is_that upper.0.0 (member_mapped (λ s. s.0) upper.0 (instance_at b w).nodes upper.1) m other (f ∙ sym above ∙ sym upper.2)).0
      where
        own : (s : Seen) × Member s (instance_at b w).nodes × (s.0 ≡ node_at_world k w n)
        own = mapped_member (λ s. s.0) (node_at_world k w n) (instance_at b w).nodes (node_in_case n there e)

        above : key_above own.0.0.key ≡ key_above n.key
        above = ap (λ x. key_above x.key) own.2

        upper : (s : Seen) × Member s (instance_at b w).nodes × (key_seen s ≡ key_above own.0.0.key)
        upper =
            mapped_member key_seen (key_above own.0.0.key) (instance_at b w).nodes
            (member_each (λ s. Member (key_above s.0.key) (map key_seen (instance_at b w).nodes)) (instance_at b w).nodes (proper.upper w) own.0 own.1)

  -- at the world of a sight the node with its key is what is seen
  pub sight_seen : (key : List ℕ) (s : Sight b key) (n : CaseNode) → Member n k.nodes → n.key ≡ key → (holds k s.world n.presence ≡ true) × (node_at_world k s.world n ≡ s.node)
  sight_seen key s n there e = node_is_that s.world s.valid s.node (sight_in_case b key s) n there (e ∙ sym (sight_key b key s))

  -- each node of the case has a product that has its key
  pub sight_of_node : (n : CaseNode) → Member n k.nodes → Sight b n.key
  sight_of_node n there = sight_of b n.key (tidy.nodes n (contains_member n k.nodes there)).occurs
