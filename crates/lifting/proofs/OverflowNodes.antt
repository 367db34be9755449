-- Nodes that were placed are entries that occur: each at the world at which it is there, each tuple of its rows at one at which it answers.
use Rattle.std.proofs.Common.{◌≡◌, ◌≢◌, ℕ, List, [], ◌∷◌, map, length, Bool, true, false, Option, refl, sym, ap, ◌∙◌, subst, arith}
use Rattle.std.specs.Prelude.{cond, filter}
use Rattle.std.specs.List.{All, AllByRecursion}
use Rattle.std.proofs.lemmas.List.{append-nil, length-map}
use Rattle.std.proofs.lemmas.List.Elements.{recursion_from_All}
use Rattle.worlds.specs.Algebra.{Algebra}
use Rattle.path_queries.specs.Answering.{Somewhere, tuples_of}
use Rattle.meaning.specs.Models.{Model, model_at}
use Rattle.meaning.specs.Templates.{Template, TemplateNode, Instance, instance_within}
use Rattle.meaning.specs.Tidy.{Among, is_before, whole_model, keys_within}
use Rattle.meaning.proofs.CutTrees.{Tree, Each, has_nodes, nodes_of}
use Rattle.meaning.proofs.MappedLists.{map_of_map}
use Rattle.lifting.specs.declared.growing.Growing.{Growing}
use Rattle.lifting.specs.Lifting.{Seen, instance_tree, left, LiftsAll}
use Rattle.lifting.specs.Noted.{Noted, note_key, there_at, seen_at, Stands, LiftsNode, LiftsBelow, entries_of}
use Rattle.lifting.specs.Sites.{AddsNode, AddsBelow}
use Rattle.lifting.specs.Overflows.{Group, count_of_groups, KeyOccurs, TupleOccurs}
use Rattle.meaning.proofs.Pairs.{Pairwise, each_of_map, pairs_by}
use Rattle.meaning.proofs.Members.{Member, member_each, each_from_members, member_kept, member_mapped, mapped_member, flat_member}
use Rattle.meaning.proofs.AscendingTuples.{before_differ, pairs_from_ascend}
use Rattle.lifting.proofs.AmongLists.{among_filtered}
use Rattle.lifting.proofs.LiftedTrees.{lifts_one}
use Rattle.lifting.proofs.OverflowSteps.{StandsIn, among_member, HasEntries, Fills}

-- ---- a node that is there is one of the instances' nodes

module _ {A : Type 0} (there : A → Bool) (seen : A → Seen) where
  has_some : (t : Tree Seen) (s : Seen) → Member s t.nodes → has_nodes t ≡ true
  has_some t s m = go t.nodes refl m
    where
      go : (ns : List Seen) → t.nodes ≡ ns → Member s ns → has_nodes t ≡ true
      go [] e m = elim m [ ]
      go (n ∷ ns) e m = ap (λ ns. elim ns as (λ _. Bool) [ [] ↦ false | n ∷ ns ↦ true ]) e

  pub stands_in_instance : (ts : List (Tree A)) (is : List Instance) → LiftsAll there seen ts is → (n : A) → Member n (nodes_of ts) → there n ≡ true → StandsIn is (seen n)
  stands_in_instance ts is h n m e = at_tree (flat_member (λ t. t.nodes) n ts m)
    where
      at_instance : (t : Tree Seen) → Member (seen n) t.nodes → (i : Instance) × Member i is × (instance_tree i ≡ t) → StandsIn is (seen n)
      at_instance t k found = (found.0, found.1, subst (λ t. Member (seen n) t.nodes) (sym found.2) k)

      at_left : (t : Tree Seen) → Member t (map (left there seen) ts) → Member (seen n) t.nodes → StandsIn is (seen n)
      at_left t l k =
          at_instance t k
          (mapped_member instance_tree t is
          (among_member t (among_filtered has_nodes (map instance_tree is))
          (subst (Member t) h.cuts (member_kept has_nodes (map (left there seen) ts) t l (has_some t (seen n) k)))))

      at_tree : (t : Tree A) × Member t ts × Member n t.nodes → StandsIn is (seen n)
      at_tree found =
          at_left (left there seen found.0) (member_mapped (left there seen) found.0 ts found.1)
          (member_mapped seen n (filter there found.0.nodes) (member_kept there found.0.nodes n found.2 e))

-- ---- what is said of all

each_from_all : {A : Type 0} (P : A → Type 0) (xs : List A) → All P xs → Each P xs
each_from_all {A} P xs h = go xs (recursion_from_All P xs h)
  where
    go : (xs : List A) → AllByRecursion P xs → Each P xs
    go [] g = tt
    go (x ∷ xs) g = (g.0, go xs g.1)

-- ---- the entries of nodes

module _ {C : Type 0} where
  -- a node's key, and the tuples of its rows
  abbrev pub group_of : Noted C → Group
  group_of n = (n.0.key, tuples_of n.1.rows)

  pub counts_of_nodes : (ns : List (Noted C)) → count_of_groups (map group_of ns) ≡ entries_of ns
  counts_of_nodes [] = refl
  counts_of_nodes (n ∷ ns) = omega (arith, length-map n.1.rows (λ r. r.0), counts_of_nodes ns)

  module _ (a : Algebra C) (is : List Bool → List Instance) where
    -- wherever the node is there, it is a node of an instance
    abbrev pub IsPlaced : Noted C → Type 0
    IsPlaced n = (x : List Bool) → a.is_world x ≡ true → n.1.there x ≡ true → StandsIn (is x) (seen_at x n)

    module _ (n : Noted C) (stands : Stands a n) (placed : IsPlaced n) where
      abbrev occurs_at : (x : List Bool) → a.is_world x ≡ true → n.1.there x ≡ true → KeyOccurs a is n.0.key
      occurs_at x w t = record {
        world = x;
        is_world = w;
        instance = (placed x w t).0;
        of_world = (placed x w t).1;
        node = seen_at x n;
        stands = (placed x w t).2;
        key = refl;
      }

      node_occurs : KeyOccurs a is n.0.key
      node_occurs = occurs_at stands.occurs.0 stands.occurs.1 (sym (stands.there stands.occurs.0 stands.occurs.1) ∙ stands.occurs.2)

      row_occurs : (r : List ℕ × C) → Member r n.1.rows → Somewhere a r.1 → TupleOccurs a is n.0.key r.0
      row_occurs r m s =
          at_world (n.1.there s.0) refl
          (subst (Member r.0) (stands.branches_exact s.0 s.1) (member_mapped (λ r. r.0) r (filter (λ r. a.holds r.1 s.0) n.1.rows) (member_kept (λ r. a.holds r.1 s.0) n.1.rows r m s.2)))
        where
          at_world : (b : Bool) → n.1.there s.0 ≡ b → Member r.0 (cond b (n.1.told s.0).branches []) → TupleOccurs a is n.0.key r.0
          at_world true e k = record { occurs = occurs_at s.0 s.1 e; branch = k }
          at_world false e k = elim k [ ]

      rows_occur : Each (TupleOccurs a is n.0.key) (tuples_of n.1.rows)
      rows_occur =
          each_of_map (TupleOccurs a is n.0.key) (λ r. r.0) n.1.rows
          (each_from_members (λ r. TupleOccurs a is n.0.key r.0) n.1.rows
          (λ r m. row_occurs r m (member_each (λ r. Somewhere a r.1) n.1.rows (each_from_all (λ r. Somewhere a r.1) n.1.rows stands.branches_occur) r m)))

      rows_once : Pairwise (λ t u. t ≢ u) (tuples_of n.1.rows)
      rows_once = pairs_by is_before (λ t u. t ≢ u) before_differ (tuples_of n.1.rows) (pairs_from_ascend (tuples_of n.1.rows) stands.branches_ascend)

    pub entries_of_nodes : (ns : List (Noted C)) (keys : List (List ℕ)) → Each (Stands a) ns → ((n : Noted C) → Member n ns → IsPlaced n) → Among (map note_key ns) keys
        → HasEntries a is keys (entries_of ns)
    entries_of_nodes ns keys stands placed keyed = record {
      groups = map group_of ns;
      keyed = subst (λ ks. Among ks keys) (sym (map_of_map (λ g. g.0) group_of ns)) keyed;
      once = each_of_map (λ g. Pairwise (λ t u. t ≢ u) g.1) group_of ns (each_from_members _ ns (λ n m. rows_once n (member_each (Stands a) ns stands n m) (placed n m)));
      keys_occur = each_of_map (λ g. KeyOccurs a is g.0) group_of ns (each_from_members _ ns (λ n m. node_occurs n (member_each (Stands a) ns stands n m) (placed n m)));
      tuples_occur = each_of_map (λ g. Each (TupleOccurs a is g.0) g.1) group_of ns (each_from_members _ ns (λ n m. rows_occur n (member_each (Stands a) ns stands n m) (placed n m)));
      counts = counts_of_nodes ns;
    }

    -- ---- of trees

    pub entries_of_trees : (trees : List (Tree (Noted C))) (keys : List (List ℕ)) → ((x : List Bool) → a.is_world x ≡ true → LiftsAll (there_at x) (seen_at x) trees (is x))
        → Each (Stands a) (nodes_of trees) → Among (map note_key (nodes_of trees)) keys → HasEntries a is keys (entries_of (nodes_of trees))
    entries_of_trees trees keys lift stands keyed =
        entries_of_nodes (nodes_of trees) keys stands (λ n m x w e. stands_in_instance (there_at x) (seen_at x) trees (is x) (lift x w) n m e) keyed

  pub groups_of_below : (a : Algebra C) (upper : List ℕ) (is : List Bool → List Instance) (keys : List (List ℕ)) (trees : List (Tree (Noted C)))
      → LiftsBelow a upper is keys trees → HasEntries a is keys (entries_of (nodes_of trees))
  groups_of_below a upper is keys trees h = entries_of_trees a is trees keys h.lift h.nodes h.keyed

  pub groups_of_node : (a : Algebra C) (m : Model) (templates : List Template) (depth : ℕ) (t : Template) (key bound : List ℕ) (n : ℕ × TemplateNode) (under : List Bool → Bool) (tree : Tree (Noted C))
      → LiftsNode a (length m.labels) m templates depth t key bound n under tree
      → HasEntries a (λ x. cond (under x) (instance_within depth (length m.labels) (model_at m x) templates t key bound n ∷ []) []) (keys_within depth (whole_model m) templates t key n) (entries_of tree.nodes)
  groups_of_node a m templates depth t key bound n under tree h =
      subst (λ ns. HasEntries a instances keys (entries_of ns)) (append-nil tree.nodes)
      (entries_of_trees a instances (tree ∷ []) keys (λ x w. lifts_one (there_at x) (seen_at x) tree (under x) _ (h.lifts x w))
      (subst (Each (Stands a)) (sym (append-nil tree.nodes)) h.nodes)
      (subst (λ ns. Among (map note_key ns) keys) (sym (append-nil tree.nodes)) h.keyed))
    where
      instances : List Bool → List Instance
      instances x = cond (under x) (instance_within depth (length m.labels) (model_at m x) templates t key bound n ∷ []) []

      keys : List (List ℕ)
      keys = keys_within depth (whole_model m) templates t key n

  -- ---- of what was added

  pub fills_of_below : (a : Algebra C) (upper : List ℕ) (place : ℕ) (is : List Bool → List Instance) (keys : List (List ℕ)) (g h : Growing C)
      → AddsBelow a upper place is keys g h → Fills a is keys g.left h.left
  fills_of_below a upper place is keys g h s = record { number = entries_of (nodes_of s.trees); has = groups_of_below a upper is keys s.trees s.below; counted = s.counted }

  pub fills_of_node : (a : Algebra C) (m : Model) (templates : List Template) (depth : ℕ) (t : Template) (key bound : List ℕ) (n : ℕ × TemplateNode) (under : List Bool → Bool)
      (above : Option ℕ) (g h : Growing C) → AddsNode a m templates depth t key bound n under above g h
      → Fills a (λ x. cond (under x) (instance_within depth (length m.labels) (model_at m x) templates t key bound n ∷ []) []) (keys_within depth (whole_model m) templates t key n) g.left h.left
  fills_of_node a m templates depth t key bound n under above g h s = record {
    number = entries_of s.tree.nodes;
    has = groups_of_node a m templates depth t key bound n under s.tree s.lifts;
    counted = s.counted;
  }
