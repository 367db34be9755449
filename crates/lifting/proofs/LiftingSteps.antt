-- The steps of a lifting: nothing, one more tree below a node, a node over what is below it, and the template that is used.
use Rattle.std.proofs.Common.{◌≡◌, ℕ, zero, suc, ◌+◌, List, [], ◌∷◌, ◌++◌, map, length, Bool, true, false, not, ◌&&◌, Option, Some, None, refl, sym, ap, ◌∙◌, subst, arith}
use Rattle.std.specs.Prelude.{cond, decimal}
use Rattle.std.specs.List.{slice_get}
use Rattle.std.proofs.lemmas.List.{map-append, append-nil}
use Rattle.worlds.specs.Algebra.{Algebra, Kept}
use Rattle.meaning.specs.Texts.{flat}
use Rattle.meaning.specs.Models.{Model, model_at}
use Rattle.meaning.specs.Cases.{NodeKind}
use Rattle.meaning.specs.Queries.{element_of_variable}
use Rattle.meaning.specs.Templates.{Template, TemplateNode, Plain, Uses, Instance, nothing, first_node, instance_by_kind, node_of, findings_of, moved, annotations, supported_by, is_guarded_off, instance_within, key_below}
use Rattle.meaning.specs.Tidy.{Among, whole_model, keys_within, keys_by_kind}
use Rattle.meaning.specs.Tidy as tidy
use Rattle.meaning.proofs.CutTrees.{Tree, Each, no_tree, nodes_of, tree_over, links_below}
use Rattle.meaning.proofs.EachMembers.{each_by}
use Rattle.lifting.specs.declared.growing.Growing.{Growing}
use Rattle.meaning.proofs.KeySteps.{IsSmall}
use Rattle.lifting.specs.Lifting.{Lifts}
use Rattle.lifting.specs.RootedTrees.{IsRooted, HangsUnder, BeginsAt, IsKeyed, AreKeyed}
use Rattle.lifting.specs.Noted.{Noted, note_key, note_kind, there_at, seen_at, Stands, linked, links_at, conditions_to, Grows, entries_of, relation_of}
use Rattle.lifting.specs.Sites.{AddsOne, AddsNode, AddsFirst, AddsBelow, LiesBelow, note_of, instances_below, keys_below}
use Rattle.meaning.proofs.Lists.{flat_append}
use Rattle.lifting.proofs.LiftedTrees.{lifts_nothing, lifts_never, lifts_under, lifts_one, lifts_over}
use Rattle.lifting.proofs.LiftedNodes.{lifts_guarded}
use Rattle.lifting.proofs.RootedTrees.{rooted_over, rooted_never}
use Rattle.lifting.proofs.KeyedTrees.{keyed_one, keyed_never}
use Rattle.lifting.proofs.AmongLists.{among_both}
use Rattle.lifting.proofs.NotedTrees.{below_none, below_both, below_later, below_as, links_both, links_are_below, grows_nothing, grows_then, grown_length, entries_both}

module _ {C : Type 0} where
  -- ---- side by side

  pub adds_none : (a : Algebra C) (upper : List ℕ) (place : ℕ) (g : Growing C) → AddsBelow a upper place (λ x. []) [] g g
  adds_none a upper place g = record { trees = []; below = below_none a upper; grows = grows_nothing g.nodes.items g.relations.items; counted = omega arith }

  pub adds_later : {a b : Algebra C} (upper : List ℕ) (place : ℕ) (is : List Bool → List Instance) (keys : List (List ℕ)) (g h : Growing C)
      → Kept a b → AddsBelow a upper place is keys g h → AddsBelow b upper place is keys g h
  adds_later upper place is keys g h k s = record { trees = s.trees; below = below_later upper is keys s.trees k s.below; grows = s.grows; counted = s.counted }

  pub adds_as : (a : Algebra C) (upper : List ℕ) (place : ℕ) (is js : List Bool → List Instance) (keys others : List (List ℕ)) (g h : Growing C)
      → ((x : List Bool) → a.is_world x ≡ true → is x ≡ js x) → keys ≡ others → AddsBelow a upper place is keys g h → AddsBelow a upper place js others g h
  adds_as a upper place is js keys others g h same e s = record { trees = s.trees; below = below_as a upper is js keys others s.trees same e s.below; grows = s.grows; counted = s.counted }

  pub adds_then : (a : Algebra C) (upper : List ℕ) (place : ℕ) (is js : List Bool → List Instance) (keys others : List (List ℕ)) (g h k : Growing C)
      → AddsBelow a upper place is keys g h → AddsBelow a upper place js others h k → AddsBelow a upper place (λ x. is x ++ js x) (keys ++ others) g k
  adds_then a upper place is js keys others g h k s t = record {
    trees = s.trees ++ t.trees;
    below = below_both a upper is js keys others s.trees t.trees s.below t.below;
    grows = put
        (grows_then g.nodes.items h.nodes.items k.nodes.items g.relations.items h.relations.items k.relations.items (nodes_of s.trees) (nodes_of t.trees)
        (links_at place (length g.nodes.items) s.trees) (links_at place (length h.nodes.items) t.trees) _ _ s.grows t.grows);
    counted = omega (arith, s.counted, t.counted, ap entries_of both_nodes ∙ entries_both (nodes_of s.trees) (nodes_of t.trees));
  }
    where
      both_nodes : nodes_of (s.trees ++ t.trees) ≡ nodes_of s.trees ++ nodes_of t.trees
      both_nodes = flat_append (λ t. t.nodes) s.trees t.trees

      behind : length h.nodes.items ≡ length g.nodes.items + length (nodes_of s.trees)
      behind = grown_length g.nodes.items h.nodes.items g.relations.items h.relations.items (nodes_of s.trees) _ _ s.grows

      both_links : links_at place (length g.nodes.items) s.trees ++ links_at place (length h.nodes.items) t.trees ≡ links_at place (length g.nodes.items) (s.trees ++ t.trees)
      both_links = ap (λ i. links_at place (length g.nodes.items) s.trees ++ links_at place i t.trees) behind ∙ sym (links_both place (length g.nodes.items) s.trees t.trees)

      put : Grows g.nodes.items g.relations.items k.nodes.items k.relations.items (nodes_of s.trees ++ nodes_of t.trees)
          (links_at place (length g.nodes.items) s.trees ++ links_at place (length h.nodes.items) t.trees) (map (λ n. n.0.when) (nodes_of s.trees) ++ map (λ n. n.0.when) (nodes_of t.trees))
          → Grows g.nodes.items g.relations.items k.nodes.items k.relations.items (nodes_of (s.trees ++ t.trees))
          (links_at place (length g.nodes.items) (s.trees ++ t.trees)) (map (λ n. n.0.when) (nodes_of (s.trees ++ t.trees)))
      put w = record {
        nodes = w.nodes ∙ ap (λ ns. g.nodes.items ++ map (λ n. n.0) ns) (sym both_nodes);
        relations = w.relations ∙ ap (λ rs. map relation_of g.relations.items ++ rs) both_links;
        conditions = w.conditions ∙ ap (λ cs. map (λ r. r.when) g.relations.items ++ cs) (sym (map-append (λ n. n.0.when) (nodes_of s.trees) (nodes_of t.trees)) ∙ ap (map (λ n. n.0.when)) (sym both_nodes));
      }

  -- ---- no tree

  pub adds_nothing : (a : Algebra C) (m : Model) (templates : List Template) (depth : ℕ) (t : Template) (key bound : List ℕ) (n : ℕ × TemplateNode) (under : List Bool → Bool)
      (above : Option ℕ) (g : Growing C)
      → ((x : List Bool) → a.is_world x ≡ true → Lifts {A = Noted C} (there_at x) (seen_at x) no_tree (under x) (instance_within depth (length m.labels) (model_at m x) templates t key bound n))
      → AddsNode a m templates depth t key bound n under above g g
  adds_nothing a m templates depth t key bound n under above g h = record {
    tree = no_tree;
    lifts = record { lifts = h; rooted = rooted_never (note_key {C = C}) note_kind; begins = tt; keyed = keyed_never (note_key {C = C}) _; nodes = tt };
    grows = put above;
    counted = omega arith;
  }
    where
      put : (above : Option ℕ) → Grows g.nodes.items g.relations.items g.nodes.items g.relations.items [] (linked {C = C} above (length g.nodes.items) [] ++ []) (conditions_to {C = C} above [])
      put None = grows_nothing g.nodes.items g.relations.items
      put (Some p) = grows_nothing g.nodes.items g.relations.items

  -- at depth 0 there is no instance
  pub adds_at_zero : (a : Algebra C) (m : Model) (templates : List Template) (t : Template) (key bound : List ℕ) (n : ℕ × TemplateNode) (under : List Bool → Bool)
      (above : Option ℕ) (g : Growing C) → AddsNode a m templates zero t key bound n under above g g
  adds_at_zero a m templates t key bound n under above g = adds_nothing a m templates zero t key bound n under above g (λ x w. lifts_nothing (there_at x) (seen_at x) (under x))

  -- where its condition holds nowhere, too
  pub adds_never : (a : Algebra C) (m : Model) (templates : List Template) (depth : ℕ) (t : Template) (key bound : List ℕ) (n : ℕ × TemplateNode) (under : List Bool → Bool)
      (above : Option ℕ) (g : Growing C)
      → ((x : List Bool) → a.is_world x ≡ true → (under x && not (is_guarded_off (model_at m x) bound n.1.guard)) ≡ false)
      → AddsNode a m templates (suc depth) t key bound n under above g g
  adds_never a m templates depth t key bound n under above g never =
      adds_nothing a m templates (suc depth) t key bound n under above g
      (λ x w. lifts_guarded (there_at x) (seen_at x) (instance_within depth (length m.labels) (model_at m x) templates) (length m.labels) (model_at m x) templates t key bound n (under x) no_tree
      (lifts_under (there_at x) (seen_at x) no_tree false _ _ (sym (never x w)) (lifts_never (there_at x) (seen_at x) _)))

  -- ---- one tree below a node

  pub one_below : (a : Algebra C) (m : Model) (templates : List Template) (depth : ℕ) (t : Template) (front bound upper : List ℕ) (n : ℕ × TemplateNode) (under : List Bool → Bool)
      (place : ℕ) (g h : Growing C) → IsSmall n.0 → LiesBelow front upper
      → AddsNode a m templates depth t (front ++ decimal n.0) bound n under (Some place) g h
      → AddsBelow a upper place (λ x. cond (under x) (instances_below m templates depth t front bound (n ∷ []) x) []) (keys_below m templates depth t front (n ∷ [])) g h
  one_below a m templates depth t front bound upper n under place g h small lies s = record {
    trees = s.tree ∷ [];
    below = record {
      lift = λ x w. lifts_one (there_at x) (seen_at x) s.tree (under x) _ (s.lifts.lifts x w);
      rooted = ((s.lifts.rooted, hangs s.tree.nodes s.lifts.begins), tt);
      keyed = subst (λ ks. AreKeyed note_key (s.tree ∷ []) ks) (sym (append-nil (keys_within depth (whole_model m) templates t (front ++ decimal n.0) n))) (keyed_one note_key s.tree _ s.lifts.keyed);
      nodes = subst (Each (Stands a)) (sym (append-nil s.tree.nodes)) s.lifts.nodes;
    };
    grows = record {
      nodes = s.grows.nodes ∙ ap (λ ns. g.nodes.items ++ map (λ n. n.0) ns) (sym (append-nil s.tree.nodes));
      relations = s.grows.relations ∙ ap (λ rs. map relation_of g.relations.items ++ rs) (sym (append-nil _));
      conditions = s.grows.conditions ∙ ap (λ ns. map (λ r. r.when) g.relations.items ++ map (λ n. n.0.when) ns) (sym (append-nil s.tree.nodes));
    };
    counted = omega (arith, s.counted, ap entries_of (append-nil s.tree.nodes));
  }
    where
      hangs : (ns : List (Noted C)) → BeginsAt note_key (front ++ decimal n.0) ns → HangsUnder note_key upper ns
      hangs [] b = tt
      hangs (k ∷ ns) b = sym (lies n.0 small) ∙ ap tidy.key_above (sym b)

  -- ---- a node over what is below it

  module _ (a : Algebra C) (m : Model) (templates : List Template) (depth : ℕ) (t : Template) (key bound : List ℕ) (n : ℕ × TemplateNode) (kind : NodeKind) (under own : List Bool → Bool)
      (rows : List (List ℕ × C)) (above : Option ℕ) (g h k : Growing C) where
    abbrev instances_here : List Bool → List Instance
    instances_here x =
        map (λ y. instance_within depth (length m.labels) (model_at m x) templates t (key_below key y.0) bound y) (annotations t n.0)
        ++ supported_by (instance_within depth (length m.labels) (model_at m x) templates) (model_at m x) t key bound n.0 n.1.each

    abbrev keys_here : List (List ℕ)
    keys_here =
        flat (λ y. keys_within depth (whole_model m) templates t (key_below key y.0) y) (annotations t n.0)
        ++ tidy.keys_below (keys_within depth (whole_model m) templates) (whole_model m) t key n.0 n.1.each

    -- the condition is that of the place, where the guard has an answer
    abbrev IsGuarded : Type 0
    IsGuarded = (x : List Bool) → a.is_world x ≡ true → own x ≡ (under x && not (is_guarded_off (model_at m x) bound n.1.guard))

    pub node_over : n.1.kind ≡ Plain kind → IsGuarded → AddsOne a m n.1 kind key bound own rows above g h
        → (keys : List (List ℕ)) → Among keys keys_here
        → AddsBelow a key (length g.nodes.items) (λ x. cond (own x) (instances_here x) []) keys h k
        → AddsNode a m templates (suc depth) t key bound n under above g k
    node_over e guarded one keys among s = record {
      tree = tree;
      lifts = record {
        lifts = λ x w. at_world x w;
        rooted = rooted_over note_key note_kind first s.trees
            (each_by _ (IsRooted note_key) (λ t r. r.0) s.trees s.below.rooted)
            (each_by _ (λ t. HangsUnder note_key (note_key first) t.nodes) (λ t r. subst (λ upper. HangsUnder note_key upper t.nodes) (sym one.key) r.1) s.trees s.below.rooted);
        begins = one.key;
        keyed = keyed;
        nodes = (one.stands, s.below.nodes);
      };
      grows = put above (grows_then g.nodes.items h.nodes.items k.nodes.items g.relations.items h.relations.items k.relations.items (first ∷ []) (nodes_of s.trees) _ _ _ _ one.grows s.grows);
      counted = omega (arith, one.counted, s.counted);
    }
      where
        first : Noted C
        first = (one.node, note_of m bound n.1 own rows)

        tree : Tree (Noted C)
        tree = tree_over note_kind first s.trees

        at_world : (x : List Bool) → a.is_world x ≡ true → Lifts (there_at x) (seen_at x) tree (under x) (instance_within (suc depth) (length m.labels) (model_at m x) templates t key bound n)
        at_world x w =
            lifts_guarded (there_at x) (seen_at x) (instance_within depth (length m.labels) (model_at m x) templates) (length m.labels) (model_at m x) templates t key bound n (under x) tree
            (lifts_under (there_at x) (seen_at x) tree (own x) _ _ (guarded x w)
            (subst (λ c. Lifts (there_at x) (seen_at x) tree (own x) (instance_by_kind (instance_within depth (length m.labels) (model_at m x) templates) (length m.labels) (model_at m x) templates t key bound n c)) (sym e)
            (lifts_over (there_at x) (seen_at x) first (own x)
            (node_of (length m.labels) (model_at m x) key bound kind n.1, findings_of (length m.labels) (model_at m x) bound n.1)
            s.trees (instances_here x) refl (λ u. one.seen x w u) (s.below.lift x w))))

        keyed : IsKeyed note_key tree (keys_within (suc depth) (whole_model m) templates t key n)
        keyed =
            subst (λ c. IsKeyed note_key tree (keys_by_kind (keys_within depth (whole_model m) templates) (whole_model m) templates t key n c)) (sym e)
            (subst (λ own_key. Among (own_key ∷ map note_key (nodes_of s.trees)) (key ∷ keys_here)) (sym one.key) (tidy.taken (among_both among s.below.keyed)))

        links : (p : ℕ) → length h.nodes.items ≡ p + 1 → links_at p (length h.nodes.items) s.trees ≡ map (moved p) (links_below note_kind 1 s.trees)
        links p b = ap (λ i. links_at p i s.trees) b ∙ links_are_below p 1 s.trees

        behind : length h.nodes.items ≡ length g.nodes.items + 1
        behind = grown_length g.nodes.items h.nodes.items g.relations.items h.relations.items (first ∷ []) _ _ one.grows

        put : (above : Option ℕ)
            → Grows g.nodes.items g.relations.items k.nodes.items k.relations.items (first ∷ nodes_of s.trees)
            (linked above (length g.nodes.items) (first ∷ []) ++ links_at (length g.nodes.items) (length h.nodes.items) s.trees) (conditions_to above (first ∷ []) ++ map (λ n. n.0.when) (nodes_of s.trees))
            → Grows g.nodes.items g.relations.items k.nodes.items k.relations.items tree.nodes
            (linked above (length g.nodes.items) tree.nodes ++ map (moved (length g.nodes.items)) tree.relations) (conditions_to above tree.nodes)
        put None w = record {
          nodes = w.nodes;
          relations = w.relations ∙ ap (λ rs. map relation_of g.relations.items ++ rs) (links (length g.nodes.items) behind);
          conditions = w.conditions;
        }
        put (Some p) w = record {
          nodes = w.nodes;
          relations = w.relations ∙ ap (λ rs. map relation_of g.relations.items ++ (linked (Some p) (length g.nodes.items) (first ∷ []) ++ rs)) (links (length g.nodes.items) behind);
          conditions = w.conditions;
        }

  -- ---- a node that uses a template: the first node of that one

  module _ (a : Algebra C) (m : Model) (templates : List Template) (depth : ℕ) (t : Template) (key bound : List ℕ) (n : ℕ × TemplateNode) (used : ℕ) (arguments : List ℕ) (under own : List Bool → Bool)
      (above : Option ℕ) (g k : Growing C) where
    abbrev IsGuardedUse : Type 0
    IsGuardedUse = (x : List Bool) → a.is_world x ≡ true → own x ≡ (under x && not (is_guarded_off (model_at m x) bound n.1.guard))

    abbrev elements : List ℕ
    elements = map (element_of_variable bound) arguments

    -- any tree that is the first node's where the own condition holds
    use_over : n.1.kind ≡ Uses used arguments → IsGuardedUse → (tree : Tree (Noted C))
        → ((x : List Bool) → a.is_world x ≡ true → Lifts (there_at x) (seen_at x) tree (own x) (first_node (instance_within depth (length m.labels) (model_at m x) templates) (slice_get templates used) key elements))
        → (x : List Bool) → a.is_world x ≡ true → Lifts (there_at x) (seen_at x) tree (under x) (instance_within (suc depth) (length m.labels) (model_at m x) templates t key bound n)
    use_over e guarded tree h x w =
        lifts_guarded (there_at x) (seen_at x) (instance_within depth (length m.labels) (model_at m x) templates) (length m.labels) (model_at m x) templates t key bound n (under x) tree
        (lifts_under (there_at x) (seen_at x) tree (own x) _ _ (guarded x w)
        (subst (λ c. Lifts (there_at x) (seen_at x) tree (own x) (instance_by_kind (instance_within depth (length m.labels) (model_at m x) templates) (length m.labels) (model_at m x) templates t key bound n c)) (sym e)
        (h x w)))

    pub node_uses : n.1.kind ≡ Uses used arguments → IsGuardedUse → AddsFirst a m templates depth (slice_get templates used) key elements own above g k
        → AddsNode a m templates (suc depth) t key bound n under above g k
    node_uses e guarded s = at_template (slice_get templates used) refl s
      where
        keys_are : keys_within (suc depth) (whole_model m) templates t key n ≡ tidy.first_keys (keys_within depth (whole_model m) templates) (slice_get templates used) key
        keys_are = ap (keys_by_kind (keys_within depth (whole_model m) templates) (whole_model m) templates t key n) e

        none_here : g ≡ k
            → ((x : List Bool) → first_node (instance_within depth (length m.labels) (model_at m x) templates) (slice_get templates used) key elements ≡ nothing)
            → AddsNode a m templates (suc depth) t key bound n under above g k
        none_here f gone =
            subst (λ k. AddsNode a m templates (suc depth) t key bound n under above g k) f
            (adds_nothing a m templates (suc depth) t key bound n under above g
            (use_over e guarded (no_tree {A = Noted C}) (λ x w. subst (λ i. Lifts {A = Noted C} (there_at x) (seen_at x) no_tree (own x) i) (sym (gone x)) (lifts_nothing {A = Noted C} (there_at x) (seen_at x) (own x)))))

        at_node : (v : Template) → slice_get templates used ≡ Some v → (o : Option TemplateNode) → slice_get v.nodes 0 ≡ o
            → elim o as (λ _. Type 0) [ None ↦ g ≡ k | Some first ↦ AddsNode a m templates depth v key elements (0, first) own above g k ]
            → AddsNode a m templates (suc depth) t key bound n under above g k
        at_node v f None r s =
            none_here s
            (λ x. ap (λ o. first_node (instance_within depth (length m.labels) (model_at m x) templates) o key elements) f
            ∙ ap (λ o. elim o as (λ _. Instance) [ None ↦ nothing | Some y ↦ instance_within depth (length m.labels) (model_at m x) templates v key elements (0, y) ]) r)
        at_node v f (Some first) r s = record {
          tree = s.tree;
          lifts = record {
            lifts = use_over e guarded s.tree
                (λ x w. subst (λ i. Lifts (there_at x) (seen_at x) s.tree (own x) i)
                (sym (ap (λ o. first_node (instance_within depth (length m.labels) (model_at m x) templates) o key elements) f
                ∙ ap (λ o. elim o as (λ _. Instance) [ None ↦ nothing | Some y ↦ instance_within depth (length m.labels) (model_at m x) templates v key elements (0, y) ]) r))
                (s.lifts.lifts x w));
            rooted = s.lifts.rooted;
            begins = s.lifts.begins;
            keyed =
                subst (IsKeyed note_key s.tree)
                (sym (keys_are ∙ ap (λ o. tidy.first_keys (keys_within depth (whole_model m) templates) o key) f
                ∙ ap (λ o. elim o as (λ _. List (List ℕ)) [ None ↦ [] | Some y ↦ keys_within depth (whole_model m) templates v key (0, y) ]) r))
                s.lifts.keyed;
            nodes = s.lifts.nodes;
          };
          grows = s.grows;
          counted = s.counted;
        }

        at_template : (o : Option Template) → slice_get templates used ≡ o → AddsFirst a m templates depth o key elements own above g k
            → AddsNode a m templates (suc depth) t key bound n under above g k
        at_template None f s = none_here s (λ x. ap (λ o. first_node (instance_within depth (length m.labels) (model_at m x) templates) o key elements) f)
        at_template (Some v) f s = at_node v f (slice_get v.nodes 0) refl s
