-- The whole instance of templates: the tree of the first node of the last template, or nothing.
use Rattle.std.proofs.Common.{◌≡◌, ℕ, zero, suc, ◌+◌, ◌-◌, ◌≤◌, List, [], ◌∷◌, ◌++◌, map, length, Bool, true, Option, Some, None, refl, sym, ap, ◌∙◌, subst, arith, take, get_or, ◌<◌}
use Rattle.std.specs.Prelude.{codes, option_map, cond, ◌^◌}
use Rattle.std.specs.List.{slice_get}
use Rattle.std.proofs.lemmas.List.{length-map, take-map}
use Rattle.std.proofs.lemmas.List.Sums.{sum_by-cons, sum_by-take-le}
use Rattle.worlds.specs.Algebra.{Algebra, Kept, HoldsWhere}
use Rattle.worlds.proofs.Kept.{holds_later, world_before}
use Rattle.meaning.specs.Models.{Model, model_at}
use Rattle.meaning.specs.Cases.{Relation}
use Rattle.meaning.specs.Templates.{Template, TemplateNode, Instance, nothing, moved, first_node, instance_within, instance, node_count, last_template}
use Rattle.meaning.specs.Tidy.{Among, whole_model, first_keys, keys_within}
use Rattle.meaning.specs.Entries.{most_entries}
use Rattle.meaning.proofs.CutTrees.{Tree, Each, no_tree}
use Rattle.templates.specs.declared.data.Template as code
use Rattle.templates.specs.View.{node_view, template_view}
use Rattle.lifted_case.specs.declared.lifted.Lifted.{Lifted}
use Rattle.lifting.specs.declared.growing.Growing.{Growing}
use Rattle.lifting.specs.Lifting.{Lifts}
use Rattle.lifting.specs.RootedTrees.{IsRooted}
use Rattle.lifting.specs.Noted.{Noted, note_key, note_kind, there_at, seen_at, Stands, relation_of, conditions_to, entries_of}
use Rattle.lifting.specs.Sites.{FirstSite, AddsNode, AddsFirst, templates_of}
use Rattle.lifting.specs.FittingTemplates.{TemplatesFit}
use Rattle.lifting.specs.LiftedInstances.{IsLiftedInstance}
use Rattle.lifting.specs.declared.stop.LiftStop.{LiftStop}
use Rattle.lifting.specs.Stops.{Halts}
use Rattle.lifting.specs.Overflows.{Overflows, TooManyEntries}
use Rattle.lifting.proofs.OverflowEntries.{too_many_entries, few_of_fit}
use Rattle.lifting.proofs.PlacedNodes.{halts_weaker}
use Rattle.meaning.proofs.EqualityTests.{none_is_some}
use Rattle.lifting.proofs.LiftedTrees.{lifts_nothing, lifts_under}
use Rattle.lifting.proofs.RootedTrees.{rooted_never}
use Rattle.lifting.proofs.AmongLists.{among_nothing}
use Rattle.lifting.proofs.TemplateDepth.{last_is_at}
use Rattle.lifting.proofs.NodeCalls.{place_seen}

-- ---- lists

abbrev joining : ℕ → ℕ → Relation → Relation
joining i j r = record { source = i; target = j; kind = r.kind }

joins : (i j : ℕ) (r : Relation) → i ≡ r.source → j ≡ r.target → joining i j r ≡ r
joins i j r e f = ap (λ k. joining k j r) e ∙ ap (λ k. joining r.source k r) f

moved_nowhere : (rs : List Relation) → map (moved 0) rs ≡ rs
moved_nowhere [] = refl
moved_nowhere (r ∷ rs) = ap (λ q. q ∷ map (moved 0) rs) (joins (0 + r.source) (0 + r.target) r (omega arith) (omega arith)) ∙ ap (λ qs. r ∷ qs) (moved_nowhere rs)

not_empty : {A : Type 0} (xs : List A) (x : A) → slice_get xs (length xs - 1) ≡ Some x → suc (length xs - 1) ≡ length xs
not_empty [] x e = elim (none_is_some x e) [ ]
not_empty (y ∷ ys) x e = omega arith

found_within : {A : Type 0} (xs : List A) (i : ℕ) → i < length xs → slice_get xs i ≡ None → ⊥
found_within [] i l e = omega (arith, l)
found_within (x ∷ xs) zero l e = none_is_some x (sym e)
found_within (x ∷ xs) (suc i) l e = found_within xs i (omega (arith, l)) e

-- the last template, by its number
pub last_is : (templates : List Template) (v : Template) → slice_get templates (length templates - 1) ≡ Some v → last_template templates ≡ Some v
last_is templates v e = last_is_at templates (length templates - 1) (not_empty templates v e) ∙ e

pub no_last : (templates : List Template) → slice_get templates (length templates - 1) ≡ None → last_template templates ≡ None
no_last [] e = refl
no_last (t ∷ ts) e = elim (found_within (t ∷ ts) (length (t ∷ ts) - 1) (omega arith) e) [ ]

pub last_seen : {A B : Type 0} (f : A → B) (xs : List A) (o : Option A) → o ≡ slice_get xs (length xs - 1) → slice_get (map f xs) (length (map f xs) - 1) ≡ option_map f o
last_seen f xs o e = ap (λ n. slice_get (map f xs) (n - 1)) (length-map xs f) ∙ place_seen f xs (length xs - 1) o e

-- ---- how many nodes there are

first_more : (u : code.Template) (ts : List code.Template) (i : ℕ) → node_count (templates_of (take (suc i) (u ∷ ts))) ≡ length u.nodes + node_count (templates_of (take i ts))
first_more u ts i =
    sum_by-cons (λ t. length t.nodes) (template_view u) (templates_of (take i ts)) ∙ ap (λ n. n + node_count (templates_of (take i ts))) (length-map u.nodes node_view)

-- one template more
pub nodes_more : (ts : List code.Template) (i : ℕ) (t : code.Template) → i < length ts → t ≡ get_or ts i t
    → node_count (templates_of (take (suc i) ts)) ≡ node_count (templates_of (take i ts)) + length t.nodes
nodes_more [] i t l e = absurd (omega (arith, l))
nodes_more (u ∷ ts) zero t l e = omega (arith, length-map u.nodes node_view, ap (λ (u : code.Template). length u.nodes) e)
nodes_more (u ∷ ts) (suc i) t l e = omega (arith, nodes_more ts i t (omega (arith, l)) e, first_more u ts (suc i), first_more u ts i)

-- the first ones have at most as many as all
pub nodes_at_most : (ts : List code.Template) (i : ℕ) → node_count (templates_of (take i ts)) ≤ node_count (templates_of ts)
nodes_at_most ts i =
    subst (λ us. node_count us ≤ node_count (templates_of ts)) (take-map template_view i ts) (sum_by-take-le (λ t. length t.nodes) (templates_of ts) i)

module _ {C : Type 0} where
  -- the place of the case: no element is bound
  pub case_site : (a : Algebra C) (m : Model) (templates : List Template) (v : Template) (valid : C) → TemplatesFit templates
      → slice_get templates (length templates - 1) ≡ Some v → FirstSite a m templates (Some v) [] valid
  case_site a m templates v valid fit e = record {
    fit = fit;
    number = length templates - 1;
    template = e;
    as_many = sym (fit.scoped.none_at_first (length templates - 1) (not_empty templates v e));
    there = λ x w o. tt;
  }

  module _ (a b : Algebra C) (m : Model) (templates : List Template) (heading : List ℕ) (names : List (List ℕ)) (valid : C) (kept : Kept a b) (made : HoldsWhere a valid (λ x. true)) where
    -- the parts of the case besides its nodes and relations
    pub record Frames (case : Lifted C) : Type 0 where
      pub title : case.title ≡ heading
      pub features : case.features ≡ names
      pub valid_is : case.valid ≡ valid
      pub systems : case.systems ≡ []

    abbrev keys_of_case : List (List ℕ)
    keys_of_case = first_keys (keys_within (node_count templates) (whole_model m) templates) (last_template templates) (codes "0")

    abbrev of_case : List Bool → Instance
    of_case x = first_node (instance_within (node_count templates) (length m.labels) (model_at m x) templates) (last_template templates) (codes "0") []

    whole_of : (case : Lifted C) → Frames case → (tree : Tree (Noted C))
        → map (λ n. n.0) tree.nodes ≡ case.nodes → map relation_of case.relations ≡ tree.relations → map (λ r. r.when) case.relations ≡ conditions_to None tree.nodes
        → ((x : List Bool) → b.is_world x ≡ true → Lifts (there_at x) (seen_at x) tree true (of_case x))
        → IsRooted note_key tree → Among (map note_key tree.nodes) keys_of_case → Each (Stands b) tree.nodes → entries_of tree.nodes ≤ most_entries
        → IsLiftedInstance b heading names m templates case
    unfolding instance
    whole_of case frames tree of_nodes of_relations targets lifts rooted keys nodes few = record {
      title = frames.title;
      features = frames.features;
      valid = subst (λ c. HoldsWhere b c (λ x. true)) (sym frames.valid_is) (holds_later kept made);
      notes = tree.nodes;
      of_nodes = of_nodes;
      lifts = λ x w. subst (λ rs. Lifts (there_at x) (seen_at x) (record { nodes = tree.nodes; relations = rs }) true (of_case x)) (sym of_relations) (lifts x w);
      rooted = subst (λ rs. IsRooted note_key (record { nodes = tree.nodes; relations = rs })) (sym of_relations) rooted;
      keys = keys;
      nodes = nodes;
      relations_with_targets = targets;
      systems = frames.systems;
      few = few;
    }

    -- nothing, where there is no first node
    pub whole_nothing : (case : Lifted C) → Frames case → case.nodes ≡ [] → case.relations ≡ [] → ((x : List Bool) → of_case x ≡ nothing) → IsLiftedInstance b heading names m templates case
    whole_nothing case frames no_nodes no_relations gone =
        whole_of case frames no_tree (sym no_nodes) (ap (map relation_of) no_relations) (ap (map (λ r. r.when)) no_relations)
        (λ x w. subst (λ i. Lifts {A = Noted C} (there_at x) (seen_at x) no_tree true i) (sym (gone x)) (lifts_nothing {A = Noted C} (there_at x) (seen_at x) true))
        (rooted_never (note_key {C = C}) note_kind) (among_nothing keys_of_case) tt (omega arith)

    pub whole_without : (case : Lifted C) → Frames case → case.nodes ≡ [] → case.relations ≡ [] → last_template templates ≡ None → IsLiftedInstance b heading names m templates case
    whole_without case frames no_nodes no_relations last =
        whole_nothing case frames no_nodes no_relations
        (λ x. ap (λ o. first_node (instance_within (node_count templates) (length m.labels) (model_at m x) templates) o (codes "0") []) last)

    -- the first node of the last template, behind nothing
    module _ (v : Template) (last : last_template templates ≡ Some v) (g h : Growing C) (no_nodes : g.nodes.items ≡ []) (no_relations : g.relations.items ≡ []) (room : g.left ≡ most_entries) where
      first_is : (x : List Bool) (o : Option TemplateNode) → slice_get v.nodes 0 ≡ o
          → of_case x ≡ elim o as (λ _. Instance) [ None ↦ nothing | Some n ↦ instance_within (node_count templates) (length m.labels) (model_at m x) templates v (codes "0") [] (0, n) ]
      first_is x o e =
          ap (λ o. first_node (instance_within (node_count templates) (length m.labels) (model_at m x) templates) o (codes "0") []) last
          ∙ ap (λ o. elim o as (λ _. Instance) [ None ↦ nothing | Some n ↦ instance_within (node_count templates) (length m.labels) (model_at m x) templates v (codes "0") [] (0, n) ]) e

      keys_are : (n : TemplateNode) → slice_get v.nodes 0 ≡ Some n → keys_of_case ≡ keys_within (node_count templates) (whole_model m) templates v (codes "0") (0, n)
      keys_are n e =
          ap (λ o. first_keys (keys_within (node_count templates) (whole_model m) templates) o (codes "0")) last
          ∙ ap (λ o. elim o as (λ _. List (List ℕ)) [ None ↦ [] | Some n ↦ keys_within (node_count templates) (whole_model m) templates v (codes "0") (0, n) ]) e

      of_node : (case : Lifted C) → Frames case → case.nodes ≡ h.nodes.items → case.relations ≡ h.relations.items → (n : TemplateNode) → slice_get v.nodes 0 ≡ Some n
          → AddsNode b m templates (node_count templates) v (codes "0") [] (0, n) (a.holds valid) None g h → IsLiftedInstance b heading names m templates case
      of_node case frames nodes relations n e s =
          whole_of case frames s.tree
          (sym (nodes ∙ s.grows.nodes ∙ ap (λ ns. ns ++ map (λ n. n.0) s.tree.nodes) no_nodes))
          (ap (map relation_of) relations ∙ s.grows.relations ∙ ap (λ rs. map relation_of rs ++ map (moved (length g.nodes.items)) s.tree.relations) no_relations
          ∙ ap (λ ns. map (moved (length ns)) s.tree.relations) no_nodes ∙ moved_nowhere s.tree.relations)
          (ap (map (λ r. r.when)) relations ∙ s.grows.conditions ∙ ap (λ rs. map (λ r. r.when) rs ++ conditions_to None s.tree.nodes) no_relations)
          (λ x w. subst (λ i. Lifts (there_at x) (seen_at x) s.tree true i) (sym (first_is x (Some n) e))
          (lifts_under (there_at x) (seen_at x) s.tree (a.holds valid x) true _ (made.holds x (world_before x kept w)) (s.lifts.lifts x w)))
          s.lifts.rooted
          (subst (Among (map note_key s.tree.nodes)) (sym (keys_are n e)) s.lifts.keyed)
          s.lifts.nodes
          (omega (arith, s.counted, room))

      pub whole_first : (case : Lifted C) → Frames case → case.nodes ≡ h.nodes.items → case.relations ≡ h.relations.items
          → AddsFirst b m templates (node_count templates) (Some v) (codes "0") [] (a.holds valid) None g h → IsLiftedInstance b heading names m templates case
      whole_first case frames nodes relations adds = go (slice_get v.nodes 0) refl adds
        where
          go : (o : Option TemplateNode) → slice_get v.nodes 0 ≡ o
              → elim o as (λ _. Type 0) [ None ↦ g ≡ h | Some n ↦ AddsNode b m templates (node_count templates) v (codes "0") [] (0, n) (a.holds valid) None g h ]
              → IsLiftedInstance b heading names m templates case
          go None e s =
              whole_nothing case frames (nodes ∙ ap (λ k. k.nodes.items) (sym s) ∙ no_nodes) (relations ∙ ap (λ k. k.relations.items) (sym s) ∙ no_relations) (λ x. first_is x None e)
          go (Some n) e s = of_node case frames nodes relations n e s

    -- the first node of the last template, if there is one
    pub whole : (g h : Growing C) → g.nodes.items ≡ [] → g.relations.items ≡ [] → g.left ≡ most_entries
        → AddsFirst b m templates (node_count templates) (last_template templates) (codes "0") [] (a.holds valid) None g h
        → (case : Lifted C) → Frames case → case.nodes ≡ h.nodes.items → case.relations ≡ h.relations.items → IsLiftedInstance b heading names m templates case
    whole g h no_nodes no_relations room adds case frames nodes relations = go (last_template templates) refl adds
      where
        go : (o : Option Template) → last_template templates ≡ o → AddsFirst b m templates (node_count templates) o (codes "0") [] (a.holds valid) None g h → IsLiftedInstance b heading names m templates case
        go None e s =
            whole_without case frames (nodes ∙ ap (λ k. k.nodes.items) (sym s) ∙ no_nodes) (relations ∙ ap (λ k. k.relations.items) (sym s) ∙ no_relations) e
        go (Some v) e s = whole_first v e g h no_nodes no_relations room case frames nodes relations s

-- ---- the last template's first node

module _ {C : Type 0} (a b : Algebra C) (m : Model) (templates : List Template) (levels : ℕ) (valid : C) (count : levels ≡ node_count templates) where
  pub adds_last : (v : Template) (g h : Growing C) → last_template templates ≡ Some v
      → AddsFirst b m templates levels (Some v) (codes "0") [] (a.holds valid) None g h
      → AddsFirst b m templates (node_count templates) (last_template templates) (codes "0") [] (a.holds valid) None g h
  adds_last v g h last adds =
      subst (λ o. AddsFirst b m templates (node_count templates) o (codes "0") [] (a.holds valid) None g h) (sym last)
      (subst (λ d. AddsFirst b m templates d (Some v) (codes "0") [] (a.holds valid) None g h) count adds)

  pub adds_without : (g : Growing C) → last_template templates ≡ None → AddsFirst b m templates (node_count templates) (last_template templates) (codes "0") [] (a.holds valid) None g g
  adds_without g gone = subst (λ o. AddsFirst b m templates (node_count templates) o (codes "0") [] (a.holds valid) None g g) (sym gone) refl

  abbrev LastTooMuch : Template → ℕ → ℕ → Type 0
  LastTooMuch v depth room =
      Overflows b (λ x. cond (a.holds valid x) (first_node (instance_within depth (length m.labels) (model_at m x) templates) (Some v) (codes "0") [] ∷ []) [])
      (first_keys (keys_within depth (whole_model m) templates) (Some v) (codes "0")) room

  pub halts_last : (v : Template) (room : ℕ) (stop : LiftStop) → length m.elements ≤ 2 ^ 64 → TemplatesFit templates → last_template templates ≡ Some v → room ≡ most_entries
      → Halts a b (LastTooMuch v levels room) stop → Halts a b (TooManyEntries b m templates) stop
  halts_last v room stop elements fit last large h =
      halts_weaker a b (LastTooMuch v levels room) (TooManyEntries b m templates) stop
      (λ overflows.
      too_many_entries b m templates v (a.holds valid) room elements (few_of_fit templates fit) last (omega (arith, large))
      (subst (λ d. LastTooMuch v d room) count overflows))
      h
