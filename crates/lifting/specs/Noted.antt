-- A node of a lifted case beside what it is at each world, and a tree of such nodes.
use Rattle.std.specs.Prelude.{◌≡◌, ℕ, ◌+◌, List, [], ◌∷◌, ◌++◌, map, length, Bool, true, Option, None, Some, cond}
use Rattle.std.specs.List.{All}
use Rattle.gsn.specs.declared.case.RelKind.{RelKind}
use Rattle.gsn.specs.View.{kind_of, relation_kind_of}
use Rattle.worlds.specs.Algebra.{Algebra}
use Rattle.path_queries.specs.Answering.{Somewhere, tuples_of, tuples_at}
use Rattle.meaning.specs.Texts.{flat}
use Rattle.meaning.specs.Models.{Model, model_at}
use Rattle.meaning.specs.Cases.{NodeKind, Relation}
use Rattle.meaning.specs.CaseFiles.{part_at}
use Rattle.meaning.specs.Templates.{Template, TemplateNode, Findings, Instance, moved, relation_to, instance_within}
use Rattle.meaning.specs.Tidy.{Ascend, whole_model, keys_within}
use Rattle.meaning.proofs.CutTrees.{Tree, Each, nodes_of}
use Rattle.lifted_case.specs.declared.lifted.LNode.{LNode}
use Rattle.lifted_case.specs.declared.lifted.LRel.{LRel}
use Rattle.lifted_case.specs.CaseView.{case_part_of}
use Rattle.lifting.specs.Lifting.{Seen, Lifts, LiftsAll}
use Rattle.lifting.specs.RootedTrees.{IsRooted, HangsUnder, BeginsAt, IsKeyed, AreKeyed}

-- what is known of a node: where it is there, the tuples of its branches with their conditions, and what the product's instance tells there
pub record Note (C : Type 0) : Type 0 where
  pub there : List Bool → Bool
  pub rows : List (List ℕ × C)
  pub verdict : List Bool → Option Bool
  pub told : List Bool → Findings

abbrev pub Noted : Type 0 → Type 0
Noted C = LNode C × Note C

abbrev pub note_key : {C : Type 0} → Noted C → List ℕ
note_key n = n.0.key

abbrev pub note_kind : {C : Type 0} → Noted C → NodeKind
note_kind n = kind_of n.0.kind

abbrev pub there_at : {C : Type 0} → List Bool → Noted C → Bool
there_at x n = n.1.there x

abbrev pub seen_at : {C : Type 0} → List Bool → Noted C → Seen
seen_at x n = (
  record {
    key = n.0.key;
    kind = kind_of n.0.kind;
    words = flat (part_at (length (cond (n.1.there x) (n.1.told x).branches []))) (map case_part_of n.0.text);
    undeveloped = n.0.undeveloped;
    verdict = n.1.verdict x;
  },
  n.1.told x,
)

-- the conditions are those of the note, each holds at some world, and the branches are the answers
pub record Stands {C : Type 0} (a : Algebra C) (n : Noted C) : Type 0 where
  pub live : a.live n.0.when
  pub there : (x : List Bool) → a.is_world x ≡ true → a.holds n.0.when x ≡ n.1.there x
  pub occurs : Somewhere a n.0.when
  pub parts : (x : List Bool) → a.is_world x ≡ true → n.1.there x ≡ true → map case_part_of n.0.text ≡ (n.1.told x).parts
  pub branches : n.0.branches ≡ map (λ r. r.1) n.1.rows
  pub branches_live : All (λ r. a.live r.1) n.1.rows
  pub branches_occur : All (λ r. Somewhere a r.1) n.1.rows
  pub branches_ascend : Ascend (tuples_of n.1.rows)
  pub branches_exact : (x : List Bool) → a.is_world x ≡ true → tuples_at a n.1.rows x ≡ cond (n.1.there x) (n.1.told x).branches []
  pub unchecked : n.0.finding ≡ None
  pub no_verdict : (x : List Bool) → n.1.verdict x ≡ None

-- ---- trees of one node, and those below one

-- at each world at which `under` holds the tree is the instance of the template node, and else nothing of it is there; it is one tree under its key
pub record LiftsNode {C : Type 0} (a : Algebra C) (labels : ℕ) (m : Model) (templates : List Template) (depth : ℕ) (t : Template) (key bound : List ℕ)
    (n : ℕ × TemplateNode) (under : List Bool → Bool) (tree : Tree (Noted C)) : Type 0 where
  pub lifts : (x : List Bool) → a.is_world x ≡ true → Lifts (there_at x) (seen_at x) tree (under x) (instance_within depth labels (model_at m x) templates t key bound n)
  pub rooted : IsRooted note_key tree
  pub begins : BeginsAt note_key key tree.nodes
  pub keyed : IsKeyed note_key tree (keys_within depth (whole_model m) templates t key n)
  pub nodes : Each (Stands a) tree.nodes

-- trees side by side are these instances at each world, and all hang under one key
pub record LiftsBelow {C : Type 0} (a : Algebra C) (upper : List ℕ) (instances : List Bool → List Instance) (keys : List (List ℕ)) (trees : List (Tree (Noted C))) : Type 0 where
  pub lift : (x : List Bool) → a.is_world x ≡ true → LiftsAll (there_at x) (seen_at x) trees (instances x)
  pub rooted : Each (λ t. IsRooted note_key t × HangsUnder note_key upper t.nodes) trees
  pub keyed : AreKeyed note_key trees keys
  pub nodes : Each (Stands a) (nodes_of trees)

-- ---- how the lists of nodes and relations grow

abbrev pub relation_of : {C : Type 0} → LRel C → Relation
relation_of r = record { source = r.from; target = r.to; kind = relation_kind_of r.kind }

-- the relation of the code from the node above, if there is one
abbrev pub link_from : {C : Type 0} → Option ℕ → ℕ → RelKind → C → List (LRel C)
link_from None k kind when = []
link_from (Some p) k kind when = record { from = p; to = k; kind = kind; when = when } ∷ []

-- the relation from the node above, if there is one, to the first of these, which stands at k
abbrev pub linked : {C : Type 0} → Option ℕ → ℕ → List (Noted C) → List Relation
linked None k ns = []
linked (Some p) k [] = []
linked (Some p) k (n ∷ ns) = record { source = p; target = k; kind = relation_to (note_kind n) } ∷ []

-- the relations of trees that stand from k on, under node p
abbrev pub links_at : {C : Type 0} → ℕ → ℕ → List (Tree (Noted C)) → List Relation
links_at p k [] = []
links_at p k (t ∷ ts) = (linked (Some p) k t.nodes ++ map (moved k) t.relations) ++ links_at p (k + length t.nodes) ts

-- the conditions of the relations to some nodes: one for each node, but for the first where there is none above
abbrev pub conditions_to : {C : Type 0} → Option ℕ → List (Noted C) → List C
conditions_to None [] = []
conditions_to None (n ∷ ns) = map (λ n. n.0.when) ns
conditions_to (Some p) ns = map (λ n. n.0.when) ns

-- these nodes and relations come behind those
pub record Grows {C : Type 0} (old_nodes : List (LNode C)) (old_relations : List (LRel C)) (more : List (LNode C)) (links : List (LRel C))
    (notes : List (Noted C)) (new : List Relation) (whens : List C) : Type 0 where
  pub nodes : more ≡ old_nodes ++ map (λ n. n.0) notes
  pub relations : map relation_of links ≡ map relation_of old_relations ++ new
  pub conditions : map (λ r. r.when) links ≡ map (λ r. r.when) old_relations ++ whens

-- nodes and their branches
abbrev pub entries_of : {C : Type 0} → List (Noted C) → ℕ
entries_of [] = 0
entries_of (n ∷ ns) = (1 + length n.1.rows) + entries_of ns
