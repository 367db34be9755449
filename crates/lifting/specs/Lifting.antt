-- What it means that a tree of lifted nodes is the instance of a template node, at one world.
use Rattle.std.specs.Prelude.{◌≡◌, ℕ, List, map, Bool, cond}
use Rattle.meaning.specs.Cases.{NodeKind, Node}
use Rattle.meaning.specs.Templates.{Findings, Instance}
use Rattle.meaning.proofs.CutTrees.{Tree, Each, IsWhole, HasNoStrays, cut_tree, tree_map, no_tree, with_nodes}

-- what a lifted node is at a world: the node, and what it tells besides
abbrev pub Seen : Type 0
Seen = Node × Findings

abbrev pub kind_seen : Seen → NodeKind
kind_seen s = s.0.kind

abbrev pub key_seen : Seen → List ℕ
key_seen s = s.0.key

-- an instance as a tree
abbrev pub instance_tree : Instance → Tree Seen
instance_tree i = record { nodes = i.nodes; relations = i.relations }

-- the lifted nodes are of any type: `there` says whether a node is there at the world, and `seen` what it is there
module _ {A : Type 0} (there : A → Bool) (seen : A → Seen) where
  -- what is left of a tree at the world, each node as it is seen there
  abbrev pub left : Tree A → Tree Seen
  left t = tree_map seen (cut_tree there t)

  -- where the condition holds the tree is the instance, and else nothing of it is there
  pub record Lifts (t : Tree A) (u : Bool) (i : Instance) : Type 0 where
    pub whole : IsWhole there t
    pub cuts : left t ≡ cond u (instance_tree i) no_tree

  -- trees side by side are these instances, but for trees and instances without nodes
  pub record LiftsAll (ts : List (Tree A)) (is : List Instance) : Type 0 where
    pub whole : Each (IsWhole there) ts
    pub cuts : with_nodes (map left ts) ≡ with_nodes (map instance_tree is)
    pub strays : Each HasNoStrays (map instance_tree is)
