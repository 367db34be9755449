-- The lifted case of templates: at each world it is left with the instance on that world's own model.
use Rattle.std.specs.Prelude.{◌≡◌, ℕ, ◌≤◌, List, [], map, length, Bool, true, None, codes}
use Rattle.worlds.specs.Algebra.{Algebra, HoldsWhere}
use Rattle.meaning.specs.Models.{Model, model_at}
use Rattle.meaning.specs.Templates.{Template, instance, node_count, last_template}
use Rattle.meaning.specs.Tidy.{Among, whole_model, first_keys, keys_within}
use Rattle.meaning.specs.Entries.{most_entries}
use Rattle.meaning.proofs.CutTrees.{Tree, Each}
use Rattle.lifted_case.specs.declared.lifted.Lifted.{Lifted}
use Rattle.lifted_case.specs.declared.lifted.LRel.{LRel}
use Rattle.lifting.specs.Lifting.{Lifts}
use Rattle.lifting.specs.RootedTrees.{IsRooted}
use Rattle.lifting.specs.Noted.{Noted, note_key, there_at, seen_at, Stands, relation_of, conditions_to, entries_of}

abbrev pub tree_of : {C : Type 0} → List (Noted C) → List (LRel C) → Tree (Noted C)
tree_of notes relations = record { nodes = notes; relations = map relation_of relations }

pub record IsLiftedInstance {C : Type 0} (a : Algebra C) (heading : List ℕ) (names : List (List ℕ)) (m : Model) (templates : List Template) (case : Lifted C) : Type 0 where
  pub title : case.title ≡ heading
  pub features : case.features ≡ names
  pub valid : HoldsWhere a case.valid (λ x. true)
  -- the nodes with their notes, as a tree, are at each world left with that world's instance
  pub notes : List (Noted C)
  pub of_nodes : map (λ n. n.0) notes ≡ case.nodes
  pub lifts : (x : List Bool) → a.is_world x ≡ true → Lifts (there_at x) (seen_at x) (tree_of notes case.relations) true (instance (length m.labels) (model_at m x) templates)
  pub rooted : IsRooted note_key (tree_of notes case.relations)
  pub keys : Among (map note_key notes) (first_keys (keys_within (node_count templates) (whole_model m) templates) (last_template templates) (codes "0"))
  pub nodes : Each (Stands a) notes
  -- a relation is there where its target is
  pub relations_with_targets : map (λ r. r.when) case.relations ≡ conditions_to None notes
  pub systems : case.systems ≡ []
  pub few : entries_of notes ≤ most_entries
