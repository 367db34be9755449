-- Templates whose nodes stand under earlier nodes and use earlier templates, and what such a node gives whatever the depth.
use Rattle.std.specs.Prelude.{◌≡◌, ℕ, ◌<◌, List, Some}
use Rattle.std.specs.List.{slice_get}
use Rattle.meaning.specs.Models.{PlainModel}
use Rattle.meaning.specs.Templates.{Template, TemplateNode, Uses, Instances, instance_within, node_count}
use Rattle.meaning.specs.Tidy.{Keys, keys_within}
use Rattle.meaning.specs.Entries.{Places, places_within}

-- this is node j of template i
pub record StandsAt (templates : List Template) (i : ℕ) (t : Template) (j : ℕ) (n : TemplateNode) : Type 0 where
  pub template : slice_get templates i ≡ Some t
  pub node : slice_get t.nodes j ≡ Some n

-- every step down leads to a later node of the template or to an earlier template
pub record AreOrdered (templates : List Template) : Type 0 where
  pub above_is_earlier : (i : ℕ) (t : Template) (j : ℕ) (n : TemplateNode) → StandsAt templates i t j n
      → (k : ℕ) → n.above ≡ Some k → k < j
  pub uses_are_earlier : (i : ℕ) (t : Template) (j : ℕ) (n : TemplateNode) → StandsAt templates i t j n
      → (u : ℕ) (arguments : List ℕ) → n.kind ≡ Uses u arguments → u < i

-- the instance of a node, to the depth of all nodes
abbrev pub instance_of : ℕ → PlainModel → List Template → Instances
instance_of labels m templates t key bound n = instance_within (node_count templates) labels m templates t key bound n

-- the keys that a node lists, and its places, to the same depth
abbrev pub keys_of : PlainModel → List Template → Keys
keys_of m templates t key n = keys_within (node_count templates) m templates t key n

abbrev pub places_of : PlainModel → List Template → Places
places_of m templates t key bound n = places_within (node_count templates) m templates t key bound n
