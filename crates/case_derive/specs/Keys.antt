-- A plain case without the keys of its nodes.
use Rattle.std.specs.Prelude.{[], map}
use Rattle.meaning.specs.Cases.{Node, Case}

abbrev pub unkeyed_node : Node → Node
unkeyed_node n = record n { key = [] }

abbrev pub unkeyed : Case → Case
unkeyed c = record { nodes = map unkeyed_node c.nodes; relations = c.relations }
