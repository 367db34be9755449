-- What the data of this crate mean: a case of the definitions, and the statuses of its nodes.
use Rattle.std.specs.Prelude.{[], map, length, ◌<◌, All}
use Rattle.meaning.specs.Cases as plain
use Rattle.gsn.specs.declared.case.NodeKind.{NodeKind}
use Rattle.gsn.specs.declared.case.NodeKind.TheVariants as kind
use Rattle.gsn.specs.declared.case.RelKind.{RelKind}
use Rattle.gsn.specs.declared.case.RelKind.TheVariants as relation
use Rattle.gsn.specs.declared.case.CNode.{CNode}
use Rattle.gsn.specs.declared.case.CRel.{CRel}
use Rattle.gsn.specs.declared.case.Case.{Case}
use Rattle.gsn.specs.declared.status.Status3.{Status3}
use Rattle.gsn.specs.declared.status.Status3.TheVariants as status

abbrev pub kind_of : NodeKind → plain.NodeKind
kind_of kind.Goal = plain.Goal
kind_of kind.Strategy = plain.Strategy
kind_of kind.Solution = plain.Solution
kind_of kind.Context = plain.Context
kind_of kind.Assumption = plain.Assumption
kind_of kind.Justification = plain.Justification

abbrev pub relation_kind_of : RelKind → plain.RelationKind
relation_kind_of relation.SupportedBy = plain.SupportedBy
relation_kind_of relation.InContextOf = plain.InContextOf

-- a node of this crate has no key, so its key is empty
abbrev pub node_of : CNode → plain.Node
node_of n = record { key = []; kind = kind_of n.kind; words = n.text; undeveloped = n.undeveloped; verdict = n.verdict }

abbrev pub relation_of : CRel → plain.Relation
relation_of r = record { source = r.from; target = r.to; kind = relation_kind_of r.kind }

abbrev pub case_of : Case → plain.Case
case_of c = record { nodes = map node_of c.nodes; relations = map relation_of c.relations }

abbrev pub status_view : Status3 → plain.Status
status_view status.Supported = plain.Supported
status_view status.Refuted = plain.Refuted
status_view status.Open = plain.Open

-- both ends of each relation are nodes of the case
abbrev pub EndsInRange : Case → Type 0
EndsInRange c = All (λ r. (r.from < length c.nodes) × (r.to < length c.nodes)) c.relations
