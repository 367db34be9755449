use Rattle.std.proofs.Common.{map, ap, sym, subst, ◌∙◌}
use Rattle.std.specs.List.{All}
use Rattle.meaning.specs.CaseReading as reading
use Rattle.doc_tree.specs.View.{document}
use Rattle.lifted_case.specs.SmallNumbers.{NodeIsNarrow, SystemIsNarrow}
use Rattle.lifted_case.proofs.SmallNumbers.{nodes_narrow, systems_narrow, of_documents}
use Rattle.lifted_case.proofs.read.read_items.Goals as goal

pub returns-clause-title : goal.returns-clause-title
returns-clause-title c = c.in_ok-of.ensures ∙ c.text_at.ensures

pub returns-clause-nodes : goal.returns-clause-nodes
returns-clause-nodes c = c.in_ok-nodes.ensures ∙ ap (map reading.node_of) c.list_at.ensures

pub returns-clause-relations : goal.returns-clause-relations
returns-clause-relations c = c.in_ok-relations.ensures ∙ ap (map reading.relation_of) c.list_at-2.ensures

pub returns-clause-systems : goal.returns-clause-systems
returns-clause-systems c = c.in_ok-systems.ensures ∙ ap (map reading.system_of) c.list_at-3.ensures

pub nodes-requires : goal.nodes-requires
nodes-requires c =
    of_documents NodeIsNarrow c.list_at.result.now (subst (All NodeIsNarrow) (sym c.list_at.ensures) (nodes_narrow (document c.args.doc.now) c.requires))

pub systems-requires : goal.systems-requires
systems-requires c =
    of_documents SystemIsNarrow c.list_at-3.result.now (subst (All SystemIsNarrow) (sym c.list_at-3.ensures) (systems_narrow (document c.args.doc.now) c.requires))
