use Rattle.std.proofs.Common.{◌≡◌, ◌+◌, ◌≤◌, map, take, vec_len}
use Rattle.meaning.specs.TemplateRules.{id_in}
use Rattle.doc_tree.specs.View.{documents}
use Rattle.templates.specs.NodeRules.{FormedBefore}
use Rattle.templates.proofs.SupportLaws.{MarksBefore}
use Rattle.templates.proofs.support.mark_supported.Given as goal

abbrev pub invariant-nodes : goal.invariant-nodes
invariant-nodes l = record {
  few : l.counted + l.number ≤ 1024;
  many : vec_len l.marks ≡ l.number;
  ids : l.ids ≡ map id_in (documents (take l.number l.nodes));
  formed : FormedBefore l.counted (documents l.nodes) l.number;
  marks : MarksBefore (documents l.nodes) l.marks.items l.number;
}
