use Rattle.std.proofs.Common.{◌≡◌, ◌+◌, ◌≤◌, [], refl, map, length, arith}
use Rattle.std.proofs.lemmas.Option.{slice_get_read}
use Rattle.doc_tree.specs.View.{document, documents}
use Rattle.templates.specs.Faults.{IsFirst}
use Rattle.templates.specs.View.{node_view}
use Rattle.templates.specs.NodeRules.{all_nodes_broken}
use Rattle.templates.specs.Wholes.{nodes_in}
use Rattle.templates.proofs.Firsts.{at_error}
use Rattle.templates.proofs.WholeLaws.{nodes_stop, nodes_go_on, values_go_on}
use Rattle.templates.proofs.read.read_all_nodes.Goals as goal

pub read_nodes-requires-clause-item : goal.read_nodes-requires-clause-item
read_nodes-requires-clause-item c =
    slice_get_read c.args.docs.now (length c.args.docs.now) c.templates.number c.index-docs-number.result refl (omega arith) c.index-docs-number.is

pub returns-in_err-row-clause-fault : goal.returns-in_err-row-clause-fault
returns-in_err-row-clause-fault c =
    let m = c.args.model.now in
    let docs = c.args.docs.now in
    let stop = c.in_err-row.field-0.0 in
    let all = all_nodes_broken m [] 0 0 (documents docs) in
    at_error c.from_residual.result stop (IsFirst all)
    (nodes_stop m docs c.templates.number c.templates.counted c.index-docs-number.result all stop (omega arith) c.index-docs-number.is c.templates.invariant.none
    c.in_err-row.ensures.fault) c.from_residual.ensures.1

pub templates-preserved : goal.templates-preserved
templates-preserved c =
    let m = c.args.model.now in
    let docs = c.args.docs.now in
    let number = c.templates.number in
    let template = c.index-docs-number.result in
    let within = c.in_ok-row.ensures.within in
    let many = c.count-counted.ensures in
    record {
      counted = omega arith;
      values = values_go_on (map node_view) (nodes_in m c.args.names.now) docs number template c.templates.rows.items c.push.new.self.items c.in_ok-row.row
          (map (nodes_in m c.args.names.now) (documents docs)) (omega arith) c.index-docs-number.is c.in_ok-push.ensures.items c.in_ok-row.ensures.value c.templates.invariant.values;
      none = nodes_go_on m docs number c.templates.counted c.count-counted.result template (all_nodes_broken m [] 0 0 (documents docs)) (omega arith) c.index-docs-number.is many
          c.templates.invariant.none c.in_ok-row.ensures.none;
    }
