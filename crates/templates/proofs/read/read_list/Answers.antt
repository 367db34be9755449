use Rattle.std.proofs.Common.{◌≡◌, ◌++◌, [], map}
use Rattle.doc_tree.specs.View.{documents}
use Rattle.templates.specs.Faults.{IsFirst}
use Rattle.templates.specs.View.{node_view}
use Rattle.templates.specs.ListRules.{parameters_in, all_parameters_broken}
use Rattle.templates.specs.NodeRules.{all_nodes_broken}
use Rattle.templates.specs.Wholes.{nodes_in}
use Rattle.templates.proofs.Firsts.{at_error, first_in_front, first_behind}
use Rattle.templates.proofs.ReaderSteps.{anyhow}
use Rattle.templates.proofs.WholeLaws.{joined_alike}
use Rattle.templates.proofs.read.read_list.Goals as goal

pub returns-in_err-parameters-clause-fault : goal.returns-in_err-parameters-clause-fault
returns-in_err-parameters-clause-fault c =
    let m = c.args.model.now in
    let ds = documents c.args.docs.now in
    let stop = c.in_err-parameters.field-0.0 in
    at_error c.from_residual.result stop (IsFirst (all_parameters_broken m 0 ds ++ all_nodes_broken m [] 0 0 ds))
    (first_in_front (all_parameters_broken m 0 ds) (all_nodes_broken m [] 0 0 ds) stop c.in_err-parameters.ensures.fault) c.from_residual.ensures.1

pub returns-in_err-nodes-clause-fault : goal.returns-in_err-nodes-clause-fault
returns-in_err-nodes-clause-fault c =
    let m = c.args.model.now in
    let ds = documents c.args.docs.now in
    let stop = c.in_err-nodes.field-0.0 in
    at_error c.from_residual-in_err-nodes.result stop (IsFirst (all_parameters_broken m 0 ds ++ all_nodes_broken m [] 0 0 ds))
    (first_behind (all_parameters_broken m 0 ds) (all_nodes_broken m [] 0 0 ds) stop c.in_ok-parameters.ensures.none c.in_err-nodes.ensures.fault)
    c.from_residual-in_err-nodes.ensures.1

pub returns-clause-templates : goal.returns-clause-templates
returns-clause-templates c =
    joined_alike (documents c.args.docs.now) c.joined.result c.in_ok-parameters.parameters.items (map (parameters_in c.args.model.now) (documents c.args.docs.now))
    (map (map node_view) c.in_ok-nodes.nodes.items) (map (nodes_in c.args.model.now c.args.names.now) (documents c.args.docs.now))
    c.in_ok-parameters.ensures.values c.in_ok-nodes.ensures.values c.joined.ensures.templates

pub returns-clause-parameters : goal.returns-clause-parameters
returns-clause-parameters c = anyhow c.joined.result (all_parameters_broken c.args.model.now 0 (documents c.args.docs.now) ≡ []) c.in_ok-parameters.ensures.none

pub returns-clause-nodes : goal.returns-clause-nodes
returns-clause-nodes c = anyhow c.joined.result (all_nodes_broken c.args.model.now [] 0 0 (documents c.args.docs.now) ≡ []) c.in_ok-nodes.ensures.none
