use Rattle.std.proofs.Common.{◌≤◌, [], ◌++◌, subst, map, length, arith}
use Rattle.meaning.specs.Models.{Model}
use Rattle.meaning.specs.TemplateRules.{template_faults}
use Rattle.annotated_model.specs.ModelFacts.{KeepsRules}
use Rattle.doc_tree.specs.View.{document, documents}
use Rattle.templates.specs.View.{template_view}
use Rattle.templates.specs.Faults.{IsFirst}
use Rattle.templates.specs.ListRules.{all_parameters_broken}
use Rattle.templates.specs.NodeRules.{all_nodes_broken}
use Rattle.templates.proofs.Firsts.{at_error}
use Rattle.templates.proofs.WholeLaws.{at_list, at_both, whole_is_read}
use Rattle.templates.proofs.read.Templates.read.Goals as goal

pub returns-in_err-names-clause-fault : goal.returns-in_err-names-clause-fault
returns-in_err-names-clause-fault c =
    let m = c.args.model.now in
    let bundle = document c.args.doc.now in
    let stop = c.in_err-names.field-0.0 in
    at_error c.from_residual.result stop (IsFirst (template_faults m bundle)) (at_list m bundle stop c.in_err-names.ensures.fault)
    c.from_residual.ensures.1

pub returns-in_err-list-clause-fault : goal.returns-in_err-list-clause-fault
returns-in_err-list-clause-fault c =
    let m = c.args.model.now in
    let bundle = document c.args.doc.now in
    let stop = c.in_err-list.field-0.0 in
    at_error c.from_residual-in_err-list.result stop (IsFirst (template_faults m bundle))
    (at_both m bundle c.in_ok-names.ensures.none stop
    (subst (λ ds. IsFirst (all_parameters_broken m 0 ds ++ all_nodes_broken m [] 0 0 ds) stop) c.list_at-docs.ensures c.in_err-list.ensures.fault))
    c.from_residual-in_err-list.ensures.1

few_types : (m : Model) → KeepsRules m → length m.types ≤ 65536
few_types m h = omega (arith, h.few_types)

pub read_list-requires-clause-types : goal.read_list-requires-clause-types
read_list-requires-clause-types c = few_types c.args.model.now c.types-types.ensures.rules

pub invariant_of-result : goal.invariant_of-result
invariant_of-result c =
    let m = c.args.model.now in
    let bundle = document c.args.doc.now in
    let whole =
    whole_is_read m bundle c.in_ok-names.names (documents c.list_at-docs.result.now) (map template_view c.in_ok-list.list) c.list_at-docs.ensures c.in_ok-names.ensures.names
    c.in_ok-list.ensures.templates c.in_ok-names.ensures.none c.in_ok-list.ensures.parameters c.in_ok-list.ensures.nodes in
    record { model = m; over = record { bundle = bundle; of_bundle = whole.0; rules = whole.1 } }

pub returns-clause-ok : goal.returns-clause-ok
returns-clause-ok c =
    whole_is_read c.args.model.now (document c.args.doc.now) c.in_ok-names.names (documents c.list_at-docs.result.now) (map template_view c.in_ok-list.list) c.list_at-docs.ensures
    c.in_ok-names.ensures.names c.in_ok-list.ensures.templates c.in_ok-names.ensures.none c.in_ok-list.ensures.parameters c.in_ok-list.ensures.nodes
