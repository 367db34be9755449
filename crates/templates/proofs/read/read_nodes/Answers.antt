use Rattle.std.proofs.Common.{◌≡◌, ◌+◌, ◌≤◌, [], sym, ap, ◌∙◌, subst, map, length, take, arith}
use Rattle.std.specs.Prelude.{IfOk, IfErr}
use Rattle.std.proofs.lemmas.List.{length-map}
use Rattle.meaning.specs.BundlePlaces.{requires}
use Rattle.doc_tree.specs.View.{document, documents}
use Rattle.templates.specs.Faults.{IsFirst}
use Rattle.templates.specs.View.{node_view}
use Rattle.templates.proofs.WholeLaws.{rows_many, row_there, told_is, whole_is}
use Rattle.templates.proofs.read.read_nodes.Goals as goal

pub parameters_of-own-requires-clause-number : goal.parameters_of-own-requires-clause-number
parameters_of-own-requires-clause-number c =
    let many = rows_many c.args.model.now c.args.docs.now c.args.parameters.now c.requires.values in
    let inside = c.requires.number in omega arith

pub read_nodes-requires : goal.read_nodes-requires
read_nodes-requires c = record {
  fits = record {
    names = c.requires.names;
    types = c.requires.types;
    few = c.parameters_of-own.ensures.few;
    number = c.requires.within;
    counted = c.requires.counted;
    formed = c.in_ok-support.ensures.formed;
    marks = c.in_ok-support.ensures.marks;
  };
}

pub returns-clause-value : goal.returns-clause-value
returns-clause-value c =
    let m = c.args.model.now in
    let docs = c.args.docs.now in
    let d = document c.args.template.now in
    let own = c.parameters_of-own.result.now in
    let own_is = row_there m docs c.args.parameters.now c.requires.values c.args.number c.args.template.now own c.requires.item c.parameters_of-own.ensures.value in
    let ds = documents c.list_at-nodes.result.now in
    subst (λ ns. IfOk c.read_nodes.result (λ row. map node_view row ≡ ns))
    (told_is m (documents (take c.args.number docs)) c.args.number c.args.counted d own ds own_is c.list_at-nodes.ensures c.args.names.now) c.read_nodes.ensures.value

pub returns-clause-within : goal.returns-clause-within
returns-clause-within c =
    let nodes = c.list_at-nodes.result.now in
    subst (λ n. IfOk c.read_nodes.result (λ row. c.args.counted + n ≤ 1024)) (sym (length-map nodes document) ∙ ap length c.list_at-nodes.ensures) c.read_nodes.ensures.within

pub returns-clause-none : goal.returns-clause-none
returns-clause-none c =
    let m = c.args.model.now in
    let docs = c.args.docs.now in
    let d = document c.args.template.now in
    let own = c.parameters_of-own.result.now in
    let own_is = row_there m docs c.args.parameters.now c.requires.values c.args.number c.args.template.now own c.requires.item c.parameters_of-own.ensures.value in
    let ds = documents c.list_at-nodes.result.now in
    let formed = subst (λ b. requires 2 b ≡ []) c.may_have_list.ensures c.in_ok-require.ensures.none in
    subst (λ fs. IfOk c.read_nodes.result (λ row. fs ≡ []))
    (whole_is m (documents (take c.args.number docs)) c.args.number c.args.counted d own ds own_is c.list_at-nodes.ensures formed) c.read_nodes.ensures.none

pub returns-clause-fault : goal.returns-clause-fault
returns-clause-fault c =
    let m = c.args.model.now in
    let docs = c.args.docs.now in
    let d = document c.args.template.now in
    let own = c.parameters_of-own.result.now in
    let own_is = row_there m docs c.args.parameters.now c.requires.values c.args.number c.args.template.now own c.requires.item c.parameters_of-own.ensures.value in
    let ds = documents c.list_at-nodes.result.now in
    let formed = subst (λ b. requires 2 b ≡ []) c.may_have_list.ensures c.in_ok-require.ensures.none in
    subst (λ fs. IfErr c.read_nodes.result (IsFirst fs))
    (whole_is m (documents (take c.args.number docs)) c.args.number c.args.counted d own ds own_is c.list_at-nodes.ensures formed) c.read_nodes.ensures.fault
