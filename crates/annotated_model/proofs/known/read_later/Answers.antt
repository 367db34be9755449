use Rattle.std.proofs.Common.{subst, map}
use Rattle.std.proofs.lemmas.Result.{err_from_is_err_and}
use Rattle.meaning.specs.BundlePlaces.{Elements}
use Rattle.std.specs.Prelude.{codes}
use Rattle.doc_tree.specs.View.{document}
use Rattle.annotated_model.specs.View.{type_view}
use Rattle.annotated_model.specs.Faults.{IsFirst}
use Rattle.annotated_model.specs.Items.{part_faults, elements_broken}
use Rattle.annotated_model.proofs.ReadTogether.{TypesRead, KindsRead, LabelsRead, ElementsRead, at_kinds, at_labels, at_elements, no_known_faults, knows}
use Rattle.annotated_model.proofs.known.read_later.Goals as goal

pub returns-in_err-kinds-clause-fault : goal.returns-in_err-kinds-clause-fault
returns-in_err-kinds-clause-fault c =
    let p = err_from_is_err_and c.from_residual.result c.from_residual.ensures.1 in
    let m = document c.args.model.now in
    let t : TypesRead c.args.types.now c.args.type_names.now m = record {
      values = c.requires.values;
      names_are = c.requires.names;
      few = c.requires.few;
      none = c.requires.none;
    } in
    rw (p.1, p.2) (at_kinds c.args.features.now m c.args.types.now c.args.type_names.now t c.in_err-kinds.field-0.0 c.in_err-kinds.ensures.fault)

pub returns-in_err-labels-clause-fault : goal.returns-in_err-labels-clause-fault
returns-in_err-labels-clause-fault c =
    let p = err_from_is_err_and c.from_residual-in_err-labels.result c.from_residual-in_err-labels.ensures.1 in
    let m = document c.args.model.now in
    let t : TypesRead c.args.types.now c.args.type_names.now m = record {
      values = c.requires.values;
      names_are = c.requires.names;
      few = c.requires.few;
      none = c.requires.none;
    } in
    let k : KindsRead c.args.type_names.now c.in_ok-kinds.kinds c.in_ok-kinds.kind_names m = record {
      values = c.in_ok-kinds.ensures.values;
      names_are = c.in_ok-kinds.ensures.names;
      few = c.in_ok-kinds.ensures.few;
      none = c.in_ok-kinds.ensures.none;
    } in
    rw (p.1, p.2) (at_labels c.args.features.now m c.args.types.now c.args.type_names.now t c.in_ok-kinds.kinds c.in_ok-kinds.kind_names k
    c.in_err-labels.field-0.0 c.in_err-labels.ensures.fault)

pub returns-in_err-elements-clause-fault : goal.returns-in_err-elements-clause-fault
returns-in_err-elements-clause-fault c =
    let p = err_from_is_err_and c.from_residual-in_err-elements.result c.from_residual-in_err-elements.ensures.1 in
    let m = document c.args.model.now in
    let t : TypesRead c.args.types.now c.args.type_names.now m = record {
      values = c.requires.values;
      names_are = c.requires.names;
      few = c.requires.few;
      none = c.requires.none;
    } in
    let k : KindsRead c.args.type_names.now c.in_ok-kinds.kinds c.in_ok-kinds.kind_names m = record {
      values = c.in_ok-kinds.ensures.values;
      names_are = c.in_ok-kinds.ensures.names;
      few = c.in_ok-kinds.ensures.few;
      none = c.in_ok-kinds.ensures.none;
    } in
    let l : LabelsRead c.in_ok-labels.labels m = record {
      names_are = c.in_ok-labels.ensures.names;
      few = c.in_ok-labels.ensures.few;
      none = c.in_ok-labels.ensures.none;
    } in
    rw (p.1, p.2) (at_elements c.args.features.now m c.args.types.now c.args.type_names.now t c.in_ok-kinds.kinds c.in_ok-kinds.kind_names k c.in_ok-labels.labels l
    c.in_err-elements.field-0.0
    (subst (λ ts. IsFirst (part_faults Elements (codes "elements") (elements_broken c.args.features.now c.args.type_names.now (map type_view ts)) m) c.in_err-elements.field-0.0)
    c.list.ensures c.in_err-elements.ensures.fault))

pub returns-clause-knows : goal.returns-clause-knows
returns-clause-knows c =
    let m = document c.args.model.now in
    let t : TypesRead c.args.types.now c.args.type_names.now m = record {
      values = c.requires.values;
      names_are = c.requires.names;
      few = c.requires.few;
      none = c.requires.none;
    } in
    let k : KindsRead c.args.type_names.now c.in_ok-kinds.kinds c.in_ok-kinds.kind_names m = record {
      values = c.in_ok-kinds.ensures.values;
      names_are = c.in_ok-kinds.ensures.names;
      few = c.in_ok-kinds.ensures.few;
      none = c.in_ok-kinds.ensures.none;
    } in
    let l : LabelsRead c.in_ok-labels.labels m = record {
      names_are = c.in_ok-labels.ensures.names;
      few = c.in_ok-labels.ensures.few;
      none = c.in_ok-labels.ensures.none;
    } in
    let e : ElementsRead c.args.features.now c.args.type_names.now c.list.result.now c.in_ok-elements.elements c.in_ok-elements.element_names m = record {
      values = c.in_ok-elements.ensures.values;
      names_are = c.in_ok-elements.ensures.names;
      few = c.in_ok-elements.ensures.few;
      none = c.in_ok-elements.ensures.none;
    } in
    knows c.args.features.now m c.args.types.now c.args.type_names.now t c.in_ok-kinds.kinds c.in_ok-kinds.kind_names k c.in_ok-labels.labels l
    c.in_ok-elements.elements c.in_ok-elements.element_names
    (subst (λ ts. ElementsRead c.args.features.now c.args.type_names.now ts c.in_ok-elements.elements c.in_ok-elements.element_names m) c.list.ensures e)

pub returns-clause-none : goal.returns-clause-none
returns-clause-none c =
    let m = document c.args.model.now in
    let t : TypesRead c.args.types.now c.args.type_names.now m = record {
      values = c.requires.values;
      names_are = c.requires.names;
      few = c.requires.few;
      none = c.requires.none;
    } in
    let k : KindsRead c.args.type_names.now c.in_ok-kinds.kinds c.in_ok-kinds.kind_names m = record {
      values = c.in_ok-kinds.ensures.values;
      names_are = c.in_ok-kinds.ensures.names;
      few = c.in_ok-kinds.ensures.few;
      none = c.in_ok-kinds.ensures.none;
    } in
    let l : LabelsRead c.in_ok-labels.labels m = record {
      names_are = c.in_ok-labels.ensures.names;
      few = c.in_ok-labels.ensures.few;
      none = c.in_ok-labels.ensures.none;
    } in
    let e : ElementsRead c.args.features.now c.args.type_names.now c.list.result.now c.in_ok-elements.elements c.in_ok-elements.element_names m = record {
      values = c.in_ok-elements.ensures.values;
      names_are = c.in_ok-elements.ensures.names;
      few = c.in_ok-elements.ensures.few;
      none = c.in_ok-elements.ensures.none;
    } in
    no_known_faults c.args.features.now m c.args.types.now c.args.type_names.now t c.in_ok-kinds.kinds c.in_ok-kinds.kind_names k c.in_ok-labels.labels l
    c.in_ok-elements.elements c.in_ok-elements.element_names
    (subst (λ ts. ElementsRead c.args.features.now c.args.type_names.now ts c.in_ok-elements.elements c.in_ok-elements.element_names m) c.list.ensures e)
