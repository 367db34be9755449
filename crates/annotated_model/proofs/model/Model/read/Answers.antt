use Rattle.std.proofs.Common.{◌∙◌, sym, subst, length}
use Rattle.doc_tree.specs.View.{document}
use Rattle.annotated_model.specs.ModelFacts.{NamesFeatures}
use Rattle.annotated_model.proofs.BundleReads.{read_ok, read_fault, read_nothing}
use Rattle.annotated_model.proofs.ConditionBounds.{names_features, read_bounded}
use Rattle.annotated_model.proofs.model.Model.read.Goals as goal

pub returns-in-Some-clause-ok : goal.returns-in-Some-clause-ok
returns-in-Some-clause-ok c =
    read_ok c.args.features.now (document c.args.doc.now) (document c.in-Some.model.now) c.in-Some.ensures.there c.read_table.result
    c.read_table.ensures.value c.read_table.ensures.none

pub returns-in-Some-clause-fault : goal.returns-in-Some-clause-fault
returns-in-Some-clause-fault c =
    read_fault c.args.features.now (document c.args.doc.now) (document c.in-Some.model.now) c.in-Some.ensures.there c.read_table.result c.read_table.ensures.fault

pub returns-in-None-clause-ok : goal.returns-in-None-clause-ok
returns-in-None-clause-ok c =
    let r = read_nothing c.args.features.now (document c.args.doc.now) c.in-None.ensures.none in (c.empty.ensures ∙ r.0, r.1)

pub returns-in-Some-clause-bounded : goal.returns-in-Some-clause-bounded
returns-in-Some-clause-bounded c =
    read_bounded c.args.features.now (document c.args.doc.now) c.read_table.result
    (read_ok c.args.features.now (document c.args.doc.now) (document c.in-Some.model.now) c.in-Some.ensures.there c.read_table.result
    c.read_table.ensures.value c.read_table.ensures.none)

pub returns-in-None-clause-bounded : goal.returns-in-None-clause-bounded
returns-in-None-clause-bounded c =
    let features = c.args.features.now in
    let bundle = document c.args.doc.now in
    let r = read_nothing features bundle c.in-None.ensures.none in
    subst (NamesFeatures (length features)) (sym (c.empty.ensures ∙ r.0)) (names_features features bundle)
