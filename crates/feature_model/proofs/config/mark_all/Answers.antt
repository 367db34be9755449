use Rattle.std.proofs.Common.{◌∙◌, sym, ap, subst, arith}
use Rattle.std.proofs.lemmas.Result.{err_from_is_err_and}
use Rattle.meaning.specs.Documents.{texts_in}
use Rattle.meaning.specs.Configurations.{or_world}
use Rattle.doc_tree.specs.View.{documents}
use Rattle.feature_model.specs.Configs.{TellsStop, IsMarked, StopsMark}
use Rattle.feature_model.proofs.NamedWorlds.{item_marked, item_stops}
use Rattle.feature_model.proofs.config.mark_all.Goals as goal

pub items-preserved : goal.items-preserved
items-preserved c =
    let features = c.args.features.now in
    let items = c.args.items.now in
    let r = item_marked features items c.items.at c.index-items-at.result (omega arith) c.index-items-at.is c.items.world c.mark.new.world c.requires.distinct c.items.invariant.0
    (subst (λ s. IsMarked features c.items.world s c.mark.new.world) c.text_of.ensures c.in_ok-mark.ensures) in
    (r.0, ap (or_world features (texts_in (documents items))) (sym r.1) ∙ c.items.invariant.1)

pub returns-in_err-mark-clause-stop : goal.returns-in_err-mark-clause-stop
returns-in_err-mark-clause-stop c =
    let features = c.args.features.now in
    let items = c.args.items.now in
    let p = err_from_is_err_and c.from_residual.result c.from_residual.ensures.1 in
    rw (p.1, p.2) (subst (TellsStop c.in_err-mark.field-0.0) c.items.invariant.1
    (item_stops features items c.items.at c.index-items-at.result (omega arith) c.index-items-at.is c.items.world c.in_err-mark.field-0.0 c.items.invariant.0
    (subst (λ s. StopsMark features c.items.world s c.items.at c.in_err-mark.field-0.0) c.text_of.ensures c.in_err-mark.ensures)))
