use Rattle.std.proofs.Common.{sym, subst, length}
use Rattle.std.proofs.lemmas.Result.{IfOk-weaker}
use Rattle.meaning.specs.Layers.{parents_there}
use Rattle.annotated_model.specs.View.{system_view}
use Rattle.worlds.specs.Rows.{RowWhere}
use Rattle.worlds.proofs.Rows.{row_later}
use Rattle.featured_systems.proofs.SystemFacts.{system_fits}
use Rattle.invariant_check.specs.Targets.{IsJudged}
use Rattle.invariant_check.specs.View.{property}
use Rattle.invariant_check.proofs.checking.check_of.Goals as goal

pub judge-requires-clause-from : goal.judge-requires-clause-from
judge-requires-clause-from g c = λ k d below. (system_fits c.args.model.now c.args.system.now c.requires.fits k d below).0

pub finding-requires-clause-parents : goal.finding-requires-clause-parents
finding-requires-clause-parents g c =
    let a = g.W.Worlds.algebra c.args.w.now in
    row_later c.judge.ensures.worked.kept
    (subst (λ r. RowWhere a r (parents_there c.args.model.now (system_view c.args.system.now))) (sym c.list-2.ensures) c.requires.explored.parents)

pub returns-clause-found : goal.returns-clause-found
returns-clause-found g c =
    let now = g.W.Worlds.algebra c.judge.new.w in
    let m = c.args.model.now in
    let s = system_view c.args.system.now in
    let p = property c.args.property.now in
    let judged = subst (IsJudged now (length m.labels) s p c.args.under c.in_ok-supported.supported c.in_ok-supported.refuted) (sym c.deref.ensures.value) c.in_ok-supported.ensures.judged in
    IfOk-weaker c.finding.result _ _ (λ f fact. fact p c.args.under judged) c.finding.ensures.found
