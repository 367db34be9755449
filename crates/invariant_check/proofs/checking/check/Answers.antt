use Rattle.std.proofs.Common.{sym, ◌∙◌, subst}
use Rattle.std.proofs.lemmas.Result.{IfOk-weaker}
use Rattle.meaning.specs.Bounds.{asks_of_judging}
use Rattle.annotated_model.specs.ModelFacts.{SystemFits}
use Rattle.annotated_model.specs.View.{system_view}
use Rattle.worlds.specs.Algebra.{Worked}
use Rattle.invariant_check.specs.Findings.{IsFinding}
use Rattle.invariant_check.specs.View.{property}
use Rattle.annotated_model.proofs.ViewedItems.{viewed, all_at, same_some}
use Rattle.invariant_check.proofs.checking.check.Goals as goal

pub check_of-requires-clause-fits : goal.check_of-requires-clause-fits
check_of-requires-clause-fits g c =
    let x = c.index-systems-from.result in
    let m = c.args.model.now in
    let at = viewed system_view c.systems-systems.result.now m.systems c.from.result c.args.system x c.systems-systems.ensures.systems c.from.ensures c.requires.system c.index-systems-from.is in
    all_at (SystemFits m) m.systems c.args.system (system_view x) c.systems-systems.ensures.fit at

pub check_of-requires-clause-explored : goal.check_of-requires-clause-explored
check_of-requires-clause-explored g c =
    let x = c.index-systems-from.result in
    let m = c.args.model.now in
    c.requires.explored (system_view x) (viewed system_view c.systems-systems.result.now m.systems c.from.result c.args.system x c.systems-systems.ensures.systems c.from.ensures c.requires.system c.index-systems-from.is)

pub check_of-requires-clause-under : goal.check_of-requires-clause-under
check_of-requires-clause-under g c =
    let x = c.index-systems-from.result in
    let m = c.args.model.now in
    c.requires.under (system_view x) (viewed system_view c.systems-systems.result.now m.systems c.from.result c.args.system x c.systems-systems.ensures.systems c.from.ensures c.requires.system c.index-systems-from.is)

pub returns-clause-worked : goal.returns-clause-worked
returns-clause-worked g c = λ s is.
    let x = c.index-systems-from.result in
    let m = c.args.model.now in
    let at = viewed system_view c.systems-systems.result.now m.systems c.from.result c.args.system x c.systems-systems.ensures.systems c.from.ensures c.requires.system c.index-systems-from.is in
    subst (λ k. Worked (asks_of_judging k) (g.W.Worlds.algebra c.args.w.now) (g.W.Worlds.algebra c.check_of.new.w)) (same_some (system_view x) s (sym at ∙ is)) c.check_of.ensures.worked

pub returns-clause-found : goal.returns-clause-found
returns-clause-found g c =
    let x = c.index-systems-from.result in
    let m = c.args.model.now in
    let at = viewed system_view c.systems-systems.result.now m.systems c.from.result c.args.system x c.systems-systems.ensures.systems c.from.ensures c.requires.system c.index-systems-from.is in
    IfOk-weaker c.check_of.result _ _
    (λ f fact. λ s is. subst (λ k. IsFinding (g.W.Worlds.algebra c.check_of.new.w) m k (property c.args.property.now) c.args.under f) (same_some (system_view x) s (sym at ∙ is)) fact)
    c.check_of.ensures.found
