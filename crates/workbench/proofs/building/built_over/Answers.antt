use Rattle.std.proofs.lemmas.Result.{IfErr-weaker}
use Rattle.workbench.specs.BundleView.{bundle_view}
use Rattle.workbench.specs.Products.{StopsOver}
use Rattle.workbench.proofs.BuildAnswers.{stops_later}
use Rattle.workbench.proofs.ProductWorlds.{limits_later}
use Rattle.workbench.proofs.building.built_over.Goals as goal

pub returns-clause-stopped : goal.returns-clause-stopped
returns-clause-stopped c =
    let b = bundle_view c.args.bundle.now in
    let mid = c.restrict_to_products.new.d in
    let new = c.case_bytes.new.d in
    IfErr-weaker c.case_bytes.result (StopsOver b mid new) (StopsOver b c.args.d.now new)
    (λ s h. stops_later b c.args.d.now mid new s c.restrict_to_products.ensures.kept h) c.case_bytes.ensures.stopped

pub returns-clause-kept : goal.returns-clause-kept
returns-clause-kept c = limits_later c.args.d.now c.restrict_to_products.new.d c.case_bytes.new.d c.restrict_to_products.ensures.kept c.case_bytes.ensures.kept
