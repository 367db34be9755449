use Rattle.std.proofs.Common.{refl, ap}
use Rattle.std.specs.Prelude.{Err}
use Rattle.conditions.specs.Diagrams.{algebra_of}
use Rattle.workbench.specs.BundleView.{bundle_view}
use Rattle.workbench.proofs.Exits.{stops_with}
use Rattle.workbench.proofs.ProductWorlds.{kept_limits}
use Rattle.workbench.proofs.BundleFacts.{without_solutions, names_features, instance_of, products_later, lifting_stops, features_here, live_here, keeps_rules_here, joined_here, prints_here, writing_stops}
use Rattle.workbench.proofs.building.case_bytes.Goals as goal

pub instantiate-requires-clause-names : goal.instantiate-requires-clause-names
instantiate-requires-clause-names c = names_features c.args.bundle.now c.requires.read c.args.d.now.region.vars c.requires.products.count

pub instantiate-requires-clause-unsolved : goal.instantiate-requires-clause-unsolved
instantiate-requires-clause-unsolved c = without_solutions c.args.bundle.now c.requires.read

pub returns-in_err-case-clause-stopped : goal.returns-in_err-case-clause-stopped
returns-in_err-case-clause-stopped c =
    let b = c.args.bundle.now in
    stops_with _ _ _ c.from_residual.ensures.1
    (lifting_stops (bundle_view b) c.args.d.now c.instantiate.new.w (products_later (bundle_view b) c.args.d.now c.instantiate.new.w c.instantiate.ensures.kept c.requires.products)
    c.args.bundle.now.templates refl c.in_err-case.field-0.0 c.in_err-case.ensures.stops)

pub returns-in_err-case-clause-kept : goal.returns-in_err-case-clause-kept
returns-in_err-case-clause-kept c = kept_limits c.args.d.now c.instantiate.new.w c.instantiate.ensures.kept

pub returns-in_err-bytes-clause-kept : goal.returns-in_err-bytes-clause-kept
returns-in_err-bytes-clause-kept c = kept_limits c.args.d.now c.instantiate.new.w c.instantiate.ensures.kept

pub returns-clause-kept : goal.returns-clause-kept
returns-clause-kept c = kept_limits c.args.d.now c.instantiate.new.w c.instantiate.ensures.kept

pub write_case-requires-clause-features : goal.write_case-requires-clause-features
write_case-requires-clause-features c =
    let b = c.args.bundle.now in
    let new = c.instantiate.new.w in
    features_here b c.requires.read new (products_later (bundle_view b) c.args.d.now new c.instantiate.ensures.kept c.requires.products) c.in_ok-case.case
    (instance_of (algebra_of new) c.in_ok-case.case b.model _ _ _ _ _ _ c.text.ensures c.features.ensures refl c.in_ok-case.ensures.lifted)

pub write_case-requires-clause-live : goal.write_case-requires-clause-live
write_case-requires-clause-live c =
    let b = c.args.bundle.now in
    let new = c.instantiate.new.w in
    live_here b c.requires.read new (products_later (bundle_view b) c.args.d.now new c.instantiate.ensures.kept c.requires.products) c.in_ok-case.case
    (instance_of (algebra_of new) c.in_ok-case.case b.model _ _ _ _ _ _ c.text.ensures c.features.ensures refl c.in_ok-case.ensures.lifted)

pub write_case-requires-clause-rules : goal.write_case-requires-clause-rules
write_case-requires-clause-rules c =
    let b = c.args.bundle.now in
    let new = c.instantiate.new.w in
    keeps_rules_here b c.requires.read new (products_later (bundle_view b) c.args.d.now new c.instantiate.ensures.kept c.requires.products) c.in_ok-case.case
    (instance_of (algebra_of new) c.in_ok-case.case b.model _ _ _ _ _ _ c.text.ensures c.features.ensures refl c.in_ok-case.ensures.lifted)

pub write_case-requires-clause-texts : goal.write_case-requires-clause-texts
write_case-requires-clause-texts c =
    let b = c.args.bundle.now in
    let new = c.instantiate.new.w in
    joined_here b c.requires.read new (products_later (bundle_view b) c.args.d.now new c.instantiate.ensures.kept c.requires.products) c.in_ok-case.case
    (instance_of (algebra_of new) c.in_ok-case.case b.model _ _ _ _ _ _ c.text.ensures c.features.ensures refl c.in_ok-case.ensures.lifted)

pub returns-in_err-bytes-clause-stopped : goal.returns-in_err-bytes-clause-stopped
returns-in_err-bytes-clause-stopped c =
    let b = c.args.bundle.now in
    let new = c.instantiate.new.w in
    stops_with _ _ _ c.from_residual-in_err-bytes.ensures.1
    (writing_stops b c.requires.read new (products_later (bundle_view b) c.args.d.now new c.instantiate.ensures.kept c.requires.products) c.in_ok-case.case
    (instance_of (algebra_of new) c.in_ok-case.case b.model _ _ _ _ _ _ c.text.ensures c.features.ensures refl c.in_ok-case.ensures.lifted)
    c.used-nodes.ensures.region c.args.d.now c.in_err-bytes.field-0.0 (λ e. c.in_err-bytes.ensures.big (ap Err e)))

pub returns-clause-built : goal.returns-clause-built
returns-clause-built c =
    let b = c.args.bundle.now in
    let new = c.instantiate.new.w in
    prints_here b c.requires.read new (products_later (bundle_view b) c.args.d.now new c.instantiate.ensures.kept c.requires.products) c.in_ok-case.case
    (instance_of (algebra_of new) c.in_ok-case.case b.model _ _ _ _ _ _ c.text.ensures c.features.ensures refl c.in_ok-case.ensures.lifted)
    c.in_ok-bytes.bytes.items c.in_ok-bytes.ensures.ok
