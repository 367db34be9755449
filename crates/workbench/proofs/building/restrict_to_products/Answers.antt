use Rattle.std.proofs.Common.{sym, ◌∙◌}
use Rattle.std.proofs.lemmas.Bool.{true≢false}
use Rattle.std.proofs.lemmas.List.{length-map}
use Rattle.meaning.specs.Answers.{no_world}
use Rattle.meaning.specs.Derivation.{Bundle}
use Rattle.cond_text.specs.View.{expression}
use Rattle.feature_model.specs.Contents.{line_view}
use Rattle.worlds.specs.Algebra.{IsRefusal}
use Rattle.worlds.specs.declared.stops.NodeLimit.{NodeLimit}
use Rattle.conditions.specs.Diagrams.{State, algebra_of}
use Rattle.workbench.specs.declared.status.Status.TheVariants as status
use Rattle.workbench.specs.BundleView.{bundle_view}
use Rattle.workbench.specs.Products.{StopsOver}
use Rattle.workbench.proofs.Exits.{stops_with}
use Rattle.workbench.proofs.ProductWorlds.{same_limits, kept_limits, restricted_limits, worlds_are_valid, some_product, no_product}
use Rattle.workbench.proofs.building.restrict_to_products.Goals as goal

-- a refused condition tells the limit
limit_stops : (b : Bundle) (old new : State) (stop : NodeLimit) → IsRefusal (algebra_of old) (algebra_of new) stop → StopsOver b old new (status.NodeLimit stop.used)
limit_stops b old new stop h = (h.used, h.rose)

pub returns-in_err-valid-clause-stopped : goal.returns-in_err-valid-clause-stopped
returns-in_err-valid-clause-stopped c =
    stops_with _ _ _ c.from_residual-in_err-valid.ensures.1
    (limit_stops (bundle_view c.args.bundle.now) c.args.d.now c.condition.new.w _ c.in_err-valid.ensures.refused)

pub returns-in_err-expression-clause-kept : goal.returns-in_err-expression-clause-kept
returns-in_err-expression-clause-kept c = same_limits c.args.d.now

pub returns-in_err-valid-clause-kept : goal.returns-in_err-valid-clause-kept
returns-in_err-valid-clause-kept c = kept_limits c.args.d.now c.condition.new.w c.in_err-valid.ensures.worked.kept

pub returns-then-is_never-clause-kept : goal.returns-then-is_never-clause-kept
returns-then-is_never-clause-kept c = kept_limits c.args.d.now c.condition.new.w c.in_ok-valid.ensures.worked.kept

pub returns-clause-kept : goal.returns-clause-kept
returns-clause-kept c =
    restricted_limits c.args.d.now c.condition.new.w c.requires.all_worlds c.in_ok-valid.ensures.worked.kept (line_view c.args.bundle.now.line) c.requires.features
    c.in_ok-valid.valid (expression c.in_ok-expression.expression) c.in_ok-expression.ensures.truth c.in_ok-valid.ensures.made c.restrict.new.self c.restrict.ensures.restricted

pub returns-then-is_never-clause-stopped : goal.returns-then-is_never-clause-stopped
returns-then-is_never-clause-stopped c =
    no_world
    (no_product c.args.d.now c.condition.new.w c.requires.all_worlds c.in_ok-valid.ensures.worked.kept (line_view c.args.bundle.now.line) c.requires.features
    c.in_ok-valid.valid (expression c.in_ok-expression.expression) c.in_ok-expression.ensures.truth c.in_ok-valid.ensures.made (c.is_never.ensures.0 c.if-is_never.true))

pub returns-clause-products : goal.returns-clause-products
returns-clause-products c =
    let line = line_view c.args.bundle.now.line in
    record {
      count =
          c.restrict.ensures.restricted.count ∙ c.in_ok-valid.ensures.worked.kept.count ∙ c.requires.features
          ∙ sym (length-map c.args.bundle.now.line.features (λ f. f.name));
      worlds =
          worlds_are_valid c.args.d.now c.condition.new.w c.requires.all_worlds c.in_ok-valid.ensures.worked.kept line c.requires.features
          c.in_ok-valid.valid (expression c.in_ok-expression.expression) c.in_ok-expression.ensures.truth c.in_ok-valid.ensures.made c.restrict.new.self c.restrict.ensures.restricted;
      product =
          some_product c.args.d.now c.condition.new.w c.requires.all_worlds c.in_ok-valid.ensures.worked.kept line c.requires.features
          c.in_ok-valid.valid (expression c.in_ok-expression.expression) c.in_ok-expression.ensures.truth c.in_ok-valid.ensures.made
          (λ none. true≢false (sym (c.is_never.ensures.1 none) ∙ c.if-is_never.false));
    }
