use Rattle.std.proofs.Common.{◌∙◌, sym, refl, subst}
use Rattle.lifting.specs.Sites.{templates_of}
use Rattle.lifting.specs.Stops.{Halts}
use Rattle.lifting.specs.FittingTemplates.{TemplatesFit}
use Rattle.lifting.specs.Overflows.{TooManyEntries}
use Rattle.lifting.proofs.ReadTemplates.{read_over_fit}
use Rattle.lifting.proofs.InstanceRules.{writable}
use Rattle.lifting.proofs.PlacedNodes.{err_as}
use Rattle.lifting.proofs.WholeInstances.{whole}
use Rattle.lifting.proofs.instance.instantiate.Goals as goal

pub lift_last-requires-clause-fit : goal.lift_last-requires-clause-fit
lift_last-requires-clause-fit g c =
    subst TemplatesFit (sym c.list.ensures.templates) (read_over_fit c.args.templates.now c.list.ensures.read c.requires.unsolved)

pub returns-in_err-lift_last-clause-stops : goal.returns-in_err-lift_last-clause-stops
returns-in_err-lift_last-clause-stops g c =
    let a = g.W.Worlds.algebra c.args.w.now in
    let b = g.W.Worlds.algebra c.lift_last.new.w in
    let stop = c.in_err-lift_last.field-0.0 in
    err_as c.from_residual-in_err-lift_last.result stop (Halts a b (TooManyEntries b c.args.model.now c.args.templates.now)) c.from_residual-in_err-lift_last.ensures.1
    (subst (λ ts. Halts a b (TooManyEntries b c.args.model.now ts) stop) c.list.ensures.templates c.in_err-lift_last.ensures.stops)

pub returns : goal.returns
returns g c =
    let a = g.W.Worlds.algebra c.args.w.now in
    let b = g.W.Worlds.algebra c.lift_last.new.w in
    let m = c.args.model.now in
    let written = writable b c.args.title.now c.args.features.now m (templates_of c.list.result.now) c.args.templates.now _ c.list.ensures.templates c.list.ensures.read c.requires.unsolved
    c.types-types.ensures.rules c.types-types.ensures.texts
    (whole a b m (templates_of c.list.result.now) c.args.title.now c.args.features.now c.always-valid.result c.in_ok-lift_last.ensures.kept c.always-valid.ensures
    (record { nodes = c.new.result; relations = c.new-2.result; left = 32768 }) c.lift_last.new.out c.new.ensures.items c.new-2.ensures.items refl c.in_ok-lift_last.ensures.adds
    (record {
      title = c.in_ok-title.title;
      features = c.in_ok-features.features;
      valid = c.always-valid.result;
      nodes = c.of-2.result;
      relations = c.of-3.result;
      systems = c.of-4.result;
    })
    (record { title = c.in_ok-title.ensures; features = c.in_ok-features.ensures; valid_is = refl; systems = c.of-4.ensures ∙ c.new-3.ensures.items })
    c.of-2.ensures c.of-3.ensures) in
    record { kept = c.in_ok-lift_last.ensures.kept; lifted = written.lifted; contents = written.contents; texts = written.texts; stops = tt }
