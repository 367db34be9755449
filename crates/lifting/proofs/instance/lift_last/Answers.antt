use Rattle.std.proofs.Common.{◌≤◌, ◌∙◌, ap, length, arith}
use Rattle.std.specs.Prelude.{option_map, ◌^◌}
use Rattle.std.specs.Option.{option_copied}
use Rattle.std.proofs.lemmas.Result.{on_ok_weaker, IfErr-weaker}
use Rattle.templates.specs.View.{template_view}
use Rattle.lifting.specs.Sites.{templates_of}
use Rattle.lifting.proofs.WholeInstances.{case_site, last_seen, last_is, no_last, adds_last, adds_without, halts_last}
use Rattle.lifting.proofs.instance.lift_last.Goals as goal

pub lift_first-requires-clause-site : goal.lift_first-requires-clause-site
lift_first-requires-clause-site g c =
    let a = g.W.Worlds.algebra c.args.w.now in
    let found = last_seen template_view c.args.templates.now (option_copied c.last.result) c.last.ensures.value ∙ ap (λ o. option_map template_view (option_copied o)) c.in-Some.is in
    case_site a c.args.model.now (templates_of c.args.templates.now) (template_view c.in-Some.last.now) c.args.valid c.requires.fit found

pub returns-in-None-clause-adds : goal.returns-in-None-clause-adds
returns-in-None-clause-adds g c =
    let a = g.W.Worlds.algebra c.args.w.now in
    let ts = templates_of c.args.templates.now in
    let none = last_seen template_view c.args.templates.now (option_copied c.last.result) c.last.ensures.value ∙ ap (λ o. option_map template_view (option_copied o)) c.in-None.is in
    adds_without a a c.args.model.now ts c.node_count-levels.result c.args.valid c.node_count-levels.ensures c.args.out.now (no_last ts none)

pub returns-in-Some-clause-adds : goal.returns-in-Some-clause-adds
returns-in-Some-clause-adds g c =
    let a = g.W.Worlds.algebra c.args.w.now in
    let b = g.W.Worlds.algebra c.lift_first.new.w in
    let ts = templates_of c.args.templates.now in
    let v = template_view c.in-Some.last.now in
    let found = last_seen template_view c.args.templates.now (option_copied c.last.result) c.last.ensures.value ∙ ap (λ o. option_map template_view (option_copied o)) c.in-Some.is in
    on_ok_weaker c.lift_first.result (adds_last a b c.args.model.now ts c.node_count-levels.result c.args.valid c.node_count-levels.ensures v c.args.out.now c.lift_first.new.out (last_is ts v found)) c.lift_first.ensures.adds

pub returns-in-Some-clause-stops : goal.returns-in-Some-clause-stops
returns-in-Some-clause-stops g c =
    let a = g.W.Worlds.algebra c.args.w.now in
    let b = g.W.Worlds.algebra c.lift_first.new.w in
    let ts = templates_of c.args.templates.now in
    let v = template_view c.in-Some.last.now in
    let found = last_seen template_view c.args.templates.now (option_copied c.last.result) c.last.ensures.value ∙ ap (λ o. option_map template_view (option_copied o)) c.in-Some.is in
    let few : length c.args.model.now.elements ≤ 2 ^ 64 = omega (arith, c.element_count-elements.ensures) in
    IfErr-weaker c.lift_first.result _ _
    (λ stop h. halts_last a b c.args.model.now ts c.node_count-levels.result c.args.valid c.node_count-levels.ensures v c.args.out.now.left stop few c.requires.fit (last_is ts v found) c.requires.left h) c.lift_first.ensures.stops
