use Rattle.std.proofs.Common.{◌∙◌, ◌≤◌, length, sym, ap, subst, arith}
use Rattle.std.proofs.lemmas.List.{length-map}
use Rattle.std.proofs.lemmas.Result.{IfOk-weaker}
use Rattle.meaning.specs.Expressions.{truth, name_bound}
use Rattle.meaning.specs.Layers.{is_system_there}
use Rattle.cond_text.specs.View.{expression}
use Rattle.annotated_model.specs.View.{system_view, element_view}
use Rattle.annotated_model.specs.ModelFacts.{SystemFits}
use Rattle.worlds.specs.Algebra.{HoldsWhere}
use Rattle.featured_systems.proofs.SystemFacts.{all_at, viewed_at, one_item, element_in}
use Rattle.system_tests.proofs.checking.where_there.Goals as goal

pub bounds-elements-element : goal.bounds-elements-element
bounds-elements-element g c =
    let m = c.args.model.now in
    let system = c.index-systems-0.result in
    let at = viewed_at system_view c.systems.result.now m.systems 0 0 system c.systems.ensures.systems (omega arith) c.requires.there c.index-systems-0.is in
    let fits : SystemFits m (system_view system) = all_at (SystemFits m) m.systems 0 (system_view system) c.systems.ensures.fit at in
    let long = sym (length-map c.elements.result.now element_view) ∙ ap length c.elements.ensures.elements in
    omega (arith, long, fits.element, c.from-element.ensures, ap (λ s. s.element) c.index-systems-0.is)

pub condition-requires : goal.condition-requires
condition-requires g c =
    let m = c.args.model.now in
    let system = c.index-systems-0.result in
    let at = viewed_at system_view c.systems.result.now m.systems 0 0 system c.systems.ensures.systems (omega arith) c.requires.there c.index-systems-0.is in
    let fits : SystemFits m (system_view system) = all_at (SystemFits m) m.systems 0 (system_view system) c.systems.ensures.fit at in
    let element = viewed_at element_view c.elements.result.now m.elements c.from-element.result system.element c.index-elements-element.result c.elements.ensures.elements (omega (arith, c.from-element.ensures, ap (λ s. s.element) c.index-systems-0.is)) fits.element c.index-elements-element.is in
    let bound : name_bound (expression c.index-elements-element.result.when) ≤ (g.W.Worlds.algebra c.args.w.now).count =
    all_at (λ e. name_bound e.presence ≤ (g.W.Worlds.algebra c.args.w.now).count) m.elements system.element (element_view c.index-elements-element.result) c.requires.names.elements element in
    subst (λ e. name_bound (expression e.when) ≤ (g.W.Worlds.algebra c.args.w.now).count) c.index-elements-element.is bound

pub returns-clause-made : goal.returns-clause-made
returns-clause-made g c =
    let m = c.args.model.now in
    let system = c.index-systems-0.result in
    let at = viewed_at system_view c.systems.result.now m.systems 0 0 system c.systems.ensures.systems (omega arith) c.requires.there c.index-systems-0.is in
    let fits : SystemFits m (system_view system) = all_at (SystemFits m) m.systems 0 (system_view system) c.systems.ensures.fit at in
    let element = viewed_at element_view c.elements.result.now m.elements c.from-element.result system.element c.index-elements-element.result c.elements.ensures.elements (omega (arith, c.from-element.ensures, ap (λ s. s.element) c.index-systems-0.is)) fits.element c.index-elements-element.is in
    IfOk-weaker c.condition.result _ _
    (λ there made s is. subst (λ k. HoldsWhere (g.W.Worlds.algebra c.condition.new.w) there (is_system_there m k)) (one_item m.systems 0 (system_view system) s at is)
    (record {
      live = made.live;
      holds = λ x w. made.holds x w ∙ ap (λ e. truth (expression e.when) x) (sym c.index-elements-element.is) ∙ sym (element_in m.elements x system.element (element_view c.index-elements-element.result) element);
    }))
    c.condition.ensures.made
