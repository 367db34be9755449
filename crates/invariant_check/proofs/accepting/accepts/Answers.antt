use Rattle.std.proofs.Common.{◌<◌, ◌≤◌, sym, ap, ◌∙◌, subst, length, get_or}
use Rattle.std.specs.List.{All}
use Rattle.std.proofs.lemmas.List.{length-map}
use Rattle.meaning.specs.Expressions.{name_bound}
use Rattle.meaning.specs.Models.{projection}
use Rattle.meaning.specs.Systems.{is_closed}
use Rattle.annotated_model.specs.ModelFacts.{SystemFits, TransitionFits}
use Rattle.annotated_model.specs.View.{state_view, system_view, transition_view}
use Rattle.invariant_check.specs.View.{property}
use Rattle.annotated_model.proofs.ViewedItems.{viewed, all_at, all_viewed, same_some}
use Rattle.invariant_check.proofs.accepting.accepts.Goals as goal

pub is_shown-requires-clause-size : goal.is_shown-requires-clause-size
is_shown-requires-clause-size c =
    let x = c.index-systems-from.result in
    let m = c.args.model.now in
    let at = viewed system_view c.systems-systems.result.now m.systems c.from.result c.args.system x c.systems-systems.ensures.systems c.from.ensures c.requires.system c.index-systems-from.is in
    c.requires.states (system_view x) at ∙ length-map x.states state_view

pub is_shown-requires-clause-from : goal.is_shown-requires-clause-from
is_shown-requires-clause-from c =
    let x = c.index-systems-from.result in
    let m = c.args.model.now in
    let at = viewed system_view c.systems-systems.result.now m.systems c.from.result c.args.system x c.systems-systems.ensures.systems c.from.ensures c.requires.system c.index-systems-from.is in
    let fits = all_at (SystemFits m) m.systems c.args.system (system_view x) c.systems-systems.ensures.fit at in
    λ k d below. subst (λ n. (get_or x.transitions k d).from < n) (length-map x.states state_view) (all_viewed transition_view (TransitionFits (system_view x)) x.transitions fits.transitions k d below).source

pub is_shown-requires-clause-to : goal.is_shown-requires-clause-to
is_shown-requires-clause-to c =
    let x = c.index-systems-from.result in
    let m = c.args.model.now in
    let at = viewed system_view c.systems-systems.result.now m.systems c.from.result c.args.system x c.systems-systems.ensures.systems c.from.ensures c.requires.system c.index-systems-from.is in
    let fits = all_at (SystemFits m) m.systems c.args.system (system_view x) c.systems-systems.ensures.fit at in
    λ k d below. subst (λ n. (get_or x.transitions k d).to < n) (length-map x.states state_view) (all_viewed transition_view (TransitionFits (system_view x)) x.transitions fits.transitions k d below).target

pub is_shown-requires-clause-names : goal.is_shown-requires-clause-names
is_shown-requires-clause-names c =
    let x = c.index-systems-from.result in
    let m = c.args.model.now in
    let at = viewed system_view c.systems-systems.result.now m.systems c.from.result c.args.system x c.systems-systems.ensures.systems c.from.ensures c.requires.system c.index-systems-from.is in
    all_viewed transition_view (λ t. name_bound t.presence ≤ length c.args.world.now) x.transitions
    (all_at (λ s. All (λ t. name_bound t.presence ≤ length c.args.world.now) s.transitions) m.systems c.args.system (system_view x) c.requires.names.transitions at)

pub returns : goal.returns
returns c =
    let x = c.index-systems-from.result in
    let m = c.args.model.now in
    let at = viewed system_view c.systems-systems.result.now m.systems c.from.result c.args.system x c.systems-systems.ensures.systems c.from.ensures c.requires.system c.index-systems-from.is in
    λ s is. c.is_shown.ensures
    ∙ ap (λ n. is_closed n (projection c.args.world.now (system_view x)) (property c.args.property.now) c.args.states.now) (c.count-labels.ensures.count ∙ ap length c.labels.ensures)
    ∙ ap (λ y. is_closed (length m.labels) (projection c.args.world.now y) (property c.args.property.now) c.args.states.now) (same_some (system_view x) s (sym at ∙ is))
