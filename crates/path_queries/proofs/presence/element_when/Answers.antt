use Rattle.std.proofs.Common.{◌≡◌, sym, ◌*◌, ◌≤◌, arith}
use Rattle.std.proofs.lemmas.Result.{IfOk-weaker}
use Rattle.meaning.specs.Expressions.{name_bound, truth, size_of}
use Rattle.meaning.specs.Models.{has_element}
use Rattle.annotated_model.specs.View.{element_view}
use Rattle.worlds.proofs.Kept.{worked_at_most, holds_as}
use Rattle.path_queries.specs.Presence.{element_size}
use Rattle.path_queries.proofs.Presences.{all_at, viewed, element_is, element_size_is}
use Rattle.path_queries.proofs.presence.element_when.Goals as goal

pub condition-requires : goal.condition-requires
condition-requires g c =
    let m = c.args.model.now in
    let at = viewed element_view c.elements-elements.result.now m.elements c.from.result c.args.e c.index-elements-from.result c.elements-elements.ensures.elements (omega arith) c.requires.there in
    all_at (λ y. name_bound y.presence ≤ (g.W.Worlds.algebra c.args.w.now).count) m.elements c.args.e _ c.requires.names.elements at

pub returns-clause-worked : goal.returns-clause-worked
returns-clause-worked g c =
    let m = c.args.model.now in
    let at = viewed element_view c.elements-elements.result.now m.elements c.from.result c.args.e c.index-elements-from.result c.elements-elements.ensures.elements (omega arith) c.requires.there in
    let same = element_size_is m c.args.e _ at in
    worked_at_most c.condition.ensures.worked (omega (arith, same))

pub returns-clause-made : goal.returns-clause-made
returns-clause-made g c =
    let m = c.args.model.now in
    let at = viewed element_view c.elements-elements.result.now m.elements c.from.result c.args.e c.index-elements-from.result c.elements-elements.ensures.elements (omega arith) c.requires.there in
    IfOk-weaker c.condition.result _ _ (λ made h. holds_as _ _ (λ x w. element_is m x c.args.e _ at) h) c.condition.ensures.made
