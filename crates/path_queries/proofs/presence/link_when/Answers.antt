use Rattle.std.proofs.Common.{◌≡◌, sym, ◌*◌, ◌+◌, ◌<◌, ◌≤◌, length, arith}
use Rattle.std.proofs.lemmas.Result.{IfOk-weaker}
use Rattle.meaning.specs.Expressions.{name_bound, size_of}
use Rattle.annotated_model.specs.ModelFacts.{LinkFits}
use Rattle.annotated_model.specs.View.{link_view}
use Rattle.worlds.proofs.Kept.{kept_then, worked_then, worked_at_most, holds_as, holds_later}
use Rattle.path_queries.specs.Presence.{is_kept, keeps_link}
use Rattle.path_queries.proofs.Presences.{all_at, viewed_at, link_is, link_size_is, size_positive, names_later, link_holds}
use Rattle.path_queries.proofs.presence.link_when.Goals as goal

pub condition-requires : goal.condition-requires
condition-requires g c =
    let m = c.args.model.now in
    let link = c.index-links-from.result in
    let at = viewed_at link_view c.links-links.result.now m.links c.from.result c.args.l link c.links-links.ensures.links (omega arith) c.requires.there c.index-links-from.is in
    all_at (λ y. name_bound y.presence ≤ (g.W.Worlds.algebra c.args.w.now).count) m.links c.args.l _ c.requires.names.links at

pub element_when-requires : goal.element_when-requires
element_when-requires g c =
    let m = c.args.model.now in
    let link = c.index-links-from.result in
    let at = viewed_at link_view c.links-links.result.now m.links c.from.result c.args.l link c.links-links.ensures.links (omega arith) c.requires.there c.index-links-from.is in
    let fits = all_at (LinkFits m) m.links c.args.l _ c.links-links.ensures.fit at in
    record { there = fits.source; names = names_later c.condition.ensures.worked.kept c.requires.names }

pub element_when-requires-2 : goal.element_when-requires-2
element_when-requires-2 g c =
    let m = c.args.model.now in
    let link = c.index-links-from.result in
    let at = viewed_at link_view c.links-links.result.now m.links c.from.result c.args.l link c.links-links.ensures.links (omega arith) c.requires.there c.index-links-from.is in
    let fits = all_at (LinkFits m) m.links c.args.l _ c.links-links.ensures.fit at in
    record { there = fits.target; names = names_later (kept_then c.condition.ensures.worked.kept c.element_when.ensures.worked.kept) c.requires.names }

pub returns-in_err-itself-clause-worked : goal.returns-in_err-itself-clause-worked
returns-in_err-itself-clause-worked g c =
    let m = c.args.model.now in
    let link = c.index-links-from.result in
    let at = viewed_at link_view c.links-links.result.now m.links c.from.result c.args.l link c.links-links.ensures.links (omega arith) c.requires.there c.index-links-from.is in
    let size = link_size_is m c.args.l _ at in
    worked_at_most c.condition.ensures.worked (omega (arith, size))

pub returns-in_err-from-clause-worked : goal.returns-in_err-from-clause-worked
returns-in_err-from-clause-worked g c =
    let m = c.args.model.now in
    let link = c.index-links-from.result in
    let at = viewed_at link_view c.links-links.result.now m.links c.from.result c.args.l link c.links-links.ensures.links (omega arith) c.requires.there c.index-links-from.is in
    let size = link_size_is m c.args.l _ at in
    worked_at_most (worked_then c.condition.ensures.worked c.element_when.ensures.worked) (omega (arith, size))

pub returns-in_err-to-clause-worked : goal.returns-in_err-to-clause-worked
returns-in_err-to-clause-worked g c =
    let m = c.args.model.now in
    let link = c.index-links-from.result in
    let at = viewed_at link_view c.links-links.result.now m.links c.from.result c.args.l link c.links-links.ensures.links (omega arith) c.requires.there c.index-links-from.is in
    let size = link_size_is m c.args.l _ at in
    worked_at_most (worked_then c.condition.ensures.worked (worked_then c.element_when.ensures.worked c.element_when-2.ensures.worked)) (omega (arith, size))

pub returns-clause-worked : goal.returns-clause-worked
returns-clause-worked g c =
    let m = c.args.model.now in
    let link = c.index-links-from.result in
    let at = viewed_at link_view c.links-links.result.now m.links c.from.result c.args.l link c.links-links.ensures.links (omega arith) c.requires.there c.index-links-from.is in
    let size = link_size_is m c.args.l _ at in
    let some = size_positive (link_view link).presence in
    worked_at_most (worked_then c.condition.ensures.worked (worked_then c.element_when.ensures.worked (worked_then c.element_when-2.ensures.worked c.all_three.ensures.worked))) (omega (arith, size, some))

pub returns-clause-made : goal.returns-clause-made
returns-clause-made g c =
    let m = c.args.model.now in
    let link = c.index-links-from.result in
    let at = viewed_at link_view c.links-links.result.now m.links c.from.result c.args.l link c.links-links.ensures.links (omega arith) c.requires.there c.index-links-from.is in
    let later = kept_then c.element_when.ensures.worked.kept c.element_when-2.ensures.worked.kept in
    IfOk-weaker c.all_three.result _ _
    (λ made h. holds_as (λ x. is_kept m x (link_view link)) (λ x. keeps_link m x c.args.l) (λ x w. link_is m x c.args.l (link_view link) at)
    (link_holds m (link_view link) (holds_later later c.in_ok-itself.ensures.made) (holds_later c.element_when-2.ensures.worked.kept c.in_ok-from.ensures.made) c.in_ok-to.ensures.made c.all_three.ensures.worked.kept h))
    c.all_three.ensures.made
