use Rattle.std.proofs.Common.{◌≡◌, sym, subst, ◌*◌, ◌<◌, ◌≤◌, length, arith}
use Rattle.meaning.specs.Expressions.{name_bound}
use Rattle.annotated_model.specs.ModelFacts.{LinkFits}
use Rattle.annotated_model.specs.View.{link_view}
use Rattle.worlds.specs.Algebra.{Worked}
use Rattle.worlds.proofs.Kept.{worked_then, worked_at_most}
use Rattle.path_queries.proofs.Presences.{all_at, viewed_within, link_asks_is, elements_later, element_holds, link_holds, arrow_told}
use Rattle.path_queries.proofs.presence.edge_of.Goals as goal

pub condition-requires : goal.condition-requires
condition-requires g c =
    let m = c.args.model.now in
    let at = viewed_within link_view c.links-links.result.now m.links c.args.l c.index-links-l.result c.links-links.ensures.links c.requires.there c.index-links-l.is in
    all_at (λ y. name_bound y.presence ≤ (g.W.Worlds.algebra c.args.w.now).count) m.links c.args.l _ c.requires.names.links at

pub offset_bounds-elements-from : goal.offset_bounds-elements-from
offset_bounds-elements-from g c =
    let m = c.args.model.now in
    let at = viewed_within link_view c.links-links.result.now m.links c.args.l c.index-links-l.result c.links-links.ensures.links c.requires.there c.index-links-l.is in
    let fits = all_at (LinkFits m) m.links c.args.l _ c.links-links.ensures.fit at in
    let within = fits.source in
    omega (arith, within, c.from.ensures, c.requires.elements.size)

pub bounds-elements-from : goal.bounds-elements-from
bounds-elements-from g c =
    let m = c.args.model.now in
    let at = viewed_within link_view c.links-links.result.now m.links c.args.l c.index-links-l.result c.links-links.ensures.links c.requires.there c.index-links-l.is in
    let fits = all_at (LinkFits m) m.links c.args.l _ c.links-links.ensures.fit at in
    let within = fits.source in
    omega (arith, within, c.from.ensures, c.requires.elements.size)

pub offset_bounds-elements-from-2 : goal.offset_bounds-elements-from-2
offset_bounds-elements-from-2 g c =
    let m = c.args.model.now in
    let at = viewed_within link_view c.links-links.result.now m.links c.args.l c.index-links-l.result c.links-links.ensures.links c.requires.there c.index-links-l.is in
    let fits = all_at (LinkFits m) m.links c.args.l _ c.links-links.ensures.fit at in
    let within = fits.target in
    omega (arith, within, c.from-2.ensures, c.requires.elements.size)

pub bounds-elements-from-2 : goal.bounds-elements-from-2
bounds-elements-from-2 g c =
    let m = c.args.model.now in
    let at = viewed_within link_view c.links-links.result.now m.links c.args.l c.index-links-l.result c.links-links.ensures.links c.requires.there c.index-links-l.is in
    let fits = all_at (LinkFits m) m.links c.args.l _ c.links-links.ensures.fit at in
    let within = fits.target in
    omega (arith, within, c.from-2.ensures, c.requires.elements.size)

pub all_three-requires-clause-b_live : goal.all_three-requires-clause-b_live
all_three-requires-clause-b_live g c =
    let m = c.args.model.now in
    let at = viewed_within link_view c.links-links.result.now m.links c.args.l c.index-links-l.result c.links-links.ensures.links c.requires.there c.index-links-l.is in
    let fits = all_at (LinkFits m) m.links c.args.l _ c.links-links.ensures.fit at in
    let within = fits.source in
    let told = elements_later c.condition.ensures.worked.kept c.requires.elements in
    (element_holds c.from.result c.index-links-l.result.from c.index-elements-from.result told c.from.ensures (omega (arith, within, c.from.ensures, c.requires.elements.size)) c.index-elements-from.is).live

pub all_three-requires-clause-c_live : goal.all_three-requires-clause-c_live
all_three-requires-clause-c_live g c =
    let m = c.args.model.now in
    let at = viewed_within link_view c.links-links.result.now m.links c.args.l c.index-links-l.result c.links-links.ensures.links c.requires.there c.index-links-l.is in
    let fits = all_at (LinkFits m) m.links c.args.l _ c.links-links.ensures.fit at in
    let within = fits.target in
    let told = elements_later c.condition.ensures.worked.kept c.requires.elements in
    (element_holds c.from-2.result c.index-links-l.result.to c.index-elements-from-2.result told c.from-2.ensures (omega (arith, within, c.from-2.ensures, c.requires.elements.size)) c.index-elements-from-2.is).live

pub returns-in_err-itself-clause-worked : goal.returns-in_err-itself-clause-worked
returns-in_err-itself-clause-worked g c =
    let m = c.args.model.now in
    let at = viewed_within link_view c.links-links.result.now m.links c.args.l c.index-links-l.result c.links-links.ensures.links c.requires.there c.index-links-l.is in
    subst (λ n. Worked n (g.W.Worlds.algebra c.args.w.now) (g.W.Worlds.algebra c.condition.new.w)) (sym (link_asks_is m c.args.l _ at)) (worked_at_most c.condition.ensures.worked (omega arith))

pub returns-in_err-when-clause-worked : goal.returns-in_err-when-clause-worked
returns-in_err-when-clause-worked g c =
    let m = c.args.model.now in
    let at = viewed_within link_view c.links-links.result.now m.links c.args.l c.index-links-l.result c.links-links.ensures.links c.requires.there c.index-links-l.is in
    subst (λ n. Worked n (g.W.Worlds.algebra c.args.w.now) (g.W.Worlds.algebra c.all_three.new.w)) (sym (link_asks_is m c.args.l _ at)) (worked_then c.condition.ensures.worked c.all_three.ensures.worked)

pub returns : goal.returns
returns g c =
    let m = c.args.model.now in
    let link = c.index-links-l.result in
    let at = viewed_within link_view c.links-links.result.now m.links c.args.l link c.links-links.ensures.links c.requires.there c.index-links-l.is in
    let fits = all_at (LinkFits m) m.links c.args.l _ c.links-links.ensures.fit at in
    let from = fits.source in
    let to = fits.target in
    let told = elements_later c.condition.ensures.worked.kept c.requires.elements in
    let made =
    link_holds m (link_view link) c.in_ok-itself.ensures.made
    (element_holds c.from.result link.from c.index-elements-from.result told c.from.ensures (omega (arith, from, c.from.ensures, c.requires.elements.size)) c.index-elements-from.is)
    (element_holds c.from-2.result link.to c.index-elements-from-2.result told c.from-2.ensures (omega (arith, to, c.from-2.ensures, c.requires.elements.size)) c.index-elements-from-2.is)
    c.all_three.ensures.worked.kept c.in_ok-when.ensures.made in
    record {
      worked = subst (λ n. Worked n (g.W.Worlds.algebra c.args.w.now) (g.W.Worlds.algebra c.all_three.new.w)) (sym (link_asks_is m c.args.l _ at)) (worked_then c.condition.ensures.worked c.all_three.ensures.worked);
      made = record { source = from; target = to; live = c.in_ok-when.ensures.made.live };
      arrow = arrow_told m c.args.l (link_view link) at made;
      refused = tt;
    }
