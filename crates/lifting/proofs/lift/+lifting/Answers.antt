use Rattle.std.proofs.Common.{◌∙◌, ◌-◌, ◌*◌, ap, map, subst, arith, ◌≡◌, ◌++◌, ◌<◌, ◌≤◌, refl, length, false, ◌+◌, Some, sym}
use Rattle.std.proofs.lemmas.Result.{on_ok_weaker, IfErr-weaker}
use Rattle.worlds.specs.Algebra.{Kept}
use Rattle.meaning.specs.Queries.{element_of_variable}
use Rattle.templates.specs.View.{node_view, template_view, kind_view}
use Rattle.std.specs.Prelude.{option_map, ◌^◌}
use Rattle.std.specs.List.{slice_get}
use Rattle.std.specs.Option.{option_copied}
use Rattle.worlds.proofs.Kept.{kept_then, kept_itself}
use Rattle.gsn.specs.View.{kind_of}
use Rattle.path_queries.specs.View.{query}
use Rattle.std.proofs.lemmas.Option.{slice_get_read}
use Rattle.std.proofs.lemmas.List.Elements.{All-contains}
use Rattle.std.proofs.lemmas.List.{length-map}
use Rattle.lifting.specs.Stops.{Halts}
use Rattle.lifting.specs.Sites.{templates_of, below_among, branch_front, AddsNode}
use Rattle.lifting.proofs.PlacedNodes.{err_as}
use Rattle.lifting.proofs.LoopSteps.{at_place}
use Rattle.lifting.proofs.NodeCalls.{IsTooMuch, adds_at_no_level, halts_guard, adds_nowhere, guarded_site, adds_plain, halts_plain, adds_unused, used_site, adds_used, halts_used, none_past, adds_no_first, adds_first, halts_first, place_seen}
use Rattle.lifting.proofs.SiteSteps.{first_site}
use Rattle.lifting.proofs.PlainSteps.{names_later, rows_live, site_few, site_unchecked, site_parts, annotating_site, supporting_site, branch_sites, adds_alone, adds_branches, alone_stops, branches_stop, annotating_stops, placing_stops}
use Rattle.lifting.proofs.WalkSteps.{read_among, adds_no_row, adds_each_row, row_site, row_lies, row_adds, row_stops, read_at, adds_no_node, adds_each_node, next_site, next_adds, next_fills, next_stops, fills_no_node, passed_adds, passed_fills}
use Rattle.lifting.proofs.lift.+lifting.Goals as goal
use Rattle.lifting.proofs.lift.+lifting.Goals.{lift_below-then-stands_under+in_ok-key+in_ok-lift_node, lift_below-else-stands_under}

-- What a function is asked stands behind its texts, its measure and its two lifetimes: `asked`, clause by clause. A call is answered by
-- the smaller measure, the lifetimes, and the clauses.

pub lift_node-guarded-requires-clause-few : goal.lift_node-guarded-requires-clause-few
lift_node-guarded-requires-clause-few g s c =
    let asked = c.requires.1.1.1.1 in
    let t = template_view c.args.template.now in
    let n = node_view c.args.node.now in
    asked.0.fit.few_guard asked.0.number t c.args.number n asked.0.stands

pub lift_node-returns-then-levels-eq0-clause-adds : goal.lift_node-returns-then-levels-eq0-clause-adds
lift_node-returns-then-levels-eq0-clause-adds g s c =
    let a = g.W.Worlds.algebra c.args.w.now in
    let m = c.args.model.now in
    let ts = templates_of c.args.templates.now in
    let t = template_view c.args.template.now in
    let n = node_view c.args.node.now in
    adds_at_no_level a m ts c.args.levels t c.args.key.now c.args.bound.now c.args.number n c.args.under c.args.above c.args.out.now c.if-levels-eq0.true

pub lift_node-returns-in_err-under-clause-stops : goal.lift_node-returns-in_err-under-clause-stops
lift_node-returns-in_err-under-clause-stops g s c =
    let a = g.W.Worlds.algebra c.args.w.now in
    let b = g.W.Worlds.algebra c.guarded.new.w in
    let m = c.args.model.now in
    let ts = templates_of c.args.templates.now in
    let t = template_view c.args.template.now in
    let n = node_view c.args.node.now in
    err_as c.from_residual.result c.in_err-under.field-0.0 (Halts a b (IsTooMuch a m ts c.args.levels t c.args.key.now c.args.bound.now c.args.number n c.args.under b c.args.out.now.left)) c.from_residual.ensures.1
    (halts_guard a m ts c.args.levels t c.args.key.now c.args.bound.now c.args.number n c.args.under b c.args.out.now.left c.in_err-under.field-0.0 c.in_err-under.ensures.stops)

pub lift_node-returns-then-not-holds_somewhere-clause-adds : goal.lift_node-returns-then-not-holds_somewhere-clause-adds
lift_node-returns-then-not-holds_somewhere-clause-adds g s c =
    let a = g.W.Worlds.algebra c.args.w.now in
    let b = g.W.Worlds.algebra c.guarded.new.w in
    let m = c.args.model.now in
    let ts = templates_of c.args.templates.now in
    let t = template_view c.args.template.now in
    let n = node_view c.args.node.now in
    adds_nowhere a m ts c.args.levels t c.args.key.now c.args.bound.now c.args.number n c.args.under b c.in_ok-under.under c.in_ok-under.ensures.kept c.if-levels-eq0.false c.in_ok-under.ensures.made c.args.above c.args.out.now c.if-not-holds_somewhere.ensures.nowhere

pub lift_node-lift_plain-requires : goal.lift_node-lift_plain-requires
lift_node-lift_plain-requires g s c =
    let asked = c.requires.1.1.1.1 in
    let a = g.W.Worlds.algebra c.args.w.now in
    let b = g.W.Worlds.algebra c.guarded.new.w in
    let m = c.args.model.now in
    let ts = templates_of c.args.templates.now in
    let t = template_view c.args.template.now in
    let n = node_view c.args.node.now in
    let site = guarded_site a m ts c.args.levels t c.args.key.now c.args.bound.now c.args.number n c.args.under b c.in_ok-under.under c.in_ok-under.ensures.kept c.if-levels-eq0.false c.in_ok-under.ensures.made asked.0 in
    let names = names_later a b m c.in_ok-under.ensures.kept asked.1.0 in
    let is : 5 * c.args.levels ≡ s = c.requires.1.0 in
    let smaller : 5 * (c.args.levels - 1) + 4 < s = omega (arith, is, c.if-levels-eq0.false) in
    λ k lives. (smaller, (lives.0, (lives.1, (site, (c.in-Node.is, (c.if-not-holds_somewhere.ensures.somewhere, (names, (c.in_ok-under.ensures.made.live, asked.1.1.1))))))))

pub lift_node-returns-in-Node-clause-adds : goal.lift_node-returns-in-Node-clause-adds
lift_node-returns-in-Node-clause-adds g s c =
    let a = g.W.Worlds.algebra c.args.w.now in
    let b = g.W.Worlds.algebra c.guarded.new.w in
    let m = c.args.model.now in
    let ts = templates_of c.args.templates.now in
    let t = template_view c.args.template.now in
    let n = node_view c.args.node.now in
    on_ok_weaker c.lift_plain.result
    (adds_plain a m ts c.args.levels t c.args.key.now c.args.bound.now c.args.number n c.args.under b c.in_ok-under.under c.in_ok-under.ensures.kept c.if-levels-eq0.false c.in_ok-under.ensures.made (g.W.Worlds.algebra c.lift_plain.new.w) c.args.above c.args.out.now c.lift_plain.new.out c.lift_plain.ensures.kept) c.lift_plain.ensures.adds

pub lift_node-returns-in-Node-clause-stops : goal.lift_node-returns-in-Node-clause-stops
lift_node-returns-in-Node-clause-stops g s c =
    let a = g.W.Worlds.algebra c.args.w.now in
    let b = g.W.Worlds.algebra c.guarded.new.w in
    let m = c.args.model.now in
    let ts = templates_of c.args.templates.now in
    let t = template_view c.args.template.now in
    let n = node_view c.args.node.now in
    IfErr-weaker c.lift_plain.result _ _
    (λ stop h. halts_plain a m ts c.args.levels t c.args.key.now c.args.bound.now c.args.number n c.args.under b c.in_ok-under.under c.in_ok-under.ensures.kept c.if-levels-eq0.false c.in_ok-under.ensures.made (g.W.Worlds.algebra c.lift_plain.new.w) c.args.out.now.left stop c.lift_plain.ensures.kept h) c.lift_plain.ensures.stops

pub lift_node-lift_first-requires : goal.lift_node-lift_first-requires
lift_node-lift_first-requires g s c =
    let asked = c.requires.1.1.1.1 in
    let a = g.W.Worlds.algebra c.args.w.now in
    let b = g.W.Worlds.algebra c.guarded.new.w in
    let m = c.args.model.now in
    let ts = templates_of c.args.templates.now in
    let t = template_view c.args.template.now in
    let n = node_view c.args.node.now in
    let at = rw c.from.ensures at c.in-Some.ensures.lookup in
    let found = at_place template_view c.args.templates.now c.in-Uses.used c.in-Some.used.now at.3.0 at.1 in
    let given = c.as_slice.ensures.value ∙ c.in_ok-elements-in-Uses.ensures ∙ ap (map (element_of_variable c.args.bound.now)) c.list.ensures in
    let site = used_site a m ts c.args.levels t c.args.key.now c.args.bound.now c.args.number n c.args.under b c.in_ok-under.under c.in_ok-under.ensures.kept c.if-levels-eq0.false c.in_ok-under.ensures.made c.in-Uses.used c.args.node.now.args (ap (kind_view c.args.node.now.args) c.in-Uses.is) (template_view c.in-Some.used.now) c.as_slice.result.now found given asked.0 in
    let names = names_later a b m c.in_ok-under.ensures.kept asked.1.0 in
    let is : 5 * c.args.levels ≡ s = c.requires.1.0 in
    let smaller : 5 * (c.args.levels - 1) + 1 < s = omega (arith, is, c.if-levels-eq0.false) in
    λ k lives. (smaller, (lives.0, (lives.1, (site, (names, (c.in_ok-under.ensures.made.live, asked.1.1.1))))))

pub lift_node-returns-in-None-clause-adds : goal.lift_node-returns-in-None-clause-adds
lift_node-returns-in-None-clause-adds g s c =
    let a = g.W.Worlds.algebra c.args.w.now in
    let b = g.W.Worlds.algebra c.guarded.new.w in
    let m = c.args.model.now in
    let ts = templates_of c.args.templates.now in
    let t = template_view c.args.template.now in
    let n = node_view c.args.node.now in
    let past = rw c.from.ensures at c.in-None.ensures.lookup in
    adds_unused a m ts c.args.levels t c.args.key.now c.args.bound.now c.args.number n c.args.under b c.in_ok-under.under c.in_ok-under.ensures.kept c.if-levels-eq0.false c.in_ok-under.ensures.made c.in-Uses.used c.args.node.now.args (ap (kind_view c.args.node.now.args) c.in-Uses.is) c.args.above c.args.out.now (none_past template_view c.args.templates.now c.in-Uses.used past.3)

pub lift_node-returns-clause-adds : goal.lift_node-returns-clause-adds
lift_node-returns-clause-adds g s c =
    let a = g.W.Worlds.algebra c.args.w.now in
    let b = g.W.Worlds.algebra c.guarded.new.w in
    let m = c.args.model.now in
    let ts = templates_of c.args.templates.now in
    let t = template_view c.args.template.now in
    let n = node_view c.args.node.now in
    let at = rw c.from.ensures at c.in-Some.ensures.lookup in
    let found = at_place template_view c.args.templates.now c.in-Uses.used c.in-Some.used.now at.3.0 at.1 in
    let given = c.as_slice.ensures.value ∙ c.in_ok-elements-in-Uses.ensures ∙ ap (map (element_of_variable c.args.bound.now)) c.list.ensures in
    on_ok_weaker c.lift_first.result (adds_used a m ts c.args.levels t c.args.key.now c.args.bound.now c.args.number n c.args.under b c.in_ok-under.under c.in_ok-under.ensures.kept c.if-levels-eq0.false c.in_ok-under.ensures.made c.in-Uses.used c.args.node.now.args (ap (kind_view c.args.node.now.args) c.in-Uses.is) (template_view c.in-Some.used.now) c.as_slice.result.now found given (g.W.Worlds.algebra c.lift_first.new.w) c.args.above c.args.out.now c.lift_first.new.out c.lift_first.ensures.kept) c.lift_first.ensures.adds

pub lift_node-returns-clause-stops : goal.lift_node-returns-clause-stops
lift_node-returns-clause-stops g s c =
    let a = g.W.Worlds.algebra c.args.w.now in
    let b = g.W.Worlds.algebra c.guarded.new.w in
    let m = c.args.model.now in
    let ts = templates_of c.args.templates.now in
    let t = template_view c.args.template.now in
    let n = node_view c.args.node.now in
    let at = rw c.from.ensures at c.in-Some.ensures.lookup in
    let found = at_place template_view c.args.templates.now c.in-Uses.used c.in-Some.used.now at.3.0 at.1 in
    let given = c.as_slice.ensures.value ∙ c.in_ok-elements-in-Uses.ensures ∙ ap (map (element_of_variable c.args.bound.now)) c.list.ensures in
    IfErr-weaker c.lift_first.result _ _ (λ stop h. halts_used a m ts c.args.levels t c.args.key.now c.args.bound.now c.args.number n c.args.under b c.in_ok-under.under c.in_ok-under.ensures.kept c.if-levels-eq0.false c.in_ok-under.ensures.made c.in-Uses.used c.args.node.now.args (ap (kind_view c.args.node.now.args) c.in-Uses.is) (template_view c.in-Some.used.now) c.as_slice.result.now found given (g.W.Worlds.algebra c.lift_first.new.w) c.args.out.now.left stop c.lift_first.ensures.kept h) c.lift_first.ensures.stops

pub lift_first-lift_node-requires : goal.lift_first-lift_node-requires
lift_first-lift_node-requires g s c =
    let asked = c.requires.1.1.1.1 in
    let a = g.W.Worlds.algebra c.args.w.now in
    let m = c.args.model.now in
    let ts = templates_of c.args.templates.now in
    let t = template_view c.args.template.now in
    let seen = place_seen node_view c.args.template.now.nodes 0 (option_copied c.first.result) (c.first.ensures.value ∙ ap (λ ns. slice_get ns 0) c.list.ensures) in
    let n = node_view c.in-Some.node.now in
    let found = seen ∙ ap (λ o. option_map node_view (option_copied o)) c.in-Some.is in
    let site = first_site a m ts t n c.args.bound.now c.args.under asked.0 found in
    let is : 5 * c.args.levels + 1 ≡ s = c.requires.1.0 in
    let smaller : 5 * c.args.levels < s = omega (arith, is) in
    λ k lives. (smaller, (lives.0, (lives.1, (site, (asked.1.0, (asked.1.1.0, asked.1.1.1))))))

pub lift_first-returns-in-None-clause-adds : goal.lift_first-returns-in-None-clause-adds
lift_first-returns-in-None-clause-adds g s c =
    let a = g.W.Worlds.algebra c.args.w.now in
    let m = c.args.model.now in
    let ts = templates_of c.args.templates.now in
    let t = template_view c.args.template.now in
    let seen = place_seen node_view c.args.template.now.nodes 0 (option_copied c.first.result) (c.first.ensures.value ∙ ap (λ ns. slice_get ns 0) c.list.ensures) in
    adds_no_first m ts c.args.levels t c.args.key.now c.args.bound.now a (a.holds c.args.under) c.args.above c.args.out.now (seen ∙ ap (λ o. option_map node_view (option_copied o)) c.in-None.is)

pub lift_first-returns-in-Some-clause-adds : goal.lift_first-returns-in-Some-clause-adds
lift_first-returns-in-Some-clause-adds g s c =
    let a = g.W.Worlds.algebra c.args.w.now in
    let m = c.args.model.now in
    let ts = templates_of c.args.templates.now in
    let t = template_view c.args.template.now in
    let seen = place_seen node_view c.args.template.now.nodes 0 (option_copied c.first.result) (c.first.ensures.value ∙ ap (λ ns. slice_get ns 0) c.list.ensures) in
    let n = node_view c.in-Some.node.now in
    let found = seen ∙ ap (λ o. option_map node_view (option_copied o)) c.in-Some.is in
    on_ok_weaker c.lift_node.result (adds_first m ts c.args.levels t c.args.key.now c.args.bound.now (g.W.Worlds.algebra c.lift_node.new.w) (a.holds c.args.under) c.args.above c.args.out.now c.lift_node.new.out n found) c.lift_node.ensures.adds

pub lift_first-returns-in-Some-clause-stops : goal.lift_first-returns-in-Some-clause-stops
lift_first-returns-in-Some-clause-stops g s c =
    let a = g.W.Worlds.algebra c.args.w.now in
    let m = c.args.model.now in
    let ts = templates_of c.args.templates.now in
    let t = template_view c.args.template.now in
    let seen = place_seen node_view c.args.template.now.nodes 0 (option_copied c.first.result) (c.first.ensures.value ∙ ap (λ ns. slice_get ns 0) c.list.ensures) in
    let n = node_view c.in-Some.node.now in
    let found = seen ∙ ap (λ o. option_map node_view (option_copied o)) c.in-Some.is in
    IfErr-weaker c.lift_node.result _ _ (λ stop h. halts_first m ts c.args.levels t c.args.key.now c.args.bound.now (a.holds c.args.under) a (g.W.Worlds.algebra c.lift_node.new.w) n c.args.out.now.left stop found h) c.lift_node.ensures.stops

pub lift_plain-place_node-requires-clause-few : goal.lift_plain-place_node-requires-clause-few
lift_plain-place_node-requires-clause-few g s c =
    let asked = c.requires.1.1.1.1 in
    let a = g.W.Worlds.algebra c.args.w.now in
    let m = c.args.model.now in
    let ts = templates_of c.args.templates.now in
    let t = template_view c.args.template.now in
    let n = node_view c.args.node.now in
    site_few a m ts t c.args.number n c.args.bound.now c.args.under asked.0

pub lift_plain-place_node-requires-clause-unchecked : goal.lift_plain-place_node-requires-clause-unchecked
lift_plain-place_node-requires-clause-unchecked g s c =
    let asked = c.requires.1.1.1.1 in
    let a = g.W.Worlds.algebra c.args.w.now in
    let m = c.args.model.now in
    let ts = templates_of c.args.templates.now in
    let t = template_view c.args.template.now in
    let n = node_view c.args.node.now in
    site_unchecked a m ts t c.args.number n c.args.bound.now c.args.under asked.0

pub lift_plain-place_node-requires-clause-as_many : goal.lift_plain-place_node-requires-clause-as_many
lift_plain-place_node-requires-clause-as_many g s c =
    let asked = c.requires.1.1.1.1 in
    let a = g.W.Worlds.algebra c.args.w.now in
    let m = c.args.model.now in
    let ts = templates_of c.args.templates.now in
    let t = template_view c.args.template.now in
    let n = node_view c.args.node.now in
    site_parts a m ts t c.args.number n c.args.bound.now c.args.under asked.0

pub lift_plain-lift_below-requires : goal.lift_plain-lift_below-requires
lift_plain-lift_below-requires g s c =
    let asked = c.requires.1.1.1.1 in
    let a = g.W.Worlds.algebra c.args.w.now in
    let b = g.W.Worlds.algebra c.place_node.new.w in
    let m = c.args.model.now in
    let ts = templates_of c.args.templates.now in
    let t = template_view c.args.template.now in
    let n = node_view c.args.node.now in
    let placed = c.in_ok-rows.ensures.kept in
    let site = annotating_site a b m ts t c.args.number n c.args.bound.now c.args.under placed asked.1.1.1.1.0 asked.0 in
    let names = names_later a b m placed asked.1.1.1.0 in
    let live = placed.live c.args.under asked.1.1.1.1.0 in
    let is : 5 * c.args.levels + 4 ≡ s = c.requires.1.0 in
    let smaller : 5 * c.args.levels + 2 < s = omega (arith, is) in
    λ k lives. (smaller, (lives.0, (lives.1, (site, (names, (live, c.in_ok-rows.ensures.room))))))

pub lift_plain-lift_below-requires-in-None : goal.lift_plain-lift_below-requires-in-None
lift_plain-lift_below-requires-in-None g s c =
    let asked = c.requires.1.1.1.1 in
    let a = g.W.Worlds.algebra c.args.w.now in
    let d = g.W.Worlds.algebra c.lift_below.new.w in
    let m = c.args.model.now in
    let ts = templates_of c.args.templates.now in
    let t = template_view c.args.template.now in
    let n = node_view c.args.node.now in
    let placed = c.in_ok-rows.ensures.kept in
    let worked = c.in_ok-lift_below.ensures.kept in
    let site = supporting_site a d m ts t c.args.number n c.args.bound.now c.args.under (kept_then placed worked) asked.1.1.1.1.0 asked.0 (ap (option_map query) c.in-None.is) in
    let names = names_later a d m (kept_then placed worked) asked.1.1.1.0 in
    let live = (kept_then placed worked).live c.args.under asked.1.1.1.1.0 in
    let is : 5 * c.args.levels + 4 ≡ s = c.requires.1.0 in
    let smaller : 5 * c.args.levels + 2 < s = omega (arith, is) in
    λ k lives. (smaller, (lives.0, (lives.1, (site, (names, (live, c.in_ok-lift_below.ensures.room))))))

pub lift_plain-lift_rows-requires : goal.lift_plain-lift_rows-requires
lift_plain-lift_rows-requires g s c =
    let asked = c.requires.1.1.1.1 in
    let a = g.W.Worlds.algebra c.args.w.now in
    let b = g.W.Worlds.algebra c.place_node.new.w in
    let d = g.W.Worlds.algebra c.lift_below.new.w in
    let m = c.args.model.now in
    let ts = templates_of c.args.templates.now in
    let t = template_view c.args.template.now in
    let n = node_view c.args.node.now in
    let placed = c.in_ok-rows.ensures.kept in
    let worked = c.in_ok-lift_below.ensures.kept in
    let sites = branch_sites a d m ts t c.args.number n c.args.bound.now c.args.under (kept_then placed worked) asked.1.1.1.1.0 asked.0 b c.in_ok-rows.rows c.list.result.now _ (ap (option_map query) c.in-Some.is) (omega (arith, c.element_count-elements.ensures, c.element_count-elements.type_inv)) worked c.list.ensures c.in_ok-rows.ensures.rows in
    let names = names_later a d m (kept_then placed worked) asked.1.1.1.0 in
    let live = rows_live b d m n.each c.args.bound.now (a.holds c.args.under) c.in_ok-rows.rows c.list.result.now worked c.list.ensures c.in_ok-rows.ensures.rows in
    let is : 5 * c.args.levels + 4 ≡ s = c.requires.1.0 in
    let smaller : 5 * c.args.levels + 3 < s = omega (arith, is) in
    λ k lives. (smaller, (lives.0, (lives.1, (sites, (names, (live, c.in_ok-lift_below.ensures.room))))))

pub lift_plain-returns-in-None-clause-adds : goal.lift_plain-returns-in-None-clause-adds
lift_plain-returns-in-None-clause-adds g s c =
    let asked = c.requires.1.1.1.1 in
    let a = g.W.Worlds.algebra c.args.w.now in
    let b = g.W.Worlds.algebra c.place_node.new.w in
    let d = g.W.Worlds.algebra c.lift_below.new.w in
    let m = c.args.model.now in
    let ts = templates_of c.args.templates.now in
    let t = template_view c.args.template.now in
    let n = node_view c.args.node.now in
    let placed = c.in_ok-rows.ensures.kept in
    let worked = c.in_ok-lift_below.ensures.kept in
    let plain = ap (kind_view c.args.node.now.args) asked.1.0 in
    let front = c.as_str-front.ensures.value ∙ c.in_ok-below.ensures in
    let place = c.len-place.ensures ∙ c.args.out.now.nodes.ok.0 in
    on_ok_weaker c.lift_below-in-None.result (λ s. adds_alone a b m ts c.args.levels t c.args.key.now c.as_str-front.result.now c.args.bound.now c.args.number n (kind_of c.args.kind) c.args.under c.args.above c.args.out.now asked.1.1.1.1.0 plain placed c.in_ok-rows.rows c.len-place.result c.place_node.new.out front place c.in_ok-rows.ensures.adds d worked c.lift_below.new.out c.in_ok-lift_below.ensures.adds (g.W.Worlds.algebra c.lift_below-in-None.new.w) c.lift_below-in-None.ensures.kept (ap (option_map query) c.in-None.is) c.lift_below-in-None.new.out s) c.lift_below-in-None.ensures.adds

pub lift_plain-returns-clause-adds : goal.lift_plain-returns-clause-adds
lift_plain-returns-clause-adds g s c =
    let asked = c.requires.1.1.1.1 in
    let a = g.W.Worlds.algebra c.args.w.now in
    let b = g.W.Worlds.algebra c.place_node.new.w in
    let d = g.W.Worlds.algebra c.lift_below.new.w in
    let m = c.args.model.now in
    let ts = templates_of c.args.templates.now in
    let t = template_view c.args.template.now in
    let n = node_view c.args.node.now in
    let placed = c.in_ok-rows.ensures.kept in
    let worked = c.in_ok-lift_below.ensures.kept in
    let plain = ap (kind_view c.args.node.now.args) asked.1.0 in
    let front = c.as_str-front.ensures.value ∙ c.in_ok-below.ensures in
    let place = c.len-place.ensures ∙ c.args.out.now.nodes.ok.0 in
    on_ok_weaker c.lift_rows.result (λ s. adds_branches a b m ts c.args.levels t c.args.key.now c.as_str-front.result.now c.args.bound.now c.args.number n (kind_of c.args.kind) c.args.under c.args.above c.args.out.now asked.1.1.1.1.0 plain placed c.in_ok-rows.rows c.len-place.result c.place_node.new.out front place c.in_ok-rows.ensures.adds d worked c.lift_below.new.out c.in_ok-lift_below.ensures.adds (g.W.Worlds.algebra c.lift_rows.new.w) c.lift_rows.ensures.kept _ (ap (option_map query) c.in-Some.is) c.in_ok-rows.ensures.rows c.list.result.now c.list.ensures c.lift_rows.new.out s) c.lift_rows.ensures.adds

pub lift_plain-returns-in-None-clause-stops : goal.lift_plain-returns-in-None-clause-stops
lift_plain-returns-in-None-clause-stops g s c =
    let asked = c.requires.1.1.1.1 in
    let a = g.W.Worlds.algebra c.args.w.now in
    let b = g.W.Worlds.algebra c.place_node.new.w in
    let d = g.W.Worlds.algebra c.lift_below.new.w in
    let m = c.args.model.now in
    let ts = templates_of c.args.templates.now in
    let t = template_view c.args.template.now in
    let n = node_view c.args.node.now in
    let placed = c.in_ok-rows.ensures.kept in
    let worked = c.in_ok-lift_below.ensures.kept in
    let plain = ap (kind_view c.args.node.now.args) asked.1.0 in
    let front = c.as_str-front.ensures.value ∙ c.in_ok-below.ensures in
    let place = c.len-place.ensures ∙ c.args.out.now.nodes.ok.0 in
    IfErr-weaker c.lift_below-in-None.result _ _ (λ stop s. alone_stops a b m ts c.args.levels t c.args.key.now c.as_str-front.result.now c.args.bound.now c.args.number n (kind_of c.args.kind) c.args.under c.args.above c.args.out.now asked.1.1.1.1.0 plain placed c.in_ok-rows.rows c.len-place.result c.place_node.new.out front place c.in_ok-rows.ensures.adds d worked c.lift_below.new.out c.in_ok-lift_below.ensures.adds (g.W.Worlds.algebra c.lift_below-in-None.new.w) c.lift_below-in-None.ensures.kept (ap (option_map query) c.in-None.is) stop s) c.lift_below-in-None.ensures.stops

pub lift_plain-returns-clause-stops : goal.lift_plain-returns-clause-stops
lift_plain-returns-clause-stops g s c =
    let asked = c.requires.1.1.1.1 in
    let a = g.W.Worlds.algebra c.args.w.now in
    let b = g.W.Worlds.algebra c.place_node.new.w in
    let d = g.W.Worlds.algebra c.lift_below.new.w in
    let m = c.args.model.now in
    let ts = templates_of c.args.templates.now in
    let t = template_view c.args.template.now in
    let n = node_view c.args.node.now in
    let placed = c.in_ok-rows.ensures.kept in
    let worked = c.in_ok-lift_below.ensures.kept in
    let plain = ap (kind_view c.args.node.now.args) asked.1.0 in
    let front = c.as_str-front.ensures.value ∙ c.in_ok-below.ensures in
    let place = c.len-place.ensures ∙ c.args.out.now.nodes.ok.0 in
    IfErr-weaker c.lift_rows.result _ _ (λ stop s. branches_stop a b m ts c.args.levels t c.args.key.now c.as_str-front.result.now c.args.bound.now c.args.number n (kind_of c.args.kind) c.args.under c.args.above c.args.out.now asked.1.1.1.1.0 plain placed c.in_ok-rows.rows c.len-place.result c.place_node.new.out front place c.in_ok-rows.ensures.adds d worked c.lift_below.new.out c.in_ok-lift_below.ensures.adds (g.W.Worlds.algebra c.lift_rows.new.w) c.lift_rows.ensures.kept _ (ap (option_map query) c.in-Some.is) c.in_ok-rows.ensures.rows c.list.result.now c.list.ensures stop s) c.lift_rows.ensures.stops

pub lift_plain-returns-in_err-rows-clause-stops : goal.lift_plain-returns-in_err-rows-clause-stops
lift_plain-returns-in_err-rows-clause-stops g s c =
    let asked = c.requires.1.1.1.1 in
    let a = g.W.Worlds.algebra c.args.w.now in
    let b = g.W.Worlds.algebra c.place_node.new.w in
    let m = c.args.model.now in
    let ts = templates_of c.args.templates.now in
    let t = template_view c.args.template.now in
    let n = node_view c.args.node.now in
    let plain = ap (kind_view c.args.node.now.args) asked.1.0 in
    err_as c.from_residual.result c.in_err-rows.field-0.0 _ c.from_residual.ensures.1 (placing_stops a b m ts c.args.levels t c.args.key.now c.args.key.now c.args.bound.now c.args.number n (kind_of c.args.kind) c.args.under c.args.above c.args.out.now asked.1.1.1.1.0 plain c.in_err-rows.ensures.kept c.in_err-rows.field-0.0 asked.1.1.0 c.in_err-rows.ensures.stops)

pub lift_plain-returns-in_err-lift_below-clause-stops : goal.lift_plain-returns-in_err-lift_below-clause-stops
lift_plain-returns-in_err-lift_below-clause-stops g s c =
    let asked = c.requires.1.1.1.1 in
    let a = g.W.Worlds.algebra c.args.w.now in
    let b = g.W.Worlds.algebra c.place_node.new.w in
    let d = g.W.Worlds.algebra c.lift_below.new.w in
    let m = c.args.model.now in
    let ts = templates_of c.args.templates.now in
    let t = template_view c.args.template.now in
    let n = node_view c.args.node.now in
    let placed = c.in_ok-rows.ensures.kept in
    let plain = ap (kind_view c.args.node.now.args) asked.1.0 in
    let front = c.as_str-front.ensures.value ∙ c.in_ok-below.ensures in
    let place = c.len-place.ensures ∙ c.args.out.now.nodes.ok.0 in
    err_as c.from_residual-in_err-lift_below.result c.in_err-lift_below.field-0.0 _ c.from_residual-in_err-lift_below.ensures.1 (annotating_stops a b m ts c.args.levels t c.args.key.now c.as_str-front.result.now c.args.bound.now c.args.number n (kind_of c.args.kind) c.args.under c.args.above c.args.out.now asked.1.1.1.1.0 plain placed c.in_ok-rows.rows c.len-place.result c.place_node.new.out front place c.in_ok-rows.ensures.adds d c.in_err-lift_below.ensures.kept c.in_err-lift_below.field-0.0 c.in_err-lift_below.ensures.stops)

pub lift_plain-returns-in_err-lift_below-clause-kept : goal.lift_plain-returns-in_err-lift_below-clause-kept
lift_plain-returns-in_err-lift_below-clause-kept g s c = kept_then c.in_ok-rows.ensures.kept c.in_err-lift_below.ensures.kept

pub lift_plain-returns-in-None-clause-kept : goal.lift_plain-returns-in-None-clause-kept
lift_plain-returns-in-None-clause-kept g s c = kept_then (kept_then c.in_ok-rows.ensures.kept c.in_ok-lift_below.ensures.kept) c.lift_below-in-None.ensures.kept

pub lift_plain-returns-clause-kept : goal.lift_plain-returns-clause-kept
lift_plain-returns-clause-kept g s c = kept_then (kept_then c.in_ok-rows.ensures.kept c.in_ok-lift_below.ensures.kept) c.lift_rows.ensures.kept

pub lift_rows-rows-init : goal.lift_rows-rows-init
lift_rows-rows-init g s c =
    let asked = c.requires.1.1.1.1 in
    let a = g.W.Worlds.algebra c.args.w.now in
    let t = template_view c.args.template.now in
    record {
      kept = kept_itself a;
      room = asked.1.1.1;
      adds = adds_no_row a c.args.model.now (templates_of c.args.templates.now) c.args.levels t c.args.key.now c.args.bound.now (below_among t.nodes c.args.number false) c.args.place c.args.rows.now c.args.out.now;
    }

pub lift_rows-lift_below-requires : goal.lift_rows-lift_below-requires
lift_rows-lift_below-requires g s c =
    let asked = c.requires.1.1.1.1 in
    let a = g.W.Worlds.algebra c.args.w.now in
    let b = g.W.Worlds.algebra c.rows.w in
    let rows = c.args.rows.now in
    let r = c.row-item.result in
    let within : c.rows.row-index < length c.args.rows.now = omega (arith, c.rows-test.true) in
    let among = read_among rows c.rows.row-index r within c.row-item.is in
    let live = All-contains (λ r. a.live r.1) rows r asked.1.1.0 among in
    let found = slice_get_read rows (length rows) c.rows.row-index r refl within c.row-item.is in
    let begins = c.as_str.ensures.value ∙ c.in_ok-front.ensures ∙ ap (branch_front c.args.key.now) c.list.ensures in
    let binds = c.as_slice.ensures.value ∙ c.in_ok-elements.ensures ∙ ap (λ answer. c.args.bound.now ++ answer) c.list-in-rows.ensures in
    let site = row_site a b b c.args.model.now (templates_of c.args.templates.now) c.args.levels (template_view c.args.template.now) c.args.key.now c.args.bound.now c.as_str.result.now c.as_slice.result.now c.args.number rows c.rows.row-index r c.rows.invariant.kept live found begins binds among asked.0 in
    let names = names_later a b c.args.model.now c.rows.invariant.kept asked.1.0 in
    let its_live = c.rows.invariant.kept.live r.1 live in
    let is : 5 * c.args.levels + 3 ≡ s = c.requires.1.0 in
    let smaller : 5 * c.args.levels + 2 < s = omega (arith, is) in
    λ k lives. (smaller, (lives.0, (lives.1, (site, (names, (its_live, c.rows.invariant.room))))))

pub lift_rows-returns-in_err-lift_below-clause-stops : goal.lift_rows-returns-in_err-lift_below-clause-stops
lift_rows-returns-in_err-lift_below-clause-stops g s c =
    let asked = c.requires.1.1.1.1 in
    let a = g.W.Worlds.algebra c.args.w.now in
    let b = g.W.Worlds.algebra c.rows.w in
    let rows = c.args.rows.now in
    let r = c.row-item.result in
    let within : c.rows.row-index < length c.args.rows.now = omega (arith, c.rows-test.true) in
    let among = read_among rows c.rows.row-index r within c.row-item.is in
    let live = All-contains (λ r. a.live r.1) rows r asked.1.1.0 among in
    let found = slice_get_read rows (length rows) c.rows.row-index r refl within c.row-item.is in
    let begins = c.as_str.ensures.value ∙ c.in_ok-front.ensures ∙ ap (branch_front c.args.key.now) c.list.ensures in
    let binds = c.as_slice.ensures.value ∙ c.in_ok-elements.ensures ∙ ap (λ answer. c.args.bound.now ++ answer) c.list-in-rows.ensures in
    let stop = c.in_err-lift_below.field-0.0 in
    row_stops a b (g.W.Worlds.algebra c.lift_below.new.w) c.args.model.now (templates_of c.args.templates.now) c.args.levels (template_view c.args.template.now) c.args.key.now c.args.bound.now c.as_str.result.now c.as_slice.result.now c.args.number rows c.rows.row-index r
    c.rows.invariant.kept live found begins binds c.lift_below.ensures.kept c.from_residual-in_err-lift_below.result c.args.place c.args.out.now c.rows.out stop c.from_residual-in_err-lift_below.ensures.1 c.rows.invariant.adds c.in_err-lift_below.ensures.stops

pub lift_rows-rows-preserved : goal.lift_rows-rows-preserved
lift_rows-rows-preserved g s c =
    let asked = c.requires.1.1.1.1 in
    let a = g.W.Worlds.algebra c.args.w.now in
    let b = g.W.Worlds.algebra c.rows.w in
    let rows = c.args.rows.now in
    let r = c.row-item.result in
    let within : c.rows.row-index < length c.args.rows.now = omega (arith, c.rows-test.true) in
    let among = read_among rows c.rows.row-index r within c.row-item.is in
    let live = All-contains (λ r. a.live r.1) rows r asked.1.1.0 among in
    let found = slice_get_read rows (length rows) c.rows.row-index r refl within c.row-item.is in
    let begins = c.as_str.ensures.value ∙ c.in_ok-front.ensures ∙ ap (branch_front c.args.key.now) c.list.ensures in
    let binds = c.as_slice.ensures.value ∙ c.in_ok-elements.ensures ∙ ap (λ answer. c.args.bound.now ++ answer) c.list-in-rows.ensures in
    let d = g.W.Worlds.algebra c.lift_below.new.w in
    let m = c.args.model.now in
    let ts = templates_of c.args.templates.now in
    let t = template_view c.args.template.now in
    let lies = row_lies a b d m ts c.args.levels t c.args.key.now c.args.bound.now c.as_str.result.now c.as_slice.result.now c.args.number rows c.rows.row-index r
    c.rows.invariant.kept live found begins binds among asked.0 in
    record {
      kept = kept_then c.rows.invariant.kept c.in_ok-lift_below.ensures.kept;
      room = c.in_ok-lift_below.ensures.room;
      adds =
          row_adds a b d m ts c.args.levels t c.args.key.now c.args.bound.now c.as_str.result.now c.as_slice.result.now c.args.number rows c.rows.row-index r
          c.rows.invariant.kept live found begins binds c.in_ok-lift_below.ensures.kept c.args.place c.args.out.now c.rows.out c.lift_below.new.out
          c.rows.invariant.adds (c.in_ok-lift_below.ensures.adds c.args.key.now lies);
    }

pub lift_rows-returns-clause-adds : goal.lift_rows-returns-clause-adds
lift_rows-returns-clause-adds g s c =
    let a = g.W.Worlds.algebra c.args.w.now in
    let b = g.W.Worlds.algebra c.rows.w in
    let t = template_view c.args.template.now in
    let ended : length c.args.rows.now ≤ c.rows.row-index = omega (arith, c.rows-test.false) in
    adds_each_row a b c.args.model.now (templates_of c.args.templates.now) c.args.levels t c.args.key.now c.args.bound.now (below_among t.nodes c.args.number false) c.args.place c.args.rows.now c.args.out.now c.rows.out c.rows.row-index ended c.rows.invariant.adds

pub lift_below-nodes-init : goal.lift_below-nodes-init
lift_below-nodes-init g s c =
    let asked = c.requires.1.1.1.1 in
    let a = g.W.Worlds.algebra c.args.w.now in
    record {
      kept = kept_itself a;
      nodes = c.list-nodes.ensures;
      other = refl;
      room = asked.1.1.1;
      adds = λ upper lies. adds_no_node a c.args.model.now (templates_of c.args.templates.now) c.args.levels (template_view c.args.template.now) c.args.front.now c.args.bound.now upper c.args.number c.args.annotating (a.holds c.args.under) c.args.place c.args.out.now;
      fills = fills_no_node a c.args.model.now (templates_of c.args.templates.now) c.args.levels (template_view c.args.template.now) c.args.front.now c.args.bound.now c.args.number c.args.annotating (a.holds c.args.under) c.args.out.now.left;
    }

pub lift_below-lift_node-requires : goal.lift_below-lift_node-requires
lift_below-lift_node-requires g s c =
    let asked = c.requires.1.1.1.1 in
    let a = g.W.Worlds.algebra c.args.w.now in
    let b = g.W.Worlds.algebra c.nodes.w in
    let n = c.node-item.result in
    let ns = c.args.template.now.nodes in
    let within : c.nodes.node-index < length c.list-nodes.result.now = omega (arith, c.nodes-test.true) in
    let found = read_at node_view ns c.list-nodes.result.now c.nodes.node-index c.nodes.other n c.nodes.invariant.nodes c.nodes.invariant.other within c.node-item.is in
    let site = next_site a b b c.args.model.now (templates_of c.args.templates.now) c.args.levels (template_view c.args.template.now) c.args.front.now c.args.bound.now c.args.number c.args.annotating c.args.under c.nodes.other (node_view n) c.as_str.result.now c.nodes.invariant.kept asked.1.1.0 found (sym c.stands_under.ensures ∙ c.if-stands_under.true) asked.0 in
    let names = names_later a b c.args.model.now c.nodes.invariant.kept asked.1.0 in
    let live = c.nodes.invariant.kept.live c.args.under asked.1.1.0 in
    let is : 5 * c.args.levels + 2 ≡ s = c.requires.1.0 in
    let smaller : 5 * c.args.levels < s = omega (arith, is) in
    λ k lives. (smaller, (lives.0, (lives.1, (site, (names, (live, c.nodes.invariant.room))))))

pub lift_below-returns-in_err-lift_node-clause-stops : goal.lift_below-returns-in_err-lift_node-clause-stops
lift_below-returns-in_err-lift_node-clause-stops g s c =
    let asked = c.requires.1.1.1.1 in
    let a = g.W.Worlds.algebra c.args.w.now in
    let b = g.W.Worlds.algebra c.nodes.w in
    let n = c.node-item.result in
    let ns = c.args.template.now.nodes in
    let stop = c.in_err-lift_node.field-0.0 in
    let within : c.nodes.node-index < length c.list-nodes.result.now = omega (arith, c.nodes-test.true) in
    let found = read_at node_view ns c.list-nodes.result.now c.nodes.node-index c.nodes.other n c.nodes.invariant.nodes c.nodes.invariant.other within c.node-item.is in
    next_stops a b (g.W.Worlds.algebra c.lift_node.new.w) c.args.model.now (templates_of c.args.templates.now) c.args.levels (template_view c.args.template.now) c.args.front.now c.args.bound.now c.args.number c.args.annotating c.args.under c.nodes.other (node_view n) c.as_str.result.now
    c.nodes.invariant.kept asked.1.1.0 found (sym c.stands_under.ensures ∙ c.if-stands_under.true) (c.as_str.ensures.value ∙ c.in_ok-key.ensures) c.lift_node.ensures.kept
    c.from_residual-in_err-lift_node.result c.args.out.now.left c.nodes.out.left stop c.from_residual-in_err-lift_node.ensures.1 c.nodes.invariant.fills c.in_err-lift_node.ensures.stops

pub lift_below-nodes-preserved : goal.lift_below-nodes-preserved
lift_below-nodes-preserved g s c =
    let asked = c.requires.1.1.1.1 in
    let a = g.W.Worlds.algebra c.args.w.now in
    let b = g.W.Worlds.algebra c.nodes.w in
    let m = c.args.model.now in
    let ts = templates_of c.args.templates.now in
    let t = template_view c.args.template.now in
    let n = c.node-item.result in
    let ns = c.args.template.now.nodes in
    let within : c.nodes.node-index < length c.list-nodes.result.now = omega (arith, c.nodes-test.true) in
    let found = read_at node_view ns c.list-nodes.result.now c.nodes.node-index c.nodes.other n c.nodes.invariant.nodes c.nodes.invariant.other within c.node-item.is in
    let d = g.W.Worlds.algebra c.if-stands_under.w in
    elim c.if-stands_under.branch [
      | lift_below-then-stands_under+in_ok-key+in_ok-lift_node w ↦
          let small : c.nodes.other < 2 ^ 64 = omega (arith, c.nodes.auto.other-fits.fits) in
          let own = w.as_str.ensures.value ∙ w.in_ok-key.ensures in
          let stands = sym c.stands_under.ensures ∙ w.if-stands_under.true in
          let later : Kept b d = subst (λ z. Kept b (g.W.Worlds.algebra z)) (sym w.w-is) w.in_ok-lift_node.ensures.kept in
          let added : AddsNode d m ts c.args.levels t w.as_str.result.now c.args.bound.now (c.nodes.other, node_view n) (b.holds c.args.under) (Some c.args.place) c.nodes.out c.if-stands_under.out =
          subst (λ z. AddsNode (g.W.Worlds.algebra z) m ts c.args.levels t w.as_str.result.now c.args.bound.now (c.nodes.other, node_view n) (b.holds c.args.under) (Some c.args.place) c.nodes.out c.if-stands_under.out) (sym w.w-is)
          (subst (λ o. AddsNode (g.W.Worlds.algebra w.lift_node.new.w) m ts c.args.levels t w.as_str.result.now c.args.bound.now (c.nodes.other, node_view n) (b.holds c.args.under) (Some c.args.place) c.nodes.out o) (sym w.out-is)
          w.in_ok-lift_node.ensures.adds) in
          let nodes : length c.if-stands_under.out.nodes.items ≡ length w.lift_node.new.out.nodes.items = ap (λ v. length v.nodes.items) w.out-is in
          let left : c.if-stands_under.out.left ≡ w.lift_node.new.out.left = ap (λ v. v.left) w.out-is in
          record {
            kept = kept_then c.nodes.invariant.kept later;
            nodes = c.nodes.invariant.nodes;
            other = ap (λ k. k + 1) c.nodes.invariant.other;
            room = omega (arith, nodes, left, w.in_ok-lift_node.ensures.room);
            adds = λ upper lies.
                next_adds a b d m ts c.args.levels t c.args.front.now c.args.bound.now c.args.number c.args.annotating c.args.under c.nodes.other (node_view n) w.as_str.result.now c.nodes.invariant.kept asked.1.1.0 found stands own later
                c.args.place c.args.out.now c.nodes.out c.if-stands_under.out upper small lies (c.nodes.invariant.adds upper lies) added;
            fills =
                next_fills a b d m ts c.args.levels t c.args.front.now c.args.bound.now c.args.number c.args.annotating c.args.under c.nodes.other (node_view n) w.as_str.result.now c.nodes.invariant.kept asked.1.1.0 found stands own later
                c.args.out.now.left (Some c.args.place) c.nodes.out c.if-stands_under.out c.nodes.invariant.fills added;
          }
      | lift_below-else-stands_under w ↦
          let stands = sym c.stands_under.ensures ∙ w.if-stands_under.false in
          let later : Kept b d = subst (λ z. Kept b (g.W.Worlds.algebra z)) (sym w.w-is) (kept_itself b) in
          let nodes : length c.if-stands_under.out.nodes.items ≡ length c.nodes.out.nodes.items = ap (λ v. length v.nodes.items) w.out-is in
          let left : c.if-stands_under.out.left ≡ c.nodes.out.left = ap (λ v. v.left) w.out-is in
          record {
            kept = kept_then c.nodes.invariant.kept later;
            nodes = c.nodes.invariant.nodes;
            other = ap (λ k. k + 1) c.nodes.invariant.other;
            room = omega (arith, nodes, left, c.nodes.invariant.room);
            adds = λ upper lies.
                passed_adds b d m ts c.args.levels t c.args.front.now c.args.bound.now c.args.number c.args.annotating (a.holds c.args.under) c.nodes.other (node_view n) found stands later
                c.args.place c.args.out.now c.nodes.out c.if-stands_under.out upper (sym w.out-is) (c.nodes.invariant.adds upper lies);
            fills =
                passed_fills b d m ts c.args.levels t c.args.front.now c.args.bound.now c.args.number c.args.annotating (a.holds c.args.under) c.nodes.other (node_view n) found stands later
                c.args.out.now.left c.nodes.out c.if-stands_under.out (sym w.out-is) c.nodes.invariant.fills;
          }
    ]

pub lift_below-returns-clause-adds : goal.lift_below-returns-clause-adds
lift_below-returns-clause-adds g s c =
    let a = g.W.Worlds.algebra c.args.w.now in
    let b = g.W.Worlds.algebra c.nodes.w in
    let t = template_view c.args.template.now in
    let ended : length (map node_view c.args.template.now.nodes) ≤ c.nodes.other =
    (let e = ap length c.nodes.invariant.nodes in let l = length-map c.args.template.now.nodes node_view in omega (arith, e, l, c.nodes.invariant.other, c.nodes-test.false)) in
    λ upper lies.
    adds_each_node a b c.args.model.now (templates_of c.args.templates.now) c.args.levels t c.args.front.now c.args.bound.now upper c.args.number c.args.annotating c.args.under c.args.place c.args.out.now c.nodes.out c.nodes.other ended (c.nodes.invariant.adds upper lies)
