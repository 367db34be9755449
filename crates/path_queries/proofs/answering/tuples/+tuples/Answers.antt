use Rattle.std.proofs.Common.{◌≡◌, ◌∙◌, refl, sym, ap, subst, ◌+◌, ◌-◌, ◌*◌, ◌<◌, ◌≤◌, [], ◌∷◌, ◌++◌, length, true, false, Some, arith, rules}
use Rattle.std.specs.List.{slice_get}
use Rattle.std.proofs.lemmas.List.{length-map}
use Rattle.meaning.specs.Models.{is_a}
use Rattle.annotated_model.specs.View.{element_view}
use Rattle.worlds.proofs.Kept.{worked_itself, worked_then, worked_at_most, one_call}
use Rattle.path_queries.specs.Answering.{StopsWith}
use Rattle.path_queries.specs.Searching.{IsReady, asks_left, asks_with_one, found_with, possible_next, found_below, possible_below}
use Rattle.path_queries.specs.Tuples.{type_at, Adds, Overflows}
use Rattle.path_queries.proofs.AnswerRowLaws.{adds_none}
use Rattle.path_queries.proofs.Exits.{stops_with, ok_along, err_along}
use Rattle.path_queries.proofs.Finding.{with_element, adds_nothing, adds_no_other, adds_longer, overflows_longer}
use Rattle.path_queries.proofs.Trying.{ready_later, none_past, asks_last, asks_longer, asks_for_one, asks_for_tuples, one_less, half_less, found_so_far, possible_so_far, adds_so_far, adds_all, stops_so_far, stops_along}
use Rattle.path_queries.proofs.answering.tuples.+tuples.Goals as goal

pub add_all-loop-e-init : goal.add_all-loop-e-init
add_all-loop-e-init g t c =
    let before = g.W.Worlds.algebra c.args.w.now in
    let s = c.args.search.now in
    let given = c.args.given.now in
    record {
      worked = worked_at_most (worked_itself before) (omega arith);
      added = adds_none before c.args.rows.now.items (found_so_far before s given c.args.under c.in-Some.of_type 0) (possible_so_far s given c.in-Some.of_type 0) (λ x w. refl);
      few = c.requires.few;
    }

pub add_all-add_with-requires : goal.add_all-add_with-requires
add_all-add_with-requires g t c =
    let s = c.args.search.now in
    let next : slice_get s.query.now.vars (length c.args.given.now) ≡ Some c.in-Some.of_type = sym c.next_type.ensures ∙ c.in-Some.is in
    let smaller : 2 * (length s.query.now.vars - (length c.args.given.now + 1)) + 1 < 2 * (length s.query.now.vars - length c.args.given.now) = one_less s c.args.given.now c.in-Some.of_type next in
    let ready : IsReady (g.W.Worlds.algebra c.loop-e.w) s = ready_later c.loop-e.invariant.worked.kept c.requires.ready in
    let size = ap length c.elements.ensures.elements in
    let there : c.loop-e.e < length s.model.now.elements = omega (arith, size, length-map c.elements.result.now element_view, c.loop-e-test.true) in
    let live = c.loop-e.invariant.worked.kept.live c.args.under c.requires.under in
    let few = c.loop-e.invariant.few in
    search rules

pub add_all-returns-in_err-add_with-in-Some-clause-worked : goal.add_all-returns-in_err-add_with-in-Some-clause-worked
add_all-returns-in_err-add_with-in-Some-clause-worked g t c =
    let s = c.args.search.now in
    let next : slice_get s.query.now.vars (length c.args.given.now) ≡ Some c.in-Some.of_type = sym c.next_type.ensures ∙ c.in-Some.is in
    let size = ap length c.elements.ensures.elements in
    let there : c.loop-e.e + 1 ≤ length s.model.now.elements = omega (arith, size, length-map c.elements.result.now element_view, c.loop-e-test.true) in
    let within = asks_for_tuples s c.args.given.now c.in-Some.of_type (c.loop-e.e + 1) next there in
    worked_at_most (worked_then c.loop-e.invariant.worked c.add_with.ensures.worked) (omega (arith, within))

pub add_all-returns-in_err-add_with-in-Some-clause-stops : goal.add_all-returns-in_err-add_with-in-Some-clause-stops
add_all-returns-in_err-add_with-in-Some-clause-stops g t c =
    let s = c.args.search.now in
    let next : slice_get s.query.now.vars (length c.args.given.now) ≡ Some c.in-Some.of_type = sym c.next_type.ensures ∙ c.in-Some.is in
    let size = ap length c.elements.ensures.elements in
    let there : c.loop-e.e + 1 ≤ length s.model.now.elements = omega (arith, size, length-map c.elements.result.now element_view, c.loop-e-test.true) in
    let before = g.W.Worlds.algebra c.args.w.now in
    let after = g.W.Worlds.algebra c.add_with.new.w in
    let given = c.args.given.now in
    let under = c.args.under in
    let stop = c.in_err-add_with-in-Some.field-0.0 in
    let so_far = c.loop-e.invariant in
    stops_with c.from_residual.result (StopsWith before after (Overflows after c.args.rows.now.items (found_below before s given under) (possible_below s given) c.args.most)) stop c.from_residual.ensures.1
    (stops_so_far s given under c.in-Some.of_type c.loop-e.e so_far.worked.kept c.add_with.ensures.worked.kept c.requires.under next there c.args.most stop so_far.added c.in_err-add_with-in-Some.ensures.stops)

pub add_all-loop-e-preserved : goal.add_all-loop-e-preserved
add_all-loop-e-preserved g t c =
    let s = c.args.search.now in
    let so_far = c.loop-e.invariant in
    record {
      worked = worked_at_most (worked_then so_far.worked c.add_with.ensures.worked) (omega arith);
      added = adds_so_far s c.args.given.now c.args.under c.in-Some.of_type c.loop-e.e so_far.worked.kept c.add_with.ensures.worked.kept c.requires.under so_far.added c.in_ok-add_with-in-Some.ensures.added;
      few = c.in_ok-add_with-in-Some.ensures.few;
    }

pub add_all-returns-in-None-clause-worked : goal.add_all-returns-in-None-clause-worked
add_all-returns-in-None-clause-worked g t c =
    let s = c.args.search.now in
    let last = none_past s.query.now.vars (length c.args.given.now) (sym c.next_type.ensures ∙ c.in-None.is) in
    let same = asks_last s c.args.given.now last in
    worked_at_most c.add.ensures.worked (omega (arith, same))

pub add_all-returns-after-loop-e-clause-worked : goal.add_all-returns-after-loop-e-clause-worked
add_all-returns-after-loop-e-clause-worked g t c =
    let s = c.args.search.now in
    let next : slice_get s.query.now.vars (length c.args.given.now) ≡ Some c.in-Some.of_type = sym c.next_type.ensures ∙ c.in-Some.is in
    let size = ap length c.elements.ensures.elements in
    let all : c.loop-e.e ≤ length s.model.now.elements = omega (arith, size, length-map c.elements.result.now element_view) in
    worked_at_most c.loop-e.invariant.worked (asks_for_tuples s c.args.given.now c.in-Some.of_type c.loop-e.e next all)

pub add_all-returns-after-loop-e-clause-added : goal.add_all-returns-after-loop-e-clause-added
add_all-returns-after-loop-e-clause-added g t c =
    let before = g.W.Worlds.algebra c.args.w.now in
    let s = c.args.search.now in
    let given = c.args.given.now in
    let next : slice_get s.query.now.vars (length given) ≡ Some c.in-Some.of_type = sym c.next_type.ensures ∙ c.in-Some.is in
    let size = ap length c.elements.ensures.elements in
    let all : c.loop-e.e ≡ length s.model.now.elements = omega (arith, size, length-map c.elements.result.now element_view) in
    adds_all before s given c.args.under c.in-Some.of_type next
    (subst (λ k. Adds (g.W.Worlds.algebra c.loop-e.w) c.args.rows.now.items c.loop-e.rows.items (found_so_far before s given c.args.under c.in-Some.of_type k) (possible_so_far s given c.in-Some.of_type k)) all c.loop-e.invariant.added)

pub add_with-returns-then-not-is_of_type-clause-added : goal.add_with-returns-then-not-is_of_type-clause-added
add_with-returns-then-not-is_of_type-clause-added g t c =
    let before = g.W.Worlds.algebra c.args.w.now in
    let s = c.args.search.now in
    adds_no_other before s c.args.given.now c.args.under c.args.of_type c.args.e c.args.rows.now.items (sym c.is_of_type.ensures ∙ c.if-not-is_of_type.true)

pub add_with-returns-then-is_never-clause-added : goal.add_with-returns-then-is_never-clause-added
add_with-returns-then-is_never-clause-added g t c =
    let before = g.W.Worlds.algebra c.args.w.now in
    let s = c.args.search.now in
    let of_type : is_a s.model.now.types (type_at s.model.now c.args.e) c.args.of_type ≡ true = sym c.is_of_type.ensures ∙ c.if-not-is_of_type.false in
    let made = with_element s c.list.result.now c.from.result c.args.e c.args.under c.requires.ready c.list.ensures c.from.ensures c.requires.there c.index-list-from.is c.both.ensures.kept c.in_ok-here.ensures.made in
    adds_nothing before s c.args.given.now c.args.under c.args.of_type c.args.e of_type made c.args.rows.now.items (c.is_never.ensures.0 c.if-is_never.true)

pub add_with-add_all-requires : goal.add_with-add_all-requires
add_with-add_all-requires g t c =
    let s = c.args.search.now in
    let longer = c.deref.ensures.value ∙ c.in_ok-longer.ensures in
    let smaller : 2 * (length s.query.now.vars - length c.deref.result.now) < 2 * (length s.query.now.vars - (length c.args.given.now + 1)) + 1 = half_less s c.args.given.now c.args.e c.deref.result.now longer in
    let ready : IsReady (g.W.Worlds.algebra c.both.new.self) s = ready_later c.both.ensures.kept c.requires.ready in
    let live = c.in_ok-here.ensures.made.live in
    let few = c.requires.few in
    search rules

pub add_with-returns-clause-worked : goal.add_with-returns-clause-worked
add_with-returns-clause-worked g t c =
    let s = c.args.search.now in
    let longer = c.deref.ensures.value ∙ c.in_ok-longer.ensures in
    let asks = ap (asks_left s) longer in
    let same = asks_longer s c.args.given.now c.args.e in
    worked_at_most (worked_then (one_call c.both.ensures.kept c.both.ensures.asked) c.add_all.ensures.worked) (omega (arith, asks, same))

pub add_with-returns-clause-added : goal.add_with-returns-clause-added
add_with-returns-clause-added g t c =
    let before = g.W.Worlds.algebra c.args.w.now in
    let s = c.args.search.now in
    let longer = c.deref.ensures.value ∙ c.in_ok-longer.ensures in
    let of_type : is_a s.model.now.types (type_at s.model.now c.args.e) c.args.of_type ≡ true = sym c.is_of_type.ensures ∙ c.if-not-is_of_type.false in
    let made = with_element s c.list.result.now c.from.result c.args.e c.args.under c.requires.ready c.list.ensures c.from.ensures c.requires.there c.index-list-from.is c.both.ensures.kept c.in_ok-here.ensures.made in
    ok_along c.add_all.result _ _
    (λ u h. adds_longer before s c.args.given.now c.args.under c.args.of_type c.args.e of_type made c.deref.result.now longer c.add_all.ensures.worked.kept h) c.add_all.ensures.added

pub add_with-returns-clause-stops : goal.add_with-returns-clause-stops
add_with-returns-clause-stops g t c =
    let before = g.W.Worlds.algebra c.args.w.now in
    let after = g.W.Worlds.algebra c.add_all.new.w in
    let s = c.args.search.now in
    let longer = c.deref.ensures.value ∙ c.in_ok-longer.ensures in
    let of_type : is_a s.model.now.types (type_at s.model.now c.args.e) c.args.of_type ≡ true = sym c.is_of_type.ensures ∙ c.if-not-is_of_type.false in
    let made = with_element s c.list.result.now c.from.result c.args.e c.args.under c.requires.ready c.list.ensures c.from.ensures c.requires.there c.index-list-from.is c.both.ensures.kept c.in_ok-here.ensures.made in
    err_along c.add_all.result _ _
    (λ stop h. stops_along after stop c.both.ensures.kept (λ over. overflows_longer before s c.args.given.now c.args.under c.args.of_type c.args.e of_type made c.deref.result.now longer c.add_all.ensures.worked.kept over) h)
    c.add_all.ensures.stops
