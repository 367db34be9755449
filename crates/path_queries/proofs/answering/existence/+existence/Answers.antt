use Rattle.std.proofs.Common.{◌≡◌, ◌∙◌, refl, sym, ap, subst, ◌+◌, ◌-◌, ◌*◌, ◌<◌, ◌≤◌, [], ◌∷◌, ◌++◌, length, true, Some, arith, rules}
use Rattle.std.specs.Prelude.{not}
use Rattle.std.specs.List.{slice_get}
use Rattle.std.proofs.lemmas.List.{length-map}
use Rattle.std.proofs.lemmas.Result.{IfOk-weaker}
use Rattle.meaning.specs.Models.{is_a}
use Rattle.meaning.specs.Queries.{is_empty}
use Rattle.annotated_model.specs.View.{element_view}
use Rattle.worlds.specs.Algebra.{HoldsWhere}
use Rattle.worlds.proofs.Kept.{kept_then, worked_then, worked_at_most, one_call}
use Rattle.path_queries.specs.Searching.{IsReady, asks_left, asks_with_one}
use Rattle.path_queries.specs.Tuples.{type_at}
use Rattle.path_queries.proofs.Finding.{answers_itself, none_found, any_longer, with_element, element_live}
use Rattle.path_queries.proofs.Trying.{ready_later, none_past, asks_last, asks_next, asks_longer, asks_for_one, one_less, half_less, found_so_far, any_so_far, any_all}
use Rattle.path_queries.proofs.answering.existence.+existence.Goals as goal

pub any_answer-any_with-requires : goal.any_answer-any_with-requires
any_answer-any_with-requires g t c =
    let s = c.args.search.now in
    let next : slice_get s.query.now.vars (length c.args.given.now) ≡ Some c.in-Some.of_type = sym c.next_type.ensures ∙ c.in-Some.is in
    let smaller : 2 * (length s.query.now.vars - (length c.args.given.now + 1)) + 1 < 2 * (length s.query.now.vars - length c.args.given.now) = one_less s c.args.given.now c.in-Some.of_type next in
    let ready : IsReady (g.W.Worlds.algebra c.loop-e.w) s = ready_later c.loop-e.invariant.worked.kept c.requires.ready in
    let size = ap length c.elements.ensures.elements in
    let there : c.loop-e.e < length s.model.now.elements = omega (arith, size, length-map c.elements.result.now element_view, c.loop-e-test.true) in
    let live = c.loop-e.invariant.worked.kept.live c.args.under c.requires.under in
    search rules

pub any_answer-returns-in_err-here-in-Some-clause-worked : goal.any_answer-returns-in_err-here-in-Some-clause-worked
any_answer-returns-in_err-here-in-Some-clause-worked g t c =
    let s = c.args.search.now in
    let next : slice_get s.query.now.vars (length c.args.given.now) ≡ Some c.in-Some.of_type = sym c.next_type.ensures ∙ c.in-Some.is in
    let size = ap length c.elements.ensures.elements in
    let there : c.loop-e.e < length s.model.now.elements = omega (arith, size, length-map c.elements.result.now element_view, c.loop-e-test.true) in
    let within = asks_for_one s c.args.given.now c.in-Some.of_type c.loop-e.e next there in
    worked_at_most (worked_then c.loop-e.invariant.worked c.any_with.ensures.worked) (omega (arith, within))

pub any_answer-returns-in_err-found-in-Some-clause-worked : goal.any_answer-returns-in_err-found-in-Some-clause-worked
any_answer-returns-in_err-found-in-Some-clause-worked g t c =
    let s = c.args.search.now in
    let next : slice_get s.query.now.vars (length c.args.given.now) ≡ Some c.in-Some.of_type = sym c.next_type.ensures ∙ c.in-Some.is in
    let size = ap length c.elements.ensures.elements in
    let there : c.loop-e.e < length s.model.now.elements = omega (arith, size, length-map c.elements.result.now element_view, c.loop-e-test.true) in
    let within = asks_for_one s c.args.given.now c.in-Some.of_type c.loop-e.e next there in
    worked_at_most (worked_then (worked_then c.loop-e.invariant.worked c.any_with.ensures.worked) (one_call c.either.ensures.kept c.either.ensures.asked)) (omega (arith, within))

pub any_answer-loop-e-preserved : goal.any_answer-loop-e-preserved
any_answer-loop-e-preserved g t c =
    let s = c.args.search.now in
    let so_far = c.loop-e.invariant in
    record {
      worked = worked_at_most (worked_then (worked_then so_far.worked c.any_with.ensures.worked) (one_call c.either.ensures.kept c.either.ensures.asked)) (omega arith);
      found =
          any_so_far s c.args.given.now c.args.under c.in-Some.of_type c.loop-e.e so_far.worked.kept c.any_with.ensures.worked.kept c.either.ensures.kept c.requires.under so_far.found c.in_ok-here-in-Some.ensures.made
          c.in_ok-found-in-Some.ensures.made;
    }

pub any_answer-returns-in_ok-here-in-None-clause-worked : goal.any_answer-returns-in_ok-here-in-None-clause-worked
any_answer-returns-in_ok-here-in-None-clause-worked g t c =
    let s = c.args.search.now in
    let last = none_past s.query.now.vars (length c.args.given.now) (sym c.next_type.ensures ∙ c.in-None.is) in
    let same = asks_last s c.args.given.now last in
    worked_at_most c.meets_all.ensures.worked (omega (arith, same))

pub any_answer-returns-in_ok-here-in-None-clause-made : goal.any_answer-returns-in_ok-here-in-None-clause-made
any_answer-returns-in_ok-here-in-None-clause-made g t c =
    let s = c.args.search.now in
    let last = none_past s.query.now.vars (length c.args.given.now) (sym c.next_type.ensures ∙ c.in-None.is) in
    answers_itself (g.W.Worlds.algebra c.args.w.now) s c.args.given.now c.args.under last c.in_ok-here-in-None.ensures.made

pub any_answer-returns-after-loop-e-clause-worked : goal.any_answer-returns-after-loop-e-clause-worked
any_answer-returns-after-loop-e-clause-worked g t c =
    let s = c.args.search.now in
    let next : slice_get s.query.now.vars (length c.args.given.now) ≡ Some c.in-Some.of_type = sym c.next_type.ensures ∙ c.in-Some.is in
    let size = ap length c.elements.ensures.elements in
    let all : c.loop-e.e ≡ length s.model.now.elements = omega (arith, size, length-map c.elements.result.now element_view) in
    let same = ap (λ k. k * (asks_with_one s c.args.given.now + 1)) all ∙ sym (asks_next s c.args.given.now c.in-Some.of_type next) in
    worked_at_most c.loop-e.invariant.worked (omega (arith, same))

pub any_answer-returns-after-loop-e-clause-made : goal.any_answer-returns-after-loop-e-clause-made
any_answer-returns-after-loop-e-clause-made g t c =
    let before = g.W.Worlds.algebra c.args.w.now in
    let s = c.args.search.now in
    let given = c.args.given.now in
    let next : slice_get s.query.now.vars (length given) ≡ Some c.in-Some.of_type = sym c.next_type.ensures ∙ c.in-Some.is in
    let size = ap length c.elements.ensures.elements in
    let all : c.loop-e.e ≡ length s.model.now.elements = omega (arith, size, length-map c.elements.result.now element_view) in
    any_all before s given c.args.under c.in-Some.of_type next
    (subst (λ k. HoldsWhere (g.W.Worlds.algebra c.loop-e.w) c.loop-e.found (λ x. not (is_empty (found_so_far before s given c.args.under c.in-Some.of_type k x)))) all c.loop-e.invariant.found)

pub any_with-returns-then-is_never-clause-made : goal.any_with-returns-then-is_never-clause-made
any_with-returns-then-is_never-clause-made g t c =
    let before = g.W.Worlds.algebra c.args.w.now in
    let s = c.args.search.now in
    let of_type : is_a s.model.now.types (type_at s.model.now c.args.e) c.args.of_type ≡ true = sym c.is_of_type.ensures ∙ c.if-not-is_of_type.false in
    let made = with_element s c.list.result.now c.from.result c.args.e c.args.under c.requires.ready c.list.ensures c.from.ensures c.requires.there c.index-list-from.is c.both.ensures.kept c.in_ok-here.ensures.made in
    none_found before s c.args.given.now c.args.under c.args.of_type c.args.e of_type made (c.is_never.ensures.0 c.if-is_never.true)

pub any_with-any_answer-requires : goal.any_with-any_answer-requires
any_with-any_answer-requires g t c =
    let s = c.args.search.now in
    let longer = c.deref.ensures.value ∙ c.in_ok-longer.ensures in
    let smaller : 2 * (length s.query.now.vars - length c.deref.result.now) < 2 * (length s.query.now.vars - (length c.args.given.now + 1)) + 1 = half_less s c.args.given.now c.args.e c.deref.result.now longer in
    let ready : IsReady (g.W.Worlds.algebra c.both.new.self) s = ready_later c.both.ensures.kept c.requires.ready in
    let live = c.in_ok-here.ensures.made.live in
    search rules

pub any_with-returns-clause-worked : goal.any_with-returns-clause-worked
any_with-returns-clause-worked g t c =
    let s = c.args.search.now in
    let longer = c.deref.ensures.value ∙ c.in_ok-longer.ensures in
    let asks = ap (asks_left s) longer in
    let same = asks_longer s c.args.given.now c.args.e in
    worked_at_most (worked_then (one_call c.both.ensures.kept c.both.ensures.asked) c.any_answer.ensures.worked) (omega (arith, asks, same))

pub any_with-returns-clause-made : goal.any_with-returns-clause-made
any_with-returns-clause-made g t c =
    let before = g.W.Worlds.algebra c.args.w.now in
    let s = c.args.search.now in
    let longer = c.deref.ensures.value ∙ c.in_ok-longer.ensures in
    let of_type : is_a s.model.now.types (type_at s.model.now c.args.e) c.args.of_type ≡ true = sym c.is_of_type.ensures ∙ c.if-not-is_of_type.false in
    let made = with_element s c.list.result.now c.from.result c.args.e c.args.under c.requires.ready c.list.ensures c.from.ensures c.requires.there c.index-list-from.is c.both.ensures.kept c.in_ok-here.ensures.made in
    IfOk-weaker c.any_answer.result _ _
    (λ found h. any_longer before s c.args.given.now c.args.under c.args.of_type c.args.e of_type made c.deref.result.now longer c.any_answer.ensures.worked.kept h) c.any_answer.ensures.made
