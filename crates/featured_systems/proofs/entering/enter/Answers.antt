use Rattle.std.proofs.Common.{◌≡◌, ◌∙◌, ℕ, ◌<◌, ◌+◌, List, Bool, get_or, length, take, sym, ap, arith}
use Rattle.std.proofs.lemmas.List.{length-set, take_more}
use Rattle.annotated_model.specs.declared.data.Transition.{Transition}
use Rattle.worlds.specs.Rows.{row_at}
use Rattle.worlds.proofs.Kept.{kept_then, worked_then, worked_at_most, holds_later}
use Rattle.featured_systems.specs.Rounds.{comes, front_at}
use Rattle.featured_systems.proofs.StateRows.{came, joined, gained_is, seen_is, entered_is, parents_are}
use Rattle.featured_systems.proofs.entering.enter.Goals as goal

pub loop-number-preserved : goal.loop-number-preserved
loop-number-preserved g c =
    let a0 = g.W.Worlds.algebra c.args.w.now in
    let ts = c.args.transitions.now in
    let steps = c.args.steps.now in
    let last = c.args.last.now in
    let numbers = c.args.numbers.now in
    let i = c.loop-number.number-index in
    let so_far = c.loop-number.invariant in
    let t = c.from-t.result in
    let number = get_or numbers i 0 in
    let k1 = c.gain.ensures.worked in
    let k2 = c.join.ensures.worked in
    let k3 = c.join-in-loop-number.ensures.worked in
    let k4 = c.join-in-loop-number-2.ensures.worked in
    let test : List Bool → ℕ → Bool = λ x n. comes (front_at a0 ts steps last x) n in
    let before : List Bool → Bool = λ x. a0.holds c.args.before x in
    let row : List Bool → List Bool = λ x. row_at a0 c.args.parents.now.items x in
    let before_t = take i numbers in
    let same : t ≡ number = omega (arith, c.from-t.ensures) in
    let longer = take_more numbers i 0 c.loop-number-test.true in
    let below : t < length ts = omega (arith, same, c.requires.numbers i 0 c.loop-number-test.true) in
    let leads = λ (x : List Bool). came ts steps last t c.from.result c.index-transitions-t.result c.index-last-from.result c.index-steps-t.result x so_far.worked.kept c.requires.fronts below c.index-transitions-t.is (c.from.ensures ∙ ap (λ (k : Transition). k.from) (sym c.index-transitions-t.is)) c.index-last-from.is c.index-steps-t.is
    ∙ ap (test x) same in
    let gained = gained_is c.index-last-from.result c.index-steps-t.result c.loop-number.seen c.in_ok-gained.gained test before before_t number k1.kept leads so_far.seen c.in_ok-gained.ensures.made in
    let seen = joined _ _ k1.kept k2.kept so_far.seen gained c.in_ok-seen.ensures.made in
    let entered = joined _ _ (kept_then k1.kept k2.kept) k3.kept so_far.entered (holds_later k2.kept gained) c.in_ok-entered.ensures.made in
    record {
      worked = worked_at_most (worked_then so_far.worked (worked_then k1 (worked_then k2 (worked_then k3 k4)))) (omega arith);
      seen = seen_is test before before_t (take (i + 1) numbers) number longer (holds_later (kept_then k3.kept k4.kept) seen);
      entered = entered_is test before before_t (take (i + 1) numbers) number longer (holds_later k4.kept entered);
      parents = parents_are test before row before_t (take (i + 1) numbers) number t longer same k1.kept (kept_then k2.kept k3.kept) k4.kept (omega (arith, below, so_far.size, c.requires.one_for_each)) c.index.ensures so_far.parents gained c.in_ok-parents.ensures.made;
      size = length-set c.loop-number.parents.items t c.in_ok-parents.field-0 ∙ so_far.size;
    }
