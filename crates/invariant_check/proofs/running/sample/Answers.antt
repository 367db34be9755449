use Rattle.std.proofs.Common.{◌≡◌, ◌∙◌, ◌++◌, true, sym, ap, subst, take, drop, length}
use Rattle.std.specs.Prelude.{option_map}
use Rattle.std.proofs.Math.Seq.{take-append_seam}
use Rattle.meaning.specs.Models.{projection}
use Rattle.meaning.specs.Reports.{IsLeast}
use Rattle.meaning.specs.Systems.{last_state, run_to}
use Rattle.annotated_model.specs.View.{system_view}
use Rattle.worlds.specs.Algebra.{has}
use Rattle.meaning.proofs.RunDistances.{both_true}
use Rattle.invariant_check.specs.Findings.{last_run}
use Rattle.invariant_check.specs.View.{run_view}
use Rattle.invariant_check.proofs.RunsThere.{back_there, lead_is, refuted_has_some, was_none}
use Rattle.invariant_check.proofs.running.sample.Goals as goal
use Rattle.invariant_check.proofs.running.sample.Goals.{After-deref}
use Rattle.invariant_check.proofs.running.sample.Given as given

-- what was written is the least world
written : (g : given.Over) (c : After-deref g) → c.in_ok-world.world.len ≡ length c.pick.new.out → c.deref.result.now ≡ c.pick.new.out
written g c long =
    c.deref.ensures.value
    ∙ ap (λ n. take n (c.pick.new.out ++ drop (length c.pick.new.out) c.in_ok-world.world.items)) long
    ∙ take-append_seam c.pick.new.out (drop (length c.pick.new.out) c.in_ok-world.world.items)

as_long : (g : given.Over) (c : After-deref g) → c.in_ok-world.world.len ≡ length c.pick.new.out
as_long g c = c.in_ok-world.ensures.len ∙ c.from.ensures ∙ c.count.ensures.count ∙ sym c.if-not-pick.ensures.found.of_line

least : (g : given.Over) (c : After-deref g) → IsLeast (g.W.Worlds.algebra c.args.w.now).count (has (g.W.Worlds.algebra c.args.w.now) c.args.refuted) c.deref.result.now
least g c =
    subst (IsLeast (g.W.Worlds.algebra c.args.w.now).count (has (g.W.Worlds.algebra c.args.w.now) c.args.refuted)) (sym (written g c (as_long g c))) c.if-not-pick.ensures.found

is_there : (g : given.Over) (c : After-deref g) → ((g.W.Worlds.algebra c.args.w.now).is_world c.deref.result.now ≡ true) × ((g.W.Worlds.algebra c.args.w.now).holds c.args.refuted c.deref.result.now ≡ true)
is_there g c =
    let a = g.W.Worlds.algebra c.args.w.now in
    both_true (a.is_world c.deref.result.now) (a.holds c.args.refuted c.deref.result.now) (least g c).inside_it

pub run_there-requires-clause-back : goal.run_there-requires-clause-back
run_there-requires-clause-back g c = λ state first.
    let a = g.W.Worlds.algebra c.args.w.now in
    let there = is_there g c in
    back_there a c.args._model.now (system_view c.args.system.now) c.args.parents.now c.deref.result.now c.requires.parents there.0 (c.requires.there c.deref.result.now there.0 there.1)

pub returns-in-Some-clause-sample : goal.returns-in-Some-clause-sample
returns-in-Some-clause-sample g c = λ p lead refuted.
    let a = g.W.Worlds.algebra c.args.w.now in
    let s = system_view c.args.system.now in
    let here = (goal.at.returns-in-Some-clause-sample g c).After-deref in
    let world = c.deref.result.now in
    let there = is_there g here in
    let labels = length c.args._model.now.labels in
    let same : world ≡ c.of.result = c.deref.ensures.value ∙ sym c.of.ensures in (
      subst (IsLeast a.count (has a c.args.refuted)) same (least g here),
      sym (ap (λ o. option_map run_view o) c.in-Some.is)
          ∙ c.in_ok-run.ensures
          ∙ ap (option_map (run_to (projection world s))) (lead_is a labels s p c.args.refuted c.args.targets.now world lead there.0 there.1)
          ∙ ap (λ x. last_run labels (projection x s) p) same,
    )

pub returns-in-None-clause-sample : goal.returns-in-None-clause-sample
returns-in-None-clause-sample g c = λ p lead refuted x w.
    let a = g.W.Worlds.algebra c.args.w.now in
    let s = system_view c.args.system.now in
    let here = (goal.at.returns-in-None-clause-sample g c).After-deref in
    let world = c.deref.result.now in
    let there = is_there g here in
    let labels = length c.args._model.now.labels in
    let none = sym (ap (λ o. option_map run_view o) c.in-None.is) ∙ c.in_ok-run.ensures ∙ ap (option_map (run_to (projection world s))) (lead_is a labels s p c.args.refuted c.args.targets.now world lead there.0 there.1) in
    absurd (refuted_has_some labels (projection world s) p (refuted world there.0 there.1) (was_none (run_to (projection world s)) (last_state labels (projection world s) p) none))
