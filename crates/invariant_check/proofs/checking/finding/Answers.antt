use Rattle.std.proofs.Common.{◌≡◌, refl, sym, ◌∙◌, subst, length}
use Rattle.std.proofs.lemmas.List.{length-map}
use Rattle.annotated_model.specs.View.{state_view, system_view}
use Rattle.invariant_check.specs.Searching.{TargetsLead}
use Rattle.invariant_check.proofs.FoundTargets.{targets_lead, is_refuted_there, found_is}
use Rattle.invariant_check.proofs.checking.finding.Goals as goal

pub returns-clause-found : goal.returns-clause-found
returns-clause-found g c = λ p under judged.
    let a = g.W.Worlds.algebra c.args.w.now in
    let m = c.args.model.now in
    let s = system_view c.args.system.now in
    let ends = c.args.ends.now in
    let targets = c.in_ok-targets.targets.items in
    let listed = c.in_ok-targets.ensures in
    let size : length ends ≡ length s.states = c.requires.size ∙ sym (length-map c.args.system.now.states state_view) in
    let lead = targets_lead a m s p under c.args.supported c.args.refuted ends judged size targets listed.targets in
    let refutes = is_refuted_there a m s p under c.args.supported c.args.refuted ends judged size targets listed.targets in
    let sample = c.in_ok-sample.ensures.sample p (subst (TargetsLead a (length m.labels) s p c.args.refuted) (sym c.deref.ensures.value) lead) refutes in
    found_is a m s p under c.args.supported c.args.refuted ends judged size targets listed.targets
    (record { supported = c.args.supported; refuted = c.args.refuted; targets = c.of.result; sample = c.in_ok-sample.sample }) refl refl c.of.ensures listed.listed sample
