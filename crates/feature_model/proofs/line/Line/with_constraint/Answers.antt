use Rattle.std.proofs.Common.{◌≡◌, ◌∙◌, refl, ap, sym, length, arith}
use Rattle.feature_model.specs.declared.line.Line.TheInside.{Inside}
use Rattle.feature_model.proofs.FeatureLists.{length_with}
use Rattle.feature_model.proofs.Lines.{sound_constrained}
use Rattle.feature_model.proofs.line.Line.with_constraint.Goals as goal

pub invariant_of-line : goal.invariant_of-line
invariant_of-line c =
    let l = c.line.inside in
    let m : Inside = record { names = l.names; placed = l.placed; ors = l.ors; alternatives = l.alternatives; constraints = c.push.new.self } in
    let many : length c.args.self.features ≡ length l.names = ap (λ s. length s.features) (sym c.line.view_is) ∙ length_with l.names l.placed.items c.line.invariant.all_placed in
    let constraints : length c.args.self.constraints ≡ length l.constraints.items = ap (λ s. length s.constraints) (sym c.line.view_is) in
    sound_constrained l m c.args.constraint c.line.invariant refl refl refl refl c.in_ok-push.ensures.items (omega (arith, c.requires.few)) (omega (arith, c.requires.bound))
