use Rattle.std.proofs.Common.{◌≡◌, ◌∙◌, refl, ap, sym, subst, None, length, arith}
use Rattle.meaning.specs.Texts.{place_of}
use Rattle.meaning.specs.Features.{feature_names, is_or, is_alternative}
use Rattle.feature_model.specs.declared.line.Line.TheInside.{Inside}
use Rattle.feature_model.specs.Contents.{Contents}
use Rattle.feature_model.specs.Groups.{group_view}
use Rattle.feature_model.specs.Contents.{line_view, IsBelow}
use Rattle.feature_model.proofs.FeatureLists.{names_with, length_with}
use Rattle.feature_model.proofs.Lines.{lists_below, sound_with, features_more}
use Rattle.feature_model.proofs.line.Line.with_feature.Goals as goal

pub grow-requires-clause-few : goal.grow-requires-clause-few
grow-requires-clause-few c =
    let l = c.self.inside in
    omega (arith, length_with l.names l.placed.items c.self.invariant.all_placed, ap (λ s. length s.features) c.self.view_is)

pub grow-requires-clause-new : goal.grow-requires-clause-new
grow-requires-clause-new c =
    let l = c.self.inside in
    subst (λ names. place_of c.args.name.now names ≡ None)
    (ap (λ s. feature_names (line_view s)) (sym c.self.view_is) ∙ names_with l.names l.placed.items c.self.invariant.all_placed) c.requires.new

pub grow-requires-clause-ors : goal.grow-requires-clause-ors
grow-requires-clause-ors c =
    let l = c.self.inside in
    let many : length c.args.self.features ≡ length l.names = ap (λ s. length s.features) (sym c.self.view_is) ∙ length_with l.names l.placed.items c.self.invariant.all_placed in
    lists_below is_or l.names l.placed.items l.ors.items (is_or (group_view c.args.placed.group)) c.args.placed.parent c.self.invariant.all_placed c.self.invariant.ors
    (subst (λ n. IsBelow n c.args.placed.parent) many c.requires.earlier)

pub grow-requires-clause-alternatives : goal.grow-requires-clause-alternatives
grow-requires-clause-alternatives c =
    let l = c.self.inside in
    let many : length c.args.self.features ≡ length l.names = ap (λ s. length s.features) (sym c.self.view_is) ∙ length_with l.names l.placed.items c.self.invariant.all_placed in
    lists_below is_alternative l.names l.placed.items l.alternatives.items (is_alternative (group_view c.args.placed.group)) c.args.placed.parent
    c.self.invariant.all_placed c.self.invariant.alternatives (subst (λ n. IsBelow n c.args.placed.parent) many c.requires.earlier)

pub invariant_of-result : goal.invariant_of-result
invariant_of-result c =
    let l = c.self.inside in
    let m : Inside = record { names = c.grow.new.names; placed = c.grow.new.places; ors = c.grow.new.ors; alternatives = c.grow.new.alternatives; constraints = c.self.inside.constraints } in
    let many : length c.args.self.features ≡ length l.names = ap (λ s. length s.features) (sym c.self.view_is) ∙ length_with l.names l.placed.items c.self.invariant.all_placed in
    sound_with l m c.args.name.now c.args.placed c.self.invariant c.in_ok-grow.ensures.names c.in_ok-grow.ensures.places (omega (arith, many, c.requires.few))
    (subst (λ n. IsBelow n c.args.placed.parent) many c.requires.earlier)
    c.in_ok-grow.ensures.ors c.in_ok-grow.ensures.alternatives
    refl

pub returns : goal.returns
returns c =
    let l = c.self.inside in
    let m : Inside = record { names = c.grow.new.names; placed = c.grow.new.places; ors = c.grow.new.ors; alternatives = c.grow.new.alternatives; constraints = c.self.inside.constraints } in
    rw (← c.self.view_is) (ap (λ fs. let contents : Contents = record { features = fs; constraints = l.constraints.items } in contents) (features_more l m c.args.name.now c.args.placed c.self.invariant c.in_ok-grow.ensures.names c.in_ok-grow.ensures.places))
