use Rattle.std.proofs.Common.{◌∙◌, sym, ap}
use Rattle.std.specs.Prelude.{bytes_eq}
use Rattle.templates.proofs.PlaceWalk.{place_begins, place_here, place_later, place_nowhere}
use Rattle.templates.proofs.words.variable_number.Goals as goal

pub variables-init : goal.variables-init
variables-init c = place_begins (λ v. v.0) c.args.name.now c.args.scope.now

pub returns-then-eq : goal.returns-then-eq
returns-then-eq c =
    place_here (λ v. v.0) c.args.name.now c.args.scope.now c.variables.number c.index-scope-number.result c.variables-test.true c.index-scope-number.is
    (ap (bytes_eq c.args.name.now) (sym c.text.ensures) ∙ (sym c.eq.ensures ∙ c.if-eq.true)) c.variables.invariant

pub variables-preserved : goal.variables-preserved
variables-preserved c =
    place_later (λ v. v.0) c.args.name.now c.args.scope.now c.variables.number c.index-scope-number.result c.variables-test.true c.index-scope-number.is
    (ap (bytes_eq c.args.name.now) (sym c.text.ensures) ∙ (sym c.eq.ensures ∙ c.if-eq.false)) c.variables.invariant

pub returns : goal.returns
returns c = place_nowhere (λ v. v.0) c.args.name.now c.args.scope.now c.variables.number c.variables-test.false c.variables.invariant
