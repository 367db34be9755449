use Rattle.std.proofs.Common.{◌∙◌, sym, ap, map}
use Rattle.std.specs.Prelude.{bytes_eq}
use Rattle.meaning.specs.Texts.{place_of}
use Rattle.templates.proofs.PlaceWalk.{place_begins, place_here, place_later, place_nowhere, names_of_types}
use Rattle.templates.proofs.words.type_number.Goals as goal

pub all-init : goal.all-init
all-init c = place_begins (λ t. t.name) c.args.name.now c.types-types.result.now

pub returns-then-eq : goal.returns-then-eq
returns-then-eq c =
    let ts = c.types-types.result.now in
    place_here (λ t. t.name) c.args.name.now ts c.all.number c.index-types-number.result c.all-test.true c.index-types-number.is
    (ap (bytes_eq c.args.name.now) (sym c.text.ensures) ∙ (sym c.eq.ensures ∙ c.if-eq.true)) c.all.invariant
    ∙ (ap (place_of c.args.name.now) (names_of_types ts) ∙ ap (λ ds. place_of c.args.name.now (map (λ d. d.name) ds)) c.types-types.ensures.types)

pub all-preserved : goal.all-preserved
all-preserved c =
    place_later (λ t. t.name) c.args.name.now c.types-types.result.now c.all.number c.index-types-number.result c.all-test.true c.index-types-number.is
    (ap (bytes_eq c.args.name.now) (sym c.text.ensures) ∙ (sym c.eq.ensures ∙ c.if-eq.false)) c.all.invariant

pub returns : goal.returns
returns c =
    let ts = c.types-types.result.now in
    place_nowhere (λ t. t.name) c.args.name.now ts c.all.number c.all-test.false c.all.invariant
    ∙ (ap (place_of c.args.name.now) (names_of_types ts) ∙ ap (λ ds. place_of c.args.name.now (map (λ d. d.name) ds)) c.types-types.ensures.types)
