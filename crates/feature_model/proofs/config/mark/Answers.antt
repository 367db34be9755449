use Rattle.std.proofs.Common.{◌∙◌, sym, refl, ap, Some, arith}
use Rattle.std.proofs.lemmas.Option.{slice_get_within}
use Rattle.feature_model.proofs.Places.{place_is}
use Rattle.feature_model.proofs.config.mark.Goals as goal

pub bounds-world-no : goal.bounds-world-no
bounds-world-no c =
    let at = place_is c.args.features.now c.args.name.now c.in-Some.no (sym c.find.ensures ∙ c.in-Some.is) in
    let below = slice_get_within c.args.features.now c.in-Some.no c.args.name.now at in omega arith

pub bounds-world-no-in-Some : goal.bounds-world-no-in-Some
bounds-world-no-in-Some c =
    let at = place_is c.args.features.now c.args.name.now c.in-Some.no (sym c.find.ensures ∙ c.in-Some.is) in
    let below = slice_get_within c.args.features.now c.in-Some.no c.args.name.now at in omega arith

pub returns-then-world-no : goal.returns-then-world-no
returns-then-world-no c = (
  c.told_place-then-world-no.ensures,
  record { no = c.from-no.result; place = sym c.find.ensures ∙ c.in-Some.is ∙ ap Some (sym c.from-no.ensures); was = c.if-world-no.true },
)

pub returns-else-world-no : goal.returns-else-world-no
returns-else-world-no c =
    record { no = c.from-no.result; place = sym c.find.ensures ∙ c.in-Some.is ∙ ap Some (sym c.from-no.ensures); was = c.if-world-no.false; becomes = refl }
