use Rattle.std.proofs.Common.{◌≡◌, ◌∙◌, sym, ap, ◌+◌, length, map, Some, None}
use Rattle.std.specs.Prelude.{option_map}
use Rattle.meaning.specs.Texts.{place_of}
use Rattle.path_queries.proofs.NumberLaws.{variable_placed, place_first, place_later}
use Rattle.path_queries.proofs.parse_names.variable_number.Goals as goal

pub returns-in-Some : goal.returns-in-Some
returns-in-Some c =
    sym (place_first c.args.name.now c.args.scope.now c.args.new.now c.in-Some.place
    (sym (variable_placed c.args.name.now c.args.scope.now) ∙ (sym c.variable_place.ensures.place ∙ c.in-Some.is)))

pub returns-in-Some-variable_place : goal.returns-in-Some-variable_place
returns-in-Some-variable_place c =
    let none : place_of c.args.name.now (map (λ v. v.0) c.args.scope.now) ≡ None =
    sym (variable_placed c.args.name.now c.args.scope.now) ∙ (sym c.variable_place.ensures.place ∙ c.in-None.is) in
    sym (place_later c.args.name.now c.args.scope.now c.args.new.now none
    ∙ ap (option_map (λ n. length c.args.scope.now + n))
    (sym (variable_placed c.args.name.now c.args.new.now) ∙ (sym c.variable_place-in-None.ensures.place ∙ c.in-Some-variable_place.is)))

pub returns-in-None-variable_place : goal.returns-in-None-variable_place
returns-in-None-variable_place c =
    let none : place_of c.args.name.now (map (λ v. v.0) c.args.scope.now) ≡ None =
    sym (variable_placed c.args.name.now c.args.scope.now) ∙ (sym c.variable_place.ensures.place ∙ c.in-None.is) in
    sym (place_later c.args.name.now c.args.scope.now c.args.new.now none
    ∙ ap (option_map (λ n. length c.args.scope.now + n))
    (sym (variable_placed c.args.name.now c.args.new.now) ∙ (sym c.variable_place-in-None.ensures.place ∙ c.in-None-variable_place.is)))
