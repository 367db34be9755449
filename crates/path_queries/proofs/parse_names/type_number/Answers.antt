use Rattle.std.proofs.Common.{◌∙◌, sym}
use Rattle.path_queries.proofs.NumberLaws.{type_placed}
use Rattle.path_queries.proofs.parse_names.type_number.Goals as goal

pub returns-in-Some : goal.returns-in-Some
returns-in-Some c =
    sym c.in-Some.is ∙ (c.type_place.ensures.place ∙ type_placed c.args.name.now c.types.result.now c.args.model.now.types c.types.ensures.types)

pub returns-in-None : goal.returns-in-None
returns-in-None c =
    sym c.in-None.is ∙ (c.type_place.ensures.place ∙ type_placed c.args.name.now c.types.result.now c.args.model.now.types c.types.ensures.types)
