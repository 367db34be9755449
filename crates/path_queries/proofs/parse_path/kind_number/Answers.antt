use Rattle.std.proofs.Common.{◌∙◌, sym}
use Rattle.path_queries.proofs.NumberLaws.{kind_placed}
use Rattle.path_queries.proofs.parse_path.kind_number.Goals as goal

pub returns-in-Some : goal.returns-in-Some
returns-in-Some c =
    sym c.in-Some.is ∙ (c.kind_place.ensures.place ∙ kind_placed c.args.name.now c.kinds.result.now c.args.model.now.kinds c.kinds.ensures.kinds)

pub returns-in-None : goal.returns-in-None
returns-in-None c =
    sym c.in-None.is ∙ (c.kind_place.ensures.place ∙ kind_placed c.args.name.now c.kinds.result.now c.args.model.now.kinds c.kinds.ensures.kinds)
