use Rattle.std.proofs.Common.{arith}
use Rattle.std.proofs.lemmas.Grind.{common_steps}
use Rattle.annotated_model.proofs.Lists.{drop_at}
use Rattle.annotated_model.proofs.attributes.are_given.Goals as goal

pub returns-then-not-is_given : goal.returns-then-not-is_given
returns-then-not-is_given c =
    let next = drop_at c.args.attributes.now c.attributes.number c.name.result.now c.name.ensures.name in grind (arith, common_steps)

pub attributes-preserved : goal.attributes-preserved
attributes-preserved c =
    let next = drop_at c.args.attributes.now c.attributes.number c.name.result.now c.name.ensures.name in grind (arith, common_steps)
