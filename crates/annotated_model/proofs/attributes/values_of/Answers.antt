use Rattle.std.proofs.Common.{arith}
use Rattle.std.proofs.lemmas.Grind.{common_steps}
use Rattle.annotated_model.proofs.Lists.{take_at}
use Rattle.annotated_model.proofs.attributes.values_of.Goals as goal

pub attributes-preserved : goal.attributes-preserved
attributes-preserved c =
    let next = take_at c.args.attributes.now c.attributes.number c.name.result.now c.name.ensures.name in grind (arith, common_steps)
