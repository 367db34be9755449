use Rattle.std.proofs.Common.{ap, ◌∙◌, arith}
use Rattle.std.proofs.lemmas.Grind.{common_steps}
use Rattle.meaning.specs.BundlePlaces.{is_among}
use Rattle.annotated_model.proofs.Lists.{take_at, not_before}
use Rattle.annotated_model.proofs.types.copy_of.Goals as goal

pub add_new-requires-clause-new : goal.add_new-requires-clause-new
add_new-requires-clause-new c =
    ap (λ names. is_among names c.name.result.now) c.names.invariant
    ∙ not_before c.name.result.now c.args.names.now c.names.number c.name.ensures.place

pub names-preserved : goal.names-preserved
names-preserved c =
    let next = take_at c.args.names.now c.names.number c.name.result.now c.name.ensures.name in grind (arith, common_steps)
