use Rattle.templates.proofs.UseLaws.{not_as_many}
use Rattle.templates.proofs.uses.arguments_fit.Goals as goal

pub returns-then-arguments-parameters : goal.returns-then-arguments-parameters
returns-then-arguments-parameters c = not_as_many c.args.model.now c.args.scope.now c.args.arguments.now c.args.parameters.now c.if-arguments-parameters.true
