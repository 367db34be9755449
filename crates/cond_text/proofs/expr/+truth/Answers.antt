use Rattle.std.proofs.Common.{rules}
use Rattle.cond_text.proofs.Values.{value_at_place}
use Rattle.cond_text.proofs.expr.+truth.Goals as goal

-- the value of a name
pub returns-in-Name : goal.returns-in-Name
returns-in-Name t c = search (value_at_place c.args.world.now c.in-Name.no, rules)
