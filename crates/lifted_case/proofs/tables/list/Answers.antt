use Rattle.std.proofs.Common.{refl}
use Rattle.lifted_case.proofs.Writing.{IsWritten-list}
use Rattle.lifted_case.proofs.tables.list.Goals as goal

pub returns : goal.returns
returns c = λ vs all. IsWritten-list _ c.of.result c.args.docs.items vs refl c.of.ensures all
