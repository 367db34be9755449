use Rattle.std.proofs.Common.{refl}
use Rattle.lifted_case.proofs.Writing.{IsWritten-table}
use Rattle.lifted_case.proofs.tables.table.Goals as goal

pub returns : goal.returns
returns c = λ ms all. IsWritten-table _ c.of.result c.args.entries.items ms refl c.of.ensures all
