use Rattle.conditions.specs.Tables.{nodes_of}
use Rattle.node_pool.specs.Nodes.{IsReduced}
use Rattle.conditions.proofs.TableRows.{variables_in}
use Rattle.conditions.proofs.reading.read_table.Goals as goal

pub narrow-requires : goal.narrow-requires
narrow-requires c k d k_in =
    let reduced : IsReduced c.args.features (nodes_of c.list.result.now) = rw (c.list.ensures, ← c.from.ensures) c.in_ok-lines.ensures.ok.reduced in
    variables_in c.args.features c.list.result.now reduced k d k_in
