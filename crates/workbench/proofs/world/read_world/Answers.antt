use Rattle.meaning.specs.Words.{form_named}
use Rattle.meaning.proofs.ConfiguredWorlds.{configured_world}
use Rattle.doc_tree.specs.View.{document}
use Rattle.workbench.proofs.Exits.{stops_with}
use Rattle.workbench.proofs.WorldReadings.{stops_table, stops_config, is_world}
use Rattle.workbench.proofs.world.read_world.Goals as goal

pub returns-in_err-table-clause-stopped : goal.returns-in_err-table-clause-stopped
returns-in_err-table-clause-stopped c =
    stops_with _ _ _ c.from_residual.ensures.1 (stops_table c.args.features.now c.args.name.now c.args.bytes.now _ c.in_err-table.ensures.stopped)

pub returns-in_err-world-clause-stopped : goal.returns-in_err-world-clause-stopped
returns-in_err-world-clause-stopped c =
    stops_with _ _ _ c.from_residual-in_err-world.ensures.1
    (stops_config c.args.features.now c.args.name.now c.args.bytes.now (document c.in_ok-table.table) c.in_ok-table.ensures.table _ c.in_err-world.ensures.stop)

pub returns-clause-world : goal.returns-clause-world
returns-clause-world c =
    is_world c.args.features.now c.args.name.now c.args.bytes.now (document c.in_ok-table.table) c.in_ok-table.ensures.table c.in_ok-world.world c.in_ok-world.ensures.ok

pub returns-clause-each_feature : goal.returns-clause-each_feature
returns-clause-each_feature c =
    configured_world c.args.features.now c.in_ok-world.world (form_named c.args.name.now) c.args.bytes.now
    (is_world c.args.features.now c.args.name.now c.args.bytes.now (document c.in_ok-table.table) c.in_ok-table.ensures.table c.in_ok-world.world c.in_ok-world.ensures.ok)
