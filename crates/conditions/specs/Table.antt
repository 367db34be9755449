-- The fields of a table.
use Rattle.conditions.specs.declared.table.Table.TheInside.{Inside}
use Rattle.conditions.specs.Tables.{Contents, KeepsRules}

abbrev pub contents_of : Inside → Contents
contents_of t = record { features = t.features; rows = t.rows.items }

abbrev pub IsSound : Inside → Type 0
IsSound t = KeepsRules (contents_of t)
