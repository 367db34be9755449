use Rattle.doc_tree.proofs.Levels.{entries-Table}
use Rattle.doc_tree.proofs.doc.Doc.entries.Goals as goal

pub returns-in-Table : goal.returns-in-Table
returns-in-Table c = entries-Table _ _ _ c.in-Table.is c.list.ensures
