use Rattle.doc_tree.proofs.Levels.{as_list-List}
use Rattle.doc_tree.proofs.doc.Doc.as_list.Goals as goal

pub returns-in-List : goal.returns-in-List
returns-in-List c = as_list-List _ _ _ c.in-List.is c.list.ensures
