use Rattle.doc_tree.proofs.Levels.{document-array, document-object}
use Rattle.doc_tree.proofs.read.+reading.Goals as goal

pub doc_from-returns-in_ok-items_from-in-Array : goal.doc_from-returns-in_ok-items_from-in-Array
doc_from-returns-in_ok-items_from-in-Array t c =
    document-array _ _ _ c.in_ok-items_from-in-Array.field-0 c.in-Array.is c.as_slice.ensures.value c.in_ok-items_from-in-Array.ensures

pub doc_from-returns-in_ok-entries_from-in-Object : goal.doc_from-returns-in_ok-entries_from-in-Object
doc_from-returns-in_ok-entries_from-in-Object t c =
    document-object _ _ c.in_ok-entries_from-in-Object.field-0 c.in-Object.is c.in_ok-entries_from-in-Object.ensures
