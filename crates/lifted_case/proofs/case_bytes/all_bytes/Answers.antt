use Rattle.doc_tree.specs.View.{document}
use Rattle.lifted_case.proofs.Whole.{has_no_other-case, is_in_order-case, nesting-case, bytes-case, document_of-case}
use Rattle.lifted_case.proofs.case_bytes.all_bytes.Goals as goal

pub to_json-requires-clause-no_other : goal.to_json-requires-clause-no_other
to_json-requires-clause-no_other c = let made = c.in_ok-doc.ensures in has_no_other-case made.0 (document c.in_ok-doc.doc) made.2

pub to_json-requires-clause-in_order : goal.to_json-requires-clause-in_order
to_json-requires-clause-in_order c = let made = c.in_ok-doc.ensures in is_in_order-case made.0 (document c.in_ok-doc.doc) made.2

pub to_json-requires-clause-nests : goal.to_json-requires-clause-nests
to_json-requires-clause-nests c = let made = c.in_ok-doc.ensures in nesting-case made.0 (document c.in_ok-doc.doc) made.2

pub returns : goal.returns
returns c =
    let made = c.in_ok-doc.ensures in (
      made.0,
      made.1,
      bytes-case made.0 (document c.in_ok-doc.doc) made.2 c.in_ok-bytes.bytes.items c.push.new.self.items c.in_ok-bytes.ensures.text c.in_ok-push.ensures.items,
      document_of-case made.0 (document c.in_ok-doc.doc) made.2 c.in_ok-bytes.bytes.items c.push.new.self.items c.in_ok-bytes.ensures.reads_back_line c.in_ok-push.ensures.items,
    )
