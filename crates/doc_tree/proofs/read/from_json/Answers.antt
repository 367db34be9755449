use Rattle.std.proofs.Common.{ap, ◌∙◌, ◌≤◌, Some, sym, subst}
use Rattle.doc_tree.specs.Order.{is_in_order, nesting, most_nesting}
use Rattle.doc_tree.proofs.Ordered.{in_order-read, nesting-read}
use Rattle.doc_tree.proofs.Reading.{document_of-read, document_of-unread}
use Rattle.doc_tree.proofs.read.from_json.Goals as goal

pub returns-in-Ok-doc_from-clause-ok : goal.returns-in-Ok-doc_from-clause-ok
returns-in-Ok-doc_from-clause-ok c =
    document_of-read c.args.bytes.now _ c.in-Ok.ensures.ok.0 c.in-Ok.ensures.ok.1 ∙ ap Some (sym c.in-Ok-doc_from.ensures)

pub returns-in-Ok-doc_from-clause-in_order : goal.returns-in-Ok-doc_from-clause-in_order
returns-in-Ok-doc_from-clause-in_order c = ap is_in_order c.in-Ok-doc_from.ensures ∙ in_order-read c.args.bytes.now _ c.in-Ok.ensures.ok.1

pub returns-in-Ok-doc_from-clause-nests : goal.returns-in-Ok-doc_from-clause-nests
returns-in-Ok-doc_from-clause-nests c =
    subst (λ d. nesting d ≤ most_nesting) (sym c.in-Ok-doc_from.ensures) (nesting-read c.args.bytes.now _ c.in-Ok.ensures.ok.1)

pub returns-clause-not : goal.returns-clause-not
returns-clause-not c _ = document_of-unread c.args.bytes.now (c.in-Err.ensures.err (λ memory. c.in_default.not-Memory (c.classify.ensures.memory.1 memory)))
