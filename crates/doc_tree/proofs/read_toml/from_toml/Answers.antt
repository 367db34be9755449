use Rattle.std.proofs.Common.{ap, ◌∙◌, Some, sym, refl}
use Rattle.std.proofs.lemmas.Bool.{false≢true}
use Rattle.toml.specs.View.{table_view}
use Rattle.meaning.specs.Documents.{members_of_toml}
use Rattle.doc_tree.proofs.Levels.{document-Table-at}
use Rattle.doc_tree.proofs.Reading.{document_of-parsed, document_of-unparsed}
use Rattle.doc_tree.specs.Order.{is_in_order}
use Rattle.doc_tree.proofs.TomlOrder.{table_in_order}
use Rattle.doc_tree.proofs.read_toml.from_toml.Goals as goal

pub returns-in-Ok-entries_from-clause-ok : goal.returns-in-Ok-entries_from-clause-ok
returns-in-Ok-entries_from-clause-ok c =
    document_of-parsed c.args.bytes.now _ c.in-Ok.ensures.ok.0 c.in-Ok.ensures.ok.1
    ∙ ap Some (sym (document-Table-at _ c.in-Ok-entries_from.entries (members_of_toml (table_view c.in-Ok.table)) refl c.in-Ok-entries_from.ensures.same))

pub returns-clause-not : goal.returns-clause-not
returns-clause-not c _ = document_of-unparsed c.args.bytes.now
    (c.in-Err.ensures.refused (λ memory. false≢true (sym c.if-is_memory.false ∙ c.is_memory.ensures.1 memory)))

pub returns-in-Ok-entries_from-clause-in_order : goal.returns-in-Ok-entries_from-clause-in_order
returns-in-Ok-entries_from-clause-in_order c =
    ap is_in_order (document-Table-at _ c.in-Ok-entries_from.entries (members_of_toml (table_view c.in-Ok.table)) refl c.in-Ok-entries_from.ensures.same)
    ∙ table_in_order (table_view c.in-Ok.table) c.in-Ok-entries_from.ensures.sorted
