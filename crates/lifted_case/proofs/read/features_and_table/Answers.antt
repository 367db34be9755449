use Rattle.std.proofs.Common.{[], length, ap, ◌∙◌, arith}
use Rattle.std.specs.Prelude.{codes}
use Rattle.std.proofs.lemmas.List.{length-map}
use Rattle.meaning.specs.Documents.{texts_in, list_at}
use Rattle.conditions.specs.TableRows.{bad_rows}
use Rattle.doc_tree.specs.View.{document}
use Rattle.lifted_case.specs.ReadFaults.{first_bad_after}
use Rattle.lifted_case.proofs.CasesRead.{few_features, names_are_new, has_table, rows_fit, texts_count}
use Rattle.lifted_case.proofs.read.features_and_table.Goals as goal

pub names-requires-clause-few : goal.names-requires-clause-few
names-requires-clause-few c =
    let size = ap length c.list_at.ensures in
    omega (arith, few_features (document c.args.doc.now) c.requires, size, length-map c.list_at.result.now document)

pub names-requires-clause-new : goal.names-requires-clause-new
names-requires-clause-new c =
    ap (λ ds. first_bad_after [] 0 (texts_in ds)) c.list_at.ensures ∙ names_are_new (document c.args.doc.now) c.requires

pub table-requires-clause-there : goal.table-requires-clause-there
table-requires-clause-there c = has_table (document c.args.doc.now) c.requires

pub table-requires-clause-faultless : goal.table-requires-clause-faultless
table-requires-clause-faultless c =
    let d = document c.args.doc.now in
    ap (λ n. bad_rows n (list_at (codes "table") d))
    (c.count.ensures.count ∙ (ap length (c.in_ok-features.ensures ∙ ap texts_in c.list_at.ensures) ∙ texts_count (list_at (codes "features") d)))
    ∙ rows_fit d c.requires

pub returns-clause-features : goal.returns-clause-features
returns-clause-features c = c.in_ok-features.ensures ∙ ap texts_in c.list_at.ensures

pub returns-clause-over : goal.returns-clause-over
returns-clause-over c = c.in_ok-table.ensures.features ∙ c.count.ensures.count
