use Rattle.std.proofs.Common.{◌≡◌, ◌∙◌, map, subst}
use Rattle.conditions.specs.Tables.{IsExported, case_rows}
use Rattle.lifted_case.specs.CaseWritten.{id_in, conditions_in, document_with}
use Rattle.lifted_case.proofs.CaseWritten.{IsWrittenFrom-exported}
use Rattle.lifted_case.proofs.case_bytes.written_doc.Goals as goal

pub returns : goal.returns
returns c =
    let case = c.args.case.now in
    let r = c.args.d.now.region in
    let t = c.in_ok-table.table in
    let id = id_in c.in_ok-table.ids in
    let roots : c.as_slice.result.now ≡ conditions_in case = c.as_slice.ensures.value ∙ c.in_ok-roots.ensures in
    let exported : IsExported r (conditions_in case) t (map id (conditions_in case)) = subst (λ cs. IsExported r cs t (map id cs)) roots c.in_ok-table.ensures in
    (document_with id (case_rows t.rows) case, IsWrittenFrom-exported r case t id exported c.requires.features c.requires.texts, c.in_ok-doc.ensures)
