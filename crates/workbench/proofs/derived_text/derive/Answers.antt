use Rattle.std.proofs.Common.{◌≡◌, ℕ, List}
use Rattle.std.proofs.lemmas.Result.{IfOk-weaker, IfErr-weaker}
use Rattle.meaning.specs.CaseReading.{Is, read_case}
use Rattle.meaning.specs.Answers.{Prints}
use Rattle.lifted_case.specs.CaseView.{case_document_of_read}
use Rattle.workbench.specs.Run.{Refuses}
use Rattle.workbench.specs.Readings.{AnswersDerive}
use Rattle.workbench.proofs.Exits.{stops_with}
use Rattle.workbench.proofs.TextAnswers.{case_refuses}
use Rattle.workbench.proofs.derived_text.derive.Goals as goal

pub returns-in_err-case-clause-refused : goal.returns-in_err-case-clause-refused
returns-in_err-case-clause-refused c =
    stops_with _ _ _ c.from_residual.ensures.1
    (case_refuses c.args.bytes.now c.args.name.now c.args.chosen.now c.read_case.result c.in_err-case.field-0.0 c.in_err-case.was c.read_case.ensures.fault)

pub returns-clause-derived : goal.returns-clause-derived
returns-clause-derived c =
    let k = case_document_of_read c.in_ok-case.case in
    IfOk-weaker c.text_at.result (λ v. (bytes : List ℕ) → read_case bytes ≡ Is k → AnswersDerive bytes c.args.name.now c.args.chosen.now (Prints v.items))
    (λ v. AnswersDerive c.args.bytes.now c.args.name.now c.args.chosen.now (Prints v.items)) (λ v h. h c.args.bytes.now c.in_ok-case.ensures.ok) c.text_at.ensures.derived

pub returns-clause-refused : goal.returns-clause-refused
returns-clause-refused c =
    let k = case_document_of_read c.in_ok-case.case in
    IfErr-weaker c.text_at.result (λ s. (bytes : List ℕ) → read_case bytes ≡ Is k → Refuses (AnswersDerive bytes c.args.name.now c.args.chosen.now) s)
    (Refuses (AnswersDerive c.args.bytes.now c.args.name.now c.args.chosen.now)) (λ s h. h c.args.bytes.now c.in_ok-case.ensures.ok) c.text_at.ensures.refused
