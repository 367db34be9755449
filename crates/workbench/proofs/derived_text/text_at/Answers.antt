use Rattle.std.proofs.Common.{◌≡◌, sym, ap, ◌∙◌, ℕ, List}
use Rattle.std.proofs.lemmas.Result.{IfOk-weaker, IfErr-weaker}
use Rattle.meaning.specs.CaseReading.{Is, read_case}
use Rattle.meaning.specs.Configurations.{World}
use Rattle.meaning.specs.Answers.{Prints, of_derivation}
use Rattle.meaning.specs.Derivation.{derived_at}
use Rattle.lifted_case.specs.CaseView.{case_document_of_read}
use Rattle.workbench.specs.Run.{Refuses}
use Rattle.workbench.specs.Readings.{AnswersDerive}
use Rattle.workbench.proofs.Exits.{stops_with}
use Rattle.workbench.proofs.TextAnswers.{derive_stops, derive_answered, derive_refused}
use Rattle.workbench.proofs.derived_text.text_at.Goals as goal

pub returns-in_err-world-clause-refused : goal.returns-in_err-world-clause-refused
returns-in_err-world-clause-refused c =
    let k = case_document_of_read c.args.case.now in
    stops_with _ (λ s. (bytes : List ℕ) → read_case bytes ≡ Is k → Refuses (AnswersDerive bytes c.args.name.now c.args.chosen.now) s) _ c.from_residual.ensures.1
    (λ bytes is. derive_stops bytes c.args.name.now c.args.chosen.now k _ is c.in_err-world.ensures.stopped)

pub returns-clause-derived : goal.returns-clause-derived
returns-clause-derived c =
    let k = case_document_of_read c.args.case.now in
    let name = c.args.name.now in
    let chosen = c.args.chosen.now in
    IfOk-weaker c.derived_text.result (λ v. of_derivation (derived_at k c.list.result.now) ≡ Prints v.items)
    (λ v. (bytes : List ℕ) → read_case bytes ≡ Is k → AnswersDerive bytes name chosen (Prints v.items))
    (λ v h bytes is. derive_answered bytes name chosen k c.list.result.now (Prints v.items) is (c.in_ok-world.ensures.world ∙ ap World (sym c.list.ensures)) h)
    c.derived_text.ensures.derived

pub returns-clause-refused : goal.returns-clause-refused
returns-clause-refused c =
    let k = case_document_of_read c.args.case.now in
    let name = c.args.name.now in
    let chosen = c.args.chosen.now in
    IfErr-weaker c.derived_text.result (Refuses (λ a. of_derivation (derived_at k c.list.result.now) ≡ a))
    (λ s. (bytes : List ℕ) → read_case bytes ≡ Is k → Refuses (AnswersDerive bytes name chosen) s)
    (λ s h bytes is. derive_refused bytes name chosen k c.list.result.now s is (c.in_ok-world.ensures.world ∙ ap World (sym c.list.ensures)) h)
    c.derived_text.ensures.refused
