use Rattle.std.proofs.Common.{◌≡◌, [], ◌++◌, ap, sym, subst, ◌∙◌, rules}
use Rattle.std.specs.Prelude.{IfOk, IfErr}
use Rattle.meaning.specs.CaseReading.{word_faults}
use Rattle.doc_tree.specs.View.{document}
use Rattle.lifted_case.specs.ReadFaults.{Finds, faults_within_in, version_faults_in, text_faults_in, table_faults_in, id_faults_in, end_faults_in, system_faults_in, finding_faults_in, limit_faults_in}
use Rattle.lifted_case.proofs.FirstFault.{finds_front, finds_behind}
use Rattle.lifted_case.proofs.faults.check_within.Goals as goal

pub returns-in_err-check_version-clause-fault : goal.returns-in_err-check_version-clause-fault
returns-in_err-check_version-clause-fault c =
    let d = document c.args.doc.now in
    let s = c.in_err-check_version.field-0.0 in
    let told : Finds (faults_within_in d) s = (finds_front _ _ s (finds_front _ _ s (finds_front _ _ s (finds_front _ _ s (finds_front _ _ s (finds_front _ _ s (finds_front _ _ s (finds_front _ _ s c.in_err-check_version.ensures.fault)))))))) in
    search (rules, told)

pub returns-in_err-check_texts-clause-fault : goal.returns-in_err-check_texts-clause-fault
returns-in_err-check_texts-clause-fault c =
    let d = document c.args.doc.now in
    let s = c.in_err-check_texts.field-0.0 in
    let none-1 : version_faults_in d ≡ [] = c.in_ok-check_version.ensures.kept in
    let told : Finds (faults_within_in d) s = (finds_front _ _ s (finds_front _ _ s (finds_front _ _ s (finds_front _ _ s (finds_front _ _ s (finds_front _ _ s (finds_front _ _ s (finds_behind _ _ s none-1 c.in_err-check_texts.ensures.fault)))))))) in
    search (rules, told)

pub returns-in_err-check_table-clause-fault : goal.returns-in_err-check_table-clause-fault
returns-in_err-check_table-clause-fault c =
    let d = document c.args.doc.now in
    let s = c.in_err-check_table.field-0.0 in
    let none-1 : version_faults_in d ≡ [] = c.in_ok-check_version.ensures.kept in
    let none-2 = ap (λ fs. fs ++ text_faults_in d) none-1 ∙ c.in_ok-check_texts.ensures.kept in
    let told : Finds (faults_within_in d) s = (finds_front _ _ s (finds_front _ _ s (finds_front _ _ s (finds_front _ _ s (finds_front _ _ s (finds_front _ _ s (finds_behind _ _ s none-2 c.in_err-check_table.ensures.fault))))))) in
    search (rules, told)

pub returns-in_err-check_ids-clause-fault : goal.returns-in_err-check_ids-clause-fault
returns-in_err-check_ids-clause-fault c =
    let d = document c.args.doc.now in
    let s = c.in_err-check_ids.field-0.0 in
    let none-1 : version_faults_in d ≡ [] = c.in_ok-check_version.ensures.kept in
    let none-2 = ap (λ fs. fs ++ text_faults_in d) none-1 ∙ c.in_ok-check_texts.ensures.kept in
    let none-3 = ap (λ fs. fs ++ table_faults_in d) none-2 ∙ c.in_ok-check_table.ensures.kept in
    let told : Finds (faults_within_in d) s = (finds_front _ _ s (finds_front _ _ s (finds_front _ _ s (finds_front _ _ s (finds_front _ _ s (finds_behind _ _ s none-3 c.in_err-check_ids.ensures.fault)))))) in
    search (rules, told)

pub returns-in_err-check_words-clause-fault : goal.returns-in_err-check_words-clause-fault
returns-in_err-check_words-clause-fault c =
    let d = document c.args.doc.now in
    let s = c.in_err-check_words.field-0.0 in
    let none-1 : version_faults_in d ≡ [] = c.in_ok-check_version.ensures.kept in
    let none-2 = ap (λ fs. fs ++ text_faults_in d) none-1 ∙ c.in_ok-check_texts.ensures.kept in
    let none-3 = ap (λ fs. fs ++ table_faults_in d) none-2 ∙ c.in_ok-check_table.ensures.kept in
    let none-4 = ap (λ fs. fs ++ id_faults_in d) none-3 ∙ c.in_ok-check_ids.ensures.kept in
    let told : Finds (faults_within_in d) s = (finds_front _ _ s (finds_front _ _ s (finds_front _ _ s (finds_front _ _ s (finds_behind _ _ s none-4 c.in_err-check_words.ensures.fault))))) in
    search (rules, told)

pub returns-in_err-check_ends-clause-fault : goal.returns-in_err-check_ends-clause-fault
returns-in_err-check_ends-clause-fault c =
    let d = document c.args.doc.now in
    let s = c.in_err-check_ends.field-0.0 in
    let none-1 : version_faults_in d ≡ [] = c.in_ok-check_version.ensures.kept in
    let none-2 = ap (λ fs. fs ++ text_faults_in d) none-1 ∙ c.in_ok-check_texts.ensures.kept in
    let none-3 = ap (λ fs. fs ++ table_faults_in d) none-2 ∙ c.in_ok-check_table.ensures.kept in
    let none-4 = ap (λ fs. fs ++ id_faults_in d) none-3 ∙ c.in_ok-check_ids.ensures.kept in
    let none-5 = ap (λ fs. fs ++ word_faults d) none-4 ∙ c.in_ok-check_words.ensures.kept in
    let told : Finds (faults_within_in d) s = (finds_front _ _ s (finds_front _ _ s (finds_front _ _ s (finds_behind _ _ s none-5 c.in_err-check_ends.ensures.fault)))) in
    search (rules, told)

pub returns-in_err-check_systems-clause-fault : goal.returns-in_err-check_systems-clause-fault
returns-in_err-check_systems-clause-fault c =
    let d = document c.args.doc.now in
    let s = c.in_err-check_systems.field-0.0 in
    let none-1 : version_faults_in d ≡ [] = c.in_ok-check_version.ensures.kept in
    let none-2 = ap (λ fs. fs ++ text_faults_in d) none-1 ∙ c.in_ok-check_texts.ensures.kept in
    let none-3 = ap (λ fs. fs ++ table_faults_in d) none-2 ∙ c.in_ok-check_table.ensures.kept in
    let none-4 = ap (λ fs. fs ++ id_faults_in d) none-3 ∙ c.in_ok-check_ids.ensures.kept in
    let none-5 = ap (λ fs. fs ++ word_faults d) none-4 ∙ c.in_ok-check_words.ensures.kept in
    let none-6 = ap (λ fs. fs ++ end_faults_in d) none-5 ∙ c.in_ok-check_ends.ensures.kept in
    let told : Finds (faults_within_in d) s = (finds_front _ _ s (finds_front _ _ s (finds_behind _ _ s none-6 c.in_err-check_systems.ensures.fault))) in
    search (rules, told)

pub returns-in_err-check_findings-clause-fault : goal.returns-in_err-check_findings-clause-fault
returns-in_err-check_findings-clause-fault c =
    let d = document c.args.doc.now in
    let s = c.in_err-check_findings.field-0.0 in
    let none-1 : version_faults_in d ≡ [] = c.in_ok-check_version.ensures.kept in
    let none-2 = ap (λ fs. fs ++ text_faults_in d) none-1 ∙ c.in_ok-check_texts.ensures.kept in
    let none-3 = ap (λ fs. fs ++ table_faults_in d) none-2 ∙ c.in_ok-check_table.ensures.kept in
    let none-4 = ap (λ fs. fs ++ id_faults_in d) none-3 ∙ c.in_ok-check_ids.ensures.kept in
    let none-5 = ap (λ fs. fs ++ word_faults d) none-4 ∙ c.in_ok-check_words.ensures.kept in
    let none-6 = ap (λ fs. fs ++ end_faults_in d) none-5 ∙ c.in_ok-check_ends.ensures.kept in
    let none-7 = ap (λ fs. fs ++ system_faults_in d) none-6 ∙ c.in_ok-check_systems.ensures.kept in
    let told : Finds (faults_within_in d) s = (finds_front _ _ s (finds_behind _ _ s none-7 c.in_err-check_findings.ensures.fault)) in
    search (rules, told)

pub returns-clause-kept : goal.returns-clause-kept
returns-clause-kept c =
    let d = document c.args.doc.now in
    let none-1 : version_faults_in d ≡ [] = c.in_ok-check_version.ensures.kept in
    let none-2 = ap (λ fs. fs ++ text_faults_in d) none-1 ∙ c.in_ok-check_texts.ensures.kept in
    let none-3 = ap (λ fs. fs ++ table_faults_in d) none-2 ∙ c.in_ok-check_table.ensures.kept in
    let none-4 = ap (λ fs. fs ++ id_faults_in d) none-3 ∙ c.in_ok-check_ids.ensures.kept in
    let none-5 = ap (λ fs. fs ++ word_faults d) none-4 ∙ c.in_ok-check_words.ensures.kept in
    let none-6 = ap (λ fs. fs ++ end_faults_in d) none-5 ∙ c.in_ok-check_ends.ensures.kept in
    let none-7 = ap (λ fs. fs ++ system_faults_in d) none-6 ∙ c.in_ok-check_systems.ensures.kept in
    let none-8 = ap (λ fs. fs ++ finding_faults_in d) none-7 ∙ c.in_ok-check_findings.ensures.kept in
    subst (λ fs. IfOk c.check_limits.result (λ _. fs ≡ [])) (sym (ap (λ fs. fs ++ limit_faults_in d) none-8)) c.check_limits.ensures.kept

pub returns-clause-fault : goal.returns-clause-fault
returns-clause-fault c =
    let d = document c.args.doc.now in
    let none-1 : version_faults_in d ≡ [] = c.in_ok-check_version.ensures.kept in
    let none-2 = ap (λ fs. fs ++ text_faults_in d) none-1 ∙ c.in_ok-check_texts.ensures.kept in
    let none-3 = ap (λ fs. fs ++ table_faults_in d) none-2 ∙ c.in_ok-check_table.ensures.kept in
    let none-4 = ap (λ fs. fs ++ id_faults_in d) none-3 ∙ c.in_ok-check_ids.ensures.kept in
    let none-5 = ap (λ fs. fs ++ word_faults d) none-4 ∙ c.in_ok-check_words.ensures.kept in
    let none-6 = ap (λ fs. fs ++ end_faults_in d) none-5 ∙ c.in_ok-check_ends.ensures.kept in
    let none-7 = ap (λ fs. fs ++ system_faults_in d) none-6 ∙ c.in_ok-check_systems.ensures.kept in
    let none-8 = ap (λ fs. fs ++ finding_faults_in d) none-7 ∙ c.in_ok-check_findings.ensures.kept in
    subst (λ fs. IfErr c.check_limits.result (Finds fs)) (sym (ap (λ fs. fs ++ limit_faults_in d) none-8)) c.check_limits.ensures.fault
