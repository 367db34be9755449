use Rattle.std.proofs.Common.{◌≡◌, ◌∙◌, sym, subst, []}
use Rattle.std.proofs.lemmas.Result.{IfOk-weaker, IfErr-weaker}
use Rattle.meaning.specs.Texts.{first_of_list}
use Rattle.meaning.specs.BundlePlaces.{Rules, faults_at}
use Rattle.meaning.specs.LineRules.{line_rule_rules}
use Rattle.doc_tree.specs.View.{document}
use Rattle.feature_model.specs.Reading.{rule_form_at, TellsFault}
use Rattle.feature_model.proofs.ItemFaults.{first_at_place, nothing_broken}
use Rattle.feature_model.proofs.RuleReading.{form_first, one_rules, not_one, no_rules}
use Rattle.feature_model.proofs.rules.read_rule.Goals as goal

pub returns-in-Some-clause-fault : goal.returns-in-Some-clause-fault
returns-in-Some-clause-fault c =
    let names = c.args.names.now in
    let d = document c.args.rule.now in
    rw (c.fault.ensures) (first_at_place Rules c.args.no (line_rule_rules names (c.args.no, d)) c.in-Some.broken 0 (form_first names c.args.no d c.in-Some.broken c.in-Some.ensures))

pub returns-in_ok-implies-in-Some-Requires-clause-no_fault : goal.returns-in_ok-implies-in-Some-Requires-clause-no_fault
returns-in_ok-implies-in-Some-Requires-clause-no_fault c =
    let names = c.args.names.now in
    let d = document c.args.rule.now in
    let formed = nothing_broken (rule_form_at c.args.no d) c.in_default.ensures in
    let claim = rw c.in-Some-Requires.field-0-is at c.in-Some-Requires.ensures.claim in
    no_rules names c.args.no d formed (sym c.in-Some-Requires.ensures.is_one) claim.3

pub returns-in_ok-not-in-Some-Excludes-clause-no_fault : goal.returns-in_ok-not-in-Some-Excludes-clause-no_fault
returns-in_ok-not-in-Some-Excludes-clause-no_fault c =
    let names = c.args.names.now in
    let d = document c.args.rule.now in
    let formed = nothing_broken (rule_form_at c.args.no d) c.in_default.ensures in
    let claim = rw c.in-Some-Excludes.field-0-is at c.in-Some-Excludes.ensures.claim in
    no_rules names c.args.no d formed (sym c.in-Some-Excludes.ensures.is_one) claim.3

pub returns-in-Some-Holds-clause-no_fault : goal.returns-in-Some-Holds-clause-no_fault
returns-in-Some-Holds-clause-no_fault c =
    let names = c.args.names.now in
    let d = document c.args.rule.now in
    let formed = nothing_broken (rule_form_at c.args.no d) c.in_default.ensures in
    IfOk-weaker c.holds.result _ (λ e. line_rule_rules names (c.args.no, d) ≡ []) (λ e h. one_rules names c.args.no d formed (sym c.in-Some-Holds.ensures.is_one) ∙ h) c.holds.ensures.no_fault

pub returns-in-Some-Holds-clause-fault : goal.returns-in-Some-Holds-clause-fault
returns-in-Some-Holds-clause-fault c =
    let names = c.args.names.now in
    let d = document c.args.rule.now in
    let formed = nothing_broken (rule_form_at c.args.no d) c.in_default.ensures in
    let same = one_rules names c.args.no d formed (sym c.in-Some-Holds.ensures.is_one) in
    IfErr-weaker c.holds.result _ (λ stop. TellsFault stop (first_of_list (faults_at Rules c.args.no 0 (line_rule_rules names (c.args.no, d)))))
    (λ stop h. subst (λ rules. TellsFault stop (first_of_list (faults_at Rules c.args.no 0 rules))) (sym same) h) c.holds.ensures.fault

pub returns-in-None-clause-fault : goal.returns-in-None-clause-fault
returns-in-None-clause-fault c =
    let names = c.args.names.now in
    let d = document c.args.rule.now in
    let formed = nothing_broken (rule_form_at c.args.no d) c.in_default.ensures in
    rw (c.fault-in-None.ensures) (first_at_place Rules c.args.no (line_rule_rules names (c.args.no, d)) 10 0 (not_one names c.args.no d formed (sym c.in-None.ensures.is_one)))
