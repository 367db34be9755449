use Rattle.std.proofs.Common.{◌≡◌, ◌∙◌, refl, sym, subst, [], ◌++◌, true}
use Rattle.std.specs.Prelude.{codes}
use Rattle.std.proofs.lemmas.Result.{IfOk-weaker, IfErr-weaker}
use Rattle.meaning.specs.Texts.{first_of_list}
use Rattle.meaning.specs.Features.{feature_names, line_from}
use Rattle.meaning.specs.BundlePlaces.{Rules, may_have, is_list_value, faults_of_items}
use Rattle.meaning.specs.LineRules.{has_features, line_rule_rules}
use Rattle.doc_tree.specs.View.{document, documents}
use Rattle.feature_model.specs.Contents.{line_view}
use Rattle.feature_model.specs.Reading.{TellsFault, names_told, features_broken, rules_broken}
use Rattle.feature_model.proofs.LineReading.{both_ok, line_told, nothing_broken_in}
use Rattle.feature_model.proofs.read.read_table.Goals as goal

pub returns-clause-line : goal.returns-clause-line
returns-clause-line c =
    let t = document c.args.table.now in
    IfOk-weaker c.read_rules.result _ (λ read. line_view read ≡ line_from (names_told t) t)
    (λ read h. line_told t c.in_ok-line.line read (documents c.list_at.result.now) (documents c.list_at-2.result.now) c.list_at.ensures c.list_at-2.ensures c.in_ok-line.ensures.features h.0 h.1)
    (both_ok c.read_rules.result _ _ c.read_rules.ensures.features c.read_rules.ensures.constraints)

pub returns-clause-no_fault : goal.returns-clause-no_fault
returns-clause-no_fault c =
    let t = document c.args.table.now in
    let some : has_features t ≡ true = sym c.has_features.ensures ∙ c.if-not-has_features.false in
    let lists : may_have is_list_value (codes "rules") t ≡ true = sym c.may_have_list.ensures ∙ c.if-not-may_have_list.false in
    IfOk-weaker c.read_rules.result _ (λ read. features_broken t ++ rules_broken t ≡ [])
    (λ read h. nothing_broken_in t c.in_ok-line.line (documents c.list_at.result.now) (documents c.list_at-2.result.now) c.list_at.ensures c.list_at-2.ensures c.in_ok-line.ensures.features
    some lists c.in_ok-line.ensures.no_fault [] h)
    c.read_rules.ensures.no_fault

pub returns-clause-fault : goal.returns-clause-fault
returns-clause-fault c =
    let t = document c.args.table.now in
    let some : has_features t ≡ true = sym c.has_features.ensures ∙ c.if-not-has_features.false in
    let lists : may_have is_list_value (codes "rules") t ≡ true = sym c.may_have_list.ensures ∙ c.if-not-may_have_list.false in
    let faults = faults_of_items Rules (line_rule_rules (feature_names (line_view c.in_ok-line.line))) (documents c.list_at-2.result.now) in
    IfErr-weaker c.read_rules.result _ (λ stop. TellsFault stop (first_of_list (features_broken t ++ rules_broken t)))
    (λ stop h. subst (λ fs. TellsFault stop (first_of_list fs)) (sym (nothing_broken_in t c.in_ok-line.line (documents c.list_at.result.now) (documents c.list_at-2.result.now) c.list_at.ensures
    c.list_at-2.ensures c.in_ok-line.ensures.features some lists c.in_ok-line.ensures.no_fault faults refl)) h)
    c.read_rules.ensures.fault
