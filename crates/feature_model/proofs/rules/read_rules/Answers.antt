use Rattle.std.proofs.Common.{◌≡◌, ◌≢◌, ◌∙◌, ap, sym, subst, ◌<◌, [], ◌∷◌, ◌++◌, take, map, length, get_or, arith}
use Rattle.std.proofs.lemmas.List.{length-map, length-take, get_or-map, take_more, map-append}
use Rattle.std.proofs.lemmas.Result.{err_from_is_err_and}
use Rattle.meaning.specs.Texts.{first_of_list}
use Rattle.meaning.specs.Features.{Feature, feature_names, constraint_of}
use Rattle.meaning.specs.BundlePlaces.{Rules, faults_at, faults_of_items}
use Rattle.meaning.specs.LineRules.{line_rule_rules}
use Rattle.cond_text.specs.View.{expression}
use Rattle.doc_tree.specs.View.{document, documents}
use Rattle.feature_model.specs.Contents.{line_view}
use Rattle.feature_model.proofs.ItemFaults.{item_fails, item_passes, told_further}
use Rattle.feature_model.proofs.RuleReading.{rule_within}
use Rattle.feature_model.proofs.rules.read_rules.Goals as goal

pub with_read_rule-requires-clause-number : goal.with_read_rule-requires-clause-number
with_read_rule-requires-clause-number c =
    let items = documents c.args.rules.now in
    let names = feature_names (line_view c.args.line) in
    let e = ap length c.rules.invariant.1 in
    omega (arith, e, length-map c.rules.line.constraints expression, length-map (take c.rules.no items) (constraint_of names), length-take c.rules.no items, length-map c.args.rules.now document)

pub returns-in_err-line-clause-fault : goal.returns-in_err-line-clause-fault
returns-in_err-line-clause-fault c =
    let docs = c.args.rules.now in
    let items = documents docs in
    let names = feature_names (line_view c.args.line) in
    let i = c.rules.no in
    let d = document c.index-rules-no.result in
    let within : i < length items = omega (arith, length-map docs document) in
    let is : d ≡ get_or items i d = ap document c.index-rules-no.is ∙ sym (get_or-map document docs i c.index-rules-no.result d (omega arith)) in
    let same : feature_names (line_view c.rules.line) ≡ names = ap (map (λ (f : Feature). f.name)) c.rules.invariant.0 in
    let p = err_from_is_err_and c.from_residual.result c.from_residual.ensures.1 in
    rw (p.1, p.2) (told_further c.in_err-line.field-0.0
    (first_of_list (faults_at Rules i 0 (line_rule_rules (feature_names (line_view c.rules.line)) (i, d))))
    (first_of_list (faults_of_items Rules (line_rule_rules names) items))
    (λ b e. item_fails (λ x. faults_at Rules x.0 0 (line_rule_rules names x)) items i d within is b c.rules.invariant.2
    (ap (λ ns. first_of_list (faults_at Rules i 0 (line_rule_rules ns (i, d)))) (sym same) ∙ e))
    c.in_err-line.ensures.fault)

pub rules-preserved : goal.rules-preserved
rules-preserved c =
    let docs = c.args.rules.now in
    let items = documents docs in
    let names = feature_names (line_view c.args.line) in
    let i = c.rules.no in
    let d = document c.index-rules-no.result in
    let within : i < length items = omega (arith, length-map docs document) in
    let is : d ≡ get_or items i d = ap document c.index-rules-no.is ∙ sym (get_or-map document docs i c.index-rules-no.result d (omega arith)) in
    let same : feature_names (line_view c.rules.line) ≡ names = ap (map (λ (f : Feature). f.name)) c.rules.invariant.0 in
    let none : line_rule_rules names (i, d) ≡ [] = subst (λ ns. line_rule_rules ns (i, d) ≡ []) same c.in_ok-line.ensures.no_fault in
    let w : i ≢ 1024 = rule_within names i d none in (
      c.in_ok-line.ensures.features ∙ c.rules.invariant.0,
      c.in_ok-line.ensures.added
          ∙ (ap (λ ns. map expression c.rules.line.constraints ++ constraint_of ns d ∷ []) same
          ∙ (ap (λ xs. xs ++ constraint_of names d ∷ []) c.rules.invariant.1
          ∙ (sym (map-append (constraint_of names) (take i items) (d ∷ []))
          ∙ ap (map (constraint_of names)) (sym (take_more items i d within ∙ ap (λ x. take i items ++ x ∷ []) (sym is)))))),
      item_passes (λ x. faults_at Rules x.0 0 (line_rule_rules names x)) items i d within is c.rules.invariant.2 (ap (faults_at Rules i 0) none),
      omega (arith, c.rules.invariant.3),
    )
