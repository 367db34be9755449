use Rattle.std.proofs.Common.{◌≡◌, ◌≢◌, ◌∙◌, refl, ap, sym, subst, ◌<◌, [], take, map, length, get_or, arith}
use Rattle.std.proofs.lemmas.List.{length-map, get_or-map}
use Rattle.std.proofs.lemmas.Result.{err_from_is_err_and}
use Rattle.meaning.specs.Texts.{first_of_list}
use Rattle.meaning.specs.Features.{Feature, feature_names, feature_of}
use Rattle.meaning.specs.BundlePlaces.{Features, faults_at, faults_of_items, name_in}
use Rattle.meaning.specs.LineRules.{feature_rules}
use Rattle.doc_tree.specs.View.{document, documents}
use Rattle.feature_model.specs.Contents.{line_view}
use Rattle.feature_model.specs.Reading.{rules_at}
use Rattle.feature_model.proofs.ItemFaults.{rules_before, item_fails, item_passes, told_further}
use Rattle.feature_model.proofs.FeatureReading.{passes, names_so_far, count_so_far, feature_read, features_next}
use Rattle.feature_model.proofs.features.read_features.Goals as goal

pub with_read_feature-requires-clause-number : goal.with_read_feature-requires-clause-number
with_read_feature-requires-clause-number c =
    let docs = c.args.features.now in
    let items = documents docs in
    count_so_far items c.features.no c.features.line.features c.features.invariant.0 (omega (arith, length-map docs document))

pub returns-in_err-line-clause-fault : goal.returns-in_err-line-clause-fault
returns-in_err-line-clause-fault c =
    let docs = c.args.features.now in
    let items = documents docs in
    let all = map name_in items in
    let i = c.features.no in
    let d = document c.index-features-no.result in
    let within : i < length items = omega (arith, length-map docs document) in
    let is : d ≡ get_or items i d = ap document c.index-features-no.is ∙ sym (get_or-map document docs i c.index-features-no.result d (omega arith)) in
    let line = c.features.line in
    let names : feature_names (line_view line) ≡ take i all = names_so_far items i line.features c.features.invariant.0 in
    let same : faults_at Features i 0 (rules_at (feature_names (line_view line)) i d) ≡ faults_at Features i 0 (feature_rules all (i, d)) =
    ap (faults_at Features i 0) (ap (λ ns. rules_at ns i d) names ∙ rules_before all i d) in
    let p = err_from_is_err_and c.from_residual.result c.from_residual.ensures.1 in
    rw (p.1, p.2) (told_further c.in_err-line.field-0.0
    (first_of_list (faults_at Features i 0 (rules_at (feature_names (line_view line)) i d)))
    (first_of_list (faults_of_items Features (feature_rules all) items))
    (λ b e. item_fails (λ x. faults_at Features x.0 0 (feature_rules all x)) items i d within is b c.features.invariant.2 (ap first_of_list (sym same) ∙ e))
    c.in_err-line.ensures.fault)

pub features-preserved : goal.features-preserved
features-preserved c =
    let docs = c.args.features.now in
    let items = documents docs in
    let all = map name_in items in
    let i = c.features.no in
    let d = document c.index-features-no.result in
    let within : i < length items = omega (arith, length-map docs document) in
    let is : d ≡ get_or items i d = ap document c.index-features-no.is ∙ sym (get_or-map document docs i c.index-features-no.result d (omega arith)) in
    let line = c.features.line in
    let names : feature_names (line_view line) ≡ take i all = names_so_far items i line.features c.features.invariant.0 in
    let none : rules_at (take i all) i d ≡ [] = subst (λ ns. rules_at ns i d ≡ []) names c.in_ok-line.ensures.no_fault in
    let f : Feature = feature_of (feature_names (line_view line)) d in
    let p = passes (take i all) i d none in
    let w : i ≢ 256 = p.within in (
      ap (λ l. l.features) c.in_ok-line.ensures.added
          ∙ features_next items i line.features d f within is c.features.invariant.0 (feature_read items i (feature_names (line_view line)) d f names c.in_ok-line.ensures.no_fault refl),
      ap (λ l. l.constraints) c.in_ok-line.ensures.added ∙ c.features.invariant.1,
      item_passes (λ x. faults_at Features x.0 0 (feature_rules all x)) items i d within is c.features.invariant.2 (ap (faults_at Features i 0) (sym (rules_before all i d) ∙ none)),
      omega (arith, c.features.invariant.3),
    )
