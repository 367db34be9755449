use Rattle.std.proofs.Common.{◌∙◌, ap, sym, subst, ◌≢◌, length, arith}
use Rattle.std.proofs.lemmas.List.{length-map}
use Rattle.meaning.specs.Texts.{place_of}
use Rattle.meaning.specs.Features.{Feature, feature_names}
use Rattle.meaning.specs.BundlePlaces.{name_in}
use Rattle.doc_tree.specs.View.{document}
use Rattle.feature_model.specs.Contents.{line_view, IsBelow}
use Rattle.feature_model.proofs.FeatureReading.{passes}
use Rattle.feature_model.proofs.features.with_read_feature.Goals as goal

pub with_feature-requires-clause-few : goal.with_feature-requires-clause-few
with_feature-requires-clause-few c =
    let d = document c.args.feature.now in
    let p = passes c.features.result.now c.args.no d c.in_ok-placed.ensures.no_fault in
    let w : c.args.no ≢ 256 = p.within in omega (arith, c.requires.number, c.requires.few)

pub with_feature-requires-clause-new : goal.with_feature-requires-clause-new
with_feature-requires-clause-new c =
    let d = document c.args.feature.now in
    let p = passes c.features.result.now c.args.no d c.in_ok-placed.ensures.no_fault in
    ap (λ s. place_of s (feature_names (line_view c.args.line))) c.text_at.ensures ∙ (ap (place_of (name_in d)) (sym c.features.ensures) ∙ p.new)

pub with_feature-requires-clause-earlier : goal.with_feature-requires-clause-earlier
with_feature-requires-clause-earlier c =
    subst (λ n. IsBelow n c.in_ok-placed.placed.parent) (ap length c.features.ensures ∙ length-map c.args.line.features (λ (f : Feature). f.name)) c.in_ok-placed.ensures.below
