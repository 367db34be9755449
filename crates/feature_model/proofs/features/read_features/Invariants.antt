use Rattle.std.proofs.Common.{◌≡◌, ◌≤◌, [], take, map}
use Rattle.meaning.specs.Features.{feature_of}
use Rattle.meaning.specs.BundlePlaces.{Features, faults_of_items, name_in}
use Rattle.meaning.specs.LineRules.{feature_rules}
use Rattle.doc_tree.specs.View.{documents}
use Rattle.feature_model.proofs.features.read_features.Given as goal

abbrev pub invariant-features : goal.invariant-features
invariant-features l =
    (l.line.features ≡ map (feature_of (map name_in (documents l.features))) (take l.no (documents l.features)))
    × (l.line.constraints ≡ [])
    × (faults_of_items Features (feature_rules (map name_in (documents l.features))) (take l.no (documents l.features)) ≡ [])
    × (l.no ≤ 256)
