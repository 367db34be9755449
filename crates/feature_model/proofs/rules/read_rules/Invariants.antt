use Rattle.std.proofs.Common.{◌≡◌, ◌≤◌, [], take, map}
use Rattle.meaning.specs.Features.{feature_names, constraint_of}
use Rattle.meaning.specs.BundlePlaces.{Rules, faults_of_items}
use Rattle.meaning.specs.LineRules.{line_rule_rules}
use Rattle.cond_text.specs.View.{expression}
use Rattle.doc_tree.specs.View.{documents}
use Rattle.feature_model.specs.Contents.{line_view}
use Rattle.feature_model.proofs.rules.read_rules.Given as goal

abbrev pub invariant-rules : goal.invariant-rules
invariant-rules l =
    (l.line.features ≡ l.fn.line.features)
    × (map expression l.line.constraints ≡ map (constraint_of (feature_names (line_view l.fn.line))) (take l.no (documents l.rules)))
    × (faults_of_items Rules (line_rule_rules (feature_names (line_view l.fn.line))) (take l.no (documents l.rules)) ≡ [])
    × (l.no ≤ 1024)
