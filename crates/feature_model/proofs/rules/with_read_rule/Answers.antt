use Rattle.std.proofs.Common.{◌≢◌, arith}
use Rattle.doc_tree.specs.View.{document}
use Rattle.feature_model.proofs.RuleReading.{rule_within}
use Rattle.feature_model.proofs.rules.with_read_rule.Goals as goal

pub with_constraint-requires-clause-few : goal.with_constraint-requires-clause-few
with_constraint-requires-clause-few c =
    let w : c.args.no ≢ 1024 = rule_within c.features.result.now c.args.no (document c.args.rule.now) c.in_ok-constraint.ensures.no_fault in
    omega (arith, c.requires.number, c.requires.few)
