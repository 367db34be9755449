use Rattle.std.proofs.Common.{◌+◌, ◌*◌, ◌≤◌, ◌++◌, length, subst}
use Rattle.std.specs.Prelude.{IfErr}
use Rattle.meaning.specs.Texts.{first_of_list}
use Rattle.meaning.specs.LineRules.{line_faults}
use Rattle.meaning.proofs.FirstIsLeast.{first_is_least}
use Rattle.meaning.proofs.RulesInOrder.{start, line_ascends}
use Rattle.feature_model.specs.Reading.{TellsFault, features_broken, rules_broken}
use Rattle.std.proofs.lemmas.Result.{IfOk-weaker}
use Rattle.meaning.specs.Features.{feature_names}
use Rattle.meaning.specs.Bounds.{line_asks}
use Rattle.doc_tree.specs.View.{document}
use Rattle.feature_model.specs.Contents.{line_view, constraints_size}
use Rattle.feature_model.proofs.LineSizes.{line_asks_enough}
use Rattle.feature_model.proofs.line.Line.read.Goals as goal

pub returns-clause-small : goal.returns-clause-small
returns-clause-small c =
    let d = document c.args.doc.now in
    IfOk-weaker c.read_table.result _ (λ line. 1 + 40 * length line.features + constraints_size line ≤ line_asks (feature_names (line_view line)) d)
    (λ line h. line_asks_enough line (document c.line_in.result.now) d c.line_in.ensures h) c.read_table.ensures.line

pub returns-clause-least : goal.returns-clause-least
unfolding line_faults
returns-clause-least c =
    let d = document c.args.doc.now in
    let told : IfErr c.read_table.result (λ stop. TellsFault stop (first_of_list (line_faults d))) =
    subst (λ t. IfErr c.read_table.result (λ stop. TellsFault stop (first_of_list (features_broken t ++ rules_broken t)))) c.line_in.ensures c.read_table.ensures.fault in
    subst (λ first. IfErr c.read_table.result (λ stop. TellsFault stop first)) (first_is_least (start 2) (start 4) (line_faults d) (line_ascends d)) told
