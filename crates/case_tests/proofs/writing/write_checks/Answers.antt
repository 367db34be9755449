use Rattle.std.proofs.Common.{◌∙◌, length, sym, ap, subst}
use Rattle.std.specs.List.{All}
use Rattle.node_pool.specs.declared.node.NodeNo.{NodeNo}
use Rattle.conditions.specs.Diagrams.{IsLive}
use Rattle.lifted_case.specs.declared.lifted.Lifted.{Lifted}
use Rattle.lifted_case.specs.CaseContents.{BreaksNoRule, TextsAreJoined}
use Rattle.lifted_case.specs.CaseWritten.{conditions_in}
use Rattle.case_tests.proofs.CaseExamples.{all_checks-live, all_checks-texts, all_checks-rules}
use Rattle.case_tests.proofs.writing.write_checks.Goals as goal

pub write_case-requires-clause-features : goal.write_case-requires-clause-features
write_case-requires-clause-features c = c.requires.features ∙ sym (ap (λ (x : Lifted NodeNo). length x.features) c.in_ok-case.ensures)

pub write_case-requires-clause-live : goal.write_case-requires-clause-live
write_case-requires-clause-live c =
    let live = IsLive c.args.d.now.region c.args.d.now.valid in
    subst (λ (x : Lifted NodeNo). All live (conditions_in x)) (sym c.in_ok-case.ensures) (all_checks-live live c.args.valid c.args.other c.args.none c.requires.valid_live c.requires.other_live c.requires.none_live)

pub write_case-requires-clause-rules : goal.write_case-requires-clause-rules
write_case-requires-clause-rules c = subst (λ (x : Lifted NodeNo). BreaksNoRule x) (sym c.in_ok-case.ensures) (all_checks-rules c.args.valid c.args.other c.args.none)

pub write_case-requires-clause-texts : goal.write_case-requires-clause-texts
write_case-requires-clause-texts c = subst (λ (x : Lifted NodeNo). TextsAreJoined x) (sym c.in_ok-case.ensures) (all_checks-texts c.args.valid c.args.other c.args.none)
