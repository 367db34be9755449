use Rattle.std.proofs.Common.{sym, subst}
use Rattle.std.specs.Prelude.{codes}
use Rattle.doc_tree.specs.View.{document}
use Rattle.annotated_model.proofs.ConditionStops.{syntax_told, too_many_told, unknown_told}
use Rattle.templates.specs.Faults.{IsFirst, faults_here}
use Rattle.templates.proofs.checks.read_expression.Goals as goal

pub returns-in-Err-Syntax-clause-fault : goal.returns-in-Err-Syntax-clause-fault
returns-in-Err-Syntax-clause-fault c =
    let told = rw c.in-Err-Syntax.field-0-is at c.in-Err-Syntax.ensures.fault in
    subst (λ broken. IsFirst (faults_here c.args.place broken) c.broken_at.result)
    (sym (syntax_told c.args.labels.now (codes "never") (document c.args.check.now) c.in-Some.text.now (sym c.in-Some.ensures) c.requires c.in-Err-Syntax.at told))
    c.broken_at.ensures

pub returns-in-Err-TooMany-clause-fault : goal.returns-in-Err-TooMany-clause-fault
returns-in-Err-TooMany-clause-fault c =
    let told = rw c.in-Err-TooMany.field-0-is at c.in-Err-TooMany.ensures.fault in
    subst (λ broken. IsFirst (faults_here c.args.place broken) c.broken_at-in-Err-TooMany.result)
    (sym (too_many_told c.args.labels.now (codes "never") (document c.args.check.now) c.in-Some.text.now (sym c.in-Some.ensures) c.requires c.in-Err-TooMany.at told))
    c.broken_at-in-Err-TooMany.ensures

pub returns-in-Err-UnknownName-clause-fault : goal.returns-in-Err-UnknownName-clause-fault
returns-in-Err-UnknownName-clause-fault c =
    let told = rw c.in-Err-UnknownName.field-0-is at c.in-Err-UnknownName.ensures.fault in
    subst (λ broken. IsFirst (faults_here c.args.place broken) c.broken_at-in-Err-UnknownName.result)
    (sym (unknown_told c.args.labels.now (codes "never") (document c.args.check.now) c.in-Some.text.now (sym c.in-Some.ensures) c.requires c.in-Err-UnknownName.at told))
    c.broken_at-in-Err-UnknownName.ensures
