use Rattle.std.proofs.Common.{sym}
use Rattle.doc_tree.specs.View.{document}
use Rattle.feature_model.proofs.HeldExpressions.{unknown_name, syntax_fault, too_many}
use Rattle.feature_model.proofs.rules.holds.Goals as goal

pub returns-in-Err-UnknownName-clause-fault : goal.returns-in-Err-UnknownName-clause-fault
returns-in-Err-UnknownName-clause-fault c =
    let names = c.args.names.now in
    let text = c.in-Some.text.now in
    rw (c.fault.ensures) (unknown_name names (document c.args.rule.now) text c.args.no (sym c.in-Some.ensures) c.requires.within c.in-Err-UnknownName.at
    (rw c.in-Err-UnknownName.field-0-is at c.in-Err-UnknownName.ensures.fault))

pub returns-in-Err-Syntax-clause-fault : goal.returns-in-Err-Syntax-clause-fault
returns-in-Err-Syntax-clause-fault c =
    let names = c.args.names.now in
    let text = c.in-Some.text.now in
    rw (c.fault-in-Err-Syntax.ensures) (syntax_fault names (document c.args.rule.now) text c.args.no (sym c.in-Some.ensures) c.requires.within c.in-Err-Syntax.at
    (rw c.in-Err-Syntax.field-0-is at c.in-Err-Syntax.ensures.fault))

pub returns-in-Err-TooMany-clause-fault : goal.returns-in-Err-TooMany-clause-fault
returns-in-Err-TooMany-clause-fault c =
    let names = c.args.names.now in
    let text = c.in-Some.text.now in
    rw (c.fault-in-Err-TooMany.ensures) (too_many names (document c.args.rule.now) text c.args.no (sym c.in-Some.ensures) c.requires.within c.in-Err-TooMany.at
    (rw c.in-Err-TooMany.field-0-is at c.in-Err-TooMany.ensures.fault))
