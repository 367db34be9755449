use Rattle.std.proofs.Common.{sym, ap, ◌∙◌}
use Rattle.std.specs.Prelude.{option_and_then}
use Rattle.meaning.specs.ExpressionFaults.{Syntax, UnknownName, Repeated, TooMany}
use Rattle.meaning.specs.QueryTexts.{query_of}
use Rattle.meaning.specs.QueryFaults.{query_fault}
use Rattle.path_queries.specs.View.{query}
use Rattle.path_queries.specs.Stops.{Tells}
use Rattle.doc_tree.specs.View.{document}
use Rattle.templates.proofs.QueryBounds.{few_variables}
use Rattle.templates.proofs.QueryPlaces.{fault_told}
use Rattle.templates.proofs.queries.read_member.Goals as goal

pub returns-in-Ok : goal.returns-in-Ok
returns-in-Ok c =
    let m = c.args.model.now in
    let scope = c.args.scope.now in
    record {
      none = sym (ap (option_and_then (query_fault m scope)) c.in-Some.ensures) ∙ c.in-Ok.ensures.no_fault;
      value = sym (ap (option_and_then (query_of m scope)) c.in-Some.ensures) ∙ c.in-Ok.ensures.query;
      few = few_variables m scope c.in-Some.text.now c.in-Ok.new (query c.in-Ok.query) c.in-Ok.ensures.no_fault c.in-Ok.ensures.query;
    }

pub returns-in-Err-Syntax : goal.returns-in-Err-Syntax
returns-in-Err-Syntax c =
    let t = rw c.in-Err-Syntax.field-0-is at c.in-Err-Syntax.ensures.fault in
    fault_told c.args.model.now c.args.scope.now c.args.name.now (document c.args.item.now) c.in-Some.text.now (sym c.in-Some.ensures) c.requires.fits (Syntax t.0) c.in-Err-Syntax.at t.1 t.2

pub returns-in-Err-UnknownName : goal.returns-in-Err-UnknownName
returns-in-Err-UnknownName c =
    let t = rw c.in-Err-UnknownName.field-0-is at c.in-Err-UnknownName.ensures.fault in
    fault_told c.args.model.now c.args.scope.now c.args.name.now (document c.args.item.now) c.in-Some.text.now (sym c.in-Some.ensures) c.requires.fits (UnknownName t.0) c.in-Err-UnknownName.at t.1 t.2

pub returns-in-Err-Repeated : goal.returns-in-Err-Repeated
returns-in-Err-Repeated c =
    let t = rw c.in-Err-Repeated.field-0-is at c.in-Err-Repeated.ensures.fault in
    fault_told c.args.model.now c.args.scope.now c.args.name.now (document c.args.item.now) c.in-Some.text.now (sym c.in-Some.ensures) c.requires.fits (Repeated t.0) c.in-Err-Repeated.at t.1 t.2

pub returns-in-Err-TooMany : goal.returns-in-Err-TooMany
returns-in-Err-TooMany c =
    let t = rw c.in-Err-TooMany.field-0-is at c.in-Err-TooMany.ensures.fault in
    fault_told c.args.model.now c.args.scope.now c.args.name.now (document c.args.item.now) c.in-Some.text.now (sym c.in-Some.ensures) c.requires.fits (TooMany t.0) c.in-Err-TooMany.at t.1 t.2
