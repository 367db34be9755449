use Rattle.std.proofs.Common.{◌≡◌, ◌∙◌, sym, ap, subst, ◌+◌, ◌++◌, length}
use Rattle.std.specs.Prelude.{option_map}
use Rattle.meaning.specs.QueryTexts.{variable_number}
use Rattle.path_queries.specs.Tokens.{rest_at}
use Rattle.path_queries.specs.Stops.{place_told}
use Rattle.path_queries.specs.VariableReading.{ReadsVariable, VariableStops}
use Rattle.path_queries.proofs.Exits.{stops_with}
use Rattle.path_queries.proofs.VariableLaws.{variable_reads, type_stops, new_stops, undeclared_stops}
use Rattle.path_queries.proofs.parse_variables.parse_variable.Goals as goal

pub returns-in-Some-new_fault-clause-stop : goal.returns-in-Some-new_fault-clause-stop
returns-in-Some-new_fault-clause-stop c =
    new_stops c.args.model.now c.args.scope.now c.args.new.now c.args.tokens.now c.args.at c.in-Some.name.now c.in-Some-new_fault.stop
    (sym c.declared_at.ensures ∙ ap (option_map (λ w. w.now)) c.in-Some.is) (sym c.new_fault.ensures ∙ c.in-Some-new_fault.is)

pub returns-in_err-of_type-in-None-new_fault-clause-stop : goal.returns-in_err-of_type-in-None-new_fault-clause-stop
returns-in_err-of_type-in-None-new_fault-clause-stop c =
    let stop = c.in_err-of_type-in-None-new_fault.field-0.0 in
    stops_with c.from_residual.result (VariableStops c.args.model.now c.args.scope.now c.args.new.now c.args.tokens.now c.args.at) stop c.from_residual.ensures.1
    (type_stops c.args.model.now c.args.scope.now c.args.new.now c.args.tokens.now c.args.at c.in-Some.name.now (place_told c.args.tokens.now.end (rest_at c.args.tokens.now c.args.at)) stop
    (sym c.declared_at.ensures ∙ ap (option_map (λ w. w.now)) c.in-Some.is) (sym c.new_fault.ensures ∙ c.in-None-new_fault.is) c.in_err-of_type-in-None-new_fault.ensures.none c.in_err-of_type-in-None-new_fault.ensures.stop)

pub returns-in_ok-of-in-None-new_fault-clause-reads : goal.returns-in_ok-of-in-None-new_fault-clause-reads
returns-in_ok-of-in-None-new_fault-clause-reads c =
    rw (c.in_ok-of-in-None-new_fault.ensures)
    (variable_reads c.args.model.now c.args.scope.now c.args.new.now c.args.tokens.now c.args.at c.in-Some.name.now (place_told c.args.tokens.now.end (rest_at c.args.tokens.now c.args.at))
    c.in_ok-of_type-in-None-new_fault.of_type (sym c.declared_at.ensures ∙ ap (option_map (λ w. w.now)) c.in-Some.is) (sym c.new_fault.ensures ∙ c.in-None-new_fault.is) c.in_ok-of_type-in-None-new_fault.ensures.number)

pub returns-in-None-clause-stop : goal.returns-in-None-clause-stop
returns-in-None-clause-stop c =
    undeclared_stops c.args.model.now c.args.scope.now c.args.new.now c.args.tokens.now c.args.at c.undeclared_at.result c.requires.short
    (sym c.declared_at.ensures ∙ ap (option_map (λ w. w.now)) c.in-None.is) c.undeclared_at.ensures
