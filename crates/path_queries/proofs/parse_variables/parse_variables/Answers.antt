use Rattle.std.proofs.Common.{◌≡◌, ◌∙◌, sym, subst, ap, [], ◌∷◌, ◌++◌, ◌+◌}
use Rattle.path_queries.specs.VariableReading.{ReadsVariable, VariableStops, VariablesStop}
use Rattle.path_queries.proofs.Exits.{stops_with}
use Rattle.path_queries.proofs.VariableLists.{Variables, first_variable, variables_go_on, variables_end, first_variable_stops, next_variable_stops}
use Rattle.path_queries.proofs.parse_variables.parse_variables.Goals as goal

pub commas-init : goal.commas-init
commas-init c =
    rw (c.in_ok-push.ensures.items, c.new-new.ensures.items)
    (first_variable c.args.model.now c.args.scope.now c.args.tokens.now c.in_ok-first.first
    (subst (λ new. ReadsVariable c.args.model.now c.args.scope.now new c.args.tokens.now 0 c.in_ok-first.first) (c.deref.ensures.value ∙ c.new-new.ensures.items) c.in_ok-first.ensures.reads))

pub commas-preserved : goal.commas-preserved
commas-preserved c =
    subst (Variables c.args.model.now c.args.scope.now c.args.tokens.now (c.commas.next + 4)) (sym c.in_ok-push-2.ensures.items)
    (variables_go_on c.args.model.now c.args.scope.now c.args.tokens.now c.commas.next c.commas.new.items c.in_ok-variable.variable c.commas.invariant
    (sym c.sign_at.ensures ∙ c.in-Comma.is)
    (subst (λ new. ReadsVariable c.args.model.now c.args.scope.now new c.args.tokens.now (c.commas.next + 1) c.in_ok-variable.variable) c.deref-in-Comma.ensures.value
    c.in_ok-variable.ensures.reads))

pub returns-clause-reads : goal.returns-clause-reads
returns-clause-reads c =
    variables_end c.args.model.now c.args.scope.now c.args.tokens.now c.commas.next c.commas.new.items c.commas.invariant (λ e. c.in_default.not-Comma (c.sign_at.ensures ∙ e))

pub returns-in_err-first-clause-stop : goal.returns-in_err-first-clause-stop
returns-in_err-first-clause-stop c =
    let stop = c.in_err-first.field-0.0 in
    stops_with c.from_residual.result (VariablesStop c.args.model.now c.args.scope.now c.args.tokens.now) stop c.from_residual.ensures.1
    (first_variable_stops c.args.model.now c.args.scope.now c.args.tokens.now stop
    (subst (λ new. VariableStops c.args.model.now c.args.scope.now new c.args.tokens.now 0 stop) (c.deref.ensures.value ∙ c.new-new.ensures.items) c.in_err-first.ensures.stop))

pub returns-in_err-variable-clause-stop : goal.returns-in_err-variable-clause-stop
returns-in_err-variable-clause-stop c =
    let stop = c.in_err-variable.field-0.0 in
    stops_with c.from_residual-in_err-variable.result (VariablesStop c.args.model.now c.args.scope.now c.args.tokens.now) stop c.from_residual-in_err-variable.ensures.1
    (next_variable_stops c.args.model.now c.args.scope.now c.args.tokens.now c.commas.next c.commas.new.items stop c.commas.invariant (sym c.sign_at.ensures ∙ c.in-Comma.is)
    (subst (λ new. VariableStops c.args.model.now c.args.scope.now new c.args.tokens.now (c.commas.next + 1) stop) c.deref-in-Comma.ensures.value c.in_err-variable.ensures.stop))
