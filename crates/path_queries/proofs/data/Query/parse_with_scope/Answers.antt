use Rattle.std.proofs.Common.{◌≡◌, ◌≤◌, ◌∙◌, sym, subst, ap, ◌++◌, map, length, arith}
use Rattle.meaning.specs.Models.{Model}
use Rattle.meaning.specs.QueryFaults.{query_fault}
use Rattle.annotated_model.specs.ModelFacts.{KeepsRules}
use Rattle.path_queries.specs.View.{constraint}
use Rattle.path_queries.specs.Stops.{Tells}
use Rattle.path_queries.specs.VariableReading.{ReadsConditions, ConditionsStop}
use Rattle.path_queries.proofs.Exits.{stops_with}
use Rattle.path_queries.proofs.QueryLaws.{query_is_read, new_part_stops, conditions_stop}
use Rattle.path_queries.proofs.data.Query.parse_with_scope.Goals as goal

few_types : (m : Model) → KeepsRules m → length m.types ≤ 65536
few_types m h = omega (arith, h.few_types)

few_kinds : (m : Model) → KeepsRules m → length m.kinds ≤ 65536
few_kinds m h = omega (arith, h.few_kinds)

pub parse_new-requires-clause-types : goal.parse_new-requires-clause-types
parse_new-requires-clause-types c = few_types c.args.model.now c.types-types.ensures.rules

pub parse_conditions-requires-clause-kinds : goal.parse_conditions-requires-clause-kinds
parse_conditions-requires-clause-kinds c = few_kinds c.args.model.now c.types-types.ensures.rules

pub returns-in_err-new-clause-fault : goal.returns-in_err-new-clause-fault
returns-in_err-new-clause-fault c =
    let fault = query_fault c.args.model.now c.args.scope.now c.args.text.now in
    stops_with c.from_residual-in_err-new.result (λ stop. Tells stop fault) c.in_err-new.field-0.0 c.from_residual-in_err-new.ensures.1
    (new_part_stops c.args.model.now c.args.scope.now c.in_ok-tokens.tokens c.args.text.now c.in_ok-tokens.ensures.list c.in_ok-tokens.ensures.end c.in_err-new.field-0.0
    c.in_err-new.ensures.stop)

pub returns-in_err-constraints-clause-fault : goal.returns-in_err-constraints-clause-fault
returns-in_err-constraints-clause-fault c =
    let fault = query_fault c.args.model.now c.args.scope.now c.args.text.now in
    let stop = c.in_err-constraints.field-0.0 in
    stops_with c.from_residual-in_err-constraints.result (λ stop. Tells stop fault) stop c.from_residual-in_err-constraints.ensures.1
    (conditions_stop c.args.model.now c.args.scope.now c.in_ok-tokens.tokens c.args.text.now c.in_ok-tokens.ensures.list c.in_ok-tokens.ensures.end c.in_ok-new.next
    c.in_ok-new.new.items stop c.in_ok-new.ensures.reads
    (subst (λ new. ConditionsStop c.args.model.now (c.args.scope.now ++ new) c.in_ok-tokens.tokens c.in_ok-new.next stop) c.deref.ensures.value c.in_err-constraints.ensures.stop))

pub returns-clause-no_fault : goal.returns-clause-no_fault
returns-clause-no_fault c =
    let constraints = map constraint c.in_ok-constraints.constraints.items in
    (query_is_read c.args.model.now c.args.scope.now c.in_ok-tokens.tokens c.args.text.now c.in_ok-tokens.ensures.list c.in_ok-tokens.ensures.end c.in_ok-new.next c.in_ok-new.new.items
    constraints c.in_ok-new.ensures.reads
    (subst (λ new. ReadsConditions c.args.model.now (c.args.scope.now ++ new) c.in_ok-tokens.tokens c.in_ok-new.next constraints) c.deref.ensures.value c.in_ok-constraints.ensures.reads)).0

pub returns-clause-query : goal.returns-clause-query
returns-clause-query c =
    let constraints = map constraint c.in_ok-constraints.constraints.items in
    let read = (query_is_read c.args.model.now c.args.scope.now c.in_ok-tokens.tokens c.args.text.now c.in_ok-tokens.ensures.list c.in_ok-tokens.ensures.end c.in_ok-new.next
    c.in_ok-new.new.items constraints c.in_ok-new.ensures.reads
    (subst (λ new. ReadsConditions c.args.model.now (c.args.scope.now ++ new) c.in_ok-tokens.tokens c.in_ok-new.next constraints) c.deref.ensures.value c.in_ok-constraints.ensures.reads)).1 in
    rw (c.of-2.ensures, c.of.ensures, c.in_ok-vars.ensures, c.deref-2.ensures.value) read
