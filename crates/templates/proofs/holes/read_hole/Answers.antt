use Rattle.std.proofs.Common.{◌≡◌, ◌∙◌, sym, ap, subst, Some, None, arith}
use Rattle.std.specs.Prelude.{IfOk, IfErr, unwrap_or}
use Rattle.std.proofs.lemmas.Str.Pattern.{split_parts}
use Rattle.templates.specs.View.{piece_view}
use Rattle.templates.proofs.TextWalk.{cut_there, hole_with_dot, part_with_dot, hole_without_dot}
use Rattle.templates.proofs.holes.read_hole.Goals as goal

pub returns-in-Some-clause-none : goal.returns-in-Some-clause-none
returns-in-Some-clause-none c =
    let s = c.args.inner.now in
    let x = c.in-Some.variable.now in
    let a = c.in-Some.attribute.now in
    let cut = cut_there s x a (split_parts 46 s (Some (c.in-Some.variable, c.in-Some.attribute)) c.in-Some.ensures.cases (omega arith)) in
    let other = sym c.eq.ensures ∙ c.if-eq.false in
    subst (λ o. IfOk c.read_variable.result (λ piece. o ≡ None)) (sym (hole_with_dot c.args.model.now c.args.scope.now c.args.counts c.args.holes c.args.brace s x a other cut)) c.read_variable.ensures.none

pub returns-in-Some-clause-part : goal.returns-in-Some-clause-part
returns-in-Some-clause-part c =
    let s = c.args.inner.now in
    let x = c.in-Some.variable.now in
    let a = c.in-Some.attribute.now in
    let cut = cut_there s x a (split_parts 46 s (Some (c.in-Some.variable, c.in-Some.attribute)) c.in-Some.ensures.cases (omega arith)) in
    let other = sym c.eq.ensures ∙ c.if-eq.false in
    subst (λ p. IfOk c.read_variable.result (λ piece. piece_view piece ≡ p)) (sym (part_with_dot c.args.model.now c.args.scope.now s x a other cut)) c.read_variable.ensures.part

pub returns-in-Some-clause-fault : goal.returns-in-Some-clause-fault
returns-in-Some-clause-fault c =
    let s = c.args.inner.now in
    let x = c.in-Some.variable.now in
    let a = c.in-Some.attribute.now in
    let cut = cut_there s x a (split_parts 46 s (Some (c.in-Some.variable, c.in-Some.attribute)) c.in-Some.ensures.cases (omega arith)) in
    let other = sym c.eq.ensures ∙ c.if-eq.false in
    subst (λ o. IfErr c.read_variable.result (λ at. o ≡ Some at)) (sym (hole_with_dot c.args.model.now c.args.scope.now c.args.counts c.args.holes c.args.brace s x a other cut)) c.read_variable.ensures.fault

pub returns-in-None-clause-fault : goal.returns-in-None-clause-fault
returns-in-None-clause-fault c =
    let s = c.args.inner.now in
    let free = split_parts 46 s None c.in-None.ensures.cases (omega arith) in
    let other = sym c.eq.ensures ∙ c.if-eq.false in
    hole_without_dot c.args.model.now c.args.scope.now c.args.counts c.args.holes c.args.brace s other free
