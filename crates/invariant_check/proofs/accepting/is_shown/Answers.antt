use Rattle.std.proofs.Common.{ℕ, sym, ◌∙◌}
use Rattle.std.specs.Prelude.{◌||◌, not}
use Rattle.std.specs.List.{list_all}
use Rattle.meaning.specs.Models.{State, Transition, projection}
use Rattle.meaning.specs.Systems.{violates}
use Rattle.meaning.specs.Texts.{numbered, holds_at}
use Rattle.annotated_model.specs.View.{system_view}
use Rattle.invariant_check.specs.View.{property}
use Rattle.invariant_check.proofs.PlainChecks.{first_false, second_false, third_is}
use Rattle.invariant_check.proofs.accepting.is_shown.Goals as goal

pub returns-then-not-has_initial : goal.returns-then-not-has_initial
returns-then-not-has_initial c =
    let s = projection c.args.world.now (system_view c.args.system.now) in
    let inside = c.args.inside.now in
    let first = list_all (λ (x : ℕ × State). not x.1.initial || holds_at inside x.0) (numbered s.states) in
    let second = list_all (λ (t : ℕ × Transition). not (holds_at inside t.1.source) || holds_at inside t.1.target) s.transitions in
    let third = list_all (λ (x : ℕ × State). not (holds_at inside x.0) || not (violates c.args.labels s (property c.args.property.now) x.0)) (numbered s.states) in
    first_false first second third (sym c.has_initial.ensures ∙ c.if-not-has_initial.true)

pub returns-then-not-has_ends : goal.returns-then-not-has_ends
returns-then-not-has_ends c =
    let s = projection c.args.world.now (system_view c.args.system.now) in
    let inside = c.args.inside.now in
    let first = list_all (λ (x : ℕ × State). not x.1.initial || holds_at inside x.0) (numbered s.states) in
    let second = list_all (λ (t : ℕ × Transition). not (holds_at inside t.1.source) || holds_at inside t.1.target) s.transitions in
    let third = list_all (λ (x : ℕ × State). not (holds_at inside x.0) || not (violates c.args.labels s (property c.args.property.now) x.0)) (numbered s.states) in
    second_false first second third (sym c.has_initial.ensures ∙ c.if-not-has_initial.false) (sym c.has_ends.ensures ∙ c.if-not-has_ends.true)

pub returns : goal.returns
returns c =
    let s = projection c.args.world.now (system_view c.args.system.now) in
    let inside = c.args.inside.now in
    let first = list_all (λ (x : ℕ × State). not x.1.initial || holds_at inside x.0) (numbered s.states) in
    let second = list_all (λ (t : ℕ × Transition). not (holds_at inside t.1.source) || holds_at inside t.1.target) s.transitions in
    let third = list_all (λ (x : ℕ × State). not (holds_at inside x.0) || not (violates c.args.labels s (property c.args.property.now) x.0)) (numbered s.states) in
    third_is first second third c.shows.result (sym c.has_initial.ensures ∙ c.if-not-has_initial.false) (sym c.has_ends.ensures ∙ c.if-not-has_ends.false) c.shows.ensures
