use Rattle.std.proofs.Common.{◌+◌, ◌∙◌, None, ap, sym, subst}
use Rattle.std.specs.Prelude.{option_map}
use Rattle.path_queries.specs.View.{query}
use Rattle.lifting.specs.Overflows.{RowsOverflow}
use Rattle.lifting.specs.Stops.{Halts, as_lift_stop}
use Rattle.lifting.specs.Sites.{AreRows}
use Rattle.lifting.proofs.PlacedNodes.{err_as, no_rows, halts_of_rows}
use Rattle.lifting.proofs.lift.rows.Goals as goal

pub returns-in_err-answers-in-Some-clause-stops : goal.returns-in_err-answers-in-Some-clause-stops
returns-in_err-answers-in-Some-clause-stops g c =
    let before = g.W.Worlds.algebra c.args.w.now in
    let after = g.W.Worlds.algebra c.answers.new.w in
    let each = option_map query c.args.each.now in
    err_as c.from_residual.result (as_lift_stop c.in_err-answers-in-Some.field-0.0)
    (Halts before after (RowsOverflow before c.args.model.now each c.args.bound.now (before.holds c.args.under) (c.args.most + 1)))
    c.from_residual.ensures.1
    (halts_of_rows before after c.args.model.now each (query c.in-Some.query) c.args.bound.now c.args.under c.args.most c.in_err-answers-in-Some.field-0.0 (ap (option_map query) c.in-Some.is) c.in_err-answers-in-Some.ensures.stops)

pub returns-in-None-clause-rows : goal.returns-in-None-clause-rows
returns-in-None-clause-rows g c =
    let before = g.W.Worlds.algebra c.args.w.now in
    subst (λ each. AreRows before c.args.model.now each c.args.bound.now (before.holds c.args.under) c.of.result) (sym (ap (option_map query) c.in-None.is))
    (subst (λ rows. AreRows before c.args.model.now None c.args.bound.now (before.holds c.args.under) rows) (sym (c.of.ensures ∙ c.new.ensures.items))
    (no_rows before c.args.model.now c.args.bound.now (before.holds c.args.under)))
