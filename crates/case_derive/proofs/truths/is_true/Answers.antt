use Rattle.std.proofs.Common.{sym, ◌∙◌}
use Rattle.std.proofs.lemmas.Bool.{le-ltb}
use Rattle.cond_text.proofs.Values.{value_at_place}
use Rattle.case_derive.proofs.Marks.{holds_past}
use Rattle.case_derive.proofs.truths.is_true.Goals as goal

pub returns-then-place-truths : goal.returns-then-place-truths
returns-then-place-truths c = value_at_place c.args.truths.now c.args.place

pub returns-else-place-truths : goal.returns-else-place-truths
returns-else-place-truths c =
    le-ltb _ _ c.if-place-truths.false ∙ sym (holds_past c.args.truths.now c.args.place c.if-place-truths.false)
