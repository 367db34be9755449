use Rattle.std.proofs.Common.{◌∙◌, sym}
use Rattle.meaning.specs.Texts.{holds_at}
use Rattle.case_derive.proofs.Walks.{tells_read}
use Rattle.case_derive.proofs.Cuts.{cut_by_test}
use Rattle.case_derive.proofs.cutting.cut.Goals as goal

pub returns-then-not-at-clause-not_valid : goal.returns-then-not-at-clause-not_valid
returns-then-not-at-clause-not_valid c = λ _.
    sym (tells_read c.args.case.now c.rows.result.now c.args.world.now c.in_ok-truths.truths.values.items c.rows.ensures.rows c.in_ok-truths.ensures c.args.case.now.lifted.valid)
    ∙ sym c.at.ensures ∙ c.if-not-at.true

pub returns-clause-cut : goal.returns-clause-cut
returns-clause-cut c =
    c.in_ok-at_world.ensures.cut
    ∙ cut_by_test c.args.case.now c.args.world.now (holds_at c.in_ok-truths.truths.values.items)
    (tells_read c.args.case.now c.rows.result.now c.args.world.now c.in_ok-truths.truths.values.items c.rows.ensures.rows c.in_ok-truths.ensures)

pub returns-clause-valid : goal.returns-clause-valid
returns-clause-valid c =
    sym (tells_read c.args.case.now c.rows.result.now c.args.world.now c.in_ok-truths.truths.values.items c.rows.ensures.rows c.in_ok-truths.ensures c.args.case.now.lifted.valid)
    ∙ sym c.at.ensures ∙ c.if-not-at.false
