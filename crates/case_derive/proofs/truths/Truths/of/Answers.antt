use Rattle.std.proofs.Common.{◌∙◌, ap, get_or}
use Rattle.meaning.specs.Texts.{holds_at}
use Rattle.conditions.specs.Tables.{case_row}
use Rattle.case_derive.proofs.Walks.{child, tells_more}
use Rattle.case_derive.proofs.truths.Truths.of.Goals as goal

pub rows-preserved : goal.rows-preserved
rows-preserved c =
    tells_more c.args.rows.now c.rows.row-index (0, 0, 0) c.args.world.now c.rows.values.items c.push.new.self.items c.truth_of_row.result c.rows-test.true c.rows.invariant
    (c.truth_of_row.ensures ∙ ap (λ vs. holds_at vs (child c.args.world.now (case_row (get_or c.args.rows.now c.rows.row-index (0, 0, 0))))) c.deref.ensures.value) c.in_ok-push.ensures.items
