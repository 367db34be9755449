use Rattle.std.proofs.Common.{◌∙◌, sym, ap, not}
use Rattle.meaning.specs.CaseReading.{same_row}
use Rattle.conditions.specs.Tables.{case_row}
use Rattle.conditions.proofs.TableRows.{list_any-map}
use Rattle.conditions.proofs.lines.Lines.add.Goals as goal

pub returns-clause-is_new : goal.returns-clause-is_new
returns-clause-is_new c =
    rw (← c.self.view_is) (c.in_ok-added.ensures.added ∙ ap not (sym (list_any-map case_row (same_row (case_row c.args.row)) c.self.inside.rows.keys)))
