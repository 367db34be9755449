use Rattle.std.proofs.Common.{◌∙◌, sym, ap, true, false}
use Rattle.std.specs.Prelude.{option_map}
use Rattle.doc_tree.specs.View.{document}
use Rattle.conditions.specs.Tables.{case_row}
use Rattle.conditions.proofs.TableRows.{last_rules, order_rule, not_back}
use Rattle.conditions.proofs.lines.Lines.read.Goals as goal

pub returns-then-branch-clause-fits : goal.returns-then-branch-clause-fits
returns-then-branch-clause-fits c =
    last_rules c.args.features c.args.self.now (document c.args.item.now) c.in-Some.row false (ap (option_map case_row) (sym c.in-Some.is) ∙ c.row.ensures) (sym c.is_ordered.ensures ∙ c.if-not-is_ordered.false) c.if-row.false (not_back (sym c.in_ok-add.ensures.is_new ∙ c.if-branch.true))

pub returns-else-branch-clause-stop : goal.returns-else-branch-clause-stop
returns-else-branch-clause-stop c =
    last_rules c.args.features c.args.self.now (document c.args.item.now) c.in-Some.row true (ap (option_map case_row) (sym c.in-Some.is) ∙ c.row.ensures) (sym c.is_ordered.ensures ∙ c.if-not-is_ordered.false) c.if-row.false (not_back (sym c.in_ok-add.ensures.is_new ∙ c.if-branch.false))

pub returns-then-not-is_ordered-clause-stop : goal.returns-then-not-is_ordered-clause-stop
returns-then-not-is_ordered-clause-stop c =
    order_rule c.args.features c.args.self.now (document c.args.item.now) c.in-Some.row (ap (option_map case_row) (sym c.in-Some.is) ∙ c.row.ensures) (sym c.is_ordered.ensures ∙ c.if-not-is_ordered.true)
