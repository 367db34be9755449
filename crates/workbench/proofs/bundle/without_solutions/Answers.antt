use Rattle.std.proofs.Common.{◌∙◌, sym}
use Rattle.doc_tree.specs.View.{document}
use Rattle.workbench.proofs.Exits.{stops_with}
use Rattle.workbench.proofs.BundleReadings.{those_of_readers, stops_readers}
use Rattle.workbench.proofs.bundle.without_solutions.Goals as goal

pub returns-in_err-parts-clause-stopped : goal.returns-in_err-parts-clause-stopped
returns-in_err-parts-clause-stopped c = stops_with _ _ _ c.from_residual.ensures.1 (stops_readers (document c.args.bundle.now) c.requires _ c.in_err-parts.ensures.stopped)

pub returns-then-not-has_no_solutions-clause-stopped : goal.returns-then-not-has_no_solutions-clause-stopped
returns-then-not-has_no_solutions-clause-stopped c =
    (those_of_readers (document c.args.bundle.now) c.requires ∙ c.in_ok-parts.ensures.rules, sym c.has_no_solutions.ensures ∙ c.if-not-has_no_solutions.true)

pub returns-clause-read : goal.returns-clause-read
returns-clause-read c = record {
  is = c.in_ok-parts.ensures.is;
  rules = those_of_readers (document c.args.bundle.now) c.requires ∙ c.in_ok-parts.ensures.rules;
  form = sym c.has_no_solutions.ensures ∙ c.if-not-has_no_solutions.false;
}
