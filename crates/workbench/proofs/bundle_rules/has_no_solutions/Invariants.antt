use Rattle.std.proofs.Common.{◌≡◌, drop}
use Rattle.std.specs.List.{list_all}
use Rattle.meaning.specs.BuiltForms.{has_no_solution}
use Rattle.doc_tree.specs.View.{documents}
use Rattle.workbench.proofs.bundle_rules.has_no_solutions.Given as goal

abbrev pub invariant-templates : goal.invariant-templates
invariant-templates l = list_all has_no_solution (documents (drop l.template-index l.template-items)) ≡ list_all has_no_solution (documents l.template-items)
