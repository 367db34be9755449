use Rattle.std.proofs.Common.{◌≡◌, drop, not}
use Rattle.std.specs.List.{list_all}
use Rattle.meaning.specs.TemplateRules.{is_solution, kind_in}
use Rattle.doc_tree.specs.View.{documents}
use Rattle.workbench.proofs.bundle_rules.has_no_solution.Given as goal

abbrev pub invariant-nodes : goal.invariant-nodes
invariant-nodes l = list_all (λ n. not (is_solution (kind_in n))) (documents (drop l.node-index l.node-items)) ≡ list_all (λ n. not (is_solution (kind_in n))) (documents l.node-items)
