use Rattle.std.proofs.Common.{◌≡◌, ◌≤◌, ◌++◌, map, drop, length}
use Rattle.std.specs.Prelude.{codes}
use Rattle.std.specs.List.{All}
use Rattle.meaning.specs.Documents.{list_at}
use Rattle.doc_tree.specs.View.{documents}
use Rattle.templates.specs.ListRules.{all_parameters_broken, parameters_in, types_named, types_known}
use Rattle.templates.proofs.params.read_parameters.Given as goal

abbrev pub invariant-templates : goal.invariant-templates
invariant-templates l = record {
  values : l.rows.items ++ map (parameters_in l.model) (documents (drop l.number l.templates)) ≡ map (parameters_in l.model) (documents l.templates);
  known : map types_known l.rows.items ++ map (λ d. types_named l.model (list_at (codes "params") d)) (documents (drop l.number l.templates))
      ≡ map (λ d. types_named l.model (list_at (codes "params") d)) (documents l.templates);
  few : All (λ row. length row ≤ 8) l.rows.items;
  none : all_parameters_broken l.model l.number (documents (drop l.number l.templates)) ≡ all_parameters_broken l.model 0 (documents l.templates);
}
