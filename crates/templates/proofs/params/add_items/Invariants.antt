use Rattle.std.proofs.Common.{◌≡◌, ◌≤◌, [], ◌++◌, map, take, drop, length}
use Rattle.meaning.specs.TemplateTexts.{parameter_of}
use Rattle.meaning.specs.BundlePlaces.{name_in}
use Rattle.doc_tree.specs.View.{documents}
use Rattle.templates.specs.ListRules.{parameters_broken, types_named, types_known}
use Rattle.templates.proofs.params.add_items.Given as goal

abbrev pub invariant-items : goal.invariant-items
invariant-items l = record {
  few : l.number ≤ 8;
  many : length l.row.items ≡ l.number;
  names : l.names ≡ map name_in (documents (take l.number l.items));
  value : l.row.items ++ map (parameter_of l.model) (documents (drop l.number l.items)) ≡ map (parameter_of l.model) (documents l.items);
  known : types_known l.row.items ++ types_named l.model (documents (drop l.number l.items)) ≡ types_named l.model (documents l.items);
  none : parameters_broken l.model l.template l.names l.number (documents (drop l.number l.items)) ≡ parameters_broken l.model l.template [] 0 (documents l.items);
}
