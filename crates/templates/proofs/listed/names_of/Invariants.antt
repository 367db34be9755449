use Rattle.std.proofs.Common.{◌≡◌, ◌≤◌, [], map, take, drop, length}
use Rattle.meaning.specs.BundlePlaces.{Templates, name_in}
use Rattle.doc_tree.specs.View.{documents}
use Rattle.annotated_model.specs.Items.{faults_after}
use Rattle.templates.specs.ListRules.{template_broken, templates_broken}
use Rattle.templates.proofs.listed.names_of.Given as goal

abbrev pub invariant-templates : goal.invariant-templates
invariant-templates l = record {
  few : l.number ≤ 256;
  names : l.names ≡ map name_in (documents (take l.number l.templates));
  faults : faults_after Templates name_in (template_broken (length (documents l.templates))) l.names l.number (documents (drop l.number l.templates)) ≡ templates_broken (documents l.templates);
}
