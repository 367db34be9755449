-- For private clauses: what the nodes of a template are read over, and the rules that read the variables in scope.
use Rattle.std.specs.Prelude.{◌≡◌, ℕ, ◌<◌, ◌≤◌, List, ◌++◌, map, length, take, true, false, Option, option_map, codes, slice_index_or}
use Rattle.std.specs.List.{list_any}
use Rattle.meaning.specs.Texts.{numbered}
use Rattle.meaning.specs.Documents.{Document, text_at, list_at}
use Rattle.meaning.specs.Models.{Model}
use Rattle.meaning.specs.QueryTexts.{Scope}
use Rattle.meaning.specs.TemplateTexts.{parts_of, query_at}
use Rattle.meaning.specs.BundlePlaces.{Broken, requires, broken_at, name_in}
use Rattle.meaning.specs.TemplateRules.{NodeContext, id_in, hole_fault_of_node, check_is_right, use_is_right}
use Rattle.doc_tree.specs.View.{documents}
use Rattle.templates.specs.declared.reader.Reader.{Reader}
use Rattle.templates.specs.declared.reader.NodeParts.{NodeParts}
use Rattle.templates.specs.View.{piece_view}
use Rattle.templates.specs.QueryReads.{AreRead}
use Rattle.templates.specs.UseReads.{arguments_in}
use Rattle.templates.specs.ListRules.{types_named, types_known}
use Rattle.templates.specs.NodeRules.{Around, among, seeing, members_right, scoped_rules, all_formed, supports_node}

abbrev pub around_of : Reader → Around
around_of r = record {
  model = r.model.now;
  earlier = documents (take r.number r.docs.now);
  template = r.number;
  parameters = r.parameters.now;
  counted = r.counted;
  nodes = documents r.nodes.now;
}

abbrev pub ids_of : Reader → List (List ℕ)
ids_of r = map id_in (documents r.nodes.now)

-- what a reader has is that of the templates
pub record ReaderFits (r : Reader) : Type 0 where
  pub names : r.names.now ≡ map name_in (documents r.docs.now)
  pub types : map (λ d. types_named r.model.now (list_at (codes "params") d)) (documents r.docs.now) ≡ map types_known r.all_parameters.now
  pub few : length r.parameters.now ≤ 8
  pub number : r.number < 256
  pub counted : r.counted ≤ 1024
  pub formed : r.support.now.formed ≡ all_formed r.counted (documents r.nodes.now)
  pub marks : r.support.now.formed ≡ true → (j : ℕ)
      → slice_index_or r.support.now.marks.items j false ≡ list_any (supports_node (documents r.nodes.now) j) (numbered (documents r.nodes.now))

-- what is read of a node in a scope is that of its document
pub record PartsFit (m : Model) (scope : Scope) (d : Document) (parts : NodeParts) : Type 0 where
  pub queries : AreRead m scope d parts.queries
  pub text : map piece_view parts.texts.text ≡ parts_of m scope (text_at (codes "text") d)
  pub args : parts.texts.args ≡ arguments_in scope d
  pub id : parts.texts.id ≡ id_in d

-- the nodes of a reader, and these variables in scope
abbrev pub sees : Reader → Scope → NodeContext
sees r scope = seeing r.model.now (documents (take r.number r.docs.now)) scope

-- the rule on members at the node of a number, and those on its check and its use, and the latter behind that on its text
abbrev pub members_broken : Reader → Scope → ℕ → Document → List Broken
members_broken r scope i d = requires 25 (members_right (among r.counted (documents r.nodes.now)) (sees r scope) (i, d))

abbrev pub rest_broken : Reader → Scope → Document → List Broken
rest_broken r scope d = requires 28 (check_is_right (sees r scope) (0, d)) ++ requires 29 (use_is_right (sees r scope) (0, d))

abbrev pub texts_broken : Reader → Scope → Document → List Broken
texts_broken r scope d = broken_at 27 (hole_fault_of_node (sees r scope) (0, d)) ++ rest_broken r scope d

-- the rules at the node of a number that read these variables in scope
abbrev pub scoped_broken : Reader → Scope → ℕ → Document → List Broken
scoped_broken r scope i d =
    scoped_rules (among r.counted (documents r.nodes.now)) (seeing r.model.now (documents (take r.number r.docs.now)) scope) (i, d)

-- the new variables of the `each` of a node, if it has one
abbrev pub new_variables_in : Model → Scope → Document → Option Scope
new_variables_in m scope d = option_map (λ q. q.0) (query_at m scope (codes "each") d)
