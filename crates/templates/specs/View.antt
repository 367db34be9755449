-- What the templates of the code are in the words of the definitions.
use Rattle.std.specs.Prelude.{List, ℕ, map, Option, option_map}
use Rattle.cond_text.specs.View.{expression}
use Rattle.gsn.specs.View.{kind_of}
use Rattle.path_queries.specs.View.{query}
use Rattle.meaning.specs.Systems.{Never, NoDeadlock}
use Rattle.meaning.specs.Templates as meaning
use Rattle.templates.specs.declared.data.Template.{Template}
use Rattle.templates.specs.declared.data.TNode.{TNode}
use Rattle.templates.specs.declared.data.TKind.{TKind}
use Rattle.templates.specs.declared.data.TKind.TheVariants as kind
use Rattle.templates.specs.declared.data.Piece.{Piece}
use Rattle.templates.specs.declared.data.Piece.TheVariants as piece
use Rattle.templates.specs.declared.data.Check.{Check}
use Rattle.templates.specs.declared.data.Check.TheVariants as check

abbrev pub piece_view : Piece → meaning.TextPart
piece_view (piece.Words s) = meaning.Words s
piece_view (piece.NameOf v) = meaning.NameOf v
piece_view (piece.Attr v a) = meaning.AttributeOf v a
piece_view piece.Count = meaning.Count

abbrev pub check_view : Check → meaning.Check
check_view (check.Never v e) = meaning.OfSystem (Never (expression e)) v
check_view (check.NoDeadlock v) = meaning.OfSystem NoDeadlock v
check_view (check.NoAnswer q) = meaning.NoAnswer (query q)
check_view (check.SomeAnswer q) = meaning.SomeAnswer (query q)

-- the arguments of a use stand beside its template
abbrev pub kind_view : List ℕ → TKind → meaning.TemplateKind
kind_view args (kind.Node k) = meaning.Plain (kind_of k)
kind_view args (kind.Uses t) = meaning.Uses t args

abbrev pub node_view : TNode → meaning.TemplateNode
node_view n = record {
  id = n.id;
  kind = kind_view n.args n.kind;
  above = n.under;
  words = map piece_view n.text;
  each = option_map query n.each;
  guard = option_map query n.guard;
  check = option_map check_view n.check;
  undeveloped = n.undeveloped;
}

abbrev pub template_view : Template → meaning.Template
template_view t = record { name = t.name; parameters = t.params; nodes = map node_view t.nodes }
