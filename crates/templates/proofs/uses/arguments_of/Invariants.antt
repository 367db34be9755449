use Rattle.std.proofs.Common.{◌≡◌, ◌++◌, map, drop}
use Rattle.meaning.specs.Documents.{texts_in}
use Rattle.meaning.specs.TemplateTexts.{variable_of}
use Rattle.doc_tree.specs.View.{documents}
use Rattle.templates.proofs.uses.arguments_of.Given as goal

abbrev pub invariant-arguments : goal.invariant-arguments
invariant-arguments l =
    l.row.items ++ map (variable_of l.scope) (texts_in (documents (drop l.argument-index l.arguments)))
    ≡ map (variable_of l.scope) (texts_in (documents l.arguments))
