-- What a `Doc` means: the document of the definitions.
use Rattle.std.specs.Prelude.{ℤ, ℕ, List, [], ◌∷◌, Option, Some, None, map}
use Rattle.meaning.specs.Documents.{Document, text, number, truth, list, table, other, Documents, Members}
use Rattle.meaning.specs.Documents as meaning
use Rattle.doc_tree.specs.declared.doc.Doc.{Doc, fold-Doc}
use Rattle.doc_tree.specs.declared.doc.Doc.TheOpen.{Doc-F}

-- the documents of a list, one after another
abbrev pub documents_of : List Document → Documents
documents_of [] = meaning.no_documents
documents_of (d ∷ ds) = meaning.document d (documents_of ds)

-- the members of a table, one after another
abbrev pub members_of : List (List ℕ × Document) → Members
members_of [] = meaning.no_members
members_of (e ∷ es) = meaning.member e.0 e.1 (members_of es)

-- one level, with each document inside already seen
abbrev pub document_step : Doc-F Document → Document
document_step (Doc-F.Text s) = text s
document_step (Doc-F.Number z) = number z
document_step (Doc-F.Truth b) = truth b
document_step (Doc-F.List ds) = list (documents_of ds)
document_step (Doc-F.Table es) = table (members_of es)
document_step Doc-F.Other = other

-- the document that a `Doc` stands for
abbrev pub document : Doc → Document
document = fold-Doc Document document_step

-- the documents that a list of `Doc` stands for
abbrev pub documents : List Doc → List Document
documents docs = map document docs

-- the members that the entries of a table stand for
abbrev pub members : List (List ℕ × Doc) → List (List ℕ × Document)
members es = map (λ e. (e.0, document e.1)) es

-- the whole number that a document is, if it is one
abbrev pub as_number : Document → Option ℤ
as_number (number z) = Some z
as_number _ = None
