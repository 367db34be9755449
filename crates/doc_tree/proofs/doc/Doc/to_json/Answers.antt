use Rattle.std.proofs.Common.{◌++◌, ◌≤◌, Some, ap, sym, ◌∙◌, subst, string_bytes}
use Rattle.std.proofs.lemmas.Str.{IsUtf8-string_bytes}
use Rattle.serde_json.specs.Data.{depth}
use Rattle.serde_json.specs.Read.{max_depth}
use Rattle.serde_json.specs.Written.{compact_text}
use Rattle.meaning.specs.Cases.{newline}
use Rattle.meaning.specs.Documents.{Json, document_of}
use Rattle.doc_tree.specs.View.{document}
use Rattle.doc_tree.specs.Written.{json_text}
use Rattle.doc_tree.proofs.Newline.{document_of-line}
use Rattle.doc_tree.proofs.Reading.{document_of-read}
use Rattle.doc_tree.proofs.Writing.{depth-data_of}
use Rattle.doc_tree.proofs.doc.Doc.to_json.Goals as goal

pub returns-clause-text : goal.returns-clause-text
unfolding json_text
returns-clause-text c =
    let stands = c.in_ok-value.ensures in
    ap (λ v. v.items) c.into_bytes.ensures.value ∙ c.in_ok-text.ensures.text stands.no_float ∙ ap compact_text stands.value

pub returns-clause-reads_back : goal.returns-clause-reads_back
returns-clause-reads_back c =
    let stands = c.in_ok-value.ensures in
    let shallow = subst (λ n. n ≤ max_depth) (sym (ap depth stands.value ∙ depth-data_of (document c.args.self.now))) c.requires.nests in
    ap (λ v. document_of Json v.items) c.into_bytes.ensures.value
    ∙ document_of-read (string_bytes c.in_ok-text.text) _ (IsUtf8-string_bytes c.in_ok-text.text) (c.in_ok-text.ensures.reads_back shallow)
    ∙ ap Some stands.back

pub returns-clause-reads_back_line : goal.returns-clause-reads_back_line
returns-clause-reads_back_line c =
    let stands = c.in_ok-value.ensures in
    let shallow = subst (λ n. n ≤ max_depth) (sym (ap depth stands.value ∙ depth-data_of (document c.args.self.now))) c.requires.nests in
    ap (λ v. document_of Json (v.items ++ newline)) c.into_bytes.ensures.value
    ∙ document_of-line (string_bytes c.in_ok-text.text) _ (IsUtf8-string_bytes c.in_ok-text.text) c.in_ok-text.ensures.compact c.in_ok-text.ensures.order
    (c.in_ok-text.ensures.reads_back shallow)
    ∙ ap Some stands.back
