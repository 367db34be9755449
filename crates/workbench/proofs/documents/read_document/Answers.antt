use Rattle.std.proofs.Common.{◌≡◌, sym, ap, ◌∙◌, subst, ℕ, List, true, false}
use Rattle.std.specs.Prelude.{IfOk, Some, if◌then◌else◌}
use Rattle.meaning.specs.Documents.{Form, Json, Toml, document_of}
use Rattle.meaning.specs.Words.{is_toml, form_named}
use Rattle.doc_tree.specs.View.{document}
use Rattle.workbench.proofs.documents.read_document.Goals as goal

toml_form : (name : List ℕ) → is_toml name ≡ true → Toml ≡ form_named name
toml_form name e = ap (λ b. if b then Toml else Json) (sym e)

json_form : (name : List ℕ) → is_toml name ≡ false → Json ≡ form_named name
json_form name e = ap (λ b. if b then Toml else Json) (sym e)

pub returns-then-is_toml-clause-ok : goal.returns-then-is_toml-clause-ok
returns-then-is_toml-clause-ok c =
    subst (λ (f : Form). IfOk c.from_toml.result (λ d. document_of f c.args.bytes.now ≡ Some (document d)))
    (toml_form c.args.name.now (sym c.is_toml.ensures ∙ c.if-is_toml.true)) c.from_toml.ensures.ok

pub returns-then-is_toml-clause-not : goal.returns-then-is_toml-clause-not
returns-then-is_toml-clause-not c = λ e.
    ap (λ (f : Form). document_of f c.args.bytes.now) (sym (toml_form c.args.name.now (sym c.is_toml.ensures ∙ c.if-is_toml.true))) ∙ c.from_toml.ensures.not e

pub returns-else-is_toml-clause-ok : goal.returns-else-is_toml-clause-ok
returns-else-is_toml-clause-ok c =
    subst (λ (f : Form). IfOk c.from_json.result (λ d. document_of f c.args.bytes.now ≡ Some (document d)))
    (json_form c.args.name.now (sym c.is_toml.ensures ∙ c.if-is_toml.false)) c.from_json.ensures.ok

pub returns-else-is_toml-clause-not : goal.returns-else-is_toml-clause-not
returns-else-is_toml-clause-not c = λ e.
    ap (λ (f : Form). document_of f c.args.bytes.now) (sym (json_form c.args.name.now (sym c.is_toml.ensures ∙ c.if-is_toml.false))) ∙ c.from_json.ensures.not e
