-- What a `Doc` of each form stands for, and lists beside the documents and members that they are.
use Rattle.std.proofs.Common.{◌≡◌, ℕ, ℤ, Bool, List, [], ◌∷◌, ◌++◌, Some, option_map, String, Vec, BTreeMap, Global, refl, sym, ap, ◌∙◌, rules}
use Rattle.serde_json.specs.declared.value.Value.{Value, Array, Object}
use Rattle.serde_json.specs.View.{view, items_view, members_view}
use Rattle.serde_json.proofs.Views.{view-Array, view-Object}
use Rattle.toml.specs.declared.value.Value as toml_value
use Rattle.toml.specs.View as toml_view
use Rattle.toml.proofs.Views as toml_views
use Rattle.meaning.specs.Documents.{Document, text, number, truth, list, table, other, Documents, Members, listed, entries, as_list, as_table, of_json, items_of_json, members_of_json, of_toml, items_of_toml, members_of_toml}
use Rattle.meaning.specs.Documents as meaning
use Rattle.doc_tree.specs.declared.doc.Doc.{Doc, the_lemmas}
use Rattle.doc_tree.specs.declared.doc.Doc.TheVariants as doc
use Rattle.doc_tree.specs.View.{document, documents, documents_of, members, members_of}

-- ---- one level of a document

pub document-Text : (s : List ℕ) → document (doc.Text s) ≡ text s
document-Text s = search (rules, the_lemmas)

pub document-Number : (z : ℤ) → document (doc.Number z) ≡ number z
document-Number z = search (rules, the_lemmas)

pub document-Truth : (b : Bool) → document (doc.Truth b) ≡ truth b
document-Truth b = search (rules, the_lemmas)

pub document-List : (docs : List Doc) → document (doc.List docs) ≡ list (documents_of (documents docs))
document-List docs = search (rules, the_lemmas)

pub document-Table : (es : List (List ℕ × Doc)) → document (doc.Table es) ≡ table (members_of (members es))
document-Table es = search (rules, the_lemmas)

pub document-Other : document doc.Other ≡ other
document-Other = search (rules, the_lemmas)

-- ---- lists

pub listed-documents_of : (ds : List Document) → listed (documents_of ds) ≡ ds
listed-documents_of [] = refl
listed-documents_of (d ∷ ds) = ap (λ xs. d ∷ xs) (listed-documents_of ds)

pub documents_of-listed : (ds : Documents) → documents_of (listed ds) ≡ ds
documents_of-listed meaning.no_documents = refl
documents_of-listed (meaning.document d ds) = ap (meaning.document d) (documents_of-listed ds)

pub entries-members_of : (es : List (List ℕ × Document)) → entries (members_of es) ≡ es
entries-members_of [] = refl
entries-members_of (e ∷ es) = ap (λ xs. e ∷ xs) (entries-members_of es)

pub members_of-entries : (ms : Members) → members_of (entries ms) ≡ ms
members_of-entries meaning.no_members = refl
members_of-entries (meaning.member k d ms) = ap (meaning.member k d) (members_of-entries ms)

-- ---- what the accessors answer

pub as_list-List : (d : Doc) (docs items : List Doc) → d ≡ doc.List docs → items ≡ docs → Some (documents items) ≡ as_list (document d)
as_list-List d docs items e same =
    sym (ap (λ x. as_list (document x)) e ∙ ap as_list (document-List docs) ∙ ap Some (listed-documents_of (documents docs) ∙ ap documents (sym same)))

pub entries-Table : (d : Doc) (es items : List (List ℕ × Doc)) → d ≡ doc.Table es → items ≡ es
    → Some (members items) ≡ option_map entries (as_table (document d))
entries-Table d es items e same =
    sym (ap (λ x. option_map entries (as_table (document x))) e ∙ ap (λ x. option_map entries (as_table x)) (document-Table es)
    ∙ ap Some (entries-members_of (members es) ∙ ap members (sym same)))

-- ---- what a `Doc` stands for where its parts are known

pub document-List-at : (d : Doc) (docs : List Doc) (ds : Documents) → d ≡ doc.List docs → documents docs ≡ listed ds → document d ≡ list ds
document-List-at d docs ds e same = ap document e ∙ document-List docs ∙ ap (λ xs. list (documents_of xs)) same ∙ ap list (documents_of-listed ds)

pub document-Table-at : (d : Doc) (es : List (List ℕ × Doc)) (ms : Members) → d ≡ doc.Table es → members es ≡ entries ms → document d ≡ table ms
document-Table-at d es ms e same = ap document e ∙ document-Table es ∙ ap (λ xs. table (members_of xs)) same ∙ ap table (members_of-entries ms)

-- ---- a value of JSON

pub document-array : (v : Value) (xs : Vec Value Global) (items : List Value) (docs : List Doc) → v ≡ Array xs → items ≡ xs.items
    → documents docs ≡ listed (items_of_json (items_view items)) → document (doc.List docs) ≡ of_json (view v)
document-array v xs items docs e same is =
    document-List-at _ docs (items_of_json (items_view items)) refl is
    ∙ sym (ap (λ x. of_json (view x)) e ∙ ap of_json (view-Array xs) ∙ ap (λ vs. list (items_of_json (items_view vs))) (sym same))

pub document-object : (v : Value) (m : BTreeMap (String Global) Value) (es : List (List ℕ × Doc)) → v ≡ Object m
    → members es ≡ entries (members_of_json (members_view m.entries)) → document (doc.Table es) ≡ of_json (view v)
document-object v m es e is =
    document-Table-at _ es (members_of_json (members_view m.entries)) refl is ∙ sym (ap (λ x. of_json (view x)) e ∙ ap of_json (view-Object m))

-- ---- a value of TOML

pub document-toml_array : (v : toml_value.Value) (xs : Vec toml_value.Value Global) (items : List toml_value.Value) (docs : List Doc)
    → v ≡ toml_value.Array xs → items ≡ xs.items
    → documents docs ≡ listed (items_of_toml (toml_view.items_view items)) → document (doc.List docs) ≡ of_toml (toml_view.view v)
document-toml_array v xs items docs e same is =
    document-List-at _ docs (items_of_toml (toml_view.items_view items)) refl is
    ∙ sym (ap (λ x. of_toml (toml_view.view x)) e ∙ ap of_toml (toml_views.view-Array xs)
    ∙ ap (λ vs. list (items_of_toml (toml_view.items_view vs))) (sym same))

pub document-toml_table : (v : toml_value.Value) (m : BTreeMap (String Global) toml_value.Value) (es : List (List ℕ × Doc)) → v ≡ toml_value.Table m
    → members es ≡ entries (members_of_toml (toml_view.table_view m)) → document (doc.Table es) ≡ of_toml (toml_view.view v)
document-toml_table v m es e is =
    document-Table-at _ es (members_of_toml (toml_view.table_view m)) refl is
    ∙ sym (ap (λ x. of_toml (toml_view.view x)) e ∙ ap of_toml (toml_views.view-Table m))

-- ---- one more at the end of what was read

pub documents-pushed : (docs : List Doc) (d : Doc) (rest : List Document) → documents (docs ++ d ∷ []) ++ rest ≡ documents docs ++ document d ∷ rest
documents-pushed [] d rest = refl
documents-pushed (x ∷ docs) d rest = ap (λ xs. document x ∷ xs) (documents-pushed docs d rest)

pub members-pushed : (es : List (List ℕ × Doc)) (e : List ℕ × Doc) (rest : List (List ℕ × Document)) → members (es ++ e ∷ []) ++ rest ≡ members es ++ (e.0, document e.1) ∷ rest
members-pushed [] e rest = refl
members-pushed (x ∷ es) e rest = ap (λ xs. (x.0, document x.1) ∷ xs) (members-pushed es e rest)
