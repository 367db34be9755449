-- What a reader that found no fault, or the first one, tells of the document that it read.
use Rattle.std.proofs.Common.{◌≡◌, refl, sym, ap, ◌∙◌, ℕ, ◌≤◌, List, [], ◌++◌, map, length}
use Rattle.std.specs.Prelude.{true, false, Option, Some, None, is_some, is_none, unwrap_or, codes, if◌then◌else◌}
use Rattle.std.proofs.lemmas.List.{length-map}
use Rattle.meaning.specs.Texts.{first_of_list}
use Rattle.meaning.specs.BundlePlaces.{Document', Features, Systems, Nodes, Valid, Table, Relations}
use Rattle.meaning.specs.Documents.{Document, Json, document_of, as_text, as_table, list_at, text_at, natural_at, texts_in}
use Rattle.meaning.specs.CaseFiles.{CaseDocument}
use Rattle.meaning.specs.CaseReading as reading
use Rattle.meaning.specs.CaseReading.{CaseFault, CaseReading, Broken, Is, faults_at, failing, unless, past, bad_names, has_list, unless_broken, case_document_of, form_faults, word_faults}
use Rattle.conditions.specs.TableRows.{bad_rows}
use Rattle.conditions.specs.Tables.{case_rows}
use Rattle.lifted_case.specs.declared.lifted.ReadCase.{ReadCase}
use Rattle.lifted_case.specs.declared.stop.ReadCaseStop.{ReadCaseStop}
use Rattle.lifted_case.specs.declared.stop.ReadCaseStop.TheVariants.{Fault, NoMemory}
use Rattle.lifted_case.specs.CaseView.{case_document_of_read, case_node_of, case_relation_of, case_system_of}
use Rattle.lifted_case.specs.CaseRules.{KeepsCaseRules}
use Rattle.lifted_case.specs.ReadFaults.{Finds, TellsReading, first_bad_after, faults_in, faults_within_in, version_faults_in, name_faults_in, text_faults_in, table_faults_in, id_faults_in, end_faults_in, system_faults_in, finding_faults_in, limit_faults_in, size_at, systems_past}
use Rattle.lifted_case.proofs.FaultLaws.{faults_are, id_faults_are, end_faults_are, system_faults_are, limit_faults_are}
use Rattle.lifted_case.proofs.KeptRules.{append_none, four_none, items_none, both_hold, holds_alone, within, keeps_rules}
use Rattle.lifted_case.proofs.SeenNames.{first_bad_name_is}

-- ---- no list of faults has any

pub record NoFaults (d : Document) : Type 0 where
  pub forms : form_faults d ≡ []
  pub texts : text_faults_in d ≡ []
  pub table : table_faults_in d ≡ []
  pub ids : id_faults_in d ≡ []
  pub ends : end_faults_in d ≡ []
  pub systems : system_faults_in d ≡ []
  pub findings : finding_faults_in d ≡ []
  pub limits : limit_faults_in d ≡ []

pub no_faults : (d : Document) → faults_in d ≡ [] → NoFaults d
no_faults d e =
    let to_table = version_faults_in d ++ text_faults_in d ++ table_faults_in d in
    let to_words = to_table ++ id_faults_in d ++ word_faults d in
    let whole = append_none (form_faults d) (faults_within_in d) e in
    let all = whole.1 in
    let limits = append_none (to_words ++ end_faults_in d ++ system_faults_in d ++ finding_faults_in d) (limit_faults_in d) all in
    let findings = append_none (to_words ++ end_faults_in d ++ system_faults_in d) (finding_faults_in d) limits.0 in
    let systems = append_none (to_words ++ end_faults_in d) (system_faults_in d) findings.0 in
    let ends = append_none to_words (end_faults_in d) systems.0 in
    let words = append_none (to_table ++ id_faults_in d) (word_faults d) ends.0 in
    let ids = append_none to_table (id_faults_in d) words.0 in
    let table = append_none (version_faults_in d ++ text_faults_in d) (table_faults_in d) ids.0 in
    let texts = append_none (version_faults_in d) (text_faults_in d) table.0 in
    record {
      forms = whole.0;
      texts = texts.1;
      table = table.1;
      ids = ids.1;
      ends = ends.1;
      systems = systems.1;
      findings = findings.1;
      limits = limits.1;
    }

pub texts_count : (ds : List Document) → length (texts_in ds) ≡ length ds
texts_count ds = length-map ds (λ d. unwrap_or (as_text d) [])

-- each name of a feature is new
pub names_are_new : (d : Document) → faults_in d ≡ [] → first_bad_after [] 0 (texts_in (list_at (codes "features") d)) ≡ None
names_are_new d e =
    let names = texts_in (list_at (codes "features") d) in
    let parts = four_none _ (name_faults_in d) _ _ (no_faults d e).texts in
    first_bad_name_is names ∙ ap first_of_list (items_none 4 Features (bad_names names) parts.1)

-- there is a table, and no row of it breaks a rule
pub has_table : (d : Document) → faults_in d ≡ [] → has_list (codes "table") d ≡ true
has_table d e =
    let rest = faults_at 2 Features (failing reading.is_text_value (list_at (codes "features") d)) in
    let most = faults_at 2 Document' (unless (reading.top_is_formed d)) ++ rest ++ faults_at 2 Systems (failing reading.is_system (list_at (codes "systems") d))
    ++ faults_at 2 Nodes (failing reading.is_node (list_at (codes "nodes") d)) in
    let to_valid = append_none (most ++ faults_at 2 Valid (unless (reading.has_natural (codes "valid") d))) (faults_at 2 Relations (failing reading.is_relation (list_at (codes "relations") d)))
    (no_faults d e).forms in
    let to_nodes = append_none most (faults_at 2 Valid (unless (reading.has_natural (codes "valid") d))) to_valid.0 in
    let top = four_none (faults_at 2 Document' (unless (reading.top_is_formed d))) rest _ _ to_nodes.0 in
    (both_hold _ (has_list (codes "table") d) (holds_alone 2 Document' (reading.top_is_formed d) top.0)).1

pub rows_fit : (d : Document) → faults_in d ≡ [] → bad_rows (size_at (codes "features") d) (list_at (codes "table") d) ≡ []
rows_fit d e = items_none 5 Table (bad_rows (size_at (codes "features") d) (list_at (codes "table") d)) (no_faults d e).table

pub few_features : (d : Document) → faults_in d ≡ [] → size_at (codes "features") d ≤ 256
few_features d e =
    let parts = four_none (faults_at 11 Features (past 256 (size_at (codes "features") d))) (faults_at 11 Systems (systems_past (list_at (codes "systems") d)))
    _ _ (no_faults d e).limits in
    within 11 Features 256 (size_at (codes "features") d) parts.0

pub rules_kept : (d : Document) (c : ReadCase) → faults_in d ≡ [] → case_document_of_read c ≡ case_document_of d → c.table.features ≡ length c.lifted.features → KeepsCaseRules c
rules_kept d c e same features =
    let none = no_faults d e in
    keeps_rules c
    (ap reading.id_faults same ∙ (id_faults_are d ∙ none.ids))
    (ap reading.end_faults same ∙ (end_faults_are d ∙ none.ends))
    (ap (λ k. faults_at 9 Systems (failing reading.system_fits k.systems)) same ∙ (system_faults_are d ∙ none.systems))
    (ap reading.limit_faults same ∙ (limit_faults_are d ∙ none.limits))
    features

-- ---- the case

pub document_is : (c : ReadCase) (d : Document) → c.lifted.title ≡ text_at (codes "title") d → c.lifted.features ≡ texts_in (list_at (codes "features") d)
    → c.lifted.valid ≡ natural_at (codes "valid") d → map case_node_of c.lifted.nodes ≡ map reading.node_of (list_at (codes "nodes") d)
    → map case_relation_of c.lifted.relations ≡ map reading.relation_of (list_at (codes "relations") d)
    → map case_system_of c.lifted.systems ≡ map reading.system_of (list_at (codes "systems") d)
    → case_rows c.table.rows ≡ map reading.row_of (list_at (codes "table") d) → case_document_of_read c ≡ case_document_of d
unfolding case_document_of
document_is c d title features valid nodes relations systems table = rw (title, features, valid, nodes, relations, systems, table) refl

-- ---- the reading

is_there : {A : Type 0} (o : Option A) → is_some o ≡ true → is_none o ≡ false
is_there None e = cc
is_there (Some x) e = refl

of_table : (d : Document) → is_some (as_table d) ≡ true → reading.read_document (Some d) ≡ reading.read_table_document d
of_table d e = ap (λ b. if b then Broken reading.no_case else reading.read_table_document d) (is_there (as_table d) e)

pub reads_as : (d : Document) (k : CaseDocument) → is_some (as_table d) ≡ true → faults_in d ≡ [] → k ≡ case_document_of d → reading.read_document (Some d) ≡ Is k
reads_as d k there none same =
    of_table d there
    ∙ (ap (λ fs. unless_broken (first_of_list fs) (Is (case_document_of d))) (faults_are d ∙ none) ∙ ap Is (sym same))

pub breaks_at : (d : Document) (stop : ReadCaseStop) → is_some (as_table d) ≡ true → Finds (faults_in d) stop → TellsReading stop (reading.read_document (Some d))
breaks_at d (Fault f) there finds =
    of_table d there ∙ ap (λ o. unless_broken o (Is (case_document_of d))) (ap first_of_list (faults_are d) ∙ finds)
breaks_at d NoMemory there finds = tt

pub read_of : (bytes : List ℕ) (o : Option Document) → document_of Json bytes ≡ o → reading.read_case bytes ≡ reading.read_document o
unfolding reading.read_case
read_of bytes o e = ap reading.read_document e
