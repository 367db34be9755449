use Rattle.std.proofs.Common.{◌≡◌, string_bytes, get_or, take, drop, ◌+◌, [], ◌∷◌, ◌++◌, sym, ap, ◌∙◌, arith, append_assoc, append-nil}
use Rattle.std.proofs.lemmas.Grind.{common_steps}
use Rattle.std.proofs.lemmas.List.{take_more}
use Rattle.toml.specs.Data as toml
use Rattle.toml.specs.View.{view}
use Rattle.toml.proofs.Views.{Entry, items_view-drop, items_are_sorted-last, values_sorted-last, members_are_sorted-from}
use Rattle.meaning.specs.Documents.{listed, entries, items_of_toml, members_of_toml}
use Rattle.doc_tree.specs.View.{document, documents, members}
use Rattle.doc_tree.proofs.Levels.{document-toml_array, document-toml_table, documents-pushed, members-pushed}
use Rattle.toml.specs.View.{items_view, members_view}
use Rattle.doc_tree.proofs.read_toml.+reading.Goals as goal

pub doc_from-returns-in_ok-items_from-in-Array-clause-same : goal.doc_from-returns-in_ok-items_from-in-Array-clause-same
doc_from-returns-in_ok-items_from-in-Array-clause-same t c =
    document-toml_array _ _ _ c.in_ok-items_from-in-Array.field-0 c.in-Array.is c.as_slice.ensures.value c.in_ok-items_from-in-Array.ensures.same

pub doc_from-returns-in_ok-entries_from-in-Table-clause-same : goal.doc_from-returns-in_ok-entries_from-in-Table-clause-same
doc_from-returns-in_ok-entries_from-in-Table-clause-same t c =
    document-toml_table _ _ c.in_ok-entries_from-in-Table.field-0 c.in-Table.is c.in_ok-entries_from-in-Table.ensures.same

pub items_from-items-preserved : goal.items_from-items-preserved
items_from-items-preserved t c =
    let (same, sorted) = c.items.invariant in
    let xs = c.args.items.now in
    let i = c.items.item-index in
    let item = c.item-item.result in
    let at : get_or xs i item ≡ item = grind (arith, common_steps) in
    let step : items_view (drop i xs) ≡ toml.item (view item) (items_view (drop (i + 1) xs)) =
    items_view-drop xs i item c.items-test.true ∙ ap (λ v. toml.item (view v) (items_view (drop (i + 1) xs))) at in
    let rest = listed (items_of_toml (items_view (drop (i + 1) xs))) in
    let pushed : documents c.push.new.self.items ++ rest ≡ listed (items_of_toml (items_view xs)) =
    ap (λ ds. documents ds ++ rest) c.in_ok-push.ensures.items ∙ documents-pushed c.items.docs.items c.in_ok-doc_from.field-0 rest
    ∙ ap (λ d. documents c.items.docs.items ++ d ∷ rest) c.in_ok-doc_from.ensures.same
    ∙ ap (λ v. documents c.items.docs.items ++ listed (items_of_toml v)) (sym step) ∙ same in
    (pushed, rw (take_more xs i item c.items-test.true, at) (items_are_sorted-last (take i xs) item sorted c.in_ok-doc_from.ensures.sorted))

pub entries_from-members-preserved : goal.entries_from-members-preserved
entries_from-members-preserved t c =
    let (same, done, whole, sorted) = c.members.invariant in
    let e : Entry = (c.in-Some.name.now, c.in-Some.value.now) in
    let iter : c.members.name-iterator ≡ e ∷ c.next.new.self = grind (arith, common_steps) in
    let rest = entries (members_of_toml (members_view c.next.new.self)) in
    let pushed : members c.push.new.self.items ++ rest ≡ entries (members_of_toml (members_view c.args.table.now.entries)) =
    ap (λ es. members es ++ rest) c.in_ok-push.ensures.items ∙ members-pushed c.members.entries.items (c.in_ok-name.name, c.in_ok-doc_from.field-0) rest
    ∙ ap (λ k. members c.members.entries.items ++ (k, document c.in_ok-doc_from.field-0) ∷ rest) (c.in_ok-name.ensures ∙ c.as_str.ensures.value)
    ∙ ap (λ d. members c.members.entries.items ++ (string_bytes c.in-Some.name.now, d) ∷ rest) c.in_ok-doc_from.ensures.same
    ∙ ap (λ es. members c.members.entries.items ++ entries (members_of_toml (members_view es))) (sym iter) ∙ same in
    let all = whole ∙ ap (λ t. done ++ t) iter ∙ sym (append_assoc done (e ∷ []) c.next.new.self) in
    (pushed, done ++ e ∷ [], all, values_sorted-last done e sorted c.in_ok-doc_from.ensures.sorted)

pub entries_from-returns-clause-sorted : goal.entries_from-returns-clause-sorted
entries_from-returns-clause-sorted t c =
    let (same, done, whole, sorted) = c.members.invariant in
    let none : c.members.name-iterator ≡ [] = grind (arith, common_steps) in
    let all : c.args.table.now.entries ≡ done = whole ∙ rw none (append-nil done) in
    rw all (members_are_sorted-from done (rw all at c.iter-name-items.ensures.ordered) sorted)
