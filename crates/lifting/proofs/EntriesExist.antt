-- The entries of a bundle can be listed, so that as many different ones as occur are no more than they are.
use Rattle.std.proofs.Common.{◌≡◌, ◌≢◌, ◌<◌, List, length, Bool, true, false, ◌&&◌, ◌==◌, refl, ap, arith}
use Rattle.std.specs.Prelude.{bytes_eq}
use Rattle.meaning.specs.Derivation.{Bundle}
use Rattle.meaning.specs.Entries.{Entry, of_node, of_branch, of_target, of_witness, entries_at, IsEntriesOf, most_entries}
use Rattle.meaning.specs.Answers.{ManyEntries}
use Rattle.meaning.proofs.CutTrees.{Each}
use Rattle.meaning.proofs.Pairs.{Pairwise}
use Rattle.lifting.proofs.EntryParts.{Occurs}
use Rattle.lifting.proofs.ListedOnce.{all_that_occurs, lists_each, no_more_occur}
use Rattle.meaning.proofs.EqualityTests.{same_number, equal_numbers, same_text, equal_texts}
use Rattle.meaning.proofs.EmptyLists.{both_true}

-- ---- a test that tells entries apart

same_entry : Entry → Entry → Bool
same_entry (of_node k) (of_node j) = bytes_eq k j
same_entry (of_branch k t) (of_branch j u) = bytes_eq k j && bytes_eq t u
same_entry (of_target k s) (of_target j r) = bytes_eq k j && (s == r)
same_entry (of_witness k t) (of_witness j u) = bytes_eq k j && bytes_eq t u
same_entry d e = false

entry_itself : (e : Entry) → same_entry e e ≡ true
unfolding same_entry
entry_itself (of_node k) = same_text k
entry_itself (of_branch k t) = rw (same_text k, same_text t) refl
entry_itself (of_target k s) = rw (same_text k) (same_number s s refl)
entry_itself (of_witness k t) = rw (same_text k, same_text t) refl

equal_entries : (d e : Entry) → same_entry d e ≡ true → d ≡ e
unfolding same_entry
equal_entries (of_node k) (of_node j) h = ap of_node (equal_texts k j h)
equal_entries (of_branch k t) (of_branch j u) h =
    let both : (bytes_eq k j ≡ true) × (bytes_eq t u ≡ true) = both_true (bytes_eq k j) (bytes_eq t u) h in
    rw (equal_texts k j both.0, equal_texts t u both.1) refl
equal_entries (of_target k s) (of_target j r) h =
    let both : (bytes_eq k j ≡ true) × ((s == r) ≡ true) = both_true (bytes_eq k j) (s == r) h in
    rw (equal_texts k j both.0, equal_numbers s r both.1) refl
equal_entries (of_witness k t) (of_witness j u) h =
    let both : (bytes_eq k j ≡ true) × (bytes_eq t u ≡ true) = both_true (bytes_eq k j) (bytes_eq t u) h in
    rw (equal_texts k j both.0, equal_texts t u both.1) refl
equal_entries (of_node k) (of_branch j u) h = cc
equal_entries (of_node k) (of_target j r) h = cc
equal_entries (of_node k) (of_witness j u) h = cc
equal_entries (of_branch k t) (of_node j) h = cc
equal_entries (of_branch k t) (of_target j r) h = cc
equal_entries (of_branch k t) (of_witness j u) h = cc
equal_entries (of_target k s) (of_node j) h = cc
equal_entries (of_target k s) (of_branch j u) h = cc
equal_entries (of_target k s) (of_witness j u) h = cc
equal_entries (of_witness k t) (of_node j) h = cc
equal_entries (of_witness k t) (of_branch j u) h = cc
equal_entries (of_witness k t) (of_target j r) h = cc

-- ---- all entries

pub entries_exist : (b : Bundle) → (es : List Entry) × IsEntriesOf b es
entries_exist b = (all_that_occurs same_entry entry_itself equal_entries b (entries_at b), lists_each same_entry entry_itself equal_entries b (entries_at b))

-- so many different entries that occur are too many, whatever else there is
pub too_many : (b : Bundle) (some : List Entry) → Pairwise (λ d e. d ≢ e) some → Each (Occurs b) some → most_entries < length some → ManyEntries b
too_many b some d o l = record {
  entries = (entries_exist b).0;
  of_bundle = (entries_exist b).1;
  many = omega (arith, l, no_more_occur b (entries_at b) some (entries_exist b).0 (entries_exist b).1 d o);
}
