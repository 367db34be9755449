-- What the top call answers for a lifted case: it is built where its entries and its bytes are within the limits, and too big where they are not.
use Rattle.std.proofs.Common.{◌<◌, ◌≤◌, length, false, refl, arith}
use Rattle.std.specs.Prelude.{IsTrue}
use Rattle.meaning.specs.Statuses.{BigCase}
use Rattle.meaning.specs.CaseFiles.{CaseDocument}
use Rattle.meaning.specs.CaseBytes.{case_bytes}
use Rattle.meaning.specs.Derivation.{Bundle}
use Rattle.meaning.specs.Tidy.{Tidy, ValidWorld}
use Rattle.meaning.specs.Entries.{most_entries}
use Rattle.meaning.specs.Headline.{IsBuildOf}
use Rattle.meaning.specs.Answers.{Prints, refusal, Stage, FewEntries, ManyEntries, IsBuilt, IsBuildAnswer, too_many_bytes, built, ShowsCase, most_bytes}
use Rattle.lifting.specs.CaseCounts.{entries_in}
use Rattle.lifting.proofs.AllEntries.{tidy_entries}

module _ (k : CaseDocument) (b : Bundle) (h : Tidy k b) where
  pub few_entries : entries_in k.nodes ≤ most_entries → FewEntries b
  few_entries l = record {
    entries = (tidy_entries k b h).entries;
    of_bundle = (tidy_entries k b h).of_bundle;
    few = omega (arith, l, (tidy_entries k b h).count);
  }

  pub many_entries : most_entries < entries_in k.nodes → ManyEntries b
  many_entries l = record {
    entries = (tidy_entries k b h).entries;
    of_bundle = (tidy_entries k b h).of_bundle;
    many = omega (arith, l, (tidy_entries k b h).count);
  }

  module _ (s : Stage) (product : ValidWorld b) (build : IsBuildOf (case_bytes k) b) where
    pub is_built : (IsTrue s.counts_entries → entries_in k.nodes ≤ most_entries) → (IsTrue s.counts_bytes → length (case_bytes k) ≤ most_bytes) → IsBuilt s b (case_bytes k)
    is_built few short = record { product = product; few = λ c. few_entries (few c); build = build; short = short }

    -- the answer is the case itself
    pub prints_case : (IsTrue s.counts_entries → entries_in k.nodes ≤ most_entries) → (IsTrue s.counts_bytes → length (case_bytes k) ≤ most_bytes)
        → IsBuildAnswer s b ShowsCase (Prints (case_bytes k))
    prints_case few short = built (case_bytes k) (is_built few short) refl

    -- or that it has too many bytes
    pub case_is_long : IsTrue s.counts_bytes → (IsTrue s.counts_entries → entries_in k.nodes ≤ most_entries) → most_bytes < length (case_bytes k)
        → IsBuildAnswer s b ShowsCase (refusal (BigCase false))
    case_is_long counts few l = too_many_bytes (case_bytes k) counts product (λ c. few_entries (few c)) build l
