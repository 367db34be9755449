-- Two builds of one bundle are the same bytes: both are the bytes of one document.
use Rattle.std.proofs.Common.{◌≡◌, ℕ, List, sym, ap, ◌∙◌, subst}
use Rattle.meaning.specs.CaseBytes.{case_bytes}
use Rattle.meaning.specs.Derivation.{Bundle}
use Rattle.meaning.specs.Headline.{IsBuildOf}
use Rattle.meaning.specs.SameBuilds.{TwoBuildsAgree}
use Rattle.meaning.proofs.ReadCases.{case_is_read}
use Rattle.meaning.proofs.TidySights.{HasProperNames}
use Rattle.meaning.proofs.BundleNames.{proper_names_of}
use Rattle.meaning.proofs.OneDocument.{one_document}

-- two builds of a bundle with proper names
pub same_bytes : (b : Bundle) → HasProperNames b → (bytes others : List ℕ) → IsBuildOf bytes b → IsBuildOf others b → bytes ≡ others
same_bytes b proper bytes others first second =
    first.written
    ∙ ap case_bytes
    (one_document b proper first.document second.document first.tidy second.tidy (case_is_read bytes first.document first.reads) (case_is_read others second.document second.reads)
    first.table_in_order second.table_in_order)
    ∙ sym second.written

pub two_builds_agree : TwoBuildsAgree
two_builds_agree b d same sound bytes others first second = same_bytes b (subst HasProperNames (sym same) (proper_names_of d sound)) bytes others first second
