-- Two builds of one bundle give the same bytes, whatever each of them had room for.
use Rattle.std.specs.Prelude.{◌≡◌, ℕ, List, None}
use Rattle.meaning.specs.Documents.{Document}
use Rattle.meaning.specs.BundleRules.{first_fault}
use Rattle.meaning.specs.Derivation.{Bundle, bundle_of}
use Rattle.meaning.specs.Headline.{IsBuildOf}

-- two builds of one bundle, the one of a document that breaks no rule, are the same bytes
abbrev pub TwoBuildsAgree : Type 0
TwoBuildsAgree = (b : Bundle) (d : Document) → b ≡ bundle_of d → first_fault d ≡ None → (bytes others : List ℕ) → IsBuildOf bytes b → IsBuildOf others b → bytes ≡ others
