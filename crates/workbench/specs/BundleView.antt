-- What a bundle of the code is in the words of the definitions, and when it is one that was read.
use Rattle.std.specs.Prelude.{◌≡◌, [], length, true}
use Rattle.meaning.specs.Documents.{Document}
use Rattle.meaning.specs.Features.{feature_names}
use Rattle.meaning.specs.BundleRules.{bundle_faults}
use Rattle.meaning.specs.BuiltForms.{has_no_solutions}
use Rattle.meaning.specs.Derivation as meaning
use Rattle.meaning.specs.Derivation.{bundle_of}
use Rattle.feature_model.specs.Contents.{line_view}
use Rattle.annotated_model.specs.ModelFacts.{NamesFeatures}
use Rattle.workbench.specs.declared.bundle.Bundle.{Bundle}

abbrev pub bundle_view : Bundle → meaning.Bundle
bundle_view b = record { title = b.title; line = line_view b.line; model = b.model; templates = b.templates }

-- the bundle is that of a document, whose conditions speak of the line's features
pub record IsBundleOf (d : Document) (b : Bundle) : Type 0 where
  pub is : bundle_view b ≡ bundle_of d
  pub names : NamesFeatures (length (feature_names (line_view b.line))) b.model

-- the bundle is that of a document that breaks no rule, and no template of it has a solution
pub record IsReadBundle (b : Bundle) : Type 0 where
  pub document : Document
  pub of_document : IsBundleOf document b
  pub rules : bundle_faults document ≡ []
  pub form : has_no_solutions document ≡ true
