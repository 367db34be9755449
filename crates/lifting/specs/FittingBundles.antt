-- Bundles as their readers give them: what building a case asks of one.
use Rattle.std.specs.Prelude.{◌≡◌, ℕ, ◌≤◌, [], length, Bool, true, if◌then◌else◌}
use Rattle.meaning.specs.Texts.{is_text}
use Rattle.meaning.specs.Features.{feature_names}
use Rattle.meaning.specs.CaseReading.{bad_names}
use Rattle.meaning.specs.Derivation.{Bundle}
use Rattle.annotated_model.specs.ModelTexts.{ModelHasTexts}
use Rattle.lifting.specs.FittingTemplates.{TemplatesFit}

-- its texts are texts, its names are names, its features and elements are few, and its templates can be instantiated
pub record BundleFits (b : Bundle) : Type 0 where
  pub title : is_text b.title ≡ true
  pub names : bad_names (feature_names b.line) ≡ []
  pub few_features : length (feature_names b.line) ≤ 256
  pub model : ModelHasTexts b.model
  pub few_elements : length b.model.elements ≤ 2048
  pub templates : TemplatesFit b.templates

-- the identifiers of the two truth values, of which no row is needed
abbrev pub truth_id : Bool → ℕ
truth_id b = if b then 1 else 0
