-- Templates that were read over a model.
use Rattle.std.specs.Prelude.{◌≡◌, List, []}
use Rattle.meaning.specs.Documents.{Document}
use Rattle.meaning.specs.Models.{Model}
use Rattle.meaning.specs.Templates.{Template}
use Rattle.meaning.specs.TemplateTexts.{templates_of}
use Rattle.meaning.specs.TemplateRules.{template_faults}

-- they are those of a bundle document, and break no rule over the model
pub record AreReadOver (m : Model) (templates : List Template) : Type 0 where
  pub bundle : Document
  pub of_bundle : templates ≡ templates_of m bundle
  pub rules : template_faults m bundle ≡ []

-- over some model
pub record AreRead (templates : List Template) : Type 0 where
  pub model : Model
  pub over : AreReadOver model templates
