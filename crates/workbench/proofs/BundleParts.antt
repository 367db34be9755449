-- The parts of a bundle document, as their readers give them, are its bundle, and the readers' first faults are the first of all of theirs.
use Rattle.std.proofs.Common.{◌≡◌, refl, sym, ap, ◌∙◌, ℕ, List, [], ◌++◌}
use Rattle.std.specs.Prelude.{Some, codes}
use Rattle.meaning.specs.Texts.{first_of_list}
use Rattle.meaning.specs.Documents.{Document, text_at}
use Rattle.meaning.specs.Features.{Line, line_of, feature_names}
use Rattle.meaning.specs.Models.{Model, model_of}
use Rattle.meaning.specs.Templates.{Template}
use Rattle.meaning.specs.TemplateTexts.{templates_of}
use Rattle.meaning.specs.BundlePlaces.{BundleFault, or_else}
use Rattle.meaning.specs.LineRules.{line_faults, feature_names_in}
use Rattle.meaning.specs.ModelRules.{model_faults}
use Rattle.meaning.specs.TemplateRules.{template_faults}
use Rattle.meaning.specs.BundleRules.{faults_of_readers}
use Rattle.meaning.specs.Derivation.{Bundle, bundle_of}
use Rattle.meaning.proofs.FirstFaults.{first_of_append}
use Rattle.meaning.proofs.LineNames.{names_of_line}
use Rattle.doc_tree.specs.Places.{fault_of}
use Rattle.feature_model.specs.Reading.{TellsFault}
use Rattle.feature_model.specs.declared.read.LineStop.{LineStop}
use Rattle.feature_model.specs.declared.read.LineStop.TheVariants as line_stop
use Rattle.annotated_model.specs.Faults as model_faults_of
use Rattle.annotated_model.specs.declared.fault.ModelStop.{ModelStop}
use Rattle.annotated_model.specs.declared.fault.ModelStop.TheVariants as model_stop
use Rattle.templates.specs.Faults as template_faults_of
use Rattle.templates.specs.declared.fault.TemplateStop.{TemplateStop}
use Rattle.templates.specs.declared.fault.TemplateStop.TheVariants as template_stop
use Rattle.workbench.specs.declared.status.Status.{Status}
use Rattle.workbench.specs.declared.status.Status.TheVariants as status
use Rattle.workbench.specs.Stopped.{status_of_line_stop, status_of_model_stop, status_of_template_stop}
use Rattle.workbench.specs.Readings.{TellsFirst}

same_bundle : (s t : List ℕ) (l k : Line) (m n : Model) (ts us : List Template) → s ≡ t → l ≡ k → m ≡ n → ts ≡ us
    → ◌≡◌ {A = Bundle} (record { title = s; line = l; model = m; templates = ts }) (record { title = t; line = k; model = n; templates = us })
same_bundle s t l k m n ts us e f g h = rw (e, f, g, h) refl

first_of_first : (xs ys : List BundleFault) (f : BundleFault) → first_of_list xs ≡ Some f → first_of_list (xs ++ ys) ≡ Some f
first_of_first xs ys f e = first_of_append xs ys ∙ ap (λ o. or_else o (first_of_list ys)) e

-- ---- a first fault of a part that is the first of all

told_by : (xs ys : List BundleFault) → ((f : BundleFault) → first_of_list xs ≡ Some f → first_of_list ys ≡ Some f) → (s : Status) → TellsFirst xs s → TellsFirst ys s
told_by xs ys g status.Done h = absurd h
told_by xs ys g status.BadWords h = absurd h
told_by xs ys g (status.BadBundle f) h = g (fault_of f) h
told_by xs ys g (status.BadConfig rule at) h = absurd h
told_by xs ys g status.NotValid h = absurd h
told_by xs ys g (status.BadCase fault) h = absurd h
told_by xs ys g (status.NodeLimit used) h = absurd h
told_by xs ys g (status.BigCase entries) h = absurd h
told_by xs ys g (status.TooLong k) h = absurd h
told_by xs ys g (status.ReadFault k) h = absurd h
told_by xs ys g status.WriteFault h = absurd h
told_by xs ys g status.NoMemory h = tt
told_by xs ys g status.Unsupported h = absurd h

-- ---- the line

line_first : (d : Document) (f : BundleFault) → first_of_list (line_faults d) ≡ Some f → first_of_list (faults_of_readers d) ≡ Some f
line_first d f e =
    first_of_first (line_faults d ++ model_faults (feature_names_in d) d) (template_faults (model_of (feature_names_in d) d) d) f
    (first_of_first (line_faults d) (model_faults (feature_names_in d) d) f e)

pub line_stops : (fs : List BundleFault) (stop : LineStop) → TellsFault stop (first_of_list fs) → TellsFirst fs (status_of_line_stop stop)
line_stops fs (line_stop.Fault f) h = h
line_stops fs line_stop.NoMemory h = tt

pub line_told : (d : Document) (s : Status) → TellsFirst (line_faults d) s → TellsFirst (faults_of_readers d) s
line_told d s h = told_by (line_faults d) (faults_of_readers d) (line_first d) s h

-- ---- the model over it, and the templates over that

pub model_stops : (fs : List BundleFault) (stop : ModelStop) → model_faults_of.IsFirst fs stop → TellsFirst fs (status_of_model_stop stop)
model_stops fs (model_stop.Fault f) h = h
model_stops fs model_stop.NoMemory h = tt

pub template_stops : (fs : List BundleFault) (stop : TemplateStop) → template_faults_of.IsFirst fs stop → TellsFirst fs (status_of_template_stop stop)
template_stops fs (template_stop.Fault f) h = h
template_stops fs template_stop.NoMemory h = tt

module _ (d : Document) (line : Line) (line_is : line ≡ line_of d) (features : List (List ℕ)) (names : features ≡ feature_names line) where
  names_are : features ≡ feature_names_in d
  names_are = names ∙ ap feature_names line_is ∙ names_of_line d

  model_first : line_faults d ≡ [] → (f : BundleFault) → first_of_list (model_faults features d) ≡ Some f → first_of_list (faults_of_readers d) ≡ Some f
  model_first none f e =
      first_of_first (line_faults d ++ model_faults (feature_names_in d) d) (template_faults (model_of (feature_names_in d) d) d) f
      (ap (λ fs. first_of_list (fs ++ model_faults (feature_names_in d) d)) none ∙ ap (λ ns. first_of_list (model_faults ns d)) (sym names_are) ∙ e)

  pub model_told : line_faults d ≡ [] → (s : Status) → TellsFirst (model_faults features d) s → TellsFirst (faults_of_readers d) s
  model_told none s h = told_by (model_faults features d) (faults_of_readers d) (model_first none) s h

  module _ (model : Model) (model_is : model ≡ model_of features d) where
    model_in_place : model ≡ model_of (feature_names_in d) d
    model_in_place = model_is ∙ ap (λ ns. model_of ns d) names_are

    those : line_faults d ≡ [] → model_faults features d ≡ [] → faults_of_readers d ≡ template_faults model d
    those no_line no_model =
        ap (λ fs. (fs ++ model_faults (feature_names_in d) d) ++ template_faults (model_of (feature_names_in d) d) d) no_line
        ∙ ap (λ ns. model_faults ns d ++ template_faults (model_of (feature_names_in d) d) d) (sym names_are)
        ∙ ap (λ fs. fs ++ template_faults (model_of (feature_names_in d) d) d) no_model
        ∙ ap (λ m. template_faults m d) (sym model_in_place)

    templates_first : line_faults d ≡ [] → model_faults features d ≡ [] → (f : BundleFault) → first_of_list (template_faults model d) ≡ Some f
        → first_of_list (faults_of_readers d) ≡ Some f
    templates_first no_line no_model f e = ap first_of_list (those no_line no_model) ∙ e

    pub templates_told : line_faults d ≡ [] → model_faults features d ≡ [] → (s : Status) → TellsFirst (template_faults model d) s
        → TellsFirst (faults_of_readers d) s
    templates_told no_line no_model s h = told_by (template_faults model d) (faults_of_readers d) (templates_first no_line no_model) s h

    pub no_fault_of_readers : line_faults d ≡ [] → model_faults features d ≡ [] → template_faults model d ≡ [] → faults_of_readers d ≡ []
    no_fault_of_readers no_line no_model no_template = those no_line no_model ∙ no_template

    pub parts_are_bundle : (title : List ℕ) (templates : List Template) → title ≡ text_at (codes "title") d → templates ≡ templates_of model d
        → ◌≡◌ {A = Bundle} (record { title = title; line = line; model = model; templates = templates }) (bundle_of d)
    unfolding bundle_of
    parts_are_bundle title templates title_is templates_are =
        let same : features ≡ feature_names (line_of d) = names ∙ ap feature_names line_is in
        let models : model ≡ model_of (feature_names (line_of d)) d = model_is ∙ ap (λ ns. model_of ns d) same in
        same_bundle title (text_at (codes "title") d) line (line_of d) model (model_of (feature_names (line_of d)) d) templates
        (templates_of (model_of (feature_names (line_of d)) d) d) title_is line_is models (templates_are ∙ ap (λ m. templates_of m d) models)
