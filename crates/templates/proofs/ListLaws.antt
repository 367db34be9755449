-- The faults of templates and parameters, read one after another, are those of the definitions.
use Rattle.std.proofs.Common.{◌≡◌, refl, sym, ap, ◌∙◌, ℕ, ◌+◌, List, [], ◌∷◌, ◌++◌, length, map, take}
use Rattle.std.specs.Prelude.{codes}
use Rattle.std.specs.List.{enumerate_from}
use Rattle.meaning.specs.Texts.{flat}
use Rattle.meaning.specs.Documents.{Document, list_at}
use Rattle.meaning.specs.Models.{Model}
use Rattle.meaning.specs.BundlePlaces.{Part, Templates, Params, BundleFault, Broken, requires, faults_at, faults_of_items, may_have, is_list_value, name_in}
use Rattle.meaning.specs.ModelRules.{faults_in_item}
use Rattle.meaning.specs.TemplateRules.{templates_in, list_rules, template_rules, parameter_rules, faults_in_templates}
use Rattle.annotated_model.specs.Items.{faults_after}
use Rattle.annotated_model.proofs.StateLaws.{before_place, one_more, one_longer}
use Rattle.templates.specs.ListRules.{template_broken, templates_broken, list_broken, parameter_broken, parameters_broken, template_parameters_broken, all_parameters_broken}

-- ---- templates

module _ (ts : List Document) where
  rules_are : (i : ℕ) (d : Document) → template_rules ts (i, d) ≡ template_broken (length ts) (take i (map name_in ts)) i d
  unfolding template_rules
  rules_are i d = refl

  walk : (before : List (List ℕ)) (i : ℕ) (ds : List Document) → before ++ map name_in ds ≡ map name_in ts → length before ≡ i
      → flat (λ x. faults_at Templates x.0 0 (template_rules ts x)) (enumerate_from i ds) ≡ faults_after Templates name_in (template_broken (length ts)) before i ds
  walk before i [] whole many = refl
  walk before i (d ∷ ds) whole many =
      let here : template_rules ts (i, d) ≡ template_broken (length ts) before i d =
      rules_are i d ∙ ap (λ names. template_broken (length ts) names i d) (before_place before (map name_in (d ∷ ds)) (map name_in ts) i whole many) in
      let rest = walk (before ++ name_in d ∷ []) (i + 1) ds (one_more before (map name_in ds) (map name_in ts) (name_in d) whole) (one_longer before (name_in d) i many) in
      ap (λ broken. faults_at Templates i 0 broken ++ flat (λ x. faults_at Templates x.0 0 (template_rules ts x)) (enumerate_from (i + 1) ds)) here
      ∙ ap (λ fs. faults_at Templates i 0 (template_broken (length ts) before i d) ++ fs) rest

  pub templates_are : faults_of_items Templates (template_rules ts) ts ≡ templates_broken ts
  templates_are = walk [] 0 ts refl refl

-- ---- parameters

module _ (m : Model) (t : ℕ) (template : Document) where
  abbrev names : List (List ℕ)
  names = map name_in (list_at (codes "params") template)

  parameter_rules_are : (i : ℕ) (d : Document) → parameter_rules m template (i, d) ≡ parameter_broken m (take i names) i d
  unfolding parameter_rules
  parameter_rules_are i d = refl

  parameter_walk : (before : List (List ℕ)) (i : ℕ) (ds : List Document) → before ++ map name_in ds ≡ names → length before ≡ i
      → flat (λ p. faults_at Params t p.0 (parameter_rules m template p)) (enumerate_from i ds) ≡ parameters_broken m t before i ds
  parameter_walk before i [] whole many = refl
  parameter_walk before i (d ∷ ds) whole many =
      let here : parameter_rules m template (i, d) ≡ parameter_broken m before i d =
      parameter_rules_are i d ∙ ap (λ ns. parameter_broken m ns i d) (before_place before (map name_in (d ∷ ds)) names i whole many) in
      let rest = parameter_walk (before ++ name_in d ∷ []) (i + 1) ds (one_more before (map name_in ds) names (name_in d) whole) (one_longer before (name_in d) i many) in
      ap (λ broken. faults_at Params t i broken ++ flat (λ p. faults_at Params t p.0 (parameter_rules m template p)) (enumerate_from (i + 1) ds)) here
      ∙ ap (λ fs. faults_at Params t i (parameter_broken m before i d) ++ fs) rest

  pub template_parameters_are : faults_in_item Params (codes "params") (parameter_rules m template) (t, template) ≡ template_parameters_broken m t template
  template_parameters_are =
      ap (λ fs. faults_at Params t 0 (requires 2 (may_have is_list_value (codes "params") template)) ++ fs) (parameter_walk [] 0 (list_at (codes "params") template) refl refl)

pub parameters_are : (m : Model) (i : ℕ) (ds : List Document)
    → flat (λ t. faults_in_item Params (codes "params") (parameter_rules m t.1) t) (enumerate_from i ds) ≡ all_parameters_broken m i ds
parameters_are m i [] = refl
parameters_are m i (d ∷ ds) =
    ap (λ fs. fs ++ flat (λ t. faults_in_item Params (codes "params") (parameter_rules m t.1) t) (enumerate_from (i + 1) ds)) (template_parameters_are m i d)
    ∙ ap (λ fs. template_parameters_broken m i d ++ fs) (parameters_are m (i + 1) ds)
