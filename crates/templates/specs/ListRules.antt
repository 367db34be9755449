-- For private clauses: the rules at templates and parameters, over what their reader has: the names before, and the numbers.
use Rattle.std.specs.Prelude.{ℕ, ◌+◌, List, [], ◌∷◌, ◌++◌, map, length, Bool, not, ◌||◌, ◌==◌, Option, Some, codes, is_some}
use Rattle.meaning.specs.Texts.{is_name}
use Rattle.meaning.specs.Documents.{Document, text_at, list_at}
use Rattle.meaning.specs.Models.{Model}
use Rattle.meaning.specs.QueryTexts.{Scope, type_number}
use Rattle.meaning.specs.TemplateTexts.{parameter_of}
use Rattle.meaning.specs.BundlePlaces.{Part, Templates, Params, BundleFault, Broken, requires, where_formed, faults_at, may_have, is_list_value, name_in, is_among}
use Rattle.meaning.specs.LineRules.{is_within}
use Rattle.meaning.specs.TemplateRules.{templates_in, template_has_form, has_nodes, list_rules, parameter_has_form}
use Rattle.annotated_model.specs.Items.{named_form, faults_after}

-- ---- templates

-- the template of a number is not the last of so many, or has no parameters
abbrev pub last_is_plain : ℕ → ℕ → Document → Bool
last_is_plain count i d = not (i + 1 == count) || (length (list_at (codes "params") d) == 0)

abbrev pub template_broken : ℕ → List (List ℕ) → ℕ → Document → List Broken
template_broken count before i d =
    where_formed (named_form (template_has_form d) (is_name (name_in d)) (not (is_among before (name_in d))) (is_within 256 i))
    (requires 23 (last_is_plain count i d) ++ requires 24 (has_nodes d))

abbrev pub templates_broken : List Document → List BundleFault
templates_broken ds = faults_after Templates name_in (template_broken (length ds)) [] 0 ds

-- the list of templates, then each of them
abbrev pub list_broken : Document → List BundleFault
list_broken bundle = faults_at Templates 0 0 (list_rules bundle) ++ templates_broken (templates_in bundle)

-- ---- parameters

abbrev pub parameter_broken : Model → List (List ℕ) → ℕ → Document → List Broken
parameter_broken m before i d =
    where_formed (named_form (parameter_has_form d) (is_name (name_in d)) (not (is_among before (name_in d))) (is_within 8 i))
    (requires 23 (is_some (type_number m (text_at (codes "type") d))))

-- the parameters of the template of a number, from a number on, each after the names of those before it
abbrev pub parameters_broken : Model → ℕ → List (List ℕ) → ℕ → List Document → List BundleFault
parameters_broken m t before i [] = []
parameters_broken m t before i (d ∷ ds) = faults_at Params t i (parameter_broken m before i d) ++ parameters_broken m t (before ++ name_in d ∷ []) (i + 1) ds

abbrev pub template_parameters_broken : Model → ℕ → Document → List BundleFault
template_parameters_broken m t d =
    faults_at Params t 0 (requires 2 (may_have is_list_value (codes "params") d)) ++ parameters_broken m t [] 0 (list_at (codes "params") d)

-- the parameters of each template, from a number on
abbrev pub all_parameters_broken : Model → ℕ → List Document → List BundleFault
all_parameters_broken m t [] = []
all_parameters_broken m t (d ∷ ds) = template_parameters_broken m t d ++ all_parameters_broken m (t + 1) ds

-- ---- what is read of parameters

abbrev pub parameters_in : Model → Document → Scope
parameters_in m d = map (parameter_of m) (list_at (codes "params") d)

-- the types that the parameters name
abbrev pub types_named : Model → List Document → List (Option ℕ)
types_named m ds = map (λ d. type_number m (text_at (codes "type") d)) ds

abbrev pub types_known : Scope → List (Option ℕ)
types_known ps = map (λ p. Some p.1) ps
