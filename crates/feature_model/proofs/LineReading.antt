-- The line that a table tells, from its features and its rules.
use Rattle.std.proofs.Common.{◌≡◌, ◌∙◌, sym, ap, ap₂, List, [], ◌++◌, map, true}
use Rattle.std.specs.Prelude.{codes, Result, Ok, Err, IfOk}
use Rattle.meaning.specs.Documents.{Document, list_at}
use Rattle.meaning.specs.Features.{Feature, Line, feature_names, feature_of, constraint_of, line_from}
use Rattle.meaning.specs.BundlePlaces.{BundleFault, Features, Rules, requires, faults_at, faults_of_items, may_have, is_list_value, name_in}
use Rattle.meaning.specs.LineRules.{has_features, feature_rules, line_rule_rules}
use Rattle.cond_text.specs.View.{expression}
use Rattle.feature_model.specs.Contents.{Contents, line_view}
use Rattle.feature_model.specs.Reading.{names_told, features_broken, rules_broken}
use Rattle.feature_model.proofs.FeatureReading.{names_of_features}

pub both_ok : {T E : Type 0} (r : Result T E) (P Q : T → Type 0) → IfOk r P → IfOk r Q → IfOk r (λ x. P x × Q x)
both_ok (Ok x) P Q p q = (p, q)
both_ok (Err e) P Q p q = tt

module _ (t : Document) where
  -- the names of the features that were read
  pub names_read : (line : Contents) (ds : List Document) → ds ≡ list_at (codes "features") t → line.features ≡ map (feature_of (map name_in ds)) ds
      → feature_names (line_view line) ≡ names_told t
  names_read line ds is e =
      ap (map (λ (f : Feature). f.name)) e ∙ (names_of_features (map name_in ds) ds ∙ ap (map name_in) is)

  pub line_told : (line read : Contents) (ds rs : List Document) → ds ≡ list_at (codes "features") t → rs ≡ list_at (codes "rules") t
      → line.features ≡ map (feature_of (map name_in ds)) ds
      → read.features ≡ line.features → map expression read.constraints ≡ map (constraint_of (feature_names (line_view line))) rs
      → line_view read ≡ line_from (names_told t) t
  line_told line read ds rs is_features is_rules features same constraints =
      let make : List Feature → List _ → Line = λ fs cs. record { features = fs; constraints = cs } in
      ap₂ make
      (same ∙ (features ∙ ap (λ ds. map (feature_of (map name_in ds)) ds) is_features))
      (constraints ∙ ap₂ (λ ns ds. map (constraint_of ns) ds) (names_read line ds is_features features) is_rules)

  pub nothing_broken_in : (line : Contents) (ds rs : List Document) → ds ≡ list_at (codes "features") t → rs ≡ list_at (codes "rules") t
      → line.features ≡ map (feature_of (map name_in ds)) ds → has_features t ≡ true → may_have is_list_value (codes "rules") t ≡ true
      → faults_of_items Features (feature_rules (map name_in ds)) ds ≡ []
      → (xs : List BundleFault) → faults_of_items Rules (line_rule_rules (feature_names (line_view line))) rs ≡ xs
      → features_broken t ++ rules_broken t ≡ xs
  nothing_broken_in line ds rs is_features is_rules features some lists none xs e =
      ap₂ (λ a b. a ++ b)
      (ap₂ (λ b fs. faults_at Features 0 0 (requires 2 b) ++ fs) some (sym (ap (λ ds. faults_of_items Features (feature_rules (map name_in ds)) ds) is_features) ∙ none))
      (ap₂ (λ b fs. faults_at Rules 0 0 (requires 2 b) ++ fs) lists
      (sym (ap₂ (λ ns rs. faults_of_items Rules (line_rule_rules ns) rs) (names_read line ds is_features features) is_rules) ∙ e))
