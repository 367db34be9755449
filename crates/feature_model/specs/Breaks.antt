-- The rules of a line that a world breaks, in the order in which they are told.
use Rattle.std.specs.Prelude.{ℕ, List, [], ◌∷◌, ◌++◌, Bool, ◌&&◌, if◌then◌else◌, Option, Some, None, Result, Ok, Err}
use Rattle.meaning.specs.Texts.{flat, numbered, holds_at}
use Rattle.meaning.specs.Expressions.{Expression, truth}
use Rattle.meaning.specs.Features.{Feature, Line, implies, is_mandatory, is_or, is_alternative, has_parent, parent_true, or_group_kept, alternative_group_kept}
use Rattle.feature_model.specs.declared.validity.LineRule.{LineRule}
use Rattle.feature_model.specs.declared.validity.LineRule.TheVariants.{Root, Child, Mandatory, OrGroup, Alternative, Constraint}
use Rattle.feature_model.specs.Children.{children}

-- a true feature has a true parent, and the first one needs none
abbrev pub child_kept : List Bool → ℕ × Feature → Bool
child_kept w f = implies (holds_at w f.0) (has_parent w f.0 f.1.parent)

-- a mandatory feature is true where its parent is
abbrev pub mandatory_kept : List Bool → ℕ × Feature → Bool
mandatory_kept w f = implies (is_mandatory f.1.group && parent_true w f.1.parent) (holds_at w f.0)

-- where the feature is true, at least one child of its or-group is
abbrev pub or_kept : List Feature → List Bool → ℕ × Feature → Bool
or_kept fs w f = implies (holds_at w f.0) (or_group_kept w (children is_or fs f.0))

-- where the feature is true, exactly one child of its alternative group is
abbrev pub alternative_kept : List Feature → List Bool → ℕ × Feature → Bool
alternative_kept fs w f = implies (holds_at w f.0) (alternative_group_kept w (children is_alternative fs f.0))

abbrev pub unless : Bool → LineRule → List LineRule
unless kept rule = if kept then [] else rule ∷ []

-- what is broken at a feature
abbrev pub feature_breaks : List Feature → List Bool → ℕ × Feature → List LineRule
feature_breaks fs w f =
    unless (child_kept w f) (Child f.0) ++ unless (mandatory_kept w f) (Mandatory f.0)
    ++ unless (or_kept fs w f) (OrGroup f.0) ++ unless (alternative_kept fs w f) (Alternative f.0)

abbrev pub constraint_breaks : List Bool → ℕ × Expression → List LineRule
constraint_breaks w e = unless (truth e.1 w) (Constraint e.0)

-- the first feature, each feature in turn, then the constraints
abbrev pub breaks : Line → List Bool → List LineRule
breaks line w =
    unless (holds_at w 0) Root ++ flat (feature_breaks line.features w) (numbered line.features)
    ++ flat (constraint_breaks w) (numbered line.constraints)

-- the rule that is told, if there is one
abbrev pub told_rule : Result (Unit {0}) LineRule → Option LineRule
told_rule (Ok done) = None
told_rule (Err rule) = Some rule
