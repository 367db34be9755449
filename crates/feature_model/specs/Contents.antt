-- What contracts see of a line, and the line of the definitions that it is.
use Rattle.std.specs.Prelude.{ℕ, ◌+◌, ◌<◌, ◌≤◌, List, [], ◌∷◌, length, All, Option, Some, None, map}
use Rattle.meaning.specs.Features.{Feature, Line, is_or, is_alternative}
use Rattle.meaning.specs.Expressions.{Expression, name_bound, size_of}
use Rattle.cond_text.specs.declared.expr.Expr.{Expr}
use Rattle.cond_text.specs.View.{expression}
use Rattle.feature_model.specs.Children.{children_of_first}

pub record Contents : Type 0 where
  pub features : List Feature
  pub constraints : List Expr

abbrev pub line_view : Contents → Line
line_view c = record { features = c.features; constraints = map expression c.constraints }

-- the feature is one of the first n, if there is one
abbrev pub IsBelow : ℕ → Option ℕ → Type 0
IsBelow n None = Unit {0}
IsBelow n (Some p) = p < n

-- what always holds of a line
pub record IsProper (c : Contents) : Type 0 where
  pub few : length c.features ≤ 256
  pub parents : All (λ f. IsBelow (length c.features) f.parent) c.features
  pub few_children : children_of_first is_or c.features (length c.features) + children_of_first is_alternative c.features (length c.features) ≤ length c.features
  pub few_constraints : length c.constraints ≤ 1024
  pub bounds : All (λ e. name_bound (expression e) ≤ length c.features) c.constraints

-- the nodes of the constraints, and one more for each
abbrev pub expressions_size : List Expression → ℕ
expressions_size [] = 0
expressions_size (e ∷ es) = 1 + size_of e + expressions_size es

abbrev pub constraints_size : Contents → ℕ
constraints_size c = expressions_size (map expression c.constraints)
