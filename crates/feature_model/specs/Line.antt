-- The fields of a line.
use Rattle.std.specs.Prelude.{◌≡◌, ℕ, ◌+◌, ◌≤◌, List, [], ◌∷◌, length, All, slice_get, Some}
use Rattle.meaning.specs.Expressions.{name_bound}
use Rattle.meaning.specs.Features.{Feature, is_or, is_alternative}
use Rattle.cond_text.specs.View.{expression}
use Rattle.feature_model.specs.declared.line.Placed.{Placed}
use Rattle.feature_model.specs.declared.line.Line.TheInside.{Inside}
use Rattle.feature_model.specs.Groups.{group_view}
use Rattle.feature_model.specs.Contents.{Contents, IsBelow}
use Rattle.feature_model.specs.Children.{members_of, AreChildren, total}

abbrev pub feature_with : List ℕ → Placed → Feature
feature_with name p = record { name = name; parent = p.parent; group = group_view p.group }

-- the features with these names, in these places
abbrev pub features_with : List (List ℕ) → List Placed → List Feature
features_with [] ps = []
features_with (n ∷ ns) [] = []
features_with (n ∷ ns) (p ∷ ps) = feature_with n p ∷ features_with ns ps

abbrev pub contents_of : Inside → Contents
contents_of l = record { features = features_with l.names l.placed.items; constraints = l.constraints.items }

-- what always holds of a line's fields
pub record IsSound (l : Inside) : Type 0 where
  pub few : length l.names ≤ 256
  pub all_placed : length l.placed.items ≡ length l.names
  pub parents : All (λ p. IsBelow (length l.names) p.parent) l.placed.items
  pub ors : AreChildren is_or (features_with l.names l.placed.items) (members_of l.ors.items)
  pub alternatives : AreChildren is_alternative (features_with l.names l.placed.items) (members_of l.alternatives.items)
  pub few_children : total (members_of l.ors.items) + total (members_of l.alternatives.items) ≤ length l.names
  pub few_constraints : length l.constraints.items ≤ 1024
  pub bounds : All (λ e. name_bound (expression e) ≤ length l.names) l.constraints.items

-- the feature with this number stands in this place
pub record IsPlaced (features : List Feature) (at : ℕ) (p : Placed) : Type 0 where
  pub name : List ℕ
  pub there : slice_get features at ≡ Some (feature_with name p)
