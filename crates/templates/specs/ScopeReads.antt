-- For private clauses: how the variables in scope at nodes are kept.
use Rattle.std.specs.Prelude.{ℕ, zero, List, [], ◌∷◌, ◌++◌, Bool, if◌then◌else◌, Option, Some, None, option_and_then}
use Rattle.std.specs.List.{slice_get}
use Rattle.meaning.specs.QueryTexts.{Scope}
use Rattle.meaning.specs.TemplateRules.{or_empty}
use Rattle.templates.specs.declared.scopes.Spot.{Spot}
use Rattle.templates.specs.NodeRules.{Scopes}

-- the scopes at a spot
abbrev pub scopes_at : List Scope → Spot → Scopes
scopes_at all s = (or_empty (slice_get all s.scope), or_empty (slice_get all s.below))

-- the place of the scope under a spot, or of the parameters
abbrev pub place_at : Bool → Option Spot → ℕ
place_at annotation None = 0
place_at annotation (Some s) = if annotation then s.scope else s.below

abbrev pub place_below : Bool → Option ℕ → List Spot → ℕ
place_below annotation above spots = place_at annotation (option_and_then (slice_get spots) above)

-- what a node adds: a scope and a spot, of the scope at the node and the new variables of its `each`
abbrev pub added_scope : Option Scope → Option Scope → List Scope
added_scope scope None = []
added_scope scope (Some new) = (or_empty scope ++ new) ∷ []

abbrev pub added_spot : (place count : ℕ) → Option Scope → Spot
added_spot place count None = record { scope = place; below = place }
added_spot place count (Some new) = record { scope = place; below = count }
