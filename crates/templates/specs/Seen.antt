-- For private clauses: what is read of the nodes of a template so far.
use Rattle.std.specs.Prelude.{◌≡◌, ℕ, ◌+◌, ◌*◌, ◌<◌, ◌≤◌, List, map, length, take, Some}
use Rattle.std.specs.List.{slice_get, All}
use Rattle.meaning.specs.Documents.{Document}
use Rattle.meaning.specs.BundlePlaces.{Broken}
use Rattle.meaning.specs.QueryTexts.{Scope}
use Rattle.templates.specs.declared.reader.Reader.{Reader}
use Rattle.templates.specs.declared.scopes.Scopes as code
use Rattle.templates.specs.declared.nodes.Seen.{Seen}
use Rattle.templates.specs.NodeRules.{Scopes, scope_here, node_broken}
use Rattle.templates.specs.Readers.{around_of, ids_of}
use Rattle.templates.specs.ScopeReads.{scopes_at}

-- the variables in scope at the nodes so far
abbrev pub scopes_of : code.Scopes → List Scopes
scopes_of s = map (scopes_at s.all.items) s.spots.items

-- the scopes at so many nodes
pub record ScopesFit (parameters : Scope) (s : code.Scopes) (number : ℕ) : Type 0 where
  pub many : length s.spots.items ≡ number
  pub start : slice_get s.all.items 0 ≡ Some parameters
  pub inside : All (λ p. p.scope < length s.all.items) s.spots.items
  pub inside_below : All (λ p. p.below < length s.all.items) s.spots.items
  pub short : All (λ scope. length scope ≤ 8 + 3 * number) s.all.items

-- what is read is that of so many nodes
pub record SeenFits (r : Reader) (s : Seen) (number : ℕ) : Type 0 where
  pub few : r.counted + number ≤ 1024
  pub ids : s.ids ≡ take number (ids_of r)
  pub scopes : ScopesFit r.parameters.now s.scopes number

-- the scope at the next node
abbrev pub scope_next : Reader → Seen → Document → Scope
scope_next r s d = scope_here r.parameters.now (ids_of r) (scopes_of s.scopes) d

-- the rules at the next node
abbrev pub next_broken : Reader → Seen → ℕ → Document → List Broken
next_broken r s i d = node_broken (around_of r) (scopes_of s.scopes) i d
