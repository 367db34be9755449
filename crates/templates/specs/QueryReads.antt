-- For private clauses: what a member tells that is read as a query.
use Rattle.std.specs.Prelude.{◌≡◌, ℕ, ◌≤◌, ◌==◌, List, length, Bool, true, not, Option, Some, None, option_and_then, option_map, codes}
use Rattle.meaning.specs.Documents.{Document}
use Rattle.meaning.specs.Models.{Model}
use Rattle.meaning.specs.Queries as meaning
use Rattle.meaning.specs.QueryTexts.{Scope}
use Rattle.meaning.specs.QueryFaults.{query_fault}
use Rattle.meaning.specs.TemplateTexts.{query_at}
use Rattle.meaning.specs.BundlePlaces.{text_of_member, or_else}
use Rattle.meaning.specs.TemplateRules.{place_if_any, check_in}
use Rattle.path_queries.specs.declared.data.Query.{Query}
use Rattle.path_queries.specs.View.{query}
use Rattle.templates.specs.declared.queries.QueryRead.{QueryRead}
use Rattle.templates.specs.declared.queries.QueryRead.TheVariants as read
use Rattle.templates.specs.declared.queries.NodeQueries.{NodeQueries}

-- new variables and a query, in the words of the definitions
abbrev pub parsed : Scope × Query → Scope × meaning.Query
parsed p = (p.0, query p.1)

-- the byte of the fault of the query of a member, if it is there and has one
abbrev pub place_at_member : Model → Scope → List ℕ → Document → Option ℕ
place_at_member m scope k d = place_if_any (option_and_then (query_fault m scope) (text_of_member k d))

-- the byte of the first fault of the queries of a check
abbrev pub check_place : Model → Scope → Document → Option ℕ
check_place m scope d = or_else (place_at_member m scope (codes "none") (check_in d)) (place_at_member m scope (codes "some") (check_in d))

-- the member is a query without a fault, with at most three new variables
pub record IsParsed (m : Model) (scope : Scope) (k : List ℕ) (d : Document) (new : Scope) (q : Query) : Type 0 where
  pub none : option_and_then (query_fault m scope) (text_of_member k d) ≡ None
  pub value : query_at m scope k d ≡ Some (new, query q)
  pub few : length new ≤ 3

abbrev pub Told : Model → Scope → List ℕ → Document → QueryRead → Type 0
Told m scope k d read.Absent = text_of_member k d ≡ None
Told m scope k d (read.Fault at) = place_at_member m scope k d ≡ Some at
Told m scope k d (read.Parsed new q) = IsParsed m scope k d new q

-- ---- what is read

abbrev pub value_of : QueryRead → Option (Scope × Query)
value_of (read.Parsed new q) = Some (new, q)
value_of _ = None

abbrev pub fault_place : QueryRead → Option ℕ
fault_place (read.Fault at) = Some at
fault_place _ = None

-- there is a new variable, if there is a query without a fault
abbrev pub has_new : QueryRead → Bool
has_new (read.Parsed new q) = not (length new == 0)
has_new _ = true

-- at most three new variables, if there is a query
abbrev pub HasFew : Option (Scope × Query) → Type 0
HasFew None = Unit {0}
HasFew (Some p) = length p.0 ≤ 3

-- the queries of a node are those of its members
pub record AreRead (m : Model) (scope : Scope) (d : Document) (queries : NodeQueries) : Type 0 where
  pub each : option_map parsed queries.each ≡ query_at m scope (codes "each") d
  pub few : HasFew queries.each
  pub guard : option_map parsed queries.guard ≡ query_at m scope (codes "guard") d
  pub absent : option_map parsed queries.check.absent ≡ query_at m scope (codes "none") (check_in d)
  pub demanded : option_map parsed queries.check.demanded ≡ query_at m scope (codes "some") (check_in d)
