-- The rules at a node that read the variables in scope: the first one that is broken is the first of all.
use Rattle.std.proofs.Common.{◌≡◌, refl, ap, sym, ◌∙◌, subst, ℕ, ◌≤◌, List, [], ◌++◌, Bool, length, map, take, append_assoc, Option, Some, None, arith}
use Rattle.std.specs.Prelude.{Result, Ok, Err, IfOk, ◌&&◌, codes, option_map, option_and_then, unwrap_or}
use Rattle.meaning.specs.Documents.{Document, text_at, truth_at, member_of}
use Rattle.meaning.specs.Models.{Model}
use Rattle.meaning.specs.Queries as meaning
use Rattle.meaning.specs.QueryTexts.{Scope}
use Rattle.meaning.specs.TemplateTexts.{kind_of, parts_of, query_at, check_of, placed}
use Rattle.meaning.specs.BundlePlaces.{Nodes, Broken, requires, broken_at, faults_at}
use Rattle.meaning.specs.TemplateRules.{NodeContext, has_what_it_needs, has_nothing_else, undeveloped_is_right, first_query_fault, place_if_any, hole_fault_of_node, check_is_right, use_is_right}
use Rattle.doc_tree.specs.declared.fault.Part.TheVariants as part
use Rattle.doc_tree.specs.Places.{part_of}
use Rattle.doc_tree.specs.View.{documents}
use Rattle.path_queries.specs.declared.data.Query.{Query}
use Rattle.path_queries.specs.View.{query}
use Rattle.templates.specs.declared.data.TNode.{TNode}
use Rattle.templates.specs.declared.fault.Place.{Place}
use Rattle.templates.specs.declared.fault.TemplateStop.{TemplateStop}
use Rattle.templates.specs.declared.queries.QueryRead.{QueryRead}
use Rattle.templates.specs.declared.reader.Reader.{Reader}
use Rattle.templates.specs.Faults.{IsFirst, faults_here}
use Rattle.templates.specs.View.{piece_view, check_view, kind_view, node_view}
use Rattle.templates.specs.NodeRules.{among, members_right}
use Rattle.templates.specs.QueryReads.{parsed, Told, has_new, HasFew}
use Rattle.templates.specs.Readers.{sees, members_broken, texts_broken, scoped_broken}
use Rattle.templates.proofs.Firsts.{broken_in_front, broken_behind}
use Rattle.templates.proofs.QueryLaws.{told_variables}

-- what stops at the first or the second of two lists of rules at a place stops at both
pub here_in_front : (place : Place) (xs ys : List Broken) (stop : TemplateStop) → IsFirst (faults_here place xs) stop → IsFirst (faults_here place (xs ++ ys)) stop
here_in_front place xs ys stop first = broken_in_front (part_of place.part) place.item place.sub xs ys stop first

pub here_behind : (place : Place) (xs ys : List Broken) (stop : TemplateStop) → xs ≡ [] → IsFirst (faults_here place ys) stop → IsFirst (faults_here place (xs ++ ys)) stop
here_behind place xs ys stop none first = broken_behind (part_of place.part) place.item place.sub xs ys stop none first

pub none_of_both : (xs ys : List Broken) → xs ≡ [] → ys ≡ [] → xs ++ ys ≡ []
none_of_both xs ys a b = ap (λ zs. zs ++ ys) a ∙ b

module _ (r : Reader) (scope : Scope) (i : ℕ) (d : Document) where
  abbrev above : NodeContext
  above = among r.counted (documents r.nodes.now)

  abbrev queries : List Broken
  queries = broken_at 26 (place_if_any (first_query_fault (sees r scope) (0, d)))

  abbrev holes : List Broken
  holes = broken_at 27 (hole_fault_of_node (sees r scope) (0, d))

  abbrev checks : List Broken
  checks = requires 28 (check_is_right (sees r scope) (0, d))

  abbrev uses : List Broken
  uses = requires 29 (use_is_right (sees r scope) (0, d))

  -- the members by what is read of `each`
  pub members_are : (each : QueryRead) (fit : Bool) → Told r.model.now scope (codes "each") d each
      → fit ≡ (has_what_it_needs d && has_nothing_else (i, d) && undeveloped_is_right above (i, d) && has_new each) → fit ≡ members_right above (sees r scope) (i, d)
  members_are each fit told is =
      is ∙ ap (λ b. has_what_it_needs d && has_nothing_else (i, d) && undeveloped_is_right above (i, d) && b)
      (told_variables r.model.now (documents (take r.number r.docs.now)) scope d each told)

  -- all rules: those on the members, on the queries, and on the texts
  abbrev in_parts : List Broken
  in_parts = members_broken r scope i d ++ queries ++ texts_broken r scope d

  parts_are : in_parts ≡ scoped_broken r scope i d
  parts_are =
      let front = members_broken r scope i d ++ queries in
      sym (append_assoc front holes (checks ++ uses)) ∙ sym (append_assoc (front ++ holes) checks uses)

  pub none_is : members_broken r scope i d ≡ [] → queries ≡ [] → texts_broken r scope d ≡ [] → scoped_broken r scope i d ≡ []
  none_is a b c =
      let front = members_broken r scope i d ++ queries in
      sym parts_are ∙ none_of_both front (texts_broken r scope d) (none_of_both (members_broken r scope i d) queries a b) c

  module _ (place : Place) (place_is : place ≡ record { part = part.Nodes; item = r.number; sub = i }) (stop : TemplateStop) where
    abbrev Stops : Type 0
    Stops = IsFirst (faults_at Nodes r.number i (scoped_broken r scope i d)) stop

    here : IsFirst (faults_here place in_parts) stop → Stops
    here first = subst (λ bs. IsFirst (faults_at Nodes r.number i bs) stop) parts_are (subst (λ p. IsFirst (faults_here p in_parts) stop) place_is first)

    past_queries : IsFirst (faults_here place (members_broken r scope i d ++ queries)) stop → Stops
    past_queries first = here (here_in_front place (members_broken r scope i d ++ queries) (texts_broken r scope d) stop first)

    pub members_stop : IsFirst (faults_here place (members_broken r scope i d)) stop → Stops
    members_stop first = past_queries (here_in_front place (members_broken r scope i d) queries stop first)

    module _ (a : members_broken r scope i d ≡ []) where
      pub queries_stop : IsFirst (faults_here place queries) stop → Stops
      queries_stop first = past_queries (here_behind place (members_broken r scope i d) queries stop a first)

      pub texts_stop : queries ≡ [] → IsFirst (faults_here place (texts_broken r scope d)) stop → Stops
      texts_stop b first =
          here (here_behind place (members_broken r scope i d ++ queries) (texts_broken r scope d) stop (none_of_both (members_broken r scope i d) queries a b) first)

-- what holds anyhow holds where there is a value
pub anyhow : {X E : Type 0} (result : Result X E) (P : Type 0) → P → IfOk result (λ _. P)
anyhow (Ok x) P p = p
anyhow (Err e) P p = tt

-- ---- the node itself

-- a query without its variables, and its variables alone
pub query_alone_is : (q : Option (Scope × Query)) (there : Option (Scope × meaning.Query)) → option_map parsed q ≡ there
    → option_map query (option_map (λ p. p.1) q) ≡ option_map (λ p. p.1) there
query_alone_is None there is = ap (option_map (λ p. p.1)) is
query_alone_is (Some p) there is = ap (option_map (λ p. p.1)) is

pub new_is : (q : Option (Scope × Query)) (there : Option (Scope × meaning.Query)) → option_map parsed q ≡ there
    → option_map (λ p. p.0) q ≡ option_map (λ p. p.0) there
new_is None there is = ap (option_map (λ p. p.0)) is
new_is (Some p) there is = ap (option_map (λ p. p.0)) is

pub few_new : (q : Option (Scope × Query)) → HasFew q → length (unwrap_or (option_map (λ p. p.0) q) []) ≤ 3
few_new None few = omega arith
few_new (Some p) few = few

-- a node whose parts are those of the document
pub node_is : (m : Model) (names : List (List ℕ)) (above : Option ℕ) (scope : Scope) (d : Document) (n : TNode)
    → n.id ≡ text_at (codes "id") d
    → kind_view n.args n.kind ≡ kind_of names scope d
    → n.under ≡ above
    → map piece_view n.text ≡ parts_of m scope (text_at (codes "text") d)
    → option_map query n.each ≡ option_map (λ q. q.1) (query_at m scope (codes "each") d)
    → option_map query n.guard ≡ option_map (λ q. q.1) (query_at m scope (codes "guard") d)
    → option_map check_view n.check ≡ option_and_then (check_of m scope) (member_of (codes "check") d)
    → n.undeveloped ≡ truth_at (codes "undeveloped") d
    → node_view n ≡ (placed m names above scope d).node
node_is m names above scope d n id kind under words each guard check undeveloped = rw (id, kind, under, words, each, guard, check, undeveloped) refl
