-- What the check of a node checks, by its expression and its queries.
use Rattle.std.proofs.Common.{◌≡◌, refl, sym, ap, ◌∙◌, subst, ℕ, List, Bool, Option, Some, None}
use Rattle.std.specs.Prelude.{codes, option_map, option_and_then, unwrap_or}
use Rattle.meaning.specs.Documents.{Document, Members, table, no_members, as_text, as_table, member_of, value_of, text_at}
use Rattle.meaning.specs.Expressions.{Expression, Top, expression_of}
use Rattle.meaning.specs.Models.{Model, text_if}
use Rattle.meaning.specs.Queries as meaning
use Rattle.meaning.specs.QueryTexts.{Scope, query_of}
use Rattle.meaning.specs.Systems.{Never}
use Rattle.meaning.specs.Templates.{Check, OfSystem}
use Rattle.meaning.specs.TemplateTexts.{variable_of, query_at, check_from, check_of}
use Rattle.meaning.specs.TemplateRules.{check_in}
use Rattle.templates.specs.CheckReads.{never_in, without_expression}

-- a member of the check of a node is one of its table
pub member_in_check : (k : List ℕ) (d v : Document) → member_of (codes "check") d ≡ Some v → member_of k (check_in d) ≡ member_of k v
member_in_check k d v is = ap (λ o. member_of k (table (unwrap_or (option_and_then as_table o) no_members))) is ∙ go (as_table v)
  where
    go : (o : Option Members) → option_and_then (value_of k) (Some (unwrap_or o no_members)) ≡ option_and_then (value_of k) o
    go None = refl
    go (Some ms) = refl

pub never_in_check : (labels : List (List ℕ)) (d v : Document) → member_of (codes "check") d ≡ Some v → never_in labels (check_in d) ≡ never_in labels v
never_in_check labels d v is = ap (λ o. option_map (λ e. unwrap_or (expression_of labels e) Top) (option_and_then as_text o)) (member_in_check (codes "never") d v is)

pub query_in_check : (m : Model) (scope : Scope) (k : List ℕ) (d v : Document) → member_of (codes "check") d ≡ Some v → query_at m scope k (check_in d) ≡ query_at m scope k v
query_in_check m scope k d v is = ap (λ o. option_and_then (query_of m scope) (option_and_then as_text o)) (member_in_check k d v is)

module _ (m : Model) (scope : Scope) (d : Document) where
  abbrev queries : List ℕ → Option meaning.Query
  queries k = option_map (λ q. q.1) (query_at m scope k d)

  -- with an expression
  pub check_with : (e : Expression) → Some e ≡ never_in m.labels d → Some (OfSystem (Never e) (variable_of scope (text_at (codes "of") d))) ≡ check_of m scope d
  check_with e is = go (text_if (codes "never") d) is
    where
      go : (o : Option (List ℕ)) → Some e ≡ option_map (λ x. unwrap_or (expression_of m.labels x) Top) o
          → Some (OfSystem (Never e) (variable_of scope (text_at (codes "of") d)))
          ≡ check_from m scope d o (text_if (codes "deadlock") d) (queries (codes "none")) (queries (codes "some"))
      go None is = absurd cc
      go (Some x) is =
          let same : e ≡ unwrap_or (expression_of m.labels x) Top = cc in ap (λ f. Some (OfSystem (Never f) (variable_of scope (text_at (codes "of") d)))) same

  -- without one
  pub check_without : (absent demanded : Option (Scope × meaning.Query)) → None ≡ never_in m.labels d → absent ≡ query_at m scope (codes "none") d → demanded ≡ query_at m scope (codes "some") d
      → without_expression scope (text_if (codes "deadlock") d) absent demanded ≡ check_of m scope d
  check_without absent demanded none a b =
      parts (text_if (codes "never") d) (text_if (codes "deadlock") d) absent demanded none
      ∙ (ap (λ o. check_from m scope d (text_if (codes "never") d) (text_if (codes "deadlock") d) (option_map (λ q. q.1) o) (option_map (λ q. q.1) demanded)) a
      ∙ ap (λ o. check_from m scope d (text_if (codes "never") d) (text_if (codes "deadlock") d) (queries (codes "none")) (option_map (λ q. q.1) o)) b)
    where
      parts : (never deadlock : Option (List ℕ)) (a b : Option (Scope × meaning.Query)) → None ≡ option_map (λ x. unwrap_or (expression_of m.labels x) Top) never
          → without_expression scope deadlock a b ≡ check_from m scope d never deadlock (option_map (λ q. q.1) a) (option_map (λ q. q.1) b)
      parts (Some x) deadlock a b none = absurd cc
      parts None (Some x) a b none = refl
      parts None None (Some p) b none = refl
      parts None None None (Some p) none = refl
      parts None None None None none = refl
