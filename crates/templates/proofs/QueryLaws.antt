-- What is read of the queries of a node is what the rules on them tell.
use Rattle.std.proofs.Common.{◌≡◌, refl, sym, ap, ◌∙◌, subst, ℕ, suc, ◌≤◌, List, [], ◌∷◌, ◌++◌, length, Bool, true, false, Option, Some, None, arith}
use Rattle.std.specs.Prelude.{◌&&◌, ◌||◌, not, ◌==◌, nat_le, codes, unwrap_or, option_map, option_and_then, is_some, IfErr, IfOk}
use Rattle.std.proofs.lemmas.Bool.{leb-true}
use Rattle.meaning.specs.Texts.{is_text}
use Rattle.meaning.specs.Documents.{Document, text_at}
use Rattle.meaning.specs.Models.{Model}
use Rattle.meaning.specs.Queries as meaning
use Rattle.meaning.specs.QueryTexts.{Scope, query_of}
use Rattle.meaning.specs.QueryFaults.{query_fault}
use Rattle.meaning.specs.TemplateTexts.{query_at}
use Rattle.meaning.specs.BundlePlaces.{Part, broken_at, faults_at, if_some, member_within, text_within, text_of_member, or_else}
use Rattle.meaning.specs.ExpressionFaults.{TextFault, place_in_text}
use Rattle.meaning.specs.TemplateRules.{place_if_any, or_empty, check_in, node_texts_fit, first_query_fault, each_has_variables, query_has_variables}
use Rattle.annotated_model.proofs.ItemFacts.{left_true, right_true}
use Rattle.path_queries.specs.declared.data.Query.{Query}
use Rattle.path_queries.specs.View.{query}
use Rattle.templates.specs.declared.fault.TemplateStop.{TemplateStop}
use Rattle.templates.specs.declared.fault.TemplateStop.TheVariants.{Fault, NoMemory}
use Rattle.templates.specs.declared.queries.QueryRead.{QueryRead}
use Rattle.templates.specs.declared.queries.QueryRead.TheVariants as read
use Rattle.templates.specs.Faults.{IsFirst}
use Rattle.templates.specs.NodeRules.{seeing}
use Rattle.templates.specs.QueryReads.{parsed, place_at_member, check_place, IsParsed, Told, value_of, fault_place, has_new, HasFew}

-- ---- lengths of texts

-- the text of a member that is within a limit
pub member_is_short : (limit : ℕ) (k : List ℕ) (d : Document) (text : List ℕ) → text_of_member k d ≡ Some text → member_within limit k d ≡ true → length text ≤ limit
member_is_short limit k d text is within =
    let there : text_at k d ≡ text = ap (λ o. unwrap_or o []) is in
    let short : nat_le (length text) limit ≡ true = subst (λ s. nat_le (length s) limit ≡ true) there (right_true (is_text (text_at k d)) _ within) in
    leb-true (length text) limit short

-- what the lengths of the texts of a node are
pub record TextsFit (d : Document) : Type 0 where
  pub words : member_within 512 (codes "text") d ≡ true
  pub each : member_within 4096 (codes "each") d ≡ true
  pub guard : member_within 4096 (codes "guard") d ≡ true
  pub never : member_within 4096 (codes "never") (check_in d) ≡ true
  pub absent : member_within 4096 (codes "none") (check_in d) ≡ true
  pub demanded : member_within 4096 (codes "some") (check_in d) ≡ true

pub texts_fit : (d : Document) → node_texts_fit d ≡ true → TextsFit d
texts_fit d e =
    let five = left_true _ _ e in
    let four = left_true _ _ five in
    let three = left_true _ _ four in
    let two = left_true _ _ three in
    record {
      words = left_true _ _ two;
      each = right_true _ _ two;
      guard = right_true _ _ three;
      never = right_true _ _ four;
      absent = right_true _ _ five;
      demanded = right_true _ _ e;
    }

-- ---- places of faults

pub place_or_else : (a b : Option TextFault) → place_if_any (or_else a b) ≡ or_else (place_if_any a) (place_if_any b)
place_or_else None b = refl
place_or_else (Some f) b = refl

-- the first of two places
pub first_place : (part : Part) (item sub : ℕ) (a b : Option ℕ) (stop : TemplateStop)
    → IsFirst (faults_at part item sub (broken_at 26 a)) stop → IsFirst (faults_at part item sub (broken_at 26 (or_else a b))) stop
first_place part item sub None b (Fault f) first = absurd cc
first_place part item sub None b NoMemory first = tt
first_place part item sub (Some at) b stop first = first

pub second_place : (part : Part) (item sub : ℕ) (a b : Option ℕ) (stop : TemplateStop) → a ≡ None
    → IsFirst (faults_at part item sub (broken_at 26 b)) stop → IsFirst (faults_at part item sub (broken_at 26 (or_else a b))) stop
second_place part item sub a b stop none first = subst (λ o. IsFirst (faults_at part item sub (broken_at 26 (or_else o b))) stop) (sym none) first

pub no_place : (a b : Option ℕ) → a ≡ None → b ≡ None → or_else a b ≡ None
no_place a b e f = ap (λ o. or_else o b) e ∙ f

-- ---- what was read

module _ (m : Model) (scope : Scope) (k : List ℕ) (d : Document) where
  pub told_place : (r : QueryRead) → Told m scope k d r → place_at_member m scope k d ≡ fault_place r
  told_place read.Absent t = ap (λ o. place_if_any (option_and_then (query_fault m scope) o)) t
  told_place (read.Fault at) t = t
  told_place (read.Parsed new q) t = ap place_if_any t.none

  pub told_value : (r : QueryRead) → Told m scope k d r → fault_place r ≡ None → option_map parsed (value_of r) ≡ query_at m scope k d
  told_value read.Absent t e = sym (ap (option_and_then (query_of m scope)) t)
  told_value (read.Fault at) t e = absurd cc
  told_value (read.Parsed new q) t e = sym t.value

  pub told_few : (r : QueryRead) → Told m scope k d r → HasFew (value_of r)
  told_few read.Absent t = tt
  told_few (read.Fault at) t = tt
  told_few (read.Parsed new q) t = t.few

pub told_variables : (m : Model) (earlier : List Document) (scope : Scope) (d : Document) (r : QueryRead) → Told m scope (codes "each") d r
    → has_new r ≡ each_has_variables (seeing m earlier scope) (0, d)
told_variables m earlier scope d read.Absent t = sym (ap (if_some (query_has_variables (seeing m earlier scope) 0)) t)
told_variables m earlier scope d (read.Fault at) t = go (text_of_member (codes "each") d) t
  where
    faulty : (s : List ℕ) (o : Option TextFault) → query_fault m scope s ≡ o → place_if_any o ≡ Some at → true ≡ query_has_variables (seeing m earlier scope) 0 s
    faulty s None is e = absurd cc
    faulty s (Some f) is e = sym (ap (λ o. is_some o || not (length (or_empty (option_map (λ q. q.0) (query_of m scope s))) == 0)) is)

    go : (o : Option (List ℕ)) → place_if_any (option_and_then (query_fault m scope) o) ≡ Some at → true ≡ if_some (query_has_variables (seeing m earlier scope) 0) o
    go None e = absurd cc
    go (Some s) e = faulty s (query_fault m scope s) refl e
told_variables m earlier scope d (read.Parsed new q) t = go (text_of_member (codes "each") d) t.none t.value
  where
    go : (o : Option (List ℕ)) → option_and_then (query_fault m scope) o ≡ None → option_and_then (query_of m scope) o ≡ Some (new, query q)
        → not (length new == 0) ≡ if_some (query_has_variables (seeing m earlier scope) 0) o
    go None none value = absurd cc
    go (Some s) none value =
        sym (ap (λ o. is_some o || not (length (or_empty (option_map (λ p. p.0) (query_of m scope s))) == 0)) none
        ∙ ap (λ o. not (length (or_empty (option_map (λ p. p.0) o)) == 0)) value)

-- ---- the queries of a node

module _ (m : Model) (earlier : List Document) (scope : Scope) (d : Document) where
  abbrev own : List ℕ → Option TextFault
  own k = option_and_then (query_fault m scope) (text_of_member k d)

  abbrev of_check : List ℕ → Option TextFault
  of_check k = option_and_then (query_fault m scope) (text_of_member k (check_in d))

  pub first_place_is : place_if_any (first_query_fault (seeing m earlier scope) (0, d))
      ≡ or_else (place_at_member m scope (codes "each") d) (or_else (place_at_member m scope (codes "guard") d) (check_place m scope d))
  first_place_is =
      place_or_else (own (codes "each")) (or_else (own (codes "guard")) (or_else (of_check (codes "none")) (of_check (codes "some"))))
      ∙ (ap (or_else (place_if_any (own (codes "each")))) (place_or_else (own (codes "guard")) (or_else (of_check (codes "none")) (of_check (codes "some"))))
      ∙ ap (λ o. or_else (place_if_any (own (codes "each"))) (or_else (place_if_any (own (codes "guard"))) o)) (place_or_else (of_check (codes "none")) (of_check (codes "some"))))
