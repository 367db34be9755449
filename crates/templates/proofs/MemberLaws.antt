-- Where a node stands, and the holes of its text.
use Rattle.std.proofs.Common.{◌≡◌, ◌≢◌, refl, sym, ap, ◌∙◌, subst, ℕ, zero, suc, List, [], ◌∷◌, map, take, Bool, true, false, Option, Some, None, arith}
use Rattle.std.specs.Prelude.{◌&&◌, not, codes, option_map, option_and_then, unwrap_or, is_some}
use Rattle.std.specs.List.{slice_get}
use Rattle.meaning.specs.Texts.{place_of}
use Rattle.meaning.specs.Documents.{Document, as_text, member_of, text_at}
use Rattle.meaning.specs.Models.{Model, text_if}
use Rattle.meaning.specs.QueryTexts.{Scope}
use Rattle.meaning.specs.BundlePlaces.{has, text_of_member}
use Rattle.meaning.specs.HoleFaults.{text_hole_fault}
use Rattle.meaning.specs.TemplateRules.{id_in, kind_in, KindWord, is_goal, is_strategy, stands_in_place, stands_under_it, number_above, hole_fault_of_node}
use Rattle.templates.specs.NodeRules.{among, seeing, above_in}
use Rattle.templates.proofs.UseLaws.{place_behind}

-- ---- holes

no_text : (m : Model) (scope : Scope) (counts : Bool) → text_hole_fault m scope counts [] ≡ None
unfolding text_hole_fault
no_text m scope counts = refl

pub hole_fault_is : (m : Model) (earlier : List Document) (scope : Scope) (d : Document)
    → text_hole_fault m scope (is_strategy (kind_in d) && has (codes "each") d) (text_at (codes "text") d) ≡ hole_fault_of_node (seeing m earlier scope) (0, d)
hole_fault_is m earlier scope d = go (text_of_member (codes "text") d)
  where
    go : (o : Option (List ℕ)) → text_hole_fault m scope (is_strategy (kind_in d) && has (codes "each") d) (unwrap_or o [])
        ≡ option_and_then (text_hole_fault m scope (is_strategy (kind_in d) && has (codes "each") d)) o
    go None = no_text m scope (is_strategy (kind_in d) && has (codes "each") d)
    go (Some s) = refl

-- ---- places

module _ (nodes : List Document) (d : Document) where
  pub stands_first : (number : ℕ) → number ≡ 0 → (is_goal (kind_in d) && not (has (codes "under") d)) ≡ stands_in_place (among 0 nodes) (number, d)
  stands_first number e = subst (λ n. (is_goal (kind_in d) && not (has (codes "under") d)) ≡ stands_in_place (among 0 nodes) (n, d)) (sym e) refl

  pub stands_later : (number : ℕ) → number ≢ 0 → (above : Option ℕ) → above ≡ number_above (among 0 nodes) (number, d)
      → stands_under_it (kind_in d) (option_and_then (slice_get nodes) above) ≡ stands_in_place (among 0 nodes) (number, d)
  stands_later zero ne above is = absurd (ne refl)
  stands_later (suc j) ne above is = ap (λ o. stands_under_it (kind_in d) (option_and_then (slice_get nodes) o)) is

  -- a node in its place stands under the node with the identifier that it names
  pub above_is : (number : ℕ) → stands_in_place (among 0 nodes) (number, d) ≡ true → above_in (map id_in nodes) d ≡ number_above (among 0 nodes) (number, d)
  above_is zero e = first (member_of (codes "under") d) (is_goal (kind_in d)) e
    where
      first : (o : Option Document) (g : Bool) → (g && not (is_some o)) ≡ true
          → option_and_then (λ s. place_of s (map id_in nodes)) (option_and_then as_text o)
          ≡ option_and_then (λ s. place_of s (take 0 (map id_in nodes))) (option_and_then as_text o)
      first None g e = refl
      first (Some v) true e = absurd cc
      first (Some v) false e = absurd cc
  above_is (suc j) e = later (text_of_member (codes "under") d) e
    where
      found : (s : List ℕ) (o : Option ℕ) → place_of s (take (suc j) (map id_in nodes)) ≡ o → stands_under_it (kind_in d) (option_and_then (slice_get nodes) o) ≡ true
          → place_of s (map id_in nodes) ≡ o
      found s None is e = absurd cc
      found s (Some p) is e = place_behind s (map id_in nodes) (suc j) p is

      later : (o : Option (List ℕ)) → stands_under_it (kind_in d) (option_and_then (slice_get nodes) (option_and_then (λ s. place_of s (take (suc j) (map id_in nodes))) o)) ≡ true
          → option_and_then (λ s. place_of s (map id_in nodes)) o ≡ option_and_then (λ s. place_of s (take (suc j) (map id_in nodes))) o
      later None e = refl
      later (Some s) e = found s (place_of s (take (suc j) (map id_in nodes))) refl e
