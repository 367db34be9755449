-- No possible key stands twice, and all of them lie below the first.
use Rattle.std.proofs.Common.{◌≡◌, ℕ, zero, suc, ◌+◌, ◌^◌, ◌<◌, ◌≤◌, List, [], ◌∷◌, map, length, true, Option, Some, None, refl, subst, arith}
use Rattle.std.specs.Prelude.{codes}
use Rattle.std.specs.List.{slice_get, enumerate_from}
use Rattle.meaning.specs.Models.{Model, PlainModel}
use Rattle.meaning.specs.Queries.{element_numbers}
use Rattle.meaning.specs.Templates.{Template, TemplateNode, TemplateKind, Plain, Uses, last_template, node_count, key_below, key_in_branch}
use Rattle.meaning.specs.Tidy.{Keys, first_keys, keys_by_kind, keys_within, possible_keys, whole_model, all_differ}
use Rattle.meaning.specs.Derivation.{Bundle}
use Rattle.meaning.proofs.CutTrees.{Each}
use Rattle.meaning.proofs.KeySteps.{IsSmall}
use Rattle.meaning.proofs.Pairs.{each_of_map, all_differ_from_pairs}
use Rattle.meaning.proofs.KeyTexts.{key_below_is, key_in_branch_is}
use Rattle.meaning.proofs.AscendingTuples.{IsAscending, whole_ascends}
use Rattle.meaning.proofs.LowerNodes.{AreKeysUnder, Lower, HasOwnKeys, lower_nodes, keys_of_lower, lower_keys, with_own, lower_differ, lower_small, numbers_below}
use Rattle.meaning.proofs.Lists.{each_of_all}

-- templates whose node numbers decimals tell apart
abbrev pub AreFew : List Template → Type 0
AreFew templates = (u : ℕ) (v : Template) → slice_get templates u ≡ Some v → length v.nodes ≤ 2 ^ 64

module _ (m : PlainModel) (ascending : IsAscending m) (small : Each IsSmall (element_numbers m)) (templates : List Template) (few : AreFew templates) where
  -- one level, where the keys one level below are as they should be
  module _ (below : Keys) (fine : (t : Template) → length t.nodes ≤ 2 ^ 64 → (key : List ℕ) (n : ℕ × TemplateNode) → AreKeysUnder key (below t key n)) (key : List ℕ) where
    used_keys : (o : Option Template) → ((v : Template) → o ≡ Some v → length v.nodes ≤ 2 ^ 64) → AreKeysUnder key (first_keys below o key)
    used_keys None f = record { under = tt; differ = tt }
    used_keys (Some v) f = go (slice_get v.nodes 0)
      where
        go : (o : Option TemplateNode) → AreKeysUnder key (elim o as (λ _. List (List ℕ)) [ None ↦ [] | Some n ↦ below v key (0, n) ])
        go None = record { under = tt; differ = tt }
        go (Some n) = fine v (f v refl) key (0, n)

    module _ (t : Template) (l : length t.nodes ≤ 2 ^ 64) where
      own_keys : (x : Lower) → HasOwnKeys key (keys_of_lower below t key) x
      own_keys (None, x) = subst (λ k. AreKeysUnder k (below t (key_below key x.0) x)) (key_below_is key x.0) (fine t l (key_below key x.0) x)
      own_keys (Some answer, x) = subst (λ k. AreKeysUnder k (below t (key_in_branch key answer x.0) x)) (key_in_branch_is key answer x.0) (fine t l (key_in_branch key answer x.0) x)

      keys_of_kind : (n : ℕ × TemplateNode) (kind : TemplateKind) → AreKeysUnder key (keys_by_kind below m templates t key n kind)
      keys_of_kind n (Plain kind) =
          subst (λ ks. AreKeysUnder key (key ∷ ks)) (lower_keys below m t key n.0 n.1.each)
          (with_own key (keys_of_lower below t key) (lower_nodes m t n.0 n.1.each) (lower_small m small t l n.0 n.1.each)
          (each_of_all (HasOwnKeys key (keys_of_lower below t key)) own_keys (lower_nodes m t n.0 n.1.each)) (lower_differ m ascending t n.0 n.1.each))
      keys_of_kind n (Uses u arguments) = used_keys (slice_get templates u) (few u)

  -- at every depth, of every node: its keys lie below its own, and no two are equal
  pub keys_are_under : (depth : ℕ) (t : Template) → length t.nodes ≤ 2 ^ 64 → (key : List ℕ) (n : ℕ × TemplateNode) → AreKeysUnder key (keys_within depth m templates t key n)
  keys_are_under zero t l key n = record { under = tt; differ = tt }
  keys_are_under (suc depth) t l key n =
      keys_of_kind (keys_within depth m templates) (λ v f k x. keys_are_under depth v f k x) key t l n n.1.kind

-- ---- the keys of a bundle

small_of : (bound k : ℕ) {A : Type 0} (xs : List A) → k + length xs ≤ bound → Each (λ e. e < bound) (map (λ e. e.0) (enumerate_from k xs))
small_of bound k xs h = each_of_map (λ e. e < bound) (λ e. e.0) (enumerate_from k xs) (numbers_below bound k xs h)

-- the numbers of few elements
pub small_elements : (m : Model) → length m.elements ≤ 2 ^ 64 → Each IsSmall (element_numbers (whole_model m))
small_elements m few = small_of (2 ^ 64) 0 m.elements (omega (arith, few))

pub last_is_few : (templates : List Template) → AreFew templates → (v : Template) → last_template templates ≡ Some v → length v.nodes ≤ 2 ^ 64
last_is_few [] few v e = elim (none_is_some e) [ ]
  where
    none_is_some : None ≡ Some v → ⊥
    none_is_some e = cc
last_is_few (t ∷ []) few v e = few 0 v e
last_is_few (t ∷ u ∷ ts) few v e = last_is_few (u ∷ ts) (λ i w f. few (suc i) w f) v e

module _ (b : Bundle) (few_elements : length b.model.elements ≤ 2 ^ 64) (few_nodes : AreFew b.templates) where
  pub possible_keys_under : AreKeysUnder (codes "0") (possible_keys b)
  unfolding possible_keys
  possible_keys_under =
      used_keys (whole_model b.model) (whole_ascends b.model) (small_elements b.model few_elements) b.templates few_nodes
      (keys_within (node_count b.templates) (whole_model b.model) b.templates)
      (keys_are_under (whole_model b.model) (whole_ascends b.model) (small_elements b.model few_elements) b.templates few_nodes (node_count b.templates))
      (codes "0") (last_template b.templates) (last_is_few b.templates few_nodes)

  -- no possible key stands twice
  pub possible_keys_differ : all_differ (possible_keys b) ≡ true
  possible_keys_differ = all_differ_from_pairs (possible_keys b) possible_keys_under.differ
