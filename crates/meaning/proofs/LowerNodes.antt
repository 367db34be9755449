-- The nodes below a template node, each with the answer that it is for: no two are the same, so their keys differ.
use Rattle.std.proofs.Common.{◌≡◌, ◌≢◌, ℕ, ◌+◌, ◌^◌, ◌<◌, ◌≤◌, List, [], ◌∷◌, ◌++◌, map, length, Bool, true, false, not, ◌&&◌, ◌==◌, Option, Some, None, refl, sym, ap, ◌∙◌, arith}
use Rattle.std.specs.Prelude.{cond, filter}
use Rattle.std.specs.List.{enumerate_from, list_any}
use Rattle.meaning.specs.Texts.{flat, numbered}
use Rattle.meaning.specs.Models.{PlainModel}
use Rattle.meaning.specs.Queries.{Query, tuples, element_numbers}
use Rattle.meaning.specs.Templates.{Template, TemplateNode, is_under, annotates, annotations, supporters, key_below, key_in_branch}
use Rattle.meaning.specs.Tidy.{Keys, keys_below, is_before}
use Rattle.meaning.proofs.CutTrees.{Each}
use Rattle.meaning.proofs.EachMembers.{each_filtered, each_by}
use Rattle.meaning.proofs.KeySteps.{step_text, key_under, IsSmall, IsSmallAnswer, IsUnder}
use Rattle.meaning.proofs.Lists.{each_append, flat_append, flat_of_map, flat_of_flat, each_of_all, flat_same, each_two}
use Rattle.meaning.proofs.TupleElements.{each_of_tuples}
use Rattle.meaning.proofs.KeyTexts.{step_has_no_slash, step_injective, under_itself, under_step, apart_below, apart_from_below}
use Rattle.meaning.proofs.Members.{Pairwise}
use Rattle.meaning.proofs.Pairs.{each_of_map, each_of_flat, pairs_append, pairs_filtered, pairs_by, pairs_where, pairs_mapped, pairs_flat}
use Rattle.meaning.proofs.AscendingTuples.{IsAscending, numbers_ascend, tuples_ascend, before_differ}

-- keys that lie below one, no two of them equal
pub record AreKeysUnder (key : List ℕ) (keys : List (List ℕ)) : Type 0 where
  pub under : Each (IsUnder key) keys
  pub differ : Pairwise (λ a b. a ≢ b) keys

-- ---- a lower node: the answer that it is for, if any, and itself with its number

abbrev pub Lower : Type 0
Lower = Option (List ℕ) × (ℕ × TemplateNode)

abbrev pub step_of : Lower → List ℕ
step_of x = step_text x.0 x.1.0

abbrev pub AreTwo : Lower → Lower → Type 0
AreTwo x y = x.0 ≡ y.0 → x.1.0 ≡ y.1.0 → ⊥

abbrev pub IsSmallLower : Lower → Type 0
IsSmallLower x = IsSmallAnswer x.0 × IsSmall x.1.0

steps_differ : (x y : Lower) → IsSmallLower x → IsSmallLower y → AreTwo x y → step_of x ≢ step_of y
steps_differ x y p q two e = let both : (x.0 ≡ y.0) × (x.1.0 ≡ y.1.0) = step_injective x.0 y.0 x.1.0 y.1.0 p.0 q.0 p.1 q.1 e in two both.0 both.1

no_slash : (x : Lower) → IsSmallLower x → list_any (λ d. d == 47) (step_of x) ≡ false
no_slash x p = step_has_no_slash x.0 x.1.0 p.0 p.1

module _ (key : List ℕ) (keys : Lower → List (List ℕ)) where
  abbrev pub HasOwnKeys : Lower → Type 0
  HasOwnKeys x = AreKeysUnder (key_under key (step_of x)) (keys x)

  all_apart : (some others : List (List ℕ)) (one two : Lower) → IsSmallLower one → IsSmallLower two → AreTwo one two
      → Each (IsUnder (key_under key (step_of one))) some → Each (IsUnder (key_under key (step_of two))) others → Each (λ a. Each (λ b. a ≢ b) others) some
  all_apart some others one two p q d h g =
      each_by (IsUnder (key_under key (step_of one))) (λ a. Each (λ b. a ≢ b) others)
      (λ a u. each_by (IsUnder (key_under key (step_of two))) (λ b. a ≢ b)
      (λ b v. apart_below key (step_of one) (step_of two) a b (no_slash one p) (no_slash two q) (steps_differ one two p q d) u v) others g)
      some h

  -- where the lower nodes are two and two different, so are the keys below them
  pub lower_keys_differ : (xs : List Lower) → Each IsSmallLower xs → Each HasOwnKeys xs → Pairwise AreTwo xs → Pairwise (λ a b. a ≢ b) (flat keys xs)
  lower_keys_differ xs p h d =
      pairs_flat (λ a b. a ≢ b) keys xs (each_by HasOwnKeys (λ x. Pairwise (λ a b. a ≢ b) (keys x)) (λ x k. k.differ) xs h)
      (pairs_where (λ x. IsSmallLower x × HasOwnKeys x) AreTwo (λ x y. Each (λ a. Each (λ b. a ≢ b) (keys y)) (keys x))
      (λ x y a b t. all_apart (keys x) (keys y) x y a.0 b.0 t a.1.under b.1.under) xs (each_two IsSmallLower HasOwnKeys xs p h) d)

  pub lower_keys_under : (xs : List Lower) → Each HasOwnKeys xs → Each (λ k. IsUnder key k × key ≢ k) (flat keys xs)
  lower_keys_under xs h =
      each_of_flat (λ k. IsUnder key k × key ≢ k) keys xs
      (each_by HasOwnKeys (λ x. Each (λ k. IsUnder key k × key ≢ k) (keys x))
      (λ x k. each_by (IsUnder (key_under key (step_of x))) (λ k. IsUnder key k × key ≢ k) (λ k u. (under_step key (step_of x) k u, apart_from_below key (step_of x) k u)) (keys x) k.under) xs h)

  pub with_own : (xs : List Lower) → Each IsSmallLower xs → Each HasOwnKeys xs → Pairwise AreTwo xs → AreKeysUnder key (key ∷ flat keys xs)
  with_own xs p h d = record {
    under = (under_itself key, each_by (λ k. IsUnder key k × key ≢ k) (IsUnder key) (λ k u. u.0) (flat keys xs) (lower_keys_under xs h));
    differ = (each_by (λ k. IsUnder key k × key ≢ k) (λ k. key ≢ k) (λ k u. u.1) (flat keys xs) (lower_keys_under xs h), lower_keys_differ xs p h d);
  }

-- ---- the lower nodes of a template node

abbrev pub alone : ℕ × TemplateNode → Lower
alone x = (None, x)

abbrev pub for_answer : List ℕ → ℕ × TemplateNode → Lower
for_answer answer x = (Some answer, x)

abbrev pub supporting : PlainModel → Template → ℕ → Option Query → List Lower
supporting m t k None = map alone (supporters t k)
supporting m t k (Some q) = flat (λ answer. map (for_answer answer) (supporters t k)) (tuples m q.variables)

abbrev pub lower_nodes : PlainModel → Template → ℕ → Option Query → List Lower
lower_nodes m t k q = map alone (annotations t k) ++ supporting m t k q

abbrev pub keys_of_lower : Keys → Template → List ℕ → Lower → List (List ℕ)
keys_of_lower below t key (None, x) = below t (key_below key x.0) x
keys_of_lower below t key (Some answer, x) = below t (key_in_branch key answer x.0) x

module _ (below : Keys) (m : PlainModel) (t : Template) (key : List ℕ) (k : ℕ) where
  supporting_keys : (q : Option Query) → flat (keys_of_lower below t key) (supporting m t k q) ≡ keys_below below m t key k q
  supporting_keys None = flat_of_map (keys_of_lower below t key) alone (supporters t k)
  supporting_keys (Some q) =
      flat_of_flat (keys_of_lower below t key) (λ answer. map (for_answer answer) (supporters t k)) (tuples m q.variables)
      ∙ flat_same _ _ (tuples m q.variables) (each_of_all _ (λ answer. flat_of_map (keys_of_lower below t key) (for_answer answer) (supporters t k)) (tuples m q.variables))

  pub lower_keys : (q : Option Query) → flat (keys_of_lower below t key) (lower_nodes m t k q) ≡ flat (λ x. below t (key_below key x.0) x) (annotations t k) ++ keys_below below m t key k q
  lower_keys q =
      flat_append (keys_of_lower below t key) (map alone (annotations t k)) (supporting m t k q)
      ∙ ap (λ ks. ks ++ flat (keys_of_lower below t key) (supporting m t k q)) (flat_of_map (keys_of_lower below t key) alone (annotations t k))
      ∙ ap (λ ks. flat (λ x. below t (key_below key x.0) x) (annotations t k) ++ ks) (supporting_keys q)

-- ---- no two lower nodes of a template node are the same

number_is_above : {A : Type 0} (k j : ℕ) (xs : List A) → j < k → Each (λ e. j ≢ e.0) (enumerate_from k xs)
number_is_above k j [] l = tt
number_is_above k j (x ∷ xs) l = ((λ e. omega (arith, l, e)), number_is_above (k + 1) j xs (omega (arith, l)))

-- two filters that keep no element both keep no number both
module _ {A : Type 0} (p q : ℕ × A → Bool) (apart : (x : ℕ × A) → p x ≡ true → q x ≡ true → ⊥) where
  abbrev Apart : List (ℕ × A) → List (ℕ × A) → Type 0
  Apart xs ys = Each (λ x. Each (λ y. x.0 ≢ y.0) ys) xs

  one_more : (y : ℕ × A) (ys xs : List (ℕ × A)) → Each (λ x. y.0 ≢ x.0) xs → Apart xs ys → Apart xs (y ∷ ys)
  one_more y ys [] h g = tt
  one_more y ys (x ∷ xs) h g = (((λ e. h.0 (sym e)), g.0), one_more y ys xs h.1 g.1)

  filters_apart : (k : ℕ) (xs : List A) → Apart (filter p (enumerate_from k xs)) (filter q (enumerate_from k xs))
  filters_apart k [] = tt
  filters_apart k (v ∷ xs) = go (p (k, v)) (q (k, v)) refl refl (filters_apart (k + 1) xs)
    where
      rest : List (ℕ × A)
      rest = enumerate_from (k + 1) xs

      above : Each (λ e. k ≢ e.0) rest
      above = number_is_above (k + 1) k xs (omega arith)

      go : (a b : Bool) → p (k, v) ≡ a → q (k, v) ≡ b → Apart (filter p rest) (filter q rest)
          → Apart (cond a ((k, v) ∷ filter p rest) (filter p rest)) (cond b ((k, v) ∷ filter q rest) (filter q rest))
      go true true e f h = elim (apart (k, v) e f) [ ]
      go true false e f h = (each_filtered (λ e. k ≢ e.0) q rest above, h)
      go false true e f h = one_more (k, v) (filter q rest) (filter p rest) (each_filtered (λ e. k ≢ e.0) p rest above) h
      go false false e f h = h

module _ (m : PlainModel) (ascending : IsAscending m) (t : Template) (k : ℕ) where
  supporters_ascend : Pairwise (λ x y. x.0 < y.0) (supporters t k)
  supporters_ascend = pairs_filtered (λ x y. x.0 < y.0) (λ n. is_under k n.1.above && not (annotates n.1.kind)) (numbered t.nodes) (numbers_ascend 0 t.nodes)

  annotations_ascend : Pairwise (λ x y. x.0 < y.0) (annotations t k)
  annotations_ascend = pairs_filtered (λ x y. x.0 < y.0) (λ n. is_under k n.1.above && annotates n.1.kind) (numbered t.nodes) (numbers_ascend 0 t.nodes)

  by_numbers : (f : ℕ × TemplateNode → Lower) → ((x : ℕ × TemplateNode) → (f x).1.0 ≡ x.0) → (xs : List (ℕ × TemplateNode)) → Pairwise (λ x y. x.0 < y.0) xs → Pairwise AreTwo (map f xs)
  by_numbers f same xs h =
      pairs_mapped AreTwo f xs (pairs_by (λ x y. x.0 < y.0) (λ x y. AreTwo (f x) (f y)) (λ x y l e g. omega (arith, l, same x, same y, g)) xs h)

  supporting_differ : (q : Option Query) → Pairwise AreTwo (supporting m t k q)
  supporting_differ None = by_numbers alone (λ x. refl) (supporters t k) supporters_ascend
  supporting_differ (Some q) =
      pairs_flat AreTwo (λ answer. map (for_answer answer) (supporters t k)) (tuples m q.variables)
      (each_of_all _ (λ answer. by_numbers (for_answer answer) (λ x. refl) (supporters t k) supporters_ascend) (tuples m q.variables))
      (pairs_by is_before (λ a b. Each (λ x. Each (AreTwo x) (map (for_answer b) (supporters t k))) (map (for_answer a) (supporters t k)))
      (λ a b i. each_of_map _ (for_answer a) (supporters t k)
      (each_of_all _ (λ x. each_of_map (AreTwo (for_answer a x)) (for_answer b) (supporters t k) (each_of_all _ (λ y e f. before_differ a b i (same_answer a b e)) (supporters t k))) (supporters t k)))
      (tuples m q.variables) (tuples_ascend m ascending q.variables))
    where
      same_answer : (a b : List ℕ) → Some a ≡ Some b → a ≡ b
      same_answer a b e = cc

  apart_from_supporting : (q : Option Query) → Each (λ x. Each (AreTwo x) (supporting m t k q)) (map alone (annotations t k))
  apart_from_supporting None =
      each_of_map _ alone (annotations t k)
      (each_by (λ x. Each (λ y. x.0 ≢ y.0) (supporters t k)) _
      (λ x h. each_of_map (AreTwo (alone x)) alone (supporters t k) (each_by (λ y. x.0 ≢ y.0) _ (λ y d e f. d f) (supporters t k) h))
      (annotations t k)
      (filters_apart (λ n. is_under k n.1.above && annotates n.1.kind) (λ n. is_under k n.1.above && not (annotates n.1.kind)) (λ x e f. not_both (is_under k x.1.above) (annotates x.1.kind) e f) 0 t.nodes))
    where
      not_both : (a b : Bool) → (a && b) ≡ true → (a && not b) ≡ true → ⊥
      not_both true true e f = cc
      not_both true false e f = cc
      not_both false b e f = cc
  apart_from_supporting (Some q) =
      each_of_map _ alone (annotations t k)
      (each_of_all _
      (λ x. each_of_flat (AreTwo (alone x)) (λ answer. map (for_answer answer) (supporters t k)) (tuples m q.variables)
      (each_of_all _ (λ answer. each_of_map (AreTwo (alone x)) (for_answer answer) (supporters t k) (each_of_all _ (λ y e f. no_answer answer e) (supporters t k))) (tuples m q.variables)))
      (annotations t k))
    where
      no_answer : (answer : List ℕ) → None ≡ Some answer → ⊥
      no_answer answer e = cc

  pub lower_differ : (q : Option Query) → Pairwise AreTwo (lower_nodes m t k q)
  lower_differ q =
      pairs_append AreTwo (map alone (annotations t k)) (supporting m t k q) (by_numbers alone (λ x. refl) (annotations t k) annotations_ascend) (supporting_differ q) (apart_from_supporting q)

-- ---- and their numbers are small

pub numbers_below : {A : Type 0} (bound k : ℕ) (xs : List A) → k + length xs ≤ bound → Each (λ e. e.0 < bound) (enumerate_from k xs)
numbers_below bound k [] h = tt
numbers_below bound k (x ∷ xs) h = (omega (arith, h), numbers_below bound (k + 1) xs (omega (arith, h)))

module _ (m : PlainModel) (small : Each IsSmall (element_numbers m)) (t : Template) (few : length t.nodes ≤ 2 ^ 64) (k : ℕ) where
  small_numbers : Each (λ e. e.0 < 2 ^ 64) (numbered t.nodes)
  small_numbers = numbers_below (2 ^ 64) 0 t.nodes (omega (arith, few))

  supporters_are_small : Each (λ x. IsSmall x.0) (supporters t k)
  supporters_are_small = each_filtered (λ x. IsSmall x.0) (λ n. is_under k n.1.above && not (annotates n.1.kind)) (numbered t.nodes) small_numbers

  supporting_small : (q : Option Query) → Each IsSmallLower (supporting m t k q)
  supporting_small None = each_of_map IsSmallLower alone (supporters t k) (each_by (λ x. IsSmall x.0) (λ x. IsSmallLower (alone x)) (λ x l. (tt, l)) (supporters t k) supporters_are_small)
  supporting_small (Some q) =
      each_of_flat IsSmallLower (λ answer. map (for_answer answer) (supporters t k)) (tuples m q.variables)
      (each_by (Each IsSmall) (λ answer. Each IsSmallLower (map (for_answer answer) (supporters t k)))
      (λ answer s. each_of_map IsSmallLower (for_answer answer) (supporters t k)
      (each_by (λ x. IsSmall x.0) (λ x. IsSmallLower (for_answer answer x)) (λ x l. (s, l)) (supporters t k) supporters_are_small))
      (tuples m q.variables) (each_of_tuples IsSmall m small q.variables))

  pub lower_small : (q : Option Query) → Each IsSmallLower (lower_nodes m t k q)
  lower_small q =
      each_append IsSmallLower (map alone (annotations t k)) (supporting m t k q)
      (each_of_map IsSmallLower alone (annotations t k)
      (each_by (λ x. IsSmall x.0) (λ x. IsSmallLower (alone x)) (λ x l. (tt, l)) (annotations t k)
      (each_filtered (λ x. IsSmall x.0) (λ n. is_under k n.1.above && annotates n.1.kind) (numbered t.nodes) small_numbers)))
      (supporting_small q)
