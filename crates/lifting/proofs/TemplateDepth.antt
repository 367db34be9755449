-- The depth of all nodes is enough: instances, keys and places are the same at every greater depth, so each unfolds once.
use Rattle.std.proofs.Common.{◌≡◌, ℕ, zero, suc, ◌+◌, ◌<◌, ◌≤◌, List, [], ◌∷◌, ◌++◌, map, length, Bool, true, false, not, ◌&&◌, Option, Some, None, refl, ap, ◌∙◌, subst, arith}
use Rattle.std.specs.Prelude.{cond, filter, codes}
use Rattle.std.specs.List.{slice_get, enumerate_from}
use Rattle.std.proofs.lemmas.List.Sums.{sum_by-cons}
use Rattle.meaning.specs.Texts.{numbered}
use Rattle.meaning.specs.Models.{PlainModel}
use Rattle.meaning.specs.Queries.{Query, answers, element_of_variable}
use Rattle.meaning.specs.Templates.{Template, TemplateNode, TemplateKind, Plain, Uses, Instance, Instances, over, nothing, node_of, findings_of, is_under, annotates, annotations, supporters, supported_by, first_node, key_below, key_in_branch, is_guarded_off, instance_by_kind, instance_over, instance_within, instance, last_template, node_count}
use Rattle.meaning.specs.Entries.{under}
use Rattle.meaning.proofs.CutTrees.{Each}
use Rattle.meaning.proofs.EachMembers.{each_filtered, each_by}
use Rattle.lifting.specs.OrderedTemplates.{StandsAt, AreOrdered, instance_of}
use Rattle.meaning.proofs.Lists.{each_two, each_of_all, map_same, flat_same, each_passes}
use Rattle.meaning.proofs.EqualityTests.{equal_numbers, not_both, none_is_some}
use Rattle.meaning.proofs.EmptyLists.{both_true}

-- ---- the nodes of a template with their numbers

module _ {A : Type 0} where
  -- the number counts from k on
  abbrev StandsFrom : ℕ → List A → ℕ × A → Type 0
  StandsFrom k xs x = (i : ℕ) × (x.0 ≡ k + i) × (slice_get xs i ≡ Some x.1)

  stand_from : (k : ℕ) (xs : List A) → Each (StandsFrom k xs) (enumerate_from k xs)
  stand_from k [] = tt
  stand_from k (x ∷ xs) = (
    (0, omega arith, refl),
    each_by (StandsFrom (k + 1) xs) (StandsFrom k (x ∷ xs)) (λ y s. (suc s.0, omega (arith, s.1), s.2)) (enumerate_from (k + 1) xs) (stand_from (k + 1) xs),
  )

  pub each_numbered : (xs : List A) → Each (λ x. slice_get xs x.0 ≡ Some x.1) (numbered xs)
  each_numbered xs =
      each_by (StandsFrom 0 xs) (λ x. slice_get xs x.0 ≡ Some x.1)
      (λ x s. let e : x.0 ≡ s.0 = omega (arith, s.1) in ap (slice_get xs) e ∙ s.2) (numbered xs) (stand_from 0 xs)

-- a node of the template that stands under node k
abbrev pub IsChild : Template → ℕ → ℕ × TemplateNode → Type 0
IsChild t k x = (slice_get t.nodes x.0 ≡ Some x.1) × (x.1.above ≡ Some k)

under_is : (k : ℕ) (above : Option ℕ) → is_under k above ≡ true → above ≡ Some k
under_is k None e = elim (not_both false e refl) [ ]
under_is k (Some j) e = ap Some (equal_numbers j k e)

children_where : (t : Template) (k : ℕ) (p : ℕ × TemplateNode → Bool) → ((x : ℕ × TemplateNode) → p x ≡ true → is_under k x.1.above ≡ true)
    → Each (IsChild t k) (filter p (numbered t.nodes))
children_where t k p f =
    each_two (λ x. slice_get t.nodes x.0 ≡ Some x.1) (λ x. x.1.above ≡ Some k) (filter p (numbered t.nodes))
    (each_filtered (λ x. slice_get t.nodes x.0 ≡ Some x.1) p (numbered t.nodes) (each_numbered t.nodes))
    (each_by (λ x. p x ≡ true) (λ x. x.1.above ≡ Some k) (λ x e. under_is k x.1.above (f x e)) (filter p (numbered t.nodes)) (each_passes p (numbered t.nodes)))

pub annotations_are_children : (t : Template) (k : ℕ) → Each (IsChild t k) (annotations t k)
annotations_are_children t k = children_where t k (λ n. is_under k n.1.above && annotates n.1.kind) (λ x e. (both_true (is_under k x.1.above) (annotates x.1.kind) e).0)

pub supporters_are_children : (t : Template) (k : ℕ) → Each (IsChild t k) (supporters t k)
supporters_are_children t k = children_where t k (λ n. is_under k n.1.above && not (annotates n.1.kind)) (λ x e. (both_true (is_under k x.1.above) (not (annotates x.1.kind)) e).0)

pub under_are_children : (t : Template) (k : ℕ) → Each (IsChild t k) (under t k)
under_are_children t k = children_where t k (λ n. is_under k n.1.above) (λ x e. e)

-- ---- how many nodes stand in the templates before one

abbrev pub nodes_before : List Template → ℕ → ℕ
nodes_before [] i = 0
nodes_before (t ∷ ts) zero = 0
nodes_before (t ∷ ts) (suc i) = length t.nodes + nodes_before ts i

none_below : (i : ℕ) → i < 0 → ⊥
none_below i l = omega (arith, l)

-- an earlier template has its nodes among those before
before_later : (templates : List Template) (u i : ℕ) (v t : Template) → slice_get templates u ≡ Some v → slice_get templates i ≡ Some t → u < i
    → nodes_before templates u + length v.nodes ≤ nodes_before templates i
before_later [] u i v t e f l = elim (none_is_some v e) [ ]
before_later (x ∷ xs) u zero v t e f l = elim (none_below u l) [ ]
before_later (x ∷ xs) zero (suc i) v t e f l = subst (λ y. 0 + length y.nodes ≤ length x.nodes + nodes_before xs i) (same x v e) (omega arith)
  where
    same : (x v : Template) → Some x ≡ Some v → x ≡ v
    same x v e = cc
before_later (x ∷ xs) (suc u) (suc i) v t e f l = omega (arith, before_later xs u i v t e f (omega (arith, l)))

before_all : (templates : List Template) (i : ℕ) (t : Template) → slice_get templates i ≡ Some t → nodes_before templates i + length t.nodes ≤ node_count templates
before_all [] i t e = elim (none_is_some t e) [ ]
before_all (x ∷ xs) zero t e =
    rw (sum_by-cons (λ t. length t.nodes) x xs)
    (subst (λ y. 0 + length y.nodes ≤ length x.nodes + node_count xs) (same x t e) (omega arith))
  where
    same : (x v : Template) → Some x ≡ Some v → x ≡ v
    same x v e = cc
before_all (x ∷ xs) (suc i) t e = rw (sum_by-cons (λ t. length t.nodes) x xs) (omega (arith, before_all xs i t e))

stands_below : {A : Type 0} (xs : List A) (j : ℕ) (x : A) → slice_get xs j ≡ Some x → j < length xs
stands_below [] j x e = elim (none_is_some x e) [ ]
stands_below (y ∷ xs) zero x e = omega arith
stands_below (y ∷ xs) (suc j) x e = omega (arith, stands_below xs j x e)

-- ---- enough depth for a node: what stands before its template, and what is left of it

module _ (templates : List Template) where
  abbrev pub IsDeepEnough : ℕ → ℕ → Template → ℕ → Type 0
  IsDeepEnough depth i t j = nodes_before templates i + length t.nodes ≤ j + depth

  pub never_zero : (i : ℕ) (t : Template) (j : ℕ) (n : TemplateNode) → StandsAt templates i t j n → IsDeepEnough 0 i t j → ⊥
  never_zero i t j n s l = omega (arith, l, stands_below t.nodes j n s.node)

  pub all_are_enough : (i : ℕ) (t : Template) (j : ℕ) → slice_get templates i ≡ Some t → IsDeepEnough (node_count templates) i t j
  all_are_enough i t j e = omega (arith, before_all templates i t e)

  module _ (ordered : AreOrdered templates) (i : ℕ) (t : Template) (j : ℕ) (n : TemplateNode) (s : StandsAt templates i t j n) (depth : ℕ) (l : IsDeepEnough (suc depth) i t j) where
    pub child_stands : (x : ℕ × TemplateNode) → IsChild t j x → StandsAt templates i t x.0 x.1
    child_stands x c = record { template = s.template; node = c.0 }

    pub child_is_deep : (x : ℕ × TemplateNode) → IsChild t j x → IsDeepEnough depth i t x.0
    child_is_deep x c = omega (arith, l, ordered.above_is_earlier i t x.0 x.1 (child_stands x c) j c.1)

    pub used_is_deep : (u : ℕ) (arguments : List ℕ) (v : Template) → n.kind ≡ Uses u arguments → slice_get templates u ≡ Some v → IsDeepEnough depth u v 0
    used_is_deep u arguments v e f =
        omega (arith, l, stands_below t.nodes j n s.node, before_later templates u i v t f s.template (ordered.uses_are_earlier i t j n s u arguments e))

-- ---- instances: two ways of giving those one level below that agree where they are asked

module _ (labels : ℕ) (m : PlainModel) (templates : List Template) (below other : Instances) (t : Template) (n : ℕ × TemplateNode)
    (same_child : (x : ℕ × TemplateNode) → IsChild t n.0 x → (key bound : List ℕ) → below t key bound x ≡ other t key bound x)
    (same_first : (u : ℕ) (arguments : List ℕ) (v : Template) (first : TemplateNode) → n.1.kind ≡ Uses u arguments → slice_get templates u ≡ Some v → slice_get v.nodes 0 ≡ Some first
    → (key bound : List ℕ) → below v key bound (0, first) ≡ other v key bound (0, first)) where
  same_supported : (key bound : List ℕ) (q : Option Query) → supported_by below m t key bound n.0 q ≡ supported_by other m t key bound n.0 q
  same_supported key bound None =
      map_same _ _ (supporters t n.0)
      (each_by (IsChild t n.0) _ (λ x c. same_child x c (key_below key x.0) bound) (supporters t n.0) (supporters_are_children t n.0))
  same_supported key bound (Some q) =
      flat_same _ _ (answers m q bound)
      (each_of_all _
      (λ answer. map_same (λ x. below t (key_in_branch key answer x.0) (bound ++ answer) x) (λ x. other t (key_in_branch key answer x.0) (bound ++ answer) x) (supporters t n.0)
      (each_by (IsChild t n.0) _ (λ x c. same_child x c (key_in_branch key answer x.0) (bound ++ answer)) (supporters t n.0) (supporters_are_children t n.0)))
      (answers m q bound))

  same_use : (u : ℕ) (arguments : List ℕ) → n.1.kind ≡ Uses u arguments → (v : Option Template) → slice_get templates u ≡ v → (key bound : List ℕ)
      → first_node below v key bound ≡ first_node other v key bound
  same_use u arguments k None e key bound = refl
  same_use u arguments k (Some v) e key bound = go (slice_get v.nodes 0) refl
    where
      go : (o : Option TemplateNode) → slice_get v.nodes 0 ≡ o
          → elim o as (λ _. Instance) [ None ↦ nothing | Some x ↦ below v key bound (0, x) ] ≡ elim o as (λ _. Instance) [ None ↦ nothing | Some x ↦ other v key bound (0, x) ]
      go None f = refl
      go (Some first) f = same_first u arguments v first k e f key bound

  same_kind : (key bound : List ℕ) (kind : TemplateKind) → n.1.kind ≡ kind
      → instance_by_kind below labels m templates t key bound n kind ≡ instance_by_kind other labels m templates t key bound n kind
  same_kind key bound (Plain kind) k =
      ap (λ is. over (node_of labels m key bound kind n.1, findings_of labels m bound n.1) (is ++ supported_by below m t key bound n.0 n.1.each))
      (map_same _ _ (annotations t n.0)
      (each_by (IsChild t n.0) _ (λ x c. same_child x c (key_below key x.0) bound) (annotations t n.0) (annotations_are_children t n.0)))
      ∙ ap (λ is. over (node_of labels m key bound kind n.1, findings_of labels m bound n.1) (map (λ x. other t (key_below key x.0) bound x) (annotations t n.0) ++ is))
      (same_supported key bound n.1.each)
  same_kind key bound (Uses u arguments) k = same_use u arguments k (slice_get templates u) refl key (map (element_of_variable bound) arguments)

  pub same_over : (key bound : List ℕ) → instance_over below labels m templates t key bound n ≡ instance_over other labels m templates t key bound n
  same_over key bound = ap (cond (is_guarded_off m bound n.1.guard) nothing) (same_kind key bound n.1.kind refl)

module _ (labels : ℕ) (m : PlainModel) (templates : List Template) (ordered : AreOrdered templates) where
  -- the instance is the same at every depth that is enough
  pub same_at_depths : (d e : ℕ) (i : ℕ) (t : Template) (key bound : List ℕ) (n : ℕ × TemplateNode) → StandsAt templates i t n.0 n.1
      → IsDeepEnough templates d i t n.0 → IsDeepEnough templates e i t n.0
      → instance_within d labels m templates t key bound n ≡ instance_within e labels m templates t key bound n
  same_at_depths zero e i t key bound n s l h = elim (never_zero templates i t n.0 n.1 s l) [ ]
  same_at_depths (suc d) zero i t key bound n s l h = elim (never_zero templates i t n.0 n.1 s h) [ ]
  same_at_depths (suc d) (suc e) i t key bound n s l h =
      same_over labels m templates (instance_within d labels m templates) (instance_within e labels m templates) t n
      (λ x c k b. same_at_depths d e i t k b x (child_stands templates ordered i t n.0 n.1 s d l x c) (child_is_deep templates ordered i t n.0 n.1 s d l x c) (child_is_deep templates ordered i t n.0 n.1 s e h x c))
      (λ u arguments v first kind f g k b. same_at_depths d e u v k b (0, first) (record { template = f; node = g })
      (used_is_deep templates ordered i t n.0 n.1 s d l u arguments v kind f) (used_is_deep templates ordered i t n.0 n.1 s e h u arguments v kind f))
      key bound

  -- so it unfolds, with no count of the depth
  pub instance_unfolds : (i : ℕ) (t : Template) (key bound : List ℕ) (n : ℕ × TemplateNode) → StandsAt templates i t n.0 n.1
      → instance_of labels m templates t key bound n ≡ instance_over (instance_of labels m templates) labels m templates t key bound n
  instance_unfolds i t key bound n s =
      same_at_depths (node_count templates) (suc (node_count templates)) i t key bound n s (all_are_enough templates i t n.0 s.template)
      (omega (arith, all_are_enough templates i t n.0 s.template))

  -- the case of the last template's first node
  pub instance_is_first : instance labels m templates ≡ first_node (instance_of labels m templates) (last_template templates) (codes "0") []
  unfolding instance
  instance_is_first = refl

-- the last template has the last number
pub last_is_at : (templates : List Template) (i : ℕ) → suc i ≡ length templates → last_template templates ≡ slice_get templates i
last_is_at [] i e = elim (no_number i e) [ ]
  where
    no_number : (i : ℕ) → suc i ≡ 0 → ⊥
    no_number i e = omega (arith, e)
last_is_at (t ∷ []) zero e = refl
last_is_at (t ∷ []) (suc i) e = elim (no_number i e) [ ]
  where
    no_number : (i : ℕ) → suc (suc i) ≡ 1 → ⊥
    no_number i e = omega (arith, e)
last_is_at (t ∷ u ∷ ts) zero e = elim (no_number (length ts) e) [ ]
  where
    no_number : (n : ℕ) → 1 ≡ suc (suc n) → ⊥
    no_number n e = omega (arith, e)
last_is_at (t ∷ u ∷ ts) (suc i) e = last_is_at (u ∷ ts) i (omega (arith, e))
