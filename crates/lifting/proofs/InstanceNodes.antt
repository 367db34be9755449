-- What holds of every node that a template can give holds of every node of an instance.
use Rattle.std.proofs.Common.{◌≡◌, ℕ, zero, suc, List, [], ◌++◌, map, Bool, true, false, not, Option, Some, None, refl}
use Rattle.std.specs.Prelude.{cond, option_map, option_and_then, codes}
use Rattle.std.specs.List.{slice_get}
use Rattle.meaning.specs.Texts.{flat}
use Rattle.meaning.specs.Models.{PlainModel}
use Rattle.meaning.specs.Queries.{Query, answers, element_of_variable}
use Rattle.meaning.specs.Cases.{NodeKind}
use Rattle.meaning.specs.Templates.{Template, TemplateNode, TemplateKind, Plain, Uses, Check, Instance, Instances, nothing, node_of, findings_of, annotations, supporters, supported_by, first_node, key_below, key_in_branch, is_guarded_off, instance_by_kind, instance_over, instance_within, instance, last_template, node_count, check_refuted, last_of, first_answer}
use Rattle.meaning.proofs.CutTrees.{Each}
use Rattle.lifting.specs.Lifting.{Seen}
use Rattle.meaning.proofs.Lists.{each_append, each_of_all}
use Rattle.meaning.proofs.Pairs.{each_of_map, each_of_flat}

module _ (labels : ℕ) (m : PlainModel) (templates : List Template) (P : Seen → Type 0)
    (holds_of : (key bound : List ℕ) (kind : NodeKind) (n : TemplateNode) → P (node_of labels m key bound kind n, findings_of labels m bound n)) where
  abbrev HoldsIn : Instance → Type 0
  HoldsIn i = Each P i.nodes

  module _ (below : Instances) (fine : (t : Template) (key bound : List ℕ) (n : ℕ × TemplateNode) → HoldsIn (below t key bound n)) where
    in_all : (is : List Instance) → Each HoldsIn is → Each P (flat (λ i. i.nodes) is)
    in_all is h = each_of_flat P (λ i. i.nodes) is h

    in_supporting : (t : Template) (key bound : List ℕ) (k : ℕ) (q : Option Query) → Each HoldsIn (supported_by below m t key bound k q)
    in_supporting t key bound k None = each_of_map HoldsIn _ (supporters t k) (each_of_all _ (λ x. fine t (key_below key x.0) bound x) (supporters t k))
    in_supporting t key bound k (Some q) =
        each_of_flat HoldsIn (λ answer. map (λ x. below t (key_in_branch key answer x.0) (bound ++ answer) x) (supporters t k)) (answers m q bound)
        (each_of_all _ (λ answer. each_of_map HoldsIn _ (supporters t k) (each_of_all _ (λ x. fine t (key_in_branch key answer x.0) (bound ++ answer) x) (supporters t k))) (answers m q bound))

    in_first : (o : Option Template) (key bound : List ℕ) → HoldsIn (first_node below o key bound)
    in_first None key bound = tt
    in_first (Some t) key bound = go (slice_get t.nodes 0)
      where
        go : (o : Option TemplateNode) → HoldsIn (elim o as (λ _. Instance) [ None ↦ nothing | Some n ↦ below t key bound (0, n) ])
        go None = tt
        go (Some n) = fine t key bound (0, n)

    in_kind : (t : Template) (key bound : List ℕ) (n : ℕ × TemplateNode) (kind : TemplateKind) → HoldsIn (instance_by_kind below labels m templates t key bound n kind)
    in_kind t key bound n (Plain kind) = (
      holds_of key bound kind n.1,
      in_all (map (λ x. below t (key_below key x.0) bound x) (annotations t n.0) ++ supported_by below m t key bound n.0 n.1.each)
          (each_append HoldsIn (map (λ x. below t (key_below key x.0) bound x) (annotations t n.0)) (supported_by below m t key bound n.0 n.1.each)
          (each_of_map HoldsIn _ (annotations t n.0) (each_of_all _ (λ x. fine t (key_below key x.0) bound x) (annotations t n.0))) (in_supporting t key bound n.0 n.1.each)),
    )
    in_kind t key bound n (Uses u arguments) = in_first (slice_get templates u) key (map (element_of_variable bound) arguments)

    in_over : (t : Template) (key bound : List ℕ) (n : ℕ × TemplateNode) → HoldsIn (instance_over below labels m templates t key bound n)
    in_over t key bound n = go (is_guarded_off m bound n.1.guard)
      where
        go : (off : Bool) → HoldsIn (cond off nothing (instance_by_kind below labels m templates t key bound n n.1.kind))
        go true = tt
        go false = in_kind t key bound n n.1.kind

  in_within : (depth : ℕ) (t : Template) (key bound : List ℕ) (n : ℕ × TemplateNode) → HoldsIn (instance_within depth labels m templates t key bound n)
  in_within zero t key bound n = tt
  in_within (suc depth) t key bound n = in_over (instance_within depth labels m templates) (λ u k b x. in_within depth u k b x) t key bound n

  pub in_instance : Each P (instance labels m templates).nodes
  unfolding instance
  in_instance = in_first (instance_within (node_count templates) labels m templates) (in_within (node_count templates)) (last_template templates) (codes "0") []

-- ---- a node without a verdict has no last state and no first answer

abbrev pub TellsNothing : Seen → Type 0
TellsNothing s = s.0.verdict ≡ None → (s.1.last ≡ None) × (s.1.first ≡ None)

pub without_verdict : (labels : ℕ) (m : PlainModel) (templates : List Template) → Each TellsNothing (instance labels m templates).nodes
without_verdict labels m templates = in_instance labels m templates TellsNothing (λ key bound kind n. of_check bound n.check)
  where
    of_check : (bound : List ℕ) (o : Option Check) → option_map (λ c. not (check_refuted labels m bound c)) o ≡ None
        → (option_and_then (last_of labels m bound) o ≡ None) × (option_and_then (first_answer m bound) o ≡ None)
    of_check bound None e = (refl, refl)
    of_check bound (Some c) e = elim (some_is_none (not (check_refuted labels m bound c)) e) [ ]
      where
        some_is_none : (b : Bool) → Some b ≡ None → ⊥
        some_is_none b e = cc
