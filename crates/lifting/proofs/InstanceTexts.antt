-- Each node of an instance is a node of a template, under a key that is a text.
use Rattle.std.proofs.Common.{◌≡◌, ℕ, zero, suc, ◌≤◌, ◌^◌, List, [], ◌∷◌, ◌++◌, map, length, Bool, true, false, not, ◌&&◌, Option, Some, None, refl, arith}
use Rattle.std.specs.Prelude.{cond, codes, filter}
use Rattle.std.specs.List.{slice_get}
use Rattle.meaning.specs.Texts.{is_text, numbered}
use Rattle.meaning.specs.Models.{PlainModel}
use Rattle.meaning.specs.Queries.{Query, answers, element_of_variable, element_numbers}
use Rattle.meaning.specs.Cases.{NodeKind}
use Rattle.meaning.specs.Templates.{Template, TemplateNode, TemplateKind, Plain, Uses, Instance, Instances, nothing, node_of, findings_of, is_under, annotates, annotations, supporters, supported_by, first_node, key_below, key_in_branch, is_guarded_off, instance_by_kind, instance_over, instance_within, instance, last_template, node_count}
use Rattle.meaning.proofs.CutTrees.{Each}
use Rattle.meaning.proofs.EachMembers.{each_by, each_filtered}
use Rattle.lifting.specs.Lifting.{Seen}
use Rattle.meaning.proofs.KeySteps.{IsSmall}
use Rattle.lifting.specs.OrderedTemplates.{StandsAt}
use Rattle.lifting.proofs.CaseTexts.{below_is_text, in_branch_is_text}
use Rattle.meaning.proofs.EqualityTests.{none_is_some}
use Rattle.meaning.proofs.KeysDiffer.{AreFew}
use Rattle.meaning.proofs.Lists.{each_append, each_two}
use Rattle.meaning.proofs.LowerNodes.{numbers_below}
use Rattle.meaning.proofs.Pairs.{each_of_map, each_of_flat}
use Rattle.lifting.proofs.TemplateDepth.{each_numbered}
use Rattle.lifting.proofs.ThereElements.{each_of_answers}

-- it is a template's node, for some elements, under a key that is a text
pub record IsOfTemplate (labels : ℕ) (m : PlainModel) (templates : List Template) (s : Seen) : Type 0 where
  pub number : ℕ
  pub template : Template
  pub place : ℕ
  pub node : TemplateNode
  pub stands : StandsAt templates number template place node
  pub kind : NodeKind
  pub of_kind : node.kind ≡ Plain kind
  pub key : List ℕ
  pub text : is_text key ≡ true
  pub bound : List ℕ
  pub is : s ≡ (node_of labels m key bound kind node, findings_of labels m bound node)

module _ (labels : ℕ) (m : PlainModel) (small : Each IsSmall (element_numbers m)) (templates : List Template) (few : AreFew templates) where
  abbrev AreOfTemplates : Instance → Type 0
  AreOfTemplates i = Each (IsOfTemplate labels m templates) i.nodes

  -- a lower node has a small number, and stands there
  abbrev IsLower : Template → ℕ × TemplateNode → Type 0
  IsLower t x = (slice_get t.nodes x.0 ≡ Some x.1) × IsSmall x.0

  each_lower : (t : Template) → length t.nodes ≤ 2 ^ 64 → (p : ℕ × TemplateNode → Bool) → Each (IsLower t) (filter p (numbered t.nodes))
  each_lower t l p =
      each_filtered (IsLower t) p (numbered t.nodes)
      (each_two (λ x. slice_get t.nodes x.0 ≡ Some x.1) (λ x. IsSmall x.0) (numbered t.nodes) (each_numbered t.nodes) (numbers_below (2 ^ 64) 0 t.nodes (omega (arith, l))))

  -- one level, where the nodes one level below are as they should be
  module _ (below : Instances)
      (fine : (i : ℕ) (t : Template) (key bound : List ℕ) (n : ℕ × TemplateNode) → StandsAt templates i t n.0 n.1 → is_text key ≡ true → AreOfTemplates (below t key bound n)) where
    in_first : (o : Option Template) → ((v : Template) → o ≡ Some v → (i : ℕ) × (slice_get templates i ≡ Some v)) → (key bound : List ℕ) → is_text key ≡ true
        → AreOfTemplates (first_node below o key bound)
    in_first None f key bound e = tt
    in_first (Some v) f key bound e = go (slice_get v.nodes 0) refl
      where
        go : (o : Option TemplateNode) → slice_get v.nodes 0 ≡ o → AreOfTemplates (elim o as (λ _. Instance) [ None ↦ nothing | Some n ↦ below v key bound (0, n) ])
        go None s = tt
        go (Some n) s = fine (f v refl).0 v key bound (0, n) (record { template = (f v refl).1; node = s }) e

    module _ (i : ℕ) (t : Template) (here : slice_get templates i ≡ Some t) where
      lower : (key bound : List ℕ) (x : ℕ × TemplateNode) → IsLower t x → is_text (key_below key x.0) ≡ true → AreOfTemplates (below t (key_below key x.0) bound x)
      lower key bound x s e = fine i t (key_below key x.0) bound x (record { template = here; node = s.0 }) e

      all_lower : (p : ℕ × TemplateNode → Bool) (key bound : List ℕ) → is_text key ≡ true
          → Each AreOfTemplates (map (λ x. below t (key_below key x.0) bound x) (filter p (numbered t.nodes)))
      all_lower p key bound e =
          each_of_map AreOfTemplates (λ x. below t (key_below key x.0) bound x) (filter p (numbered t.nodes))
          (each_by (IsLower t) _ (λ x s. lower key bound x s (below_is_text key x.0 e s.1)) (filter p (numbered t.nodes)) (each_lower t (few i t here) p))

      in_branch : (p : ℕ × TemplateNode → Bool) (key bound answer : List ℕ) → is_text key ≡ true → Each IsSmall answer
          → Each AreOfTemplates (map (λ x. below t (key_in_branch key answer x.0) (bound ++ answer) x) (filter p (numbered t.nodes)))
      in_branch p key bound answer e a =
          each_of_map AreOfTemplates (λ x. below t (key_in_branch key answer x.0) (bound ++ answer) x) (filter p (numbered t.nodes))
          (each_by (IsLower t) _
          (λ x s. fine i t (key_in_branch key answer x.0) (bound ++ answer) x (record { template = here; node = s.0 }) (in_branch_is_text key answer x.0 e a s.1))
          (filter p (numbered t.nodes)) (each_lower t (few i t here) p))

      supporting : (key bound : List ℕ) (k : ℕ) (q : Option Query) → is_text key ≡ true → Each AreOfTemplates (supported_by below m t key bound k q)
      supporting key bound k None e = all_lower (λ n. is_under k n.1.above && not (annotates n.1.kind)) key bound e
      supporting key bound k (Some q) e =
          each_of_flat AreOfTemplates (λ answer. map (λ x. below t (key_in_branch key answer x.0) (bound ++ answer) x) (supporters t k)) (answers m q bound)
          (each_by (Each IsSmall) _ (λ answer a. in_branch (λ n. is_under k n.1.above && not (annotates n.1.kind)) key bound answer e a) (answers m q bound)
          (each_of_answers IsSmall m small q bound))

      in_kind : (key bound : List ℕ) (n : ℕ × TemplateNode) → slice_get t.nodes n.0 ≡ Some n.1 → is_text key ≡ true → (kind : TemplateKind) → n.1.kind ≡ kind
          → AreOfTemplates (instance_by_kind below labels m templates t key bound n kind)
      in_kind key bound n s e (Plain kind) of_kind = (
        record {
          number = i;
          template = t;
          place = n.0;
          node = n.1;
          stands = record { template = here; node = s };
          kind = kind;
          of_kind = of_kind;
          key = key;
          text = e;
          bound = bound;
          is = refl;
        },
        each_of_flat (IsOfTemplate labels m templates) (λ i. i.nodes) (map (λ x. below t (key_below key x.0) bound x) (annotations t n.0) ++ supported_by below m t key bound n.0 n.1.each)
            (each_append AreOfTemplates (map (λ x. below t (key_below key x.0) bound x) (annotations t n.0)) (supported_by below m t key bound n.0 n.1.each)
            (all_lower (λ x. is_under n.0 x.1.above && annotates x.1.kind) key bound e) (supporting key bound n.0 n.1.each e)),
      )
      in_kind key bound n s e (Uses u arguments) of_kind = in_first (slice_get templates u) (λ v f. (u, f)) key (map (element_of_variable bound) arguments) e

    in_over : (i : ℕ) (t : Template) (key bound : List ℕ) (n : ℕ × TemplateNode) → StandsAt templates i t n.0 n.1 → is_text key ≡ true
        → AreOfTemplates (instance_over below labels m templates t key bound n)
    in_over i t key bound n s e = go (is_guarded_off m bound n.1.guard)
      where
        go : (off : Bool) → AreOfTemplates (cond off nothing (instance_by_kind below labels m templates t key bound n n.1.kind))
        go true = tt
        go false = in_kind i t s.template key bound n s.node e n.1.kind refl

  in_within : (depth : ℕ) (i : ℕ) (t : Template) (key bound : List ℕ) (n : ℕ × TemplateNode) → StandsAt templates i t n.0 n.1 → is_text key ≡ true
      → AreOfTemplates (instance_within depth labels m templates t key bound n)
  in_within zero i t key bound n s e = tt
  in_within (suc depth) i t key bound n s e = in_over (instance_within depth labels m templates) (λ j u k b x stands text. in_within depth j u k b x stands text) i t key bound n s e

-- the last template is one of them
pub last_stands : (templates : List Template) (v : Template) → last_template templates ≡ Some v → (i : ℕ) × (slice_get templates i ≡ Some v)
last_stands [] v e = elim (none_is_some v e) [ ]
last_stands (t ∷ []) v e = (0, e)
last_stands (t ∷ u ∷ ts) v e = let found : (i : ℕ) × (slice_get (u ∷ ts) i ≡ Some v) = last_stands (u ∷ ts) v e in (suc found.0, found.1)

pub of_templates : (labels : ℕ) (m : PlainModel) → Each IsSmall (element_numbers m) → (templates : List Template) → AreFew templates
    → Each (IsOfTemplate labels m templates) (instance labels m templates).nodes
unfolding instance
of_templates labels m small templates few =
    in_first labels m small templates few (instance_within (node_count templates) labels m templates) (in_within labels m small templates few (node_count templates))
    (last_template templates) (last_stands templates) (codes "0") [] refl
