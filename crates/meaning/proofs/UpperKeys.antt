-- In an instance the node above each node is there too: its key is the key above the node's.
use Rattle.std.proofs.Common.{◌≡◌, ℕ, zero, suc, ◌^◌, ◌≤◌, List, [], ◌∷◌, ◌++◌, map, length, Bool, true, false, not, ◌&&◌, Option, Some, None, refl, sym, ap, ◌∙◌, subst, arith, ◌⊎◌, inl, inr}
use Rattle.std.specs.Prelude.{cond, codes}
use Rattle.std.specs.List.{slice_get}
use Rattle.std.proofs.lemmas.List.{map-append}
use Rattle.meaning.specs.Texts.{flat, numbered}
use Rattle.meaning.specs.Models.{PlainModel}
use Rattle.meaning.specs.Queries.{Query, answers, element_numbers, element_of_variable}
use Rattle.meaning.specs.Templates.{Template, TemplateNode, TemplateKind, Plain, Uses, Instance, Instances, nothing, node_of, findings_of, over, annotations, supporters, annotates, is_under, supported_by, first_node, key_below, key_in_branch, is_guarded_off, instance_by_kind, instance_over, instance_within, instance, last_template, node_count}
use Rattle.meaning.specs.Tidy.{key_above}
use Rattle.meaning.proofs.CutTrees.{Each}
use Rattle.meaning.proofs.EachMembers.{each_filtered, each_by}
use Rattle.meaning.proofs.Lists.{each_append}
use Rattle.meaning.proofs.Members.{Member, member_front, member_behind, member_mapped, each_from_members, member_each}
use Rattle.meaning.proofs.Pairs.{each_of_map, each_of_flat}
use Rattle.meaning.proofs.KeySteps.{IsSmall}
use Rattle.meaning.proofs.KeyTexts.{above_below, above_in_branch}
use Rattle.meaning.proofs.TupleElements.{each_of_answers}
use Rattle.meaning.proofs.LowerNodes.{numbers_below}
use Rattle.meaning.proofs.KeysDiffer.{AreFew, last_is_few}
use Rattle.meaning.proofs.OnceLists.{HasAllOf}
use Rattle.meaning.proofs.InstanceNodes.{Seen}

abbrev pub key_seen : Seen → List ℕ
key_seen s = s.0.key

abbrev pub keys_in : Instance → List (List ℕ)
keys_in i = map key_seen i.nodes

-- the node has this key, or the key above its own is among these
abbrev Hangs : List ℕ → List (List ℕ) → Seen → Type 0
Hangs key keys s = (s.0.key ≡ key) ⊎ Member (key_above s.0.key) keys

abbrev HangsIn : List ℕ → Instance → Type 0
HangsIn key i = Each (Hangs key (keys_in i)) i.nodes

-- it hangs in itself, under a key below this one
abbrev HangsBelow : List ℕ → Instance → Type 0
HangsBelow key i = (own : List ℕ) × (key_above own ≡ key) × HangsIn own i

hang_in_all : (key : List ℕ) (keys : List (List ℕ)) → Member key keys → (is : List Instance) → Each (HangsBelow key) is
    → HasAllOf keys (map key_seen (flat (λ i. i.nodes) is)) → Each (Hangs key keys) (flat (λ i. i.nodes) is)
hang_in_all key keys there [] h g = tt
hang_in_all key keys there (i ∷ is) h g =
    each_append (Hangs key keys) i.nodes (flat (λ i. i.nodes) is) (each_by (Hangs h.0.0 (keys_in i)) (Hangs key keys) hang i.nodes h.0.2)
    (hang_in_all key keys there is h.1 (λ x m. all x (member_behind x (keys_in i) (map key_seen (flat (λ i. i.nodes) is)) m)))
  where
    all : HasAllOf keys (keys_in i ++ map key_seen (flat (λ i. i.nodes) is))
    all = subst (HasAllOf keys) (map-append key_seen i.nodes (flat (λ i. i.nodes) is)) g

    hang : (s : Seen) → Hangs h.0.0 (keys_in i) s → Hangs key keys s
    hang s (inl e) = inr (subst (λ k. Member k keys) (sym (ap key_above e ∙ h.0.1)) there)
    hang s (inr m) = inr (all (key_above s.0.key) (member_front (key_above s.0.key) (keys_in i) (map key_seen (flat (λ i. i.nodes) is)) m))

hang_over : (n : Seen) (is : List Instance) → Each (HangsBelow n.0.key) is → HangsIn n.0.key (over n is)
hang_over n is h = (inl refl, hang_in_all n.0.key (keys_in (over n is)) (inl refl) is h (λ x m. inr m))

module _ (labels : ℕ) (m : PlainModel) (small : Each IsSmall (element_numbers m)) (templates : List Template) (few : AreFew templates) where
  module _ (below : Instances) (fine : (t : Template) → length t.nodes ≤ 2 ^ 64 → (key bound : List ℕ) (n : ℕ × TemplateNode) → HangsIn key (below t key bound n)) where
    in_first : (o : Option Template) → ((t : Template) → o ≡ Some t → length t.nodes ≤ 2 ^ 64) → (key bound : List ℕ) → HangsIn key (first_node below o key bound)
    in_first None f key bound = tt
    in_first (Some t) f key bound = go (slice_get t.nodes 0)
      where
        go : (o : Option TemplateNode) → HangsIn key (elim o as (λ _. Instance) [ None ↦ nothing | Some n ↦ below t key bound (0, n) ])
        go None = tt
        go (Some n) = fine t (f t refl) key bound (0, n)

    module _ (t : Template) (l : length t.nodes ≤ 2 ^ 64) (key bound : List ℕ) where
      small_numbers : Each (λ n. IsSmall n.0) (numbered t.nodes)
      small_numbers = numbers_below (2 ^ 64) 0 t.nodes (omega (arith, l))

      once : (x : ℕ × TemplateNode) → IsSmall x.0 → HangsBelow key (below t (key_below key x.0) bound x)
      once x s = (key_below key x.0, above_below key x.0 s, fine t l (key_below key x.0) bound x)

      annotating : (k : ℕ) → Each (HangsBelow key) (map (λ x. below t (key_below key x.0) bound x) (annotations t k))
      annotating k =
          each_of_map (HangsBelow key) (λ x. below t (key_below key x.0) bound x) (annotations t k)
          (each_by (λ n. IsSmall n.0) _ once (annotations t k) (each_filtered (λ n. IsSmall n.0) (λ n. is_under k n.1.above && annotates n.1.kind) (numbered t.nodes) small_numbers))

      small_supporters : (k : ℕ) → Each (λ n. IsSmall n.0) (supporters t k)
      small_supporters k = each_filtered (λ n. IsSmall n.0) (λ n. is_under k n.1.above && not (annotates n.1.kind)) (numbered t.nodes) small_numbers

      in_branch : (answer : List ℕ) → Each IsSmall answer → (x : ℕ × TemplateNode) → IsSmall x.0 → HangsBelow key (below t (key_in_branch key answer x.0) (bound ++ answer) x)
      in_branch answer a x s = (key_in_branch key answer x.0, above_in_branch key answer x.0 a s, fine t l (key_in_branch key answer x.0) (bound ++ answer) x)

      supporting : (k : ℕ) (q : Option Query) → Each (HangsBelow key) (supported_by below m t key bound k q)
      supporting k None =
          each_of_map (HangsBelow key) (λ x. below t (key_below key x.0) bound x) (supporters t k) (each_by (λ n. IsSmall n.0) _ once (supporters t k) (small_supporters k))
      supporting k (Some q) =
          each_of_flat (HangsBelow key) (λ answer. map (λ x. below t (key_in_branch key answer x.0) (bound ++ answer) x) (supporters t k)) (answers m q bound)
          (each_by (Each IsSmall) _
          (λ answer a. each_of_map (HangsBelow key) (λ x. below t (key_in_branch key answer x.0) (bound ++ answer) x) (supporters t k)
          (each_by (λ n. IsSmall n.0) _ (in_branch answer a) (supporters t k) (small_supporters k)))
          (answers m q bound) (each_of_answers IsSmall m small q bound))

      in_kind : (n : ℕ × TemplateNode) (kind : TemplateKind) → HangsIn key (instance_by_kind below labels m templates t key bound n kind)
      in_kind n (Plain kind) =
          hang_over (node_of labels m key bound kind n.1, findings_of labels m bound n.1)
          (map (λ x. below t (key_below key x.0) bound x) (annotations t n.0) ++ supported_by below m t key bound n.0 n.1.each)
          (each_append (HangsBelow key) (map (λ x. below t (key_below key x.0) bound x) (annotations t n.0)) (supported_by below m t key bound n.0 n.1.each) (annotating n.0) (supporting n.0 n.1.each))
      in_kind n (Uses u arguments) = in_first (slice_get templates u) (few u) key (map (element_of_variable bound) arguments)

      in_over : (n : ℕ × TemplateNode) → HangsIn key (instance_over below labels m templates t key bound n)
      in_over n = go (is_guarded_off m bound n.1.guard)
        where
          go : (off : Bool) → HangsIn key (cond off nothing (instance_by_kind below labels m templates t key bound n n.1.kind))
          go true = tt
          go false = in_kind n n.1.kind

  in_within : (depth : ℕ) (t : Template) → length t.nodes ≤ 2 ^ 64 → (key bound : List ℕ) (n : ℕ × TemplateNode) → HangsIn key (instance_within depth labels m templates t key bound n)
  in_within zero t l key bound n = tt
  in_within (suc depth) t l key bound n = in_over (instance_within depth labels m templates) (λ u f k b x. in_within depth u f k b x) t l key bound n

  whole_hangs : HangsIn (codes "0") (instance labels m templates)
  unfolding instance
  whole_hangs =
      in_first (instance_within (node_count templates) labels m templates) (in_within (node_count templates)) (last_template templates) (last_is_few templates few) (codes "0") []

  -- the key above a node's is that of a node
  pub upper_is_there : Each (λ s. Member (key_above s.0.key) (keys_in (instance labels m templates))) (instance labels m templates).nodes
  upper_is_there = each_from_members _ nodes at
    where
      nodes : List Seen
      nodes = (instance labels m templates).nodes

      at : (s : Seen) → Member s nodes → Member (key_above s.0.key) (map key_seen nodes)
      at s there = go (member_each (Hangs (codes "0") (map key_seen nodes)) nodes whole_hangs s there)
        where
          go : Hangs (codes "0") (map key_seen nodes) s → Member (key_above s.0.key) (map key_seen nodes)
          go (inl e) = subst (λ k. Member k (map key_seen nodes)) (e ∙ sym (ap key_above e)) (member_mapped key_seen s nodes there)
          go (inr h) = h
