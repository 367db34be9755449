-- Trees of other nodes, of which the same ones are there, seen as the same: what lifts, is rooted or is keyed does so with them.
use Rattle.std.proofs.Common.{◌≡◌, ℕ, zero, suc, List, [], ◌∷◌, map, Bool, true, false, refl, sym, ap, ◌∙◌, subst}
use Rattle.std.specs.Prelude.{cond, filter, pred}
use Rattle.std.proofs.lemmas.List.{length-map}
use Rattle.meaning.specs.Texts.{numbers_from}
use Rattle.meaning.specs.Cases.{Relation}
use Rattle.meaning.specs.Templates.{Instance}
use Rattle.meaning.specs.Tidy.{Among, key_above}
use Rattle.meaning.proofs.CutTrees.{Tree, Each, IsWithin, HangsTogether, cut_tree, tree_map, kept}
use Rattle.meaning.proofs.EachMembers.{each_by}
use Rattle.meaning.proofs.MappedLists.{filter_of_map, map_of_map}
use Rattle.lifting.specs.Lifting.{Seen, left, Lifts}
use Rattle.lifting.specs.RootedTrees.{IsRooted, IsKeyed, key_at}
use Rattle.meaning.proofs.Lists.{map_same}

pub cut_mapped : {A B : Type 0} (there : B → Bool) (f : A → B) (t : Tree A) → cut_tree there (tree_map f t) ≡ tree_map f (cut_tree (λ n. there (f n)) t)
cut_mapped {B = B} there f t =
    ap (λ ns. of_both ns (kept (map there (map f t.nodes)) t.relations)) (filter_of_map f there t.nodes)
    ∙ ap (λ bs. of_both (map f (filter (λ n. there (f n)) t.nodes)) (kept bs t.relations)) (map_of_map there f t.nodes)
  where
    of_both : List B → List Relation → Tree B
    of_both ns rs = record { nodes = ns; relations = rs }

-- ---- the same nodes are there, and are seen as the same

module _ {A B : Type 0} (f : A → B) (there : A → Bool) (seen : A → Seen) (other : B → Bool) (looks : B → Seen) where
  abbrev pub IsSame : A → Type 0
  IsSame n = (other (f n) ≡ there n) × (looks (f n) ≡ seen n)

  filter_same : (ns : List A) → Each IsSame ns → filter (λ n. other (f n)) ns ≡ filter there ns
  filter_same [] h = refl
  filter_same (n ∷ ns) h =
      ap (λ b. cond b (n ∷ filter (λ n. other (f n)) ns) (filter (λ n. other (f n)) ns)) h.0.0 ∙ ap (λ ms. cond (there n) (n ∷ ms) ms) (filter_same ns h.1)

  seen_same : (ns : List A) → Each IsSame ns → map (λ n. looks (f n)) (filter there ns) ≡ map seen (filter there ns)
  seen_same [] h = refl
  seen_same (n ∷ ns) h = go (there n) (seen_same ns h.1)
    where
      go : (b : Bool) → map (λ n. looks (f n)) (filter there ns) ≡ map seen (filter there ns)
          → map (λ n. looks (f n)) (cond b (n ∷ filter there ns) (filter there ns)) ≡ map seen (cond b (n ∷ filter there ns) (filter there ns))
      go true e = ap (λ s. s ∷ map (λ n. looks (f n)) (filter there ns)) h.0.1 ∙ ap (λ ss. seen n ∷ ss) e
      go false e = e

  there_same : (ns : List A) → Each IsSame ns → map (λ n. other (f n)) ns ≡ map there ns
  there_same ns h = map_same (λ n. other (f n)) there ns (each_by IsSame _ (λ n s. s.0) ns h)

  left_same : (t : Tree A) → Each IsSame t.nodes → left other looks (tree_map f t) ≡ left there seen t
  left_same t h =
      ap (tree_map looks) (cut_mapped other f t)
      ∙ ap (λ ss. of_both ss (kept (map (λ n. other (f n)) t.nodes) t.relations))
      (map_of_map looks f (filter (λ n. other (f n)) t.nodes) ∙ ap (map (λ n. looks (f n))) (filter_same t.nodes h) ∙ seen_same t.nodes h)
      ∙ ap (λ bs. of_both (map seen (filter there t.nodes)) (kept bs t.relations)) (there_same t.nodes h)
    where
      of_both : List Seen → List Relation → Tree Seen
      of_both ss rs = record { nodes = ss; relations = rs }

  hangs_same : (ns : List A) → Each IsSame ns → HangsTogether there ns → HangsTogether other (map f ns)
  hangs_same [] h g = tt
  hangs_same (n ∷ ns) h g = λ e. filter_of_map f other ns ∙ ap (map f) (filter_same ns h.1 ∙ g (sym h.0.0 ∙ e))

  pub lifts_mapped : (t : Tree A) (u : Bool) (i : Instance) → Each IsSame t.nodes → Lifts there seen t u i → Lifts other looks (tree_map f t) u i
  lifts_mapped t u i h g = record {
    whole = record {
      within = subst (λ k. Each (IsWithin k) t.relations) (sym (length-map t.nodes f)) g.whole.within;
      hangs = hangs_same t.nodes h g.whole.hangs;
    };
    cuts = left_same t h ∙ g.cuts;
  }

-- ---- keys

module _ {A B : Type 0} (f : A → B) (key : A → List ℕ) (name : B → List ℕ) where
  abbrev pub HasSameKey : A → Type 0
  HasSameKey n = name (f n) ≡ key n

  at_same : (ns : List A) → Each HasSameKey ns → (i : ℕ) → key_at name (map f ns) i ≡ key_at key ns i
  at_same [] h i = refl
  at_same (n ∷ ns) h zero = h.0
  at_same (n ∷ ns) h (suc i) = at_same ns h.1 i

  pub rooted_mapped : (t : Tree A) → Each HasSameKey t.nodes → IsRooted key t → IsRooted name (tree_map f t)
  rooted_mapped t h g = record {
    within = subst (λ k. Each (IsWithin k) t.relations) (sym (length-map t.nodes f)) g.within;
    targets = g.targets ∙ sym (ap (λ k. numbers_from 1 (pred k)) (length-map t.nodes f));
    above =
        each_by (λ r. key_at key t.nodes r.source ≡ key_above (key_at key t.nodes r.target)) _
        (λ r e. at_same t.nodes h r.source ∙ e ∙ ap key_above (sym (at_same t.nodes h r.target))) t.relations g.above;
  }

  pub keyed_mapped : (t : Tree A) (keys : List (List ℕ)) → Each HasSameKey t.nodes → IsKeyed key t keys → IsKeyed name (tree_map f t) keys
  keyed_mapped t keys h g = subst (λ ks. Among ks keys) (sym (map_of_map name f t.nodes ∙ map_same (λ n. name (f n)) key t.nodes h)) g
