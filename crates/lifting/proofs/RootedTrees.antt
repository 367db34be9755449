-- A node over rooted trees that hang under its key is a rooted tree.
use Rattle.std.proofs.Common.{◌≡◌, ℕ, zero, suc, ◌+◌, ◌<◌, List, [], ◌∷◌, ◌++◌, map, length, true, false, refl, sym, ap, ◌∙◌, subst, arith}
use Rattle.std.specs.Prelude.{pred}
use Rattle.std.proofs.lemmas.List.{map-append, length-append, append_assoc}
use Rattle.meaning.specs.Texts.{numbers_from}
use Rattle.meaning.specs.Cases.{NodeKind, Relation}
use Rattle.meaning.specs.Templates.{moved, key_below, key_in_branch}
use Rattle.meaning.specs.Tidy.{key_above}
use Rattle.meaning.proofs.CutTrees.{Tree, Each, IsWithin, IsWhole, HangsTogether, no_tree, nodes_of, tree_over, link_down, links_below, whole_over}
use Rattle.meaning.proofs.MappedLists.{map_of_map}
use Rattle.meaning.proofs.KeySteps.{IsSmall}
use Rattle.lifting.specs.RootedTrees.{IsRooted, HangsUnder, BeginsAt, key_at}
use Rattle.meaning.proofs.KeyTexts.{above_below, above_in_branch}
use Rattle.meaning.proofs.Lists.{each_append, map_nothing}

-- ---- numbers in a row

numbers_append : (k a b : ℕ) → numbers_from k (a + b) ≡ numbers_from k a ++ numbers_from (k + a) b
numbers_append k zero b =
    let e : 0 + b ≡ b = omega arith in
    let f : k + 0 ≡ k = omega arith in
    rw (e, f) refl
numbers_append k (suc a) b =
    let e : suc a + b ≡ suc (a + b) = omega arith in
    let f : k + suc a ≡ suc k + a = omega arith in
    rw (e, f) (ap (λ ns. k ∷ ns) (numbers_append (suc k) a b))

numbers_moved : (k j a : ℕ) → map (λ i. k + i) (numbers_from j a) ≡ numbers_from (k + j) a
numbers_moved k j zero = refl
numbers_moved k j (suc a) = let e : k + suc j ≡ suc (k + j) = omega arith in ap (λ ns. (k + j) ∷ ns) (numbers_moved k (suc j) a ∙ ap (λ i. numbers_from i a) e)

module _ {A : Type 0} (key : A → List ℕ) (kind : A → NodeKind) where
  -- ---- targets

  tree_targets : (k : ℕ) (t : Tree A) → IsRooted key t → map (λ r. r.target) (link_down kind k t.nodes ++ map (moved k) t.relations) ≡ numbers_from k (length t.nodes)
  tree_targets k t h = go t.nodes t.relations h.targets
    where
      go : (ns : List A) (rs : List Relation) → map (λ r. r.target) rs ≡ numbers_from 1 (pred (length ns))
          → map (λ r. r.target) (link_down kind k ns ++ map (moved k) rs) ≡ numbers_from k (length ns)
      go [] rs e = ap (λ rs. map (λ r. r.target) (map (moved k) rs)) (map_nothing (λ r. r.target) rs e)
      go (n ∷ ns) rs e =
          ap (λ js. k ∷ js)
          (map_of_map (λ r. r.target) (moved k) rs ∙ sym (map_of_map (λ i. k + i) (λ r. r.target) rs) ∙ ap (map (λ i. k + i)) e ∙ numbers_moved k 1 (length ns)
          ∙ ap (λ i. numbers_from i (length ns)) (omega arith))

  below_targets : (k : ℕ) (ts : List (Tree A)) → Each (IsRooted key) ts → map (λ r. r.target) (links_below kind k ts) ≡ numbers_from k (length (nodes_of ts))
  below_targets k [] h = refl
  below_targets k (t ∷ ts) h =
      map-append (λ r. r.target) (link_down kind k t.nodes ++ map (moved k) t.relations) (links_below kind (k + length t.nodes) ts)
      ∙ ap (λ js. js ++ map (λ r. r.target) (links_below kind (k + length t.nodes) ts)) (tree_targets k t h.0)
      ∙ ap (λ js. numbers_from k (length t.nodes) ++ js) (below_targets (k + length t.nodes) ts h.1)
      ∙ sym (numbers_append k (length t.nodes) (length (nodes_of ts)))
      ∙ sym (ap (numbers_from k) (length-append t.nodes (nodes_of ts)))

  -- ---- the node above

  abbrev IsNamed : List A → Relation → Type 0
  IsNamed ns r = key_at key ns r.source ≡ key_above (key_at key ns r.target)

  none_below : (i : ℕ) → i < 0 → ⊥
  none_below i l = omega (arith, l)

  at_behind : (p ns : List A) (i : ℕ) → key_at key (p ++ ns) (length p + i) ≡ key_at key ns i
  at_behind [] ns i = ap (key_at key ns) (omega arith)
  at_behind (n ∷ p) ns i = let e : suc (length p) + i ≡ suc (length p + i) = omega arith in rw e (at_behind p ns i)

  at_front : (ns more : List A) (i : ℕ) → i < length ns → key_at key (ns ++ more) i ≡ key_at key ns i
  at_front [] more i l = elim (none_below i l) [ ]
  at_front (n ∷ ns) more zero l = refl
  at_front (n ∷ ns) more (suc i) l = at_front ns more i (omega (arith, l))

  moved_named : (p ns more : List A) (rs : List Relation) → Each (IsWithin (length ns)) rs → Each (IsNamed ns) rs → Each (IsNamed (p ++ (ns ++ more))) (map (moved (length p)) rs)
  moved_named p ns more [] l h = tt
  moved_named p ns more (r ∷ rs) l h = (
    at_behind p (ns ++ more) r.source ∙ at_front ns more r.source l.0.0 ∙ h.0 ∙ ap key_above (sym (at_behind p (ns ++ more) r.target ∙ at_front ns more r.target l.0.1)),
    moved_named p ns more rs l.1 h.1,
  )

  -- the nodes p begin with the one above
  link_named : (upper : List ℕ) (p ns more : List A) → key_at key (p ++ (ns ++ more)) 0 ≡ upper → HangsUnder key upper ns
      → Each (IsNamed (p ++ (ns ++ more))) (link_down kind (length p) ns)
  link_named upper p [] more e h = tt
  link_named upper p (n ∷ ns) more e h = (
    e ∙ h ∙ ap key_above (sym (at_behind p (n ∷ (ns ++ more)) 0) ∙ ap (key_at key (p ++ (n ∷ (ns ++ more)))) (omega arith)),
    tt,
  )

  below_named : (n : A) (p : List A) (ts : List (Tree A)) → Each (IsRooted key) ts → Each (λ t. HangsUnder key (key n) t.nodes) ts
      → Each (IsNamed ((n ∷ p) ++ nodes_of ts)) (links_below kind (length (n ∷ p)) ts)
  below_named n p [] h g = tt
  below_named n p (t ∷ ts) h g =
      each_append (IsNamed all) (link_down kind (length (n ∷ p)) t.nodes ++ map (moved (length (n ∷ p))) t.relations) (links_below kind (length (n ∷ p) + length t.nodes) ts)
      (each_append (IsNamed all) (link_down kind (length (n ∷ p)) t.nodes) (map (moved (length (n ∷ p))) t.relations)
      (link_named (key n) (n ∷ p) t.nodes (nodes_of ts) refl g.0)
      (moved_named (n ∷ p) t.nodes (nodes_of ts) t.relations h.0.within h.0.above))
      (later (below_named n (p ++ t.nodes) ts h.1 g.1))
    where
      all : List A
      all = (n ∷ p) ++ (t.nodes ++ nodes_of ts)

      same_length : length (n ∷ (p ++ t.nodes)) ≡ length (n ∷ p) + length t.nodes
      same_length = length-append (n ∷ p) t.nodes

      later : Each (IsNamed ((n ∷ (p ++ t.nodes)) ++ nodes_of ts)) (links_below kind (length (n ∷ (p ++ t.nodes))) ts)
          → Each (IsNamed all) (links_below kind (length (n ∷ p) + length t.nodes) ts)
      later i =
          subst (λ k. Each (IsNamed all) (links_below kind k ts)) same_length
          (subst (λ ns. Each (IsNamed ns) (links_below kind (length (n ∷ (p ++ t.nodes))) ts)) (append_assoc (n ∷ p) t.nodes (nodes_of ts)) i)

  -- ---- the whole tree

  all_whole : (ts : List (Tree A)) → Each (IsRooted key) ts → Each (IsWhole (λ n. true)) ts
  all_whole [] h = tt
  all_whole (t ∷ ts) h = (record { within = h.0.within; hangs = hangs t.nodes }, all_whole ts h.1)
    where
      hangs : (ns : List A) → HangsTogether (λ n. true) ns
      hangs [] = tt
      hangs (n ∷ ns) = λ e. elim (not_both e) [ ]
        where
          not_both : true ≡ false → ⊥
          not_both e = cc

  pub rooted_over : (n : A) (ts : List (Tree A)) → Each (IsRooted key) ts → Each (λ t. HangsUnder key (key n) t.nodes) ts → IsRooted key (tree_over kind n ts)
  rooted_over n ts h g = record {
    within = (whole_over (λ n. true) kind n ts (all_whole ts h) (λ e. elim (not_both e) [ ])).within;
    targets = below_targets 1 ts h;
    above = below_named n [] ts h g;
  }
    where
      not_both : true ≡ false → ⊥
      not_both e = cc

  pub rooted_never : IsRooted key no_tree
  rooted_never = record { within = tt; targets = refl; above = tt }

  -- ---- a tree hangs under the key above that of its first node

  pub hangs_below : (upper : List ℕ) (i : ℕ) (ns : List A) → IsSmall i → BeginsAt key (key_below upper i) ns → HangsUnder key upper ns
  hangs_below upper i [] l h = tt
  hangs_below upper i (n ∷ ns) l h = sym (above_below upper i l) ∙ ap key_above (sym h)

  pub hangs_in_branch : (upper answer : List ℕ) (i : ℕ) (ns : List A) → Each IsSmall answer → IsSmall i → BeginsAt key (key_in_branch upper answer i) ns → HangsUnder key upper ns
  hangs_in_branch upper answer i [] a l h = tt
  hangs_in_branch upper answer i (n ∷ ns) a l h = sym (above_in_branch upper answer i a l) ∙ ap key_above (sym h)
