-- Trees of lifted nodes that are instances at a world: alone, side by side, and below a node.
use Rattle.std.proofs.Common.{◌≡◌, ℕ, ◌+◌, List, [], ◌∷◌, ◌++◌, map, length, Bool, true, false, refl, sym, ap, ◌∙◌, subst}
use Rattle.std.specs.Prelude.{cond, filter}
use Rattle.std.proofs.lemmas.List.{map-append}
use Rattle.std.proofs.lemmas.List.Elements.{filter-append}
use Rattle.meaning.specs.Texts.{flat}
use Rattle.meaning.specs.Cases.{NodeKind, Relation}
use Rattle.meaning.specs.Templates.{Instance, over, nothing, relation_down, relations_below}
use Rattle.meaning.proofs.CutTrees.{Tree, Each, IsWhole, HangsTogether, HasNoStrays, cut_tree, tree_map, no_tree, with_nodes, has_nodes, nodes_of, tree_over, link_down, links_below, cut_over, whole_over, cut_away, map_over, over_same, cut_has_no_strays}
use Rattle.meaning.proofs.MappedLists.{map_of_map}
use Rattle.lifting.specs.Lifting.{Seen, kind_seen, instance_tree, left, Lifts, LiftsAll}
use Rattle.meaning.proofs.Lists.{each_append, map_nothing, no_element}

-- ---- instances as trees

links_down : (k : ℕ) (ns : List Seen) → relation_down k ns ≡ link_down kind_seen k ns
links_down k [] = refl
links_down k (n ∷ ns) = refl

links_of_instances : (k : ℕ) (is : List Instance) → relations_below k is ≡ links_below kind_seen k (map instance_tree is)
links_of_instances k [] = refl
links_of_instances k (i ∷ is) = rw (links_down k i.nodes, links_of_instances (k + length i.nodes) is) refl

nodes_of_instances : (is : List Instance) → flat (λ i. i.nodes) is ≡ nodes_of (map instance_tree is)
nodes_of_instances [] = refl
nodes_of_instances (i ∷ is) = ap (λ ns. i.nodes ++ ns) (nodes_of_instances is)

pub instance_tree_over : (s : Seen) (is : List Instance) → instance_tree (over s is) ≡ tree_over kind_seen s (map instance_tree is)
instance_tree_over s is = rw (nodes_of_instances is, links_of_instances 1 is) refl

-- ---- trees without nodes

module _ {A : Type 0} where
  pub with_nodes_append : (ts us : List (Tree A)) → with_nodes (ts ++ us) ≡ with_nodes ts ++ with_nodes us
  with_nodes_append ts us = filter-append has_nodes ts us

  no_nodes : (t : Tree A) → with_nodes (t ∷ []) ≡ [] → t.nodes ≡ []
  no_nodes t e = go t.nodes t.relations e
    where
      go : (ns : List A) (rs : List Relation) → with_nodes (record { nodes = ns; relations = rs } ∷ []) ≡ [] → ns ≡ []
      go [] rs e = refl
      go (n ∷ ns) rs e = cc

module _ {A : Type 0} (there : A → Bool) (seen : A → Seen) where
  -- ---- a tree alone

  -- where the condition does not hold nothing of the tree is there
  pub gone : (t : Tree A) (i : Instance) → Lifts there seen t false i → filter there t.nodes ≡ []
  gone t i h = map_nothing seen (filter there t.nodes) (ap (λ s. s.nodes) h.cuts)

  -- no tree at all serves where the condition does not hold, and where there is no instance
  pub lifts_never : (i : Instance) → Lifts there seen no_tree false i
  lifts_never i = record { whole = record { within = tt; hangs = tt }; cuts = refl }

  pub lifts_nothing : (u : Bool) → Lifts there seen no_tree u nothing
  lifts_nothing true = record { whole = record { within = tt; hangs = tt }; cuts = refl }
  lifts_nothing false = lifts_never nothing

  pub lifts_under : (t : Tree A) (u v : Bool) (i : Instance) → u ≡ v → Lifts there seen t u i → Lifts there seen t v i
  lifts_under t u v i e h = subst (λ x. Lifts there seen t x i) e h

  pub lifts_as : (t : Tree A) (u : Bool) (i j : Instance) → i ≡ j → Lifts there seen t u i → Lifts there seen t u j
  lifts_as t u i j e h = subst (λ x. Lifts there seen t u x) e h

  -- the first node is there only where the condition holds, and where there is an instance it is there
  pub first_only_there : (t : Tree A) (u : Bool) (i : Instance) (n : A) (ns : List A) → Lifts there seen t u i → t.nodes ≡ n ∷ ns → there n ≡ true → u ≡ true
  first_only_there t true i n ns h e f = refl
  first_only_there t false i n ns h e f =
      elim (no_element (filter there t.nodes) n (filter there ns) (gone t i h)
      (ap (filter there) e ∙ ap (λ b. cond b (n ∷ filter there ns) (filter there ns)) f)) [ ]

  pub first_is_there : (t : Tree A) (i : Instance) (n : A) (ns : List A) (s : Seen) (ss : List Seen) → Lifts there seen t true i → t.nodes ≡ n ∷ ns → i.nodes ≡ s ∷ ss → there n ≡ true
  first_is_there t i n ns s ss h e f = go (there n) refl
    where
      hangs : there n ≡ false → filter there ns ≡ []
      hangs = subst (HangsTogether there) e h.whole.hangs

      nothing_left : there n ≡ false → i.nodes ≡ []
      nothing_left g =
          sym (ap (λ t. t.nodes) h.cuts) ∙ ap (λ ms. map seen (filter there ms)) e
          ∙ ap (λ b. map seen (cond b (n ∷ filter there ns) (filter there ns))) g ∙ ap (map seen) (hangs g)

      go : (b : Bool) → there n ≡ b → there n ≡ true
      go true g = g
      go false g = elim (no_element i.nodes s ss (nothing_left g) f) [ ]

  -- ---- trees side by side

  left_has_no_strays : (t : Tree A) → HasNoStrays (left there seen t)
  left_has_no_strays t h = cut_has_no_strays there t (go (filter there t.nodes) h)
    where
      go : (ns : List A) → has_nodes (record { nodes = map seen ns; relations = [] }) ≡ false → has_nodes (record { nodes = ns; relations = [] }) ≡ false
      go [] e = refl
      go (n ∷ ns) e = e

  pub lifts_none : LiftsAll there seen [] []
  lifts_none = record { whole = tt; cuts = refl; strays = tt }

  pub lifts_one : (t : Tree A) (u : Bool) (i : Instance) → Lifts there seen t u i → LiftsAll there seen (t ∷ []) (cond u (i ∷ []) [])
  lifts_one t true i h = record {
    whole = (h.whole, tt);
    cuts = ap (λ s. with_nodes (s ∷ [])) h.cuts;
    strays = (subst HasNoStrays h.cuts (left_has_no_strays t), tt);
  }
  lifts_one t false i h = record { whole = (h.whole, tt); cuts = ap (λ s. with_nodes (s ∷ [])) h.cuts; strays = tt }

  pub lifts_both : (ts us : List (Tree A)) (is js : List Instance) → LiftsAll there seen ts is → LiftsAll there seen us js → LiftsAll there seen (ts ++ us) (is ++ js)
  lifts_both ts us is js h g = record {
    whole = each_append (IsWhole there) ts us h.whole g.whole;
    cuts =
        ap with_nodes (map-append (left there seen) ts us)
        ∙ with_nodes_append (map (left there seen) ts) (map (left there seen) us)
        ∙ ap (λ xs. xs ++ with_nodes (map (left there seen) us)) h.cuts
        ∙ ap (λ xs. with_nodes (map instance_tree is) ++ xs) g.cuts
        ∙ sym (with_nodes_append (map instance_tree is) (map instance_tree js))
        ∙ sym (ap with_nodes (map-append instance_tree is js));
    strays =
        subst (Each HasNoStrays) (sym (map-append instance_tree is js))
        (each_append HasNoStrays (map instance_tree is) (map instance_tree js) h.strays g.strays);
  }

  -- ---- a node over trees

  abbrev pub kind_there : A → NodeKind
  kind_there n = kind_seen (seen n)

  nothing_there : (ts : List (Tree A)) → with_nodes (map (left there seen) ts) ≡ [] → filter there (nodes_of ts) ≡ []
  nothing_there [] e = refl
  nothing_there (t ∷ ts) e = filter-append there t.nodes (nodes_of ts) ∙ go (filter there t.nodes) refl e (nothing_there ts)
    where
      rest : List (Tree Seen)
      rest = map (left there seen) ts

      go : (ns : List A) → filter there t.nodes ≡ ns → with_nodes (left there seen t ∷ rest) ≡ [] → (with_nodes rest ≡ [] → filter there (nodes_of ts) ≡ [])
          → filter there t.nodes ++ filter there (nodes_of ts) ≡ []
      go [] f e later = ap (λ ns. ns ++ filter there (nodes_of ts)) f ∙ later (ap (λ s. with_nodes (record { nodes = map seen s; relations = (left there seen t).relations } ∷ rest)) (sym f) ∙ e)
      go (n ∷ ns) f e later =
          elim (no_element (with_nodes (left there seen t ∷ rest)) (record { nodes = map seen (n ∷ ns); relations = (left there seen t).relations }) (with_nodes rest) e
          (ap (λ s. with_nodes (record { nodes = map seen s; relations = (left there seen t).relations } ∷ rest)) f)) [ ]

  -- a node that is there where the condition holds, over trees that are there only then
  pub lifts_over : (n : A) (u : Bool) (s : Seen) (ts : List (Tree A)) (is : List Instance) → there n ≡ u → (u ≡ true → seen n ≡ s)
      → LiftsAll there seen ts (cond u is []) → Lifts there seen (tree_over kind_there n ts) u (over s is)
  lifts_over n true s ts is e f h = record {
    whole = whole_over there kind_there n ts h.whole (λ g. elim (not_both (there n) e g) [ ]);
    cuts =
        ap (tree_map seen) (cut_over there kind_there n ts e h.whole)
        ∙ map_over seen kind_seen n (map (cut_tree there) ts)
        ∙ ap (tree_over kind_seen (seen n)) (map_of_map (tree_map seen) (cut_tree there) ts)
        ∙ over_same kind_seen (seen n) (map (left there seen) ts) (map instance_tree is) (lefts ts) h.strays h.cuts
        ∙ ap (λ m. tree_over kind_seen m (map instance_tree is)) (f refl)
        ∙ sym (instance_tree_over s is);
  }
    where
      not_both : (b : Bool) → b ≡ true → b ≡ false → ⊥
      not_both b e g = cc

      lefts : (ts : List (Tree A)) → Each HasNoStrays (map (left there seen) ts)
      lefts [] = tt
      lefts (t ∷ ts) = (left_has_no_strays t, lefts ts)
  lifts_over n false s ts is e f h = record {
    whole = whole_over there kind_there n ts h.whole (λ g. nothing_there ts h.cuts);
    cuts = ap (tree_map seen) (cut_away there (tree_over kind_there n ts) (ap (λ b. cond b (n ∷ filter there (nodes_of ts)) (filter there (nodes_of ts))) e ∙ nothing_there ts h.cuts));
  }
