-- How the relations of a growing list of nodes come about: one more tree below a node puts its own behind those that are there.
use Rattle.std.proofs.Common.{◌≡◌, ℕ, ◌+◌, List, [], ◌∷◌, ◌++◌, map, length, refl, sym, ap, ◌∙◌, arith}
use Rattle.std.proofs.lemmas.List.{map-append, length-append, append_assoc, append-nil}
use Rattle.meaning.specs.Cases.{NodeKind, Relation}
use Rattle.meaning.specs.Templates.{moved, relation_to}
use Rattle.meaning.proofs.CutTrees.{Tree, nodes_of, tree_over, link_down, links_below}
use Rattle.meaning.proofs.Lists.{flat_append}

module _ {A : Type 0} (kind : A → NodeKind) where
  pub links_append : (k : ℕ) (ts us : List (Tree A)) → links_below kind k (ts ++ us) ≡ links_below kind k ts ++ links_below kind (k + length (nodes_of ts)) us
  links_append k [] us = ap (λ i. links_below kind i us) (omega arith)
  links_append k (t ∷ ts) us =
      ap (λ rs. (link_down kind k t.nodes ++ map (moved k) t.relations) ++ rs)
      (links_append (k + length t.nodes) ts us
      ∙ ap (λ i. links_below kind (k + length t.nodes) ts ++ links_below kind i us) (omega (arith, length-append t.nodes (nodes_of ts))))
      ∙ sym (append_assoc (link_down kind k t.nodes ++ map (moved k) t.relations) (links_below kind (k + length t.nodes) ts) (links_below kind (k + length (t.nodes ++ nodes_of ts)) us))

  pub moved_twice : (p k : ℕ) (rs : List Relation) → map (moved p) (map (moved k) rs) ≡ map (moved (p + k)) rs
  moved_twice p k [] = refl
  moved_twice p k (r ∷ rs) =
      let e : p + (k + r.source) ≡ (p + k) + r.source = omega arith in
      let f : p + (k + r.target) ≡ (p + k) + r.target = omega arith in
      rw (e, f, moved_twice p k rs) refl

  -- the relation from node p to the first node of a tree, at k
  abbrev pub link_from : ℕ → ℕ → List A → List Relation
  link_from p k [] = []
  link_from p k (n ∷ ns) = record { source = p; target = k; kind = relation_to (kind n) } ∷ []

  moved_link : (p k : ℕ) (ns : List A) → map (moved p) (link_down kind k ns) ≡ link_from p (p + k) ns
  moved_link p k [] = refl
  moved_link p k (n ∷ ns) = let e : p + 0 ≡ p = omega arith in rw e refl

  -- below node p, behind the trees ts: the relation down to the new tree, and its own, from where it stands
  pub one_more_tree : (p : ℕ) (ts : List (Tree A)) (t : Tree A)
      → map (moved p) (links_below kind 1 (ts ++ t ∷ []))
      ≡ map (moved p) (links_below kind 1 ts) ++ (link_from p (p + (1 + length (nodes_of ts))) t.nodes ++ map (moved (p + (1 + length (nodes_of ts)))) t.relations)
  one_more_tree p ts t =
      ap (map (moved p)) (links_append 1 ts (t ∷ []))
      ∙ map-append (moved p) (links_below kind 1 ts) (links_below kind (1 + length (nodes_of ts)) (t ∷ []))
      ∙ ap (λ rs. map (moved p) (links_below kind 1 ts) ++ map (moved p) rs) (append-nil (link_down kind (1 + length (nodes_of ts)) t.nodes ++ map (moved (1 + length (nodes_of ts))) t.relations))
      ∙ ap (λ rs. map (moved p) (links_below kind 1 ts) ++ rs)
      (map-append (moved p) (link_down kind (1 + length (nodes_of ts)) t.nodes) (map (moved (1 + length (nodes_of ts))) t.relations)
      ∙ ap (λ rs. rs ++ map (moved p) (map (moved (1 + length (nodes_of ts))) t.relations)) (moved_link p (1 + length (nodes_of ts)) t.nodes)
      ∙ ap (λ rs. link_from p (p + (1 + length (nodes_of ts))) t.nodes ++ rs) (moved_twice p (1 + length (nodes_of ts)) t.relations))

  pub one_more_nodes : (n : A) (ts : List (Tree A)) (t : Tree A) → (tree_over kind n (ts ++ t ∷ [])).nodes ≡ (tree_over kind n ts).nodes ++ t.nodes
  one_more_nodes n ts t = ap (λ ns. n ∷ ns) (flat_append (λ t. t.nodes) ts (t ∷ []) ∙ ap (λ ns. nodes_of ts ++ ns) (append-nil t.nodes))
