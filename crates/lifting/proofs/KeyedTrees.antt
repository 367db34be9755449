-- The keys of a lifted tree are some of those that its template node lists.
use Rattle.std.proofs.Common.{◌≡◌, ℕ, List, [], ◌∷◌, ◌++◌, map, Some, None, sym, ap, ◌∙◌, subst}
use Rattle.std.specs.List.{slice_get}
use Rattle.std.proofs.lemmas.List.{map-append, append-nil}
use Rattle.meaning.specs.Texts.{flat}
use Rattle.meaning.specs.Models.{PlainModel}
use Rattle.meaning.specs.Queries.{Query, tuples}
use Rattle.meaning.specs.Cases.{NodeKind}
use Rattle.meaning.specs.Templates.{Template, TemplateNode, Plain, Uses, annotations, supporters, key_below, key_in_branch}
use Rattle.meaning.specs.Tidy.{Among, none, taken, Keys, keys_below, first_keys, keys_by_kind}
use Rattle.meaning.proofs.CutTrees.{Tree, Each, no_tree, nodes_of, tree_over}
use Rattle.lifting.specs.RootedTrees.{IsKeyed, AreKeyed}
use Rattle.meaning.proofs.Lists.{flat_append}
use Rattle.lifting.proofs.AmongLists.{among_nothing, among_itself, among_append, among_both, among_flats}

module _ {A : Type 0} (key : A → List ℕ) where
  -- ---- trees side by side

  pub keyed_never : (keys : List (List ℕ)) → IsKeyed key no_tree keys
  keyed_never keys = among_nothing keys

  pub keyed_none : AreKeyed key [] []
  keyed_none = none

  pub keyed_one : (t : Tree A) (keys : List (List ℕ)) → IsKeyed key t keys → AreKeyed key (t ∷ []) keys
  keyed_one t keys h = subst (λ ns. Among (map key ns) keys) (sym (append-nil t.nodes)) h

  pub keyed_both : (ts us : List (Tree A)) (keys others : List (List ℕ)) → AreKeyed key ts keys → AreKeyed key us others → AreKeyed key (ts ++ us) (keys ++ others)
  keyed_both ts us keys others h g =
      subst (λ ks. Among ks (keys ++ others)) (sym (ap (map key) (flat_append (λ t. t.nodes) ts us) ∙ map-append key (nodes_of ts) (nodes_of us))) (among_append g h)

  pub keyed_each : {X : Type 0} (tree : X → Tree A) (keys : X → List (List ℕ)) (xs : List X) → Each (λ x. IsKeyed key (tree x) (keys x)) xs
      → AreKeyed key (map tree xs) (flat keys xs)
  keyed_each tree keys [] h = none
  keyed_each tree keys (x ∷ xs) h = keyed_both (tree x ∷ []) (map tree xs) (keys x) (flat keys xs) (keyed_one (tree x) (keys x) h.0) (keyed_each tree keys xs h.1)

  -- the rows' tuples are some of all tuples
  pub keyed_rows : {R : Type 0} (tuple : R → List ℕ) (trees : R → List (Tree A)) (keys : List ℕ → List (List ℕ)) (rows : List R) (all : List (List ℕ))
      → Among (map tuple rows) all → Each (λ r. AreKeyed key (trees r) (keys (tuple r))) rows → AreKeyed key (flat trees rows) (flat keys all)
  keyed_rows {R = R} tuple trees keys rows all a h =
      among_both (among_flats keys keys (λ answer. among_itself (keys answer)) a) (own rows h)
    where
      own : (rows : List R) → Each (λ r. AreKeyed key (trees r) (keys (tuple r))) rows → AreKeyed key (flat trees rows) (flat keys (map tuple rows))
      own [] h = none
      own (r ∷ rows) h = keyed_both (trees r) (flat trees rows) (keys (tuple r)) (flat keys (map tuple rows)) h.0 (own rows h.1)

  -- ---- a node of a template

  module _ (keys : Keys) (m : PlainModel) (templates : List Template) where
    pub keyed_answers : {R : Type 0} (tuple : R → List ℕ) (trees : R → List (Tree A)) (t : Template) (own : List ℕ) (k : ℕ) (q : Query) (rows : List R)
        → Among (map tuple rows) (tuples m q.variables)
        → Each (λ r. AreKeyed key (trees r) (flat (λ x. keys t (key_in_branch own (tuple r) x.0) x) (supporters t k))) rows
        → AreKeyed key (flat trees rows) (keys_below keys m t own k (Some q))
    keyed_answers tuple trees t own k q rows a h =
        keyed_rows tuple trees (λ answer. flat (λ x. keys t (key_in_branch own answer x.0) x) (supporters t k)) rows (tuples m q.variables) a h

    pub keyed_plain : (t : Template) (own : List ℕ) (n : ℕ × TemplateNode) (kind : NodeKind) (kind_there : A → NodeKind) (a : A) (annotating supporting : List (Tree A))
        → key a ≡ own
        → AreKeyed key annotating (flat (λ x. keys t (key_below own x.0) x) (annotations t n.0))
        → AreKeyed key supporting (keys_below keys m t own n.0 n.1.each)
        → IsKeyed key (tree_over kind_there a (annotating ++ supporting)) (keys_by_kind keys m templates t own n (Plain kind))
    keyed_plain t own n kind kind_there a annotating supporting e h g =
        subst (λ k. Among (k ∷ map key (nodes_of (annotating ++ supporting))) (keys_by_kind keys m templates t own n (Plain kind))) (sym e)
        (taken (keyed_both annotating supporting (flat (λ x. keys t (key_below own x.0) x) (annotations t n.0)) (keys_below keys m t own n.0 n.1.each) h g))

    pub keyed_use : (t : Template) (own : List ℕ) (n : ℕ × TemplateNode) (used : ℕ) (arguments : List ℕ) (tree : Tree A) (v : Template) (first : TemplateNode)
        → slice_get templates used ≡ Some v → slice_get v.nodes 0 ≡ Some first
        → IsKeyed key tree (keys v own (0, first))
        → IsKeyed key tree (keys_by_kind keys m templates t own n (Uses used arguments))
    keyed_use t own n used arguments tree v first e f h =
        subst (IsKeyed key tree)
        (sym (ap (λ o. first_keys keys o own) e ∙ ap (λ o. elim o as (λ _. List (List ℕ)) [ None ↦ [] | Some x ↦ keys v own (0, x) ]) f)) h
