-- The lifted trees of a template node: its annotations, what supports it, its answers, its guard, and the template that it uses.
use Rattle.std.proofs.Common.{◌≡◌, ℕ, List, [], ◌∷◌, ◌++◌, map, Bool, true, false, not, ◌&&◌, Some, None, refl, sym, ap, ◌∙◌, subst}
use Rattle.std.specs.Prelude.{cond, filter}
use Rattle.std.specs.List.{slice_get}
use Rattle.meaning.specs.Texts.{flat}
use Rattle.meaning.specs.Models.{PlainModel}
use Rattle.meaning.specs.Queries.{Query, answers, has_answer, element_of_variable}
use Rattle.meaning.specs.Cases.{NodeKind}
use Rattle.meaning.specs.Templates.{Template, TemplateNode, Plain, Uses, Instance, Instances, nothing, node_of, findings_of, annotations, supporters, supported_by, first_node, key_below, key_in_branch, is_guarded_off, instance_by_kind, instance_over}
use Rattle.meaning.proofs.CutTrees.{Tree, Each, tree_over}
use Rattle.lifting.specs.Lifting.{Seen, Lifts, LiftsAll}
use Rattle.meaning.proofs.Lists.{cond_append, cond_flat}
use Rattle.lifting.proofs.LiftedTrees.{lifts_as, lifts_none, lifts_one, lifts_both, lifts_over, kind_there}

module _ {A : Type 0} (there : A → Bool) (seen : A → Seen) where
  -- ---- lists of trees

  pub lifts_all_as : (ts : List (Tree A)) (is js : List Instance) → is ≡ js → LiftsAll there seen ts is → LiftsAll there seen ts js
  lifts_all_as ts is js e h = subst (LiftsAll there seen ts) e h

  -- more trees of the same condition
  pub lifts_more : (ts us : List (Tree A)) (u : Bool) (is js : List Instance) → LiftsAll there seen ts (cond u is []) → LiftsAll there seen us (cond u js [])
      → LiftsAll there seen (ts ++ us) (cond u (is ++ js) [])
  lifts_more ts us u is js h g = lifts_all_as (ts ++ us) _ _ (cond_append u is js) (lifts_both there seen ts us (cond u is []) (cond u js []) h g)

  -- one tree for each of a list
  pub lifts_each : {X : Type 0} (u : Bool) (tree : X → Tree A) (instance : X → Instance) (xs : List X) → Each (λ x. Lifts there seen (tree x) u (instance x)) xs
      → LiftsAll there seen (map tree xs) (cond u (map instance xs) [])
  lifts_each true tree instance [] h = lifts_none there seen
  lifts_each false tree instance [] h = lifts_none there seen
  lifts_each u tree instance (x ∷ xs) h =
      lifts_more (tree x ∷ []) (map tree xs) u (instance x ∷ []) (map instance xs) (lifts_one there seen (tree x) u (instance x) h.0) (lifts_each u tree instance xs h.1)

  -- some trees for each of a list
  pub lifts_flat : {X : Type 0} (trees : X → List (Tree A)) (instances : X → List Instance) (xs : List X) → Each (λ x. LiftsAll there seen (trees x) (instances x)) xs
      → LiftsAll there seen (flat trees xs) (flat instances xs)
  lifts_flat trees instances [] h = lifts_none there seen
  lifts_flat trees instances (x ∷ xs) h = lifts_both there seen (trees x) (flat trees xs) (instances x) (flat instances xs) h.0 (lifts_flat trees instances xs h.1)

  -- ---- rows: tuples with conditions. Those that hold are the answers

  module _ {R : Type 0} (tuple : R → List ℕ) (row_holds : R → Bool) where
    -- where a row's trees are the instances of its tuple, the trees of all rows are those of the tuples that hold
    pub lifts_rows : (trees : R → List (Tree A)) (instances : List ℕ → List Instance) (rows : List R)
        → Each (λ r. LiftsAll there seen (trees r) (cond (row_holds r) (instances (tuple r)) [])) rows
        → LiftsAll there seen (flat trees rows) (flat instances (map tuple (filter row_holds rows)))
    lifts_rows trees instances [] h = lifts_none there seen
    lifts_rows trees instances (r ∷ rows) h =
        lifts_all_as (trees r ++ flat trees rows) _ _ (go (row_holds r))
        (lifts_both there seen (trees r) (flat trees rows) (cond (row_holds r) (instances (tuple r)) []) (flat instances (map tuple (filter row_holds rows))) h.0 (lifts_rows trees instances rows h.1))
      where
        go : (b : Bool) → cond b (instances (tuple r)) [] ++ flat instances (map tuple (filter row_holds rows))
            ≡ flat instances (map tuple (cond b (r ∷ filter row_holds rows) (filter row_holds rows)))
        go true = refl
        go false = refl

    -- the rows are the answers where the condition holds, and none holds where it does not
    abbrev pub AreAnswers : PlainModel → Query → List ℕ → Bool → List R → Type 0
    AreAnswers m q bound u rows = map tuple (filter row_holds rows) ≡ cond u (answers m q bound) []

    -- what supports a node once for each answer: the trees of each row, its condition in place of the node's
    pub lifts_answers : (below : Instances) (m : PlainModel) (t : Template) (key bound : List ℕ) (k : ℕ) (q : Query) (u : Bool) (rows : List R)
        → AreAnswers m q bound u rows
        → (trees : R → List (Tree A))
        → Each (λ r. LiftsAll there seen (trees r) (cond (row_holds r) (map (λ x. below t (key_in_branch key (tuple r) x.0) (bound ++ tuple r) x) (supporters t k)) [])) rows
        → LiftsAll there seen (flat trees rows) (cond u (supported_by below m t key bound k (Some q)) [])
    lifts_answers below m t key bound k q u rows e trees h =
        lifts_all_as (flat trees rows) _ _ (ap (flat in_branch) e ∙ cond_flat in_branch u (answers m q bound)) (lifts_rows trees in_branch rows h)
      where
        in_branch : List ℕ → List Instance
        in_branch answer = map (λ x. below t (key_in_branch key answer x.0) (bound ++ answer) x) (supporters t k)

  -- ---- a node of a template

  module _ (below : Instances) (labels : ℕ) (m : PlainModel) (templates : List Template) where
    -- a node of a kind: itself, over what annotates it and what supports it
    pub lifts_plain : (t : Template) (key bound : List ℕ) (n : ℕ × TemplateNode) (kind : NodeKind) (u : Bool) (a : A) (annotating supporting : List (Tree A))
        → there a ≡ u
        → (u ≡ true → seen a ≡ (node_of labels m key bound kind n.1, findings_of labels m bound n.1))
        → LiftsAll there seen annotating (cond u (map (λ x. below t (key_below key x.0) bound x) (annotations t n.0)) [])
        → LiftsAll there seen supporting (cond u (supported_by below m t key bound n.0 n.1.each) [])
        → Lifts there seen (tree_over (kind_there there seen) a (annotating ++ supporting)) u (instance_by_kind below labels m templates t key bound n (Plain kind))
    lifts_plain t key bound n kind u a annotating supporting e f h g =
        lifts_over there seen a u (node_of labels m key bound kind n.1, findings_of labels m bound n.1) (annotating ++ supporting)
        (map (λ x. below t (key_below key x.0) bound x) (annotations t n.0) ++ supported_by below m t key bound n.0 n.1.each) e f
        (lifts_more annotating supporting u (map (λ x. below t (key_below key x.0) bound x) (annotations t n.0)) (supported_by below m t key bound n.0 n.1.each) h g)

    -- a node that uses a template: the first node of that template, under the elements of the arguments
    pub lifts_use : (t : Template) (key bound : List ℕ) (n : ℕ × TemplateNode) (used : ℕ) (arguments : List ℕ) (u : Bool) (tree : Tree A)
        (v : Template) (first : TemplateNode) → slice_get templates used ≡ Some v → slice_get v.nodes 0 ≡ Some first
        → Lifts there seen tree u (below v key (map (element_of_variable bound) arguments) (0, first))
        → Lifts there seen tree u (instance_by_kind below labels m templates t key bound n (Uses used arguments))
    lifts_use t key bound n used arguments u tree v first e f h =
        lifts_as there seen tree u _ _
        (sym (ap (λ o. first_node below o key (map (element_of_variable bound) arguments)) e
        ∙ ap (λ o. elim o as (λ _. Instance) [ None ↦ nothing | Some x ↦ below v key (map (element_of_variable bound) arguments) (0, x) ]) f)) h

    -- under the guard too: where it has no answer the node has no instance
    pub lifts_guarded : (t : Template) (key bound : List ℕ) (n : ℕ × TemplateNode) (u : Bool) (tree : Tree A)
        → Lifts there seen tree (u && not (is_guarded_off m bound n.1.guard)) (instance_by_kind below labels m templates t key bound n n.1.kind)
        → Lifts there seen tree u (instance_over below labels m templates t key bound n)
    lifts_guarded t key bound n u tree h = go (is_guarded_off m bound n.1.guard) u h
      where
        i : Instance
        i = instance_by_kind below labels m templates t key bound n n.1.kind

        go : (off v : Bool) → Lifts there seen tree (v && not off) i → Lifts there seen tree v (cond off nothing i)
        go false true h = h
        go false false h = h
        go true true h = record { whole = h.whole; cuts = h.cuts }
        go true false h = record { whole = h.whole; cuts = h.cuts }

    -- the condition of a node with a guard, and of one without
    pub guard_holds : (bound : List ℕ) (u : Bool) (q : Query) → (u && not (is_guarded_off m bound (Some q))) ≡ (u && has_answer m q bound)
    guard_holds bound u q = ap (λ b. u && b) (twice (has_answer m q bound))
      where
        twice : (b : Bool) → not (not b) ≡ b
        twice true = refl
        twice false = refl

    pub no_guard : (bound : List ℕ) (u : Bool) → (u && not (is_guarded_off m bound None)) ≡ u
    no_guard bound true = refl
    no_guard bound false = refl
