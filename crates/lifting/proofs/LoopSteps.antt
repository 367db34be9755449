-- The loops of a lifting: one node more, one row more, and a node with all that is below it.
use Rattle.std.proofs.Common.{◌≡◌, ℕ, zero, suc, ◌+◌, ◌<◌, List, [], ◌∷◌, ◌++◌, map, length, Bool, true, false, not, ◌&&◌, Option, Some, None, refl, sym, ap, ◌∙◌, subst, arith, take, get_or}
use Rattle.std.specs.Prelude.{cond, filter, decimal}
use Rattle.std.specs.List.{slice_get, enumerate_from}
use Rattle.std.proofs.lemmas.List.{map-append, append-nil}
use Rattle.std.proofs.lemmas.List.Elements.{filter-append}
use Rattle.worlds.specs.Algebra.{Algebra, Kept}
use Rattle.worlds.proofs.Kept.{world_before, kept_then}
use Rattle.meaning.specs.Texts.{numbered}
use Rattle.meaning.specs.Models.{Model, model_at}
use Rattle.meaning.specs.Queries.{Query, answers}
use Rattle.meaning.specs.Cases.{NodeKind}
use Rattle.meaning.specs.Templates.{Template, TemplateNode, Plain, Instance, annotations, supporters, supported_by, branches_of, is_guarded_off, instance_within}
use Rattle.meaning.specs.Tidy.{Among, whole_model, keys_within}
use Rattle.meaning.specs.Tidy as tidy
use Rattle.path_queries.specs.Answering.{tuples_of, tuples_at}
use Rattle.lifting.specs.declared.growing.Growing.{Growing}
use Rattle.meaning.proofs.KeySteps.{IsSmall}
use Rattle.lifting.specs.Sites.{AddsOne, AddsNode, AddsBelow, AreRows, LiesBelow, below_among, stands_below, branch_front, instances_below, keys_below, instances_of_tuples, keys_of_tuples, tuples_of_each}
use Rattle.meaning.proofs.Lists.{flat_append, cond_append, cond_flat}
use Rattle.meaning.proofs.EqualityTests.{none_is_some, some_is}
use Rattle.lifting.proofs.AmongLists.{among_itself, among_append, among_flats}
use Rattle.lifting.proofs.NotedTrees.{same_tuples, stands_later}
use Rattle.lifting.proofs.LiftingSteps.{adds_later, adds_as, adds_then, one_below, node_over}

-- ---- lists as far as they are walked

module _ {A : Type 0} where
  pub taken_more : (xs : List A) (i : ℕ) (x : A) → slice_get xs i ≡ Some x → take (suc i) xs ≡ take i xs ++ x ∷ []
  taken_more [] i x e = elim (none_is_some x e) [ ]
  taken_more (y ∷ xs) zero x e = ap (λ z. z ∷ []) (some_is y x e)
  taken_more (y ∷ xs) (suc i) x e = ap (λ zs. y ∷ zs) (taken_more xs i x e)

  taken_length : (xs : List A) (i : ℕ) (x : A) → slice_get xs i ≡ Some x → length (take i xs) ≡ i
  taken_length [] i x e = elim (none_is_some x e) [ ]
  taken_length (y ∷ xs) zero x e = refl
  taken_length (y ∷ xs) (suc i) x e = ap suc (taken_length xs i x e)

  numbered_more : (k : ℕ) (xs : List A) (x : A) → enumerate_from k (xs ++ x ∷ []) ≡ enumerate_from k xs ++ (k + length xs, x) ∷ []
  numbered_more k [] x = ap (λ j. (j, x) ∷ []) (omega arith)
  numbered_more k (y ∷ xs) x = ap (λ zs. (k, y) ∷ zs) (numbered_more (k + 1) xs x ∙ ap (λ j. enumerate_from (k + 1) xs ++ (j, x) ∷ []) (omega arith))

-- an element of a list, seen through a function
pub at_place : {A B : Type 0} (f : A → B) (xs : List A) (i : ℕ) (x : A) → i < length xs → x ≡ get_or xs i x → slice_get (map f xs) i ≡ Some (f x)
at_place f [] i x l e = elim (none_below i l) [ ]
  where
    none_below : (i : ℕ) → i < 0 → ⊥
    none_below i l = omega (arith, l)
at_place f (y ∷ xs) zero x l e = ap (λ z. Some (f z)) (sym e)
at_place f (y ∷ xs) (suc i) x l e = at_place f xs i x (omega (arith, l)) e

pub below_more : (ns : List TemplateNode) (j : ℕ) (annotating : Bool) (i : ℕ) (n : TemplateNode) → slice_get ns i ≡ Some n
    → below_among (take (suc i) ns) j annotating ≡ below_among (take i ns) j annotating ++ cond (stands_below j annotating n) ((i, n) ∷ []) []
below_more ns j annotating i n e =
    ap (λ ms. below_among ms j annotating) (taken_more ns i n e)
    ∙ ap (filter (λ x. stands_below j annotating x.1)) (numbered_more 0 (take i ns) n ∙ ap (λ k. enumerate_from 0 (take i ns) ++ (k, n) ∷ []) (number ∙ taken_length ns i n e))
    ∙ filter-append (λ x. stands_below j annotating x.1) (numbered (take i ns)) ((i, n) ∷ [])
  where
    number : 0 + length (take i ns) ≡ length (take i ns)
    number = omega arith

module _ {C : Type 0} where
  -- ---- one node more below a node

  module _ (b c : Algebra C) (m : Model) (templates : List Template) (depth : ℕ) (t : Template) (front bound upper : List ℕ) (j : ℕ) (annotating : Bool) (u v : List Bool → Bool) (place : ℕ) (g h k : Growing C)
      (i : ℕ) (n : TemplateNode) (e : slice_get t.nodes i ≡ Some n) where
    abbrev so_far : ℕ → List (ℕ × TemplateNode)
    so_far i = below_among (take i t.nodes) j annotating

    pub one_more_below : Kept b c → ((x : List Bool) → v x ≡ u x) → IsSmall i → LiesBelow front upper → stands_below j annotating n ≡ true
        → AddsBelow b upper place (λ x. cond (u x) (instances_below m templates depth t front bound (so_far i) x) []) (keys_below m templates depth t front (so_far i)) g h
        → AddsNode c m templates depth t (front ++ decimal i) bound (i, n) v (Some place) h k
        → AddsBelow c upper place (λ x. cond (u x) (instances_below m templates depth t front bound (so_far (suc i)) x) []) (keys_below m templates depth t front (so_far (suc i))) g k
    one_more_below kept same small lies stands s r =
        adds_as c upper place _ _ _ _ g k (λ x w. instances_are x) keys_are
        (adds_then c upper place _ _ _ _ g h k (adds_later upper place _ _ g h kept s) (one_below c m templates depth t front bound upper (i, n) v place h k small lies r))
      where
        more : so_far (suc i) ≡ so_far i ++ (i, n) ∷ []
        more = below_more t.nodes j annotating i n e ∙ ap (λ b. so_far i ++ cond b ((i, n) ∷ []) []) stands

        instances_are : (x : List Bool) → cond (u x) (instances_below m templates depth t front bound (so_far i) x) [] ++ cond (v x) (instances_below m templates depth t front bound ((i, n) ∷ []) x) []
            ≡ cond (u x) (instances_below m templates depth t front bound (so_far (suc i)) x) []
        instances_are x =
            ap (λ b. cond (u x) (instances_below m templates depth t front bound (so_far i) x) [] ++ cond b (instances_below m templates depth t front bound ((i, n) ∷ []) x) []) (same x)
            ∙ cond_append (u x) (instances_below m templates depth t front bound (so_far i) x) (instances_below m templates depth t front bound ((i, n) ∷ []) x)
            ∙ ap (λ is. cond (u x) is [])
            (sym (map-append (λ n. instance_within depth (length m.labels) (model_at m x) templates t (front ++ decimal n.0) bound n) (so_far i) ((i, n) ∷ []))
            ∙ ap (λ ns. instances_below m templates depth t front bound ns x) (sym more))

        keys_are : keys_below m templates depth t front (so_far i) ++ keys_below m templates depth t front ((i, n) ∷ []) ≡ keys_below m templates depth t front (so_far (suc i))
        keys_are =
            sym (flat_append (λ n. keys_within depth (whole_model m) templates t (front ++ decimal n.0) n) (so_far i) ((i, n) ∷ []))
            ∙ ap (keys_below m templates depth t front) (sym more)

    -- a node that does not stand there changes nothing
    pub none_more_below : stands_below j annotating n ≡ false
        → AddsBelow b upper place (λ x. cond (u x) (instances_below m templates depth t front bound (so_far i) x) []) (keys_below m templates depth t front (so_far i)) g h
        → AddsBelow b upper place (λ x. cond (u x) (instances_below m templates depth t front bound (so_far (suc i)) x) []) (keys_below m templates depth t front (so_far (suc i))) g h
    none_more_below stands s =
        adds_as b upper place _ _ _ _ g h (λ x w. ap (λ ns. cond (u x) (instances_below m templates depth t front bound ns x) []) same) (ap (keys_below m templates depth t front) same) s
      where
        same : so_far i ≡ so_far (suc i)
        same = sym (below_more t.nodes j annotating i n e ∙ ap (λ b. so_far i ++ cond b ((i, n) ∷ []) []) stands ∙ append-nil (so_far i))

  -- ---- one row more

  pub tuples_more : (a : Algebra C) (x : List Bool) (rows : List (List ℕ × C)) (i : ℕ) (r : List ℕ × C) → slice_get rows i ≡ Some r
      → tuples_at a (take (suc i) rows) x ≡ tuples_at a (take i rows) x ++ cond (a.holds r.1 x) (r.0 ∷ []) []
  tuples_more a x rows i r e =
      ap (λ rs. tuples_at a rs x) (taken_more rows i r e)
      ∙ ap (map (λ r. r.0)) (filter-append (λ r. a.holds r.1 x) (take i rows) (r ∷ []))
      ∙ map-append (λ r. r.0) (filter (λ r. a.holds r.1 x) (take i rows)) (filter (λ r. a.holds r.1 x) (r ∷ []))
      ∙ ap (λ ts. tuples_at a (take i rows) x ++ ts) (go (a.holds r.1 x))
    where
      go : (b : Bool) → map (λ r. r.0) (cond b (r ∷ []) []) ≡ cond b (r.0 ∷ []) []
      go true = refl
      go false = refl

  module _ (a b c : Algebra C) (m : Model) (templates : List Template) (depth : ℕ) (t : Template) (key bound : List ℕ) (ns : List (ℕ × TemplateNode)) (place : ℕ) (g h k : Growing C)
      (rows : List (List ℕ × C)) (i : ℕ) (r : List ℕ × C) (e : slice_get rows i ≡ Some r) where
    pub one_more_row : Kept b c → (v : List Bool → Bool) → ((x : List Bool) → v x ≡ a.holds r.1 x)
        → AddsBelow b key place (λ x. instances_of_tuples m templates depth t key bound ns (tuples_at a (take i rows) x) x) (keys_of_tuples m templates depth t key ns (tuples_of (take i rows))) g h
        → AddsBelow c key place (λ x. cond (v x) (instances_below m templates depth t (branch_front key r.0) (bound ++ r.0) ns x) []) (keys_below m templates depth t (branch_front key r.0) ns) h k
        → AddsBelow c key place (λ x. instances_of_tuples m templates depth t key bound ns (tuples_at a (take (suc i) rows) x) x) (keys_of_tuples m templates depth t key ns (tuples_of (take (suc i) rows))) g k
    one_more_row kept v same s q =
        adds_as c key place _ _ _ _ g k (λ x w. instances_are x) keys_are
        (adds_then c key place _ _ _ _ g h k (adds_later key place _ _ g h kept s) q)
      where
        instances_are : (x : List Bool) → instances_of_tuples m templates depth t key bound ns (tuples_at a (take i rows) x) x ++ cond (v x) (instances_below m templates depth t (branch_front key r.0) (bound ++ r.0) ns x) []
            ≡ instances_of_tuples m templates depth t key bound ns (tuples_at a (take (suc i) rows) x) x
        instances_are x =
            ap (λ is. instances_of_tuples m templates depth t key bound ns (tuples_at a (take i rows) x) x ++ is)
            (ap (λ b. cond b (instances_below m templates depth t (branch_front key r.0) (bound ++ r.0) ns x) []) (same x) ∙ one (a.holds r.1 x))
            ∙ sym (flat_append (λ tuple. instances_below m templates depth t (branch_front key tuple) (bound ++ tuple) ns x) (tuples_at a (take i rows) x) (cond (a.holds r.1 x) (r.0 ∷ []) []))
            ∙ ap (λ ts. instances_of_tuples m templates depth t key bound ns ts x) (sym (tuples_more a x rows i r e))
          where
            one : (b : Bool) → cond b (instances_below m templates depth t (branch_front key r.0) (bound ++ r.0) ns x) [] ≡ instances_of_tuples m templates depth t key bound ns (cond b (r.0 ∷ []) []) x
            one true = sym (append-nil (instances_below m templates depth t (branch_front key r.0) (bound ++ r.0) ns x))
            one false = refl

        keys_are : keys_of_tuples m templates depth t key ns (tuples_of (take i rows)) ++ keys_below m templates depth t (branch_front key r.0) ns ≡ keys_of_tuples m templates depth t key ns (tuples_of (take (suc i) rows))
        keys_are =
            ap (λ ks. keys_of_tuples m templates depth t key ns (tuples_of (take i rows)) ++ ks) (sym (append-nil (keys_below m templates depth t (branch_front key r.0) ns)))
            ∙ sym (flat_append (λ tuple. keys_below m templates depth t (branch_front key tuple) ns) (tuples_of (take i rows)) (r.0 ∷ []))
            ∙ ap (keys_of_tuples m templates depth t key ns) (sym (ap tuples_of (taken_more rows i r e) ∙ map-append (λ r. r.0) (take i rows) (r ∷ [])))

  -- ---- a node with all that is below it

  pub one_later : {a b : Algebra C} (m : Model) (n : TemplateNode) (kind : NodeKind) (key bound : List ℕ) (under : List Bool → Bool) (rows : List (List ℕ × C)) (above : Option ℕ) (g h : Growing C)
      → Kept a b → AddsOne a m n kind key bound under rows above g h → AddsOne b m n kind key bound under rows above g h
  one_later m n kind key bound under rows above g h k s = record {
    node = s.node;
    stands = stands_later _ k s.stands;
    key = s.key;
    seen = λ x w u. s.seen x (world_before x k w) u;
    grows = s.grows;
    counted = s.counted;
  }

  module _ (a b c : Algebra C) (m : Model) (templates : List Template) (depth : ℕ) (t : Template) (key bound : List ℕ) (j : ℕ) (n : TemplateNode) (kind : NodeKind) (own before : List Bool → Bool)
      (rows : List (List ℕ × C)) (above : Option ℕ) (g h i k : Growing C) (kept : Kept a b) (later : Kept b c) (plain : n.kind ≡ Plain kind)
      (guarded : (x : List Bool) → c.is_world x ≡ true → own x ≡ (before x && not (is_guarded_off (model_at m x) bound n.guard)))
      (one : AddsOne a m n kind key bound own rows above g h) (u : List Bool → Bool) (same : (x : List Bool) → u x ≡ own x)
      (annotating : AddsBelow b key (length g.nodes.items) (λ x. cond (u x) (instances_below m templates depth t (key ++ 47 ∷ []) bound (annotations t j) x) []) (keys_below m templates depth t (key ++ 47 ∷ []) (annotations t j)) h i) where
    -- with these instances and keys of what supports it
    with_support : (is : List Bool → List Instance) (keys : List (List ℕ))
        → ((x : List Bool) → c.is_world x ≡ true → is x ≡ cond (own x) (supported_by (instance_within depth (length m.labels) (model_at m x) templates) (model_at m x) t key bound j n.each) [])
        → Among keys (tidy.keys_below (keys_within depth (whole_model m) templates) (whole_model m) t key j n.each)
        → AddsBelow c key (length g.nodes.items) is keys i k
        → AddsNode c m templates (suc depth) t key bound (j, n) before above g k
    with_support is keys f among s =
        node_over c m templates depth t key bound (j, n) kind before own rows above g h k plain guarded
        (one_later m n kind key bound own rows above g h (kept_then kept later) one)
        (keys_below m templates depth t (key ++ 47 ∷ []) (annotations t j) ++ keys) (among_append among (among_itself (keys_below m templates depth t (key ++ 47 ∷ []) (annotations t j))))
        (adds_as c key (length g.nodes.items) _ _ _ _ h k
        (λ x w.
        ap (λ b. cond b (instances_below m templates depth t (key ++ 47 ∷ []) bound (annotations t j) x) [] ++ is x) (same x)
        ∙ ap (λ js. cond (own x) (instances_below m templates depth t (key ++ 47 ∷ []) bound (annotations t j) x) [] ++ js) (f x w)
        ∙ cond_append (own x) _ _)
        refl
        (adds_then c key (length g.nodes.items) _ _ _ _ h i k (adds_later key (length g.nodes.items) _ _ h i later annotating) s))

    pub plain_alone : n.each ≡ None → (v : List Bool → Bool) → ((x : List Bool) → v x ≡ own x)
        → AddsBelow c key (length g.nodes.items) (λ x. cond (v x) (instances_below m templates depth t (key ++ 47 ∷ []) bound (supporters t j) x) []) (keys_below m templates depth t (key ++ 47 ∷ []) (supporters t j)) i k
        → AddsNode c m templates (suc depth) t key bound (j, n) before above g k
    plain_alone e v is_own s =
        with_support _ _
        (λ x w.
        ap (λ b. cond b (instances_below m templates depth t (key ++ 47 ∷ []) bound (supporters t j) x) []) (is_own x)
        ∙ ap (λ q. cond (own x) (supported_by (instance_within depth (length m.labels) (model_at m x) templates) (model_at m x) t key bound j q) []) (sym e))
        (subst (λ q. Among (keys_below m templates depth t (key ++ 47 ∷ []) (supporters t j)) (tidy.keys_below (keys_within depth (whole_model m) templates) (whole_model m) t key j q)) (sym e)
        (among_itself (keys_below m templates depth t (key ++ 47 ∷ []) (supporters t j))))
        s

    pub plain_in_branches : (q : Query) → n.each ≡ Some q → AreRows a m n.each bound own rows
        → AddsBelow c key (length g.nodes.items) (λ x. instances_of_tuples m templates depth t key bound (supporters t j) (tuples_at b rows x) x) (keys_of_tuples m templates depth t key (supporters t j) (tuples_of rows)) i k
        → AddsNode c m templates (suc depth) t key bound (j, n) before above g k
    plain_in_branches q e r s =
        with_support _ _ instances_are
        (subst (λ q. Among (keys_of_tuples m templates depth t key (supporters t j) (tuples_of rows)) (tidy.keys_below (keys_within depth (whole_model m) templates) (whole_model m) t key j q)) (sym e)
        (among_flats _ _ (λ tuple. among_itself (keys_below m templates depth t (branch_front key tuple) (supporters t j))) (subst (λ q. Among (tuples_of rows) (tuples_of_each m q)) e r.order)))
        s
      where
        instances_are : (x : List Bool) → c.is_world x ≡ true
            → instances_of_tuples m templates depth t key bound (supporters t j) (tuples_at b rows x) x ≡ cond (own x) (supported_by (instance_within depth (length m.labels) (model_at m x) templates) (model_at m x) t key bound j n.each) []
        instances_are x w =
            ap (λ ts. instances_of_tuples m templates depth t key bound (supporters t j) ts x)
            (same_tuples rows x kept r.live ∙ r.exact x (world_before x (kept_then kept later) w) ∙ ap (λ q. cond (own x) (branches_of (model_at m x) bound q) []) e)
            ∙ cond_flat (λ tuple. instances_below m templates depth t (branch_front key tuple) (bound ++ tuple) (supporters t j) x) (own x) (answers (model_at m x) q bound)
            ∙ ap (λ q. cond (own x) (supported_by (instance_within depth (length m.labels) (model_at m x) templates) (model_at m x) t key bound j q) []) (sym e)
