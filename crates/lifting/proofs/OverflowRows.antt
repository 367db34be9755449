-- The loops of a lifting that run out of room: what was added so far fills some of it, and the next node or row needs more than is left.
use Rattle.std.proofs.Common.{◌≡◌, ℕ, zero, suc, ◌+◌, List, [], ◌∷◌, ◌++◌, length, Bool, true, false, Some, refl, sym, ap, ◌∙◌, take}
use Rattle.std.specs.Prelude.{cond, decimal}
use Rattle.std.specs.List.{slice_get, enumerate_from}
use Rattle.std.proofs.lemmas.List.{map-append, append-nil}
use Rattle.worlds.specs.Algebra.{Algebra, Kept}
use Rattle.meaning.specs.Models.{Model, model_at}
use Rattle.meaning.specs.Templates.{Template, TemplateNode, Instance, instance_within}
use Rattle.meaning.specs.Tidy.{Among, none, taken, whole_model, keys_within}
use Rattle.path_queries.specs.Answering.{tuples_of, tuples_at}
use Rattle.lifting.specs.Overflows.{Overflows}
use Rattle.lifting.specs.Sites.{below_among, stands_below, branch_front, instances_below, keys_below, instances_of_tuples, keys_of_tuples}
use Rattle.meaning.proofs.Lists.{flat_append, cond_append}
use Rattle.lifting.proofs.AmongLists.{among_nothing, among_itself, among_filters, among_mapped, among_flats}
use Rattle.lifting.proofs.LoopSteps.{taken_more, below_more, tuples_more}
use Rattle.lifting.proofs.OverflowSteps.{Fills, fills_later, fills_as, fills_then, overflows_then, overflows_as, overflows_of_some}

-- ---- what was walked is some of the whole

module _ {A : Type 0} where
  pub among_taken : (i : ℕ) (xs : List A) → Among (take i xs) xs
  among_taken zero [] = none
  among_taken (suc i) [] = none
  among_taken zero (x ∷ xs) = among_nothing (x ∷ xs)
  among_taken (suc i) (x ∷ xs) = taken (among_taken i xs)

  among_numbered : (k i : ℕ) (xs : List A) → Among (enumerate_from k (take i xs)) (enumerate_from k xs)
  among_numbered k zero [] = none
  among_numbered k (suc i) [] = none
  among_numbered k zero (x ∷ xs) = among_nothing (enumerate_from k (x ∷ xs))
  among_numbered k (suc i) (x ∷ xs) = taken (among_numbered (k + 1) i xs)

  pub among_where : (u : Bool) {xs ys : List A} → Among xs ys → Among (cond u xs []) (cond u ys [])
  among_where true a = a
  among_where false a = none

below_some : (ns : List TemplateNode) (j : ℕ) (annotating : Bool) (i : ℕ) → Among (below_among (take i ns) j annotating) (below_among ns j annotating)
below_some ns j annotating i = among_filters (λ x. stands_below j annotating x.1) (among_numbered 0 i ns)

module _ {C : Type 0} where
  -- ---- the nodes below a node

  module _ (b c : Algebra C) (m : Model) (templates : List Template) (depth : ℕ) (t : Template) (front bound : List ℕ) (j : ℕ) (annotating : Bool) (u v : List Bool → Bool) (i : ℕ) (n : TemplateNode)
      (e : slice_get t.nodes i ≡ Some n) where
    abbrev instances_to : ℕ → List Bool → List Instance
    instances_to i x = cond (u x) (instances_below m templates depth t front bound (below_among (take i t.nodes) j annotating) x) []

    abbrev keys_to : ℕ → List (List ℕ)
    keys_to i = keys_below m templates depth t front (below_among (take i t.nodes) j annotating)

    abbrev instance_there : List Bool → List Instance
    instance_there x = cond (v x) (instance_within depth (length m.labels) (model_at m x) templates t (front ++ decimal i) bound (i, n) ∷ []) []

    abbrev keys_there : List (List ℕ)
    keys_there = keys_within depth (whole_model m) templates t (front ++ decimal i) (i, n)

    more : stands_below j annotating n ≡ true → below_among (take (suc i) t.nodes) j annotating ≡ below_among (take i t.nodes) j annotating ++ (i, n) ∷ []
    more stands = below_more t.nodes j annotating i n e ∙ ap (λ b. below_among (take i t.nodes) j annotating ++ cond b ((i, n) ∷ []) []) stands

    instances_are : ((x : List Bool) → v x ≡ u x) → stands_below j annotating n ≡ true → (x : List Bool) → instances_to i x ++ instance_there x ≡ instances_to (suc i) x
    instances_are same stands x =
        ap (λ b. instances_to i x ++ cond b (instances_below m templates depth t front bound ((i, n) ∷ []) x) []) (same x)
        ∙ cond_append (u x) (instances_below m templates depth t front bound (below_among (take i t.nodes) j annotating) x) (instances_below m templates depth t front bound ((i, n) ∷ []) x)
        ∙ ap (λ is. cond (u x) is [])
        (sym (map-append (λ n. instance_within depth (length m.labels) (model_at m x) templates t (front ++ decimal n.0) bound n) (below_among (take i t.nodes) j annotating) ((i, n) ∷ []))
        ∙ ap (λ ns. instances_below m templates depth t front bound ns x) (sym (more stands)))

    keys_are : stands_below j annotating n ≡ true → keys_to i ++ keys_there ≡ keys_to (suc i)
    keys_are stands =
        ap (λ ks. keys_to i ++ ks) (sym (append-nil keys_there))
        ∙ sym (flat_append (λ n. keys_within depth (whole_model m) templates t (front ++ decimal n.0) n) (below_among (take i t.nodes) j annotating) ((i, n) ∷ []))
        ∙ ap (keys_below m templates depth t front) (sym (more stands))

    -- one node more fills more
    pub one_more_fills : (room middle left : ℕ) → Kept b c → ((x : List Bool) → v x ≡ u x) → stands_below j annotating n ≡ true
        → Fills b (instances_to i) (keys_to i) room middle → Fills c instance_there keys_there middle left → Fills c (instances_to (suc i)) (keys_to (suc i)) room left
    one_more_fills room middle left kept same stands h g =
        fills_as c (λ x. instances_to i x ++ instance_there x) (instances_to (suc i)) (keys_to i ++ keys_there) (keys_to (suc i)) room left (λ x w. instances_are same stands x) (keys_are stands)
        (fills_then c (instances_to i) instance_there (keys_to i) keys_there room middle left (fills_later (instances_to i) (keys_to i) room middle kept h) g)

    -- a node that does not stand there fills nothing
    pub none_more_fills : (room left : ℕ) → stands_below j annotating n ≡ false → Fills b (instances_to i) (keys_to i) room left → Fills b (instances_to (suc i)) (keys_to (suc i)) room left
    none_more_fills room left stands h =
        fills_as b (instances_to i) (instances_to (suc i)) (keys_to i) (keys_to (suc i)) room left
        (λ x w. ap (λ ns. cond (u x) (instances_below m templates depth t front bound ns x) []) same) (ap (keys_below m templates depth t front) same) h
      where
        same : below_among (take i t.nodes) j annotating ≡ below_among (take (suc i) t.nodes) j annotating
        same = sym (below_more t.nodes j annotating i n e ∙ ap (λ b. below_among (take i t.nodes) j annotating ++ cond b ((i, n) ∷ []) []) stands ∙ append-nil (below_among (take i t.nodes) j annotating))

    -- a node for which too little is left: all of them are too many
    pub one_more_overflows : (room middle : ℕ) → Kept b c → ((x : List Bool) → v x ≡ u x) → stands_below j annotating n ≡ true
        → Fills b (instances_to i) (keys_to i) room middle → Overflows c instance_there keys_there middle
        → Overflows c (λ x. cond (u x) (instances_below m templates depth t front bound (below_among t.nodes j annotating) x) []) (keys_below m templates depth t front (below_among t.nodes j annotating)) room
    one_more_overflows room middle kept same stands h g =
        overflows_of_some c (instances_to (suc i)) (λ x. cond (u x) (instances_below m templates depth t front bound (below_among t.nodes j annotating) x) []) (keys_to (suc i)) (keys_below m templates depth t front (below_among t.nodes j annotating)) room
        (λ x w. among_where (u x) (among_mapped (λ n. instance_within depth (length m.labels) (model_at m x) templates t (front ++ decimal n.0) bound n) (below_some t.nodes j annotating (suc i))))
        (among_flats (λ n. keys_within depth (whole_model m) templates t (front ++ decimal n.0) n) (λ n. keys_within depth (whole_model m) templates t (front ++ decimal n.0) n) (λ n. among_itself _) (below_some t.nodes j annotating (suc i)))
        (overflows_as c (λ x. instances_to i x ++ instance_there x) (instances_to (suc i)) (keys_to i ++ keys_there) (keys_to (suc i)) room (λ x w. instances_are same stands x) (keys_are stands)
        (overflows_then c (instances_to i) instance_there (keys_to i) keys_there room middle (fills_later (instances_to i) (keys_to i) room middle kept h) g))

  -- ---- the rows of a node

  module _ (a b c : Algebra C) (m : Model) (templates : List Template) (depth : ℕ) (t : Template) (key bound : List ℕ) (ns : List (ℕ × TemplateNode))
      (rows : List (List ℕ × C)) (i : ℕ) (r : List ℕ × C) (e : slice_get rows i ≡ Some r) where
    abbrev instances_of_rows : List (List ℕ × C) → List Bool → List Instance
    instances_of_rows rows x = instances_of_tuples m templates depth t key bound ns (tuples_at a rows x) x

    abbrev keys_of_rows : List (List ℕ × C) → List (List ℕ)
    keys_of_rows rows = keys_of_tuples m templates depth t key ns (tuples_of rows)

    -- a row for which too little is left: all of them are too many
    pub one_row_overflows : (room middle : ℕ) → Kept b c → (v : List Bool → Bool) → ((x : List Bool) → v x ≡ a.holds r.1 x)
        → Fills b (instances_of_rows (take i rows)) (keys_of_rows (take i rows)) room middle
        → Overflows c (λ x. cond (v x) (instances_below m templates depth t (branch_front key r.0) (bound ++ r.0) ns x) []) (keys_below m templates depth t (branch_front key r.0) ns) middle
        → Overflows c (instances_of_rows rows) (keys_of_rows rows) room
    one_row_overflows room middle kept v same h g =
        overflows_of_some c (instances_of_rows (take (suc i) rows)) (instances_of_rows rows) (keys_of_rows (take (suc i) rows)) (keys_of_rows rows) room
        (λ x w. among_flats (λ tuple. instances_below m templates depth t (branch_front key tuple) (bound ++ tuple) ns x) (λ tuple. instances_below m templates depth t (branch_front key tuple) (bound ++ tuple) ns x) (λ tuple. among_itself _)
        (among_mapped (λ r. r.0) (among_filters (λ r. a.holds r.1 x) (among_taken (suc i) rows))))
        (among_flats (λ tuple. keys_below m templates depth t (branch_front key tuple) ns) (λ tuple. keys_below m templates depth t (branch_front key tuple) ns) (λ tuple. among_itself _) (among_mapped (λ r. r.0) (among_taken (suc i) rows)))
        (overflows_as c (λ x. instances_of_rows (take i rows) x ++ row_there x) (instances_of_rows (take (suc i) rows)) (keys_of_rows (take i rows) ++ row_keys) (keys_of_rows (take (suc i) rows)) room (λ x w. instances_are x) keys_are
        (overflows_then c (instances_of_rows (take i rows)) row_there (keys_of_rows (take i rows)) row_keys room middle (fills_later (instances_of_rows (take i rows)) (keys_of_rows (take i rows)) room middle kept h) g))
      where
        row_there : List Bool → List Instance
        row_there x = cond (v x) (instances_below m templates depth t (branch_front key r.0) (bound ++ r.0) ns x) []

        row_keys : List (List ℕ)
        row_keys = keys_below m templates depth t (branch_front key r.0) ns

        instances_are : (x : List Bool) → instances_of_rows (take i rows) x ++ row_there x ≡ instances_of_rows (take (suc i) rows) x
        instances_are x =
            ap (λ is. instances_of_rows (take i rows) x ++ is)
            (ap (λ b. cond b (instances_below m templates depth t (branch_front key r.0) (bound ++ r.0) ns x) []) (same x) ∙ one (a.holds r.1 x))
            ∙ sym (flat_append (λ tuple. instances_below m templates depth t (branch_front key tuple) (bound ++ tuple) ns x) (tuples_at a (take i rows) x) (cond (a.holds r.1 x) (r.0 ∷ []) []))
            ∙ ap (λ ts. instances_of_tuples m templates depth t key bound ns ts x) (sym (tuples_more a x rows i r e))
          where
            one : (b : Bool) → cond b (instances_below m templates depth t (branch_front key r.0) (bound ++ r.0) ns x) [] ≡ instances_of_tuples m templates depth t key bound ns (cond b (r.0 ∷ []) []) x
            one true = sym (append-nil (instances_below m templates depth t (branch_front key r.0) (bound ++ r.0) ns x))
            one false = refl

        keys_are : keys_of_rows (take i rows) ++ row_keys ≡ keys_of_rows (take (suc i) rows)
        keys_are =
            ap (λ ks. keys_of_rows (take i rows) ++ ks) (sym (append-nil row_keys))
            ∙ sym (flat_append (λ tuple. keys_below m templates depth t (branch_front key tuple) ns) (tuples_of (take i rows)) (r.0 ∷ []))
            ∙ ap (keys_of_tuples m templates depth t key ns) (sym (ap tuples_of (taken_more rows i r e) ∙ map-append (λ r. r.0) (take i rows) (r ∷ [])))
