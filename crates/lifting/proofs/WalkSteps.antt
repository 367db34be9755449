-- The walks over the nodes below a node and over its rows: where each step stands, and why it stops.
use Rattle.std.proofs.Common.{◌≡◌, ℕ, suc, ◌+◌, List, [], ◌∷◌, ◌++◌, length, Bool, true, false, Option, Some, refl, sym, ap, ◌∙◌, subst, take, map, get_or, ◌<◌, ◌≤◌, arith}
use Rattle.std.specs.Prelude.{cond, decimal, Contains, Result, IfErr, IsErrAnd}
use Rattle.std.specs.List.{slice_get}
use Rattle.std.proofs.lemmas.List.{take_all}
use Rattle.worlds.specs.Algebra.{Algebra, Kept}
use Rattle.worlds.proofs.Kept.{world_before}
use Rattle.meaning.specs.Models.{Model, model_at}
use Rattle.meaning.specs.Templates.{Template, TemplateNode, instance_within}
use Rattle.meaning.specs.Tidy.{whole_model, keys_within}
use Rattle.meaning.proofs.CutTrees.{Each}
use Rattle.path_queries.specs.Answering.{tuples_of, tuples_at}
use Rattle.lifting.specs.declared.growing.Growing.{Growing}
use Rattle.lifting.specs.declared.stop.LiftStop.{LiftStop}
use Rattle.meaning.proofs.KeySteps.{IsSmall}
use Rattle.lifting.specs.Stops.{Halts}
use Rattle.lifting.specs.Overflows.{Overflows}
use Rattle.lifting.specs.ThereElements.{IsThere}
use Rattle.lifting.specs.Sites.{Site, SiteBelow, RowSites, LiesBelow, AddsNode, AddsBelow, stands_below, below_among, branch_front, instances_below, keys_below, instances_of_tuples, keys_of_tuples}
use Rattle.meaning.proofs.KeyTexts.{above_in_branch}
use Rattle.lifting.proofs.LiftingSteps.{adds_none, adds_as, adds_later}
use Rattle.lifting.proofs.LoopSteps.{at_place, one_more_below, none_more_below, one_more_row}
use Rattle.lifting.proofs.SiteSteps.{below_site_later, child_site}
use Rattle.lifting.proofs.PlacedNodes.{err_as, halts_later, halts_weaker}
use Rattle.lifting.proofs.OverflowSteps.{Fills, fills_nothing, fills_later}
use Rattle.lifting.proofs.OverflowNodes.{fills_of_node, fills_of_below}
use Rattle.lifting.proofs.OverflowRows.{one_more_fills, none_more_fills, one_more_overflows, one_row_overflows}

-- keys in the branch of an answer lie directly below the node's key
pub lies_in_branch : (key answer : List ℕ) → Each IsSmall answer → LiesBelow (branch_front key answer) key
lies_in_branch key answer h i l = above_in_branch key answer i h l

-- nothing was walked at first
nothing_taken : {A : Type 0} (xs : List A) → take 0 xs ≡ []
nothing_taken [] = refl
nothing_taken (x ∷ xs) = refl

none_where : {A : Type 0} (u : Bool) → ◌≡◌ {A = List A} [] (cond u [] [])
none_where true = refl
none_where false = refl

one_more : (i : ℕ) → suc i ≡ i + 1
one_more i = omega arith

-- what was read of a list, seen through a function
pub read_at : {A B : Type 0} (f : A → B) (xs ys : List A) (i k : ℕ) (x : A) → ys ≡ xs → k ≡ i → i < length ys → x ≡ get_or ys i x → slice_get (map f xs) k ≡ Some (f x)
read_at f xs ys i k x same at below read =
    subst (λ k. slice_get (map f xs) k ≡ Some (f x)) (sym at) (subst (λ xs. slice_get (map f xs) i ≡ Some (f x)) same (at_place f ys i x below read))

pub read_among : {A : Type 0} (xs : List A) (i : ℕ) (x : A) → i < length xs → x ≡ get_or xs i x → Contains xs x
read_among xs i x below read = (i, below, sym read)

module _ {C : Type 0} where
  -- ---- at first

  pub adds_no_node : (a : Algebra C) (m : Model) (templates : List Template) (depth : ℕ) (t : Template) (front bound upper : List ℕ) (j : ℕ) (annotating : Bool) (u : List Bool → Bool) (place : ℕ) (g : Growing C)
      → AddsBelow a upper place (λ x. cond (u x) (instances_below m templates depth t front bound (below_among (take 0 t.nodes) j annotating) x) [])
      (keys_below m templates depth t front (below_among (take 0 t.nodes) j annotating)) g g
  adds_no_node a m templates depth t front bound upper j annotating u place g =
      adds_as a upper place _ _ _ _ g g
      (λ x w. none_where (u x) ∙ ap (λ ns. cond (u x) (instances_below m templates depth t front bound (below_among ns j annotating) x) []) (sym (nothing_taken t.nodes)))
      (ap (λ ns. keys_below m templates depth t front (below_among ns j annotating)) (sym (nothing_taken t.nodes))) (adds_none a upper place g)

  pub fills_no_node : (a : Algebra C) (m : Model) (templates : List Template) (depth : ℕ) (t : Template) (front bound : List ℕ) (j : ℕ) (annotating : Bool) (u : List Bool → Bool) (room : ℕ)
      → Fills a (λ x. cond (u x) (instances_below m templates depth t front bound (below_among (take 0 t.nodes) j annotating) x) [])
      (keys_below m templates depth t front (below_among (take 0 t.nodes) j annotating)) room room
  fills_no_node a m templates depth t front bound j annotating u room =
      fills_nothing a (λ x. cond (u x) (instances_below m templates depth t front bound (below_among (take 0 t.nodes) j annotating) x) [])
      (keys_below m templates depth t front (below_among (take 0 t.nodes) j annotating)) room

  pub adds_no_row : (a : Algebra C) (m : Model) (templates : List Template) (depth : ℕ) (t : Template) (key bound : List ℕ) (ns : List (ℕ × TemplateNode)) (place : ℕ) (rows : List (List ℕ × C)) (g : Growing C)
      → AddsBelow a key place (λ x. instances_of_tuples m templates depth t key bound ns (tuples_at a (take 0 rows) x) x) (keys_of_tuples m templates depth t key ns (tuples_of (take 0 rows))) g g
  adds_no_row a m templates depth t key bound ns place rows g =
      adds_as a key place _ _ _ _ g g
      (λ x w. ap (λ rs. instances_of_tuples m templates depth t key bound ns (tuples_at a rs x) x) (sym (nothing_taken rows)))
      (ap (λ rs. keys_of_tuples m templates depth t key ns (tuples_of rs)) (sym (nothing_taken rows))) (adds_none a key place g)

  -- ---- at the end

  pub adds_each_node : (a b : Algebra C) (m : Model) (templates : List Template) (depth : ℕ) (t : Template) (front bound upper : List ℕ) (j : ℕ) (annotating : Bool) (under : C) (place : ℕ) (g h : Growing C) (i : ℕ)
      → length t.nodes ≤ i
      → AddsBelow b upper place (λ x. cond (a.holds under x) (instances_below m templates depth t front bound (below_among (take i t.nodes) j annotating) x) [])
      (keys_below m templates depth t front (below_among (take i t.nodes) j annotating)) g h
      → AddsBelow b upper place (λ x. cond (a.holds under x) (instances_below m templates depth t front bound (below_among t.nodes j annotating) x) [])
      (keys_below m templates depth t front (below_among t.nodes j annotating)) g h
  adds_each_node a b m templates depth t front bound upper j annotating under place g h i e s =
      subst (λ ns. AddsBelow b upper place (λ x. cond (a.holds under x) (instances_below m templates depth t front bound (below_among ns j annotating) x) []) (keys_below m templates depth t front (below_among ns j annotating)) g h)
      (take_all i t.nodes e) s

  pub adds_each_row : (a b : Algebra C) (m : Model) (templates : List Template) (depth : ℕ) (t : Template) (key bound : List ℕ) (ns : List (ℕ × TemplateNode)) (place : ℕ) (rows : List (List ℕ × C)) (g h : Growing C) (i : ℕ)
      → length rows ≤ i
      → AddsBelow b key place (λ x. instances_of_tuples m templates depth t key bound ns (tuples_at a (take i rows) x) x) (keys_of_tuples m templates depth t key ns (tuples_of (take i rows))) g h
      → AddsBelow b key place (λ x. instances_of_tuples m templates depth t key bound ns (tuples_at a rows x) x) (keys_of_tuples m templates depth t key ns (tuples_of rows)) g h
  adds_each_row a b m templates depth t key bound ns place rows g h i e s =
      subst (λ rs. AddsBelow b key place (λ x. instances_of_tuples m templates depth t key bound ns (tuples_at a rs x) x) (keys_of_tuples m templates depth t key ns (tuples_of rs)) g h)
      (take_all i rows e) s

  -- ---- one node more below a node: at first the algebra is a, at its turn b, and behind it c

  module _ (a b c : Algebra C) (m : Model) (templates : List Template) (depth : ℕ) (t : Template) (front bound : List ℕ) (j : ℕ) (annotating : Bool) (under : C) (i : ℕ) (n : TemplateNode) (key : List ℕ)
      (from : Kept a b) (live : a.live under) (e : slice_get t.nodes i ≡ Some n) (stands : stands_below j annotating n ≡ true) where
    pub next_site : SiteBelow a m templates t j annotating bound under → Site b m templates t i n bound under
    next_site h = child_site b m templates t j annotating bound under i n (below_site_later a b m templates t j annotating bound under from live h) e stands

    module _ (own : key ≡ front ++ decimal i) (kept : Kept b c) where
      pub next_adds : (place : ℕ) (g h k : Growing C) (upper : List ℕ) → IsSmall i → LiesBelow front upper
          → AddsBelow b upper place (λ x. cond (a.holds under x) (instances_below m templates depth t front bound (below_among (take i t.nodes) j annotating) x) [])
          (keys_below m templates depth t front (below_among (take i t.nodes) j annotating)) g h
          → AddsNode c m templates depth t key bound (i, n) (b.holds under) (Some place) h k
          → AddsBelow c upper place (λ x. cond (a.holds under x) (instances_below m templates depth t front bound (below_among (take (i + 1) t.nodes) j annotating) x) [])
          (keys_below m templates depth t front (below_among (take (i + 1) t.nodes) j annotating)) g k
      next_adds place g h k upper small lies s r =
          subst (λ walked. AddsBelow c upper place (λ x. cond (a.holds under x) (instances_below m templates depth t front bound (below_among (take walked t.nodes) j annotating) x) [])
          (keys_below m templates depth t front (below_among (take walked t.nodes) j annotating)) g k)
          (one_more i)
          (one_more_below b c m templates depth t front bound upper j annotating (a.holds under) (b.holds under) place g h k i n e kept (λ x. from.holds under live x) small lies stands s
          (subst (λ key. AddsNode c m templates depth t key bound (i, n) (b.holds under) (Some place) h k) own r))

      pub next_fills : (room : ℕ) (above : Option ℕ) (h k : Growing C)
          → Fills b (λ x. cond (a.holds under x) (instances_below m templates depth t front bound (below_among (take i t.nodes) j annotating) x) [])
          (keys_below m templates depth t front (below_among (take i t.nodes) j annotating)) room h.left
          → AddsNode c m templates depth t key bound (i, n) (b.holds under) above h k
          → Fills c (λ x. cond (a.holds under x) (instances_below m templates depth t front bound (below_among (take (i + 1) t.nodes) j annotating) x) [])
          (keys_below m templates depth t front (below_among (take (i + 1) t.nodes) j annotating)) room k.left
      next_fills room above h k f r =
          subst (λ walked. Fills c (λ x. cond (a.holds under x) (instances_below m templates depth t front bound (below_among (take walked t.nodes) j annotating) x) [])
          (keys_below m templates depth t front (below_among (take walked t.nodes) j annotating)) room k.left)
          (one_more i)
          (one_more_fills b c m templates depth t front bound j annotating (a.holds under) (b.holds under) i n e room h.left k.left kept (λ x. from.holds under live x) stands f
          (fills_of_node c m templates depth t (front ++ decimal i) bound (i, n) (b.holds under) above h k
          (subst (λ key. AddsNode c m templates depth t key bound (i, n) (b.holds under) above h k) own r)))

      -- what stops it stops the walk
      pub next_halts : (room middle : ℕ) (stop : LiftStop)
          → Fills b (λ x. cond (a.holds under x) (instances_below m templates depth t front bound (below_among (take i t.nodes) j annotating) x) [])
          (keys_below m templates depth t front (below_among (take i t.nodes) j annotating)) room middle
          → Halts b c
          (Overflows c (λ x. cond (b.holds under x) (instance_within depth (length m.labels) (model_at m x) templates t key bound (i, n) ∷ []) []) (keys_within depth (whole_model m) templates t key (i, n)) middle)
          stop
          → Halts a c
          (Overflows c (λ x. cond (a.holds under x) (instances_below m templates depth t front bound (below_among t.nodes j annotating) x) [])
          (keys_below m templates depth t front (below_among t.nodes j annotating)) room)
          stop
      next_halts room middle stop f h =
          halts_later c _ stop from
          (halts_weaker b c _ _ stop
          (λ over. one_more_overflows b c m templates depth t front bound j annotating (a.holds under) (b.holds under) i n e room middle kept (λ x. from.holds under live x) stands f
          (subst
          (λ key. Overflows c (λ x. cond (b.holds under x) (instance_within depth (length m.labels) (model_at m x) templates t key bound (i, n) ∷ []) []) (keys_within depth (whole_model m) templates t key (i, n)) middle)
          own over))
          h)

      pub next_stops : {T : Type 0} (result : Result T LiftStop) (room middle : ℕ) (stop : LiftStop) → IsErrAnd result (λ d. d ≡ stop)
          → Fills b (λ x. cond (a.holds under x) (instances_below m templates depth t front bound (below_among (take i t.nodes) j annotating) x) [])
          (keys_below m templates depth t front (below_among (take i t.nodes) j annotating)) room middle
          → Halts b c
          (Overflows c (λ x. cond (b.holds under x) (instance_within depth (length m.labels) (model_at m x) templates t key bound (i, n) ∷ []) []) (keys_within depth (whole_model m) templates t key (i, n)) middle)
          stop
          → IfErr result
          (Halts a c
          (Overflows c (λ x. cond (a.holds under x) (instances_below m templates depth t front bound (below_among t.nodes j annotating) x) [])
          (keys_below m templates depth t front (below_among t.nodes j annotating)) room))
      next_stops result room middle stop told f h =
          err_as result stop
          (Halts a c
          (Overflows c (λ x. cond (a.holds under x) (instances_below m templates depth t front bound (below_among t.nodes j annotating) x) [])
          (keys_below m templates depth t front (below_among t.nodes j annotating)) room))
          told (next_halts room middle stop f h)

  -- a node that does not stand there
  module _ (b c : Algebra C) (m : Model) (templates : List Template) (depth : ℕ) (t : Template) (front bound : List ℕ) (j : ℕ) (annotating : Bool) (u : List Bool → Bool) (i : ℕ) (n : TemplateNode)
      (e : slice_get t.nodes i ≡ Some n) (stands : stands_below j annotating n ≡ false) (kept : Kept b c) where
    pub passed_adds : (place : ℕ) (g h k : Growing C) (upper : List ℕ) → h ≡ k
        → AddsBelow b upper place (λ x. cond (u x) (instances_below m templates depth t front bound (below_among (take i t.nodes) j annotating) x) [])
        (keys_below m templates depth t front (below_among (take i t.nodes) j annotating)) g h
        → AddsBelow c upper place (λ x. cond (u x) (instances_below m templates depth t front bound (below_among (take (i + 1) t.nodes) j annotating) x) [])
        (keys_below m templates depth t front (below_among (take (i + 1) t.nodes) j annotating)) g k
    passed_adds place g h k upper same s =
        subst (λ k. AddsBelow c upper place (λ x. cond (u x) (instances_below m templates depth t front bound (below_among (take (i + 1) t.nodes) j annotating) x) [])
        (keys_below m templates depth t front (below_among (take (i + 1) t.nodes) j annotating)) g k)
        same
        (subst (λ walked. AddsBelow c upper place (λ x. cond (u x) (instances_below m templates depth t front bound (below_among (take walked t.nodes) j annotating) x) [])
        (keys_below m templates depth t front (below_among (take walked t.nodes) j annotating)) g h)
        (one_more i)
        (none_more_below c c m templates depth t front bound upper j annotating u u place g h h i n e stands
        (adds_later upper place (λ x. cond (u x) (instances_below m templates depth t front bound (below_among (take i t.nodes) j annotating) x) [])
        (keys_below m templates depth t front (below_among (take i t.nodes) j annotating)) g h kept s)))

    pub passed_fills : (room : ℕ) (h k : Growing C) → h ≡ k
        → Fills b (λ x. cond (u x) (instances_below m templates depth t front bound (below_among (take i t.nodes) j annotating) x) [])
        (keys_below m templates depth t front (below_among (take i t.nodes) j annotating)) room h.left
        → Fills c (λ x. cond (u x) (instances_below m templates depth t front bound (below_among (take (i + 1) t.nodes) j annotating) x) [])
        (keys_below m templates depth t front (below_among (take (i + 1) t.nodes) j annotating)) room k.left
    passed_fills room h k same f =
        subst (λ k. Fills c (λ x. cond (u x) (instances_below m templates depth t front bound (below_among (take (i + 1) t.nodes) j annotating) x) [])
        (keys_below m templates depth t front (below_among (take (i + 1) t.nodes) j annotating)) room k.left)
        same
        (subst (λ walked. Fills c (λ x. cond (u x) (instances_below m templates depth t front bound (below_among (take walked t.nodes) j annotating) x) [])
        (keys_below m templates depth t front (below_among (take walked t.nodes) j annotating)) room h.left)
        (one_more i)
        (none_more_fills c c m templates depth t front bound j annotating u u i n e room h.left stands
        (fills_later (λ x. cond (u x) (instances_below m templates depth t front bound (below_among (take i t.nodes) j annotating) x) [])
        (keys_below m templates depth t front (below_among (take i t.nodes) j annotating)) room h.left kept f)))

  -- ---- one row more

  module _ (a b c : Algebra C) (m : Model) (templates : List Template) (depth : ℕ) (t : Template) (key bound front elements : List ℕ) (j : ℕ) (rows : List (List ℕ × C)) (i : ℕ) (r : List ℕ × C)
      (from : Kept a b) (live : a.live r.1) (e : slice_get rows i ≡ Some r) (begins : front ≡ branch_front key r.0) (binds : elements ≡ bound ++ r.0) where
    pub row_site : Contains rows r → RowSites a m templates t j bound rows → SiteBelow b m templates t j false elements r.1
    row_site among h = record {
      fit = h.fit;
      number = h.number;
      template = h.template;
      as_many = subst (λ elements. Each (λ x. length elements ≡ h.fit.scoped.scope h.number x.0) (below_among t.nodes j false)) (sym binds) (h.as_many r among);
      there = λ x w o. subst (Each (IsThere m x)) (sym binds) (h.there r among x (world_before x from w) (sym (from.holds r.1 live x) ∙ o));
    }

    pub row_lies : Contains rows r → RowSites a m templates t j bound rows → LiesBelow front key
    row_lies among h = subst (λ front. LiesBelow front key) (sym begins) (lies_in_branch key r.0 (h.small r among))

    module _ (kept : Kept b c) where
      pub row_adds : (place : ℕ) (g h k : Growing C)
          → AddsBelow b key place (λ x. instances_of_tuples m templates depth t key bound (below_among t.nodes j false) (tuples_at a (take i rows) x) x)
          (keys_of_tuples m templates depth t key (below_among t.nodes j false) (tuples_of (take i rows))) g h
          → AddsBelow c key place (λ x. cond (b.holds r.1 x) (instances_below m templates depth t front elements (below_among t.nodes j false) x) [])
          (keys_below m templates depth t front (below_among t.nodes j false)) h k
          → AddsBelow c key place (λ x. instances_of_tuples m templates depth t key bound (below_among t.nodes j false) (tuples_at a (take (i + 1) rows) x) x)
          (keys_of_tuples m templates depth t key (below_among t.nodes j false) (tuples_of (take (i + 1) rows))) g k
      row_adds place g h k s q =
          subst (λ walked. AddsBelow c key place (λ x. instances_of_tuples m templates depth t key bound (below_among t.nodes j false) (tuples_at a (take walked rows) x) x)
          (keys_of_tuples m templates depth t key (below_among t.nodes j false) (tuples_of (take walked rows))) g k)
          (one_more i)
          (one_more_row a b c m templates depth t key bound (below_among t.nodes j false) place g h k rows i r e kept (b.holds r.1) (λ x. from.holds r.1 live x) s
          (subst (λ elements. AddsBelow c key place (λ x. cond (b.holds r.1 x) (instances_below m templates depth t (branch_front key r.0) elements (below_among t.nodes j false) x) [])
          (keys_below m templates depth t (branch_front key r.0) (below_among t.nodes j false)) h k)
          binds
          (subst (λ front. AddsBelow c key place (λ x. cond (b.holds r.1 x) (instances_below m templates depth t front elements (below_among t.nodes j false) x) [])
          (keys_below m templates depth t front (below_among t.nodes j false)) h k)
          begins q)))

      -- what stops it stops the walk
      pub row_halts : (place : ℕ) (g h : Growing C) (stop : LiftStop)
          → AddsBelow b key place (λ x. instances_of_tuples m templates depth t key bound (below_among t.nodes j false) (tuples_at a (take i rows) x) x)
          (keys_of_tuples m templates depth t key (below_among t.nodes j false) (tuples_of (take i rows))) g h
          → Halts b c
          (Overflows c (λ x. cond (b.holds r.1 x) (instances_below m templates depth t front elements (below_among t.nodes j false) x) []) (keys_below m templates depth t front (below_among t.nodes j false)) h.left)
          stop
          → Halts a c
          (Overflows c (λ x. instances_of_tuples m templates depth t key bound (below_among t.nodes j false) (tuples_at a rows x) x)
          (keys_of_tuples m templates depth t key (below_among t.nodes j false) (tuples_of rows)) g.left)
          stop
      row_halts place g h stop s q =
          halts_later c _ stop from
          (halts_weaker b c _ _ stop
          (λ over. one_row_overflows a b c m templates depth t key bound (below_among t.nodes j false) rows i r e g.left h.left kept (b.holds r.1) (λ x. from.holds r.1 live x)
          (fills_of_below b key place _ _ g h s)
          (subst (λ elements. Overflows c (λ x. cond (b.holds r.1 x) (instances_below m templates depth t (branch_front key r.0) elements (below_among t.nodes j false) x) [])
          (keys_below m templates depth t (branch_front key r.0) (below_among t.nodes j false)) h.left)
          binds
          (subst (λ front. Overflows c (λ x. cond (b.holds r.1 x) (instances_below m templates depth t front elements (below_among t.nodes j false) x) [])
          (keys_below m templates depth t front (below_among t.nodes j false)) h.left)
          begins over)))
          q)

      pub row_stops : {T : Type 0} (result : Result T LiftStop) (place : ℕ) (g h : Growing C) (stop : LiftStop) → IsErrAnd result (λ d. d ≡ stop)
          → AddsBelow b key place (λ x. instances_of_tuples m templates depth t key bound (below_among t.nodes j false) (tuples_at a (take i rows) x) x)
          (keys_of_tuples m templates depth t key (below_among t.nodes j false) (tuples_of (take i rows))) g h
          → Halts b c
          (Overflows c (λ x. cond (b.holds r.1 x) (instances_below m templates depth t front elements (below_among t.nodes j false) x) []) (keys_below m templates depth t front (below_among t.nodes j false)) h.left)
          stop
          → IfErr result
          (Halts a c
          (Overflows c (λ x. instances_of_tuples m templates depth t key bound (below_among t.nodes j false) (tuples_at a rows x) x)
          (keys_of_tuples m templates depth t key (below_among t.nodes j false) (tuples_of rows)) g.left))
      row_stops result place g h stop told s q =
          err_as result stop
          (Halts a c
          (Overflows c (λ x. instances_of_tuples m templates depth t key bound (below_among t.nodes j false) (tuples_at a rows x) x)
          (keys_of_tuples m templates depth t key (below_among t.nodes j false) (tuples_of rows)) g.left))
          told (row_halts place g h stop s q)
