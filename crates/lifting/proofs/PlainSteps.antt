-- A node of a kind, step by step: where what is below it stands, what it adds, and why it stops.
use Rattle.std.proofs.Common.{◌≡◌, ℕ, suc, ◌≤◌, List, [], ◌∷◌, ◌++◌, length, Bool, true, false, not, ◌&&◌, Option, Some, None, sym, ap, ◌∙◌, subst}
use Rattle.std.specs.Prelude.{cond, decimal, ◌^◌}
use Rattle.std.specs.List.{All}
use Rattle.std.proofs.lemmas.List.Elements.{All-weaker}
use Rattle.worlds.specs.Algebra.{Algebra, Kept}
use Rattle.worlds.proofs.Kept.{world_before, kept_then, kept_itself}
use Rattle.meaning.specs.Models.{Model, model_at}
use Rattle.meaning.specs.Queries.{Query}
use Rattle.meaning.specs.Cases.{NodeKind}
use Rattle.meaning.specs.Templates.{Template, TemplateNode, Plain, Instance, annotations, supporters, is_guarded_off, instance_within}
use Rattle.meaning.specs.Tidy.{key_above, whole_model, keys_within}
use Rattle.meaning.proofs.CutTrees.{Each}
use Rattle.annotated_model.specs.ModelFacts.{NamesFeatures}
use Rattle.path_queries.specs.Answering.{Somewhere, tuples_of, tuples_at}
use Rattle.lifting.specs.declared.growing.Growing.{Growing}
use Rattle.lifting.specs.declared.stop.LiftStop.{LiftStop}
use Rattle.lifting.specs.FittingTemplates.{FewVariables}
use Rattle.lifting.specs.ThereElements.{PartFits}
use Rattle.lifting.specs.Overflows.{Overflows, RowsOverflow}
use Rattle.lifting.specs.Stops.{Halts}
use Rattle.lifting.specs.Sites.{Site, SiteBelow, RowSites, AreRows, AddsOne, AddsNode, AddsBelow, LiesBelow, instances_below, keys_below, instances_of_tuples, keys_of_tuples}
use Rattle.meaning.proofs.KeyTexts.{above_below}
use Rattle.lifting.proofs.NotedTrees.{same_tuples, all_occur_later}
use Rattle.lifting.proofs.SiteSteps.{site_under, annotations_site, supporters_site, row_sites}
use Rattle.lifting.proofs.LoopSteps.{plain_alone, plain_in_branches}
use Rattle.lifting.proofs.PlacedNodes.{halts_later, halts_weaker}
use Rattle.lifting.proofs.OverflowSteps.{Fills}
use Rattle.lifting.proofs.OverflowNodes.{fills_of_below}
use Rattle.lifting.proofs.OverflowTemplates.{rows_overflow_node, annotations_overflow, supporters_overflow, branches_overflow}

-- keys that begin with a key and a slash lie below it
pub front_lies : (key front : List ℕ) → front ≡ key ++ 47 ∷ [] → LiesBelow front key
front_lies key front e i small = ap (λ f. key_above (f ++ decimal i)) e ∙ above_below key i small

module _ {C : Type 0} where
  -- the features that conditions speak of are the same
  pub names_later : (a b : Algebra C) (m : Model) → Kept a b → NamesFeatures a.count m → NamesFeatures b.count m
  names_later a b m k h = subst (λ count. NamesFeatures count m) (sym k.count) h

  -- rows are rows at a later moment
  pub rows_later : (a b : Algebra C) (m : Model) (each : Option Query) (bound : List ℕ) (under : List Bool → Bool) (rows : List (List ℕ × C)) → Kept a b
      → AreRows a m each bound under rows → AreRows b m each bound under rows
  rows_later a b m each bound under rows k h = record {
    live = All-weaker (λ r. a.live r.1) (λ r. b.live r.1) (λ r l. k.live r.1 l) rows h.live;
    occur = all_occur_later rows k h.live h.occur;
    order = h.order;
    exact = λ x w. same_tuples rows x k h.live ∙ h.exact x (world_before x k w);
  }

  -- and their conditions are live, as they are given to the walk
  pub rows_live : (a b : Algebra C) (m : Model) (each : Option Query) (bound : List ℕ) (under : List Bool → Bool) (rows given : List (List ℕ × C)) → Kept a b → given ≡ rows
      → AreRows a m each bound under rows → All (λ r. b.live r.1) given
  rows_live a b m each bound under rows given k is h = subst (λ rs. All (λ r. b.live r.1) rs) (sym is) (rows_later a b m each bound under rows k h).live

  -- ---- what a site tells of the node itself

  module _ (a : Algebra C) (m : Model) (templates : List Template) (t : Template) (j : ℕ) (n : TemplateNode) (bound : List ℕ) (under : C) (site : Site a m templates t j n bound under) where
    pub site_few : FewVariables n.each
    site_few = site.fit.few_each site.number t j n site.stands

    pub site_unchecked : n.check ≡ None
    site_unchecked = site.fit.unchecked site.number t j n site.stands

    pub site_parts : Each (PartFits (length bound)) n.words
    site_parts = subst (λ k. Each (PartFits k) n.words) (sym site.as_many) (site.fit.scoped.parts_fit site.number t j n site.stands)

  module _ (a b : Algebra C) (m : Model) (templates : List Template) (t : Template) (j : ℕ) (n : TemplateNode) (bound : List ℕ) (under : C) (kept : Kept a b) (live : a.live under)
      (site : Site a m templates t j n bound under) where
    -- ---- sites

    site_later : Site b m templates t j n bound under
    site_later = site_under a b m templates t j n bound under under kept (λ x w o. sym (kept.holds under live x) ∙ o) site

    pub annotating_site : SiteBelow b m templates t j true bound under
    annotating_site = annotations_site b m templates t j n bound under site_later

    pub supporting_site : n.each ≡ None → SiteBelow b m templates t j false bound under
    supporting_site e = supporters_site b m templates t j n bound under e site_later

    -- the rows as they are given to the walk
    pub branch_sites : (r : Algebra C) (rows given : List (List ℕ × C)) (q : Query) → n.each ≡ Some q → length m.elements ≤ 2 ^ 64 → Kept r b → given ≡ rows → AreRows r m n.each bound (a.holds under) rows
        → RowSites b m templates t j bound given
    branch_sites r rows given q e few later is h =
        subst (RowSites b m templates t j bound) (sym is)
        (row_sites b m templates t j n bound under (a.holds under) rows q e few site_later (λ x w. sym (kept.holds under live x)) (rows_later r b m n.each bound (a.holds under) rows later h))

  -- ---- what is added, and what is too much: placed at b, with what annotates it at c, and with what supports it at d

  module _ (a b : Algebra C) (m : Model) (templates : List Template) (depth : ℕ) (t : Template) (key front bound : List ℕ) (j : ℕ) (n : TemplateNode) (kind : NodeKind) (under : C)
      (above : Option ℕ) (g : Growing C) (live : a.live under) (plain : n.kind ≡ Plain kind) (placed : Kept a b) where
    -- the condition is that of the place, where the guard has an answer
    abbrev pub IsOwn : Algebra C → (List Bool → Bool) → Type 0
    IsOwn e before = (x : List Bool) → e.is_world x ≡ true → a.holds under x ≡ (before x && not (is_guarded_off (model_at m x) bound n.guard))

    abbrev pub Grown : Algebra C → Growing C → Type 0
    Grown e k = (before : List Bool → Bool) → IsOwn e before → AddsNode e m templates (suc depth) t key bound (j, n) before above g k

    abbrev pub TooMuch : Algebra C → Type 0
    TooMuch e =
        (before : List Bool → Bool) → IsOwn e before
        → Overflows e (λ x. cond (before x) (instance_within (suc depth) (length m.labels) (model_at m x) templates t key bound (j, n) ∷ []) []) (keys_within (suc depth) (whole_model m) templates t key (j, n)) g.left

    pub placing_stops : (stop : LiftStop) → Somewhere a under → Halts a b (RowsOverflow a m n.each bound (a.holds under) g.left) stop → Halts a b (TooMuch b) stop
    placing_stops stop occurs h =
        halts_weaker a b (RowsOverflow a m n.each bound (a.holds under) g.left) (TooMuch b) stop
        (λ o before own. rows_overflow_node b m templates depth t key bound (j, n) (a.holds under) before kind plain own a g.left placed occurs o) h

    module _ (rows : List (List ℕ × C)) (place : ℕ) (h : Growing C) (is_front : front ≡ key ++ 47 ∷ []) (is_place : place ≡ length g.nodes.items)
        (one : AddsOne b m n kind key bound (a.holds under) rows above g h) (c : Algebra C) (worked : Kept b c) where
      -- some nodes below it, under the condition as it stands
      abbrev pub below_at : List ℕ → Algebra C → List (ℕ × TemplateNode) → List Bool → List Instance
      below_at f e ns x = cond (e.holds under x) (instances_below m templates depth t f bound ns x) []

      abbrev pub AddsBehind : Algebra C → Algebra C → List (ℕ × TemplateNode) → Growing C → Growing C → Type 0
      AddsBehind e f ns i k = (upper : List ℕ) → LiesBelow front upper → AddsBelow f upper place (below_at front e ns) (keys_below m templates depth t front ns) i k

      same : (x : List Bool) → b.holds under x ≡ a.holds under x
      same x = placed.holds under live x

      same_then : (x : List Bool) → c.holds under x ≡ a.holds under x
      same_then x = (kept_then placed worked).holds under live x

      behind : (e f : Algebra C) (ns : List (ℕ × TemplateNode)) (i k : Growing C) → AddsBehind e f ns i k
          → AddsBelow f key (length g.nodes.items) (below_at (key ++ 47 ∷ []) e ns) (keys_below m templates depth t (key ++ 47 ∷ []) ns) i k
      behind e f ns i k s =
          subst (λ p. AddsBelow f key p (below_at (key ++ 47 ∷ []) e ns) (keys_below m templates depth t (key ++ 47 ∷ []) ns) i k) is_place
          (subst (λ w. AddsBelow f key place (below_at w e ns) (keys_below m templates depth t w ns) i k) is_front (s key (front_lies key front is_front)))

      overflowing : (e f : Algebra C) (ns : List (ℕ × TemplateNode)) (room : ℕ) → Overflows f (below_at front e ns) (keys_below m templates depth t front ns) room
          → Overflows f (below_at (key ++ 47 ∷ []) e ns) (keys_below m templates depth t (key ++ 47 ∷ []) ns) room
      overflowing e f ns room o = subst (λ w. Overflows f (below_at w e ns) (keys_below m templates depth t w ns) room) is_front o

      pub annotating_stops : (stop : LiftStop) → Halts b c (Overflows c (below_at front b (annotations t j)) (keys_below m templates depth t front (annotations t j)) h.left) stop
          → Halts a c (TooMuch c) stop
      annotating_stops stop s =
          halts_later c (TooMuch c) stop placed
          (halts_weaker b c (Overflows c (below_at front b (annotations t j)) (keys_below m templates depth t front (annotations t j)) h.left) (TooMuch c) stop
          (λ o before own.
          annotations_overflow b c c m templates depth t key bound j n kind (a.holds under) before rows above g h h worked (kept_itself c) plain own one (b.holds under) same
          (overflowing b c (annotations t j) h.left o))
          s)

      module _ (i : Growing C) (annotated : AddsBehind b c (annotations t j) h i) (d : Algebra C) (later : Kept c d) where
        fills : Fills c (below_at (key ++ 47 ∷ []) b (annotations t j)) (keys_below m templates depth t (key ++ 47 ∷ []) (annotations t j)) h.left i.left
        fills =
            fills_of_below c key (length g.nodes.items) (below_at (key ++ 47 ∷ []) b (annotations t j)) (keys_below m templates depth t (key ++ 47 ∷ []) (annotations t j)) h i
            (behind b c (annotations t j) h i annotated)

        -- what supports it is there once
        module _ (e : n.each ≡ None) where
          pub adds_alone : (k : Growing C) → AddsBehind c d (supporters t j) i k → Grown d k
          adds_alone k s before own =
              plain_alone b c d m templates depth t key bound j n kind (a.holds under) before rows above g h i k worked later plain own one (b.holds under) same
              (behind b c (annotations t j) h i annotated) e (c.holds under) same_then (behind c d (supporters t j) i k s)

          pub alone_stops : (stop : LiftStop) → Halts c d (Overflows d (below_at front c (supporters t j)) (keys_below m templates depth t front (supporters t j)) i.left) stop
              → Halts a d (TooMuch d) stop
          alone_stops stop s =
              halts_later d (TooMuch d) stop (kept_then placed worked)
              (halts_weaker c d (Overflows d (below_at front c (supporters t j)) (keys_below m templates depth t front (supporters t j)) i.left) (TooMuch d) stop
              (λ o before own.
              supporters_overflow b c d m templates depth t key bound j n kind (a.holds under) before rows above g h i worked later plain own one (b.holds under) same fills e (c.holds under) same_then
              (overflowing c d (supporters t j) i.left o))
              s)

        -- or in the branch of each row, as the rows are given to the walk
        module _ (q : Query) (e : n.each ≡ Some q) (are_rows : AreRows b m n.each bound (a.holds under) rows) (given : List (List ℕ × C)) (is_given : given ≡ rows) where
          abbrev pub branches_at : List (List ℕ × C) → List Bool → List Instance
          branches_at rows x = instances_of_tuples m templates depth t key bound (supporters t j) (tuples_at c rows x) x

          abbrev pub branch_keys : List (List ℕ × C) → List (List ℕ)
          branch_keys rows = keys_of_tuples m templates depth t key (supporters t j) (tuples_of rows)

          pub adds_branches : (k : Growing C) → AddsBelow d key place (branches_at given) (branch_keys given) i k → Grown d k
          adds_branches k s before own =
              plain_in_branches b c d m templates depth t key bound j n kind (a.holds under) before rows above g h i k worked later plain own one (b.holds under) same
              (behind b c (annotations t j) h i annotated) q e are_rows
              (subst (λ p. AddsBelow d key p (branches_at rows) (branch_keys rows) i k) is_place
              (subst (λ rows. AddsBelow d key place (branches_at rows) (branch_keys rows) i k) is_given s))

          pub branches_stop : (stop : LiftStop) → Halts c d (Overflows d (branches_at given) (branch_keys given) i.left) stop → Halts a d (TooMuch d) stop
          branches_stop stop s =
              halts_later d (TooMuch d) stop (kept_then placed worked)
              (halts_weaker c d (Overflows d (branches_at given) (branch_keys given) i.left) (TooMuch d) stop
              (λ o before own.
              branches_overflow b c d m templates depth t key bound j n kind (a.holds under) before rows above g h i worked later plain own one (b.holds under) same fills q e are_rows
              (subst (λ rows. Overflows d (branches_at rows) (branch_keys rows) i.left) is_given o))
              s)
