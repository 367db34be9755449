-- The calls of a template node: under its guarded condition a node of a kind is lifted, or the first node of the template that it uses.
use Rattle.std.proofs.Common.{◌≡◌, ◌≢◌, ℕ, zero, suc, ◌-◌, ◌≤◌, List, [], ◌∷◌, map, Bool, true, not, ◌&&◌, Option, Some, sym, ap, ◌∙◌, subst, arith, length, None, refl}
use Rattle.std.specs.Prelude.{cond, option_map}
use Rattle.std.specs.List.{slice_get}
use Rattle.std.proofs.lemmas.Option.{slice_get-map}
use Rattle.worlds.specs.Algebra.{Algebra, Kept, HoldsWhere, HoldsNowhere}
use Rattle.worlds.proofs.Kept.{world_before}
use Rattle.meaning.specs.Models.{Model, model_at}
use Rattle.meaning.specs.Queries.{element_of_variable}
use Rattle.meaning.specs.Templates.{Template, TemplateNode, Uses, is_guarded_off, instance_within, first_node}
use Rattle.meaning.specs.Tidy.{whole_model, keys_within, first_keys}
use Rattle.meaning.proofs.EmptyLists.{both_true}
use Rattle.lifting.specs.declared.growing.Growing.{Growing}
use Rattle.lifting.specs.declared.stop.LiftStop.{LiftStop}
use Rattle.lifting.specs.Stops.{Halts}
use Rattle.lifting.specs.Overflows.{Overflows}
use Rattle.lifting.specs.Sites.{Site, FirstSite, AddsNode, AddsFirst}
use Rattle.lifting.proofs.SiteSteps.{site_under, use_site}
use Rattle.lifting.proofs.LiftingSteps.{adds_at_zero, adds_never, node_uses}
use Rattle.lifting.proofs.OverflowTemplates.{use_overflows, first_overflows}
use Rattle.lifting.proofs.PlacedNodes.{halts_later, halts_weaker}

one_less : (levels : ℕ) → levels ≢ 0 → suc (levels - 1) ≡ levels
one_less levels some = omega (arith, some)

module _ {C : Type 0} (a : Algebra C) (m : Model) (templates : List Template) (levels : ℕ) (t : Template) (key bound : List ℕ) (j : ℕ) (n : TemplateNode) (under : C) where
  -- the condition of the node, where its guard has an answer
  abbrev pub guarded_at : List Bool → Bool
  guarded_at x = a.holds under x && not (is_guarded_off (model_at m x) bound n.guard)

  abbrev pub Adds : Algebra C → Option ℕ → Growing C → Growing C → Type 0
  Adds c above g h = AddsNode c m templates levels t key bound (j, n) (a.holds under) above g h

  -- too much of the node, where the place's condition holds
  abbrev pub IsTooMuch : Algebra C → ℕ → Type 0
  IsTooMuch c room =
      Overflows c (λ x. cond (a.holds under x) (instance_within levels (length m.labels) (model_at m x) templates t key bound (j, n) ∷ []) [])
      (keys_within levels (whole_model m) templates t key (j, n)) room

  pub halts_guard : (b : Algebra C) (room : ℕ) (stop : LiftStop) → Halts a b ⊥ stop → Halts a b (IsTooMuch b room) stop
  halts_guard b room stop h = halts_weaker a b ⊥ (IsTooMuch b room) stop (λ none. elim none [ ]) h

  -- ---- nothing is added

  pub adds_at_no_level : (above : Option ℕ) (g : Growing C) → levels ≡ 0 → Adds a above g g
  adds_at_no_level above g e =
      subst (λ d. AddsNode a m templates d t key bound (j, n) (a.holds under) above g g) (sym e) (adds_at_zero a m templates t key bound (j, n) (a.holds under) above g)

  module _ (b : Algebra C) (own : C) (kept : Kept a b) (some : levels ≢ 0) (made : HoldsWhere b own guarded_at) where
    pub adds_nowhere : (above : Option ℕ) (g : Growing C) → HoldsNowhere b own → Adds b above g g
    adds_nowhere above g never =
        subst (λ d. AddsNode b m templates d t key bound (j, n) (a.holds under) above g g) (one_less levels some)
        (adds_never b m templates (levels - 1) t key bound (j, n) (a.holds under) above g (λ x w. sym (made.holds x w) ∙ never x w))

    -- ---- the place under the condition of the node

    pub guarded_site : Site a m templates t j n bound under → Site b m templates t j n bound own
    guarded_site site =
        site_under a b m templates t j n bound under own kept
        (λ x w o. (both_true (a.holds under x) (not (is_guarded_off (model_at m x) bound n.guard)) (sym (made.holds x w) ∙ o)).0) site

    guarded_later : (c : Algebra C) → Kept b c → (x : List Bool) → c.is_world x ≡ true → b.holds own x ≡ guarded_at x
    guarded_later c later x w = made.holds x (world_before x later w)

    -- ---- a node of a kind

    pub adds_plain : (c : Algebra C) (above : Option ℕ) (g h : Growing C) → Kept b c
        → ((before : List Bool → Bool) → ((x : List Bool) → c.is_world x ≡ true → b.holds own x ≡ (before x && not (is_guarded_off (model_at m x) bound n.guard)))
        → AddsNode c m templates (suc (levels - 1)) t key bound (j, n) before above g h)
        → Adds c above g h
    adds_plain c above g h later adds =
        subst (λ d. AddsNode c m templates d t key bound (j, n) (a.holds under) above g h) (one_less levels some) (adds (a.holds under) (guarded_later c later))

    abbrev pub PlainTooMuch : Algebra C → ℕ → Type 0
    PlainTooMuch c room =
        (before : List Bool → Bool) → ((x : List Bool) → c.is_world x ≡ true → b.holds own x ≡ (before x && not (is_guarded_off (model_at m x) bound n.guard)))
        → Overflows c (λ x. cond (before x) (instance_within (suc (levels - 1)) (length m.labels) (model_at m x) templates t key bound (j, n) ∷ []) [])
        (keys_within (suc (levels - 1)) (whole_model m) templates t key (j, n)) room

    pub halts_plain : (c : Algebra C) (room : ℕ) (stop : LiftStop) → Kept b c → Halts b c (PlainTooMuch c room) stop → Halts a c (IsTooMuch c room) stop
    halts_plain c room stop later h =
        halts_later c (IsTooMuch c room) stop kept
        (halts_weaker b c (PlainTooMuch c room) (IsTooMuch c room) stop
        (λ overflows.
        subst
        (λ d. Overflows c (λ x. cond (a.holds under x) (instance_within d (length m.labels) (model_at m x) templates t key bound (j, n) ∷ []) [])
        (keys_within d (whole_model m) templates t key (j, n)) room)
        (one_less levels some) (overflows (a.holds under) (guarded_later c later)))
        h)

    -- ---- a node that uses a template

    module _ (used : ℕ) (variables : List ℕ) (uses : n.kind ≡ Uses used variables) where
      pub adds_unused : (above : Option ℕ) (g : Growing C) → slice_get templates used ≡ None → Adds b above g g
      adds_unused above g gone =
          subst (λ d. AddsNode b m templates d t key bound (j, n) (a.holds under) above g g) (one_less levels some)
          (node_uses b m templates (levels - 1) t key bound (j, n) used variables (a.holds under) (b.holds own) above g g uses made.holds
          (subst (λ o. AddsFirst b m templates (levels - 1) o key (map (element_of_variable bound) variables) (b.holds own) above g g) (sym gone) refl))

      module _ (v : Template) (elements : List ℕ) (found : slice_get templates used ≡ Some v) (given : elements ≡ map (element_of_variable bound) variables) where
        pub used_site : Site a m templates t j n bound under → FirstSite b m templates (Some v) elements own
        used_site site =
            subst (λ o. FirstSite b m templates o elements own) found
            (subst (λ es. FirstSite b m templates (slice_get templates used) es own) (sym given) (use_site b m templates t j n bound own used variables uses (guarded_site site)))

        pub adds_used : (c : Algebra C) (above : Option ℕ) (g h : Growing C) → Kept b c
            → AddsFirst c m templates (levels - 1) (Some v) key elements (b.holds own) above g h → Adds c above g h
        adds_used c above g h later adds =
            subst (λ d. AddsNode c m templates d t key bound (j, n) (a.holds under) above g h) (one_less levels some)
            (node_uses c m templates (levels - 1) t key bound (j, n) used variables (a.holds under) (b.holds own) above g h uses (guarded_later c later)
            (subst (λ o. AddsFirst c m templates (levels - 1) o key (map (element_of_variable bound) variables) (b.holds own) above g h) (sym found)
            (subst (λ es. AddsFirst c m templates (levels - 1) (Some v) key es (b.holds own) above g h) given adds)))

        abbrev pub UsedTooMuch : Algebra C → ℕ → Type 0
        UsedTooMuch c room =
            Overflows c (λ x. cond (b.holds own x) (first_node (instance_within (levels - 1) (length m.labels) (model_at m x) templates) (Some v) key elements ∷ []) [])
            (first_keys (keys_within (levels - 1) (whole_model m) templates) (Some v) key) room

        pub halts_used : (c : Algebra C) (room : ℕ) (stop : LiftStop) → Kept b c → Halts b c (UsedTooMuch c room) stop → Halts a c (IsTooMuch c room) stop
        halts_used c room stop later h =
            halts_later c (IsTooMuch c room) stop kept
            (halts_weaker b c (UsedTooMuch c room) (IsTooMuch c room) stop
            (λ overflows.
            subst
            (λ d. Overflows c (λ x. cond (a.holds under x) (instance_within d (length m.labels) (model_at m x) templates t key bound (j, n) ∷ []) [])
            (keys_within d (whole_model m) templates t key (j, n)) room)
            (one_less levels some)
            (use_overflows c m templates (levels - 1) t key bound (j, n) (b.holds own) (a.holds under) used variables uses (guarded_later c later) v found room
            (subst
            (λ es. Overflows c (λ x. cond (b.holds own x) (first_node (instance_within (levels - 1) (length m.labels) (model_at m x) templates) (Some v) key es ∷ []) [])
            (first_keys (keys_within (levels - 1) (whole_model m) templates) (Some v) key) room)
            given overflows)))
            h)

-- ---- the first node of a template

module _ {C : Type 0} (m : Model) (templates : List Template) (depth : ℕ) (t : Template) (key bound : List ℕ) where
  pub adds_no_first : (a : Algebra C) (under : List Bool → Bool) (above : Option ℕ) (g : Growing C) → slice_get t.nodes 0 ≡ None → AddsFirst a m templates depth (Some t) key bound under above g g
  adds_no_first a under above g e =
      subst (λ o. elim o as (λ _. Type 0) [ None ↦ g ≡ g | Some n ↦ AddsNode a m templates depth t key bound (0, n) under above g g ]) (sym e) refl

  pub adds_first : (a : Algebra C) (under : List Bool → Bool) (above : Option ℕ) (g h : Growing C) (n : TemplateNode) → slice_get t.nodes 0 ≡ Some n
      → AddsNode a m templates depth t key bound (0, n) under above g h → AddsFirst a m templates depth (Some t) key bound under above g h
  adds_first a under above g h n e adds =
      subst (λ o. elim o as (λ _. Type 0) [ None ↦ g ≡ h | Some n ↦ AddsNode a m templates depth t key bound (0, n) under above g h ]) (sym e) adds

  module _ (under : List Bool → Bool) where
    abbrev NodeTooMuch : Algebra C → TemplateNode → ℕ → Type 0
    NodeTooMuch c n room =
        Overflows c (λ x. cond (under x) (instance_within depth (length m.labels) (model_at m x) templates t key bound (0, n) ∷ []) []) (keys_within depth (whole_model m) templates t key (0, n)) room

    abbrev FirstTooMuch : Algebra C → ℕ → Type 0
    FirstTooMuch c room =
        Overflows c (λ x. cond (under x) (first_node (instance_within depth (length m.labels) (model_at m x) templates) (Some t) key bound ∷ []) [])
        (first_keys (keys_within depth (whole_model m) templates) (Some t) key) room

    pub halts_first : (a c : Algebra C) (n : TemplateNode) (room : ℕ) (stop : LiftStop) → slice_get t.nodes 0 ≡ Some n → Halts a c (NodeTooMuch c n room) stop → Halts a c (FirstTooMuch c room) stop
    halts_first a c n room stop e h =
        halts_weaker a c (NodeTooMuch c n room) (FirstTooMuch c room) stop (first_overflows c m templates depth t key bound under n room e) h

-- ---- lists seen through a function

pub place_seen : {A B : Type 0} (f : A → B) (xs : List A) (i : ℕ) (o : Option A) → o ≡ slice_get xs i → slice_get (map f xs) i ≡ option_map f o
place_seen f xs i o e = slice_get-map f xs i ∙ ap (option_map f) (sym e)

pub none_past : {A B : Type 0} (f : A → B) (xs : List A) (i : ℕ) → length xs ≤ i → slice_get (map f xs) i ≡ None
none_past f [] i l = refl
none_past f (x ∷ xs) zero l = absurd (omega (arith, l))
none_past f (x ∷ xs) (suc i) l = none_past f xs i (omega (arith, l))
