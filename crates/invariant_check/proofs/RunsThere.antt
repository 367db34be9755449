-- Runs at a world, by the conditions of transitions and of targets.
use Rattle.std.proofs.Common.{◌≡◌, ◌<◌, refl, sym, ap, ◌∙◌, ℕ, zero, suc, Bool, true, false, cond, List, [], ◌∷◌, ◌++◌, map, length, reverse, get_or, Option, Some, None, append_assoc, arith}
use Rattle.std.specs.Prelude.{◌&&◌, not, is_none, filter, find, option_map, option_to_list, unwrap_or}
use Rattle.std.specs.List.{slice_get}
use Rattle.std.proofs.lemmas.Bool.{false≢true}
use Rattle.std.proofs.lemmas.List.{reverse-append}
use Rattle.std.proofs.lemmas.Option.{slice_get-map, slice_get-get_or}
use Rattle.meaning.specs.Texts.{first_of_list, numbered, holds_at}
use Rattle.meaning.specs.Models.{Model, System, PlainSystem, projection}
use Rattle.meaning.specs.Layers.{is_system_there, parents_there}
use Rattle.meaning.specs.Systems.{Property, distance, is_refuted, last_state, run_to}
use Rattle.meaning.specs.Tidy.{is_step_back}
use Rattle.worlds.specs.Algebra.{Algebra, has}
use Rattle.worlds.specs.Rows.{RowWhere, row_at}
use Rattle.invariant_check.specs.declared.data.Finding.{Finding}
use Rattle.invariant_check.specs.Findings.{targets_at, last_there, last_run, IsSomeFinding}
use Rattle.invariant_check.specs.Searching.{TargetsLead}
use Rattle.invariant_check.specs.Running.{all_has, first_target, steps_back}
use Rattle.invariant_check.proofs.FirstViolations.{refuted_has_last}

pub all_has_at : {C : Type 0} (a : Algebra C) (cs : List C) (x : List Bool) (i : ℕ) (c : C) → i < length cs → c ≡ get_or cs i c → holds_at (all_has a cs x) i ≡ has a c x
all_has_at a [] x i c below is = absurd (omega (arith, below))
all_has_at a (d ∷ cs) x zero c below is = ap (λ e. has a e x) (sym is)
all_has_at a (d ∷ cs) x (suc i) c below is = all_has_at a cs x i c (omega (arith, below)) is

-- the item whose view is known
pub item_viewed : {X Y : Type 0} (v : X → Y) (xs : List X) (i : ℕ) (d : X) (y : Y) → i < length xs → slice_get (map v xs) i ≡ Some y → v (get_or xs i d) ≡ y
item_viewed v xs i d y below is =
    ap (λ o. unwrap_or o y) (sym (ap (λ o. option_map v o) (slice_get-get_or xs i d below)) ∙ sym (slice_get-map v xs i) ∙ is)

-- one step more of a run that is told back
pub step_told : (run state source : ℕ × List ℕ) (steps : List ℕ) (step : ℕ) → run ≡ (state.0, state.1 ++ reverse steps) → state ≡ (source.0, source.1 ++ step ∷ [])
    → run ≡ (source.0, source.1 ++ reverse (steps ++ step ∷ []))
step_told run state source steps step told last =
    told ∙ ap (λ (r : ℕ × List ℕ). (r.0, r.1 ++ reverse steps)) last ∙ ap (λ ks. (source.0, ks)) (append_assoc source.1 (step ∷ []) (reverse steps) ∙ ap (λ ks. source.1 ++ ks) (sym (reverse-append steps (step ∷ []))))

-- ---- at a world

all_has_world : {C : Type 0} (a : Algebra C) (cs : List C) (x : List Bool) → a.is_world x ≡ true → all_has a cs x ≡ row_at a cs x
all_has_world a cs x w = ap (λ b. map (λ c. b && a.holds c x) cs) w

-- where the system is there, the marked transitions are those over which the shortest runs go back
pub back_there : {C : Type 0} (a : Algebra C) (m : Model) (s : System) (parents : List C) (x : List Bool) → RowWhere a parents (parents_there m s) → a.is_world x ≡ true
    → is_system_there m s x ≡ true → all_has a parents x ≡ steps_back (projection x s) s.transitions
back_there a m s parents x rows w there =
    all_has_world a parents x w ∙ rows.holds x w
    ∙ ap (λ b. map (λ t. b && is_step_back (projection x s) t.0 t.1.target (distance (projection x s) t.1.target)) (numbered s.transitions)) there

module _ {C : Type 0} (a : Algebra C) (x : List Bool) where
  first_world : (targets : List (ℕ × C)) → a.is_world x ≡ true → first_target a targets x ≡ first_of_list (targets_at a targets x)
  first_world [] w = refl
  first_world (t ∷ ts) w =
      ap (λ b. option_map (λ (u : ℕ × C). u.0) (cond (b && a.holds t.1 x) (Some t) (find (λ u. has a u.1 x) ts))) w ∙ go (a.holds t.1 x) (first_world ts w)
    where
      go : (b : Bool) → first_target a ts x ≡ first_of_list (targets_at a ts x)
          → option_map (λ (u : ℕ × C). u.0) (cond b (Some t) (find (λ u. has a u.1 x) ts))
          ≡ first_of_list (map (λ (u : ℕ × C). u.0) (cond b (t ∷ filter (λ u. a.holds u.1 x) ts) (filter (λ u. a.holds u.1 x) ts)))
      go true later = refl
      go false later = later

  first_nowhere : (targets : List (ℕ × C)) → a.is_world x ≡ false → first_target a targets x ≡ None
  first_nowhere [] w = refl
  first_nowhere (t ∷ ts) w =
      ap (λ b. option_map (λ (u : ℕ × C). u.0) (cond (b && a.holds t.1 x) (Some t) (find (λ u. has a u.1 x) ts))) w ∙ first_nowhere ts w

of_option : (o : Option ℕ) → first_of_list (option_to_list o) ≡ o
of_option None = refl
of_option (Some k) = refl

-- where targets lead, the first one is the last state of the run of the refuted check
pub lead_is : {C : Type 0} (a : Algebra C) (labels : ℕ) (s : System) (p : Property) (c : C) (targets : List (ℕ × C)) (x : List Bool) → TargetsLead a labels s p c targets
    → a.is_world x ≡ true → a.holds c x ≡ true → first_target a targets x ≡ last_state labels (projection x s) p
lead_is a labels s p c targets x lead w h = first_world a x targets w ∙ ap first_of_list (lead x w h) ∙ of_option (last_state labels (projection x s) p)

-- a refuted check has a last state
pub refuted_has_some : (labels : ℕ) (s : PlainSystem) (p : Property) → is_refuted labels s p ≡ true → last_state labels s p ≡ None → ⊥
refuted_has_some labels s p refuted none =
    false≢true (sym (ap (λ o. not (is_none o)) none) ∙ sym (refuted_has_last labels s p) ∙ refuted)

module _ {C : Type 0} (a : Algebra C) (m : Model) (s : System) (f : Finding C) (some : IsSomeFinding a m s f) (x : List Bool) where
  abbrev plain : PlainSystem
  plain = projection x s

  -- where a target holds, the list is a world and the system is there
  pub first_there : (state : ℕ) → first_target a f.targets x ≡ Some state → (a.is_world x ≡ true) × (is_system_there m s x ≡ true)
  first_there state first = go (a.is_world x) refl
    where
      asked : a.is_world x ≡ true → (u : Bool) → a.holds some.under x ≡ u → is_system_there m s x ≡ true
      asked w true h = some.within x w h
      asked w false h =
          let none : Some state ≡ None = sym first ∙ first_world a x f.targets w ∙ ap first_of_list (some.is.targets x w ∙ ap (λ u. last_there (length m.labels) s some.property u x) h) in
          absurd cc

      go : (b : Bool) → a.is_world x ≡ b → (a.is_world x ≡ true) × (is_system_there m s x ≡ true)
      go true w = (w, asked w (a.holds some.under x) refl)
      go false w = let none : Some state ≡ None = sym first ∙ first_nowhere a x f.targets w in absurd cc

  verdict : (o : Option ℕ) → option_map (run_to plain) o ≡ cond (not (is_none o)) (option_map (run_to plain) o) None
  verdict None = refl
  verdict (Some k) = refl

  asked_run : (u : Bool) → option_map (run_to plain) (first_of_list (last_there (length m.labels) s some.property u x))
      ≡ cond (u && is_refuted (length m.labels) plain some.property) (last_run (length m.labels) plain some.property) None
  asked_run false = refl
  asked_run true =
      ap (option_map (run_to plain)) (of_option (last_state (length m.labels) plain some.property))
      ∙ verdict (last_state (length m.labels) plain some.property)
      ∙ sym (ap (λ b. cond b (last_run (length m.labels) plain some.property) None) (refuted_has_last (length m.labels) plain some.property))

  -- the run to the first target is the one of the refuted check, if it is refuted there
  pub run_is : option_map (run_to (projection x s)) (first_target a f.targets x) ≡ cond (has a f.refuted x) (last_run (length m.labels) (projection x s) some.property) None
  run_is = go (a.is_world x) refl
    where
      go : (b : Bool) → a.is_world x ≡ b
          → option_map (run_to plain) (first_target a f.targets x) ≡ cond (has a f.refuted x) (last_run (length m.labels) plain some.property) None
      go false w =
          ap (option_map (run_to plain)) (first_nowhere a x f.targets w)
          ∙ sym (ap (λ b. cond (b && a.holds f.refuted x) (last_run (length m.labels) plain some.property) None) w)
      go true w =
          ap (option_map (run_to plain)) (first_world a x f.targets w ∙ ap first_of_list (some.is.targets x w))
          ∙ asked_run (a.holds some.under x)
          ∙ sym (ap (λ b. cond b (last_run (length m.labels) plain some.property) None) (ap (λ b. b && a.holds f.refuted x) w ∙ some.is.refuted.holds x w))

-- what is made of none is none
pub was_none : {A B : Type 0} (f : A → B) (o : Option A) → None ≡ option_map f o → o ≡ None
was_none f None e = refl
was_none f (Some x) e = absurd cc
