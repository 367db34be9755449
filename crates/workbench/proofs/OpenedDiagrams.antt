-- What diagrams are opened for, and whether they are left open, status by status.
use Rattle.std.proofs.Common.{◌≡◌, refl, sym, ap, ◌∙◌, subst, ℕ, ◌+◌, ◌<◌, ◌≤◌, List, [], ◌∷◌, length, Bool, true, false, not, Some, None, arith}
use Rattle.std.specs.Prelude.{◌==◌, Option, if◌then◌else◌}
use Rattle.std.proofs.lemmas.Bool.Decides.{nat_tests}
use Rattle.meaning.specs.Bounds.{always_enough}
use Rattle.meaning.specs.Derivation.{Bundle, bundle_of}
use Rattle.meaning.specs.Features.{feature_names}
use Rattle.meaning.specs.Statuses as meaning
use Rattle.meaning.specs.Words.{Build, Invocation, uses_diagrams}
use Rattle.meaning.specs.Answers.{Answer, Prints, Refuses, IsBuildAnswer, ShowsCase, no_world, too_many_entries, too_many_bytes, built, BundleReading, bundle_in}
use Rattle.meaning.specs.TopCall.{Outside, Diagrams, OfBundle, open_under, open_after}
use Rattle.meaning.proofs.TopCallLaws.{below_few}
use Rattle.worlds.specs.Algebra.{Raised}
use Rattle.conditions.specs.Diagrams.{State, IsBounded, algebra_of}
use Rattle.doc_tree.specs.Places.{fault_of}
use Rattle.workbench.specs.declared.bundle.Bundle as code
use Rattle.workbench.specs.declared.status.Status.{Status}
use Rattle.workbench.specs.declared.status.Status.TheVariants as status
use Rattle.workbench.specs.StatusView.{status_view}
use Rattle.workbench.specs.BuildingStage.{building_cases}
use Rattle.workbench.specs.BundleView.{bundle_view}
use Rattle.workbench.specs.Limits.{LeftAs, IfOpen, OpenedOver, OpenedForFiles, OpenedForTask, diagrams_of}
use Rattle.workbench.specs.Products.{StopsOver}
use Rattle.workbench.specs.Readings.{IsGoodBundle, StopsBundle}
use Rattle.workbench.specs.Run.{StopsFile, file_of}
use Rattle.workbench.proofs.RuleNumbers.{not_void}
use Rattle.meaning.specs.Words as words

-- ---- open and shut

some_number : (n : ℕ) → 1 ≤ n → (n == 0) ≡ false
some_number n some = grind (arith, nat_tests)

pub is_open : (new : State) (limit : ℕ) → 1 ≤ limit → new.region.limit ≡ limit → (diagrams_of new).is_open ≡ true
is_open new limit some e = ap not (some_number new.region.limit (omega (arith, e)))

pub is_shut : (new : State) → new.region.limit ≡ 0 → (diagrams_of new).is_open ≡ false
is_shut new e = ap (λ m. not (m == 0)) e

module _ (new : Diagrams) where
  -- of shut diagrams anything holds where they are open
  pub shut_is_opened : (Holds : Type 0) → new.is_open ≡ false → IfOpen new Holds
  shut_is_opened Holds shut there = absurd (let n : false ≡ true = sym shut ∙ there in cc)

  same_truth : (told : Option Bool) (a b : Bool) → told ≡ Some a → told ≡ Some b → a ≡ b
  same_truth told a b e f = let n : Some a ≡ Some b = sym e ∙ f in cc

  pub left_as : (told : Option Bool) (a : Bool) → new.is_open ≡ a → told ≡ Some a → LeftAs told new
  left_as told a is e b f = is ∙ same_truth told a b e f

  pub untold : LeftAs None new
  untold b e = absurd (let n : None ≡ Some b = e in cc)

-- ---- statuses of building

-- a refusal that comes after the diagrams were opened
abbrev IsLate : Answer → Type 0
IsLate (Prints bytes) = Unit {0}
IsLate (Refuses s lines) = open_under s ≡ Some true

late : (b : Bundle) (a : Answer) → IsBuildAnswer building_cases b ShowsCase a → IsLate a
late b a (no_world none) = refl
late b a (too_many_entries counts product many) = refl
late b a (too_many_bytes bytes counts product few build long) = refl
late b a (built bytes is shows) = tt

module _ (b : Bundle) (old new : State) (there : (diagrams_of new).is_open ≡ true) where
  pub over_left : (s : Status) → StopsOver b old new s → LeftAs (open_under (status_view s)) (diagrams_of new)
  over_left status.Done h = absurd h
  over_left status.BadWords h = absurd h
  over_left (status.BadBundle fault) h = left_as (diagrams_of new) (open_under (status_view (status.BadBundle fault))) true there (late b _ h)
  over_left (status.BadConfig rule at) h = left_as (diagrams_of new) (open_under (status_view (status.BadConfig rule at))) true there (late b _ h)
  over_left status.NotValid h = left_as (diagrams_of new) (open_under (status_view status.NotValid)) true there (late b _ h)
  over_left (status.BadCase fault) h = left_as (diagrams_of new) (open_under (status_view (status.BadCase fault))) true there (late b _ h)
  over_left (status.NodeLimit used) h = left_as (diagrams_of new) (open_under (status_view (status.NodeLimit used))) true there refl
  over_left (status.BigCase entries) h = left_as (diagrams_of new) (open_under (status_view (status.BigCase entries))) true there refl
  over_left (status.TooLong n) h = absurd h
  over_left (status.ReadFault n) h = absurd h
  over_left status.WriteFault h = absurd h
  over_left status.NoMemory h = untold (diagrams_of new)
  over_left status.Unsupported h = left_as (diagrams_of new) (open_under (status_view status.Unsupported)) true there (late b _ h)

-- ---- statuses of reading

module _ (new : Diagrams) (shut : new.is_open ≡ false) where
  pub bundle_left : (name bytes : List ℕ) (s : Status) → StopsBundle (bundle_in building_cases name bytes) s → LeftAs (open_under (status_view s)) new
  bundle_left name bytes status.Done h = absurd h
  bundle_left name bytes status.BadWords h = absurd h
  bundle_left name bytes (status.BadBundle f) h =
      left_as new (open_under (status_view (status.BadBundle f))) false shut (ap Some (not_void name bytes h.0 (fault_of f) h.1 h.2))
  bundle_left name bytes (status.BadConfig rule at) h = absurd h
  bundle_left name bytes status.NotValid h = absurd h
  bundle_left name bytes (status.BadCase fault) h = absurd h
  bundle_left name bytes (status.NodeLimit used) h = absurd h
  bundle_left name bytes (status.BigCase entries) h = absurd h
  bundle_left name bytes (status.TooLong k) h = absurd h
  bundle_left name bytes (status.ReadFault k) h = absurd h
  bundle_left name bytes status.WriteFault h = absurd h
  bundle_left name bytes status.NoMemory h = untold new
  bundle_left name bytes status.Unsupported h = left_as new (open_under (status_view status.Unsupported)) false shut refl

  pub file_left : (number : ℕ) (f : words.File) (before after : Outside) (s : Status) → StopsFile number f before after s → LeftAs (open_under (status_view s)) new
  file_left number f before after status.Done h = absurd h
  file_left number f before after status.BadWords h = absurd h
  file_left number f before after (status.BadBundle fault) h = absurd h
  file_left number f before after (status.BadConfig rule at) h = absurd h
  file_left number f before after status.NotValid h = absurd h
  file_left number f before after (status.BadCase fault) h = absurd h
  file_left number f before after (status.NodeLimit used) h = absurd h
  file_left number f before after (status.BigCase entries) h = absurd h
  file_left number f before after (status.TooLong k) h = left_as new (open_under (status_view (status.TooLong k))) false shut refl
  file_left number f before after (status.ReadFault k) h = left_as new (open_under (status_view (status.ReadFault k))) false shut refl
  file_left number f before after status.WriteFault h = absurd h
  file_left number f before after status.NoMemory h = untold new
  file_left number f before after status.Unsupported h = absurd h

-- ---- tasks

module _ (i : Invocation) (s : meaning.Status) (new : Diagrams) where
  pub task_left : uses_diagrams i.task ≡ true → LeftAs (open_under s) new → LeftAs (open_after (Some i) s) new
  task_left uses h b e = h b (sym (ap (λ x. if x then open_under s else Some false) uses) ∙ e)

  pub plain_left : uses_diagrams i.task ≡ false → new.is_open ≡ false → LeftAs (open_after (Some i) s) new
  plain_left plain shut = left_as new (open_after (Some i) s) false shut (ap (λ x. if x then open_under s else Some false) plain)

-- ---- what they are opened for

-- the features of the bundle that was read
pub opened_for_bundle : (name bytes : List ℕ) (b : code.Bundle) (limit : ℕ) (new : Diagrams) → IsGoodBundle (bundle_in building_cases name bytes) b
    → OpenedOver limit (length (feature_names (bundle_view b).line)) new → OpenedForFiles (Build name) (bytes ∷ []) limit new
opened_for_bundle name bytes b limit new i h = record {
  with_limit = h.with_limit;
  opens =
      subst (λ (r : BundleReading). OfBundle r (λ d c. new.features ≡ length (feature_names c.line))) (sym i.good)
      (h.over ∙ ap (λ (c : Bundle). length (feature_names c.line)) i.read.of_document.is);
}

-- ---- the limit

some_refused : (before after : ℕ) → Raised before after → 0 < after
some_refused before after h = omega (arith, h)

-- where a call was refused over so few features, the limit is less than is always enough
pub refused_below : (s : State) (before : ℕ) → IsBounded (algebra_of s) → Raised before s.refused → s.region.vars ≤ 4 → s.region.limit < always_enough
refused_below s before bounded raised few = below_few s.region.vars (s.asked + s.taken) s.region.limit (bounded (some_refused before s.refused raised)) few
