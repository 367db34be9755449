-- The answers of a build to the bytes of a bundle.
use Rattle.std.proofs.Common.{◌≡◌, refl, sym, ap, ◌∙◌, subst, ℕ, ◌≤◌, List, [], ◌∷◌, length, true, false, not, arith}
use Rattle.std.specs.Prelude.{◌==◌, Contains}
use Rattle.std.proofs.lemmas.Bool.Decides.{nat_tests}
use Rattle.meaning.specs.Counts.{Rose, greatest_count}
use Rattle.meaning.specs.BundlePlaces.{BundleFault}
use Rattle.meaning.specs.Features.{feature_names}
use Rattle.meaning.specs.Words.{Build}
use Rattle.meaning.specs.Statuses.{BadBundle, Unsupported}
use Rattle.meaning.specs.TopCall.{Diagrams}
use Rattle.meaning.specs.Answers.{Answer, refusal, BundleReading, Faulty, NotBuilt, Good, AfterBundle, IsBuildAnswer, ShowsCase, IsAnswer, bundle_in}
use Rattle.meaning.specs.Derivation.{Bundle, bundle_of}
use Rattle.meaning.proofs.FirstFaults.{first_is_contained}
use Rattle.doc_tree.specs.Places.{fault_of}
use Rattle.worlds.proofs.Kept.{raised_later, rose_if_raised}
use Rattle.conditions.specs.Diagrams.{State, IsBounded, algebra_of}
use Rattle.workbench.specs.declared.bundle.Bundle as code
use Rattle.workbench.specs.declared.status.Status.{Status}
use Rattle.workbench.specs.declared.status.Status.TheVariants as status
use Rattle.workbench.specs.BuildingStage.{building_cases}
use Rattle.workbench.specs.BundleView.{bundle_view}
use Rattle.workbench.specs.Limits.{diagrams_of}
use Rattle.workbench.specs.Products.{SameLimits, StopsOver}
use Rattle.workbench.specs.Run.{StopsBuilding}
use Rattle.workbench.specs.Readings.{IsGoodBundle, StopsBundle}
use Rattle.workbench.proofs.OpenedDiagrams.{is_open, refused_below}

-- ---- over diagrams

module _ (b : Bundle) where
  -- what stops a later step stops the whole
  pub stops_later : (old mid new : State) (s : Status) → SameLimits old mid → StopsOver b mid new s → StopsOver b old new s
  stops_later old mid new status.Done same h = absurd h
  stops_later old mid new status.BadWords same h = absurd h
  stops_later old mid new (status.BadBundle fault) same h = h
  stops_later old mid new (status.BadConfig rule at) same h = h
  stops_later old mid new status.NotValid same h = h
  stops_later old mid new (status.BadCase fault) same h = h
  stops_later old mid new (status.NodeLimit used) same h = (h.0 ∙ same.limit, raised_later same.refused h.1)
  stops_later old mid new (status.BigCase entries) same h = h
  stops_later old mid new (status.TooLong n) same h = absurd h
  stops_later old mid new (status.ReadFault n) same h = absurd h
  stops_later old mid new status.WriteFault same h = absurd h
  stops_later old mid new status.NoMemory same h = tt
  stops_later old mid new status.Unsupported same h = h

  -- why there is no case, for diagrams that were opened with the limit
  pub stops_building : (limit : ℕ) (old opened new : State) (s : Status) → 1 ≤ limit → opened.region.limit ≡ limit → opened.refused ≡ old.refused
      → SameLimits opened new → new.refused ≤ greatest_count → IsBounded (algebra_of new) → StopsOver b opened new s
      → StopsBuilding (diagrams_of old) (diagrams_of new) (IsBuildAnswer building_cases b ShowsCase) s
  stops_building limit old opened new status.Done some with_limit same kept few bounded h = absurd h
  stops_building limit old opened new status.BadWords some with_limit same kept few bounded h = absurd h
  stops_building limit old opened new (status.BadBundle fault) some with_limit same kept few bounded h = h
  stops_building limit old opened new (status.BadConfig rule at) some with_limit same kept few bounded h = h
  stops_building limit old opened new status.NotValid some with_limit same kept few bounded h = h
  stops_building limit old opened new (status.BadCase fault) some with_limit same kept few bounded h = h
  stops_building limit old opened new (status.NodeLimit used) some with_limit same kept few bounded h = record {
    is_open = is_open new limit some (kept.limit ∙ with_limit);
    used_all = h.0 ∙ sym kept.limit;
    cause = subst (λ n. Rose n new.refused) same (rose_if_raised opened.refused new.refused few h.1);
    few = refused_below new opened.refused bounded h.1;
  }
  stops_building limit old opened new (status.BigCase entries) some with_limit same kept few bounded h = h
  stops_building limit old opened new (status.TooLong n) some with_limit same kept few bounded h = absurd h
  stops_building limit old opened new (status.ReadFault n) some with_limit same kept few bounded h = absurd h
  stops_building limit old opened new status.WriteFault some with_limit same kept few bounded h = absurd h
  stops_building limit old opened new status.NoMemory some with_limit same kept few bounded h = tt
  stops_building limit old opened new status.Unsupported some with_limit same kept few bounded h = h

-- ---- answers

module _ (name bytes : List ℕ) where
  after : (r : BundleReading) (a : Answer) → bundle_in building_cases name bytes ≡ r
      → AfterBundle r a (λ d b. IsBuildAnswer building_cases b ShowsCase a) → IsAnswer building_cases (Build name) (bytes ∷ []) a
  unfolding IsAnswer
  after r a e h = subst (λ x. AfterBundle x a (λ d b. IsBuildAnswer building_cases b ShowsCase a)) (sym e) h

  pub build_answered : (b : code.Bundle) (a : Answer) → IsGoodBundle (bundle_in building_cases name bytes) b
      → IsBuildAnswer building_cases (bundle_view b) ShowsCase a → IsAnswer building_cases (Build name) (bytes ∷ []) a
  build_answered b a i h =
      after (Good i.read.document (bundle_of i.read.document)) a i.good
      (subst (λ x. IsBuildAnswer building_cases x ShowsCase a) i.read.of_document.is h)

  -- one of the faults is named
  faulty : (fs : List BundleFault) (f : BundleFault) → bundle_in building_cases name bytes ≡ Faulty fs → Contains fs f
      → IsAnswer building_cases (Build name) (bytes ∷ []) (refusal (BadBundle f))
  faulty fs f e h = after (Faulty fs) (refusal (BadBundle f)) e (f, h, refl)

  -- the bundle's own refusals, whatever the diagrams are
  pub bundle_stops : (old new : Diagrams) (s : Status) → StopsBundle (bundle_in building_cases name bytes) s
      → StopsBuilding old new (IsAnswer building_cases (Build name) (bytes ∷ [])) s
  bundle_stops old new status.Done h = absurd h
  bundle_stops old new status.BadWords h = absurd h
  bundle_stops old new (status.BadBundle f) h = faulty h.0 (fault_of f) h.1 (first_is_contained h.0 (fault_of f) h.2)
  bundle_stops old new (status.BadConfig rule at) h = absurd h
  bundle_stops old new status.NotValid h = absurd h
  bundle_stops old new (status.BadCase fault) h = absurd h
  bundle_stops old new (status.NodeLimit used) h = absurd h
  bundle_stops old new (status.BigCase entries) h = absurd h
  bundle_stops old new (status.TooLong k) h = absurd h
  bundle_stops old new (status.ReadFault k) h = absurd h
  bundle_stops old new status.WriteFault h = absurd h
  bundle_stops old new status.NoMemory h = tt
  bundle_stops old new status.Unsupported h = after NotBuilt (refusal Unsupported) h refl

  -- what stops the building of a good bundle
  pub building_stops : (old new : Diagrams) (b : code.Bundle) (s : Status) → IsGoodBundle (bundle_in building_cases name bytes) b
      → StopsBuilding old new (IsBuildAnswer building_cases (bundle_view b) ShowsCase) s
      → StopsBuilding old new (IsAnswer building_cases (Build name) (bytes ∷ [])) s
  building_stops old new b status.Done i h = absurd h
  building_stops old new b status.BadWords i h = absurd h
  building_stops old new b (status.BadBundle fault) i h = build_answered b _ i h
  building_stops old new b (status.BadConfig rule at) i h = build_answered b _ i h
  building_stops old new b status.NotValid i h = build_answered b _ i h
  building_stops old new b (status.BadCase fault) i h = build_answered b _ i h
  building_stops old new b (status.NodeLimit used) i h = h
  building_stops old new b (status.BigCase entries) i h = build_answered b _ i h
  building_stops old new b (status.TooLong k) i h = absurd h
  building_stops old new b (status.ReadFault k) i h = absurd h
  building_stops old new b status.WriteFault i h = absurd h
  building_stops old new b status.NoMemory i h = tt
  building_stops old new b status.Unsupported i h = build_answered b _ i h
