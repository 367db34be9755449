-- The reached states are the least closed set.
use Rattle.std.proofs.Common.{◌≡◌, refl, ap, ◌∙◌, ℕ, List, [], Bool, true, false, Option, Some, None}
use Rattle.std.specs.Prelude.{◌==◌}
use Rattle.meaning.specs.Models.{PlainSystem}
use Rattle.meaning.specs.Systems.{IsProperSystem, IsRun, start, step, is_reachable, is_some_number, distance}
use Rattle.meaning.proofs.SearchLaws.{find_contains, distance_is_least, reachable_has_run}
use Rattle.featured_systems.specs.ClosedSets.{IsClosedSet, ReachedIsLeastClosed}

-- every run ends in a closed set
ends_inside : (s : PlainSystem) (other : ℕ → Bool) → IsClosedSet s other → {first x : ℕ} {ts : List ℕ} → IsRun s first ts x → other x ≡ true
ends_inside s other c (start e) = c.initial _ e
ends_inside s other c (step {t = t} d run found same) =
    c.step (t, d) (find_contains (λ p. p.0 == t) s.transitions (t, d) found) (ap other same ∙ ends_inside s other c run)

some_distance : (o : Option ℕ) → is_some_number o ≡ true → (n : ℕ) × (o ≡ Some n)
some_distance None e = absurd (let n : false ≡ true = e in cc)
some_distance (Some n) e = (n, refl)

-- a reachable state is the end of a run
run_there : (s : PlainSystem) → IsProperSystem s → (x : ℕ) → is_reachable s x ≡ true → (first : ℕ) × (ts : List ℕ) × IsRun s first ts x
run_there s proper x e =
    let d = some_distance (distance s x) e in
    let least = distance_is_least s proper x d.0 d.1 in
    (least.0.0, least.0.1, least.0.2.0)

pub reached_is_least_closed : ReachedIsLeastClosed
reached_is_least_closed s proper = record {
  closed = record {
    initial = λ x e. reachable_has_run s proper x x [] (start e);
    step = λ t there e.
        let r = run_there s proper t.1.source e in
        reachable_has_run s proper r.0 t.1.target _ (step t.1 r.2 (proper.numbers_differ t there) refl);
  };
  least = λ other c x e. let r = run_there s proper x e in ends_inside s other c r.2;
}
