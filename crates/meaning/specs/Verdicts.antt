-- What the verdict of a check on one product shows: an invariant where it is supported, and a shortest run to a violation where it is refuted.
use Rattle.std.specs.Prelude.{◌≡◌, ℕ, ◌≤◌, List, map, length, Bool, true, false, Some}
use Rattle.meaning.specs.Texts.{numbers_from}
use Rattle.meaning.specs.Models.{PlainSystem}
use Rattle.meaning.specs.Systems.{Property, IsProperSystem, IsRun, is_reachable, violates, last_state, is_refuted, run_to, replays, is_closed}

abbrev pub reached_states : PlainSystem → List Bool
reached_states s = map (is_reachable s) (numbers_from 0 (length s.states))

-- the reached states show a check that is not refuted
abbrev pub SupportedIsClosed : Type 0
SupportedIsClosed = (labels : ℕ) (s : PlainSystem) (p : Property) → IsProperSystem s
    → is_refuted labels s p ≡ false → is_closed labels s p (reached_states s) ≡ true

-- the run to a state ends there, the state violates, and no run to a violating state is shorter
pub record IsShortestViolation (labels : ℕ) (s : PlainSystem) (p : Property) (x : ℕ) : Type 0 where
  pub violated : violates labels s p x ≡ true
  pub replayed : replays s (run_to s x).0 (run_to s x).1 ≡ Some x
  pub shortest : (first y : ℕ) (ts : List ℕ) → IsRun s first ts y → violates labels s p y ≡ true → length (run_to s x).1 ≤ length ts

abbrev pub RefutedHasShortest : Type 0
RefutedHasShortest = (labels : ℕ) (s : PlainSystem) (p : Property) → IsProperSystem s
    → (x : ℕ) → last_state labels s p ≡ Some x → IsShortestViolation labels s p x
