-- What stays over several calls, and what a later moment knows of an earlier one.
use Rattle.std.proofs.Common.{◌≡◌, ℕ, ◌+◌, ◌≤◌, inl, inr, List, Bool, true, length, refl, sym, ◌∙◌, arith}
use Rattle.std.proofs.lemmas.Bool.{cases_lt}
use Rattle.meaning.specs.Counts.{counted, greatest_count, Rose}
use Rattle.worlds.specs.Algebra.{Algebra, Kept, Worked, HoldsWhere, IsRefusal, Raised, Stops}
use Rattle.worlds.specs.declared.stops.NodeLimit.{NodeLimit}
use Rattle.worlds.specs.declared.stops.QStop.{QStop}
use Rattle.worlds.specs.declared.stops.QStop.TheVariants.{NodeLimit as AtLimit, TooMany, NoMemory}

-- ---- what is kept

pub kept_itself : {C : Type 0} (a : Algebra C) → Kept a a
kept_itself a = record {
  count = refl;
  worlds = λ x. refl;
  live = λ c h. h;
  holds = λ c h x. refl;
  asked = omega arith;
  refused = omega arith;
  limit = refl;
  taken = refl;
  size = omega arith;
}

pub kept_then : {C : Type 0} {a b c : Algebra C} → Kept a b → Kept b c → Kept a c
kept_then h k = record {
  count = k.count ∙ h.count;
  worlds = λ x. k.worlds x ∙ h.worlds x;
  live = λ c l. k.live c (h.live c l);
  holds = λ c l x. k.holds c (h.live c l) x ∙ h.holds c l x;
  asked = omega arith;
  refused = omega arith;
  limit = k.limit ∙ h.limit;
  taken = k.taken ∙ h.taken;
  size = omega arith;
}

-- ---- how much was asked

pub worked_itself : {C : Type 0} (a : Algebra C) → Worked 0 a a
worked_itself a = record { kept = kept_itself a; asked = omega arith }

pub worked_then : {C : Type 0} {m n : ℕ} {a b c : Algebra C} → Worked m a b → Worked n b c → Worked (m + n) a c
worked_then h k = record { kept = kept_then h.kept k.kept; asked = omega arith }

pub worked_at_most : {C : Type 0} {m n : ℕ} {a b : Algebra C} → Worked m a b → m ≤ n → Worked n a b
worked_at_most h below = record { kept = h.kept; asked = omega (arith, h.asked) }

-- a call that makes a condition asks once
pub one_call : {C : Type 0} {a b : Algebra C} → Kept a b → b.asked ≡ counted a.asked 1 → Worked 1 a b
one_call h e = record { kept = h; asked = omega (arith, e) }

-- ---- where a condition holds

pub holds_later : {C : Type 0} {a b : Algebra C} {c : C} {test : List Bool → Bool} → Kept a b → HoldsWhere a c test → HoldsWhere b c test
holds_later h k = record {
  live = h.live _ k.live;
  holds = λ x w. h.holds _ k.live x ∙ k.holds x (sym (h.worlds x) ∙ w);
}

-- where the tests agree at the worlds, one says what the other does
pub holds_as : {C : Type 0} {a : Algebra C} {c : C} (test other : List Bool → Bool) → ((x : List Bool) → a.is_world x ≡ true → test x ≡ other x) → HoldsWhere a c test → HoldsWhere a c other
holds_as test other same h = record { live = h.live; holds = λ x w. h.holds x w ∙ same x w }

-- a live condition holds where it held before
pub holds_as_before : {C : Type 0} {a b : Algebra C} (c : C) → Kept a b → a.live c → HoldsWhere b c (a.holds c)
holds_as_before c h live = record { live = h.live c live; holds = λ x w. h.holds c live x }

-- a world was one before
pub world_before : {C : Type 0} {a b : Algebra C} (x : List Bool) → Kept a b → b.is_world x ≡ true → a.is_world x ≡ true
world_before x h w = sym (h.worlds x) ∙ w

-- worlds go on having a truth value for each feature
pub lengths_later : {C : Type 0} {a b : Algebra C} → Kept a b → ((x : List Bool) → a.is_world x ≡ true → length x ≡ a.count) → (x : List Bool) → b.is_world x ≡ true → length x ≡ b.count
lengths_later h long x w = long x (world_before x h w) ∙ sym h.count

-- ---- refusals

pub raised_later : {k m n : ℕ} → k ≤ m → Raised m n → Raised k n
raised_later below h = omega (arith, h)

pub refused_later : {C : Type 0} {a b c : Algebra C} {stop : NodeLimit} → Kept a b → IsRefusal b c stop → IsRefusal a c stop
refused_later h k = record { used = k.used ∙ h.limit; rose = omega (arith, k.rose) }

-- a refusal stays one after further calls
pub refused_still : {C : Type 0} {a b c : Algebra C} {stop : NodeLimit} → IsRefusal a b stop → Kept b c → IsRefusal a c stop
refused_still h k = record { used = h.used; rose = omega (arith, h.rose, k.refused) }

pub stops_later : {C : Type 0} {a b : Algebra C} (c : Algebra C) (stop : QStop) → Kept a b → Stops b c stop → Stops a c stop
stops_later c (AtLimit stop) h k = refused_later h k
stops_later c TooMany h k = k
stops_later c NoMemory h k = tt

pub stops_still : {C : Type 0} {b c : Algebra C} (a : Algebra C) (stop : QStop) → Stops a b stop → Kept b c → Stops a c stop
stops_still a (AtLimit stop) h k = refused_still h k
stops_still a TooMany h k = h
stops_still a NoMemory h k = tt

-- a count that fits into 64 bits rose
pub rose_if_raised : (before after : ℕ) → after ≤ greatest_count → Raised before after → Rose before after
rose_if_raised before after fits raised =
    elim (cases_lt before after) [
      | inl below ↦ record { is = inl below }
      | inr above ↦ record { is = inr (omega (arith, fits, raised, above)) }
    ]

-- where nothing is ever refused, there is no refusal
pub no_refusal : {C : Type 0} {a b : Algebra C} {stop : NodeLimit} → b.refused ≡ 0 → IsRefusal a b stop → ⊥
no_refusal none h = omega (arith, none, h.rose)
