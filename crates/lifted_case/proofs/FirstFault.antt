-- The first fault of lists of faults that stand behind one another.
use Rattle.std.proofs.Common.{◌≡◌, refl, ap₂, ◌∙◌, ℕ, map, arith, List, [], ◌∷◌, ◌++◌}
use Rattle.std.specs.Prelude.{Option, Some, option_map}
use Rattle.meaning.specs.Counts.{capped}
use Rattle.meaning.specs.BundlePlaces.{Part}
use Rattle.meaning.specs.Texts.{first_of_list}
use Rattle.meaning.specs.CaseReading.{CaseFault, faults_at}
use Rattle.lifted_case.specs.declared.stop.ReadCaseStop.{ReadCaseStop}
use Rattle.lifted_case.specs.declared.stop.ReadCaseStop.TheVariants.{Fault, NoMemory}
use Rattle.lifted_case.specs.CaseView.{fault_view}
use Rattle.lifted_case.specs.ReadFaults.{Finds}

first_of_front : (xs ys : List CaseFault) (f : CaseFault) → first_of_list xs ≡ Some f → first_of_list (xs ++ ys) ≡ Some f
first_of_front [] ys f e = cc
first_of_front (x ∷ xs) ys f e = e

pub finds_front : (xs ys : List CaseFault) (s : ReadCaseStop) → Finds xs s → Finds (xs ++ ys) s
finds_front xs ys (Fault f) e = first_of_front xs ys (fault_view f) e
finds_front xs ys NoMemory e = tt

pub finds_behind : (xs ys : List CaseFault) (s : ReadCaseStop) → xs ≡ [] → Finds ys s → Finds (xs ++ ys) s
finds_behind xs ys s e h = rw e h

-- ---- places that are told

first_mapped : {A B : Type 0} (f : A → B) (xs : List A) → option_map f (first_of_list xs) ≡ first_of_list (map f xs)
first_mapped f [] = refl
first_mapped f (x ∷ xs) = refl

-- the first of places as it is told is the first of those that are told
pub told_place : (place : Option ℕ) (items : List ℕ) → place ≡ option_map capped (first_of_list items) → place ≡ first_of_list (map capped items)
told_place place items e = e ∙ first_mapped capped items

-- a place that was told is told as it is
pub told_again : (fault : ℕ) (part : Part) (items : List ℕ) → faults_at fault part (map capped items) ≡ faults_at fault part items
told_again fault part [] = refl
told_again fault part (i ∷ is) =
    let same : capped (capped i) ≡ capped i = omega arith in
    ap₂ (λ n fs. record { fault = fault; part = part; item = n } ∷ fs) same (told_again fault part is)
