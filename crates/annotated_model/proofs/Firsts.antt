-- The first of the faults of a list, of two lists, and of the rules at a place.
use Rattle.std.proofs.Common.{◌≡◌, refl, sym, ap, ◌∙◌, subst, ℕ, List, [], ◌∷◌, ◌++◌}
use Rattle.meaning.specs.Texts.{first_of_list}
use Rattle.meaning.specs.BundlePlaces.{Part, BundleFault, Broken, where_formed, faults_at, or_else}
use Rattle.meaning.proofs.FirstFaults.{first_of_append}
use Rattle.annotated_model.specs.declared.fault.ModelStop.{ModelStop}
use Rattle.annotated_model.specs.declared.fault.ModelStop.TheVariants.{Fault, NoMemory}
use Rattle.annotated_model.specs.Faults.{IsFirst}

-- the first of two lists is that of the first one, or of the second one where the first one is empty
pub first_in_front : (xs ys : List BundleFault) (stop : ModelStop) → IsFirst xs stop → IsFirst (xs ++ ys) stop
first_in_front xs ys (Fault f) e = first_of_append xs ys ∙ ap (λ o. or_else o (first_of_list ys)) e
first_in_front xs ys NoMemory e = e

pub first_behind : (xs ys : List BundleFault) (stop : ModelStop) → xs ≡ [] → IsFirst ys stop → IsFirst (xs ++ ys) stop
first_behind xs ys stop none first = subst (λ zs. IsFirst (zs ++ ys) stop) (sym none) first

-- ---- at a place

pub faults_append : (part : Part) (item sub : ℕ) (xs ys : List Broken)
    → faults_at part item sub (xs ++ ys) ≡ faults_at part item sub xs ++ faults_at part item sub ys
faults_append part item sub [] ys = refl
faults_append part item sub (x ∷ xs) ys = ap (λ fs. record { rule = x.0; part = part; item = item; sub = sub; at = x.1 } ∷ fs) (faults_append part item sub xs ys)

-- a rule that is broken in front of others
pub broken_in_front : (part : Part) (item sub : ℕ) (xs ys : List Broken) (stop : ModelStop)
    → IsFirst (faults_at part item sub xs) stop → IsFirst (faults_at part item sub (xs ++ ys)) stop
broken_in_front part item sub xs ys stop first =
    subst (λ fs. IsFirst fs stop) (sym (faults_append part item sub xs ys))
    (first_in_front (faults_at part item sub xs) (faults_at part item sub ys) stop first)

pub broken_behind : (part : Part) (item sub : ℕ) (xs ys : List Broken) (stop : ModelStop)
    → xs ≡ [] → IsFirst (faults_at part item sub ys) stop → IsFirst (faults_at part item sub (xs ++ ys)) stop
broken_behind part item sub xs ys stop none first = subst (λ zs. IsFirst (faults_at part item sub (zs ++ ys)) stop) (sym none) first

-- a broken rule of form comes before the other rules, and without one these count
pub broken_form : (part : Part) (item sub : ℕ) (form others : List Broken) (stop : ModelStop)
    → IsFirst (faults_at part item sub form) stop → IsFirst (faults_at part item sub (where_formed form others)) stop
broken_form part item sub [] others (Fault f) first = absurd cc
broken_form part item sub [] others NoMemory first = first
broken_form part item sub (x ∷ xs) others stop first = first

pub broken_others : (part : Part) (item sub : ℕ) (form others : List Broken) (stop : ModelStop)
    → form ≡ [] → IsFirst (faults_at part item sub others) stop → IsFirst (faults_at part item sub (where_formed form others)) stop
broken_others part item sub form others stop none first =
    subst (λ zs. IsFirst (faults_at part item sub (where_formed zs others)) stop) (sym none) first

-- two lists with the same first fault
pub same_first : (xs ys : List BundleFault) (stop : ModelStop) → first_of_list xs ≡ first_of_list ys → IsFirst xs stop → IsFirst ys stop
same_first xs ys (Fault f) same first = sym same ∙ first
same_first xs ys NoMemory same first = first
