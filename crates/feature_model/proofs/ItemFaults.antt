-- The first fault of an item, and of a list of items.
use Rattle.std.proofs.Common.{◌≡◌, ◌∙◌, refl, sym, ap, ℕ, zero, suc, ◌+◌, List, [], ◌∷◌, ◌++◌, length, take, drop, get_or, subst, ◌<◌, false, Option, Some, None, arith}
use Rattle.std.specs.Prelude.{◌==◌}
use Rattle.std.specs.List.{enumerate_from}
use Rattle.std.proofs.lemmas.List.{drop_more, take_more, take-append-drop, length-take}
use Rattle.std.proofs.lemmas.Bool.Decides.{nat_tests}
use Rattle.meaning.specs.Texts.{first_of_list, flat}
use Rattle.meaning.specs.Documents.{Document}
use Rattle.meaning.specs.BundlePlaces.{Part, BundleFault, Broken, faults_at}
use Rattle.meaning.specs.LineRules.{feature_rules}
use Rattle.meaning.proofs.FirstFaults.{nothing_first, first_at_item, no_fault_with_item}
use Rattle.doc_tree.specs.Places.{fault_of}
use Rattle.feature_model.specs.declared.read.LineStop.{LineStop}
use Rattle.feature_model.specs.declared.read.LineStop.TheVariants.{Fault, NoMemory}
use Rattle.feature_model.specs.Reading.{rules_at, TellsFault}

pub first_at_place : (part : Part) (item : ℕ) (broken : List Broken) (rule at : ℕ) → Some (rule, at) ≡ first_of_list broken
    → first_of_list (faults_at part item 0 broken) ≡ Some (record { rule = rule; part = part; item = item; sub = 0; at = at })
first_at_place part item [] rule at e = absurd cc
first_at_place part item (b ∷ bs) rule at e =
    let is : (rule, at) ≡ b = cc in
    let fault : Broken → BundleFault = λ b. record { rule = b.0; part = part; item = item; sub = 0; at = b.1 } in
    ap (λ b. Some (fault b)) (sym is)

pub nothing_broken : (broken : List Broken) → None ≡ first_of_list broken → broken ≡ []
nothing_broken broken e = nothing_first broken (sym e)

-- the rules at a feature read the names before it
pub rules_before : (names : List (List ℕ)) (i : ℕ) (d : Document) → rules_at (take i names) i d ≡ feature_rules names (i, d)
unfolding feature_rules
rules_before names zero d = refl
rules_before names (suc i) d = let later : (suc i == 0) ≡ false = grind (arith, nat_tests) in rw later refl

-- ---- items of a list

module _ (faults : ℕ × Document → List BundleFault) (items : List Document) (i : ℕ) (d : Document) (inside : i < length items) (is : d ≡ get_or items i d) where
  parts : take i items ++ d ∷ drop (i + 1) items ≡ items
  parts = ap (λ x. take i items ++ x ∷ drop (i + 1) items) is ∙ (ap (λ xs. take i items ++ xs) (sym (drop_more items i d inside)) ∙ take-append-drop i items)

  number : 0 + length (take i items) ≡ i
  number = omega (arith, length-take i items)

  -- the items so far have no fault, and the next one has one: that is the first of the list
  pub item_fails : (b : BundleFault) → flat faults (enumerate_from 0 (take i items)) ≡ [] → first_of_list (faults (i, d)) ≡ Some b
      → first_of_list (flat faults (enumerate_from 0 items)) ≡ Some b
  item_fails b none here =
      subst (λ xs. first_of_list (flat faults (enumerate_from 0 xs)) ≡ Some b) parts
      (first_at_item faults 0 (take i items) d (drop (i + 1) items) b none (subst (λ n. first_of_list (faults (n, d)) ≡ Some b) (sym number) here))

  -- the items so far and the next one have no fault
  pub item_passes : flat faults (enumerate_from 0 (take i items)) ≡ [] → faults (i, d) ≡ [] → flat faults (enumerate_from 0 (take (i + 1) items)) ≡ []
  item_passes none here =
      subst (λ xs. flat faults (enumerate_from 0 xs) ≡ []) (sym (take_more items i d inside ∙ ap (λ x. take i items ++ x ∷ []) (sym is)))
      (no_fault_with_item faults 0 (take i items) d none (subst (λ n. faults (n, d) ≡ []) (sym number) here))

-- a fault that is told is told of what it is the first fault of
pub told_further : (stop : LineStop) (first whole : Option BundleFault) → ((b : BundleFault) → first ≡ Some b → whole ≡ Some b) → TellsFault stop first → TellsFault stop whole
told_further (Fault f) first whole further told = further (fault_of f) told
told_further NoMemory first whole further told = tt
