-- Lists of a bundle's document in which no item breaks a rule, and how many items stand in them.
use Rattle.std.proofs.Common.{◌≡◌, ℕ, ◌+◌, ◌≤◌, List, [], ◌∷◌, length, Bool, true, false, not, ◌==◌, refl, arith}
use Rattle.std.specs.List.{enumerate_from}
use Rattle.std.proofs.lemmas.Bool.Decides.{nat_tests}
use Rattle.meaning.specs.Texts.{flat, numbered}
use Rattle.meaning.specs.Documents.{Document, list_at}
use Rattle.meaning.specs.BundlePlaces.{Part, Broken, requires, where_formed, faults_at, faults_of_items, faults_of_items_in}
use Rattle.meaning.specs.LineRules.{is_within}
use Rattle.meaning.specs.ModelRules.{ModelContext, faults_in_list, faults_in_item}
use Rattle.meaning.proofs.CutTrees.{Each}
use Rattle.meaning.proofs.EachMembers.{each_by}
use Rattle.meaning.proofs.Lists.{map_nothing}
use Rattle.meaning.proofs.ReadCases.{nothing_left}

-- ---- places without a broken rule

pub holds_if_required : (rule : ℕ) (holds : Bool) → requires rule holds ≡ [] → holds ≡ true
holds_if_required rule true e = refl
holds_if_required rule false e = cc

pub formed : (form others : List Broken) → where_formed form others ≡ [] → (form ≡ []) × (others ≡ [])
formed [] others e = (refl, e)
formed (f ∷ fs) others e = cc

pub each_keeps : {A B : Type 0} (f : A → List B) (xs : List A) → flat f xs ≡ [] → Each (λ x. f x ≡ []) xs
each_keeps f [] e = tt
each_keeps f (x ∷ xs) e = let parts : (f x ≡ []) × (flat f xs ≡ []) = nothing_left (f x) (flat f xs) e in (parts.0, each_keeps f xs parts.1)

items_keep : (part : Part) (rules : ℕ × Document → List Broken) (items : List Document) → faults_of_items part rules items ≡ [] → Each (λ x. rules x ≡ []) (numbered items)
items_keep part rules items e =
    each_by (λ x. faults_at part x.0 0 (rules x) ≡ []) (λ x. rules x ≡ []) (λ x h. map_nothing _ (rules x) h) (numbered items) (each_keeps (λ x. faults_at part x.0 0 (rules x)) (numbered items) e)

pub list_keeps : (c : ModelContext) (part : Part) (k : List ℕ) (rules : ℕ × Document → List Broken) → faults_in_list c part k rules ≡ [] → Each (λ x. rules x ≡ []) (numbered (list_at k c.table))
list_keeps c part k rules e = items_keep part rules (list_at k c.table) (nothing_left _ (faults_of_items part rules (list_at k c.table)) e).1

pub item_keeps : (part : Part) (k : List ℕ) (rules : ℕ × Document → List Broken) (x : ℕ × Document) → faults_in_item part k rules x ≡ [] → Each (λ y. rules y ≡ []) (numbered (list_at k x.1))
item_keeps part k rules x e =
    each_by (λ y. faults_at part x.0 y.0 (rules y) ≡ []) (λ y. rules y ≡ []) (λ y h. map_nothing _ (rules y) h) (numbered (list_at k x.1))
    (each_keeps (λ y. faults_at part x.0 y.0 (rules y)) (numbered (list_at k x.1)) (nothing_left _ (faults_of_items_in part x.0 rules (list_at k x.1)) e).1)

-- ---- few items

pub few_after : {A : Type 0} (limit before k : ℕ) (xs : List A) → before + k ≤ limit → Each (λ x. is_within limit (before + x.0) ≡ true) (enumerate_from k xs) → before + k + length xs ≤ limit
few_after limit before k [] l h = omega (arith, l)
few_after limit before k (x ∷ xs) l h = omega (arith, few_after limit before (k + 1) xs (omega (arith, below limit (before + k) l h.0)) h.1)
  where
    below : (limit n : ℕ) → n ≤ limit → not (n == limit) ≡ true → n + 1 ≤ limit
    below limit n l h = grind (arith, nat_tests)
