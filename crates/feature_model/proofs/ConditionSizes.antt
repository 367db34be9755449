-- The condition of a line is linear in the features and the sizes of the constraints.
use Rattle.std.proofs.Common.{◌≡◌, refl, subst, ℕ, zero, suc, ◌+◌, ◌*◌, ◌/◌, ◌<◌, ◌≤◌, List, [], ◌∷◌, length, take, drop, map, Bool, true, false, Option, Some, None, arith}
use Rattle.std.specs.Prelude.{◌==◌, nat_le, if◌then◌else◌}
use Rattle.std.specs.List.{enumerate_from}
use Rattle.std.proofs.lemmas.List.{length-take, length-drop}
use Rattle.std.proofs.lemmas.Bool.Decides.{nat_tests}
use Rattle.meaning.specs.Texts.{numbered}
use Rattle.meaning.specs.Expressions.{Expression, Top, Bottom, Name, Not, Both, Either, Implies, size_of}
use Rattle.meaning.specs.Features.{Group, Mandatory, Optional, Or, Alternative, Feature, Line, is_or, is_alternative}
use Rattle.feature_model.specs.Children.{children, children_of_first}
use Rattle.feature_model.specs.Contents.{expressions_size}
use Rattle.feature_model.specs.Conditions.{any_or, any_of, one_at_most, child_condition, mandatory_condition, or_condition, alternative_condition, feature_condition, and_all, root_condition, line_condition}

any_size : (e : Expression) (cs : List ℕ) → size_of (any_or e cs) ≡ size_of e + 2 * length cs
any_size e [] = omega arith
any_size e (c ∷ cs) = let rest : size_of (any_or (Either e (Name c)) cs) ≡ size_of (Either e (Name c)) + 2 * length cs = any_size (Either e (Name c)) cs in omega arith

some_size : (cs : List ℕ) → size_of (any_of cs) ≡ 1 + 2 * length cs
some_size cs = any_size Bottom cs

one_size : (depth : ℕ) (cs : List ℕ) → 1 ≤ length cs → size_of (one_at_most depth cs) + 6 ≤ (2 * depth + 7) * length cs
one_size zero cs h = omega arith
one_size (suc depth) cs h = go (nat_le (length cs) 1) refl (one_size depth (take (length cs / 2) cs)) (one_size depth (drop (length cs / 2) cs))
  where
    first : List ℕ
    first = take (length cs / 2) cs

    others : List ℕ
    others = drop (length cs / 2) cs

    product : (m a b n s t : ℕ) → a + b ≡ n → s + 6 ≤ m * a → t + 6 ≤ m * b → s + t + 2 * n + 12 ≤ (m + 2) * n
    product m a b n s t e f g = subst (λ k. s + t + 2 * k + 12 ≤ (m + 2) * k) e (omega (arith, f, g))

    go : (b : Bool) → nat_le (length cs) 1 ≡ b
        → (1 ≤ length first → size_of (one_at_most depth first) + 6 ≤ (2 * depth + 7) * length first)
        → (1 ≤ length others → size_of (one_at_most depth others) + 6 ≤ (2 * depth + 7) * length others)
        → size_of (if b then Top else Both (Implies (any_of first) (Not (any_of others))) (Both (one_at_most depth first) (one_at_most depth others))) + 6
        ≤ (2 * suc depth + 7) * length cs
    go true e f g = omega arith
    go false e f g =
        let more : 1 < length cs = grind (arith, nat_tests) in
        let is_first = length-take (length cs / 2) cs in
        let is_others = length-drop (length cs / 2) cs in
        let together : length first + length others ≡ length cs = omega arith in
        let p = product (2 * depth + 7) (length first) (length others) (length cs) (size_of (one_at_most depth first)) (size_of (one_at_most depth others)) together (f (omega arith)) (g (omega arith)) in
        let a = some_size first in let b = some_size others in omega arith

-- ---- the rules at a feature

child_size : (number : ℕ) (parent : Option ℕ) → size_of (child_condition number parent) ≤ 3
child_size number (Some p) = omega arith
child_size number None = go (number == 0)
  where
    go : (b : Bool) → size_of (if b then Top else Not (Name number)) ≤ 3
    go true = omega arith
    go false = omega arith

mandatory_size : (number : ℕ) (group : Group) (parent : Option ℕ) → size_of (mandatory_condition number group parent) ≤ 3
mandatory_size number Mandatory (Some p) = omega arith
mandatory_size number Mandatory None = omega arith
mandatory_size number Optional parent = omega arith
mandatory_size number Or parent = omega arith
mandatory_size number Alternative parent = omega arith

or_size : (number : ℕ) (cs : List ℕ) → size_of (or_condition number cs) ≤ 3 + 2 * length cs
or_size number cs = go (length cs == 0)
  where
    go : (b : Bool) → size_of (if b then Top else Implies (Name number) (any_of cs)) ≤ 3 + 2 * length cs
    go true = omega arith
    go false = let a = some_size cs in omega arith

alternative_size : (number : ℕ) (cs : List ℕ) → size_of (alternative_condition number cs) ≤ 1 + 25 * length cs
alternative_size number cs = go (length cs == 0) refl
  where
    go : (b : Bool) → (length cs == 0) ≡ b → size_of (if b then Top else Implies (Name number) (Both (any_of cs) (one_at_most 8 cs))) ≤ 1 + 25 * length cs
    go true e = omega arith
    go false e = let some : 1 ≤ length cs = grind (arith, nat_tests) in let a = some_size cs in let o = one_size 8 cs some in omega arith

-- the children of a feature
abbrev child_count : List Feature → ℕ → ℕ
child_count fs p = length (children is_or fs p) + length (children is_alternative fs p)

feature_size : (fs : List Feature) (f : ℕ × Feature) → size_of (feature_condition fs f) ≤ 13 + 25 * child_count fs f.0
feature_size fs f =
    let a = child_size f.0 f.1.parent in
    let b = mandatory_size f.0 f.1.group f.1.parent in
    let c = or_size f.0 (children is_or fs f.0) in
    let d = alternative_size f.0 (children is_alternative fs f.0) in omega arith

-- the children of the first n features
abbrev first_count : List Feature → ℕ → ℕ
first_count fs n = children_of_first is_or fs n + children_of_first is_alternative fs n

features_size : (fs : List Feature) (k : ℕ) (xs : List Feature)
    → expressions_size (map (feature_condition fs) (enumerate_from k xs)) + 25 * first_count fs k ≤ 14 * length xs + 25 * first_count fs (k + length xs)
features_size fs k [] = rw (let e : k + 0 ≡ k = omega arith in e) (omega arith)
features_size fs k (x ∷ xs) =
    let here = feature_size fs (k, x) in
    let one : k + 1 ≡ suc k = omega arith in
    let rest = subst (λ n. expressions_size (map (feature_condition fs) (enumerate_from (k + 1) xs)) + 25 * first_count fs n ≤ 14 * length xs + 25 * first_count fs (n + length xs)) one (features_size fs (k + 1) xs) in
    let same : suc k + length xs ≡ k + suc (length xs) = omega arith in
    subst (λ n. expressions_size (map (feature_condition fs) (enumerate_from k (x ∷ xs))) + 25 * first_count fs k ≤ 14 * suc (length xs) + 25 * first_count fs n) same (omega arith)

-- ---- all of it

all_size : (e : Expression) (xs : List Expression) → size_of (and_all e xs) ≡ size_of e + expressions_size xs
all_size e [] = omega arith
all_size e (x ∷ xs) = let rest : size_of (and_all (Both e x) xs) ≡ size_of (Both e x) + expressions_size xs = all_size (Both e x) xs in omega arith

root_size : (fs : List Feature) → size_of (root_condition fs) ≡ 1
root_size [] = refl
root_size (f ∷ fs) = refl

pub condition_size : (line : Line)
    → children_of_first is_or line.features (length line.features) + children_of_first is_alternative line.features (length line.features) ≤ length line.features
    → size_of (line_condition line) ≤ 1 + 40 * length line.features + expressions_size line.constraints
condition_size line few =
    let fs = line.features in
    let parts = map (feature_condition fs) (numbered fs) in
    let a = all_size (and_all (root_condition fs) parts) line.constraints in
    let b = all_size (root_condition fs) parts in
    let r = root_size fs in
    let n : 0 + length fs ≡ length fs = omega arith in
    let f = subst (λ n. expressions_size parts + 25 * first_count fs 0 ≤ 14 * length fs + 25 * first_count fs n) n (features_size fs 0 fs) in
    omega arith
