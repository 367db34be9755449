-- The condition of a line speaks of its features alone.
use Rattle.std.proofs.Common.{ℕ, zero, suc, ◌+◌, ◌/◌, ◌<◌, ◌≤◌, List, [], ◌∷◌, length, take, drop, map, Bool, true, false, Option, Some, None, arith}
use Rattle.std.specs.Prelude.{◌==◌, nat_le, if◌then◌else◌, All}
use Rattle.std.specs.List.{enumerate_from}
use Rattle.std.proofs.lemmas.List.Elements.{All-nil, All-cons, All-head, All-tail, All-take, All-drop}
use Rattle.meaning.specs.Texts.{numbered}
use Rattle.meaning.specs.Expressions.{Expression, Top, Bottom, Name, Not, Both, Either, Implies, name_bound}
use Rattle.meaning.specs.Features.{Group, Mandatory, Optional, Or, Alternative, Feature, Line, is_or, is_alternative}
use Rattle.feature_model.specs.Children.{children}
use Rattle.feature_model.specs.Contents.{IsBelow}
use Rattle.feature_model.specs.Conditions.{any_or, any_of, one_at_most, child_condition, mandatory_condition, or_condition, alternative_condition, feature_condition, and_all, root_condition, line_condition}
use Rattle.feature_model.proofs.ChildLists.{children_below}

module _ (n : ℕ) where
  any_bound : (e : Expression) (cs : List ℕ) → name_bound e ≤ n → All (λ m. m < n) cs → name_bound (any_or e cs) ≤ n
  any_bound e [] h all = h
  any_bound e (c ∷ cs) h all =
      let here = All-head (λ m. m < n) c cs all in any_bound (Either e (Name c)) cs (omega arith) (All-tail (λ m. m < n) c cs all)

  some_bound : (cs : List ℕ) → All (λ m. m < n) cs → name_bound (any_of cs) ≤ n
  some_bound cs all = any_bound Bottom cs (omega arith) all

  one_bound : (depth : ℕ) (cs : List ℕ) → All (λ m. m < n) cs → name_bound (one_at_most depth cs) ≤ n
  one_bound zero cs all = omega arith
  one_bound (suc depth) cs all = go (nat_le (length cs) 1) (one_bound depth first (All-take (λ m. m < n) (length cs / 2) cs all)) (one_bound depth others (All-drop (λ m. m < n) (length cs / 2) cs all))
    where
      first : List ℕ
      first = take (length cs / 2) cs

      others : List ℕ
      others = drop (length cs / 2) cs

      go : (b : Bool) → name_bound (one_at_most depth first) ≤ n → name_bound (one_at_most depth others) ≤ n
          → name_bound (if b then Top else Both (Implies (any_of first) (Not (any_of others))) (Both (one_at_most depth first) (one_at_most depth others))) ≤ n
      go true f g = omega arith
      go false f g =
          let a = some_bound first (All-take (λ m. m < n) (length cs / 2) cs all) in
          let b = some_bound others (All-drop (λ m. m < n) (length cs / 2) cs all) in omega arith

  child_bound : (number : ℕ) (parent : Option ℕ) → number < n → IsBelow n parent → name_bound (child_condition number parent) ≤ n
  child_bound number (Some p) h below = omega arith
  child_bound number None h below = go (number == 0)
    where
      go : (b : Bool) → name_bound (if b then Top else Not (Name number)) ≤ n
      go true = omega arith
      go false = omega arith

  mandatory_bound : (number : ℕ) (group : Group) (parent : Option ℕ) → number < n → IsBelow n parent → name_bound (mandatory_condition number group parent) ≤ n
  mandatory_bound number Mandatory (Some p) h below = omega arith
  mandatory_bound number Mandatory None h below = omega arith
  mandatory_bound number Optional parent h below = omega arith
  mandatory_bound number Or parent h below = omega arith
  mandatory_bound number Alternative parent h below = omega arith

  or_bound : (number : ℕ) (cs : List ℕ) → number < n → All (λ m. m < n) cs → name_bound (or_condition number cs) ≤ n
  or_bound number cs h all = go (length cs == 0)
    where
      go : (b : Bool) → name_bound (if b then Top else Implies (Name number) (any_of cs)) ≤ n
      go true = omega arith
      go false = let a = some_bound cs all in omega arith

  alternative_bound : (number : ℕ) (cs : List ℕ) → number < n → All (λ m. m < n) cs → name_bound (alternative_condition number cs) ≤ n
  alternative_bound number cs h all = go (length cs == 0)
    where
      go : (b : Bool) → name_bound (if b then Top else Implies (Name number) (Both (any_of cs) (one_at_most 8 cs))) ≤ n
      go true = omega arith
      go false = let a = some_bound cs all in let o = one_bound 8 cs all in omega arith

  all_bound : (e : Expression) (xs : List Expression) → name_bound e ≤ n → All (λ x. name_bound x ≤ n) xs → name_bound (and_all e xs) ≤ n
  all_bound e [] h all = h
  all_bound e (x ∷ xs) h all =
      let here = All-head (λ x. name_bound x ≤ n) x xs all in all_bound (Both e x) xs (omega arith) (All-tail (λ x. name_bound x ≤ n) x xs all)

feature_bound : (fs : List Feature) (f : ℕ × Feature) → f.0 < length fs → IsBelow (length fs) f.1.parent → name_bound (feature_condition fs f) ≤ length fs
feature_bound fs f h below =
    let a = child_bound (length fs) f.0 f.1.parent h below in
    let b = mandatory_bound (length fs) f.0 f.1.group f.1.parent h below in
    let c = or_bound (length fs) f.0 (children is_or fs f.0) h (children_below is_or fs f.0) in
    let d = alternative_bound (length fs) f.0 (children is_alternative fs f.0) h (children_below is_alternative fs f.0) in omega arith

features_bound : (fs : List Feature) (k : ℕ) (xs : List Feature) → k + length xs ≤ length fs → All (λ f. IsBelow (length fs) f.parent) xs
    → All (λ x. name_bound x ≤ length fs) (map (feature_condition fs) (enumerate_from k xs))
features_bound fs k [] h all = All-nil (λ x. name_bound x ≤ length fs)
features_bound fs k (x ∷ xs) h all =
    All-cons (λ x. name_bound x ≤ length fs) (feature_condition fs (k, x)) (map (feature_condition fs) (enumerate_from (k + 1) xs))
    (feature_bound fs (k, x) (omega arith) (All-head (λ f. IsBelow (length fs) f.parent) x xs all))
    (features_bound fs (k + 1) xs (omega arith) (All-tail (λ f. IsBelow (length fs) f.parent) x xs all))

root_bound : (fs : List Feature) → name_bound (root_condition fs) ≤ length fs
root_bound [] = omega arith
root_bound (f ∷ fs) = omega arith

pub condition_bound : (line : Line) → All (λ f. IsBelow (length line.features) f.parent) line.features → All (λ e. name_bound e ≤ length line.features) line.constraints
    → name_bound (line_condition line) ≤ length line.features
condition_bound line parents bounds =
    all_bound (length line.features) (and_all (root_condition line.features) (map (feature_condition line.features) (numbered line.features))) line.constraints
    (all_bound (length line.features) (root_condition line.features) (map (feature_condition line.features) (numbered line.features)) (root_bound line.features)
    (features_bound line.features 0 line.features (omega arith) parents)) bounds
