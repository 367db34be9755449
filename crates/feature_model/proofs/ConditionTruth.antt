-- The condition of a line is true at exactly its valid worlds.
use Rattle.std.proofs.Common.{◌≡◌, ◌∙◌, refl, sym, ap, ap₂, ℕ, zero, suc, ◌+◌, ◌-◌, ◌*◌, ◌/◌, ◌^◌, ◌<◌, ◌≤◌, List, [], ◌∷◌, length, take, drop, map, Bool, true, false, cond, Option, Some, None, slice_get, arith}
use Rattle.std.specs.Prelude.{◌&&◌, ◌||◌, ◌==◌, not, nat_le, nat_lt, if◌then◌else◌, count_by, filter}
use Rattle.std.specs.List.{list_all, list_any, enumerate_from}
use Rattle.std.proofs.lemmas.List.{take-append-drop, length-take, length-drop, length-map, drop_more}
use Rattle.std.proofs.lemmas.Option.{slice_get_within, get_or_from_slice_get}
use Rattle.std.proofs.lemmas.List.Sums.{sum_by-append, count_by-le-length, length-filter}
use Rattle.std.proofs.lemmas.List.Folds.{list_all-map}
use Rattle.std.proofs.lemmas.List.FromFn.{length-enumerate_from}
use Rattle.std.proofs.lemmas.Bool.Decides.{nat_tests}
use Rattle.meaning.specs.Texts.{holds_at, numbered}
use Rattle.meaning.specs.Expressions.{Expression, Top, Bottom, Name, Not, Both, Either, Implies, truth}
use Rattle.meaning.specs.Features.{Group, Mandatory, Optional, Or, Alternative, Feature, Line, is_parent, is_mandatory, is_or, is_alternative, implies, has_parent, parent_true, or_group_kept, alternative_group_kept, is_valid}
use Rattle.feature_model.specs.Children.{children}
use Rattle.feature_model.specs.Breaks.{child_kept, mandatory_kept, or_kept, alternative_kept}
use Rattle.feature_model.specs.Conditions.{any_or, any_of, one_at_most, child_condition, mandatory_condition, or_condition, alternative_condition, feature_condition, and_all, root_condition, line_condition}
use Rattle.feature_model.proofs.ValidWorlds.{feature_kept, valid_is, all_same}

-- ---- as the code makes it

pub halves : (depth : ℕ) (cs first others : List ℕ) → 0 < depth → 1 < length cs → first ≡ take (length cs / 2) cs → others ≡ drop (length cs / 2) cs
    → Both (Implies (any_of first) (Not (any_of others))) (Both (one_at_most (depth - 1) first) (one_at_most (depth - 1) others)) ≡ one_at_most depth cs
halves zero cs first others some more is_first is_others = absurd (omega arith)
halves (suc depth) cs first others some more is_first is_others =
    let long : nat_le (length cs) 1 ≡ false = grind (arith, nat_tests) in
    let one_less : suc depth - 1 ≡ depth = omega arith in
    rw (is_first, is_others, one_less, long) refl

-- ---- some of several, at most one of several

or_assoc : (a b c : Bool) → ((a || b) || c) ≡ (a || (b || c))
or_assoc true b c = refl
or_assoc false b c = refl

module _ (w : List Bool) where
  any_truth : (e : Expression) (cs : List ℕ) → truth (any_or e cs) w ≡ (truth e w || list_any (holds_at w) cs)
  any_truth e [] = or_false (truth e w)
    where
      or_false : (a : Bool) → a ≡ (a || false)
      or_false true = refl
      or_false false = refl
  any_truth e (c ∷ cs) = any_truth (Either e (Name c)) cs ∙ or_assoc (truth e w) (holds_at w c) (list_any (holds_at w) cs)

  pub some_truth : (cs : List ℕ) → truth (any_of cs) w ≡ list_any (holds_at w) cs
  some_truth cs = any_truth Bottom cs

  count_cons : (c : ℕ) (cs : List ℕ) → count_by (holds_at w) (c ∷ cs) ≡ cond (holds_at w c) 1 0 + count_by (holds_at w) cs
  count_cons c cs =
      sum_by-append (λ x. cond (holds_at w x) 1 0) (c ∷ []) cs
      ∙ ap (λ n. n + count_by (holds_at w) cs) (let e : 0 + cond (holds_at w c) 1 0 ≡ cond (holds_at w c) 1 0 = omega arith in e)

  any_counts : (cs : List ℕ) → list_any (holds_at w) cs ≡ nat_lt 0 (count_by (holds_at w) cs)
  any_counts [] = refl
  any_counts (c ∷ cs) = rw (count_cons c cs) (go (holds_at w c) (any_counts cs))
    where
      go : (b : Bool) → list_any (holds_at w) cs ≡ nat_lt 0 (count_by (holds_at w) cs) → (b || list_any (holds_at w) cs) ≡ nat_lt 0 (cond b 1 0 + count_by (holds_at w) cs)
      go true later = let e : nat_lt 0 (1 + count_by (holds_at w) cs) ≡ true = grind (arith, nat_tests) in sym e
      go false later = later ∙ ap (nat_lt 0) (let e : count_by (holds_at w) cs ≡ 0 + count_by (holds_at w) cs = omega arith in e)

  few_count : (cs : List ℕ) → length cs ≤ 1 → true ≡ nat_le (count_by (holds_at w) cs) 1
  few_count cs h = let few = count_by-le-length (holds_at w) cs in grind (arith, nat_tests)

  two_halves : (a b : ℕ) → ((not (nat_lt 0 a) || not (nat_lt 0 b)) && (nat_le a 1 && nat_le b 1)) ≡ nat_le (a + b) 1
  two_halves a b = grind (arith, nat_tests)

  split_count : (cs : List ℕ) (k : ℕ) → count_by (holds_at w) (take k cs) + count_by (holds_at w) (drop k cs) ≡ count_by (holds_at w) cs
  split_count cs k =
      sym (sum_by-append (λ x. cond (holds_at w x) 1 0) (take k cs) (drop k cs)) ∙ ap (count_by (holds_at w)) (take-append-drop k cs)

  one_truth : (depth : ℕ) (cs : List ℕ) → length cs ≤ 2 ^ depth → truth (one_at_most depth cs) w ≡ nat_le (count_by (holds_at w) cs) 1
  one_truth zero cs h = few_count cs h
  one_truth (suc depth) cs h = go (nat_le (length cs) 1) refl (one_truth depth first) (one_truth depth others)
    where
      half : ℕ
      half = length cs / 2

      first : List ℕ
      first = take (length cs / 2) cs

      others : List ℕ
      others = drop (length cs / 2) cs

      go : (b : Bool) → nat_le (length cs) 1 ≡ b
          → (length first ≤ 2 ^ depth → truth (one_at_most depth first) w ≡ nat_le (count_by (holds_at w) first) 1)
          → (length others ≤ 2 ^ depth → truth (one_at_most depth others) w ≡ nat_le (count_by (holds_at w) others) 1)
          → truth (if b then Top else Both (Implies (any_of first) (Not (any_of others))) (Both (one_at_most depth first) (one_at_most depth others))) w
          ≡ nat_le (count_by (holds_at w) cs) 1
      go true e f g = few_count cs (grind (arith, nat_tests))
      go false e f g =
          let short : length cs ≤ 2 * 2 ^ depth = omega (arith, h) in
          let a = f (omega (arith, length-take (length cs / 2) cs)) in
          let b = g (omega (arith, length-drop (length cs / 2) cs)) in
          ap₂ (λ x y. x && y)
          (ap₂ (λ x y. not x || not y) (some_truth first ∙ any_counts first) (some_truth others ∙ any_counts others))
          (ap₂ (λ x y. x && y) a b)
          ∙ (two_halves (count_by (holds_at w) first) (count_by (holds_at w) others)
          ∙ ap (λ n. nat_le n 1) (split_count cs (length cs / 2)))

-- ---- all of several

and_assoc : (a b c : Bool) → ((a && b) && c) ≡ (a && (b && c))
and_assoc true b c = refl
and_assoc false b c = refl

and_true : (a : Bool) → a ≡ (a && true)
and_true true = refl
and_true false = refl

all_truth : (w : List Bool) (e : Expression) (xs : List Expression) → truth (and_all e xs) w ≡ (truth e w && list_all (λ x. truth x w) xs)
all_truth w e [] = and_true (truth e w)
all_truth w e (x ∷ xs) = all_truth w (Both e x) xs ∙ and_assoc (truth e w) (truth x w) (list_all (λ y. truth y w) xs)

-- the condition of the features from one on, with the next one taken in
pub next_feature : (fs : List Feature) (i : ℕ) (f : Feature) (e : Expression) → slice_get fs i ≡ Some f
    → and_all e (map (feature_condition fs) (enumerate_from i (drop i fs)))
    ≡ and_all (Both e (feature_condition fs (i, f))) (map (feature_condition fs) (enumerate_from (i + 1) (drop (i + 1) fs)))
next_feature fs i f e is =
    ap (λ xs. and_all e (map (feature_condition fs) (enumerate_from i xs)))
    (drop_more fs i f (slice_get_within fs i f is) ∙ ap (λ x. x ∷ drop (i + 1) fs) (get_or_from_slice_get fs i f f is))

-- ---- the rules at a feature

child_truth : (w : List Bool) (number : ℕ) (parent : Option ℕ) → truth (child_condition number parent) w ≡ implies (holds_at w number) (has_parent w number parent)
child_truth w number (Some p) = refl
child_truth w number None = go (number == 0)
  where
    not_or_true : (a : Bool) → true ≡ (not a || true)
    not_or_true true = refl
    not_or_true false = refl

    not_or_false : (a : Bool) → not a ≡ (not a || false)
    not_or_false true = refl
    not_or_false false = refl

    go : (b : Bool) → truth (if b then Top else Not (Name number)) w ≡ (not (holds_at w number) || b)
    go true = not_or_true (holds_at w number)
    go false = not_or_false (holds_at w number)

mandatory_truth : (w : List Bool) (number : ℕ) (group : Group) (parent : Option ℕ)
    → truth (mandatory_condition number group parent) w ≡ implies (is_mandatory group && parent_true w parent) (holds_at w number)
mandatory_truth w number Mandatory (Some p) = refl
mandatory_truth w number Mandatory None = refl
mandatory_truth w number Optional parent = refl
mandatory_truth w number Or parent = refl
mandatory_truth w number Alternative parent = refl

implies_true : (a : Bool) → true ≡ implies a true
implies_true true = refl
implies_true false = refl

or_truth : (w : List Bool) (number : ℕ) (cs : List ℕ) → truth (or_condition number cs) w ≡ implies (holds_at w number) (or_group_kept w cs)
or_truth w number [] = implies_true (holds_at w number)
or_truth w number (c ∷ cs) =
    let more : (suc (length cs) == 0) ≡ false = grind (arith, nat_tests) in
    rw more (ap (λ b. not (holds_at w number) || b) (some_truth w (c ∷ cs)))

exactly_one : (n : ℕ) → (nat_lt 0 n && nat_le n 1) ≡ (n == 1)
exactly_one n = grind (arith, nat_tests)

alternative_truth : (w : List Bool) (number : ℕ) (cs : List ℕ) → length cs ≤ 2 ^ 8 → truth (alternative_condition number cs) w ≡ implies (holds_at w number) (alternative_group_kept w cs)
alternative_truth w number [] h = implies_true (holds_at w number)
alternative_truth w number (c ∷ cs) h =
    let more : (suc (length cs) == 0) ≡ false = grind (arith, nat_tests) in
    rw more (ap (λ b. not (holds_at w number) || b)
    (ap₂ (λ x y. x && y) (some_truth w (c ∷ cs) ∙ any_counts w (c ∷ cs)) (one_truth w 8 (c ∷ cs) h) ∙ exactly_one (count_by (holds_at w) (c ∷ cs))))

pub children_few : (g : Group → Bool) (fs : List Feature) (p : ℕ) → length (children g fs p) ≤ length fs
children_few g fs p =
    let test : ℕ × Feature → Bool = λ c. is_parent p c.1.parent && g c.1.group in
    omega (arith, length-map (filter test (numbered fs)) (λ (c : ℕ × Feature). c.0), length-filter test (numbered fs), count_by-le-length test (numbered fs), length-enumerate_from 0 fs)

feature_truth : (w : List Bool) (fs : List Feature) (f : ℕ × Feature) → length fs ≤ 256 → truth (feature_condition fs f) w ≡ feature_kept fs w f
feature_truth w fs f few =
    ap₂ (λ x y. x && y)
    (ap₂ (λ x y. x && y) (child_truth w f.0 f.1.parent) (mandatory_truth w f.0 f.1.group f.1.parent))
    (ap₂ (λ x y. x && y) (or_truth w f.0 (children is_or fs f.0)) (alternative_truth w f.0 (children is_alternative fs f.0) (let n = children_few is_alternative fs f.0 in omega arith)))
    ∙ sym (and_assoc (child_kept w f && mandatory_kept w f) (or_kept fs w f) (alternative_kept fs w f))

root_truth : (w : List Bool) (fs : List Feature) → length w ≡ length fs → truth (root_condition fs) w ≡ holds_at w 0
root_truth [] [] e = refl
root_truth (b ∷ bs) [] e = absurd (omega arith)
root_truth w (f ∷ fs) e = refl

-- the condition is true at exactly the valid worlds
pub condition_truth : (line : Line) (w : List Bool) → length line.features ≤ 256 → length w ≡ length line.features → truth (line_condition line) w ≡ is_valid line w
condition_truth line w few many =
    all_truth w (and_all (root_condition line.features) (map (feature_condition line.features) (numbered line.features))) line.constraints
    ∙ (ap (λ b. b && list_all (λ e. truth e w) line.constraints)
    (all_truth w (root_condition line.features) (map (feature_condition line.features) (numbered line.features))
    ∙ ap₂ (λ x y. x && y) (root_truth w line.features many)
    (list_all-map (λ e. truth e w) (feature_condition line.features) (numbered line.features)
    ∙ all_same (λ f. truth (feature_condition line.features f) w) (feature_kept line.features w) (λ f. feature_truth w line.features f few) (numbered line.features)))
    ∙ sym (valid_is line w many))
