-- A world is valid exactly where it breaks no rule.
use Rattle.std.proofs.Common.{◌≡◌, ◌∙◌, refl, sym, ap, ap₂, ℕ, zero, suc, ◌+◌, List, [], ◌∷◌, ◌++◌, length, Bool, true, false, Some, None, get_or, drop, slice_get, ◌≤◌, arith}
use Rattle.std.specs.Prelude.{◌&&◌, ◌==◌, is_none, is_ok, Result, Ok, Err}
use Rattle.std.specs.List.{list_all, enumerate_from}
use Rattle.std.proofs.lemmas.List.{drop_more}
use Rattle.std.proofs.lemmas.Option.{slice_get_within, get_or_from_slice_get}
use Rattle.std.proofs.lemmas.Bool.Decides.{nat_tests}
use Rattle.meaning.specs.Texts.{flat, numbered, first_of_list, holds_at}
use Rattle.meaning.specs.Expressions.{truth}
use Rattle.meaning.specs.Features.{Feature, Line, implies, or_group_kept, alternative_group_kept, is_or, is_alternative, is_valid}
use Rattle.feature_model.specs.declared.validity.LineRule.{LineRule}
use Rattle.feature_model.specs.declared.validity.LineRule.TheVariants.{Root, Child, Mandatory, OrGroup, Alternative, Constraint}
use Rattle.feature_model.specs.Children.{children}
use Rattle.feature_model.specs.Breaks.{child_kept, mandatory_kept, or_kept, alternative_kept, unless, feature_breaks, constraint_breaks, breaks, told_rule}

pub value_at : (w : List Bool) (n : ℕ) → get_or w n false ≡ holds_at w n
value_at [] n = refl
value_at (b ∷ bs) zero = refl
value_at (b ∷ bs) (suc n) = value_at bs n

pub none_past : (w : List Bool) (n : ℕ) → length w ≤ n → holds_at w n ≡ false
none_past [] n h = refl
none_past (b ∷ bs) zero h = absurd (omega arith)
none_past (b ∷ bs) (suc n) h = none_past bs n (omega arith)

-- ---- tests of lists

abbrev pub is_empty : {A : Type 0} → List A → Bool
is_empty [] = true
is_empty (x ∷ xs) = false

none_first : {A : Type 0} (xs : List A) → is_none (first_of_list xs) ≡ is_empty xs
none_first [] = refl
none_first (x ∷ xs) = refl

empty_append : {A : Type 0} (xs ys : List A) → is_empty (xs ++ ys) ≡ (is_empty xs && is_empty ys)
empty_append [] ys = refl
empty_append (x ∷ xs) ys = refl

empty_flat : {A B : Type 0} (f : A → List B) (xs : List A) → is_empty (flat f xs) ≡ list_all (λ x. is_empty (f x)) xs
empty_flat f [] = refl
empty_flat f (x ∷ xs) = empty_append (f x) (flat f xs) ∙ ap (λ b. is_empty (f x) && b) (empty_flat f xs)

empty_unless : (b : Bool) (rule : LineRule) → is_empty (unless b rule) ≡ b
empty_unless true rule = refl
empty_unless false rule = refl

pub all_same : {A : Type 0} (p q : A → Bool) → ((x : A) → p x ≡ q x) → (xs : List A) → list_all p xs ≡ list_all q xs
all_same p q same [] = refl
all_same p q same (x ∷ xs) = ap₂ (λ a b. a && b) (same x) (all_same p q same xs)

and_turned : (a b c d : Bool) → ((a && b) && (c && d)) ≡ ((a && c) && (b && d))
and_turned true true true d = refl
and_turned true true false d = refl
and_turned true false true d = refl
and_turned true false false d = refl
and_turned false b true d = refl
and_turned false b false d = refl

pub all_both : {A : Type 0} (p q : A → Bool) (xs : List A) → list_all (λ x. p x && q x) xs ≡ (list_all p xs && list_all q xs)
all_both p q [] = refl
all_both p q (x ∷ xs) = ap (λ b. (p x && q x) && b) (all_both p q xs) ∙ and_turned (p x) (q x) (list_all p xs) (list_all q xs)

pub all_numbered : {A : Type 0} (p : A → Bool) (k : ℕ) (xs : List A) → list_all (λ x. p x.1) (enumerate_from k xs) ≡ list_all p xs
all_numbered p k [] = refl
all_numbered p k (x ∷ xs) = ap (λ b. p x && b) (all_numbered p (k + 1) xs)

-- ---- the rules at a feature

abbrev pub feature_kept : List Feature → List Bool → ℕ × Feature → Bool
feature_kept fs w f = child_kept w f && mandatory_kept w f && or_kept fs w f && alternative_kept fs w f

abbrev groups_kept : List Feature → List Bool → ℕ × Feature → Bool
groups_kept fs w f = implies (holds_at w f.0) (or_group_kept w (children is_or fs f.0) && alternative_group_kept w (children is_alternative fs f.0))

implied_both : (a b c : Bool) → implies a (b && c) ≡ (implies a b && implies a c)
implied_both true b c = refl
implied_both false b c = refl

feature_empty : (fs : List Feature) (w : List Bool) (f : ℕ × Feature) → is_empty (feature_breaks fs w f) ≡ feature_kept fs w f
feature_empty fs w f =
    empty_append (unless (child_kept w f) (Child f.0) ++ unless (mandatory_kept w f) (Mandatory f.0) ++ unless (or_kept fs w f) (OrGroup f.0)) (unless (alternative_kept fs w f) (Alternative f.0))
    ∙ ap₂ (λ a b. a && b)
    (empty_append (unless (child_kept w f) (Child f.0) ++ unless (mandatory_kept w f) (Mandatory f.0)) (unless (or_kept fs w f) (OrGroup f.0))
    ∙ ap₂ (λ a b. a && b)
    (empty_append (unless (child_kept w f) (Child f.0)) (unless (mandatory_kept w f) (Mandatory f.0))
    ∙ ap₂ (λ a b. a && b) (empty_unless (child_kept w f) (Child f.0)) (empty_unless (mandatory_kept w f) (Mandatory f.0)))
    (empty_unless (or_kept fs w f) (OrGroup f.0)))
    (empty_unless (alternative_kept fs w f) (Alternative f.0))

and_assoc : (a b c : Bool) → ((a && b) && c) ≡ (a && (b && c))
and_assoc true b c = refl
and_assoc false b c = refl

all_features : (fs : List Feature) (w : List Bool) (xs : List (ℕ × Feature))
    → list_all (feature_kept fs w) xs ≡ (list_all (child_kept w) xs && list_all (mandatory_kept w) xs && list_all (groups_kept fs w) xs)
all_features fs w xs =
    all_both (λ f. child_kept w f && mandatory_kept w f && or_kept fs w f) (alternative_kept fs w) xs
    ∙ ap (λ b. b && list_all (alternative_kept fs w) xs) (all_both (λ f. child_kept w f && mandatory_kept w f) (or_kept fs w) xs)
    ∙ and_assoc (list_all (λ f. child_kept w f && mandatory_kept w f) xs) (list_all (or_kept fs w) xs) (list_all (alternative_kept fs w) xs)
    ∙ ap₂ (λ a b. a && b) (all_both (child_kept w) (mandatory_kept w) xs)
    (sym (all_both (or_kept fs w) (alternative_kept fs w) xs)
    ∙ sym (all_same (groups_kept fs w) (λ f. or_kept fs w f && alternative_kept fs w f)
    (λ f. implied_both (holds_at w f.0) (or_group_kept w (children is_or fs f.0)) (alternative_group_kept w (children is_alternative fs f.0))) xs))

five : (a b c d e : Bool) → (a && (b && c && d) && e) ≡ (((a && b) && c && d) && e)
five true b c d e = refl
five false b c d e = refl

-- a world of the right length is valid where the first feature is true, the rules of each feature are kept and the constraints are true
pub valid_is : (line : Line) (w : List Bool) → length w ≡ length line.features
    → is_valid line w ≡ (holds_at w 0 && list_all (feature_kept line.features w) (numbered line.features) && list_all (λ e. truth e w) line.constraints)
unfolding is_valid
valid_is line w many =
    let same : (length w == length line.features) ≡ true = grind (arith, nat_tests) in
    rw same (sym (ap (λ b. holds_at w 0 && b && list_all (λ e. truth e w) line.constraints) (all_features line.features w (numbered line.features))
    ∙ five (holds_at w 0) (list_all (child_kept w) (numbered line.features)) (list_all (mandatory_kept w) (numbered line.features))
    (list_all (groups_kept line.features w) (numbered line.features)) (list_all (λ e. truth e w) line.constraints)))

no_breaks : (line : Line) (w : List Bool)
    → is_empty (breaks line w) ≡ (holds_at w 0 && list_all (feature_kept line.features w) (numbered line.features) && list_all (λ e. truth e w) line.constraints)
no_breaks line w =
    empty_append (unless (holds_at w 0) Root ++ flat (feature_breaks line.features w) (numbered line.features)) (flat (constraint_breaks w) (numbered line.constraints))
    ∙ ap₂ (λ a b. a && b)
    (empty_append (unless (holds_at w 0) Root) (flat (feature_breaks line.features w) (numbered line.features))
    ∙ ap₂ (λ a b. a && b) (empty_unless (holds_at w 0) Root)
    (empty_flat (feature_breaks line.features w) (numbered line.features)
    ∙ all_same (λ f. is_empty (feature_breaks line.features w f)) (feature_kept line.features w) (feature_empty line.features w) (numbered line.features)))
    (empty_flat (constraint_breaks w) (numbered line.constraints)
    ∙ all_same (λ e. is_empty (constraint_breaks w e)) (λ e. truth e.1 w) (λ e. empty_unless (truth e.1 w) (Constraint e.0)) (numbered line.constraints)
    ∙ all_numbered (λ e. truth e w) 0 line.constraints)

-- a rule is told exactly where the world isn't valid
pub valid_told : (line : Line) (w : List Bool) (r : Result (Unit {0}) LineRule) → length w ≡ length line.features
    → told_rule r ≡ first_of_list (breaks line w) → is_ok r ≡ is_valid line w
valid_told line w r many told = ok_is r ∙ (ap is_none told ∙ (none_first (breaks line w) ∙ (no_breaks line w ∙ sym (valid_is line w many))))
  where
    ok_is : (r : Result (Unit {0}) LineRule) → is_ok r ≡ is_none (told_rule r)
    ok_is (Ok done) = refl
    ok_is (Err rule) = refl

-- ---- a walk over the features

walk_step : (fs : List Feature) (w : List Bool) (i : ℕ) (f : Feature) → slice_get fs i ≡ Some f
    → flat (feature_breaks fs w) (enumerate_from i (drop i fs)) ≡ feature_breaks fs w (i, f) ++ flat (feature_breaks fs w) (enumerate_from (i + 1) (drop (i + 1) fs))
walk_step fs w i f is =
    let below = slice_get_within fs i f is in
    ap (λ xs. flat (feature_breaks fs w) (enumerate_from i xs)) (drop_more fs i f below ∙ ap (λ x. x ∷ drop (i + 1) fs) (get_or_from_slice_get fs i f f is))

nothing_before : (xs ys : List LineRule) → None ≡ first_of_list xs → first_of_list (xs ++ ys) ≡ first_of_list ys
nothing_before [] ys e = refl
nothing_before (x ∷ xs) ys e = absurd cc

first_before : (xs ys : List LineRule) (r : LineRule) → Some r ≡ first_of_list xs → Some r ≡ first_of_list (xs ++ ys)
first_before [] ys r e = absurd cc
first_before (x ∷ xs) ys r e = e

-- a feature without a broken rule is passed
pub walk_passes : (fs : List Feature) (w : List Bool) (i : ℕ) (f : Feature) → slice_get fs i ≡ Some f → None ≡ first_of_list (feature_breaks fs w (i, f))
    → first_of_list (flat (feature_breaks fs w) (enumerate_from (i + 1) (drop (i + 1) fs))) ≡ first_of_list (flat (feature_breaks fs w) (enumerate_from i (drop i fs)))
walk_passes fs w i f is none = sym (ap first_of_list (walk_step fs w i f is) ∙ nothing_before (feature_breaks fs w (i, f)) _ none)

-- the first rule that a feature breaks is told
pub walk_stops : (fs : List Feature) (w : List Bool) (i : ℕ) (f : Feature) (r : LineRule) → slice_get fs i ≡ Some f → Some r ≡ first_of_list (feature_breaks fs w (i, f))
    → Some r ≡ first_of_list (flat (feature_breaks fs w) (enumerate_from i (drop i fs)))
walk_stops fs w i f r is told = first_before (feature_breaks fs w (i, f)) _ r told ∙ ap first_of_list (sym (walk_step fs w i f is))
