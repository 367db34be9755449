-- Choosing from all typed tuples those that answer gives the answers, in their order.
use Rattle.std.proofs.Common.{◌≡◌, ◌≢◌, ℕ, List, [], ◌∷◌, Bool, true, false, ◌&&◌, ◌||◌, refl, sym, ap, ◌∙◌}
use Rattle.std.specs.Prelude.{cond, filter}
use Rattle.std.specs.List.{list_any}
use Rattle.meaning.specs.Models.{Model, model_at}
use Rattle.meaning.specs.Queries.{Query, answers, tuples}
use Rattle.meaning.specs.Tidy.{Among, none, taken, passed, whole_model, is_before, same_tuple}
use Rattle.meaning.proofs.CutTrees.{Each}
use Rattle.meaning.proofs.EachMembers.{each_by}
use Rattle.meaning.proofs.Pairs.{Pairwise, pairs_by}
use Rattle.lifting.proofs.AmongLists.{among_each}
use Rattle.meaning.proofs.AscendingTuples.{tuples_ascend, whole_ascends, before_differ}
use Rattle.lifting.proofs.KeysAmong.{answers_among}
use Rattle.meaning.proofs.EqualityTests.{same_text, other_text}

-- ---- some of many that differ

abbrev is_one_of : List (List ℕ) → List ℕ → Bool
is_one_of xs x = list_any (same_tuple x) xs

none_of_these : (x : List ℕ) (xs : List (List ℕ)) → Each (λ y. x ≢ y) xs → is_one_of xs x ≡ false
none_of_these x [] h = refl
none_of_these x (y ∷ xs) h = ap (λ b. b || is_one_of xs x) (other_text x y h.0) ∙ none_of_these x xs h.1

filter_same : {A : Type 0} (p q : A → Bool) (xs : List A) → Each (λ x. p x ≡ q x) xs → filter p xs ≡ filter q xs
filter_same p q [] h = refl
filter_same p q (x ∷ xs) h = ap (λ b. cond b (x ∷ filter p xs) (filter p xs)) h.0 ∙ ap (λ ys. cond (q x) (x ∷ ys) ys) (filter_same p q xs h.1)

pub chosen : {xs ys : List (List ℕ)} → Among xs ys → Pairwise (λ a b. a ≢ b) ys → filter (is_one_of xs) ys ≡ xs
chosen none d = refl
chosen (taken {x = x} {xs = xs} {ys = ys} a) d =
    ap (λ b. cond (b || is_one_of xs x) (x ∷ filter (is_one_of (x ∷ xs)) ys) (filter (is_one_of (x ∷ xs)) ys)) (same_text x)
    ∙ ap (λ zs. x ∷ zs)
    (filter_same (is_one_of (x ∷ xs)) (is_one_of xs) ys (each_by (λ y. x ≢ y) _ (λ y e. ap (λ b. b || is_one_of xs y) (other_text y x (λ f. e (sym f)))) ys d.0)
    ∙ chosen a d.1)
chosen (passed {y = y} {xs = xs} {ys = ys} a) d =
    ap (λ b. cond b (y ∷ filter (is_one_of xs) ys) (filter (is_one_of xs) ys)) (none_of_these y xs (among_each (λ x. y ≢ x) a d.0)) ∙ chosen a d.1

-- ---- the tuples that answer, under a condition

none_kept : {A : Type 0} (xs : List A) → filter (λ x. false) xs ≡ []
none_kept [] = refl
none_kept (x ∷ xs) = none_kept xs

pub those_that_answer : (m : Model) (w : List Bool) (q : Query) (bound : List ℕ) (u : Bool)
    → filter (λ tuple. u && list_any (same_tuple tuple) (answers (model_at m w) q bound)) (tuples (whole_model m) q.variables) ≡ cond u (answers (model_at m w) q bound) []
those_that_answer m w q bound true =
    chosen (answers_among m w q bound)
    (pairs_by is_before (λ a b. a ≢ b) before_differ (tuples (whole_model m) q.variables) (tuples_ascend (whole_model m) (whole_ascends m) q.variables))
those_that_answer m w q bound false = none_kept (tuples (whole_model m) q.variables)
