-- Names that are new among all of a list are those that stand in none before them.
use Rattle.std.proofs.Common.{◌≡◌, refl, sym, ap, ◌∙◌, ℕ, ◌+◌, List, [], ◌∷◌, ◌++◌, length, take, Bool, false, not, ◌&&◌, ◌||◌, append_assoc, length-append, arith}
use Rattle.std.specs.Prelude.{bytes_eq}
use Rattle.std.specs.List.{list_all, enumerate_from}
use Rattle.std.proofs.lemmas.Grind.{common_steps}
use Rattle.meaning.specs.Texts.{numbered}
use Rattle.meaning.specs.BundlePlaces.{is_among, are_new}
use Rattle.meaning.specs.ModelRules.{is_new_name}

take_all_before : (before after : List (List ℕ)) → take (length before) (before ++ after) ≡ before
take_all_before [] after = refl
take_all_before (x ∷ xs) after = ap (λ ys. x ∷ ys) (take_all_before xs after)

among_both : (xs ys : List (List ℕ)) (s : List ℕ) → is_among (xs ++ ys) s ≡ (is_among xs s || is_among ys s)
among_both [] ys s = refl
among_both (x ∷ xs) ys s = ap (λ b. bytes_eq s x || b) (among_both xs ys s) ∙ joined (bytes_eq s x) (is_among xs s) (is_among ys s)
  where
    joined : (a b c : Bool) → (a || (b || c)) ≡ ((a || b) || c)
    joined a b c = grind (arith, common_steps)

-- one more before, at the end and in front
pub one_more_before : (before seen : List (List ℕ)) (x : List ℕ) → ((s : List ℕ) → is_among seen s ≡ is_among before s)
    → (s : List ℕ) → is_among (x ∷ seen) s ≡ is_among (before ++ x ∷ []) s
one_more_before before seen x h s =
    ap (λ b. bytes_eq s x || b) (h s) ∙ turned (bytes_eq s x) (is_among before s) ∙ sym (among_both before (x ∷ []) s)
  where
    turned : (a b : Bool) → (a || b) ≡ (b || (a || false))
    turned a b = grind (arith, common_steps)

new_from : (names before seen rest : List (List ℕ)) (k : ℕ) → names ≡ before ++ rest → k ≡ length before
    → ((s : List ℕ) → is_among seen s ≡ is_among before s)
    → list_all (λ x. is_new_name names x.0 x.1) (enumerate_from k rest) ≡ are_new seen rest
new_from names before seen [] k e l h = refl
new_from names before seen (x ∷ xs) k e l h =
    let earlier : take k names ≡ before = ap (λ n. take n names) l ∙ ap (take (length before)) e ∙ take_all_before before (x ∷ xs) in
    let here : is_new_name names k x ≡ not (is_among seen x) = ap (λ ys. not (is_among ys x)) earlier ∙ ap not (sym (h x)) in
    let all : names ≡ (before ++ x ∷ []) ++ xs = e ∙ sym (append_assoc before (x ∷ []) xs) in
    let count : k + 1 ≡ length (before ++ x ∷ []) = ap (λ n. n + 1) l ∙ sym (length-append before (x ∷ [])) in
    ap (λ b. b && list_all (λ x. is_new_name names x.0 x.1) (enumerate_from (k + 1) xs)) here
    ∙ ap (λ b. not (is_among seen x) && b) (new_from names (before ++ x ∷ []) (x ∷ seen) xs (k + 1) all count (one_more_before before seen x h))

pub new_names : (names : List (List ℕ)) → list_all (λ x. is_new_name names x.0 x.1) (numbered names) ≡ are_new [] names
new_names names = new_from names [] [] names 0 refl refl (λ s. refl)
