-- The first item that passes a test, after one item more, and what it says of each number.
use Rattle.std.proofs.Common.{◌≡◌, ◌<◌, ◌+◌, ◌++◌, refl, sym, ap, ◌∙◌, ℕ, Bool, true, false, cond, List, [], ◌∷◌, map, length, get_or, set, take, Option, Some, None, replicate, arith}
use Rattle.std.specs.Prelude.{◌==◌, ◌&&◌, ◌||◌, not, find, option_map, is_none}
use Rattle.std.proofs.Math.Bool.{or-false, and-false}
use Rattle.std.proofs.lemmas.Bool.{eq-eqb}
use Rattle.std.proofs.lemmas.Bool.Decides.{nat_tests}
use Rattle.std.proofs.lemmas.List.{take_more}
use Rattle.meaning.specs.Texts.{numbers_from}
use Rattle.meaning.specs.Systems.{is_number}
use Rattle.invariant_check.proofs.FirstViolations.{set_numbers, or_else, find_append}
use Rattle.invariant_check.proofs.LeftStates.{all_alike}

-- the number, if the test is true
abbrev pub number_if : Bool → ℕ → Option ℕ
number_if true s = Some s
number_if false s = None

module _ {L : Type 0} (number : L → ℕ) (p : L → Bool) where
  abbrev pub first_of : List L → Option ℕ
  first_of ls = option_map number (find p ls)

  pub first_more : (ls : List L) (k : ℕ) (d : L) → k < length ls → d ≡ get_or ls k d → first_of (take (k + 1) ls) ≡ or_else (first_of (take k ls)) (number_if (p d) (number d))
  first_more ls k d below is =
      ap first_of (take_more ls k d below ∙ ap (λ l. take k ls ++ l ∷ []) (sym is))
      ∙ ap (option_map number) (find_append p (take k ls) (d ∷ []))
      ∙ joined (find p (take k ls)) (p d)
    where
      joined : (o : Option L) (b : Bool) → option_map number (or_else o (cond b (Some d) None)) ≡ or_else (option_map number o) (number_if b (number d))
      joined None true = refl
      joined None false = refl
      joined (Some l) b = refl

pub left_more : (u b : Bool) (o : Option ℕ) (s : ℕ) → ((u && is_none o) && not b) ≡ (u && is_none (or_else o (number_if b s)))
left_more false b o s = refl
left_more true b (Some m) s = refl
left_more true true None s = refl
left_more true false None s = refl

here_more : (u b : Bool) (o : Option ℕ) (s : ℕ) → ((u && is_number s o) || ((u && is_none o) && b)) ≡ (u && is_number s (or_else o (number_if b s)))
here_more false b o s = refl
here_more true b (Some m) s = or-false (m == s)
here_more true true None s = sym (eq-eqb s s refl)
here_more true false None s = refl

elsewhere : (u b : Bool) (o : Option ℕ) (s j : ℕ) → (j ≡ s → ⊥) → (u && is_number j o) ≡ (u && is_number j (or_else o (number_if b s)))
elsewhere u b (Some m) s j differ = refl
elsewhere u true None s j differ =
    let away : (s == j) ≡ false = grind (arith, nat_tests) in
    ap (λ c. u && c) (sym away)
elsewhere u false None s j differ = refl

-- of each number whether it is the first, after one item more
pub firsts_more : (u b : Bool) (o : Option ℕ) (s n : ℕ) (v : Bool) → s < n → v ≡ ((u && is_number s o) || ((u && is_none o) && b))
    → set (map (λ i. u && is_number i o) (numbers_from 0 n)) s v ≡ map (λ i. u && is_number i (or_else o (number_if b s))) (numbers_from 0 n)
firsts_more u b o s n v below is =
    set_numbers (λ i. u && is_number i o) (λ i. u && is_number i (or_else o (number_if b s))) 0 n s v
    (λ j differ. elsewhere u b o s j (λ e. (let first : 0 + s ≡ s = omega arith in differ (e ∙ sym first)))) below
    (let first : 0 + s ≡ s = omega arith in
    ap (λ i. u && is_number i (or_else o (number_if b s))) first ∙ sym (here_more u b o s) ∙ sym is)

-- without any item no number is the first
pub firsts_none : (u : Bool) (n : ℕ) → replicate n false ≡ map (λ i. u && is_number i None) (numbers_from 0 n)
firsts_none u n = ap (replicate n) (sym (and-false u)) ∙ all_alike (u && false) 0 n
