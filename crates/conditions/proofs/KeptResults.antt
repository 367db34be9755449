-- Kept results in more slots.
use Rattle.std.proofs.Common.{◌≡◌, ◌≢◌, refl, sym, ap, ◌∙◌, subst, ℕ, ◌-◌, ◌<◌, ◌≤◌, List, ◌++◌, length, replicate, get_or, set, arith, ⊎_elim}
use Rattle.std.proofs.Math.ListN.{length-set, get_or-append}
use Rattle.std.proofs.lemmas.Bool.{cases_lt, cases_eq}
use Rattle.std.proofs.lemmas.List.{get_or-set_same, get_or-set_other, get_or-replicate, length-append, length-replicate}
use Rattle.std.proofs.Math.Seq.{get_or-append_right}
use Rattle.node_pool.specs.Regions.{Region}
use Rattle.conditions.specs.declared.applier.Kept.{Kept}
use Rattle.conditions.specs.Answers.{IsAnswer}
use Rattle.conditions.specs.Applier.{no_kept, AllTrue, EachFrom}

-- a result that is written into another slot too
pub each_from_set : (old now : List Kept) (i s : ℕ) → s < length now → i < length now → EachFrom old now → EachFrom old (set now i (get_or now s no_kept))
each_from_set old now i s s_in i_in from k k_in =
    ⊎_elim
    (λ (same : k ≡ i).
    let e : get_or (set now i (get_or now s no_kept)) k no_kept ≡ get_or now s no_kept = ap (λ j. get_or (set now i (get_or now s no_kept)) j no_kept) same ∙ get_or-set_same now i (get_or now s no_kept) no_kept i_in in
    let f = from s s_in in (f.0, f.1, e ∙ f.2))
    (λ (other : k ≢ i).
    let e : get_or (set now i (get_or now s no_kept)) k no_kept ≡ get_or now k no_kept = get_or-set_other now i k (get_or now s no_kept) no_kept other in
    let f = from k (let long = length-set now i (get_or now s no_kept) in omega (arith, long, k_in)) in (f.0, f.1, e ∙ f.2))
    (cases_eq k i)

-- what an unused slot has is true
pub blank_true : (r : Region) → IsAnswer r no_kept.question no_kept.answer
blank_true r = record { asked = omega arith; there = omega arith; top = omega arith; function = λ w. refl }

-- results that are true stay true with unused slots behind them, each in any slot
pub all_true_later : (r : Region) (old now : List Kept) (n : ℕ) → AllTrue r old → EachFrom (old ++ replicate n no_kept) now → AllTrue r now
all_true_later r old now n true_before from k k_in =
    let f = from k k_in in
    subst (λ e. IsAnswer r e.question e.answer) (sym f.2) (⊎_elim
    (λ (before : f.0 < length old).
    subst (λ e. IsAnswer r e.question e.answer) (sym (get_or-append old (replicate n no_kept) no_kept f.0 before)) (true_before f.0 before))
    (λ (after : length old ≤ f.0). subst (λ e. IsAnswer r e.question e.answer) (sym (behind f.0 after f.1)) (blank_true r))
    (cases_lt f.0 (length old)))
  where
    behind : (j : ℕ) → length old ≤ j → j < length (old ++ replicate n no_kept) → get_or (old ++ replicate n no_kept) j no_kept ≡ no_kept
    behind j after within =
        get_or-append_right old (replicate n no_kept) j no_kept after
        ∙ get_or-replicate n (j - length old) no_kept no_kept (let long = length-append old (replicate n no_kept) in let count = length-replicate n no_kept in omega (arith, within, long, count, after))
