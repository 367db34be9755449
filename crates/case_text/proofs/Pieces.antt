-- Lists of texts, of targets and of numbered nodes, one element after another.
use Rattle.std.proofs.Common.{◌≡◌, ℕ, zero, suc, ◌+◌, ◌<◌, Bool, true, false, List, [], ◌∷◌, ◌++◌, Some, map, length, get_or, take, refl, sym, ap, ◌∙◌, arith}
use Rattle.std.specs.Prelude.{filter, if◌then◌else◌}
use Rattle.std.specs.List.{slice_get, enumerate_from}
use Rattle.std.proofs.lemmas.List.{append_assoc}
use Rattle.meaning.specs.Texts.{flat, spaced, holds_at}
use Rattle.meaning.specs.Cases as plain
use Rattle.gsn.specs.declared.case.CRel.{CRel}
use Rattle.case_text.specs.Parts.{goes_from, targets_of}

pub append_none : {A : Type 0} (xs : List A) → xs ++ [] ≡ xs
append_none [] = refl
append_none (x ∷ xs) = ap (λ ys. x ∷ ys) (append_none xs)

pub spaced_more : (xs : List (List ℕ)) (x : List ℕ) → spaced (xs ++ x ∷ []) ≡ spaced xs ++ 32 ∷ x
spaced_more [] x = append_none (32 ∷ x)
spaced_more (y ∷ ys) x = ap (λ zs. (32 ∷ y) ++ zs) (spaced_more ys x) ∙ sym (append_assoc (32 ∷ y) (spaced ys) (32 ∷ x))

-- ---- what a numbered list gives

pub flat_more : {A : Type 0} (f : ℕ × A → List ℕ) (xs : List A) (n k i : ℕ) (x : A) → i ≡ n + k → slice_get xs k ≡ Some x
    → flat f (enumerate_from n (take (suc k) xs)) ≡ flat f (enumerate_from n (take k xs)) ++ f (i, x)
flat_more f [] n k i x e at = cc
flat_more f (y ∷ ys) n zero i x e at =
    let s : n ≡ i = omega (arith, e) in
    let t : y ≡ x = cc in
    append_none (f (n, y)) ∙ (ap (λ j. f (j, y)) s ∙ ap (λ z. f (i, z)) t)
flat_more f (y ∷ ys) n (suc k) i x e at =
    ap (λ zs. f (n, y) ++ zs) (flat_more f ys (n + 1) k i x (omega (arith, e)) at)
    ∙ sym (append_assoc (f (n, y)) (flat f (enumerate_from (n + 1) (take k ys))) (f (i, x)))

-- the names of the true features, from a number on
abbrev pub names_from : List Bool → ℕ → List (List ℕ) → List ℕ
names_from w n fs = spaced (map (λ f. f.1) (filter (λ f. holds_at w f.0) (enumerate_from n fs)))

pub names_more : (w : List Bool) (fs : List (List ℕ)) (n k i : ℕ) (x : List ℕ) → i ≡ n + k → slice_get fs k ≡ Some x
    → names_from w n (take (suc k) fs) ≡ names_from w n (take k fs) ++ (if holds_at w i then 32 ∷ x else [])
names_more w [] n k i x e at = cc
names_more w (y ∷ ys) n zero i x e at =
    let s : n ≡ i = omega (arith, e) in
    let t : y ≡ x = cc in
    go (holds_at w n) ∙ (ap (λ j. if holds_at w j then 32 ∷ y else []) s ∙ ap (λ z. if holds_at w i then 32 ∷ z else []) t)
  where
    go : (b : Bool) → spaced (map (λ (f : ℕ × List ℕ). f.1) (if b then (n, y) ∷ [] else [])) ≡ (if b then 32 ∷ y else [])
    go true = append_none (32 ∷ y)
    go false = refl
names_more w (y ∷ ys) n (suc k) i x e at =
    go (holds_at w n) (filter (λ f. holds_at w f.0) (enumerate_from (n + 1) (take (suc k) ys))) (filter (λ f. holds_at w f.0) (enumerate_from (n + 1) (take k ys)))
    (names_more w ys (n + 1) k i x (omega (arith, e)) at)
  where
    go : (b : Bool) (more less : List (ℕ × List ℕ)) → spaced (map (λ f. f.1) more) ≡ spaced (map (λ f. f.1) less) ++ (if holds_at w i then 32 ∷ x else [])
        → spaced (map (λ f. f.1) (if b then (n, y) ∷ more else more)) ≡ spaced (map (λ f. f.1) (if b then (n, y) ∷ less else less)) ++ (if holds_at w i then 32 ∷ x else [])
    go true more less h =
        ap (λ zs. (32 ∷ y) ++ zs) h ∙ sym (append_assoc (32 ∷ y) (spaced (map (λ f. f.1) less)) (if holds_at w i then 32 ∷ x else []))
    go false more less h = h

-- ---- targets

pub targets_more : (kind : plain.RelationKind) (x : ℕ) (rs : List CRel) (k : ℕ) (d : CRel) → k < length rs
    → targets_of kind x (take (suc k) rs) ≡ targets_of kind x (take k rs) ++ (if goes_from kind x (get_or rs k d) then (get_or rs k d).to ∷ [] else [])
targets_more kind x [] k d l = absurd (omega (arith, l))
targets_more kind x (r ∷ rs) zero d l = go (goes_from kind x r)
  where
    go : (b : Bool) → map (λ (s : CRel). s.to) (if b then r ∷ [] else []) ≡ (if b then r.to ∷ [] else [])
    go true = refl
    go false = refl
targets_more kind x (r ∷ rs) (suc k) d l =
    go (goes_from kind x r) (filter (goes_from kind x) (take (suc k) rs)) (filter (goes_from kind x) (take k rs)) (targets_more kind x rs k d (omega (arith, l)))
  where
    go : (b : Bool) (more less : List CRel) → map (λ s. s.to) more ≡ map (λ s. s.to) less ++ (if goes_from kind x (get_or rs k d) then (get_or rs k d).to ∷ [] else [])
        → map (λ s. s.to) (if b then r ∷ more else more) ≡ map (λ s. s.to) (if b then r ∷ less else less) ++ (if goes_from kind x (get_or rs k d) then (get_or rs k d).to ∷ [] else [])
    go true more less h = ap (λ ys. r.to ∷ ys) h
    go false more less h = h

-- each target of a relation is a node
pub targets_in : (kind : plain.RelationKind) (x n : ℕ) (rs : List CRel) → ((k : ℕ) (d : CRel) → k < length rs → (get_or rs k d).to < n)
    → (k : ℕ) (d : ℕ) → k < length (targets_of kind x rs) → get_or (targets_of kind x rs) k d < n
targets_in kind x n [] h = λ k d l. absurd (omega (arith, l))
targets_in kind x n (r ∷ rs) h = go (goes_from kind x r) (filter (goes_from kind x) rs) (targets_in kind x n rs (λ k d l. h (suc k) d (omega (arith, l))))
  where
    go : (b : Bool) (rest : List CRel) → ((k : ℕ) (d : ℕ) → k < length (map (λ s. s.to) rest) → get_or (map (λ s. s.to) rest) k d < n)
        → (k : ℕ) (d : ℕ) → k < length (map (λ s. s.to) (if b then r ∷ rest else rest)) → get_or (map (λ s. s.to) (if b then r ∷ rest else rest)) k d < n
    go true rest t zero d l = h 0 r (omega arith)
    go true rest t (suc k) d l = t k d (omega (arith, l))
    go false rest t k d l = t k d l

pub none_at : (xs : List (List ℕ)) → ((x : ℕ) → get_or xs x [] ≡ []) → (x : ℕ) → get_or (xs ++ [] ∷ []) x [] ≡ []
none_at [] h zero = refl
none_at [] h (suc x) = refl
none_at (y ∷ ys) h zero = h 0
none_at (y ∷ ys) h (suc x) = none_at ys (λ z. h (suc z)) x
