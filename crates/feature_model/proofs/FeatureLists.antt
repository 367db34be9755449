-- Features by their names and places.
use Rattle.std.proofs.Common.{◌≡◌, refl, ap, ℕ, List, [], ◌∷◌, ◌++◌, length, map, arith}
use Rattle.feature_model.specs.declared.line.Placed.{Placed}
use Rattle.feature_model.specs.Line.{feature_with, features_with}

pub names_with : (names : List (List ℕ)) (ps : List Placed) → length ps ≡ length names → map (λ f. f.name) (features_with names ps) ≡ names
names_with [] ps e = refl
names_with (n ∷ ns) [] e = absurd (omega arith)
names_with (n ∷ ns) (p ∷ ps) e = ap (λ xs. n ∷ xs) (names_with ns ps (omega arith))

pub length_with : (names : List (List ℕ)) (ps : List Placed) → length ps ≡ length names → length (features_with names ps) ≡ length names
length_with [] ps e = refl
length_with (n ∷ ns) [] e = absurd (omega arith)
length_with (n ∷ ns) (p ∷ ps) e = let rest = length_with ns ps (omega arith) in omega arith

pub with_push : (names : List (List ℕ)) (ps : List Placed) (n : List ℕ) (p : Placed) → length ps ≡ length names
    → features_with (names ++ n ∷ []) (ps ++ p ∷ []) ≡ features_with names ps ++ feature_with n p ∷ []
with_push [] [] n p e = refl
with_push [] (q ∷ qs) n p e = absurd (omega arith)
with_push (m ∷ ms) [] n p e = absurd (omega arith)
with_push (m ∷ ms) (q ∷ qs) n p e = ap (λ xs. feature_with m q ∷ xs) (with_push ms qs n p (omega arith))
