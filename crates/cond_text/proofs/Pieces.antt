-- The pieces of a text: runs of word bytes, and signs.
use Rattle.std.proofs.Common.{◌≡◌, ap, refl, ℕ, suc, ◌+◌, List, [], ◌∷◌, ◌++◌, take, drop, Bool, true, false, ◌&&◌, arith}
use Rattle.std.specs.Prelude.{◌==◌, cond, if◌then◌else◌}
use Rattle.std.specs.List.{list_all, prefix_len}
use Rattle.meaning.specs.Texts.{is_word_byte}
use Rattle.meaning.specs.Expressions.{Piece, run, blank, exclamation, ampersand, pipe, equals, less, greater, opening, closing, strange, sign_of, longer_run, pieces_of}

-- what holds of a sign, for each byte that it may be
pub sign_cases : (P : Piece → Type 0) (c : ℕ) → ((c == 32) ≡ true → P blank) → ((c == 33) ≡ true → P exclamation) → ((c == 38) ≡ true → P ampersand)
    → ((c == 124) ≡ true → P pipe) → ((c == 61) ≡ true → P equals) → ((c == 60) ≡ true → P less) → ((c == 62) ≡ true → P greater)
    → ((c == 40) ≡ true → P opening) → ((c == 41) ≡ true → P closing) → P strange → P (sign_of c)
sign_cases P c h32 h33 h38 h124 h61 h60 h62 h40 h41 other =
    go (c == 32) (c == 33) (c == 38) (c == 124) (c == 61) (c == 60) (c == 62) (c == 40) (c == 41) refl refl refl refl refl refl refl refl refl
  where
    go : (b32 b33 b38 b124 b61 b60 b62 b40 b41 : Bool) → (c == 32) ≡ b32 → (c == 33) ≡ b33 → (c == 38) ≡ b38 → (c == 124) ≡ b124 → (c == 61) ≡ b61 → (c == 60) ≡ b60
        → (c == 62) ≡ b62 → (c == 40) ≡ b40 → (c == 41) ≡ b41
        → P (if b32 then blank else (if b33 then exclamation else (if b38 then ampersand else (if b124 then pipe else (if b61 then equals
        else (if b60 then less else (if b62 then greater else (if b40 then opening else (if b41 then closing else strange)))))))))
    go true b33 b38 b124 b61 b60 b62 b40 b41 e32 e33 e38 e124 e61 e60 e62 e40 e41 = h32 e32
    go false true b38 b124 b61 b60 b62 b40 b41 e32 e33 e38 e124 e61 e60 e62 e40 e41 = h33 e33
    go false false true b124 b61 b60 b62 b40 b41 e32 e33 e38 e124 e61 e60 e62 e40 e41 = h38 e38
    go false false false true b61 b60 b62 b40 b41 e32 e33 e38 e124 e61 e60 e62 e40 e41 = h124 e124
    go false false false false true b60 b62 b40 b41 e32 e33 e38 e124 e61 e60 e62 e40 e41 = h61 e61
    go false false false false false true b62 b40 b41 e32 e33 e38 e124 e61 e60 e62 e40 e41 = h60 e60
    go false false false false false false true b40 b41 e32 e33 e38 e124 e61 e60 e62 e40 e41 = h62 e62
    go false false false false false false false true b41 e32 e33 e38 e124 e61 e60 e62 e40 e41 = h40 e40
    go false false false false false false false false true e32 e33 e38 e124 e61 e60 e62 e40 e41 = h41 e41
    go false false false false false false false false false e32 e33 e38 e124 e61 e60 e62 e40 e41 = other

-- what a byte of a run begins
pub longer : (c : ℕ) (ps : List Piece) → (w : List ℕ) × (qs : List Piece) × (longer_run c ps ≡ run (c ∷ w) ∷ qs)
longer c (run w ∷ ps) = (w, ps, refl)
longer c ps = ([], ps, refl)

-- the list begins with a byte of a word
abbrev pub goes_on_word : List ℕ → Bool
goes_on_word [] = false
goes_on_word (c ∷ cs) = is_word_byte c

pub both_true : (a b : Bool) → a && b ≡ true → (a ≡ true) × (b ≡ true)
both_true true b e = (refl, e)
both_true false b e = absurd cc

-- a run in front of what is no word is a piece of its own
pub run_pieces : (c : ℕ) (w rest : List ℕ) → list_all is_word_byte (c ∷ w) ≡ true → goes_on_word rest ≡ false
    → pieces_of ((c ∷ w) ++ rest) ≡ run (c ∷ w) ∷ pieces_of rest
run_pieces c [] rest all ends = rw (first_of all) (alone rest ends)
  where
    first_of : is_word_byte c && true ≡ true → is_word_byte c ≡ true
    first_of e = (both_true (is_word_byte c) true e).0

    alone : (rest : List ℕ) → goes_on_word rest ≡ false → longer_run c (pieces_of rest) ≡ run (c ∷ []) ∷ pieces_of rest
    alone [] ends = refl
    alone (d ∷ ds) ends =
        rw ends (sign_cases (λ p. longer_run c (p ∷ pieces_of ds) ≡ run (c ∷ []) ∷ p ∷ pieces_of ds) d
        (λ h. refl) (λ h. refl) (λ h. refl) (λ h. refl) (λ h. refl) (λ h. refl) (λ h. refl) (λ h. refl) (λ h. refl) refl)
run_pieces c (d ∷ w) rest all ends =
    let both = both_true (is_word_byte c) (list_all is_word_byte (d ∷ w)) all in
    rw both.0 (ap (longer_run c) (run_pieces d w rest both.1 ends))

-- the word bytes at the front, and what follows them
pub front_passes : (s : List ℕ) → (list_all is_word_byte (take (prefix_len is_word_byte s) s) ≡ true) × (goes_on_word (drop (prefix_len is_word_byte s) s) ≡ false)
front_passes [] = (refl, refl)
front_passes (c ∷ cs) = go (is_word_byte c) refl (front_passes cs)
  where
    go : (b : Bool) → is_word_byte c ≡ b → (list_all is_word_byte (take (prefix_len is_word_byte cs) cs) ≡ true) × (goes_on_word (drop (prefix_len is_word_byte cs) cs) ≡ false)
        → (list_all is_word_byte (take (cond b (1 + prefix_len is_word_byte cs) 0) (c ∷ cs)) ≡ true)
        × (goes_on_word (drop (cond b (1 + prefix_len is_word_byte cs) 0) (c ∷ cs)) ≡ false)
    go true is later =
        let f : 1 + prefix_len is_word_byte cs ≡ suc (prefix_len is_word_byte cs) = omega arith in
        (rw f (rw is later.0), rw f later.1)
    go false is later = (refl, is)
