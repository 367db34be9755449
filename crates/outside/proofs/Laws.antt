-- Laws of counts and pieces.
use Rattle.std.proofs.Common.{◌≡◌, ◌≤◌, ◌+◌, ◌-◌, ◌++◌, ℕ, List, length, take, drop, min, refl, sym, ap, ◌∙◌, [], zero-le, append_assoc, append-nil, Option, Some, None, arith, length-append, length-take, length-drop}
use Rattle.std.proofs.lemmas.List.{take_all}
use Rattle.std.proofs.Math.Seq.{take-add}
use Rattle.meaning.specs.Counts.{counted, Rose, RoseBy, NoFewer, appended}
use Rattle.outside.specs.Pieces.{IsPart, IsFront}

pub NoFewer-refl : (f : List ℕ → ℕ) → NoFewer f f
NoFewer-refl f = record { at = λ name. omega arith }

pub NoFewer-trans : (f g h : List ℕ → ℕ) → NoFewer f g → NoFewer g h → NoFewer f h
NoFewer-trans f g h a b = record { at = λ name. omega (arith, a.at name, b.at name) }

pub NoFewer-same : (a b : ℕ) → a ≤ b → NoFewer (λ _. a) (λ _. b)
NoFewer-same a b h = record { at = λ _. h }

pub Rose-later : (a b c : ℕ) → a ≤ b → Rose b c → Rose a c
Rose-later a b c h r = record { is = grind (arith, r.is) }

pub RoseBy-none : (a : ℕ) → RoseBy a a 0
RoseBy-none a = record { is = grind arith }

pub RoseBy-counted : (a b k n : ℕ) → RoseBy a b k → RoseBy a (counted b n) (k + n)
RoseBy-counted a b k n r = record { is = grind (arith, r.is) }

pub IsFront-none : (file : List ℕ) → IsFront file []
IsFront-none file = record { fits = zero-le; same = refl }

piece_length : (file bytes buf : List ℕ) (n : ℕ) → IsPart file (length bytes) n buf → n ≤ length buf
    → min n (length file - length bytes) ≡ n
piece_length file bytes buf n p h =
    let e = simp (length-take, length-drop) at (ap length p.bytes) in omega (arith, e)

pub IsFront-more : (file bytes buf : List ℕ) (n : ℕ) → IsFront file bytes → IsPart file (length bytes) n buf → n ≤ length buf
    → IsFront file (bytes ++ take n buf)
IsFront-more file bytes buf n f p h =
    let k = piece_length file bytes buf n p h in
    let l : length (bytes ++ take n buf) ≡ length bytes + n = simp (length-append, length-take) (omega arith) in
    record {
      fits = omega (arith, f.fits);
      same = ap (λ b. b ++ take n buf) f.same ∙ ap (λ b. take (length bytes) file ++ b) p.bytes ∙ sym (take-add (length bytes) n file) ∙ ap (λ m. take m file) (sym l);
    }

-- the same, for what a reader has
pub IsFront-read : (file bytes buf more new : List ℕ) (m n : ℕ) → IsFront file bytes → IsPart file m n buf → m ≡ length bytes
    → n ≤ length buf → more ≡ take n buf → new ≡ bytes ++ more → IsFront file new
IsFront-read file bytes buf more new m n f p e h at_more at_new =
    rw (at_new, at_more) (IsFront-more file bytes buf n f (rw e at p) h)

pub IsFront-whole : (file bytes : List ℕ) → IsFront file bytes → length file ≤ length bytes → bytes ≡ file
IsFront-whole file bytes f h = f.same ∙ take_all (length bytes) file h

pub appended-none : (known : Option (List ℕ)) → appended known [] ≡ known
appended-none None = refl
appended-none (Some bytes) = ap Some (append-nil bytes)

pub appended-take : (known : Option (List ℕ)) (bytes : List ℕ) (d n : ℕ)
    → appended (appended known (take d bytes)) (take n (drop d bytes)) ≡ appended known (take (d + n) bytes)
appended-take None bytes d n = refl
appended-take (Some b) bytes d n = ap Some (append_assoc b (take d bytes) (take n (drop d bytes)) ∙ ap (λ m. b ++ m) (sym (take-add d n bytes)))

pub ruleset write_laws = (appended-none, appended-take, Rose-later)

pub ruleset read_laws = (NoFewer-refl, NoFewer-trans, Rose-later, RoseBy-none, RoseBy-counted, IsFront-none, IsFront-whole)

pub ruleset count_laws = (NoFewer-same, NoFewer-refl)
