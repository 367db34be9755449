-- The reader of paths takes each phrase of the grammar, in front of tokens that go no further.
use Rattle.std.proofs.Common.{◌≡◌, ◌∙◌, ap, refl, ℕ, zero, suc, ◌+◌, ◌*◌, ◌≤◌, List, [], ◌∷◌, ◌++◌, length, append_assoc, length-append, Some, arith}
use Rattle.std.specs.Prelude.{option_map, option_and_then}
use Rattle.meaning.specs.Queries.{Path, Along, Against, Then, OneOf}
use Rattle.meaning.specs.QueryTexts.{Token, word, caret, open_paren, close_paren, close_bracket, bar, slash, plus, Parsed, closed, read_path, more_path, read_sequence, more_sequence, read_step, more_step, read_atom}
use Rattle.meaning.specs.QueryGrammar.{IsNameOf, IsPath, of_sequence, one_of, IsSequence, of_step, after, IsStep, of_atom, chain, IsAtom, forwards, backwards, grouped}

-- f answers p at each bound from k on
abbrev pub From : ℕ → (ℕ → Parsed) → Path × List Token → Type 0
From k f p = (n : ℕ) → k ≤ n → f n ≡ Some p

-- ---- one call, by the calls below it

from_next : (f : ℕ → Parsed) (p : Path × List Token) (k : ℕ) → From k (λ n. f (suc n)) p → From (suc k) f p
from_next f p k h zero above = absurd (omega arith)
from_next f p k h (suc n) above = h n (omega arith)

from_more : (f : ℕ → Parsed) (p : Path × List Token) (j k : ℕ) → j ≤ k → From j f p → From k f p
from_more f p j k j_le h n above = h n (omega arith)

-- `g` after `f`, one call up
from_then : (f : ℕ → Parsed) (g : ℕ → Path × List Token → Parsed) (j k : ℕ) (q p : Path × List Token) → From j f q → From k (λ n. g n q) p
    → From (j + k) (λ n. option_and_then (g n) (f n)) p
from_then f g j k q p first more n over = ap (option_and_then (g n)) (first n (omega arith)) ∙ more n (omega arith)

-- where a path stops: `more` goes no further
abbrev Stops : (ℕ → Path × List Token → Parsed) → List Token → Type 0
Stops more rest = (n : ℕ) (p : Path) → more (suc n) (p, rest) ≡ Some (p, rest)

from_stop : (more : ℕ → Path × List Token → Parsed) (rest : List Token) (p : Path) → Stops more rest → From 1 (λ n. more n (p, rest)) (p, rest)
from_stop more rest p stops = from_next (λ n. more n (p, rest)) (p, rest) 0 (λ n over. stops n p)

-- a first operand, and what `more` makes of it
first_from : (read below : ℕ → List Token → Parsed) (more : ℕ → Path × List Token → Parsed) (ts : List Token) (q p : Path × List Token) (j k l : ℕ)
    → ((n : ℕ) → read (suc n) ts ≡ option_and_then (more n) (below n ts)) → suc (j + k) ≤ l
    → From j (λ n. below n ts) q → From k (λ n. more n q) p → From l (λ n. read n ts) p
first_from read below more ts q p j k l step bound first next =
    from_more (λ n. read n ts) p (suc (j + k)) l bound
    (from_next (λ n. read n ts) p (j + k) (λ n over. step n ∙ from_then (λ m. below m ts) more j k q p first next n over))

-- a sign and the operand after it, and what `more` makes of both
operand_from : (below : ℕ → List Token → Parsed) (more : ℕ → Path × List Token → Parsed) (make : Path → Path → Path) (sign : Token) (a b : Path)
    (ts rest : List Token) (p : Path × List Token) (j k : ℕ)
    → ((n : ℕ) → more (suc n) (a, sign ∷ ts) ≡ option_and_then (λ q. more n (make a q.0, q.1)) (below n ts))
    → From j (λ n. below n ts) (b, rest) → From k (λ n. more n (make a b, rest)) p → From (1 + (j + k)) (λ n. more n (a, sign ∷ ts)) p
operand_from below more make sign a b ts rest p j k step first next =
    from_more (λ n. more n (a, sign ∷ ts)) p (suc (j + k)) (1 + (j + k)) (omega arith)
    (from_next (λ n. more n (a, sign ∷ ts)) p (j + k) (λ n over. step n ∙ from_then (λ m. below m ts) (λ m q. more m (make a q.0, q.1)) j k (b, rest) p first next n over))

-- a phrase of two parts with a sign between
joined_from : (read : ℕ → List Token → Parsed) (sign : Token) (ts us rest : List Token) (p : Path × List Token) (c d k : ℕ) → d ≤ 7
    → From (8 * length ts + c + (1 + (8 * length us + d + k))) (λ n. read n (ts ++ sign ∷ (us ++ rest))) p
    → From (8 * length (ts ++ sign ∷ us) + c + k) (λ n. read n ((ts ++ sign ∷ us) ++ rest)) p
joined_from read sign ts us rest p c d k small h n over =
    ap (λ vs. read n vs) (append_assoc ts (sign ∷ us) rest) ∙ h n (joined_bound (length-append ts (sign ∷ us)))
  where
    joined_bound : length (ts ++ sign ∷ us) ≡ length ts + suc (length us) → 8 * length ts + c + (1 + (8 * length us + d + k)) ≤ n
    joined_bound e = omega arith

-- ---- all rules: how much is enough for a phrase

module _ (kinds : List (List ℕ)) where
  along_from : (w : List ℕ) (k : ℕ) (rest : List Token) → IsNameOf kinds w k → From 8 (λ n. read_atom kinds n (word w ∷ rest)) (Along k, rest)
  along_from w k rest h zero over = absurd (omega arith)
  along_from w k rest h (suc n) over = ap (option_map (λ i. (Along i, rest))) h.stands

  against_from : (w : List ℕ) (k : ℕ) (rest : List Token) → IsNameOf kinds w k → From 16 (λ n. read_atom kinds n (caret ∷ word w ∷ rest)) (Against k, rest)
  against_from w k rest h zero over = absurd (omega arith)
  against_from w k rest h (suc n) over = ap (option_map (λ i. (Against i, rest))) h.stands

  grouped_from : (ts rest : List Token) (p : Path) → From (8 * length ts + 5 + 1) (λ n. read_path kinds n (ts ++ close_paren ∷ rest)) (p, close_paren ∷ rest)
      → From (8 * length (open_paren ∷ (ts ++ close_paren ∷ []))) (λ n. read_atom kinds n ((open_paren ∷ (ts ++ close_paren ∷ [])) ++ rest)) (p, rest)
  grouped_from ts rest p h zero over = absurd (omega arith)
  grouped_from ts rest p h (suc n) over =
      ap (λ vs. option_and_then closed (read_path kinds n vs)) (append_assoc ts (close_paren ∷ []) rest)
      ∙ ap (option_and_then closed) (h n (grouped_bound (length-append ts (close_paren ∷ []))))
    where
      grouped_bound : length (ts ++ close_paren ∷ []) ≡ length ts + 1 → 8 * length ts + 5 + 1 ≤ n
      grouped_bound e = omega arith

  chain_from : (ts rest : List Token) (a : Path) (p : Path × List Token) (k : ℕ)
      → From (8 * length ts + 1 + (1 + k)) (λ n. read_step kinds n (ts ++ plus ∷ rest)) p
      → From (8 * length (ts ++ plus ∷ []) + 1 + k) (λ n. read_step kinds n ((ts ++ plus ∷ []) ++ rest)) p
  chain_from ts rest a p k h n over =
      ap (read_step kinds n) (append_assoc ts (plus ∷ []) rest) ∙ h n (chain_bound (length-append ts (plus ∷ [])))
    where
      chain_bound : length (ts ++ plus ∷ []) ≡ length ts + 1 → 8 * length ts + 1 + (1 + k) ≤ n
      chain_bound e = omega arith

  mutual
    complete_path : {ts : List Token} {a : Path} → IsPath kinds ts a → (rest : List Token) → Stops (more_step kinds) rest → Stops (more_sequence kinds) rest
        → (k : ℕ) (p : Path × List Token) → From k (λ n. more_path kinds n (a, rest)) p → From (8 * length ts + 5 + k) (λ n. read_path kinds n (ts ++ rest)) p
    complete_path (of_sequence {ts = ts} {p = a} h) rest step_stops sequence_stops k p next =
        first_from (read_path kinds) (read_sequence kinds) (more_path kinds) (ts ++ rest) (a, rest) p (8 * length ts + 3 + 1) k (8 * length ts + 5 + k) (λ n. refl) (omega arith)
        (complete_sequence h rest step_stops 1 (a, rest) (from_stop (more_sequence kinds) rest a sequence_stops)) next
    complete_path (one_of {ts = ts} {us = us} {a = a} {b = b} h g) rest step_stops sequence_stops k p next =
        joined_from (read_path kinds) bar ts us rest p 5 4 k (omega arith)
        (complete_path h (bar ∷ (us ++ rest)) (λ n e. refl) (λ n e. refl) (1 + (8 * length us + 4 + k)) p
        (operand_from (read_sequence kinds) (more_path kinds) OneOf bar a b (us ++ rest) rest p (8 * length us + 4) k (λ n. refl)
        (from_more (λ n. read_sequence kinds n (us ++ rest)) (b, rest) (8 * length us + 3 + 1) (8 * length us + 4) (omega arith)
        (complete_sequence g rest step_stops 1 (b, rest) (from_stop (more_sequence kinds) rest b sequence_stops))) next))

    complete_sequence : {ts : List Token} {a : Path} → IsSequence kinds ts a → (rest : List Token) → Stops (more_step kinds) rest
        → (k : ℕ) (p : Path × List Token) → From k (λ n. more_sequence kinds n (a, rest)) p → From (8 * length ts + 3 + k) (λ n. read_sequence kinds n (ts ++ rest)) p
    complete_sequence (of_step {ts = ts} {p = a} h) rest step_stops k p next =
        first_from (read_sequence kinds) (read_step kinds) (more_sequence kinds) (ts ++ rest) (a, rest) p (8 * length ts + 1 + 1) k (8 * length ts + 3 + k) (λ n. refl) (omega arith)
        (complete_step h rest 1 (a, rest) (from_stop (more_step kinds) rest a step_stops)) next
    complete_sequence (after {ts = ts} {us = us} {a = a} {b = b} h g) rest step_stops k p next =
        joined_from (read_sequence kinds) slash ts us rest p 3 2 k (omega arith)
        (complete_sequence h (slash ∷ (us ++ rest)) (λ n e. refl) (1 + (8 * length us + 2 + k)) p
        (operand_from (read_step kinds) (more_sequence kinds) Then slash a b (us ++ rest) rest p (8 * length us + 2) k (λ n. refl)
        (from_more (λ n. read_step kinds n (us ++ rest)) (b, rest) (8 * length us + 1 + 1) (8 * length us + 2) (omega arith)
        (complete_step g rest 1 (b, rest) (from_stop (more_step kinds) rest b step_stops))) next))

    complete_step : {ts : List Token} {a : Path} → IsStep kinds ts a → (rest : List Token)
        → (k : ℕ) (p : Path × List Token) → From k (λ n. more_step kinds n (a, rest)) p → From (8 * length ts + 1 + k) (λ n. read_step kinds n (ts ++ rest)) p
    complete_step (of_atom {ts = ts} {p = a} h) rest k p next =
        first_from (read_step kinds) (read_atom kinds) (more_step kinds) (ts ++ rest) (a, rest) p (8 * length ts) k (8 * length ts + 1 + k) (λ n. refl) (omega arith)
        (complete_atom h rest) next
    complete_step (chain {ts = ts} {a = a} h) rest k p next =
        chain_from ts rest a p k
        (complete_step h (plus ∷ rest) (1 + k) p
        (from_more (λ n. more_step kinds n (a, plus ∷ rest)) p (suc k) (1 + k) (omega arith) (from_next (λ n. more_step kinds n (a, plus ∷ rest)) p k next)))

    complete_atom : {ts : List Token} {a : Path} → IsAtom kinds ts a → (rest : List Token) → From (8 * length ts) (λ n. read_atom kinds n (ts ++ rest)) (a, rest)
    complete_atom (forwards {w = w} {k = k} h) rest = along_from w k rest h
    complete_atom (backwards {w = w} {k = k} h) rest = against_from w k rest h
    complete_atom (grouped {ts = ts} {p = a} h) rest =
        grouped_from ts rest a
        (complete_path h (close_paren ∷ rest) (λ n e. refl) (λ n e. refl) 1 (a, close_paren ∷ rest) (from_stop (more_path kinds) (close_paren ∷ rest) a (λ n e. refl)))

  -- a path in front of its bracket is read as it stands
  pub reads_path : (ts rest : List Token) (a : Path) → IsPath kinds ts a → (n : ℕ) → 8 * length ts + 8 ≤ n
      → read_path kinds n (ts ++ close_bracket ∷ rest) ≡ Some (a, close_bracket ∷ rest)
  reads_path ts rest a phrase n above =
      complete_path phrase (close_bracket ∷ rest) (λ n e. refl) (λ n e. refl) 1 (a, close_bracket ∷ rest)
      (from_stop (more_path kinds) (close_bracket ∷ rest) a (λ n e. refl)) n (omega arith)
