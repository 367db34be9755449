-- The names of a phrase are in the list.
use Rattle.std.proofs.Common.{◌≡◌, subst, ℕ, zero, suc, ◌<◌, ◌≤◌, List, [], ◌∷◌, length, Bool, true, false, Some, arith}
use Rattle.std.specs.Prelude.{option_map, if◌then◌else◌, bytes_eq}
use Rattle.meaning.specs.Texts.{place_of}
use Rattle.meaning.specs.Expressions.{Expression, Token, name_bound, IsSame, of_imp, same, IsImp, of_or, implies, IsOr, of_and, either, IsAnd, of_neg, both, IsNeg, of_atom, negation, IsAtom, named, grouped, Denotes, always, never, feature}
use Rattle.meaning.proofs.GrammarLaw.{map_some}
use Rattle.cond_text.specs.Readings.{IsPhrase}

place_below : (names : List (List ℕ)) (w : List ℕ) (n : ℕ) → place_of w names ≡ Some n → n < length names
place_below [] w n e = absurd cc
place_below (x ∷ xs) w n e = go (bytes_eq w x) n e (place_below xs w)
  where
    go : (b : Bool) (n : ℕ) → (if b then Some 0 else option_map suc (place_of w xs)) ≡ Some n → ((k : ℕ) → place_of w xs ≡ Some k → k < length xs) → n < suc (length xs)
    go true zero e later = omega arith
    go true (suc n) e later = absurd cc
    go false n e later = let r = map_some suc (place_of w xs) n e in let below = later r.0 r.1 in subst (λ k. k < suc (length xs)) r.2 (omega arith)

module _ (names : List (List ℕ)) where
  mutual
    same_bound : {ts : List Token} {e : Expression} → IsSame names ts e → name_bound e ≤ length names
    same_bound (of_imp h) = imp_bound h
    same_bound (same h g) = let l = same_bound h in let r = imp_bound g in omega arith

    imp_bound : {ts : List Token} {e : Expression} → IsImp names ts e → name_bound e ≤ length names
    imp_bound (of_or h) = or_bound h
    imp_bound (implies h g) = let l = or_bound h in let r = imp_bound g in omega arith

    or_bound : {ts : List Token} {e : Expression} → IsOr names ts e → name_bound e ≤ length names
    or_bound (of_and h) = and_bound h
    or_bound (either h g) = let l = or_bound h in let r = and_bound g in omega arith

    and_bound : {ts : List Token} {e : Expression} → IsAnd names ts e → name_bound e ≤ length names
    and_bound (of_neg h) = neg_bound h
    and_bound (both h g) = let l = and_bound h in let r = neg_bound g in omega arith

    neg_bound : {ts : List Token} {e : Expression} → IsNeg names ts e → name_bound e ≤ length names
    neg_bound (of_atom h) = atom_bound h
    neg_bound (negation h) = neg_bound h

    atom_bound : {ts : List Token} {e : Expression} → IsAtom names ts e → name_bound e ≤ length names
    atom_bound (named {w = w} {e = e} d) = word_bound w e d
    atom_bound (grouped h) = same_bound h

    word_bound : (w : List ℕ) (e : Expression) → Denotes names w e → name_bound e ≤ length names
    word_bound w e always = omega arith
    word_bound w e never = omega arith
    word_bound w e (feature {n = n} proper place) = let below = place_below names w n place in omega arith

  pub phrase_bound : (s : List ℕ) (e : Expression) → IsPhrase names s e → name_bound e ≤ length names
  phrase_bound s e h = same_bound h.2
