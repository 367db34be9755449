-- Phrases of the grammar between two places of a list of tokens.
use Rattle.std.proofs.Common.{◌≡◌, ◌∙◌, sym, ap, subst, refl, ℕ, zero, suc, ◌+◌, ◌<◌, ◌≤◌, List, [], ◌∷◌, ◌++◌, length, drop, append_assoc, add-one, Some, arith}
use Rattle.std.proofs.lemmas.List.{append-nil}
use Rattle.meaning.specs.Expressions.{Expression, Top, Bottom, Name, Not, Both, Either, Implies, Same, open_paren, close_paren, not_sign, and_sign, or_sign, implies_sign, same_sign, word, name_at, IsSame, of_imp, same, IsImp, of_or, implies, IsOr, of_and, either, IsAnd, of_neg, both, IsNeg, of_atom, negation, named, grouped, always, never, feature, pieces_of, tokens_of, expression_of, expression_of_tokens}
use Rattle.meaning.specs.Expressions as meaning
use Rattle.meaning.specs.ExpressionFaults.{an_operand, after_operand}
use Rattle.std.specs.Prelude.{option_and_then}
use Rattle.meaning.proofs.ReadsGrammar.{grammar_is_read}
use Rattle.cond_text.specs.declared.token.Token.{Token}
use Rattle.cond_text.specs.declared.token.Token.TheVariants as sign
use Rattle.cond_text.specs.declared.token.Token.TheVariants.{And, Or, Open, Close, End, True, False}
use Rattle.cond_text.specs.Tokens.{with_word, with_words, Runs}
use Rattle.cond_text.specs.Phrases.{first_token, binding, Reads, CanRead, ReadsFrom}
use Rattle.cond_text.specs.Readings.{IsPhrase}

abbrev Kind : Type 1
Kind = List (List ℕ) → List meaning.Token → Expression → Type 0

-- ---- the token at a place

front_of : (ts : List Token) (at : ℕ) (t : Token) → first_token (drop at ts) ≡ t → (t ≡ End → ⊥) → (at < length ts) × (drop at ts ≡ t ∷ drop (suc at) ts)
front_of [] zero t is no_end = absurd (no_end (sym is))
front_of [] (suc at) t is no_end = absurd (no_end (sym is))
front_of (x ∷ xs) zero t is no_end = (omega arith, ap (λ y. y ∷ xs) is)
front_of (x ∷ xs) (suc at) t is no_end = let r = front_of xs at t is no_end in (omega arith, r.1)

front_at : (ts : List Token) (at : ℕ) (t : Token) → first_token (drop at ts) ≡ t → (t ≡ End → ⊥) → drop at ts ≡ t ∷ drop (at + 1) ts
front_at ts at t is no_end = rw add-one ((front_of ts at t is no_end).1)

inside_list : (names : List (List ℕ)) (k : ℕ) (ts : List Token) (at : ℕ) → Runs names (an_operand k) (drop at ts) → at < length ts
inside_list names k [] zero h = absurd cc
inside_list names k [] (suc at) h = absurd cc
inside_list names k (x ∷ xs) zero h = omega arith
inside_list names k (x ∷ xs) (suc at) h = let r = inside_list names k xs at h in omega arith

inside_at : (ts : List Token) (at : ℕ) → CanRead ts at → at < length ts
inside_at ts at can = inside_list can.0 can.1 ts at can.2

binding_small : (t : Token) → binding t < 5
binding_small And = omega arith
binding_small Or = omega arith
binding_small sign.Implies = omega arith
binding_small sign.Same = omega arith
binding_small t = omega arith

binds_no_end : (t : Token) → 0 < binding t → t ≡ End → ⊥
binds_no_end t h e = let g : 0 < 0 = subst (λ s. 0 < binding s) e h in omega arith

-- ---- an operator

after_operator : (names : List (List ℕ)) (k : ℕ) (t : Token) (us : List Token) → 0 < binding t → Runs names (after_operand k) (t ∷ us) → Runs names (an_operand k) us
after_operator names k And us pos h = h
after_operator names k Or us pos h = h
after_operator names k sign.Implies us pos h = h
after_operator names k sign.Same us pos h = h
after_operator names k t us pos h = absurd (omega arith)

pub can_after_operator : (K : Kind) (level : ℕ) (ts : List Token) (at next : ℕ) (e : Expression) (t : Token) → 0 < binding t → CanRead ts at → ReadsFrom K level ts at next e
    → first_token (drop next ts) ≡ t → (next + 1 < length ts) × CanRead ts (next + 1)
can_after_operator K level ts at next e t pos can reads is =
    let r = reads can.0 can.1 can.2 in
    let runs = after_operator can.0 can.1 t (drop (next + 1) ts) pos (subst (Runs can.0 (after_operand can.1)) (front_at ts next t is (binds_no_end t pos)) r.runs) in
    let there : CanRead ts (next + 1) = (can.0, can.1, runs) in
    (inside_at ts (next + 1) there, there)

joined : (K J L : Kind) (t : Token) (make : Expression → Expression → Expression) → 0 < binding t
    → ((names : List (List ℕ)) (us vs : List meaning.Token) (a b : Expression) → K names us a → J names vs b → L names (us ++ with_word names t ∷ vs) (make a b))
    → (m n : ℕ) (ts : List Token) (at next after : ℕ) (a b : Expression) → ReadsFrom K m ts at next a → first_token (drop next ts) ≡ t
    → ReadsFrom J n ts (next + 1) after b → ReadsFrom L n ts at after (make a b)
joined K J L t make pos law m n ts at next after a b left is right names k runs =
    let l = left names k runs in
    let f = front_at ts next t is (binds_no_end t pos) in
    let r = right names k (after_operator names k t (drop (next + 1) ts) pos (subst (Runs names (after_operand k)) f l.runs)) in
    record {
      phrase = (
        l.phrase.0 ++ with_word names t ∷ r.phrase.0,
        l.phrase.1 ∙ (ap (λ us. l.phrase.0 ++ with_words names us) f
            ∙ (ap (λ vs. l.phrase.0 ++ with_word names t ∷ vs) r.phrase.1
            ∙ sym (append_assoc l.phrase.0 (with_word names t ∷ r.phrase.0) (with_words names (drop after ts))))),
        law names l.phrase.0 r.phrase.0 a b l.phrase.2 r.phrase.2,
      );
      runs = r.runs;
      weaker = r.weaker;
    }

raised : (K L : Kind) → ((names : List (List ℕ)) (us : List meaning.Token) (e : Expression) → K names us e → L names us e)
    → (n : ℕ) (ts : List Token) (at next : ℕ) (e : Expression) → ReadsFrom K n ts at next e → ReadsFrom L n ts at next e
raised K L law n ts at next e reads names k runs =
    let r = reads names k runs in
    record { phrase = (r.phrase.0, r.phrase.1, law names r.phrase.0 e r.phrase.2); runs = r.runs; weaker = r.weaker }

pub and_begins : (ts : List Token) (at next : ℕ) (e : Expression) → ReadsFrom IsNeg 5 ts at next e → ReadsFrom IsAnd 5 ts at next e
and_begins ts at next e h = raised IsNeg IsAnd (λ names us d k. of_neg k) 5 ts at next e h

pub or_begins : (ts : List Token) (at next : ℕ) (e : Expression) → ReadsFrom IsAnd 4 ts at next e → ReadsFrom IsOr 4 ts at next e
or_begins ts at next e h = raised IsAnd IsOr (λ names us d k. of_and k) 4 ts at next e h

pub same_begins : (ts : List Token) (at next : ℕ) (e : Expression) → ReadsFrom IsImp 2 ts at next e → ReadsFrom IsSame 2 ts at next e
same_begins ts at next e h = raised IsImp IsSame (λ names us d k. of_imp k) 2 ts at next e h

pub both_reads : (ts : List Token) (at next after : ℕ) (a b : Expression) → ReadsFrom IsAnd 5 ts at next a → first_token (drop next ts) ≡ And
    → ReadsFrom IsNeg 5 ts (next + 1) after b → ReadsFrom IsAnd 5 ts at after (Both a b)
both_reads = joined IsAnd IsNeg IsAnd And Both (omega arith) (λ names us vs a b h g. both h g) 5 5

pub either_reads : (ts : List Token) (at next after : ℕ) (a b : Expression) → ReadsFrom IsOr 4 ts at next a → first_token (drop next ts) ≡ Or
    → ReadsFrom IsAnd 4 ts (next + 1) after b → ReadsFrom IsOr 4 ts at after (Either a b)
either_reads = joined IsOr IsAnd IsOr Or Either (omega arith) (λ names us vs a b h g. either h g) 4 4

pub implies_reads : (ts : List Token) (at next after : ℕ) (a b : Expression) → ReadsFrom IsOr 3 ts at next a → first_token (drop next ts) ≡ sign.Implies
    → ReadsFrom IsImp 2 ts (next + 1) after b → ReadsFrom IsImp 2 ts at after (Implies a b)
implies_reads = joined IsOr IsImp IsImp sign.Implies Implies (omega arith) (λ names us vs a b h g. implies h g) 3 2

pub same_reads : (ts : List Token) (at next after : ℕ) (a b : Expression) → ReadsFrom IsSame 2 ts at next a → first_token (drop next ts) ≡ sign.Same
    → ReadsFrom IsImp 2 ts (next + 1) after b → ReadsFrom IsSame 2 ts at after (Same a b)
same_reads = joined IsSame IsImp IsSame sign.Same Same (omega arith) (λ names us vs a b h g. same h g) 2 2

no_implies : (t : Token) → (t ≡ sign.Implies → ⊥) → binding t < 3 → binding t < 2
no_implies And other h = absurd (omega arith)
no_implies Or other h = absurd (omega arith)
no_implies sign.Implies other h = absurd (other refl)
no_implies sign.Same other h = omega arith
no_implies t other h = omega arith

pub imp_alone : (ts : List Token) (at next : ℕ) (e : Expression) → ReadsFrom IsOr 3 ts at next e → (first_token (drop next ts) ≡ sign.Implies → ⊥) → ReadsFrom IsImp 2 ts at next e
imp_alone ts at next e reads other names k runs =
    let r = reads names k runs in
    record { phrase = (r.phrase.0, r.phrase.1, of_or r.phrase.2); runs = r.runs; weaker = no_implies (first_token (drop next ts)) other r.weaker }

-- ---- words

atom_reads : (names : List (List ℕ)) (k : ℕ) (t : Token) (before left : List Token) (e : Expression) → before ≡ t ∷ left → Runs names (after_operand k) left
    → IsNeg names (with_word names t ∷ []) e → Reads (IsNeg names) 5 names k before left e
atom_reads names k t before left e front runs phrase = record {
  phrase = (with_word names t ∷ [], ap (with_words names) front, phrase);
  runs = runs;
  weaker = binding_small (first_token left);
}

pub true_reads : (ts : List Token) (at : ℕ) → first_token (drop at ts) ≡ True → ReadsFrom IsNeg 5 ts at (at + 1) Top
true_reads ts at is names k runs =
    let f = front_at ts at True is (λ e. absurd cc) in
    atom_reads names k True (drop at ts) (drop (at + 1) ts) Top f (subst (Runs names (an_operand k)) f runs) (of_atom (named always))

pub false_reads : (ts : List Token) (at : ℕ) → first_token (drop at ts) ≡ False → ReadsFrom IsNeg 5 ts at (at + 1) Bottom
false_reads ts at is names k runs =
    let f = front_at ts at False is (λ e. absurd cc) in
    atom_reads names k False (drop at ts) (drop (at + 1) ts) Bottom f (subst (Runs names (an_operand k)) f runs) (of_atom (named never))

pub name_reads : (ts : List Token) (at n : ℕ) → first_token (drop at ts) ≡ sign.Name n → ReadsFrom IsNeg 5 ts at (at + 1) (Name n)
name_reads ts at n is names k runs =
    let f = front_at ts at (sign.Name n) is (λ e. absurd cc) in
    let there = subst (Runs names (an_operand k)) f runs in
    atom_reads names k (sign.Name n) (drop at ts) (drop (at + 1) ts) (Name n) f there.1 (of_atom (named (feature there.0.0 there.0.1)))

-- ---- `!`

pub can_after_not : (ts : List Token) (at : ℕ) → CanRead ts at → first_token (drop at ts) ≡ sign.Not → (at + 1 < length ts) × CanRead ts (at + 1)
can_after_not ts at can is =
    let f = front_at ts at sign.Not is (λ e. absurd cc) in
    let there : CanRead ts (at + 1) = (can.0, can.1, subst (Runs can.0 (an_operand can.1)) f can.2) in
    (inside_at ts (at + 1) there, there)

pub not_reads : (ts : List Token) (at next : ℕ) (a : Expression) → first_token (drop at ts) ≡ sign.Not → ReadsFrom IsNeg 5 ts (at + 1) next a → ReadsFrom IsNeg 5 ts at next (Not a)
not_reads ts at next a is inner names k runs =
    let f = front_at ts at sign.Not is (λ e. absurd cc) in
    let r = inner names k (subst (Runs names (an_operand k)) f runs) in
    record { phrase = (not_sign ∷ r.phrase.0, ap (with_words names) f ∙ ap (λ us. not_sign ∷ us) r.phrase.1, negation r.phrase.2); runs = r.runs; weaker = r.weaker }

-- ---- parentheses

pub can_after_open : (ts : List Token) (at : ℕ) → CanRead ts at → first_token (drop at ts) ≡ Open → (at + 1 < length ts) × CanRead ts (at + 1)
can_after_open ts at can is =
    let f = front_at ts at Open is (λ e. absurd cc) in
    let there : CanRead ts (at + 1) = (can.0, can.1 + 1, subst (Runs can.0 (an_operand can.1)) f can.2) in
    (inside_at ts (at + 1) there, there)

closing : (names : List (List ℕ)) (k : ℕ) (us : List Token) → Runs names (after_operand (suc k)) us → binding (first_token us) < 1 → first_token us ≡ Close
closing names k [] h weak = absurd cc
closing names k (And ∷ us) h weak = absurd (omega arith)
closing names k (Or ∷ us) h weak = absurd (omega arith)
closing names k (sign.Implies ∷ us) h weak = absurd (omega arith)
closing names k (sign.Same ∷ us) h weak = absurd (omega arith)
closing names k (Close ∷ us) h weak = refl
closing names k (t ∷ us) h weak = absurd h

record Grouped (names : List (List ℕ)) (k : ℕ) (ts : List Token) (at next : ℕ) (a : Expression) : Type 0 where
  open_at : drop at ts ≡ Open ∷ drop (at + 1) ts
  close_at : drop next ts ≡ Close ∷ drop (next + 1) ts
  inside : next < length ts
  inner : Reads (IsSame names) 1 names (k + 1) (drop (at + 1) ts) (drop next ts) a
  runs : Runs names (after_operand k) (drop (next + 1) ts)

group : (names : List (List ℕ)) (k : ℕ) (ts : List Token) (at next : ℕ) (a : Expression) → Runs names (an_operand k) (drop at ts) → first_token (drop at ts) ≡ Open
    → ReadsFrom IsSame 1 ts (at + 1) next a → Grouped names k ts at next a
group names k ts at next a runs is reads =
    let f = front_at ts at Open is (λ e. absurd cc) in
    let r = reads names (k + 1) (subst (Runs names (an_operand k)) f runs) in
    let goes : Runs names (after_operand (suc k)) (drop next ts) = subst (λ j. Runs names (after_operand j) (drop next ts)) (let e : k + 1 ≡ suc k = omega arith in e) r.runs in
    let closes : first_token (drop next ts) ≡ Close = closing names k (drop next ts) goes r.weaker in
    let g = front_at ts next Close closes (λ e. absurd cc) in
    record {
      open_at = f;
      close_at = g;
      inside = (front_of ts next Close closes (λ e. absurd cc)).0;
      inner = r;
      runs = subst (Runs names (after_operand (suc k))) g goes;
    }

pub group_inside : (ts : List Token) (at next : ℕ) (a : Expression) → CanRead ts at → first_token (drop at ts) ≡ Open → ReadsFrom IsSame 1 ts (at + 1) next a → next + 1 ≤ length ts
group_inside ts at next a can is reads = let g = group can.0 can.1 ts at next a can.2 is reads in omega (arith, g.inside)

pub group_reads : (ts : List Token) (at next : ℕ) (a : Expression) → first_token (drop at ts) ≡ Open → ReadsFrom IsSame 1 ts (at + 1) next a → ReadsFrom IsNeg 5 ts at (next + 1) a
group_reads ts at next a is reads names k runs =
    let g = group names k ts at next a runs is reads in
    let us = g.inner.phrase.0 in
    record {
      phrase = (
        open_paren ∷ (us ++ close_paren ∷ []),
        ap (with_words names) g.open_at ∙ ap (λ vs. open_paren ∷ vs) (g.inner.phrase.1 ∙ (ap (λ vs. us ++ with_words names vs) g.close_at
            ∙ sym (append_assoc us (close_paren ∷ []) (with_words names (drop (next + 1) ts))))),
        of_atom (grouped g.inner.phrase.2),
      );
      runs = g.runs;
      weaker = binding_small (first_token (drop (next + 1) ts));
    }

-- ---- all tokens

nothing_left : (names : List (List ℕ)) (us : List Token) → Runs names (after_operand 0) us → binding (first_token us) < 1 → us ≡ []
nothing_left names [] h weak = refl
nothing_left names (And ∷ us) h weak = absurd (omega arith)
nothing_left names (Or ∷ us) h weak = absurd (omega arith)
nothing_left names (sign.Implies ∷ us) h weak = absurd (omega arith)
nothing_left names (sign.Same ∷ us) h weak = absurd (omega arith)
nothing_left names (t ∷ us) h weak = absurd h

pub can_begin : (names : List (List ℕ)) (ts : List Token) → Runs names (an_operand 0) ts → (0 < length ts) × CanRead ts 0
can_begin names ts runs = let there : CanRead ts 0 = (names, 0, runs) in (inside_at ts 0 there, there)

pub whole_phrase : (names : List (List ℕ)) (ts : List Token) (next : ℕ) (e : Expression) → Runs names (an_operand 0) ts → ReadsFrom IsSame 1 ts 0 next e → IsSame names (with_words names ts) e
whole_phrase names ts next e runs reads =
    let r = reads names 0 runs in
    let empty = nothing_left names (drop next ts) r.runs r.weaker in
    subst (λ us. IsSame names us e) (sym (r.phrase.1 ∙ (ap (λ us. r.phrase.0 ++ with_words names us) empty ∙ append-nil r.phrase.0))) r.phrase.2

pub text_phrase : (names : List (List ℕ)) (s : List ℕ) (ts : List Token) (next : ℕ) (e : Expression) → tokens_of (pieces_of s) ≡ Some (with_words names ts)
    → Runs names (an_operand 0) ts → ReadsFrom IsSame 1 ts 0 next e → IsPhrase names s e
text_phrase names s ts next e tokens runs reads = (with_words names ts, tokens, whole_phrase names ts next e runs reads)

pub phrase_is_read : (names : List (List ℕ)) (s : List ℕ) (e : Expression) → IsPhrase names s e → expression_of names s ≡ Some e
unfolding expression_of
phrase_is_read names s e h = ap (option_and_then (expression_of_tokens names)) h.1 ∙ grammar_is_read names h.0 e h.2
