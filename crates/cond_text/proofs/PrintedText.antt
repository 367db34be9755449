-- A printed expression reads back.
use Rattle.std.proofs.Common.{◌≡◌, ◌∙◌, sym, ap, subst, refl, ℕ, zero, suc, ◌+◌, ◌<◌, ◌≤◌, List, [], ◌∷◌, ◌++◌, length, append_assoc, Bool, true, false, ◌&&◌, Option, Some, None, arith}
use Rattle.std.specs.Prelude.{option_map, if◌then◌else◌, nat_lt, nat_le, codes}
use Rattle.std.specs.List.{list_all}
use Rattle.std.proofs.lemmas.List.{append-nil}
use Rattle.std.proofs.lemmas.Bool.{lt-leb}
use Rattle.meaning.specs.Texts.{is_name, is_word_byte, begins_with_letter}
use Rattle.meaning.specs.Expressions.{Expression, Top, Bottom, Name, Not, Both, Either, Implies, Same, Piece, run, blank, exclamation, ampersand, pipe, equals, less, greater, opening, closing, pieces_of, Token, word, not_sign, and_sign, or_sign, implies_sign, same_sign, open_paren, close_paren, then_tokens, tokens_of, name_at, name_bound, strength, in_place, print, IsSame, of_imp, same, IsImp, of_or, implies, IsOr, of_and, either, IsAnd, of_neg, both, IsNeg, of_atom, negation, named, grouped, always, never, feature, expression_of}
use Rattle.meaning.specs.BundlePlaces.{or_else}
use Rattle.meaning.specs.ExpressionFaults.{TextFault, TooMany, Syntax, UnknownName, Lexeme, word as word_lexeme, stray, placed_tokens, Next, an_operand, goes_on, is_known, next_after, may_end, fault_from, expression_fault}
use Rattle.meaning.proofs.GrammarLaw.{map_some}
use Rattle.meaning.proofs.ExpressionTexts.{lexeme}
use Rattle.meaning.proofs.ExpressionsPass.{only_too_many, expressions_pass}
use Rattle.cond_text.specs.Printing.{AllPlaced}
use Rattle.cond_text.specs.Readings.{IsReadAs}
use Rattle.cond_text.proofs.Pieces.{goes_on_word, run_pieces, both_true}
use Rattle.cond_text.proofs.PhraseLaws.{phrase_is_read}

-- ---- the tokens of a printed expression

abbrev pub enclosed : Expression → ℕ → List Token → List Token
enclosed e needs ts = if nat_lt (strength e) needs then open_paren ∷ (ts ++ close_paren ∷ []) else ts

abbrev pub printed : List (List ℕ) → Expression → List Token
printed names Top = word (codes "true") ∷ []
printed names Bottom = word (codes "false") ∷ []
printed names (Name n) = word (name_at names n) ∷ []
printed names (Not a) = not_sign ∷ enclosed a 5 (printed names a)
printed names (Both a b) = enclosed a 4 (printed names a) ++ and_sign ∷ enclosed b 5 (printed names b)
printed names (Either a b) = enclosed a 3 (printed names a) ++ or_sign ∷ enclosed b 4 (printed names b)
printed names (Implies a b) = enclosed a 3 (printed names a) ++ implies_sign ∷ enclosed b 2 (printed names b)
printed names (Same a b) = enclosed a 1 (printed names a) ++ same_sign ∷ enclosed b 2 (printed names b)

-- each name of the expression is a name
abbrev pub AllProper : List (List ℕ) → Expression → Type 0
AllProper names Top = Unit {0}
AllProper names Bottom = Unit {0}
AllProper names (Name n) = is_name (name_at names n) ≡ true
AllProper names (Not a) = AllProper names a
AllProper names (Both a b) = AllProper names a × AllProper names b
AllProper names (Either a b) = AllProper names a × AllProper names b
AllProper names (Implies a b) = AllProper names a × AllProper names b
AllProper names (Same a b) = AllProper names a × AllProper names b

proper_at : (names : List (List ℕ)) (n : ℕ) → list_all is_name names ≡ true → n < length names → is_name (name_at names n) ≡ true
proper_at [] n all below = absurd (omega arith)
proper_at (x ∷ xs) zero all below = (both_true (is_name x) (list_all is_name xs) all).0
proper_at (x ∷ xs) (suc n) all below = proper_at xs n ((both_true (is_name x) (list_all is_name xs) all).1) (omega arith)

pub all_proper : (names : List (List ℕ)) (e : Expression) → list_all is_name names ≡ true → name_bound e ≤ length names → AllProper names e
all_proper names Top all below = tt
all_proper names Bottom all below = tt
all_proper names (Name n) all below = proper_at names n all (omega arith)
all_proper names (Not a) all below = all_proper names a all below
all_proper names (Both a b) all below = (all_proper names a all (omega arith), all_proper names b all (omega arith))
all_proper names (Either a b) all below = (all_proper names a all (omega arith), all_proper names b all (omega arith))
all_proper names (Implies a b) all below = (all_proper names a all (omega arith), all_proper names b all (omega arith))
all_proper names (Same a b) all below = (all_proper names a all (omega arith), all_proper names b all (omega arith))

-- ---- they are a phrase of each level, enclosed as its place needs

record Levels (names : List (List ℕ)) (e : Expression) : Type 0 where
  neg_level : IsNeg names (enclosed e 5 (printed names e)) e
  and_level : IsAnd names (enclosed e 4 (printed names e)) e
  or_level : IsOr names (enclosed e 3 (printed names e)) e
  imp_level : IsImp names (enclosed e 2 (printed names e)) e
  same_level : IsSame names (enclosed e 1 (printed names e)) e

at_neg : (names : List (List ℕ)) (ts : List Token) (e : Expression) → IsNeg names ts e → IsSame names ts e
at_neg names ts e h = of_imp (of_or (of_and (of_neg h)))

levels : (names : List (List ℕ)) (e : Expression) → AllPlaced names e → AllProper names e → Levels names e
levels names Top placed proper =
    let own : IsNeg names (printed names Top) Top = of_atom (named always) in
    record { neg_level = own; and_level = of_neg own; or_level = of_and (of_neg own); imp_level = of_or (of_and (of_neg own)); same_level = at_neg names (printed names Top) Top own }
levels names Bottom placed proper =
    let own : IsNeg names (printed names Bottom) Bottom = of_atom (named never) in
    record { neg_level = own; and_level = of_neg own; or_level = of_and (of_neg own); imp_level = of_or (of_and (of_neg own)); same_level = at_neg names (printed names Bottom) Bottom own }
levels names (Name n) placed proper =
    let own : IsNeg names (printed names (Name n)) (Name n) = of_atom (named (feature proper placed)) in
    record { neg_level = own; and_level = of_neg own; or_level = of_and (of_neg own); imp_level = of_or (of_and (of_neg own)); same_level = at_neg names (printed names (Name n)) (Name n) own }
levels names (Not a) placed proper =
    let l = levels names a placed proper in
    let own : IsNeg names (printed names (Not a)) (Not a) = negation l.neg_level in
    record { neg_level = own; and_level = of_neg own; or_level = of_and (of_neg own); imp_level = of_or (of_and (of_neg own)); same_level = at_neg names (printed names (Not a)) (Not a) own }
levels names (Both a b) placed proper =
    let l = levels names a placed.0 proper.0 in
    let r = levels names b placed.1 proper.1 in
    let own : IsAnd names (printed names (Both a b)) (Both a b) = both l.and_level r.neg_level in
    record { neg_level = of_atom (grouped (of_imp (of_or (of_and own)))); and_level = own; or_level = of_and own; imp_level = of_or (of_and own); same_level = of_imp (of_or (of_and own)) }
levels names (Either a b) placed proper =
    let l = levels names a placed.0 proper.0 in
    let r = levels names b placed.1 proper.1 in
    let own : IsOr names (printed names (Either a b)) (Either a b) = either l.or_level r.and_level in
    let group : IsNeg names (open_paren ∷ (printed names (Either a b) ++ close_paren ∷ [])) (Either a b) = of_atom (grouped (of_imp (of_or own))) in
    record { neg_level = group; and_level = of_neg group; or_level = own; imp_level = of_or own; same_level = of_imp (of_or own) }
levels names (Implies a b) placed proper =
    let l = levels names a placed.0 proper.0 in
    let r = levels names b placed.1 proper.1 in
    let own : IsImp names (printed names (Implies a b)) (Implies a b) = implies l.or_level r.imp_level in
    let group : IsNeg names (open_paren ∷ (printed names (Implies a b) ++ close_paren ∷ [])) (Implies a b) = of_atom (grouped (of_imp own)) in
    record { neg_level = group; and_level = of_neg group; or_level = of_and (of_neg group); imp_level = own; same_level = of_imp own }
levels names (Same a b) placed proper =
    let l = levels names a placed.0 proper.0 in
    let r = levels names b placed.1 proper.1 in
    let own : IsSame names (printed names (Same a b)) (Same a b) = same l.same_level r.imp_level in
    let group : IsNeg names (open_paren ∷ (printed names (Same a b) ++ close_paren ∷ [])) (Same a b) = of_atom (grouped own) in
    record { neg_level = group; and_level = of_neg group; or_level = of_and (of_neg group); imp_level = of_or (of_and (of_neg group)); same_level = own }

never_enclosed : (names : List (List ℕ)) (e : Expression) → enclosed e 1 (printed names e) ≡ printed names e
never_enclosed names Top = refl
never_enclosed names Bottom = refl
never_enclosed names (Name n) = refl
never_enclosed names (Not a) = refl
never_enclosed names (Both a b) = refl
never_enclosed names (Either a b) = refl
never_enclosed names (Implies a b) = refl
never_enclosed names (Same a b) = refl

pub printed_phrase : (names : List (List ℕ)) (e : Expression) → AllPlaced names e → AllProper names e → IsSame names (printed names e) e
printed_phrase names e placed proper =
    let l = levels names e placed proper in subst (λ ts. IsSame names ts e) (never_enclosed names e) l.same_level

-- ---- they are the tokens of the text

-- in front of what is no word, the text has these tokens
abbrev Spells : List ℕ → List Token → Type 0
Spells s ts = (rest : List ℕ) → goes_on_word rest ≡ false → tokens_of (pieces_of (s ++ rest)) ≡ option_map (λ us. ts ++ us) (tokens_of (pieces_of rest))

then_then : {A : Type 0} (ts us : List A) (t : A) (o : Option (List A))
    → option_map (λ vs. ts ++ vs) (option_map (λ vs. t ∷ vs) (option_map (λ vs. us ++ vs) o)) ≡ option_map (λ vs. (ts ++ t ∷ us) ++ vs) o
then_then ts us t None = refl
then_then ts us t (Some vs) = ap Some (sym (append_assoc ts (t ∷ us) vs))

spells_word : (c : ℕ) (cs : List ℕ) → list_all is_word_byte (c ∷ cs) ≡ true → begins_with_letter (c ∷ cs) ≡ true → Spells (c ∷ cs) (word (c ∷ cs) ∷ [])
spells_word c cs all letter rest ends =
    ap tokens_of (run_pieces c cs rest all ends) ∙ ap (λ b. if b then then_tokens (word (c ∷ cs)) (tokens_of (pieces_of rest)) else None) letter

spells_name : (w : List ℕ) → is_name w ≡ true → Spells w (word w ∷ [])
spells_name [] proper = absurd cc
spells_name (c ∷ cs) proper =
    let three = both_true (begins_with_letter (c ∷ cs) && list_all is_word_byte (c ∷ cs) && nat_le (length (c ∷ cs)) 64) _ proper in
    let two = both_true (begins_with_letter (c ∷ cs) && list_all is_word_byte (c ∷ cs)) (nat_le (length (c ∷ cs)) 64) three.0 in
    let one = both_true (begins_with_letter (c ∷ cs)) (list_all is_word_byte (c ∷ cs)) two.0 in
    spells_word c cs one.1 one.0

-- a sign with its spaces, between two texts
joined_spells : (s sign t : List ℕ) (ts us : List Token) (mark : Token) → ((x : List ℕ) → tokens_of (pieces_of (sign ++ x)) ≡ then_tokens mark (tokens_of (pieces_of x)))
    → ((x : List ℕ) → goes_on_word (sign ++ x) ≡ false) → Spells s ts → Spells t us → Spells ((s ++ sign) ++ t) (ts ++ mark ∷ us)
joined_spells s sign t ts us mark is apart left right rest ends =
    ap (λ x. tokens_of (pieces_of x)) (append_assoc (s ++ sign) t rest ∙ append_assoc s sign (t ++ rest))
    ∙ (left (sign ++ (t ++ rest)) (apart (t ++ rest))
    ∙ (ap (option_map (λ vs. ts ++ vs)) (is (t ++ rest) ∙ ap (then_tokens mark) (right rest ends))
    ∙ then_then ts us mark (tokens_of (pieces_of rest))))

then_more : {A : Type 0} (t : A) (ts : List A) (o : Option (List A)) → option_map (λ vs. t ∷ vs) (option_map (λ vs. ts ++ vs) o) ≡ option_map (λ vs. (t ∷ ts) ++ vs) o
then_more t ts None = refl
then_more t ts (Some vs) = refl

not_spells : (s : List ℕ) (ts : List Token) → Spells s ts → Spells (codes "!" ++ s) (not_sign ∷ ts)
not_spells s ts h rest ends = ap (then_tokens not_sign) (h rest ends) ∙ then_more not_sign ts (tokens_of (pieces_of rest))

closing_then : {A : Type 0} (a b : A) (ts : List A) (o : Option (List A))
    → option_map (λ vs. a ∷ vs) (option_map (λ vs. ts ++ vs) (option_map (λ vs. b ∷ vs) o)) ≡ option_map (λ vs. (a ∷ (ts ++ b ∷ [])) ++ vs) o
closing_then a b ts None = refl
closing_then a b ts (Some vs) = ap (λ us. Some (a ∷ us)) (sym (append_assoc ts (b ∷ []) vs))

group_spells : (s : List ℕ) (ts : List Token) → Spells s ts → Spells (codes "(" ++ s ++ codes ")") (open_paren ∷ (ts ++ close_paren ∷ []))
group_spells s ts h rest ends =
    ap (λ x. tokens_of (pieces_of (40 ∷ x))) (append_assoc s (codes ")") rest)
    ∙ (ap (then_tokens open_paren) (h (41 ∷ rest) refl) ∙ closing_then open_paren close_paren ts (tokens_of (pieces_of rest)))

place_spells : (e : Expression) (needs : ℕ) (s : List ℕ) (ts : List Token) → Spells s ts → Spells (in_place e needs s) (enclosed e needs ts)
place_spells e needs s ts h = go (nat_lt (strength e) needs)
  where
    go : (b : Bool) → Spells (if b then codes "(" ++ s ++ codes ")" else s) (if b then open_paren ∷ (ts ++ close_paren ∷ []) else ts)
    go true = group_spells s ts h
    go false = h

printed_spells : (names : List (List ℕ)) (e : Expression) → AllProper names e → Spells (print names e) (printed names e)
printed_spells names Top proper = spells_word 116 (114 ∷ 117 ∷ 101 ∷ []) refl refl
printed_spells names Bottom proper = spells_word 102 (97 ∷ 108 ∷ 115 ∷ 101 ∷ []) refl refl
printed_spells names (Name n) proper = spells_name (name_at names n) proper
printed_spells names (Not a) proper = not_spells (in_place a 5 (print names a)) (enclosed a 5 (printed names a)) (place_spells a 5 (print names a) (printed names a) (printed_spells names a proper))
printed_spells names (Both a b) proper =
    joined_spells (in_place a 4 (print names a)) (codes " & ") (in_place b 5 (print names b)) (enclosed a 4 (printed names a)) (enclosed b 5 (printed names b)) and_sign (λ x. refl) (λ x. refl)
    (place_spells a 4 (print names a) (printed names a) (printed_spells names a proper.0)) (place_spells b 5 (print names b) (printed names b) (printed_spells names b proper.1))
printed_spells names (Either a b) proper =
    joined_spells (in_place a 3 (print names a)) (codes " | ") (in_place b 4 (print names b)) (enclosed a 3 (printed names a)) (enclosed b 4 (printed names b)) or_sign (λ x. refl) (λ x. refl)
    (place_spells a 3 (print names a) (printed names a) (printed_spells names a proper.0)) (place_spells b 4 (print names b) (printed names b) (printed_spells names b proper.1))
printed_spells names (Implies a b) proper =
    joined_spells (in_place a 3 (print names a)) (codes " => ") (in_place b 2 (print names b)) (enclosed a 3 (printed names a)) (enclosed b 2 (printed names b)) implies_sign (λ x. refl) (λ x. refl)
    (place_spells a 3 (print names a) (printed names a) (printed_spells names a proper.0)) (place_spells b 2 (print names b) (printed names b) (printed_spells names b proper.1))
printed_spells names (Same a b) proper =
    joined_spells (in_place a 1 (print names a)) (codes " <=> ") (in_place b 2 (print names b)) (enclosed a 1 (printed names a)) (enclosed b 2 (printed names b)) same_sign (λ x. refl) (λ x. refl)
    (place_spells a 1 (print names a) (printed names a) (printed_spells names a proper.0)) (place_spells b 2 (print names b) (printed names b) (printed_spells names b proper.1))

pub tokens_of_print : (names : List (List ℕ)) (e : Expression) → AllProper names e → tokens_of (pieces_of (print names e)) ≡ Some (printed names e)
tokens_of_print names e proper =
    ap (λ s. tokens_of (pieces_of s)) (sym (append-nil (print names e))) ∙ (printed_spells names e proper [] refl ∙ ap Some (append-nil (printed names e)))

-- ---- few tokens are not too many

abbrev not_many : Option TextFault → Bool
not_many (Some (TooMany at)) = false
not_many _ = true

few_here : (a b c : Bool) (at : ℕ) (y : Option TextFault) → a ≡ false → not_many y ≡ true
    → not_many (or_else (if a then Some (TooMany at) else (if b then (if c then None else Some (UnknownName at)) else Some (Syntax at))) y) ≡ true
few_here true b c at y e later = absurd cc
few_here false true true at y e later = later
few_here false true false at y e later = refl
few_here false false c at y e later = refl

module _ (names : List (List ℕ)) (end : ℕ) where
  abbrev Few : Option (List Token) → List (ℕ × Lexeme) → Type 0
  Few o qs = (count : ℕ) (next : Next) (ts : List Token) → o ≡ Some ts → count + length ts ≤ 512 → not_many (fault_from names end count next qs) ≡ true

  few_then : (at : ℕ) (l : Lexeme) (t : Token) (o : Option (List Token)) (qs : List (ℕ × Lexeme)) → Few o qs → Few (then_tokens t o) ((at, l) ∷ qs)
  few_then at l t o qs later count next ts e bound =
      let r = map_some (λ us. t ∷ us) o ts e in
      let size : length ts ≡ suc (length r.0) = ap length (sym r.2) in
      few_here (nat_le 512 count) (goes_on next l) (is_known names l) at (fault_from names end (count + 1) (next_after next l) qs)
      (lt-leb 512 count (omega arith)) (later (count + 1) (next_after next l) r.0 r.1 (omega arith))

  none_few : (qs : List (ℕ × Lexeme)) → Few None qs
  none_few qs count next ts e bound = absurd cc

  run_few : (b : Bool) (w : List ℕ) (at : ℕ) (o : Option (List Token)) (qs : List (ℕ × Lexeme)) → Few o qs
      → Few (if b then then_tokens (word w) o else None) ((at, (if b then word_lexeme w else stray)) ∷ qs)
  run_few true w at o qs later = few_then at (word_lexeme w) (word w) o qs later
  run_few false w at o qs later = none_few ((at, stray) ∷ qs)

  end_few : Few (Some []) []
  end_few count next ts e bound = ends (may_end next)
    where
      ends : (b : Bool) → not_many (if b then None else Some (Syntax end)) ≡ true
      ends true = refl
      ends false = refl

  few : (ps : List Piece) (at : ℕ) → Few (tokens_of ps) (placed_tokens at ps)
  few [] at = end_few
  few (run w ∷ ps) at = run_few (begins_with_letter w) w at (tokens_of ps) (placed_tokens (at + length w) ps) (few ps (at + length w))
  few (blank ∷ ps) at = few ps (at + 1)
  few (exclamation ∷ ps) at = few_then at (lexeme not_sign) not_sign (tokens_of ps) (placed_tokens (at + 1) ps) (few ps (at + 1))
  few (ampersand ∷ ps) at = few_then at (lexeme and_sign) and_sign (tokens_of ps) (placed_tokens (at + 1) ps) (few ps (at + 1))
  few (pipe ∷ ps) at = few_then at (lexeme or_sign) or_sign (tokens_of ps) (placed_tokens (at + 1) ps) (few ps (at + 1))
  few (opening ∷ ps) at = few_then at (lexeme open_paren) open_paren (tokens_of ps) (placed_tokens (at + 1) ps) (few ps (at + 1))
  few (closing ∷ ps) at = few_then at (lexeme close_paren) close_paren (tokens_of ps) (placed_tokens (at + 1) ps) (few ps (at + 1))
  few (equals ∷ greater ∷ ps) at = few_then at (lexeme implies_sign) implies_sign (tokens_of ps) (placed_tokens (at + 2) ps) (few ps (at + 2))
  few (less ∷ equals ∷ greater ∷ ps) at = few_then at (lexeme same_sign) same_sign (tokens_of ps) (placed_tokens (at + 3) ps) (few ps (at + 3))
  few (p ∷ ps) at = none_few ((at, stray) ∷ [])

neither : (o : Option TextFault) → only_too_many o ≡ true → not_many o ≡ true → o ≡ None
neither None a b = refl
neither (Some (TooMany at)) a b = absurd cc
neither (Some f) a b = absurd cc

not_too_many : (names : List (List ℕ)) (s : List ℕ) (ts : List Token) → tokens_of (pieces_of s) ≡ Some ts → length ts ≤ 512 → not_many (expression_fault names s) ≡ true
unfolding expression_fault
not_too_many names s ts tokens bound = few names (length s) (pieces_of s) 0 0 (an_operand 0) ts tokens (omega arith)

few_have_no_fault : (names : List (List ℕ)) (s : List ℕ) (ts : List Token) (e : Expression) → tokens_of (pieces_of s) ≡ Some ts → expression_of names s ≡ Some e → length ts ≤ 512
    → expression_fault names s ≡ None
few_have_no_fault names s ts e tokens read bound = neither (expression_fault names s) (expressions_pass names s e read) (not_too_many names s ts tokens bound)

-- ---- the round trip

pub print_is_read : (names : List (List ℕ)) (e : Expression) → AllPlaced names e → list_all is_name names ≡ true → name_bound e ≤ length names → IsReadAs names (print names e) e
print_is_read names e placed all below =
    let proper = all_proper names e all below in
    let tokens = tokens_of_print names e proper in
    let phrase = printed_phrase names e placed proper in
    let read = phrase_is_read names (print names e) e (printed names e, tokens, phrase) in
    record {
      tokens = printed names e;
      tokens_of_text = tokens;
      phrase = phrase;
      read = read;
      no_fault = few_have_no_fault names (print names e) (printed names e) e tokens read;
    }
