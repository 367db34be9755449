-- The token at a place.
use Rattle.std.proofs.Common.{◌≡◌, ◌∙◌, sym, ap, subst, refl, ℕ, zero, suc, ◌+◌, ◌-◌, ◌<◌, ◌≤◌, List, [], ◌∷◌, length, drop, Bool, true, false, Option, Some, None, map, length-drop, add-one, arith}
use Rattle.std.specs.Prelude.{if◌then◌else◌, nat_le, option_and_then, option_map, is_some}
use Rattle.std.proofs.lemmas.List.{length-map}
use Rattle.std.proofs.lemmas.Bool.{true≢false, lt-leb}
use Rattle.std.proofs.lemmas.Bool.Decides.{nat_tests}
use Rattle.meaning.specs.Texts.{is_name}
use Rattle.meaning.specs.QueryTexts.{Token, word, quoted, colon, comma, open_bracket, close_bracket, open_paren, close_paren, dot, equal_sign, exclamation, bar, slash, plus, caret, blank, strange}
use Rattle.path_queries.specs.declared.token.Tokens.{Tokens}
use Rattle.path_queries.specs.declared.token.Placed.{Placed}
use Rattle.path_queries.specs.declared.token_at.Sign.{Sign}
use Rattle.path_queries.specs.declared.token_at.Sign.TheVariants as code
use Rattle.path_queries.specs.Tokens.{placed, placed_all, rest_at, bare, left_at}
use Rattle.path_queries.specs.Signs.{sign, shown, word_in, word_first, name_first, quoted_in, quoted_first, compared_in, compared}
use Rattle.path_queries.specs.PathReading.{AreFew}

-- a token that is not too many stands at a place
pub record IsAt (ts : Tokens) (at : ℕ) (t : Token) : Type 0 where
  pub place : ℕ
  pub front : rest_at ts at ≡ (place, t) ∷ rest_at ts (at + 1)
  pub inside : at < length ts.list
  pub short : at < 256

next_list : (ps : List Placed) (at : ℕ) (q : ℕ × Token) (us : List (ℕ × Token)) → placed_all (drop at ps) ≡ q ∷ us → (at < length ps) × (us ≡ placed_all (drop (suc at) ps))
next_list [] zero q us e = absurd cc
next_list [] (suc at) q us e = absurd cc
next_list (p ∷ ps) zero q us e = (omega arith, cc)
next_list (p ∷ ps) (suc at) q us e = let r = next_list ps at q us e in (omega arith, r.1)

pub rest_next : (ts : Tokens) (at : ℕ) (q : ℕ × Token) (us : List (ℕ × Token)) → rest_at ts at ≡ q ∷ us → (at < length ts.list) × (us ≡ rest_at ts (at + 1))
rest_next ts at q us e = rw add-one (next_list ts.list at q us e)

fewer : (at : ℕ) → nat_le 256 at ≡ false → at < 256
fewer at e = go (nat_le 256 at) refl e
  where
    go : (b : Bool) → nat_le 256 at ≡ b → b ≡ false → at < 256
    go true is e = absurd (true≢false e)
    go false is e = grind (arith, nat_tests)

pub not_many : (at : ℕ) → at < 256 → nat_le 256 at ≡ false
not_many at h = lt-leb 256 at h

-- ---- signs

is_plain : Sign → Bool
is_plain code.Word = false
is_plain code.Quoted = false
is_plain code.Stray = false
is_plain code.Excess = false
is_plain code.End = false
is_plain s = true

sign_token : Sign → Token
sign_token code.Colon = colon
sign_token code.Comma = comma
sign_token code.OpenBracket = open_bracket
sign_token code.CloseBracket = close_bracket
sign_token code.OpenParen = open_paren
sign_token code.CloseParen = close_paren
sign_token code.Dot = dot
sign_token code.Equals = equal_sign
sign_token code.Differs = exclamation
sign_token code.Bar = bar
sign_token code.Slash = slash
sign_token code.Plus = plus
sign_token code.Caret = caret
sign_token s = strange

plain_token : (t : Token) → is_plain (sign t) ≡ true → t ≡ sign_token (sign t)
unfolding is_plain sign_token
plain_token (word w) e = absurd (true≢false (sym e))
plain_token (quoted s) e = absurd (true≢false (sym e))
plain_token blank e = absurd (true≢false (sym e))
plain_token strange e = absurd (true≢false (sym e))
plain_token t e = refl

plain_at : (ts : Tokens) (at : ℕ) (s : Sign) → is_plain s ≡ true → shown at (rest_at ts at) ≡ s → IsAt ts at (sign_token s)
unfolding is_plain
plain_at ts at s plain is = go (rest_at ts at) refl is
  where
    go : (ls : List (ℕ × Token)) → rest_at ts at ≡ ls → shown at ls ≡ s → IsAt ts at (sign_token s)
    go [] front is = absurd (true≢false (sym (ap is_plain is ∙ plain)))
    go (q ∷ us) front is = shows (nat_le 256 at) refl is
      where
        shows : (b : Bool) → nat_le 256 at ≡ b → (if b then code.Excess else sign q.1) ≡ s → IsAt ts at (sign_token s)
        shows true many is = absurd (true≢false (sym (ap is_plain is ∙ plain)))
        shows false many is =
            let r = rest_next ts at q us front in
            let t : q.1 ≡ sign_token s = plain_token q.1 (ap is_plain is ∙ plain) ∙ ap sign_token is in
            record {
              place = q.0;
              front = front ∙ (ap (λ u. (q.0, u) ∷ us) t ∙ ap (λ vs. (q.0, sign_token s) ∷ vs) r.1);
              inside = r.0;
              short = fewer at many;
            }

-- the plain signs, one by one
pub colon_at : (ts : Tokens) (at : ℕ) → shown at (rest_at ts at) ≡ code.Colon → IsAt ts at colon
unfolding is_plain sign_token
colon_at ts at is = plain_at ts at code.Colon refl is

pub comma_at : (ts : Tokens) (at : ℕ) → shown at (rest_at ts at) ≡ code.Comma → IsAt ts at comma
unfolding is_plain sign_token
comma_at ts at is = plain_at ts at code.Comma refl is

pub open_bracket_at : (ts : Tokens) (at : ℕ) → shown at (rest_at ts at) ≡ code.OpenBracket → IsAt ts at open_bracket
unfolding is_plain sign_token
open_bracket_at ts at is = plain_at ts at code.OpenBracket refl is

pub close_bracket_at : (ts : Tokens) (at : ℕ) → shown at (rest_at ts at) ≡ code.CloseBracket → IsAt ts at close_bracket
unfolding is_plain sign_token
close_bracket_at ts at is = plain_at ts at code.CloseBracket refl is

pub open_paren_at : (ts : Tokens) (at : ℕ) → shown at (rest_at ts at) ≡ code.OpenParen → IsAt ts at open_paren
unfolding is_plain sign_token
open_paren_at ts at is = plain_at ts at code.OpenParen refl is

pub close_paren_at : (ts : Tokens) (at : ℕ) → shown at (rest_at ts at) ≡ code.CloseParen → IsAt ts at close_paren
unfolding is_plain sign_token
close_paren_at ts at is = plain_at ts at code.CloseParen refl is

pub dot_at : (ts : Tokens) (at : ℕ) → shown at (rest_at ts at) ≡ code.Dot → IsAt ts at dot
unfolding is_plain sign_token
dot_at ts at is = plain_at ts at code.Dot refl is

pub equals_at : (ts : Tokens) (at : ℕ) → shown at (rest_at ts at) ≡ code.Equals → IsAt ts at equal_sign
unfolding is_plain sign_token
equals_at ts at is = plain_at ts at code.Equals refl is

pub differs_at : (ts : Tokens) (at : ℕ) → shown at (rest_at ts at) ≡ code.Differs → IsAt ts at exclamation
unfolding is_plain sign_token
differs_at ts at is = plain_at ts at code.Differs refl is

pub bar_at : (ts : Tokens) (at : ℕ) → shown at (rest_at ts at) ≡ code.Bar → IsAt ts at bar
unfolding is_plain sign_token
bar_at ts at is = plain_at ts at code.Bar refl is

pub slash_at : (ts : Tokens) (at : ℕ) → shown at (rest_at ts at) ≡ code.Slash → IsAt ts at slash
unfolding is_plain sign_token
slash_at ts at is = plain_at ts at code.Slash refl is

pub plus_at : (ts : Tokens) (at : ℕ) → shown at (rest_at ts at) ≡ code.Plus → IsAt ts at plus
unfolding is_plain sign_token
plus_at ts at is = plain_at ts at code.Plus refl is

pub caret_at : (ts : Tokens) (at : ℕ) → shown at (rest_at ts at) ≡ code.Caret → IsAt ts at caret
unfolding is_plain sign_token
caret_at ts at is = plain_at ts at code.Caret refl is

-- ---- words and quoted texts

word_of_token : (t : Token) (w : List ℕ) → word_in t ≡ Some w → t ≡ word w
word_of_token (word v) w e = cc
word_of_token t w e = absurd cc

quoted_of_token : (t : Token) (s : List ℕ) → quoted_in t ≡ Some s → t ≡ quoted s
quoted_of_token (quoted v) s e = cc
quoted_of_token t s e = absurd cc

pub word_is_at : (ts : Tokens) (at : ℕ) (w : List ℕ) → word_first at (rest_at ts at) ≡ Some w → IsAt ts at (word w)
word_is_at ts at w is = go (rest_at ts at) refl is
  where
    go : (ls : List (ℕ × Token)) → rest_at ts at ≡ ls → word_first at ls ≡ Some w → IsAt ts at (word w)
    go [] front is = absurd cc
    go (q ∷ us) front is = shows (nat_le 256 at) refl is
      where
        shows : (b : Bool) → nat_le 256 at ≡ b → (if b then None else word_in q.1) ≡ Some w → IsAt ts at (word w)
        shows true many is = absurd cc
        shows false many is =
            let r = rest_next ts at q us front in
            let t : q.1 ≡ word w = word_of_token q.1 w is in
            record { place = q.0; front = front ∙ (ap (λ u. (q.0, u) ∷ us) t ∙ ap (λ vs. (q.0, word w) ∷ vs) r.1); inside = r.0; short = fewer at many }

pub quoted_is_at : (ts : Tokens) (at : ℕ) (s : List ℕ) → quoted_first at (rest_at ts at) ≡ Some s → IsAt ts at (quoted s)
quoted_is_at ts at s is = go (rest_at ts at) refl is
  where
    go : (ls : List (ℕ × Token)) → rest_at ts at ≡ ls → quoted_first at ls ≡ Some s → IsAt ts at (quoted s)
    go [] front is = absurd cc
    go (q ∷ us) front is = shows (nat_le 256 at) refl is
      where
        shows : (b : Bool) → nat_le 256 at ≡ b → (if b then None else quoted_in q.1) ≡ Some s → IsAt ts at (quoted s)
        shows true many is = absurd cc
        shows false many is =
            let r = rest_next ts at q us front in
            let t : q.1 ≡ quoted s = quoted_of_token q.1 s is in
            record { place = q.0; front = front ∙ (ap (λ u. (q.0, u) ∷ us) t ∙ ap (λ vs. (q.0, quoted s) ∷ vs) r.1); inside = r.0; short = fewer at many }

pub first_word : (ts : Tokens) (at : ℕ) (w : List ℕ) → IsAt ts at (word w) → word_first at (rest_at ts at) ≡ Some w
first_word ts at w h = ap (word_first at) h.front ∙ ap (λ b. if b then None else Some w) (not_many at h.short)

comparison_of_token : (t : Token) (b : Bool) → compared_in t ≡ Some b → t ≡ (if b then equal_sign else exclamation)
comparison_of_token equal_sign true e = refl
comparison_of_token equal_sign false e = absurd cc
comparison_of_token exclamation true e = absurd cc
comparison_of_token exclamation false e = refl
comparison_of_token t b e = absurd cc

pub compared_is_at : (ts : Tokens) (at : ℕ) (b : Bool) → compared at (rest_at ts at) ≡ Some b → IsAt ts at (if b then equal_sign else exclamation)
compared_is_at ts at b is = go (rest_at ts at) refl is
  where
    go : (ls : List (ℕ × Token)) → rest_at ts at ≡ ls → compared at ls ≡ Some b → IsAt ts at (if b then equal_sign else exclamation)
    go [] front is = absurd cc
    go (q ∷ us) front is = shows (nat_le 256 at) refl is
      where
        shows : (a : Bool) → nat_le 256 at ≡ a → (if a then None else compared_in q.1) ≡ Some b → IsAt ts at (if b then equal_sign else exclamation)
        shows true many is = absurd cc
        shows false many is =
            let r = rest_next ts at q us front in
            let t : q.1 ≡ (if b then equal_sign else exclamation) = comparison_of_token q.1 b is in
            record {
              place = q.0;
              front = front ∙ (ap (λ u. (q.0, u) ∷ us) t ∙ ap (λ vs. (q.0, (if b then equal_sign else exclamation)) ∷ vs) r.1);
              inside = r.0;
              short = fewer at many;
            }

-- a name stands at a place
pub record NameAt (ts : Tokens) (at : ℕ) (w : List ℕ) : Type 0 where
  pub stands : IsAt ts at (word w)
  pub proper : is_name w ≡ true

pub name_is_at : (ts : Tokens) (at : ℕ) (w : List ℕ) → name_first at (rest_at ts at) ≡ Some w → NameAt ts at w
name_is_at ts at w is = go (word_first at (rest_at ts at)) refl is
  where
    go : (o : Option (List ℕ)) → word_first at (rest_at ts at) ≡ o → option_and_then (λ v. if is_name v then Some v else None) o ≡ Some w → NameAt ts at w
    go None first is = absurd cc
    go (Some v) first is = proper (is_name v) refl is
      where
        proper : (b : Bool) → is_name v ≡ b → (if b then Some v else None) ≡ Some w → NameAt ts at w
        proper true named is =
            let same : v ≡ w = cc in
            record { stands = word_is_at ts at w (first ∙ ap Some same); proper = ap is_name (sym same) ∙ named }
        proper false named is = absurd cc

-- ---- the tokens without their places

pub left_front : (ts : Tokens) (at : ℕ) (t : Token) → IsAt ts at t → left_at ts at ≡ t ∷ left_at ts (at + 1)
left_front ts at t h = ap bare h.front

pub left_length : (ts : Tokens) (at : ℕ) → length (left_at ts at) ≡ length ts.list - at
left_length ts at = length-map (placed_all (drop at ts.list)) (λ q. q.1) ∙ (length-map (drop at ts.list) placed ∙ length-drop at ts.list)

-- the sign of the first token
abbrev pub first_sign : List Token → Sign
first_sign [] = code.End
first_sign (t ∷ ts) = sign t

pub shown_first : (ts : Tokens) (at : ℕ) → AreFew ts → shown at (rest_at ts at) ≡ first_sign (left_at ts at)
shown_first ts at few = go (rest_at ts at) refl
  where
    go : (ls : List (ℕ × Token)) → rest_at ts at ≡ ls → shown at ls ≡ first_sign (bare ls)
    go [] front = refl
    go (q ∷ us) front =
        let r = rest_next ts at q us front in ap (λ b. if b then code.Excess else sign q.1) (not_many at (let h : at < 256 = (let i = r.0 in omega arith) in h))

-- behind the last token
pub nothing_left : (ts : Tokens) (at : ℕ) → shown at (rest_at ts at) ≡ code.End → (rest_at ts at ≡ []) × (length ts.list ≤ at)
nothing_left ts at is = go (rest_at ts at) refl is
  where
    go : (ls : List (ℕ × Token)) → rest_at ts at ≡ ls → shown at ls ≡ code.End → (rest_at ts at ≡ []) × (length ts.list ≤ at)
    go [] front is =
        let long : length ts.list - at ≡ 0 = sym (left_length ts at) ∙ ap (λ ls. length (bare ls)) front in (front, omega arith)
    go (q ∷ us) front is = absurd (shows (nat_le 256 at) q.1 is)
      where
        no_end : (t : Token) → sign t ≡ code.End → ⊥
        no_end (word w) e = cc
        no_end (quoted s) e = cc
        no_end t e = cc

        shows : (b : Bool) (t : Token) → (if b then code.Excess else sign t) ≡ code.End → ⊥
        shows true t e = cc
        shows false t e = no_end t e
