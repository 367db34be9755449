-- The fault of the text of a query stands at one of its bytes, or at its end, and is told as it is.
use Rattle.std.proofs.Common.{◌≡◌, refl, sym, ap, ◌∙◌, subst, ℕ, suc, ◌+◌, ◌≤◌, List, [], ◌∷◌, length, Bool, true, false, Option, Some, None, arith}
use Rattle.std.specs.Prelude.{if◌then◌else◌, not, ◌||◌, ◌==◌, nat_le, option_and_then}
use Rattle.meaning.specs.Texts.{is_word_byte}
use Rattle.meaning.specs.Documents.{Document}
use Rattle.meaning.specs.Models.{Model}
use Rattle.meaning.specs.BundlePlaces.{or_else, member_within, text_of_member}
use Rattle.meaning.specs.ExpressionFaults.{TextFault, TooMany, Syntax, UnknownName, Repeated, place_in_text}
use Rattle.meaning.specs.QueryTexts.{Scope, Token, word, quoted, colon, comma, open_bracket, close_bracket, open_paren, close_paren, dot, equal_sign, exclamation, bar, slash, plus, caret, blank, strange, sign_of, longer_word, signs_of, cut_at_quotes, in_first}
use Rattle.meaning.specs.QueryFaults.{placed_signs, placed_tokens, a_query, Progress, may_end, goes_on, is_known, new_variable, is_variable_too_many, begins_constraint_too_many, stands_in_scope, progress_after, fault_from, query_fault}
use Rattle.meaning.specs.TemplateRules.{place_if_any}
use Rattle.cond_text.specs.Stops.{capped}
use Rattle.templates.specs.QueryReads.{place_at_member}
use Rattle.templates.proofs.QueryBounds.{cut_shape}
use Rattle.templates.proofs.QueryLaws.{member_is_short}

-- ---- the pieces of a text have as many bytes as the text

token_size : Token → ℕ
token_size (word w) = length w
token_size t = 1

size : List Token → ℕ
size [] = 0
size (t ∷ ts) = token_size t + size ts

if_one : (b : Bool) (t u : Token) → token_size t ≡ 1 → token_size u ≡ 1 → token_size (if b then t else u) ≡ 1
if_one true t u e f = e
if_one false t u e f = f

sign_is_one : (c : ℕ) → token_size (sign_of c) ≡ 1
unfolding token_size
sign_is_one c =
    if_one (c == 32) blank _ refl (if_one (c == 58) colon _ refl (if_one (c == 44) comma _ refl (if_one (c == 91) open_bracket _ refl
    (if_one (c == 93) close_bracket _ refl (if_one (c == 40) open_paren _ refl (if_one (c == 41) close_paren _ refl (if_one (c == 46) dot _ refl
    (if_one (c == 61) equal_sign _ refl (if_one (c == 33) exclamation _ refl (if_one (c == 124) bar _ refl (if_one (c == 47) slash _ refl
    (if_one (c == 43) plus _ refl (if_one (c == 94) caret strange refl refl)))))))))))))

word_is_one_longer : (c : ℕ) (ts : List Token) → size (longer_word c ts) ≡ suc (size ts)
unfolding token_size size
word_is_one_longer c [] = refl
word_is_one_longer c (word w ∷ ts) = omega arith
word_is_one_longer c (t ∷ ts) = omega arith

signs_size : (s : List ℕ) → size (signs_of s) ≡ length s
unfolding size
signs_size [] = refl
signs_size (c ∷ cs) = go (is_word_byte c) (signs_size cs)
  where
    go : (b : Bool) → size (signs_of cs) ≡ length cs → size (if b then longer_word c (signs_of cs) else sign_of c ∷ signs_of cs) ≡ suc (length cs)
    go true e = word_is_one_longer c (signs_of cs) ∙ ap suc e
    go false e = omega (arith, sign_is_one c, e)

-- the bytes of pieces behind a quote, and of pieces between quotes
behind_quote : List (List ℕ) → ℕ
behind_quote [] = 0
behind_quote (s ∷ ss) = suc (length s + behind_quote ss)

between_quotes : List (List ℕ) → ℕ
between_quotes [] = 0
between_quotes (s ∷ ss) = length s + behind_quote ss

cut_size : (s : List ℕ) → between_quotes (cut_at_quotes s) ≡ length s
unfolding behind_quote between_quotes
cut_size [] = refl
cut_size (c ∷ cs) = go (c == 39) (cut_shape cs) (cut_size cs)
  where
    go : (b : Bool) → (h : List ℕ) × (hs : List (List ℕ)) × (cut_at_quotes cs ≡ h ∷ hs) → between_quotes (cut_at_quotes cs) ≡ length cs
        → between_quotes (if b then [] ∷ cut_at_quotes cs else in_first c (cut_at_quotes cs)) ≡ suc (length cs)
    go true (h, hs, shape) e =
        let whole : length h + behind_quote hs ≡ length cs = sym (ap between_quotes shape) ∙ e in
        ap (λ ss. between_quotes ([] ∷ ss)) shape ∙ (let f : 0 + suc (length h + behind_quote hs) ≡ suc (length cs) = omega arith in f)
    go false (h, hs, shape) e =
        let whole : length h + behind_quote hs ≡ length cs = sym (ap between_quotes shape) ∙ e in
        ap (λ ss. between_quotes (in_first c ss)) shape ∙ (let f : suc (length h) + behind_quote hs ≡ suc (length cs) = omega arith in f)

-- ---- each place is within

module _ (end : ℕ) where
  abbrev Within : List (ℕ × Token) → Type 0
  Within [] = Unit {0}
  Within (q ∷ qs) = (q.0 ≤ end) × Within qs

  signs_within : (at : ℕ) (ts : List Token) (rest : List (ℕ × Token)) → at + size ts ≤ end → Within rest → Within (placed_signs at ts rest)
  unfolding token_size size
  signs_within at [] rest le h = h
  signs_within at (word w ∷ ts) rest le h = (omega arith, signs_within (at + length w) ts rest (omega arith) h)
  signs_within at (blank ∷ ts) rest le h = signs_within (at + 1) ts rest (omega arith) h
  signs_within at (exclamation ∷ equal_sign ∷ ts) rest le h = (omega arith, signs_within (at + 2) ts rest (omega arith) h)
  signs_within at (exclamation ∷ ts) rest le h = (omega arith, signs_within (at + 1) ts rest (omega arith) h)
  signs_within at (t ∷ ts) rest le h = (omega arith, signs_within (at + 1) ts rest (omega arith) h)

  tokens_within : (ss : List (List ℕ)) (at : ℕ) → at + between_quotes ss ≤ end → Within (placed_tokens at ss)
  unfolding behind_quote between_quotes
  tokens_within [] at le = tt
  tokens_within (s ∷ []) at le = let many = signs_size s in signs_within at (signs_of s) [] (omega arith) tt
  tokens_within (s ∷ q ∷ []) at le = let many = signs_size s in signs_within at (signs_of s) ((at + length s, strange) ∷ []) (omega arith) (omega arith, tt)
  tokens_within (s ∷ q ∷ r ∷ ss) at le =
      let many = signs_size s in
      signs_within at (signs_of s) ((at + length s, quoted q) ∷ placed_tokens (at + length s + length q + 2) (r ∷ ss)) (omega arith)
      (omega arith, tokens_within (r ∷ ss) (at + length s + length q + 2) (omega arith))

  fault_within : (m : Model) (qs : List (ℕ × Token)) (count : ℕ) (p : Progress) (f : TextFault) → Within qs → fault_from m end count p qs ≡ Some f → place_in_text f ≤ end
  fault_within m [] count p f h e = go (may_end p.next) e
    where
      go : (b : Bool) → (if b then None else Some (Syntax end)) ≡ Some f → place_in_text f ≤ end
      go true e = absurd cc
      go false e = let same : Syntax end ≡ f = cc in subst (λ g. place_in_text g ≤ end) same (omega arith)
  fault_within m (q ∷ qs) count p f h e =
      go (nat_le 256 count || is_variable_too_many p (new_variable p.next q.1 qs) || begins_constraint_too_many p p.next q.1) (goes_on p.next q.1)
      (is_known m p p.next q.1) (stands_in_scope p (new_variable p.next q.1 qs)) (fault_from m end (count + 1) (progress_after m p p.next q.1) qs)
      (fault_within m qs (count + 1) (progress_after m p p.next q.1) f h.1) e
    where
      go : (a b c d : Bool) (y : Option TextFault) → (y ≡ Some f → place_in_text f ≤ end)
          → or_else (if a then Some (TooMany q.0) else (if not b then Some (Syntax q.0) else (if not c then Some (UnknownName q.0)
          else (if d then Some (Repeated q.0) else None)))) y ≡ Some f → place_in_text f ≤ end
      go true b c d y after e = let same : TooMany q.0 ≡ f = cc in subst (λ g. place_in_text g ≤ end) same h.0
      go false false c d y after e = let same : Syntax q.0 ≡ f = cc in subst (λ g. place_in_text g ≤ end) same h.0
      go false true false d y after e = let same : UnknownName q.0 ≡ f = cc in subst (λ g. place_in_text g ≤ end) same h.0
      go false true true true y after e = let same : Repeated q.0 ≡ f = cc in subst (λ g. place_in_text g ≤ end) same h.0
      go false true true false y after e = after e

-- a fault stands at a byte of the text or at its end
pub fault_is_within : (m : Model) (scope : Scope) (s : List ℕ) (f : TextFault) → query_fault m scope s ≡ Some f → place_in_text f ≤ length s
unfolding query_fault
fault_is_within m scope s f e =
    fault_within (length s) m (placed_tokens 0 (cut_at_quotes s)) 0 (record { next = a_query; scope = scope; new = 0; constraints = 0 }) f
    (tokens_within (length s) (cut_at_quotes s) 0 (let all = cut_size s in omega arith)) e

-- in a text within its limit, the place is told as it is
pub fault_told : (m : Model) (scope : Scope) (k : List ℕ) (d : Document) (text : List ℕ) → text_of_member k d ≡ Some text → member_within 4096 k d ≡ true
    → (f : TextFault) (told : ℕ) → query_fault m scope text ≡ Some f → told ≡ capped (place_in_text f) → place_at_member m scope k d ≡ Some told
fault_told m scope k d text is within f told e capped_is =
    let inside = fault_is_within m scope text f e in
    let short = member_is_short 4096 k d text is within in
    ap (λ o. place_if_any (option_and_then (query_fault m scope) o)) is
    ∙ (ap place_if_any e ∙ ap Some (let same : place_in_text f ≡ told = omega arith in same))
