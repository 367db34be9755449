-- The tokens of a text, by what stands at its front.
use Rattle.std.proofs.Common.{◌≡◌, ◌∙◌, sym, ap, subst, refl, ℕ, zero, suc, ◌+◌, List, [], ◌∷◌, ◌++◌, length, take, drop, Bool, true, false, not, length-append, arith}
use Rattle.std.specs.Prelude.{◌==◌, ◌&&◌, cond, if◌then◌else◌}
use Rattle.std.specs.List.{list_all, prefix_len}
use Rattle.std.proofs.lemmas.Bool.{true≢false}
use Rattle.std.proofs.lemmas.Bool.Decides.{nat_tests}
use Rattle.meaning.specs.Texts.{is_word_byte}
use Rattle.meaning.specs.QueryTexts.{Token, word, quoted, colon, comma, open_bracket, close_bracket, open_paren, close_paren, dot, equal_sign, exclamation, bar, slash, plus, caret, blank, strange, sign_of, in_first, cut_at_quotes, longer_word, signs_of}
use Rattle.meaning.specs.QueryFaults.{word_or_strange, placed_signs, placed_tokens}
use Rattle.cond_text.specs.Lexemes.{begins_with}
use Rattle.path_queries.specs.Lexing.{is_no_quote, alone}

-- ---- pieces between quotes

-- there is a first piece
pub cut_shape : (s : List ℕ) → (h : List ℕ) × (hs : List (List ℕ)) × (cut_at_quotes s ≡ h ∷ hs)
cut_shape [] = ([], [], refl)
cut_shape (c ∷ cs) = go (c == 39) (cut_shape cs)
  where
    go : (b : Bool) → (h : List ℕ) × (hs : List (List ℕ)) × (cut_at_quotes cs ≡ h ∷ hs)
        → (h : List ℕ) × (hs : List (List ℕ)) × ((if b then [] ∷ cut_at_quotes cs else in_first c (cut_at_quotes cs)) ≡ h ∷ hs)
    go true r = ([], cut_at_quotes cs, refl)
    go false r = (c ∷ r.0, r.1, ap (in_first c) r.2)

-- a byte that is no quote goes to the first piece
cut_more : (c : ℕ) (cs h : List ℕ) (hs : List (List ℕ)) → (c == 39) ≡ false → cut_at_quotes cs ≡ h ∷ hs → cut_at_quotes (c ∷ cs) ≡ (c ∷ h) ∷ hs
cut_more c cs h hs unlike e = ap (λ b. if b then [] ∷ cut_at_quotes cs else in_first c (cut_at_quotes cs)) unlike ∙ ap (in_first c) e

both_true : (a b : Bool) → a && b ≡ true → (a ≡ true) × (b ≡ true)
both_true true b e = (refl, e)
both_true false b e = absurd cc

no_quote : (c : ℕ) → not (c == 39) ≡ true → (c == 39) ≡ false
no_quote c e = go (c == 39) e
  where
    go : (b : Bool) → not b ≡ true → b ≡ false
    go true e = absurd cc
    go false e = refl

word_no_quote : (c : ℕ) → is_word_byte c ≡ true → (c == 39) ≡ false
word_no_quote c e = grind (arith, nat_tests)

cut_run : (w rest h : List ℕ) (hs : List (List ℕ)) → list_all is_word_byte w ≡ true → cut_at_quotes rest ≡ h ∷ hs → cut_at_quotes (w ++ rest) ≡ (w ++ h) ∷ hs
cut_run [] rest h hs all e = e
cut_run (c ∷ w) rest h hs all e =
    let both = both_true (is_word_byte c) (list_all is_word_byte w) all in
    cut_more c (w ++ rest) (w ++ h) hs (word_no_quote c both.0) (cut_run w rest h hs both.1 e)

pub cut_closed : (q rest : List ℕ) → list_all is_no_quote q ≡ true → cut_at_quotes (q ++ 39 ∷ rest) ≡ q ∷ cut_at_quotes rest
cut_closed [] rest all = refl
cut_closed (c ∷ q) rest all =
    let both = both_true (is_no_quote c) (list_all is_no_quote q) all in
    cut_more c (q ++ 39 ∷ rest) q (cut_at_quotes rest) (no_quote c both.0) (cut_closed q rest both.1)

pub cut_open : (q : List ℕ) → list_all is_no_quote q ≡ true → cut_at_quotes q ≡ q ∷ []
cut_open [] all = refl
cut_open (c ∷ q) all =
    let both = both_true (is_no_quote c) (list_all is_no_quote q) all in cut_more c q q [] (no_quote c both.0) (cut_open q both.1)

-- the tokens from the end of the first piece on
tail_of : ℕ → List (List ℕ) → List (ℕ × Token)
tail_of at [] = []
tail_of at (q ∷ []) = (at, strange) ∷ []
tail_of at (q ∷ ss) = (at, quoted q) ∷ placed_tokens (at + length q + 2) ss

placed_first : (at : ℕ) (h : List ℕ) (hs : List (List ℕ)) → placed_tokens at (h ∷ hs) ≡ placed_signs at (signs_of h) (tail_of (at + length h) hs)
unfolding tail_of
placed_first at h [] = refl
placed_first at h (q ∷ []) = refl
placed_first at h (q ∷ s ∷ ss) = refl

placed_cut : (at : ℕ) (s h : List ℕ) (hs : List (List ℕ)) → cut_at_quotes s ≡ h ∷ hs → placed_tokens at (cut_at_quotes s) ≡ placed_signs at (signs_of h) (tail_of (at + length h) hs)
placed_cut at s h hs e = ap (placed_tokens at) e ∙ placed_first at h hs

-- ---- signs

-- what holds of a sign, for each byte that it may be
sign_cases : (P : Token → Type 0) (c : ℕ) → ((c == 32) ≡ true → P blank) → ((c == 58) ≡ true → P colon) → ((c == 44) ≡ true → P comma)
    → ((c == 91) ≡ true → P open_bracket) → ((c == 93) ≡ true → P close_bracket) → ((c == 40) ≡ true → P open_paren) → ((c == 41) ≡ true → P close_paren)
    → ((c == 46) ≡ true → P dot) → ((c == 61) ≡ true → P equal_sign) → ((c == 33) ≡ true → P exclamation) → ((c == 124) ≡ true → P bar) → ((c == 47) ≡ true → P slash)
    → ((c == 43) ≡ true → P plus) → ((c == 94) ≡ true → P caret) → P strange → P (sign_of c)
sign_cases P c h32 h58 h44 h91 h93 h40 h41 h46 h61 h33 h124 h47 h43 h94 other =
    step (c == 32) blank _ h32 (step (c == 58) colon _ h58 (step (c == 44) comma _ h44 (step (c == 91) open_bracket _ h91
    (step (c == 93) close_bracket _ h93 (step (c == 40) open_paren _ h40 (step (c == 41) close_paren _ h41 (step (c == 46) dot _ h46
    (step (c == 61) equal_sign _ h61 (step (c == 33) exclamation _ h33 (step (c == 124) bar _ h124 (step (c == 47) slash _ h47
    (step (c == 43) plus _ h43 (step (c == 94) caret strange h94 other)))))))))))))
  where
    step : (b : Bool) (x y : Token) → (b ≡ true → P x) → P y → P (if b then x else y)
    step true x y h g = h refl
    step false x y h g = g

no_equals : List Token → Bool
no_equals (equal_sign ∷ ts) = false
no_equals ts = true

longer : (c : ℕ) (ts : List Token) → (w : List ℕ) × (us : List Token) × (longer_word c ts ≡ word (c ∷ w) ∷ us)
longer c (word w ∷ ts) = (w, ts, refl)
longer c ts = ([], ts, refl)

signs_no_equals : (d : ℕ) (h : List ℕ) → (d == 61) ≡ false → no_equals (signs_of (d ∷ h)) ≡ true
unfolding no_equals
signs_no_equals d h unlike = go (is_word_byte d)
  where
    go : (b : Bool) → no_equals (if b then longer_word d (signs_of h) else sign_of d ∷ signs_of h) ≡ true
    go true = let r = longer d (signs_of h) in rw r.2 refl
    go false =
        sign_cases (λ t. no_equals (t ∷ signs_of h) ≡ true) d (λ e. refl) (λ e. refl) (λ e. refl) (λ e. refl) (λ e. refl) (λ e. refl) (λ e. refl)
        (λ e. refl) (λ e. absurd (true≢false (sym e ∙ unlike))) (λ e. refl) (λ e. refl) (λ e. refl) (λ e. refl) (λ e. refl) refl

first_no_equals : (s h : List ℕ) (hs : List (List ℕ)) → begins_with 61 s ≡ false → cut_at_quotes s ≡ h ∷ hs → no_equals (signs_of h) ≡ true
unfolding no_equals
first_no_equals [] h hs unlike e = let is : [] ≡ h = cc in subst (λ g. no_equals (signs_of g) ≡ true) is refl
first_no_equals (c ∷ cs) h hs unlike e = go (c == 39) (cut_shape cs) e
  where
    go : (b : Bool) → (g : List ℕ) × (gs : List (List ℕ)) × (cut_at_quotes cs ≡ g ∷ gs)
        → (if b then [] ∷ cut_at_quotes cs else in_first c (cut_at_quotes cs)) ≡ h ∷ hs → no_equals (signs_of h) ≡ true
    go true r e = let is : [] ≡ h = cc in subst (λ g. no_equals (signs_of g) ≡ true) is refl
    go false r e =
        let f : (c ∷ r.0) ∷ r.1 ≡ h ∷ hs = sym (ap (in_first c) r.2) ∙ e in
        let is : c ∷ r.0 ≡ h = cc in subst (λ g. no_equals (signs_of g) ≡ true) is (signs_no_equals c r.0 unlike)

lone_exclamation : (at : ℕ) (us : List Token) (rest : List (ℕ × Token)) → no_equals us ≡ true
    → placed_signs at (exclamation ∷ us) rest ≡ (at, strange) ∷ placed_signs (at + 1) us rest
unfolding no_equals
lone_exclamation at [] rest h = refl
lone_exclamation at (equal_sign ∷ us) rest h = absurd (true≢false (sym h))
lone_exclamation at (u ∷ us) rest h = refl

sign_first : (at c : ℕ) (us : List Token) (rest : List (ℕ × Token)) → (c == 32) ≡ false → ((c == 33) ≡ true → no_equals us ≡ true)
    → placed_signs at (sign_of c ∷ us) rest ≡ (at, alone (sign_of c)) ∷ placed_signs (at + 1) us rest
sign_first at c us rest unlike lone =
    sign_cases (λ t. placed_signs at (t ∷ us) rest ≡ (at, alone t) ∷ placed_signs (at + 1) us rest) c (λ e. absurd (true≢false (sym e ∙ unlike))) (λ e. refl) (λ e. refl)
    (λ e. refl) (λ e. refl) (λ e. refl) (λ e. refl) (λ e. refl) (λ e. refl) (λ e. lone_exclamation at us rest (lone e)) (λ e. refl) (λ e. refl) (λ e. refl) (λ e. refl) refl

pub blank_first : (at : ℕ) (cs : List ℕ) → placed_tokens at (cut_at_quotes (32 ∷ cs)) ≡ placed_tokens (at + 1) (cut_at_quotes cs)
blank_first at cs =
    let r = cut_shape cs in
    placed_cut at (32 ∷ cs) (32 ∷ r.0) r.1 (cut_more 32 cs r.0 r.1 refl r.2)
    ∙ (ap (λ m. placed_signs (at + 1) (signs_of r.0) (tail_of m r.1)) (let f : at + suc (length r.0) ≡ at + 1 + length r.0 = omega arith in f)
    ∙ sym (placed_cut (at + 1) cs r.0 r.1 r.2))

pub one_sign : (at c : ℕ) (cs : List ℕ) → (c == 32) ≡ false → (c == 39) ≡ false → is_word_byte c ≡ false → ((c == 33) ≡ true → begins_with 61 cs ≡ false)
    → placed_tokens at (cut_at_quotes (c ∷ cs)) ≡ (at, alone (sign_of c)) ∷ placed_tokens (at + 1) (cut_at_quotes cs)
one_sign at c cs no_blank no_q no_word lone =
    let r = cut_shape cs in
    placed_cut at (c ∷ cs) (c ∷ r.0) r.1 (cut_more c cs r.0 r.1 no_q r.2)
    ∙ (ap (λ b. placed_signs at (if b then longer_word c (signs_of r.0) else sign_of c ∷ signs_of r.0) (tail_of (at + suc (length r.0)) r.1)) no_word
    ∙ (sign_first at c (signs_of r.0) (tail_of (at + suc (length r.0)) r.1) no_blank (λ e. first_no_equals cs r.0 r.1 (lone e) r.2)
    ∙ ap (λ us. (at, alone (sign_of c)) ∷ us) (ap (λ m. placed_signs (at + 1) (signs_of r.0) (tail_of m r.1)) (let f : at + suc (length r.0) ≡ at + 1 + length r.0 = omega arith in f)
    ∙ sym (placed_cut (at + 1) cs r.0 r.1 r.2))))

pub differs_first : (at : ℕ) (cs : List ℕ) → placed_tokens at (cut_at_quotes (33 ∷ 61 ∷ cs)) ≡ (at, exclamation) ∷ placed_tokens (at + 2) (cut_at_quotes cs)
differs_first at cs =
    let r = cut_shape cs in
    placed_cut at (33 ∷ 61 ∷ cs) (33 ∷ 61 ∷ r.0) r.1 (cut_more 33 (61 ∷ cs) (61 ∷ r.0) r.1 refl (cut_more 61 cs r.0 r.1 refl r.2))
    ∙ ap (λ us. (at, exclamation) ∷ us) (ap (λ m. placed_signs (at + 2) (signs_of r.0) (tail_of m r.1)) (let f : at + suc (suc (length r.0)) ≡ at + 2 + length r.0 = omega arith in f)
    ∙ sym (placed_cut (at + 2) cs r.0 r.1 r.2))

-- ---- runs

-- the list begins with a byte of a word
abbrev pub goes_on_word : List ℕ → Bool
goes_on_word [] = false
goes_on_word (c ∷ cs) = is_word_byte c

first_ends : (s h : List ℕ) (hs : List (List ℕ)) → goes_on_word s ≡ false → cut_at_quotes s ≡ h ∷ hs → goes_on_word h ≡ false
first_ends [] h hs unlike e = let is : [] ≡ h = cc in subst (λ g. goes_on_word g ≡ false) is refl
first_ends (c ∷ cs) h hs unlike e = go (c == 39) (cut_shape cs) e
  where
    go : (b : Bool) → (g : List ℕ) × (gs : List (List ℕ)) × (cut_at_quotes cs ≡ g ∷ gs)
        → (if b then [] ∷ cut_at_quotes cs else in_first c (cut_at_quotes cs)) ≡ h ∷ hs → goes_on_word h ≡ false
    go true r e = let is : [] ≡ h = cc in subst (λ g. goes_on_word g ≡ false) is refl
    go false r e =
        let f : (c ∷ r.0) ∷ r.1 ≡ h ∷ hs = sym (ap (in_first c) r.2) ∙ e in
        let is : c ∷ r.0 ≡ h = cc in subst (λ g. goes_on_word g ≡ false) is unlike

run_signs : (c : ℕ) (w h : List ℕ) → list_all is_word_byte (c ∷ w) ≡ true → goes_on_word h ≡ false → signs_of ((c ∷ w) ++ h) ≡ word (c ∷ w) ∷ signs_of h
run_signs c [] h all ends = rw (first_of all) (ends_run h ends)
  where
    first_of : is_word_byte c && true ≡ true → is_word_byte c ≡ true
    first_of e = (both_true (is_word_byte c) true e).0

    ends_run : (h : List ℕ) → goes_on_word h ≡ false → longer_word c (signs_of h) ≡ word (c ∷ []) ∷ signs_of h
    ends_run [] ends = refl
    ends_run (d ∷ ds) ends =
        rw ends (sign_cases (λ t. longer_word c (t ∷ signs_of ds) ≡ word (c ∷ []) ∷ t ∷ signs_of ds) d
        (λ e. refl) (λ e. refl) (λ e. refl) (λ e. refl) (λ e. refl) (λ e. refl) (λ e. refl) (λ e. refl) (λ e. refl) (λ e. refl) (λ e. refl) (λ e. refl) (λ e. refl) (λ e. refl) refl)
run_signs c (d ∷ w) h all ends =
    let both = both_true (is_word_byte c) (list_all is_word_byte (d ∷ w)) all in
    rw both.0 (ap (longer_word c) (run_signs d w h both.1 ends))

pub run_first : (at c : ℕ) (w rest : List ℕ) → list_all is_word_byte (c ∷ w) ≡ true → goes_on_word rest ≡ false
    → placed_tokens at (cut_at_quotes ((c ∷ w) ++ rest)) ≡ (at, word_or_strange (c ∷ w)) ∷ placed_tokens (at + length (c ∷ w)) (cut_at_quotes rest)
run_first at c w rest all ends =
    let r = cut_shape rest in
    placed_cut at ((c ∷ w) ++ rest) ((c ∷ w) ++ r.0) r.1 (cut_run (c ∷ w) rest r.0 r.1 all r.2)
    ∙ (ap (λ ts. placed_signs at ts (tail_of (at + length ((c ∷ w) ++ r.0)) r.1)) (run_signs c w r.0 all (first_ends rest r.0 r.1 ends r.2))
    ∙ ap (λ us. (at, word_or_strange (c ∷ w)) ∷ us)
    (ap (λ m. placed_signs (at + length (c ∷ w)) (signs_of r.0) (tail_of m r.1)) (moved (length ((c ∷ w) ++ r.0)) (length (c ∷ w)) (length r.0) (length-append (c ∷ w) r.0))
    ∙ sym (placed_cut (at + length (c ∷ w)) rest r.0 r.1 r.2)))
  where
    moved : (n m k : ℕ) → n ≡ m + k → at + n ≡ at + m + k
    moved n m k e = omega arith

-- ---- quotes

pub quote_first : (at : ℕ) (q rest : List ℕ) → list_all is_no_quote q ≡ true
    → placed_tokens at (cut_at_quotes (39 ∷ (q ++ 39 ∷ rest))) ≡ (at, quoted q) ∷ placed_tokens (at + length q + 2) (cut_at_quotes rest)
quote_first at q rest all =
    let r = cut_shape rest in
    ap (λ ss. placed_tokens at ([] ∷ ss)) (cut_closed q rest all ∙ ap (λ ss. q ∷ ss) r.2)
    ∙ (ap (λ k. (k, quoted q) ∷ placed_tokens (k + length q + 2) (r.0 ∷ r.1)) (let f : at + 0 ≡ at = omega arith in f)
    ∙ ap (λ ss. (at, quoted q) ∷ placed_tokens (at + length q + 2) ss) (sym r.2))

pub open_quote_first : (at : ℕ) (q : List ℕ) → list_all is_no_quote q ≡ true → placed_tokens at (cut_at_quotes (39 ∷ q)) ≡ (at, strange) ∷ []
open_quote_first at q all =
    ap (λ ss. placed_tokens at ([] ∷ ss)) (cut_open q all) ∙ ap (λ k. (k, strange) ∷ []) (let f : at + 0 ≡ at = omega arith in f)

-- ---- the front of a list that passes a test

pub front_passes : (p : ℕ → Bool) (s : List ℕ) → list_all p (take (prefix_len p s) s) ≡ true
front_passes p [] = refl
front_passes p (c ∷ cs) = go (p c) refl (front_passes p cs)
  where
    go : (b : Bool) → p c ≡ b → list_all p (take (prefix_len p cs) cs) ≡ true → list_all p (take (cond b (1 + prefix_len p cs) 0) (c ∷ cs)) ≡ true
    go true is later = let f : 1 + prefix_len p cs ≡ suc (prefix_len p cs) = omega arith in rw f (rw is later)
    go false is later = refl

pub run_ends : (s : List ℕ) → goes_on_word (drop (prefix_len is_word_byte s) s) ≡ false
run_ends [] = refl
run_ends (c ∷ cs) = go (is_word_byte c) refl (run_ends cs)
  where
    go : (b : Bool) → is_word_byte c ≡ b → goes_on_word (drop (prefix_len is_word_byte cs) cs) ≡ false
        → goes_on_word (drop (cond b (1 + prefix_len is_word_byte cs) 0) (c ∷ cs)) ≡ false
    go true is later = let f : 1 + prefix_len is_word_byte cs ≡ suc (prefix_len is_word_byte cs) = omega arith in rw f later
    go false is later = is
