-- The texts of keys: steps are told apart by their numbers, keys by their steps, and a key names the one above it.
use Rattle.std.proofs.Common.{◌≡◌, ◌≢◌, ℕ, ◌<◌, List, [], ◌∷◌, ◌++◌, map, length, Bool, true, false, not, ◌&&◌, ◌||◌, ◌==◌, Option, Some, None, refl, sym, ap, ◌∙◌, subst, arith}
use Rattle.std.specs.Prelude.{cond, decimal}
use Rattle.std.specs.List.{list_any, join_with_byte}
use Rattle.std.specs.Str.Parse.{AllDigits}
use Rattle.std.specs.Int.{IsInRange}
use Rattle.std.proofs.lemmas.List.{append_assoc, append_cancel_left, append-nil}
use Rattle.std.proofs.lemmas.List.Folds.{list_any-append}
use Rattle.std.proofs.lemmas.Fmt.{decimal_injective, decimal_is_IsNumeral}
use Rattle.std.proofs.lemmas.Str.Parse.{digit_from_value}
use Rattle.meaning.specs.Templates.{key_below, key_in_branch}
use Rattle.meaning.specs.Tidy.{key_above}
use Rattle.meaning.proofs.CutTrees.{Each}
use Rattle.meaning.proofs.KeySteps.{step_text, key_under, IsSmall, IsSmallAnswer, GoesOn, IsUnder}
use Rattle.meaning.proofs.EqualityTests.{same_number, other_number, not_both}

-- ---- bytes

abbrev pub has_byte : ℕ → List ℕ → Bool
has_byte c s = list_any (λ d. d == c) s

-- what stands before the first such byte, and what stands after it
abbrev until : ℕ → List ℕ → List ℕ
until c [] = []
until c (d ∷ ds) = cond (d == c) [] (d ∷ until c ds)

abbrev after : ℕ → List ℕ → List ℕ
after c [] = []
after c (d ∷ ds) = cond (d == c) ds (after c ds)

first_false : (a b : Bool) → (a || b) ≡ false → (a ≡ false) × (b ≡ false)
first_false false b e = (refl, e)
first_false true b e = cc

until_byte : (c : ℕ) (s t : List ℕ) → has_byte c s ≡ false → until c (s ++ c ∷ t) ≡ s
until_byte c [] t h = ap (λ b. cond b [] (c ∷ until c t)) (same_number c c refl)
until_byte c (d ∷ s) t h =
    let both : ((d == c) ≡ false) × (has_byte c s ≡ false) = first_false (d == c) (has_byte c s) h in
    ap (λ b. cond b [] (d ∷ until c (s ++ c ∷ t))) both.0 ∙ ap (λ r. d ∷ r) (until_byte c s t both.1)

until_end : (c : ℕ) (s : List ℕ) → has_byte c s ≡ false → until c s ≡ s
until_end c [] h = refl
until_end c (d ∷ s) h =
    let both : ((d == c) ≡ false) × (has_byte c s ≡ false) = first_false (d == c) (has_byte c s) h in
    ap (λ b. cond b [] (d ∷ until c s)) both.0 ∙ ap (λ r. d ∷ r) (until_end c s both.1)

after_byte : (c : ℕ) (s t : List ℕ) → has_byte c s ≡ false → after c (s ++ c ∷ t) ≡ t
after_byte c [] t h = ap (λ b. cond b t (after c t)) (same_number c c refl)
after_byte c (d ∷ s) t h =
    let both : ((d == c) ≡ false) × (has_byte c s ≡ false) = first_false (d == c) (has_byte c s) h in
    ap (λ b. cond b (s ++ c ∷ t) (after c (s ++ c ∷ t))) both.0 ∙ after_byte c s t both.1

has_in_middle : (c : ℕ) (s t : List ℕ) → has_byte c (s ++ c ∷ t) ≡ true
has_in_middle c s t = list_any-append (λ d. d == c) s (c ∷ t) ∙ ap (λ b. has_byte c s || (b || has_byte c t)) (same_number c c refl) ∙ or_true (has_byte c s)
  where
    or_true : (b : Bool) → (b || true) ≡ true
    or_true true = refl
    or_true false = refl

-- ---- decimals

abbrev IsNoDigit : ℕ → Type 0
IsNoDigit c = (d : ℕ) → IsInRange 48 57 d → d ≢ c

no_slash : IsNoDigit 47
no_slash d r e = omega (arith, r, e)

no_dot : IsNoDigit 46
no_dot d r e = omega (arith, r, e)

no_colon : IsNoDigit 58
no_colon d r e = omega (arith, r, e)

digits_lack : (c : ℕ) → IsNoDigit c → (ds : List ℕ) → AllDigits 10 ds → has_byte c ds ≡ false
digits_lack c n [] h = refl
digits_lack c n (d ∷ ds) h = rw (other_number d c (n d (digit_from_value d h.0))) (digits_lack c n ds h.1)

decimal_lacks : (c : ℕ) → IsNoDigit c → (n : ℕ) → IsSmall n → has_byte c (decimal n) ≡ false
decimal_lacks c other n l = digits_lack c other (decimal n) (decimal_is_IsNumeral n l).0.1

-- ---- answers: decimals with dots between

abbrev joined : List ℕ → List ℕ
joined xs = join_with_byte 46 (map decimal xs)

joined_lacks : (c : ℕ) → IsNoDigit c → c ≢ 46 → (xs : List ℕ) → Each IsSmall xs → has_byte c (joined xs) ≡ false
joined_lacks c other d [] h = refl
joined_lacks c other d (x ∷ []) h = decimal_lacks c other x h.0
joined_lacks c other d (x ∷ y ∷ xs) h =
    list_any-append (λ d. d == c) (decimal x) (46 ∷ joined (y ∷ xs))
    ∙ ap (λ b. b || ((46 == c) || has_byte c (joined (y ∷ xs)))) (decimal_lacks c other x h.0)
    ∙ ap (λ b. b || has_byte c (joined (y ∷ xs))) (other_number 46 c (λ e. d (sym e)))
    ∙ joined_lacks c other d (y ∷ xs) h.1

never_empty : (x : ℕ) → IsSmall x → decimal x ≡ [] → ⊥
never_empty x l e = too_short (subst (λ s. 0 < length s) e (decimal_is_IsNumeral x l).0.0)
  where
    too_short : 0 < 0 → ⊥
    too_short h = omega (arith, h)

joined_never_empty : (x : ℕ) (xs : List ℕ) → IsSmall x → joined (x ∷ xs) ≡ [] → ⊥
joined_never_empty x [] l e = never_empty x l e
joined_never_empty x (y ∷ xs) l e = go (decimal x) e
  where
    go : (s : List ℕ) → s ++ 46 ∷ joined (y ∷ xs) ≡ [] → ⊥
    go [] f = cc
    go (c ∷ s) f = cc

joined_injective : (xs ys : List ℕ) → Each IsSmall xs → Each IsSmall ys → joined xs ≡ joined ys → xs ≡ ys
joined_injective [] [] h g e = refl
joined_injective [] (y ∷ ys) h g e = elim (joined_never_empty y ys g.0 (sym e)) [ ]
joined_injective (x ∷ xs) [] h g e = elim (joined_never_empty x xs h.0 e) [ ]
joined_injective (x ∷ []) (y ∷ []) h g e = ap (λ z. z ∷ []) (decimal_injective x y h.0 g.0 e)
joined_injective (x ∷ []) (y ∷ z ∷ ys) h g e =
    elim (not_both (has_byte 46 (decimal x)) (ap (has_byte 46) e ∙ has_in_middle 46 (decimal y) (joined (z ∷ ys))) (decimal_lacks 46 no_dot x h.0)) [ ]
joined_injective (x ∷ z ∷ xs) (y ∷ []) h g e =
    elim (not_both (has_byte 46 (decimal y)) (ap (has_byte 46) (sym e) ∙ has_in_middle 46 (decimal x) (joined (z ∷ xs))) (decimal_lacks 46 no_dot y g.0)) [ ]
joined_injective (x ∷ u ∷ xs) (y ∷ v ∷ ys) h g e =
    rw (
      decimal_injective x y h.0 g.0
          (sym (until_byte 46 (decimal x) (joined (u ∷ xs)) (decimal_lacks 46 no_dot x h.0))
          ∙ ap (until 46) e
          ∙ until_byte 46 (decimal y) (joined (v ∷ ys)) (decimal_lacks 46 no_dot y g.0)),
      joined_injective (u ∷ xs) (v ∷ ys) h.1 g.1
          (sym (after_byte 46 (decimal x) (joined (u ∷ xs)) (decimal_lacks 46 no_dot x h.0))
          ∙ ap (after 46) e
          ∙ after_byte 46 (decimal y) (joined (v ∷ ys)) (decimal_lacks 46 no_dot y g.0)),
    )
    refl

-- ---- steps

pub step_has_no_slash : (answer : Option (List ℕ)) (n : ℕ) → IsSmallAnswer answer → IsSmall n → has_byte 47 (step_text answer n) ≡ false
step_has_no_slash None n h l = decimal_lacks 47 no_slash n l
step_has_no_slash (Some answer) n h l =
    list_any-append (λ d. d == 47) (joined answer) (58 ∷ decimal n)
    ∙ ap (λ b. b || has_byte 47 (decimal n)) (joined_lacks 47 no_slash (λ e. omega (arith, e)) answer h)
    ∙ decimal_lacks 47 no_slash n l

pub step_injective : (a b : Option (List ℕ)) (n k : ℕ) → IsSmallAnswer a → IsSmallAnswer b → IsSmall n → IsSmall k → step_text a n ≡ step_text b k → (a ≡ b) × (n ≡ k)
step_injective None None n k p q l m e = (refl, decimal_injective n k l m e)
step_injective None (Some b) n k p q l m e =
    elim (not_both (has_byte 58 (decimal n)) (ap (has_byte 58) e ∙ has_in_middle 58 (joined b) (decimal k)) (decimal_lacks 58 no_colon n l)) [ ]
step_injective (Some a) None n k p q l m e =
    elim (not_both (has_byte 58 (decimal k)) (ap (has_byte 58) (sym e) ∙ has_in_middle 58 (joined a) (decimal n)) (decimal_lacks 58 no_colon k m)) [ ]
step_injective (Some a) (Some b) n k p q l m e = (
  ap Some (joined_injective a b p q (sym (until_byte 58 (joined a) (decimal n) (lacks a p)) ∙ ap (until 58) e ∙ until_byte 58 (joined b) (decimal k) (lacks b q))),
  decimal_injective n k l m (sym (after_byte 58 (joined a) (decimal n) (lacks a p)) ∙ ap (after 58) e ∙ after_byte 58 (joined b) (decimal k) (lacks b q)),
)
  where
    lacks : (xs : List ℕ) → Each IsSmall xs → has_byte 58 (joined xs) ≡ false
    lacks xs h = joined_lacks 58 no_colon (λ f. omega (arith, f)) xs h

-- ---- keys

pub key_below_is : (key : List ℕ) (n : ℕ) → key_below key n ≡ key_under key (step_text None n)
key_below_is key n = append_assoc key (47 ∷ []) (decimal n)

pub key_in_branch_is : (key answer : List ℕ) (n : ℕ) → key_in_branch key answer n ≡ key_under key (step_text (Some answer) n)
key_in_branch_is key answer n =
    append_assoc ((key ++ 47 ∷ []) ++ joined answer) (58 ∷ []) (decimal n)
    ∙ append_assoc (key ++ 47 ∷ []) (joined answer) (58 ∷ decimal n)
    ∙ append_assoc key (47 ∷ []) (joined answer ++ 58 ∷ decimal n)

-- the key above is all before the last slash
above_step : (key step : List ℕ) → has_byte 47 step ≡ false → key_above (key_under key step) ≡ key
above_step [] step h = ap (λ b. cond (not b) [] (47 ∷ key_above step)) h
above_step (c ∷ key) step h =
    ap (λ b. cond ((c == 47) && not b) [] (c ∷ key_above (key_under key step))) (has_in_middle 47 key step)
    ∙ ap (λ b. cond b [] (c ∷ key_above (key_under key step))) (and_false (c == 47))
    ∙ ap (λ s. c ∷ s) (above_step key step h)
  where
    and_false : (b : Bool) → (b && false) ≡ false
    and_false true = refl
    and_false false = refl

pub above_is : (key : List ℕ) (answer : Option (List ℕ)) (n : ℕ) → IsSmallAnswer answer → IsSmall n → key_above (key_under key (step_text answer n)) ≡ key
above_is key answer n h l = above_step key (step_text answer n) (step_has_no_slash answer n h l)

pub above_below : (key : List ℕ) (n : ℕ) → IsSmall n → key_above (key_below key n) ≡ key
above_below key n l = ap key_above (key_below_is key n) ∙ above_is key None n tt l

pub above_in_branch : (key answer : List ℕ) (n : ℕ) → Each IsSmall answer → IsSmall n → key_above (key_in_branch key answer n) ≡ key
above_in_branch key answer n h l = ap key_above (key_in_branch_is key answer n) ∙ above_is key (Some answer) n h l

-- ---- keys below keys

pub under_itself : (key : List ℕ) → IsUnder key key
under_itself key = record { rest = []; is = sym (append-nil key); goes_on = tt }

pub under_step : (key step other : List ℕ) → IsUnder (key_under key step) other → IsUnder key other
under_step key step other u = record { rest = 47 ∷ (step ++ u.rest); is = u.is ∙ append_assoc key (47 ∷ step) u.rest; goes_on = refl }

until_goes_on : (step rest : List ℕ) → has_byte 47 step ≡ false → GoesOn rest → until 47 (step ++ rest) ≡ step
until_goes_on step [] h g = ap (until 47) (append-nil step) ∙ until_end 47 step h
until_goes_on step (c ∷ rest) h g = ap (λ d. until 47 (step ++ d ∷ rest)) g ∙ until_byte 47 step rest h

-- keys below two steps of one key are two keys
pub apart_below : (key one two a b : List ℕ) → has_byte 47 one ≡ false → has_byte 47 two ≡ false → one ≢ two
    → IsUnder (key_under key one) a → IsUnder (key_under key two) b → a ≢ b
apart_below key one two a b h g d u v e = d (sym (until_goes_on one u.rest h u.goes_on) ∙ ap (until 47) same ∙ until_goes_on two v.rest g v.goes_on)
  where
    without : {c : ℕ} {s t : List ℕ} → c ∷ s ≡ c ∷ t → s ≡ t
    without f = cc

    same : one ++ u.rest ≡ two ++ v.rest
    same =
        without
        (append_cancel_left key (47 ∷ (one ++ u.rest)) (47 ∷ (two ++ v.rest))
        (sym (append_assoc key (47 ∷ one) u.rest) ∙ sym u.is ∙ e ∙ v.is ∙ append_assoc key (47 ∷ two) v.rest))

-- and a key is none of those below it
pub apart_from_below : (key step other : List ℕ) → IsUnder (key_under key step) other → key ≢ other
apart_from_below key step other u e = too_long (append_cancel_left key [] (47 ∷ (step ++ u.rest)) (append-nil key ∙ e ∙ u.is ∙ append_assoc key (47 ∷ step) u.rest))
  where
    too_long : [] ≡ 47 ∷ (step ++ u.rest) → ⊥
    too_long f = cc
