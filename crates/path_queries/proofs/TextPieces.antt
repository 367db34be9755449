-- What stands at a byte of a text.
use Rattle.std.proofs.Common.{◌≡◌, ◌∙◌, sym, ap, subst, refl, ℕ, zero, suc, ◌+◌, ◌-◌, ◌<◌, ◌≤◌, List, [], ◌∷◌, ◌++◌, length, take, drop, get_or, slice_index, slice_range, Bool, true, false, length-drop, length-append, append_assoc, arith}
use Rattle.std.specs.Prelude.{◌==◌, not, map, if◌then◌else◌}
use Rattle.std.specs.Str.{IsUtf8}
use Rattle.std.specs.List.{list_all, prefix_len}
use Rattle.std.proofs.Math.Seq.{take-length}
use Rattle.std.proofs.Math.ListN.{drop_of_length-le}
use Rattle.std.proofs.lemmas.List.{drop-drop, length-take-le, take-append-drop, get_or-drop, map-append, append-nil}
use Rattle.std.proofs.lemmas.List.Sums.{prefix_len-le-length, prefix_len_passes, prefix_len_stops}
use Rattle.std.proofs.lemmas.Bool.{eqb-true, ne_eqb}
use Rattle.std.proofs.lemmas.Bool.Decides.{nat_tests}
use Rattle.std.proofs.lemmas.Str.{lead_after_ascii}
use Rattle.meaning.specs.Texts.{is_letter, is_word_byte, begins_with_letter}
use Rattle.meaning.specs.QueryTexts.{Token, word, quoted, exclamation, strange, sign_of, cut_at_quotes}
use Rattle.meaning.specs.QueryFaults.{word_or_strange, placed_tokens}
use Rattle.cond_text.specs.Lexemes.{begins_with}
use Rattle.cond_text.proofs.LexemeLaws.{first_byte, next_byte}
use Rattle.path_queries.specs.Lexing.{is_no_quote, alone, placed_from, StandsAt}
use Rattle.path_queries.proofs.Cuts.{blank_first, one_sign, differs_first, run_first, quote_first, open_quote_first, goes_on_word, front_passes, run_ends}

placed_as : (s : List ℕ) (at : ℕ) (front : List ℕ) → drop at s ≡ front → placed_from s at ≡ placed_tokens at (cut_at_quotes front)
placed_as s at front e = ap (λ us. placed_tokens at (cut_at_quotes us)) e

-- ---- signs

pub blank_there : (s : List ℕ) (at : ℕ) → at < length s → slice_index s at ≡ 32 → placed_from s at ≡ placed_from s (at + 1)
blank_there s at inside is = placed_as s at (32 ∷ drop (at + 1) s) (first_byte s at 32 inside is) ∙ blank_first at (drop (at + 1) s)

pub sign_there : (s : List ℕ) (at c : ℕ) → at < length s → slice_index s at ≡ c → (c ≡ 32 → ⊥) → (c ≡ 39 → ⊥) → is_word_byte c ≡ false
    → (c ≡ 33 → begins_with 61 (drop (at + 1) s) ≡ false) → StandsAt s at (alone (sign_of c)) (at + 1)
sign_there s at c inside is no_blank no_quote no_word lone = record {
  beyond = omega arith;
  within = omega arith;
  placed = placed_as s at (c ∷ drop (at + 1) s) (first_byte s at c inside is)
      ∙ one_sign at c (drop (at + 1) s) (ne_eqb c 32 no_blank) (ne_eqb c 39 no_quote) no_word (λ e. lone (eqb-true c 33 e));
}

pub differs_there : (s : List ℕ) (at : ℕ) → at < length s → slice_index s at ≡ 33 → begins_with 61 (drop (at + 1) s) ≡ true → StandsAt s at exclamation (at + 2)
differs_there s at inside is next =
    let n = next_byte s (at + 1) 61 next in
    let e : drop at s ≡ 33 ∷ 61 ∷ drop (at + 2) s =
    first_byte s at 33 inside is ∙ ap (λ cs. 33 ∷ cs) (n.1 ∙ ap (λ k. 61 ∷ drop k s) (let f : at + 1 + 1 ≡ at + 2 = omega arith in f)) in
    record { beyond = omega arith; within = omega arith; placed = placed_as s at (33 ∷ 61 ∷ drop (at + 2) s) e ∙ differs_first at (drop (at + 2) s) }

-- ---- runs

-- a run stands from one byte to another
pub record RunAt (s : List ℕ) (at n : ℕ) : Type 0 where
  pub beyond : at < at + n
  pub within : at + n ≤ length s
  pub placed : placed_from s at ≡ (at, word_or_strange (take n (drop at s))) ∷ placed_from s (at + n)
  pub begins : begins_with_letter (take n (drop at s)) ≡ is_letter (slice_index s at)

run_count : (s : List ℕ) (at n : ℕ) → at < length s → is_word_byte (slice_index s at) ≡ true → n ≡ prefix_len is_word_byte (drop at s)
    → n ≡ suc (prefix_len is_word_byte (drop (at + 1) s))
run_count s at n inside run count =
    count ∙ (ap (prefix_len is_word_byte) (first_byte s at (slice_index s at) inside refl)
    ∙ (rw run (let f : 1 + prefix_len is_word_byte (drop (at + 1) s) ≡ suc (prefix_len is_word_byte (drop (at + 1) s)) = omega arith in f)))

pub run_there : (s : List ℕ) (at n : ℕ) → at < length s → is_word_byte (slice_index s at) ≡ true → n ≡ prefix_len is_word_byte (drop at s) → RunAt s at n
run_there s at n inside run count =
    there (slice_index s at) (drop (at + 1) s) (prefix_len is_word_byte (drop (at + 1) s)) (first_byte s at (slice_index s at) inside refl) refl refl run
    (run_count s at n inside run count)
  where
    there : (c : ℕ) (cs : List ℕ) (m : ℕ) → drop at s ≡ c ∷ cs → c ≡ slice_index s at → m ≡ prefix_len is_word_byte cs → is_word_byte c ≡ true → n ≡ suc m → RunAt s at n
    there c cs m first is most is_w suc_m =
        let front : take m cs ++ drop m cs ≡ cs = take-append-drop m cs in
        let all : list_all is_word_byte (c ∷ take m cs) ≡ true = rw is_w (subst (λ k. list_all is_word_byte (take k cs) ≡ true) (sym most) (front_passes is_word_byte cs)) in
        let ends : goes_on_word (drop m cs) ≡ false = subst (λ k. goes_on_word (drop k cs) ≡ false) (sym most) (run_ends cs) in
        let word_is : take n (drop at s) ≡ c ∷ take m cs = ap (λ k. take k (drop at s)) suc_m ∙ ap (take (suc m)) first in
        let rest_is : drop (at + n) s ≡ drop m cs = sym (drop-drop n at s) ∙ (ap (λ k. drop k (drop at s)) suc_m ∙ ap (drop (suc m)) first) in
        let m_le : m ≤ length cs = subst (λ k. k ≤ length cs) (sym most) (prefix_len-le-length is_word_byte cs) in
        let size : length (take m cs) ≡ m = length-take-le m cs m_le in
        let all_of : length (drop at s) ≡ suc (length cs) = ap length first in
        let long : length (drop at s) ≡ length s - at = length-drop at s in
        let to_end : at + suc (length (take m cs)) ≡ at + n = omega arith in
        record {
          beyond = omega arith;
          within = omega arith;
          placed = placed_as s at ((c ∷ take m cs) ++ drop m cs) (first ∙ ap (λ us. c ∷ us) (sym front))
              ∙ (run_first at c (take m cs) (drop m cs) all ends
              ∙ (ap (λ w. (at, word_or_strange w) ∷ placed_tokens (at + suc (length (take m cs))) (cut_at_quotes (drop m cs))) (sym word_is)
              ∙ (ap (λ k. (at, word_or_strange (take n (drop at s))) ∷ placed_tokens k (cut_at_quotes (drop m cs))) to_end
              ∙ ap (λ us. (at, word_or_strange (take n (drop at s))) ∷ placed_tokens (at + n) (cut_at_quotes us)) (sym rest_is))));
          begins = ap begins_with_letter word_is ∙ ap is_letter is;
        }

pub word_stands : (s : List ℕ) (at n : ℕ) (w : List ℕ) → RunAt s at n → w ≡ slice_range s at (at + n) → is_letter (slice_index s at) ≡ true → StandsAt s at (word w) (at + n)
word_stands s at n w r is letter =
    let is_taken : w ≡ take n (drop at s) = is ∙ ap (λ k. take k (drop at s)) (let f : at + n - at ≡ n = omega arith in f) in
    record {
      beyond = r.beyond;
      within = r.within;
      placed = r.placed ∙ (ap (λ b. (at, (if b then word (take n (drop at s)) else strange)) ∷ placed_from s (at + n)) (r.begins ∙ letter)
          ∙ ap (λ v. (at, word v) ∷ placed_from s (at + n)) (sym is_taken));
    }

pub stray_stands : (s : List ℕ) (at n : ℕ) → RunAt s at n → is_letter (slice_index s at) ≡ false → StandsAt s at strange (at + n)
stray_stands s at n r other = record {
  beyond = r.beyond;
  within = r.within;
  placed = r.placed ∙ ap (λ b. (at, (if b then word (take n (drop at s)) else strange)) ∷ placed_from s (at + n)) (r.begins ∙ other);
}

word_byte_ascii : (c : ℕ) → is_word_byte c ≡ true → c < 128
word_byte_ascii c e = grind (arith, nat_tests)

-- where a run ends, a character begins
pub run_ends_at_boundary : (s : List ℕ) (at n : ℕ) → IsUtf8 s → at < length s → is_word_byte (slice_index s at) ≡ true → n ≡ prefix_len is_word_byte (drop at s)
    → at + n < length s → 128 ≤ slice_index s (at + n) → 192 ≤ slice_index s (at + n)
run_ends_at_boundary s at n utf8 inside run count below high =
    let m : ℕ = prefix_len is_word_byte (drop (at + 1) s) in
    let suc_m : n ≡ suc m = run_count s at n inside run count in
    let passes = prefix_len_passes is_word_byte (drop at s) m 0 (subst (λ k. m < k) (sym (sym count ∙ suc_m)) (omega arith)) in
    let ascii : get_or s (at + m) 0 < 128 = word_byte_ascii (get_or s (at + m) 0) (ap is_word_byte (sym (get_or-drop at s m 0)) ∙ passes) in
    let last : at + n ≡ at + m + 1 = omega arith in
    subst (λ k. 192 ≤ slice_index s k) (sym last)
    (lead_after_ascii s (at + m) utf8 ascii (omega arith) (subst (λ k. 128 ≤ slice_index s k) last high))

-- ---- quotes

-- a character begins behind a quote
pub behind_quote : (s : List ℕ) (at : ℕ) → IsUtf8 s → slice_index s at ≡ 39 → at + 1 < length s → 128 ≤ slice_index s (at + 1) → 192 ≤ slice_index s (at + 1)
behind_quote s at utf8 is below high = lead_after_ascii s at utf8 (subst (λ c. c < 128) (sym is) (omega arith)) below high

is_quote : (c : ℕ) → is_no_quote c ≡ false → c ≡ 39
is_quote c e = go (c == 39) refl e
  where
    go : (b : Bool) → (c == 39) ≡ b → not b ≡ false → c ≡ 39
    go true is e = eqb-true c 39 is
    go false is e = absurd cc

pub closing_quote : (s : List ℕ) (at n : ℕ) → n ≡ prefix_len is_no_quote (drop at s) → at + n < length s → slice_index s (at + n) ≡ 39
closing_quote s at n count below =
    let long : length (drop at s) ≡ length s - at = length-drop at s in
    let m : ℕ = prefix_len is_no_quote (drop at s) in
    let stops = prefix_len_stops is_no_quote (drop at s) 0 (let f : m < length (drop at s) = omega arith in f) in
    ap (λ k. slice_index s (at + k)) count ∙ (sym (get_or-drop at s m 0) ∙ is_quote (get_or (drop at s) m 0) stops)

pub quoted_stands : (s : List ℕ) (at n : ℕ) (q : List ℕ) → at < length s → slice_index s at ≡ 39 → n ≡ prefix_len is_no_quote (drop (at + 1) s)
    → at + 1 + n < length s → q ≡ slice_range s (at + 1) (at + 1 + n) → StandsAt s at (quoted q) (at + 1 + n + 1)
quoted_stands s at n q inside is count below taken =
    let cs : List ℕ = drop (at + 1) s in
    let rest : List ℕ = drop (at + 1 + n + 1) s in
    let q_is : q ≡ take n cs = taken ∙ ap (λ k. take k cs) (let f : at + 1 + n - (at + 1) ≡ n = omega arith in f) in
    let close = closing_quote s (at + 1) n count below in
    let behind : drop n cs ≡ 39 ∷ rest = drop-drop n (at + 1) s ∙ first_byte s (at + 1 + n) 39 below close in
    let front : take n cs ++ 39 ∷ rest ≡ cs = ap (λ us. take n cs ++ us) (sym behind) ∙ take-append-drop n cs in
    let all : list_all is_no_quote (take n cs) ≡ true = subst (λ k. list_all is_no_quote (take k cs) ≡ true) (sym count) (front_passes is_no_quote cs) in
    let m_le : n ≤ length cs = subst (λ k. k ≤ length cs) (sym count) (prefix_len-le-length is_no_quote cs) in
    let size : length (take n cs) ≡ n = length-take-le n cs m_le in
    let to_end : at + length (take n cs) + 2 ≡ at + 1 + n + 1 = omega arith in
    record {
      beyond = omega arith;
      within = omega arith;
      placed = placed_as s at (39 ∷ (take n cs ++ 39 ∷ rest)) (first_byte s at 39 inside is ∙ ap (λ us. 39 ∷ us) (sym front))
          ∙ (quote_first at (take n cs) rest all
          ∙ (ap (λ k. (at, quoted (take n cs)) ∷ placed_tokens k (cut_at_quotes rest)) to_end
          ∙ ap (λ v. (at, quoted v) ∷ placed_from s (at + 1 + n + 1)) (sym q_is)));
    }

pub open_quote_stands : (s : List ℕ) (at n : ℕ) → at < length s → slice_index s at ≡ 39 → n ≡ prefix_len is_no_quote (drop (at + 1) s) → length s ≤ at + 1 + n
    → StandsAt s at strange (at + 1 + n)
open_quote_stands s at n inside is count past =
    let cs : List ℕ = drop (at + 1) s in
    let m_le : n ≤ length cs = subst (λ k. k ≤ length cs) (sym count) (prefix_len-le-length is_no_quote cs) in
    let long : length cs ≡ length s - (at + 1) = length-drop (at + 1) s in
    let whole : take n cs ≡ cs = ap (λ k. take k cs) (let f : n ≡ length cs = omega arith in f) ∙ take-length cs in
    let all : list_all is_no_quote cs ≡ true =
    subst (λ us. list_all is_no_quote us ≡ true) whole (subst (λ k. list_all is_no_quote (take k cs) ≡ true) (sym count) (front_passes is_no_quote cs)) in
    record {
      beyond = omega arith;
      within = omega arith;
      placed = placed_as s at (39 ∷ cs) (first_byte s at 39 inside is)
          ∙ (open_quote_first at cs all
          ∙ ap (λ us. (at, strange) ∷ placed_tokens (at + 1 + n) (cut_at_quotes us)) (sym (drop_of_length-le s past)));
    }

-- what is left of a text, as a slice of it is written
pub count_of_rest : (p : ℕ → Bool) (bytes s : List ℕ) (at n : ℕ) → bytes ≡ s → n ≡ prefix_len p (take (length bytes - at) (drop at bytes)) → n ≡ prefix_len p (drop at s)
count_of_rest p bytes s at n is count =
    count ∙ (ap (λ k. prefix_len p (take k (drop at bytes))) (sym (length-drop at bytes))
    ∙ (ap (prefix_len p) (take-length (drop at bytes)) ∙ ap (λ bs. prefix_len p (drop at bs)) is))

pub quoted_within : (s : List ℕ) (at n : ℕ) → at < length s → n ≡ prefix_len is_no_quote (drop (at + 1) s) → at + 1 + n ≤ length s
quoted_within s at n inside count =
    let m_le : n ≤ length (drop (at + 1) s) = subst (λ k. k ≤ length (drop (at + 1) s)) (sym count) (prefix_len-le-length is_no_quote (drop (at + 1) s)) in
    let long : length (drop (at + 1) s) ≡ length s - (at + 1) = length-drop (at + 1) s in omega arith

-- ---- all tokens

-- the tokens so far, and those of the rest
pub record Lexed {A : Type 0} (as_placed : A → ℕ × Token) (s : List ℕ) (at : ℕ) (found : List A) : Type 0 where
  pub tokens : placed_tokens 0 (cut_at_quotes s) ≡ map as_placed found ++ placed_from s at
  pub within : at ≤ length s

module _ {A : Type 0} (as_placed : A → ℕ × Token) (s : List ℕ) where
  pub lexed_begins : Lexed as_placed s 0 []
  lexed_begins = record { tokens = refl; within = omega arith }

  pub lexed_skips : (at : ℕ) (found : List A) → Lexed as_placed s at found → at < length s → placed_from s at ≡ placed_from s (at + 1)
      → Lexed as_placed s (at + 1) found
  lexed_skips at found h inside e = record { tokens = h.tokens ∙ ap (λ us. map as_placed found ++ us) e; within = omega arith }

  pub lexed_takes : (at : ℕ) (found : List A) (x : A) (t : Token) (end : ℕ) → Lexed as_placed s at found → StandsAt s at t end → as_placed x ≡ (at, t)
      → Lexed as_placed s end (found ++ x ∷ [])
  lexed_takes at found x t end h st is = record {
    tokens = h.tokens ∙ (ap (λ us. map as_placed found ++ us) st.placed ∙ (ap (λ p. map as_placed found ++ p ∷ placed_from s end) (sym is)
        ∙ (sym (append_assoc (map as_placed found) (as_placed x ∷ []) (placed_from s end))
        ∙ ap (λ us. us ++ placed_from s end) (sym (map-append as_placed found (x ∷ []))))));
    within = st.within;
  }

  pub lexed_ends : (at : ℕ) (found : List A) → Lexed as_placed s at found → length s ≤ at → map as_placed found ≡ placed_tokens 0 (cut_at_quotes s)
  lexed_ends at found h past =
      sym (h.tokens ∙ (ap (λ us. map as_placed found ++ placed_tokens at (cut_at_quotes us)) (drop_of_length-le s past) ∙ append-nil (map as_placed found)))
