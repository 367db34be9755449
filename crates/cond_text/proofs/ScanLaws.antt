-- The scan of a text for its first fault, step by step.
use Rattle.std.proofs.Common.{◌≡◌, ◌∙◌, sym, ap, subst, refl, ℕ, zero, suc, ◌+◌, ◌<◌, ◌≤◌, List, [], ◌∷◌, ◌++◌, length, append_assoc, Bool, true, false, ◌||◌, Option, Some, None, arith}
use Rattle.std.specs.Prelude.{option_map, if◌then◌else◌, bytes_eq, nat_le}
use Rattle.std.proofs.Math.ListN.{drop_of_length-le}
use Rattle.std.proofs.lemmas.List.{map-append, append-nil}
use Rattle.std.proofs.lemmas.Bool.{lt-leb}
use Rattle.meaning.specs.Texts.{is_name, place_of}
use Rattle.meaning.specs.Expressions.{name_at, pieces_of, tokens_of}
use Rattle.meaning.specs.BundlePlaces.{is_among, or_else}
use Rattle.meaning.specs.ExpressionFaults.{TextFault, TooMany, Syntax, UnknownName, placed_tokens, Next, an_operand, after_operand, is_truth_word, goes_on, next_after, is_known, may_end, fault_from, expression_fault}
use Rattle.meaning.proofs.ExpressionTexts.{lexeme}
use Rattle.cond_text.specs.declared.token.Token.{Token}
use Rattle.cond_text.specs.declared.token.Token.TheVariants.{True, False, Name, Not, And, Or, Implies, Same, Open, Close}
use Rattle.cond_text.specs.declared.scan.ExprStop.{ExprStop}
use Rattle.cond_text.specs.Tokens.{with_word, with_words, Stands, follow, Runs}
use Rattle.cond_text.specs.Lexemes.{placed_from, tokens_from, StandsAt, IsBlankAt, IsUnknownAt}
use Rattle.cond_text.specs.Scans.{opened_in, StopsAt, unknown_stop}
use Rattle.cond_text.specs.Stops.{Tells}

-- ---- one token

same_some : {A : Type 0} {x y : A} → Some x ≡ Some y → x ≡ y
same_some e = cc

or_right : (a b : Bool) → b ≡ true → a || b ≡ true
or_right true b e = refl
or_right false b e = e

among_if : (names : List (List ℕ)) (w : List ℕ) (n : ℕ) → place_of w names ≡ Some n → is_among names w ≡ true
among_if [] w n e = absurd cc
among_if (x ∷ xs) w n e = at_first (bytes_eq w x) (is_among xs w) (place_of w xs) (among_if xs w) n e
  where
    at_first : (a b : Bool) (o : Option ℕ) → ((k : ℕ) → o ≡ Some k → b ≡ true) → (n : ℕ)
        → (if a then Some 0 else option_map suc o) ≡ Some n → a || b ≡ true
    at_first true b o later n e = refl
    at_first false b (Some k) later n e = later k refl
    at_first false b None later n e = absurd cc

-- a token that may stand here has no fault
pub follow_goes : (names : List (List ℕ)) (next : Next) (t : Token) (n : Next) → Stands names t → follow next t ≡ Some n
    → (goes_on next (lexeme (with_word names t)) ≡ true) × (is_known names (lexeme (with_word names t)) ≡ true) × (next_after next (lexeme (with_word names t)) ≡ n)
follow_goes names (an_operand k) True n st e = (refl, refl, same_some e)
follow_goes names (an_operand k) False n st e = (refl, refl, same_some e)
follow_goes names (an_operand k) (Name m) n st e = (
  or_right (is_truth_word (name_at names m)) (is_name (name_at names m)) st.0,
  or_right (is_truth_word (name_at names m)) (is_among names (name_at names m)) (among_if names (name_at names m) m st.1),
  same_some e,
)
follow_goes names (an_operand k) Not n st e = (refl, refl, same_some e)
follow_goes names (an_operand k) Open n st e = (refl, refl, same_some e)
follow_goes names (after_operand k) And n st e = (refl, refl, same_some e)
follow_goes names (after_operand k) Or n st e = (refl, refl, same_some e)
follow_goes names (after_operand k) Implies n st e = (refl, refl, same_some e)
follow_goes names (after_operand k) Same n st e = (refl, refl, same_some e)
follow_goes names (after_operand (suc k)) Close n st e = (refl, refl, same_some e)
follow_goes names (after_operand zero) Close n st e = absurd cc
follow_goes names next t n st e = absurd cc

pub follow_runs : (names : List (List ℕ)) (next : Next) (t : Token) (n : Next) (ts : List Token) → Stands names t → follow next t ≡ Some n
    → Runs names n ts → Runs names next (t ∷ ts)
follow_runs names (an_operand k) True n ts st e h = subst (λ m. Runs names m ts) (sym (same_some e)) h
follow_runs names (an_operand k) False n ts st e h = subst (λ m. Runs names m ts) (sym (same_some e)) h
follow_runs names (an_operand k) (Name i) n ts st e h = (st, subst (λ m. Runs names m ts) (sym (same_some e)) h)
follow_runs names (an_operand k) Not n ts st e h = subst (λ m. Runs names m ts) (sym (same_some e)) h
follow_runs names (an_operand k) Open n ts st e h = subst (λ m. Runs names m ts) (sym (same_some e)) h
follow_runs names (after_operand k) And n ts st e h = subst (λ m. Runs names m ts) (sym (same_some e)) h
follow_runs names (after_operand k) Or n ts st e h = subst (λ m. Runs names m ts) (sym (same_some e)) h
follow_runs names (after_operand k) Implies n ts st e h = subst (λ m. Runs names m ts) (sym (same_some e)) h
follow_runs names (after_operand k) Same n ts st e h = subst (λ m. Runs names m ts) (sym (same_some e)) h
follow_runs names (after_operand (suc k)) Close n ts st e h = subst (λ m. Runs names m ts) (sym (same_some e)) h
follow_runs names (after_operand zero) Close n ts st e h = absurd cc
follow_runs names next t n ts st e h = absurd cc

opened_by : (a n : Next) (m : ℕ) → Some a ≡ Some n → opened_in a ≤ m → opened_in n ≤ m
opened_by a n m e h = subst (λ b. opened_in b ≤ m) (same_some e) h

pub follow_opened : (next : Next) (t : Token) (n : Next) (m : ℕ) → follow next t ≡ Some n → opened_in next ≤ m → opened_in n ≤ m + 1
follow_opened (an_operand k) True n m e h = opened_by (after_operand k) n (m + 1) e (omega arith)
follow_opened (an_operand k) False n m e h = opened_by (after_operand k) n (m + 1) e (omega arith)
follow_opened (an_operand k) (Name i) n m e h = opened_by (after_operand k) n (m + 1) e (omega arith)
follow_opened (an_operand k) Not n m e h = opened_by (an_operand k) n (m + 1) e (omega arith)
follow_opened (an_operand k) Open n m e h = opened_by (an_operand (k + 1)) n (m + 1) e (omega arith)
follow_opened (after_operand k) And n m e h = opened_by (an_operand k) n (m + 1) e (omega arith)
follow_opened (after_operand k) Or n m e h = opened_by (an_operand k) n (m + 1) e (omega arith)
follow_opened (after_operand k) Implies n m e h = opened_by (an_operand k) n (m + 1) e (omega arith)
follow_opened (after_operand k) Same n m e h = opened_by (an_operand k) n (m + 1) e (omega arith)
follow_opened (after_operand (suc k)) Close n m e h = opened_by (after_operand k) n (m + 1) e (omega arith)
follow_opened (after_operand zero) Close n m e h = absurd cc
follow_opened next t n m e h = absurd cc

-- ---- a name that isn't in the list

pub unknown_stops : (names : List (List ℕ)) (s : List ℕ) (at count : ℕ) (next : Next) → count < 512 → IsUnknownAt names s at → StopsAt names s at count next (unknown_stop next at)
unknown_stops names s at count (an_operand k) few h end =
    let no_more : nat_le 512 count ≡ false = lt-leb 512 count few in
    (at, rw (h.placed, no_more, h.no_truth_word, h.proper, h.unknown) refl, refl)
unknown_stops names s at count (after_operand zero) few h end =
    let no_more : nat_le 512 count ≡ false = lt-leb 512 count few in (at, rw (h.placed, no_more) refl, refl)
unknown_stops names s at count (after_operand (suc k)) few h end =
    let no_more : nat_le 512 count ≡ false = lt-leb 512 count few in (at, rw (h.placed, no_more) refl, refl)

-- ---- the whole text

-- how far a scan has come: the first fault is in what is left, and the tokens so far lead there
pub record Scanned (names : List (List ℕ)) (s : List ℕ) (at count : ℕ) (next : Next) (found : List Token) : Type 0 where
  pub fault : expression_fault names s ≡ fault_from names (length s) count next (placed_from s at)
  pub tokens : tokens_of (pieces_of s) ≡ option_map (λ ts. with_words names found ++ ts) (tokens_from s at)
  pub runs : (ts : List Token) → Runs names next ts → Runs names (an_operand 0) (found ++ ts)
  pub opened : opened_in next ≤ count
  pub few : count ≤ 512

map_same : {A : Type 0} (o : Option (List A)) → o ≡ option_map (λ ts. [] ++ ts) o
map_same None = refl
map_same (Some ts) = refl

pub scan_begins : (names : List (List ℕ)) (s : List ℕ) → Scanned names s 0 0 (an_operand 0) []
unfolding expression_fault
scan_begins names s = record {
  fault = refl;
  tokens = map_same (tokens_of (pieces_of s));
  runs = λ ts h. h;
  opened = omega arith;
  few = omega arith;
}

pub scan_skips : (names : List (List ℕ)) (s : List ℕ) (at count : ℕ) (next : Next) (tokens : List Token) → Scanned names s at count next tokens → IsBlankAt s at
    → Scanned names s (at + 1) count next tokens
scan_skips names s at count next tokens h b = record {
  fault = h.fault ∙ ap (fault_from names (length s) count next) (b.placed at);
  tokens = h.tokens ∙ ap (option_map (λ ts. with_words names tokens ++ ts)) b.tokens;
  runs = h.runs;
  opened = h.opened;
  few = h.few;
}

no_fault_here : (a b c : Bool) (at : ℕ) (y : Option TextFault) → a ≡ false → b ≡ true → c ≡ true
    → or_else (if a then Some (TooMany at) else (if b then (if c then None else Some (UnknownName at)) else Some (Syntax at))) y ≡ y
no_fault_here a b c at y few goes known = rw (few, goes, known) refl

tokens_go_on : {A : Type 0} (ts : List A) (t : A) (o : Option (List A)) → option_map (λ us. ts ++ us) (option_map (λ us. t ∷ us) o) ≡ option_map (λ us. (ts ++ t ∷ []) ++ us) o
tokens_go_on ts t None = refl
tokens_go_on ts t (Some us) = ap Some (sym (append_assoc ts (t ∷ []) us))

pub scan_takes : (names : List (List ℕ)) (s : List ℕ) (at count : ℕ) (next : Next) (tokens : List Token) (t : Token) (end : ℕ) (n : Next) → Scanned names s at count next tokens
    → StandsAt names s at t end → count < 512 → follow next t ≡ Some n → Scanned names s end (count + 1) n (tokens ++ t ∷ [])
scan_takes names s at count next tokens t end n h st less e =
    let g = follow_goes names next t n st.stands e in record {
      fault = h.fault ∙ (ap (fault_from names (length s) count next) st.placed
          ∙ (no_fault_here (nat_le 512 count) (goes_on next (lexeme (with_word names t))) (is_known names (lexeme (with_word names t))) at
          (fault_from names (length s) (count + 1) (next_after next (lexeme (with_word names t))) (placed_from s end)) (lt-leb 512 count less) g.0 g.1
          ∙ ap (λ m. fault_from names (length s) (count + 1) m (placed_from s end)) g.2));
      tokens = h.tokens ∙ (ap (option_map (λ us. with_words names tokens ++ us)) st.tokens
          ∙ (tokens_go_on (with_words names tokens) (with_word names t) (tokens_from s end)
          ∙ ap (λ ws. option_map (λ us. ws ++ us) (tokens_from s end)) (sym (map-append (with_word names) tokens (t ∷ [])))));
      runs = λ ts r. subst (Runs names (an_operand 0)) (sym (append_assoc tokens (t ∷ []) ts)) (h.runs (t ∷ ts) (follow_runs names next t n ts st.stands e r));
      opened = follow_opened next t n count e h.opened;
      few = omega arith;
    }

pub scan_stops : (names : List (List ℕ)) (s : List ℕ) (at count : ℕ) (next : Next) (tokens : List Token) (stop : ExprStop) → Scanned names s at count next tokens
    → StopsAt names s at count next stop → Tells stop (expression_fault names s)
scan_stops names s at count next tokens stop h e = subst (Tells stop) (sym h.fault) (e (length s))

-- ---- the end of the text

pub scan_ends_early : (names : List (List ℕ)) (s : List ℕ) (at count : ℕ) (next : Next) (tokens : List Token) → Scanned names s at count next tokens → length s ≤ at
    → may_end next ≡ false → expression_fault names s ≡ Some (Syntax (length s))
scan_ends_early names s at count next tokens h past early =
    h.fault ∙ (ap (λ us. fault_from names (length s) count next (placed_tokens at (pieces_of us))) (drop_of_length-le s past)
    ∙ ap (λ b. if b then None else Some (Syntax (length s))) early)

pub record Done (names : List (List ℕ)) (s : List ℕ) (found : List Token) : Type 0 where
  pub no_fault : expression_fault names s ≡ None
  pub tokens : tokens_of (pieces_of s) ≡ Some (with_words names found)
  pub runs : Runs names (an_operand 0) found

pub scan_ends : (names : List (List ℕ)) (s : List ℕ) (at count : ℕ) (next : Next) (tokens : List Token) → Scanned names s at count next tokens → length s ≤ at
    → may_end next ≡ true → Done names s tokens
scan_ends names s at count next tokens h past closed = record {
  no_fault = h.fault ∙ (ap (λ us. fault_from names (length s) count next (placed_tokens at (pieces_of us))) (drop_of_length-le s past)
      ∙ ap (λ b. if b then None else Some (Syntax (length s))) closed);
  tokens = h.tokens ∙ (ap (λ us. option_map (λ ts. with_words names tokens ++ ts) (tokens_of (pieces_of us))) (drop_of_length-le s past)
      ∙ ap Some (append-nil (with_words names tokens)));
  runs = subst (Runs names (an_operand 0)) (append-nil tokens) (h.runs [] closed);
}
