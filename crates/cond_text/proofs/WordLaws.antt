-- What a word in a text stands for.
use Rattle.std.proofs.Common.{◌≡◌, ◌∙◌, sym, ap, subst, refl, ℕ, zero, suc, ◌+◌, ◌-◌, ◌<◌, ◌≤◌, List, [], ◌∷◌, ◌++◌, length, take, drop, get_or, slice_index, slice_range, Bool, true, false, ◌||◌, Option, Some, None, arith, length-drop}
use Rattle.std.specs.Prelude.{if◌then◌else◌, codes, bytes_eq, option_map}
use Rattle.std.specs.Str.{IsUtf8}
use Rattle.std.proofs.Math.Seq.{take-length}
use Rattle.std.specs.List.{list_all, prefix_len}
use Rattle.std.proofs.lemmas.List.{drop-drop, length-take-le, take-append-drop, get_or-drop}
use Rattle.std.proofs.lemmas.List.Sums.{prefix_len-le-length, prefix_len_passes}
use Rattle.std.proofs.lemmas.Bool.Decides.{nat_tests}
use Rattle.std.proofs.lemmas.Slice.Eq.{bytes_eq-Decides}
use Rattle.std.proofs.lemmas.Str.{lead_after_ascii}
use Rattle.meaning.specs.Texts.{is_letter, is_word_byte, begins_with_letter, is_name, place_of}
use Rattle.meaning.specs.Expressions.{run, pieces_of, name_at, then_tokens, tokens_of, word as word_token}
use Rattle.meaning.specs.BundlePlaces.{is_among}
use Rattle.meaning.specs.ExpressionFaults.{word, stray, placed_tokens, Next, an_operand, after_operand, goes_on, is_truth_word}
use Rattle.cond_text.specs.declared.token.Token.TheVariants.{True, False, Name}
use Rattle.cond_text.specs.Lexemes.{placed_from, tokens_from, StandsAt, IsUnknownAt, IsStrayAt}
use Rattle.cond_text.proofs.Pieces.{run_pieces, front_passes, goes_on_word}
use Rattle.cond_text.proofs.LexemeLaws.{first_byte}

word_byte : (c : ℕ) → is_letter c ≡ true → is_word_byte c ≡ true
word_byte c letter = rw letter refl

word_byte_ascii : (c : ℕ) → is_word_byte c ≡ true → c < 128
word_byte_ascii c e = grind (arith, nat_tests)

-- a word stands from one byte to another
pub record WordAt (s : List ℕ) (at end : ℕ) (w : List ℕ) : Type 0 where
  pub beyond : at < end
  pub within : end ≤ length s
  pub letter : begins_with_letter w ≡ true
  pub pieces : pieces_of (drop at s) ≡ run w ∷ pieces_of (drop end s)
  pub long : at + length w ≡ end

pub run_count : (s : List ℕ) (at n : ℕ) → at < length s → is_letter (slice_index s at) ≡ true → n ≡ prefix_len is_word_byte (drop at s)
    → (n ≡ suc (prefix_len is_word_byte (drop (at + 1) s))) × (at + n ≤ length s)
run_count s at n inside letter count =
    let e : n ≡ suc (prefix_len is_word_byte (drop (at + 1) s)) =
    count ∙ (ap (prefix_len is_word_byte) (first_byte s at (slice_index s at) inside refl)
    ∙ (rw (word_byte (slice_index s at) letter) (let f : 1 + prefix_len is_word_byte (drop (at + 1) s) ≡ suc (prefix_len is_word_byte (drop (at + 1) s)) = omega arith in f))) in
    let l = prefix_len-le-length is_word_byte (drop (at + 1) s) in
    let d = length-drop (at + 1) s in
    (e, omega arith)

pub word_there : (s : List ℕ) (at n : ℕ) (w : List ℕ) → at < length s → is_letter (slice_index s at) ≡ true → n ≡ prefix_len is_word_byte (drop at s)
    → w ≡ slice_range s at (at + n) → WordAt s at (at + n) w
word_there s at n w inside letter count is =
    let r = run_count s at n inside letter count in
    there (slice_index s at) (drop (at + 1) s) (prefix_len is_word_byte (drop (at + 1) s)) (first_byte s at (slice_index s at) inside refl) refl letter r.0 r.1
  where
    there : (c : ℕ) (cs : List ℕ) (m : ℕ) → drop at s ≡ c ∷ cs → m ≡ prefix_len is_word_byte cs → is_letter c ≡ true → n ≡ suc m → at + n ≤ length s → WordAt s at (at + n) w
    there c cs m first most is_l suc_m within =
        let front : take m cs ++ drop m cs ≡ cs = take-append-drop m cs in
        let passes = front_passes cs in
        let all : list_all is_word_byte (c ∷ take m cs) ≡ true = rw (word_byte c is_l) (subst (λ k. list_all is_word_byte (take k cs) ≡ true) (sym most) passes.0) in
        let ends : goes_on_word (drop m cs) ≡ false = subst (λ k. goes_on_word (drop k cs) ≡ false) (sym most) passes.1 in
        let word_is : w ≡ c ∷ take m cs = is ∙ (ap (λ k. take k (drop at s)) (let f : at + n - at ≡ suc m = omega arith in f) ∙ ap (take (suc m)) first) in
        let rest_is : drop (at + n) s ≡ drop m cs = sym (drop-drop n at s) ∙ (ap (λ k. drop k (drop at s)) suc_m ∙ ap (drop (suc m)) first) in
        let m_le : m ≤ length cs = subst (λ k. k ≤ length cs) (sym most) (prefix_len-le-length is_word_byte cs) in
        let size : length (take m cs) ≡ m = length-take-le m cs m_le in
        let long : length w ≡ suc m = ap length word_is ∙ (let f : suc (length (take m cs)) ≡ suc m = omega arith in f) in
        record {
          beyond = omega arith;
          within = within;
          letter = ap begins_with_letter word_is ∙ is_l;
          pieces = ap pieces_of (first ∙ ap (λ us. c ∷ us) (sym front)) ∙ (run_pieces c (take m cs) (drop m cs) all ends
              ∙ (ap (λ v. run v ∷ pieces_of (drop m cs)) (sym word_is) ∙ ap (λ us. run w ∷ pieces_of us) (sym rest_is)));
          long = omega arith;
        }

placed_word : (s : List ℕ) (at end : ℕ) (w : List ℕ) → WordAt s at end w → placed_from s at ≡ (at, word w) ∷ placed_from s end
placed_word s at end w h =
    ap (placed_tokens at) h.pieces ∙ (ap (λ b. (at, (if b then word w else stray)) ∷ placed_tokens (at + length w) (pieces_of (drop end s))) h.letter
    ∙ ap (λ k. (at, word w) ∷ placed_tokens k (pieces_of (drop end s))) h.long)

token_word : (s : List ℕ) (at end : ℕ) (w : List ℕ) → WordAt s at end w → tokens_from s at ≡ then_tokens (word_token w) (tokens_from s end)
token_word s at end w h =
    ap tokens_of h.pieces ∙ ap (λ b. if b then then_tokens (word_token w) (tokens_of (pieces_of (drop end s))) else None) h.letter

-- ---- `true` and `false`

pub true_stands : (names : List (List ℕ)) (s : List ℕ) (at end : ℕ) (w : List ℕ) → WordAt s at end w → bytes_eq w (codes "true") ≡ true → StandsAt names s at True end
true_stands names s at end w h e =
    let is : w ≡ codes "true" = (bytes_eq-Decides w (codes "true")).0 e in
    record {
      beyond = h.beyond;
      within = h.within;
      stands = tt;
      placed = placed_word s at end w h ∙ ap (λ v. (at, word v) ∷ placed_from s end) is;
      tokens = token_word s at end w h ∙ ap (λ v. then_tokens (word_token v) (tokens_from s end)) is;
    }

pub false_stands : (names : List (List ℕ)) (s : List ℕ) (at end : ℕ) (w : List ℕ) → WordAt s at end w → bytes_eq w (codes "false") ≡ true → StandsAt names s at False end
false_stands names s at end w h e =
    let is : w ≡ codes "false" = (bytes_eq-Decides w (codes "false")).0 e in
    record {
      beyond = h.beyond;
      within = h.within;
      stands = tt;
      placed = placed_word s at end w h ∙ ap (λ v. (at, word v) ∷ placed_from s end) is;
      tokens = token_word s at end w h ∙ ap (λ v. then_tokens (word_token v) (tokens_from s end)) is;
    }

-- ---- names

map_some : {A B : Type 0} (f : A → B) (o : Option A) (y : B) → option_map f o ≡ Some y → (x : A) × (o ≡ Some x) × (f x ≡ y)
map_some f None y e = absurd cc
map_some f (Some x) y e = (x, refl, cc)

-- the name at the place of a name is that name
pub name_of_place : (names : List (List ℕ)) (w : List ℕ) (n : ℕ) → place_of w names ≡ Some n → name_at names n ≡ w
name_of_place [] w n e = absurd cc
name_of_place (x ∷ xs) w n e = go (bytes_eq w x) refl n e (name_of_place xs w)
  where
    go : (b : Bool) → bytes_eq w x ≡ b → (n : ℕ) → (if b then Some 0 else option_map suc (place_of w xs)) ≡ Some n
        → ((k : ℕ) → place_of w xs ≡ Some k → name_at xs k ≡ w) → name_at (x ∷ xs) n ≡ w
    go true is zero e later = sym ((bytes_eq-Decides w x).0 is)
    go true is (suc n) e later = absurd cc
    go false is n e later =
        let r = map_some suc (place_of w xs) n e in subst (λ k. name_at (x ∷ xs) k ≡ w) r.2 (later r.0 r.1)

absent_unknown : (names : List (List ℕ)) (w : List ℕ) → place_of w names ≡ None → is_among names w ≡ false
absent_unknown [] w e = refl
absent_unknown (x ∷ xs) w e = go (bytes_eq w x) (place_of w xs) (absent_unknown xs w) e
  where
    go : (b : Bool) (o : Option ℕ) → (o ≡ None → is_among xs w ≡ false) → (if b then Some 0 else option_map suc o) ≡ None → b || is_among xs w ≡ false
    go true o later e = absurd cc
    go false None later e = later refl
    go false (Some k) later e = absurd cc

pub name_stands : (names : List (List ℕ)) (s : List ℕ) (at end : ℕ) (w : List ℕ) (n : ℕ) → WordAt s at end w → is_name w ≡ true → place_of w names ≡ Some n → StandsAt names s at (Name n) end
name_stands names s at end w n h proper place =
    let is : w ≡ name_at names n = sym (name_of_place names w n place) in
    record {
      beyond = h.beyond;
      within = h.within;
      stands = (ap is_name (sym is) ∙ proper, subst (λ v. place_of v names ≡ Some n) is place);
      placed = placed_word s at end w h ∙ ap (λ v. (at, word v) ∷ placed_from s end) is;
      tokens = token_word s at end w h ∙ ap (λ v. then_tokens (word_token v) (tokens_from s end)) is;
    }

no_truth : (w : List ℕ) → bytes_eq w (codes "true") ≡ false → bytes_eq w (codes "false") ≡ false → is_truth_word w ≡ false
no_truth w no_true no_false = rw no_true no_false

pub improper_stray : (s : List ℕ) (at end : ℕ) (w : List ℕ) → WordAt s at end w → bytes_eq w (codes "true") ≡ false → bytes_eq w (codes "false") ≡ false → is_name w ≡ false
    → IsStrayAt s at
improper_stray s at end w h no_true no_false improper =
    record { lexeme = word w; others = placed_from s end; placed = placed_word s at end w h; stray = stops }
  where
    stops : (next : Next) → goes_on next (word w) ≡ false
    stops (an_operand k) = rw (no_truth w no_true no_false) improper
    stops (after_operand zero) = refl
    stops (after_operand (suc k)) = refl

pub unknown_there : (names : List (List ℕ)) (s : List ℕ) (at end : ℕ) (w : List ℕ) → WordAt s at end w → bytes_eq w (codes "true") ≡ false → bytes_eq w (codes "false") ≡ false
    → is_name w ≡ true → place_of w names ≡ None → IsUnknownAt names s at
unknown_there names s at end w h no_true no_false proper absent =
    record {
      name = w;
      others = placed_from s end;
      placed = placed_word s at end w h;
      no_truth_word = no_truth w no_true no_false;
      proper = proper;
      unknown = absent_unknown names w absent;
    }

-- ---- where a run ends, a character begins

pub ends_at_boundary : (s : List ℕ) (at n : ℕ) → IsUtf8 s → at < length s → is_letter (slice_index s at) ≡ true → n ≡ prefix_len is_word_byte (drop at s)
    → at + n < length s → 128 ≤ slice_index s (at + n) → 192 ≤ slice_index s (at + n)
ends_at_boundary s at n utf8 inside letter count below high =
    let r = run_count s at n inside letter count in
    let m : ℕ = prefix_len is_word_byte (drop (at + 1) s) in
    let passes = prefix_len_passes is_word_byte (drop at s) m 0 (subst (λ k. m < k) (sym (sym count ∙ r.0)) (omega arith)) in
    let ascii : get_or s (at + m) 0 < 128 = word_byte_ascii (get_or s (at + m) 0) (ap is_word_byte (sym (get_or-drop at s m 0)) ∙ passes) in
    let last : at + n ≡ at + m + 1 = (let e = r.0 in omega arith) in
    subst (λ k. 192 ≤ slice_index s k) (sym last)
    (lead_after_ascii s (at + m) utf8 ascii (omega arith) (subst (λ k. 128 ≤ slice_index s k) last high))

-- what is left of a text, as a slice of it is written
pub count_of_rest : (bytes s : List ℕ) (at n : ℕ) → bytes ≡ s → n ≡ prefix_len is_word_byte (take (length bytes - at) (drop at bytes)) → n ≡ prefix_len is_word_byte (drop at s)
count_of_rest bytes s at n is count =
    count ∙ (ap (λ k. prefix_len is_word_byte (take k (drop at bytes))) (sym (length-drop at bytes))
    ∙ (ap (prefix_len is_word_byte) (take-length (drop at bytes)) ∙ ap (λ bs. prefix_len is_word_byte (drop at bs)) is))
