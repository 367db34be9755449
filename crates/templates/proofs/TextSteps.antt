-- What a text begins with, by its first bytes.
use Rattle.std.proofs.Common.{◌≡◌, refl, sym, ap, ◌∙◌, subst, ℕ, zero, suc, ◌+◌, ◌-◌, ◌<◌, ◌≤◌, List, [], ◌∷◌, ◌++◌, length, map, take, drop, get_or, slice_index, slice_range, length-drop, length-append, Bool, true, false, Option, Some, None, ◌⊎◌, inl, inr, arith}
use Rattle.std.specs.Prelude.{◌==◌, not, ◌&&◌, option_map, if◌then◌else◌}
use Rattle.std.specs.List.{list_all, prefix_len}
use Rattle.std.specs.Str.{IsUtf8}
use Rattle.std.proofs.Math.Seq.{take-length}
use Rattle.std.proofs.lemmas.Bool.{eqb-true}
use Rattle.std.proofs.lemmas.List.{take-append-drop, length-take-le, drop-drop, get_or-drop}
use Rattle.std.proofs.lemmas.List.Sums.{prefix_len-le-length, prefix_len_stops}
use Rattle.std.proofs.lemmas.Str.{lead_after_ascii}
use Rattle.meaning.specs.Models.{Model}
use Rattle.meaning.specs.QueryTexts.{Scope}
use Rattle.meaning.specs.Templates.{TextPart}
use Rattle.meaning.specs.TemplateTexts.{open_brace, close_brace, byte, mark_of, Segment, hole, outside_hole, inside_hole, hole_part, part_of}
use Rattle.meaning.specs.BundlePlaces.{or_else}
use Rattle.meaning.specs.HoleFaults.{hole_fault, outside_hole_fault, inside_hole_fault}
use Rattle.cond_text.specs.Lexemes.{begins_with}
use Rattle.cond_text.proofs.LexemeLaws.{first_byte, next_byte}
use Rattle.templates.specs.TextReading.{is_plain, in_front, parts_left, fault_left, BeginsWithWords, BeginsWithHole, BeginsWithFault}
use Rattle.templates.proofs.PlainRuns.{run_is_plain, run_ends, longer_by, outside_plain, inside_plain, outside_plain_fault, inside_plain_fault, opens, opens_fault, longer_parts}

-- the first byte of a text that has one
pub first_is : (s : List ℕ) (c : ℕ) → 0 < length s → slice_index s 0 ≡ c → s ≡ c ∷ drop 1 s
first_is s c some is = first_byte s 0 c some is

-- ---- words

in_front_left : (m : Model) (scope : Scope) (w : List ℕ) (o : Option (List Segment))
    → option_map (map (part_of m scope)) (option_map (longer_by w) o) ≡ option_map (in_front w) (option_map (map (part_of m scope)) o)
in_front_left m scope w None = refl
in_front_left m scope w (Some ss) = ap Some (longer_parts m scope w ss)

words_first : (w r : List ℕ) → 0 < length w → list_all is_plain w ≡ true → BeginsWithWords (w ++ r) w r
words_first w r some all = record {
  shorter = let l = length-append w r in omega arith;
  parts = λ m scope. ap (option_map (map (part_of m scope))) (outside_plain w r all) ∙ in_front_left m scope w (outside_hole (map mark_of r));
  fault = λ m scope counts at next holes sum.
      let l = length-append w r in
      let is : at + length w ≡ next = omega arith in
      outside_plain_fault m scope counts at holes w r all ∙ ap (λ k. outside_hole_fault m scope counts k holes (map mark_of r)) is;
}

-- what the words and what follows them are, as slices
pub plain_words : (s words after : List ℕ) (n : ℕ) → 0 < length s → is_plain (slice_index s 0) ≡ true → n ≡ prefix_len is_plain s
    → words ≡ slice_range s 0 n → after ≡ drop n s → BeginsWithWords s words after
plain_words s words after n some first count taken left =
    let all = subst (λ k. list_all is_plain (take k s) ≡ true) (sym count) (run_is_plain s) in
    let whole : take n s ++ drop n s ≡ s = take-append-drop n s in
    let m_le : n ≤ length s = subst (λ k. k ≤ length s) (sym count) (prefix_len-le-length is_plain s) in
    let size : length (take n s) ≡ n = length-take-le n s m_le in
    let positive : 0 < n = subst (λ k. 0 < k) (sym count) (subst (λ t. 0 < prefix_len is_plain t) (sym (first_is s (slice_index s 0) some refl)) (one_at_least (slice_index s 0) (drop 1 s) first)) in
    let is_words : take n s ≡ words = sym (taken ∙ ap (λ k. take k s) (let f : n - 0 ≡ n = omega arith in f)) in
    subst (λ t. BeginsWithWords t words after) whole
    (subst (λ u. BeginsWithWords (take n s ++ drop n s) words u) (sym left)
    (subst (λ u. BeginsWithWords (take n s ++ drop n s) u (drop n s)) is_words
    (words_first (take n s) (drop n s) (let f : 0 < length (take n s) = omega arith in f) all)))
  where
    one_at_least : (c : ℕ) (cs : List ℕ) → is_plain c ≡ true → 0 < prefix_len is_plain (c ∷ cs)
    one_at_least c cs e = rw e (omega arith)

-- a doubled brace
pub doubled_words : (s words after : List ℕ) (c : ℕ) → 0 < length s → slice_index s 0 ≡ c → begins_with c (drop 1 s) ≡ true → is_plain c ≡ false
    → words ≡ slice_range s 0 1 → after ≡ drop 2 s → BeginsWithWords s words after
doubled_words s words after c some is next brace taken left =
    let n = next_byte s 1 c next in
    let whole : s ≡ c ∷ c ∷ drop 2 s = first_is s c some is ∙ ap (λ cs. c ∷ cs) n.1 in
    let is_words : words ≡ c ∷ [] = taken ∙ ap (λ t. take 1 t) whole in
    subst (λ t. BeginsWithWords t words after) (sym whole)
    (subst (λ u. BeginsWithWords (c ∷ c ∷ drop 2 s) words u) (sym left)
    (subst (λ u. BeginsWithWords (c ∷ c ∷ drop 2 s) u (drop 2 s)) (sym is_words) (doubled c (drop 2 s) brace)))
  where
    twice : (k : ℕ) (r : List ℕ) → ((k ≡ 123) ⊎ (k ≡ 125)) → BeginsWithWords (k ∷ k ∷ r) (k ∷ []) r
    twice k r (inl e) = subst (λ b. BeginsWithWords (b ∷ b ∷ r) (b ∷ []) r) (sym e) (record {
      shorter = omega arith;
      parts = λ m scope. in_front_left m scope (123 ∷ []) (outside_hole (map mark_of r));
      fault = λ m scope counts at next holes sum.
          let is : at + 2 ≡ next = omega arith in ap (λ k. outside_hole_fault m scope counts k holes (map mark_of r)) is;
    })
    twice k r (inr e) = subst (λ b. BeginsWithWords (b ∷ b ∷ r) (b ∷ []) r) (sym e) (record {
      shorter = omega arith;
      parts = λ m scope. in_front_left m scope (125 ∷ []) (outside_hole (map mark_of r));
      fault = λ m scope counts at next holes sum.
          let is : at + 2 ≡ next = omega arith in ap (λ k. outside_hole_fault m scope counts k holes (map mark_of r)) is;
    })

    which : (k : ℕ) → is_plain k ≡ false → (k ≡ 123) ⊎ (k ≡ 125)
    which k e = go (k == 123) (k == 125) refl refl e
      where
        go : (a b : Bool) → (k == 123) ≡ a → (k == 125) ≡ b → (not a && not b) ≡ false → (k ≡ 123) ⊎ (k ≡ 125)
        go true b ea eb e = inl (eqb-true k 123 ea)
        go false true ea eb e = inr (eqb-true k 125 eb)
        go false false ea eb e = absurd cc

    doubled : (k : ℕ) (r : List ℕ) → is_plain k ≡ false → BeginsWithWords (k ∷ k ∷ r) (k ∷ []) r
    doubled k r e = twice k r (which k e)

-- a brace that closes and is not doubled
pub closing_fault : (s : List ℕ) → 0 < length s → slice_index s 0 ≡ 125 → begins_with 125 (drop 1 s) ≡ false → BeginsWithFault s
closing_fault s some is single = λ m scope counts at holes.
    subst (λ t. fault_left m scope counts at holes t ≡ Some at) (sym (first_is s 125 some is)) (lone m scope counts at holes (drop 1 s) single)
  where
    lone : (m : Model) (scope : Scope) (counts : Bool) (at holes : ℕ) (cs : List ℕ) → begins_with 125 cs ≡ false → fault_left m scope counts at holes (125 ∷ cs) ≡ Some at
    lone m scope counts at holes [] e = refl
    lone m scope counts at holes (c ∷ cs) e = go (c == 123) (c == 125) e
      where
        go : (a b : Bool) → b ≡ false
            → outside_hole_fault m scope counts at holes (close_brace ∷ (if a then open_brace else (if b then close_brace else byte c)) ∷ map mark_of cs) ≡ Some at
        go true b e = refl
        go false true e = absurd cc
        go false false e = refl

-- ---- holes

hole_left : (m : Model) (scope : Scope) (w : List ℕ) (o : Option (List Segment))
    → option_map (map (part_of m scope)) (option_map (λ ss. hole w ∷ ss) o) ≡ option_map (λ ps. hole_part m scope w ∷ ps) (option_map (map (part_of m scope)) o)
hole_left m scope w None = refl
hole_left m scope w (Some ss) = refl

hole_first : (w r : List ℕ) → list_all is_plain w ≡ true → begins_with 123 (w ++ 125 ∷ r) ≡ false → BeginsWithHole (123 ∷ (w ++ 125 ∷ r)) w r
hole_first w r all single = record {
  shorter = let l = length-append w (125 ∷ r) in omega arith;
  within = let l = length-append w (125 ∷ r) in omega arith;
  parts = λ m scope. ap (option_map (map (part_of m scope))) (opens (w ++ 125 ∷ r) single ∙ inside_plain [] w (125 ∷ r) all) ∙ hole_left m scope w (outside_hole (map mark_of r));
  fault = λ m scope counts at next holes sum.
      let l = length-append w (125 ∷ r) in
      let is : at + 1 + length w + 1 ≡ next = omega arith in
      opens_fault m scope counts at holes (w ++ 125 ∷ r) single
      ∙ (inside_plain_fault m scope counts at (at + 1) holes [] w (125 ∷ r) all
      ∙ ap (λ k. or_else (hole_fault m scope counts holes at w) (outside_hole_fault m scope counts k (holes + 1) (map mark_of r))) is);
}

module _ (s : List ℕ) (n : ℕ) (some : 0 < length s) (opened : slice_index s 0 ≡ 123) (single : begins_with 123 (drop 1 s) ≡ false)
    (count : n ≡ prefix_len is_plain (drop 1 s)) where
  inner_plain : list_all is_plain (take n (drop 1 s)) ≡ true
  inner_plain = subst (λ k. list_all is_plain (take k (drop 1 s)) ≡ true) (sym count) (run_is_plain (drop 1 s))

  pub hole_is_closed : (inner after : List ℕ) → begins_with 125 (drop (1 + n) s) ≡ true → inner ≡ slice_range s 1 (1 + n) → after ≡ drop (1 + n + 1) s
      → BeginsWithHole s inner after
  hole_is_closed inner after close taken left =
      let w : List ℕ = take n (drop 1 s) in
      let r : List ℕ = drop (1 + n + 1) s in
      let behind : drop n (drop 1 s) ≡ 125 ∷ r = drop-drop n 1 s ∙ (next_byte s (1 + n) 125 close).1 in
      let tail : w ++ 125 ∷ r ≡ drop 1 s = ap (λ us. w ++ us) (sym behind) ∙ take-append-drop n (drop 1 s) in
      let whole : 123 ∷ (w ++ 125 ∷ r) ≡ s = ap (λ us. 123 ∷ us) tail ∙ sym (first_is s 123 some opened) in
      let is_inner : w ≡ inner = sym (taken ∙ ap (λ k. take k (drop 1 s)) (let f : 1 + n - 1 ≡ n = omega arith in f)) in
      subst (λ t. BeginsWithHole t inner after) whole
      (subst (λ u. BeginsWithHole (123 ∷ (w ++ 125 ∷ r)) inner u) (sym left)
      (subst (λ u. BeginsWithHole (123 ∷ (w ++ 125 ∷ r)) u r) is_inner
      (hole_first w r inner_plain (subst (λ us. begins_with 123 us ≡ false) (sym tail) single))))

  -- what stands behind the bytes without braces closes no hole
  not_closed : (m : Model) (scope : Scope) (counts : Bool) (brace at holes : ℕ) (so_far r : List ℕ) → begins_with 125 r ≡ false
      → (0 < length r → is_plain (slice_index r 0) ≡ false) → inside_hole_fault m scope counts brace at holes so_far (map mark_of r) ≡ Some brace
  not_closed m scope counts brace at holes so_far [] close stops = refl
  not_closed m scope counts brace at holes so_far (c ∷ cs) close stops = go (c == 123) (c == 125) close (stops (omega arith))
    where
      go : (a b : Bool) → b ≡ false → (not a && not b) ≡ false
          → inside_hole_fault m scope counts brace at holes so_far ((if a then open_brace else (if b then close_brace else byte c)) ∷ map mark_of cs) ≡ Some brace
      go true b e f = refl
      go false true e f = absurd cc
      go false false e f = absurd cc

  pub hole_is_open : begins_with 125 (drop (1 + n) s) ≡ false → BeginsWithFault s
  hole_is_open close = λ m scope counts at holes.
      let cs : List ℕ = drop 1 s in
      let w : List ℕ = take n cs in
      let r : List ℕ = drop n cs in
      let tail : w ++ r ≡ cs = take-append-drop n cs in
      let stops : 0 < length r → is_plain (slice_index r 0) ≡ false = stopped cs n count in
      subst (λ t. fault_left m scope counts at holes t ≡ Some at) (sym (first_is s 123 some opened))
      (opens_fault m scope counts at holes cs single
      ∙ (ap (λ us. inside_hole_fault m scope counts at (at + 1) holes [] (map mark_of us)) (sym tail)
      ∙ (inside_plain_fault m scope counts at (at + 1) holes [] w r inner_plain
      ∙ not_closed m scope counts at (at + 1 + length w) holes w r (ap (begins_with 125) (drop-drop n 1 s) ∙ close) stops)))
    where
      stopped : (cs : List ℕ) (k : ℕ) → k ≡ prefix_len is_plain cs → 0 < length (drop k cs) → is_plain (slice_index (drop k cs) 0) ≡ false
      stopped cs k count some =
          let l : length (drop k cs) ≡ length cs - k = length-drop k cs in
          let p : ℕ = prefix_len is_plain cs in
          let at_end = prefix_len_stops is_plain cs 0 (let f : p < length cs = omega arith in f) in
          ap is_plain (get_or-drop k cs 0 0 ∙ ap (λ i. get_or cs i 0) (let f : k + 0 ≡ p = omega arith in f)) ∙ at_end

-- ---- where the text may be cut

-- behind a byte that is ASCII
pub behind_brace : (s : List ℕ) (at c : ℕ) → IsUtf8 s → slice_index s at ≡ c → c < 128 → at + 1 < length s → 128 ≤ slice_index s (at + 1) → 192 ≤ slice_index s (at + 1)
behind_brace s at c utf8 is low below high = lead_after_ascii s at utf8 (subst (λ b. b < 128) (sym is) low) below high

-- in front of a brace
pub before_brace : (s : List ℕ) (at : ℕ) → slice_index s at < 128 → at < length s → 128 ≤ slice_index s at → 192 ≤ slice_index s at
before_brace s at low below high = absurd (omega arith)

-- ---- what is left of a text, as a slice of it is written

pub count_of_rest : (bytes s : List ℕ) (at n : ℕ) → bytes ≡ s → n ≡ prefix_len is_plain (take (length bytes - at) (drop at bytes)) → n ≡ prefix_len is_plain (drop at s)
count_of_rest bytes s at n is count =
    count ∙ (ap (λ k. prefix_len is_plain (take k (drop at bytes))) (sym (length-drop at bytes))
    ∙ (ap (prefix_len is_plain) (take-length (drop at bytes)) ∙ ap (λ bs. prefix_len is_plain (drop at bs)) is))

pub closes_at : (s : List ℕ) (at c : ℕ) → at < length s → drop at s ≡ c ∷ drop (at + 1) s → slice_index s at ≡ c
closes_at s at c inside is = sym (first_of_drop s at) ∙ ap (λ t. slice_index t 0) is
  where
    first_of_drop : (s : List ℕ) (at : ℕ) → slice_index (drop at s) 0 ≡ slice_index s at
    first_of_drop s at = get_or-drop at s 0 0 ∙ ap (λ i. get_or s i 0) (let f : at + 0 ≡ at = omega arith in f)
