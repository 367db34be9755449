-- A text with holes has no fault, and the parts that are read of it are those of the grammar.
use Rattle.std.proofs.Common.{◌≡◌, ◌∙◌, sym, ap, refl, ℕ, suc, ◌+◌, ◌≤◌, List, [], ◌∷◌, ◌++◌, length, map, Bool, true, false, not, ◌&&◌, ◌||◌, append_assoc, Some, None, arith}
use Rattle.std.specs.Prelude.{◌==◌, codes, bytes_eq, if◌then◌else◌, is_some, nat_le, unwrap_or, option_map, filter}
use Rattle.std.specs.List.{list_all}
use Rattle.std.proofs.lemmas.Bool.{true≢false, lt-leb, and_parts, or_right}
use Rattle.std.proofs.lemmas.List.{append-nil, map-append}
use Rattle.std.proofs.lemmas.Slice.Eq.{bytes_eq-Decides}
use Rattle.meaning.specs.Texts.{is_word_byte, begins_with_letter}
use Rattle.meaning.specs.Models.{Model}
use Rattle.meaning.specs.QueryTexts.{Scope, variable_number, attribute_number}
use Rattle.meaning.specs.BundlePlaces.{or_else}
use Rattle.meaning.specs.Templates.{TextPart, Words, NameOf, AttributeOf, Count}
use Rattle.meaning.specs.TemplateTexts.{Mark, open_brace, close_brace, byte, mark_of, Segment, plain, hole, longer_plain, then_byte, outside_hole, inside_hole, cut_at_dot, variable_part, hole_part, part_of, parts_of}
use Rattle.meaning.specs.HoleFaults.{is_word, is_name_or_attribute, variable_hole_fault, hole_fault, outside_hole_fault, inside_hole_fault, text_hole_fault}
use Rattle.meaning.specs.HoleGrammar.{is_brace, Spells, nothing, a_byte, an_open_brace, a_close_brace, IsHole, number_of_answers, name_of, attribute_of, IsHoles, of_rest, words, IsRest, the_end, a_hole, is_hole, IsTextWithHoles, OneListOfParts}

-- ---- bytes and marks

plain_mark : (c : ℕ) → is_brace c ≡ false → mark_of c ≡ byte c
plain_mark c e = go (c == 123) (c == 125) e
  where
    go : (a b : Bool) → (a || b) ≡ false → (if a then open_brace else (if b then close_brace else byte c)) ≡ byte c
    go true b e = absurd (true≢false e)
    go false true e = absurd (true≢false e)
    go false false e = refl

word_byte_plain : (c : ℕ) → is_word_byte c ≡ true → (is_brace c ≡ false) × ((c == 46) ≡ false)
word_byte_plain c e = (grind (arith), grind (arith))

word_marks : (w : List ℕ) → list_all is_word_byte w ≡ true → map mark_of w ≡ map byte w
word_marks [] e = refl
word_marks (c ∷ cs) e =
    let d = and_parts (is_word_byte c) (list_all is_word_byte cs) e in
    ap (λ k. k ∷ map mark_of cs) (plain_mark c (word_byte_plain c d.0).0) ∙ ap (λ ks. byte c ∷ ks) (word_marks cs d.1)

abbrev pub holes_in : List TextPart → ℕ
holes_in ps = length (filter is_hole ps)

-- ---- a word, a dot and more

cut_word : (x a : List ℕ) → list_all is_word_byte x ≡ true → cut_at_dot (x ++ 46 ∷ a) ≡ (x, a)
cut_word [] a e = refl
cut_word (c ∷ cs) a e =
    let d = and_parts (is_word_byte c) (list_all is_word_byte cs) e in
    ap (λ b. if b then ([], cs ++ 46 ∷ a) else (c ∷ (cut_at_dot (cs ++ 46 ∷ a)).0, (cut_at_dot (cs ++ 46 ∷ a)).1)) (word_byte_plain c d.0).1
    ∙ ap (λ r. (c ∷ r.0, r.1)) (cut_word cs a d.1)

no_count : (x a : List ℕ) → begins_with_letter x ≡ true → bytes_eq (x ++ a) (codes "#") ≡ false
no_count [] a e = absurd (true≢false (sym e))
no_count (c ∷ cs) a e = go (bytes_eq (c ∷ (cs ++ a)) (codes "#")) refl
  where
    go : (b : Bool) → bytes_eq (c ∷ (cs ++ a)) (codes "#") ≡ b → b ≡ false
    go true is = absurd (true≢false (sym e ∙ ap begins_with_letter ((bytes_eq-Decides (c ∷ (cs ++ a)) (codes "#")).0 is)))
    go false is = refl

letter_first : (x : List ℕ) → begins_with_letter x ≡ true → (d : ℕ) × (ds : List ℕ) × (x ≡ d ∷ ds)
letter_first [] e = absurd (true≢false (sym e))
letter_first (d ∷ ds) e = (d, ds, refl)

module _ (m : Model) (scope : Scope) (counts : Bool) where
  -- ---- one hole

  -- what stands between braces has no brace and no fault, and is this part
  record HoleText (h : List ℕ) (p : TextPart) : Type 0 where
    first : ℕ
    others : List ℕ
    shape : h ≡ first ∷ others
    marks : map mark_of h ≡ map byte h
    part : hole_part m scope h ≡ p
    faultless : (holes brace : ℕ) → suc holes ≤ 8 → hole_fault m scope counts holes brace h ≡ None

  no_hole_fault : (x a k : Bool) (l o : Bool) (first second third : ℕ) → x ≡ true → a ≡ true → l ≡ false → o ≡ true → k ≡ true
      → (if not (x && a) || l then Some first else (if not o then Some second else (if k then None else Some third))) ≡ None
  no_hole_fault x a k l o first second third is_x is_a is_l is_o is_k = cc

  dotted : (x a : List ℕ) (v : ℕ) (p : TextPart) → is_word x ≡ true → variable_number scope x ≡ Some v → is_word a ≡ true
      → is_name_or_attribute m scope x a ≡ true → variable_part m scope v a ≡ p → HoleText (x ++ 46 ∷ a) p
  dotted x a v p is_x stands is_a known part_is =
      let dx = and_parts (begins_with_letter x) (list_all is_word_byte x) is_x in
      let da = and_parts (begins_with_letter a) (list_all is_word_byte a) is_a in
      let f = letter_first x dx.0 in
      let no = no_count x (46 ∷ a) dx.0 in
      let cut = cut_word x a dx.1 in record {
        first = f.0;
        others = f.1 ++ 46 ∷ a;
        shape = ap (λ y. y ++ 46 ∷ a) f.2;
        marks = map-append mark_of x (46 ∷ a)
            ∙ (ap (λ ks. ks ++ byte 46 ∷ map mark_of a) (word_marks x dx.1)
            ∙ (ap (λ ks. map byte x ++ byte 46 ∷ ks) (word_marks a da.1) ∙ sym (map-append byte x (46 ∷ a))));
        part = ap (λ b. if b then Count else variable_part m scope (unwrap_or (variable_number scope (cut_at_dot (x ++ 46 ∷ a)).0) 0) (cut_at_dot (x ++ 46 ∷ a)).1) no
            ∙ (ap (λ r. variable_part m scope (unwrap_or (variable_number scope r.0) 0) r.1) cut
            ∙ (ap (λ o. variable_part m scope (unwrap_or o 0) a) stands ∙ part_is));
        faultless = λ holes brace few.
            ap (λ b. if b then (if counts && not (nat_le 8 holes) then None else Some brace)
            else variable_hole_fault m scope holes brace (cut_at_dot (x ++ 46 ∷ a)).0 (cut_at_dot (x ++ 46 ∷ a)).1) no
            ∙ (ap (λ r. variable_hole_fault m scope holes brace r.0 r.1) cut
            ∙ no_hole_fault (is_word x) (is_word a) (is_name_or_attribute m scope x a) (nat_le 8 holes) (is_some (variable_number scope x)) brace (brace + 1) (brace + length x + 2)
            is_x is_a (lt-leb 8 holes few) (ap is_some stands) known);
      }

  no_name : (w : List ℕ) → (w ≡ codes "name" → ⊥) → bytes_eq w (codes "name") ≡ false
  no_name w other = go (bytes_eq w (codes "name")) refl
    where
      go : (b : Bool) → bytes_eq w (codes "name") ≡ b → b ≡ false
      go true is = absurd (other ((bytes_eq-Decides w (codes "name")).0 is))
      go false is = refl

  hole_text : {h : List ℕ} {p : TextPart} → IsHole m scope counts h p → HoleText h p
  hole_text (number_of_answers allowed) = record {
    first = 35;
    others = [];
    shape = refl;
    marks = refl;
    part = refl;
    faultless = λ holes brace few.
        ap (λ b. if b && not (nat_le 8 holes) then None else Some brace) allowed ∙ ap (λ b. if true && not b then None else Some brace) (lt-leb 8 holes few);
  }
  hole_text (name_of {x = x} {v = v} h) = dotted x (codes "name") v (NameOf v) h.is_one h.stands refl refl refl
  hole_text (attribute_of {x = x} {a = a} {v = v} {n = n} h g) =
      dotted x a v (AttributeOf v n) h.is_one h.stands g.is_one
      (or_right (bytes_eq a (codes "name")) (is_some (attribute_number m scope (unwrap_or (variable_number scope x) 0) a))
      (ap (λ o. is_some (attribute_number m scope (unwrap_or o 0) a)) h.stands ∙ ap is_some g.stands))
      (ap (λ b. if b then NameOf v else AttributeOf v (unwrap_or (attribute_number m scope v a) 0)) (no_name a g.other) ∙ ap (λ o. AttributeOf v (unwrap_or o 0)) g.stands)

  inside_reads : (h so_far : List ℕ) (ms : List Mark)
      → inside_hole so_far (map byte h ++ close_brace ∷ ms) ≡ option_map (λ ss. hole (so_far ++ h) ∷ ss) (outside_hole ms)
  inside_reads [] so_far ms = ap (λ w. option_map (λ ss. hole w ∷ ss) (outside_hole ms)) (sym (append-nil so_far))
  inside_reads (c ∷ h) so_far ms =
      inside_reads h (so_far ++ c ∷ []) ms ∙ ap (λ w. option_map (λ ss. hole w ∷ ss) (outside_hole ms)) (append_assoc so_far (c ∷ []) h)

  inside_faultless : (h so_far : List ℕ) (ms : List Mark) (brace at holes : ℕ) → hole_fault m scope counts holes brace (so_far ++ h) ≡ None
      → ((k : ℕ) → outside_hole_fault m scope counts k (holes + 1) ms ≡ None)
      → inside_hole_fault m scope counts brace at holes so_far (map byte h ++ close_brace ∷ ms) ≡ None
  inside_faultless [] so_far ms brace at holes e later =
      ap (λ o. or_else o (outside_hole_fault m scope counts (at + 1) (holes + 1) ms)) (ap (hole_fault m scope counts holes brace) (sym (append-nil so_far)) ∙ e) ∙ later (at + 1)
  inside_faultless (c ∷ h) so_far ms brace at holes e later =
      inside_faultless h (so_far ++ c ∷ []) ms brace (at + 1) holes (ap (hole_fault m scope counts holes brace) (append_assoc so_far (c ∷ []) h) ∙ e) later

  -- ---- words

  -- the segments begin with no words
  abbrev opens : List Segment → Bool
  opens (plain s ∷ ss) = false
  opens _ = true

  abbrev in_front : List ℕ → List Segment → List Segment
  in_front [] segments = segments
  in_front (c ∷ w) segments = plain (c ∷ w) ∷ segments

  longer_front : (c : ℕ) (w : List ℕ) (segments : List Segment) → opens segments ≡ true → longer_plain c (in_front w segments) ≡ plain (c ∷ w) ∷ segments
  longer_front c [] [] e = refl
  longer_front c [] (hole h ∷ ss) e = refl
  longer_front c [] (plain s ∷ ss) e = absurd (true≢false (sym e))
  longer_front c (d ∷ w) segments e = refl

  spelled_reads : {s w : List ℕ} → Spells s w → (t : List ℕ) (segments : List Segment) → outside_hole (map mark_of t) ≡ Some segments → opens segments ≡ true
      → outside_hole (map mark_of (s ++ t)) ≡ Some (in_front w segments)
  spelled_reads nothing t segments e front = e
  spelled_reads (a_byte {c = c} {s = s} {w = w} other h) t segments e front =
      ap (λ k. outside_hole (k ∷ map mark_of (s ++ t))) (plain_mark c other)
      ∙ (ap (then_byte c) (spelled_reads h t segments e front) ∙ ap Some (longer_front c w segments front))
  spelled_reads (an_open_brace {s = s} {w = w} h) t segments e front =
      ap (then_byte 123) (spelled_reads h t segments e front) ∙ ap Some (longer_front 123 w segments front)
  spelled_reads (a_close_brace {s = s} {w = w} h) t segments e front =
      ap (then_byte 125) (spelled_reads h t segments e front) ∙ ap Some (longer_front 125 w segments front)

  abbrev Faultless : ℕ → List ℕ → Type 0
  Faultless holes s = (at : ℕ) → outside_hole_fault m scope counts at holes (map mark_of s) ≡ None

  spelled_faultless : {s w : List ℕ} → Spells s w → (t : List ℕ) (holes : ℕ) → Faultless holes t → Faultless holes (s ++ t)
  spelled_faultless nothing t holes e at = e at
  spelled_faultless (a_byte {c = c} {s = s} other h) t holes e at =
      ap (λ k. outside_hole_fault m scope counts at holes (k ∷ map mark_of (s ++ t))) (plain_mark c other) ∙ spelled_faultless h t holes e (at + 1)
  spelled_faultless (an_open_brace h) t holes e at = spelled_faultless h t holes e (at + 2)
  spelled_faultless (a_close_brace h) t holes e at = spelled_faultless h t holes e (at + 2)

  -- ---- a whole text

  -- the text is read as these parts, and has no fault while its holes aren't too many
  record Read (s : List ℕ) (ps : List TextPart) : Type 0 where
    segments : List Segment
    reads : outside_hole (map mark_of s) ≡ Some segments
    parts : map (part_of m scope) segments ≡ ps
    faultless : (holes : ℕ) → holes + holes_in ps ≤ 8 → Faultless holes s

  pub is_a_hole : (h : List ℕ) (p : TextPart) → IsHole m scope counts h p → is_hole p ≡ true
  is_a_hole h p (number_of_answers allowed) = refl
  is_a_hole h p (name_of x) = refl
  is_a_hole h p (attribute_of x a) = refl

  hole_marks : (h s : List ℕ) (d : ℕ) (ds : List ℕ) → h ≡ d ∷ ds → map mark_of h ≡ map byte h
      → map mark_of (h ++ 125 ∷ s) ≡ byte d ∷ (map byte ds ++ close_brace ∷ map mark_of s)
  hole_marks h s d ds shape marks =
      map-append mark_of h (125 ∷ s) ∙ ap (λ ks. ks ++ close_brace ∷ map mark_of s) (marks ∙ ap (map byte) shape)

  with_hole : (h s : List ℕ) (p : TextPart) (ps : List TextPart) → IsHole m scope counts h p → Read s ps
      → (r : Read (123 ∷ (h ++ 125 ∷ s)) (p ∷ ps)) × (opens r.segments ≡ true)
  with_hole h s p ps is r =
      let t = hole_text is in
      let ms = map mark_of s in
      let marks = hole_marks h s t.first t.others t.shape t.marks in
      let more : holes_in (p ∷ ps) ≡ suc (holes_in ps) = ap (λ b. length (if b then p ∷ filter is_hole ps else filter is_hole ps)) (is_a_hole h p is) in (
        record {
          segments = hole h ∷ r.segments;
          reads = ap (λ ks. outside_hole (open_brace ∷ ks)) marks
              ∙ (inside_reads (t.first ∷ t.others) [] ms
              ∙ (ap (λ w. option_map (λ ss. hole w ∷ ss) (outside_hole ms)) (sym t.shape) ∙ ap (option_map (λ ss. hole h ∷ ss)) r.reads));
          parts = ap (λ q. q ∷ map (part_of m scope) r.segments) t.part ∙ ap (λ qs. p ∷ qs) r.parts;
          faultless = λ holes few at.
              ap (λ ks. outside_hole_fault m scope counts at holes (open_brace ∷ ks)) marks
              ∙ inside_faultless (t.first ∷ t.others) [] ms at (at + 1) holes
              (ap (hole_fault m scope counts holes at) (sym t.shape) ∙ t.faultless holes at (omega arith))
              (r.faultless (holes + 1) (omega arith));
        },
        refl,
      )

  mutual
    holes_read : {s : List ℕ} {ps : List TextPart} → IsHoles m scope counts s ps → Read s ps
    holes_read (of_rest h) = (rest_read h).0
    holes_read (words {s = s} {t = t} {w = w} {c = c} {ps = ps} h i) =
        let r = rest_read i in record {
          segments = plain (c ∷ w) ∷ r.0.segments;
          reads = spelled_reads h t r.0.segments r.0.reads r.1;
          parts = ap (λ qs. Words (c ∷ w) ∷ qs) r.0.parts;
          faultless = λ holes few. spelled_faultless h t holes (r.0.faultless holes few);
        }

    rest_read : {s : List ℕ} {ps : List TextPart} → IsRest m scope counts s ps → (r : Read s ps) × (opens r.segments ≡ true)
    rest_read the_end = (record { segments = []; reads = refl; parts = refl; faultless = λ holes few at. refl }, refl)
    rest_read (a_hole {h = h} {s = s} {p = p} {ps = ps} is i) = with_hole h s p ps is (holes_read i)

pub has_no_fault : (m : Model) (scope : Scope) (counts : Bool) (s : List ℕ) (ps : List TextPart) → IsTextWithHoles m scope counts s ps
    → text_hole_fault m scope counts s ≡ None
unfolding text_hole_fault
has_no_fault m scope counts s ps h = let r = holes_read m scope counts h.tree in r.faultless 0 (let f = h.few_holes in omega arith) 0

pub parts_are_read : (m : Model) (scope : Scope) (counts : Bool) (s : List ℕ) (ps : List TextPart) → IsTextWithHoles m scope counts s ps → parts_of m scope s ≡ ps
unfolding parts_of
parts_are_read m scope counts s ps h =
    let r = holes_read m scope counts h.tree in ap (λ o. map (part_of m scope) (unwrap_or o [])) r.reads ∙ r.parts

pub one_list_of_parts : OneListOfParts
one_list_of_parts m scope counts s ps qs h g =
    let a = holes_read m scope counts h in
    let b = holes_read m scope counts g in
    sym a.parts ∙ (ap (λ o. map (part_of m scope) (unwrap_or o [])) (sym a.reads ∙ b.reads) ∙ b.parts)
