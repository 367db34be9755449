-- A template text without a fault of holes is a text with holes.
use Rattle.std.proofs.Common.{◌≡◌, ◌∙◌, sym, ap, subst, refl, ℕ, suc, ◌+◌, ◌≤◌, List, [], ◌∷◌, ◌++◌, length, map, Bool, true, false, not, ◌&&◌, ◌||◌, append_assoc, Option, Some, None, arith}
use Rattle.std.specs.Prelude.{◌==◌, codes, bytes_eq, if◌then◌else◌, is_some, nat_le, unwrap_or, filter}
use Rattle.std.proofs.lemmas.Bool.{true≢false, leb-false}
use Rattle.std.proofs.lemmas.List.{append-nil}
use Rattle.std.proofs.lemmas.Slice.Eq.{bytes_eq-Decides}
use Rattle.meaning.specs.Models.{Model}
use Rattle.meaning.specs.QueryTexts.{Scope, variable_number, attribute_number}
use Rattle.meaning.specs.BundlePlaces.{or_else}
use Rattle.meaning.specs.Templates.{TextPart, Words, NameOf, AttributeOf, Count}
use Rattle.meaning.specs.TemplateTexts.{Mark, open_brace, close_brace, byte, mark_of, cut_at_dot, parts_of}
use Rattle.meaning.specs.HoleFaults.{is_word, is_name_or_attribute, variable_hole_fault, hole_fault, outside_hole_fault, inside_hole_fault, text_hole_fault}
use Rattle.meaning.specs.HoleGrammar.{is_brace, Spells, nothing, a_byte, an_open_brace, a_close_brace, IsVariableOf, IsHole, number_of_answers, name_of, attribute_of, IsHoles, of_rest, words, IsRest, the_end, a_hole, is_hole, IsTextWithHoles, FaultlessHasHoles, ReadsHoles}
use Rattle.meaning.proofs.PathPasses.{some_there}
use Rattle.meaning.proofs.HolesRead.{holes_in, is_a_hole, has_no_fault, parts_are_read}

-- ---- the bytes of marks

abbrev byte_of : Mark → ℕ
byte_of open_brace = 123
byte_of close_brace = 125
byte_of (byte c) = c

-- a mark of a byte that is no brace, or a brace
abbrev IsMark : Mark → Type 0
IsMark (byte c) = is_brace c ≡ false
IsMark _ = Unit {0}

abbrev AreMarks : List Mark → Type 0
AreMarks [] = Unit {0}
AreMarks (k ∷ ks) = IsMark k × AreMarks ks

a_mark : (c : ℕ) → IsMark (mark_of c) × (byte_of (mark_of c) ≡ c)
a_mark c = go (c == 123) (c == 125) refl refl
  where
    go : (a b : Bool) → (c == 123) ≡ a → (c == 125) ≡ b
        → IsMark (if a then open_brace else (if b then close_brace else byte c)) × (byte_of (if a then open_brace else (if b then close_brace else byte c)) ≡ c)
    go true b is_open is_close = (tt, grind (arith))
    go false true is_open is_close = (tt, grind (arith))
    go false false is_open is_close = (ap (λ x. x || (c == 125)) is_open ∙ is_close, refl)

the_marks : (s : List ℕ) → AreMarks (map mark_of s) × (map byte_of (map mark_of s) ≡ s)
the_marks [] = (tt, refl)
the_marks (c ∷ cs) = let k = a_mark c in let ks = the_marks cs in ((k.0, ks.0), ap (λ d. d ∷ map byte_of (map mark_of cs)) k.1 ∙ ap (λ ds. c ∷ ds) ks.1)

-- ---- one hole

-- the byte is a dot, or goes to the first part
abbrev one_cut : Bool → ℕ → List ℕ → List ℕ × List ℕ → List ℕ × List ℕ
one_cut b c cs r = if b then ([], cs) else (c ∷ r.0, r.1)

cut_whole : (h : List ℕ) → is_word (cut_at_dot h).1 ≡ true → h ≡ (cut_at_dot h).0 ++ 46 ∷ (cut_at_dot h).1
cut_whole [] e = absurd (true≢false (sym e))
cut_whole (c ∷ cs) e = go (c == 46) refl (cut_at_dot cs) (cut_whole cs) e
  where
    go : (b : Bool) → (c == 46) ≡ b → (r : List ℕ × List ℕ) → (is_word r.1 ≡ true → cs ≡ r.0 ++ 46 ∷ r.1)
        → is_word (one_cut b c cs r).1 ≡ true → c ∷ cs ≡ (one_cut b c cs r).0 ++ 46 ∷ (one_cut b c cs r).1
    go true is r later e = ap (λ d. d ∷ cs) (let f : c ≡ 46 = grind (arith) in f)
    go false is r later e = ap (λ ds. c ∷ ds) (later e)

module _ (m : Model) (scope : Scope) (counts : Bool) where
  -- what stands between braces is a hole, and not the ninth
  abbrev Holds : ℕ → List ℕ → Type 0
  Holds holes h = (p : TextPart) × IsHole m scope counts h p × (suc holes ≤ 8)

  variable_parts : (x a l o k : Bool) (first second third : ℕ)
      → (if not (x && a) || l then Some first else (if not o then Some second else (if k then None else Some third))) ≡ None
      → (x ≡ true) × (a ≡ true) × (l ≡ false) × (o ≡ true) × (k ≡ true)
  variable_parts true true false true true first second third e = (refl, refl, refl, refl, refl)
  variable_parts false a l o k first second third e = absurd cc
  variable_parts true false l o k first second third e = absurd cc
  variable_parts true true true o k first second third e = absurd cc
  variable_parts true true false false k first second third e = absurd cc
  variable_parts true true false true false first second third e = absurd cc

  known_value : (holes : ℕ) (x a : List ℕ) (v : ℕ) (b : Bool) → bytes_eq a (codes "name") ≡ b → IsVariableOf scope x v → is_word a ≡ true
      → b || is_some (attribute_number m scope v a) ≡ true → suc holes ≤ 8 → Holds holes (x ++ 46 ∷ a)
  known_value holes x a v true is h is_a known few =
      (NameOf v, subst (λ w. IsHole m scope counts (x ++ 46 ∷ w) (NameOf v)) (sym ((bytes_eq-Decides a (codes "name")).0 is)) (name_of h), few)
  known_value holes x a v false is h is_a known few =
      let d = some_there (attribute_number m scope v a) known in
      let other : a ≡ codes "name" → ⊥ = λ e. true≢false (sym (ap (λ w. bytes_eq w (codes "name")) e) ∙ is) in
      (AttributeOf v d.0, attribute_of h (record { is_one = is_a; other = other; stands = d.1 }), few)

  variable_found : (holes brace : ℕ) (x a : List ℕ) → variable_hole_fault m scope holes brace x a ≡ None → Holds holes (x ++ 46 ∷ a)
  variable_found holes brace x a e =
      let d = variable_parts (is_word x) (is_word a) (nat_le 8 holes) (is_some (variable_number scope x)) (is_name_or_attribute m scope x a)
      brace (brace + 1) (brace + length x + 2) e in
      let v = some_there (variable_number scope x) d.3 in
      known_value holes x a v.0 (bytes_eq a (codes "name")) refl (record { is_one = d.0; stands = v.1 }) d.1
      (sym (ap (λ o. bytes_eq a (codes "name") || is_some (attribute_number m scope (unwrap_or o 0) a)) v.1) ∙ d.4) (leb-false 8 holes d.2)

  second_word : (x a : List ℕ) (holes brace : ℕ) → variable_hole_fault m scope holes brace x a ≡ None → is_word a ≡ true
  second_word x a holes brace e =
      (variable_parts (is_word x) (is_word a) (nat_le 8 holes) (is_some (variable_number scope x)) (is_name_or_attribute m scope x a) brace (brace + 1) (brace + length x + 2) e).1

  hole_found : (holes brace : ℕ) (h : List ℕ) → hole_fault m scope counts holes brace h ≡ None → Holds holes h
  hole_found holes brace h e = go (bytes_eq h (codes "#")) refl e
    where
      counted : (a b : Bool) → (if a && not b then None else Some brace) ≡ None → (a ≡ true) × (b ≡ false)
      counted true false e = (refl, refl)
      counted true true e = absurd cc
      counted false b e = absurd cc

      go : (b : Bool) → bytes_eq h (codes "#") ≡ b
          → (if b then (if counts && not (nat_le 8 holes) then None else Some brace) else variable_hole_fault m scope holes brace (cut_at_dot h).0 (cut_at_dot h).1) ≡ None
          → Holds holes h
      go true is e =
          let d = counted counts (nat_le 8 holes) e in
          (Count, subst (λ w. IsHole m scope counts w Count) (sym ((bytes_eq-Decides h (codes "#")).0 is)) (number_of_answers d.0), leb-false 8 holes d.1)
      go false is e =
          subst (Holds holes) (sym (cut_whole h (second_word (cut_at_dot h).0 (cut_at_dot h).1 holes brace e)))
          (variable_found holes brace (cut_at_dot h).0 (cut_at_dot h).1 e)

  -- ---- words

  -- what spells one byte more in front
  abbrev Extends : List ℕ → ℕ → Type 0
  Extends front c = (s w : List ℕ) → Spells s w → Spells (front ++ s) (c ∷ w)

  -- the text is one with holes, and has not too many with those before
  record Found (holes : ℕ) (s : List ℕ) : Type 0 where
    parts : List TextPart
    tree : IsHoles m scope counts s parts
    few : holes + holes_in parts ≤ 8

  one_more : (front : List ℕ) (c holes : ℕ) (s : List ℕ) → Extends front c → Found holes s → Found holes (front ++ s)
  one_more front c holes s extends f = go s f.parts f.tree f.few
    where
      go : (s : List ℕ) (ps : List TextPart) → IsHoles m scope counts s ps → holes + holes_in ps ≤ 8 → Found holes (front ++ s)
      go s ps (of_rest h) few = record {
        parts = Words (c ∷ []) ∷ ps;
        tree = subst (λ t. IsHoles m scope counts (t ++ s) (Words (c ∷ []) ∷ ps)) (append-nil front) (words (extends [] [] nothing) h);
        few = few;
      }
      go s ps (words {s = t} {t = u} {w = w} {c = d} {ps = qs} h i) few = record {
        parts = Words (c ∷ d ∷ w) ∷ qs;
        tree = subst (λ v. IsHoles m scope counts v (Words (c ∷ d ∷ w) ∷ qs)) (append_assoc front t u) (words (extends t (d ∷ w) h) i);
        few = few;
      }

  -- ---- a whole text

  -- the rest of a hole, and the text after it
  record Inside (holes : ℕ) (so_far s : List ℕ) : Type 0 where
    hole_left : List ℕ
    left : List ℕ
    front : s ≡ hole_left ++ 125 ∷ left
    part : TextPart
    hole : IsHole m scope counts (so_far ++ hole_left) part
    after : Found (holes + 1) left

  with_hole : (holes : ℕ) (s : List ℕ) → Inside holes [] s → Found holes (123 ∷ s)
  with_hole holes s r =
      let f = r.after in
      let more : holes_in (r.part ∷ f.parts) ≡ suc (holes_in f.parts) =
      ap (λ b. length (if b then r.part ∷ filter is_hole f.parts else filter is_hole f.parts)) (is_a_hole m scope counts r.hole_left r.part r.hole) in record {
        parts = r.part ∷ f.parts;
        tree = of_rest (subst (λ t. IsRest m scope counts (123 ∷ t) (r.part ∷ f.parts)) (sym r.front) (a_hole r.hole f.tree));
        few = let b = f.few in omega arith;
      }

  none_both : {A : Type 0} (x y : Option A) → or_else x y ≡ None → (x ≡ None) × (y ≡ None)
  none_both None y e = (refl, e)
  none_both (Some x) y e = absurd cc

  closed : (holes : ℕ) (so_far s : List ℕ) → Holds holes so_far → Found (holes + 1) s → Inside holes so_far (125 ∷ s)
  closed holes so_far s h f = record {
    hole_left = [];
    left = s;
    front = refl;
    part = h.0;
    hole = subst (λ w. IsHole m scope counts w h.0) (sym (append-nil so_far)) h.1;
    after = f;
  }

  one_deeper : (holes : ℕ) (so_far : List ℕ) (c : ℕ) (s : List ℕ) → Inside holes (so_far ++ c ∷ []) s → Inside holes so_far (c ∷ s)
  one_deeper holes so_far c s r = record {
    hole_left = c ∷ r.hole_left;
    left = r.left;
    front = ap (λ t. c ∷ t) r.front;
    part = r.part;
    hole = subst (λ w. IsHole m scope counts w r.part) (append_assoc so_far (c ∷ []) r.hole_left) r.hole;
    after = r.after;
  }

  mutual
    outside_found : (at holes : ℕ) (ms : List Mark) → AreMarks ms → holes ≤ 8 → outside_hole_fault m scope counts at holes ms ≡ None → Found holes (map byte_of ms)
    outside_found at holes [] are few e = record { parts = []; tree = of_rest the_end; few = omega arith }
    outside_found at holes (open_brace ∷ []) are few e = absurd (true≢false (ap is_some e))
    outside_found at holes (open_brace ∷ open_brace ∷ ms) are few e =
        one_more (123 ∷ 123 ∷ []) 123 holes (map byte_of ms) (λ s w h. an_open_brace h) (outside_found (at + 2) holes ms are.1.1 few e)
    outside_found at holes (open_brace ∷ close_brace ∷ ms) are few e =
        with_hole holes (125 ∷ map byte_of ms) (inside_found at (at + 1) holes [] (close_brace ∷ ms) are.1 e)
    outside_found at holes (open_brace ∷ byte c ∷ ms) are few e =
        with_hole holes (c ∷ map byte_of ms) (inside_found at (at + 1) holes [] (byte c ∷ ms) are.1 e)
    outside_found at holes (close_brace ∷ []) are few e = absurd (true≢false (ap is_some e))
    outside_found at holes (close_brace ∷ open_brace ∷ ms) are few e = absurd (true≢false (ap is_some e))
    outside_found at holes (close_brace ∷ close_brace ∷ ms) are few e =
        one_more (125 ∷ 125 ∷ []) 125 holes (map byte_of ms) (λ s w h. a_close_brace h) (outside_found (at + 2) holes ms are.1.1 few e)
    outside_found at holes (close_brace ∷ byte c ∷ ms) are few e = absurd (true≢false (ap is_some e))
    outside_found at holes (byte c ∷ ms) are few e =
        one_more (c ∷ []) c holes (map byte_of ms) (λ s w h. a_byte are.0 h) (outside_found (at + 1) holes ms are.1 few e)

    inside_found : (brace at holes : ℕ) (so_far : List ℕ) (ms : List Mark) → AreMarks ms
        → inside_hole_fault m scope counts brace at holes so_far ms ≡ None → Inside holes so_far (map byte_of ms)
    inside_found brace at holes so_far [] are e = absurd (true≢false (ap is_some e))
    inside_found brace at holes so_far (open_brace ∷ ms) are e = absurd (true≢false (ap is_some e))
    inside_found brace at holes so_far (close_brace ∷ ms) are e =
        let d = none_both (hole_fault m scope counts holes brace so_far) (outside_hole_fault m scope counts (at + 1) (holes + 1) ms) e in
        let h = hole_found holes brace so_far d.0 in
        closed holes so_far (map byte_of ms) h (outside_found (at + 1) (holes + 1) ms are.1 (let few = h.2 in omega arith) d.1)
    inside_found brace at holes so_far (byte c ∷ ms) are e =
        one_deeper holes so_far c (map byte_of ms) (inside_found brace (at + 1) holes (so_far ++ c ∷ []) ms are.1 e)

-- a text without a fault is one with holes
pub text_has_holes : (m : Model) (scope : Scope) (counts : Bool) (s : List ℕ) → text_hole_fault m scope counts s ≡ None
    → (parts : List TextPart) × IsTextWithHoles m scope counts s parts
unfolding text_hole_fault
text_has_holes m scope counts s e =
    let ms = the_marks s in
    let f = outside_found m scope counts 0 0 (map mark_of s) ms.0 (omega arith) e in
    (f.parts, record { tree = subst (λ t. IsHoles m scope counts t f.parts) ms.1 f.tree; few_holes = let b = f.few in omega arith })

pub faultless_has_holes : FaultlessHasHoles
faultless_has_holes m scope counts s = (text_has_holes m scope counts s, has_no_fault m scope counts s)

pub reads_holes : ReadsHoles
reads_holes m scope counts s = (parts_are_read m scope counts s, are_holes)
  where
    are_holes : text_hole_fault m scope counts s ≡ None → IsTextWithHoles m scope counts s (parts_of m scope s)
    are_holes e =
        let r = text_has_holes m scope counts s e in subst (IsTextWithHoles m scope counts s) (sym (parts_are_read m scope counts s r.0 r.1)) r.1
