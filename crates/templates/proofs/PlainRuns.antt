-- Bytes without braces in a template text: outside holes they lengthen the words, inside they lengthen the hole.
use Rattle.std.proofs.Common.{◌≡◌, refl, sym, ap, ◌∙◌, subst, ℕ, suc, ◌+◌, ◌<◌, ◌≤◌, List, [], ◌∷◌, ◌++◌, length, map, take, drop, get_or, append_assoc, Bool, true, false, Option, Some, None, arith}
use Rattle.std.specs.Prelude.{◌==◌, not, ◌&&◌, option_map, if◌then◌else◌, bytes_eq, codes, cond, unwrap_or}
use Rattle.std.specs.List.{list_all, prefix_len}
use Rattle.std.proofs.lemmas.Bool.{eqb-true}
use Rattle.std.proofs.lemmas.List.{append-nil}
use Rattle.std.proofs.lemmas.List.Sums.{prefix_len_stops}
use Rattle.meaning.specs.Models.{Model}
use Rattle.meaning.specs.QueryTexts.{Scope, variable_number, attribute_number}
use Rattle.meaning.specs.Templates.{TextPart, Words, NameOf, AttributeOf, Count}
use Rattle.meaning.specs.TemplateTexts.{Mark, open_brace, close_brace, byte, mark_of, Segment, plain, hole, longer_plain, outside_hole, inside_hole, cut_at_dot, hole_part, part_of}
use Rattle.meaning.specs.HoleFaults.{outside_hole_fault, inside_hole_fault}
use Rattle.meaning.proofs.EmptyLists.{both_true}
use Rattle.cond_text.specs.Lexemes.{begins_with}
use Rattle.templates.specs.TextReading.{is_plain, in_front}

-- ---- bytes

pub brace_is_ascii : (c : ℕ) → is_plain c ≡ false → c < 128
brace_is_ascii c e = go (c == 123) (c == 125) refl refl e
  where
    go : (a b : Bool) → (c == 123) ≡ a → (c == 125) ≡ b → (not a && not b) ≡ false → c < 128
    go true b ea eb e = let is = eqb-true c 123 ea in omega arith
    go false true ea eb e = let is = eqb-true c 125 eb in omega arith
    go false false ea eb e = absurd cc

plain_mark : (c : ℕ) → is_plain c ≡ true → mark_of c ≡ byte c
plain_mark c e = go (c == 123) (c == 125) e
  where
    go : (a b : Bool) → (not a && not b) ≡ true → (if a then open_brace else (if b then close_brace else byte c)) ≡ byte c
    go true b e = absurd cc
    go false true e = absurd cc
    go false false e = refl

-- ---- the longest run of them

pub run_is_plain : (s : List ℕ) → list_all is_plain (take (prefix_len is_plain s) s) ≡ true
run_is_plain [] = refl
run_is_plain (c ∷ cs) = go (is_plain c) refl (run_is_plain cs)
  where
    go : (b : Bool) → is_plain c ≡ b → list_all is_plain (take (prefix_len is_plain cs) cs) ≡ true
        → list_all is_plain (take (cond b (1 + prefix_len is_plain cs) 0) (c ∷ cs)) ≡ true
    go true is later = let f : 1 + prefix_len is_plain cs ≡ suc (prefix_len is_plain cs) = omega arith in rw f (rw is later)
    go false is later = refl

-- a brace stands behind it, or nothing
pub run_ends : (s : List ℕ) (n : ℕ) → n ≡ prefix_len is_plain s → n < length s → get_or s n 0 < 128
run_ends s n count below =
    let m : ℕ = prefix_len is_plain s in
    let stops = prefix_len_stops is_plain s 0 (let f : m < length s = omega arith in f) in
    subst (λ k. get_or s k 0 < 128) (sym count) (brace_is_ascii (get_or s m 0) stops)

-- ---- words

abbrev pub longer_by : List ℕ → List Segment → List Segment
longer_by [] ss = ss
longer_by (c ∷ cs) ss = longer_plain c (longer_by cs ss)

one_longer : (c : ℕ) (cs : List ℕ) (o : Option (List Segment)) → option_map (longer_plain c) (option_map (longer_by cs) o) ≡ option_map (longer_by (c ∷ cs)) o
one_longer c cs None = refl
one_longer c cs (Some ss) = refl

no_longer : (o : Option (List Segment)) → o ≡ option_map (longer_by []) o
no_longer None = refl
no_longer (Some ss) = refl

pub outside_plain : (w r : List ℕ) → list_all is_plain w ≡ true → outside_hole (map mark_of (w ++ r)) ≡ option_map (longer_by w) (outside_hole (map mark_of r))
outside_plain [] r all = no_longer (outside_hole (map mark_of r))
outside_plain (c ∷ cs) r all =
    let parts = both_true (is_plain c) (list_all is_plain cs) all in
    ap (λ k. outside_hole (k ∷ map mark_of (cs ++ r))) (plain_mark c parts.0)
    ∙ (ap (option_map (longer_plain c)) (outside_plain cs r parts.1) ∙ one_longer c cs (outside_hole (map mark_of r)))

pub inside_plain : (so_far w r : List ℕ) → list_all is_plain w ≡ true → inside_hole so_far (map mark_of (w ++ r)) ≡ inside_hole (so_far ++ w) (map mark_of r)
inside_plain so_far [] r all = ap (λ s. inside_hole s (map mark_of r)) (sym (append-nil so_far))
inside_plain so_far (c ∷ cs) r all =
    let parts = both_true (is_plain c) (list_all is_plain cs) all in
    ap (λ k. inside_hole so_far (k ∷ map mark_of (cs ++ r))) (plain_mark c parts.0)
    ∙ (inside_plain (so_far ++ c ∷ []) cs r parts.1 ∙ ap (λ s. inside_hole s (map mark_of r)) (append_assoc so_far (c ∷ []) cs))

module _ (m : Model) (scope : Scope) (counts : Bool) where
  pub outside_plain_fault : (at holes : ℕ) (w r : List ℕ) → list_all is_plain w ≡ true
      → outside_hole_fault m scope counts at holes (map mark_of (w ++ r)) ≡ outside_hole_fault m scope counts (at + length w) holes (map mark_of r)
  outside_plain_fault at holes [] r all = ap (λ k. outside_hole_fault m scope counts k holes (map mark_of r)) (let f : at ≡ at + 0 = omega arith in f)
  outside_plain_fault at holes (c ∷ cs) r all =
      let parts = both_true (is_plain c) (list_all is_plain cs) all in
      let next : at + 1 + length cs ≡ at + suc (length cs) = omega arith in
      ap (λ k. outside_hole_fault m scope counts at holes (k ∷ map mark_of (cs ++ r))) (plain_mark c parts.0)
      ∙ (outside_plain_fault (at + 1) holes cs r parts.1 ∙ ap (λ k. outside_hole_fault m scope counts k holes (map mark_of r)) next)

  pub inside_plain_fault : (brace at holes : ℕ) (so_far w r : List ℕ) → list_all is_plain w ≡ true
      → inside_hole_fault m scope counts brace at holes so_far (map mark_of (w ++ r)) ≡ inside_hole_fault m scope counts brace (at + length w) holes (so_far ++ w) (map mark_of r)
  inside_plain_fault brace at holes so_far [] r all =
      ap (λ k. inside_hole_fault m scope counts brace k holes so_far (map mark_of r)) (let f : at ≡ at + 0 = omega arith in f)
      ∙ ap (λ s. inside_hole_fault m scope counts brace (at + 0) holes s (map mark_of r)) (sym (append-nil so_far))
  inside_plain_fault brace at holes so_far (c ∷ cs) r all =
      let parts = both_true (is_plain c) (list_all is_plain cs) all in
      let next : at + 1 + length cs ≡ at + suc (length cs) = omega arith in
      ap (λ k. inside_hole_fault m scope counts brace at holes so_far (k ∷ map mark_of (cs ++ r))) (plain_mark c parts.0)
      ∙ (inside_plain_fault brace (at + 1) holes (so_far ++ c ∷ []) cs r parts.1
      ∙ (ap (λ k. inside_hole_fault m scope counts brace k holes ((so_far ++ c ∷ []) ++ cs) (map mark_of r)) next
      ∙ ap (λ s. inside_hole_fault m scope counts brace (at + suc (length cs)) holes s (map mark_of r)) (append_assoc so_far (c ∷ []) cs)))

-- ---- a brace that opens and is not doubled

no_second : (c : ℕ) → (c == 123) ≡ false → (P : Mark → Type 0) → P close_brace → P (byte c) → P (mark_of c)
no_second c e P close other = go (c == 123) (c == 125) e
  where
    go : (a b : Bool) → a ≡ false → P (if a then open_brace else (if b then close_brace else byte c))
    go true b e = absurd cc
    go false true e = close
    go false false e = other

pub opens : (cs : List ℕ) → begins_with 123 cs ≡ false → outside_hole (open_brace ∷ map mark_of cs) ≡ inside_hole [] (map mark_of cs)
opens [] e = refl
opens (c ∷ cs) e = no_second c e (λ k. outside_hole (open_brace ∷ k ∷ map mark_of cs) ≡ inside_hole [] (k ∷ map mark_of cs)) refl refl

pub opens_fault : (m : Model) (scope : Scope) (counts : Bool) (at holes : ℕ) (cs : List ℕ) → begins_with 123 cs ≡ false
    → outside_hole_fault m scope counts at holes (open_brace ∷ map mark_of cs) ≡ inside_hole_fault m scope counts at (at + 1) holes [] (map mark_of cs)
opens_fault m scope counts at holes [] e = refl
opens_fault m scope counts at holes (c ∷ cs) e =
    no_second c e (λ k. outside_hole_fault m scope counts at holes (open_brace ∷ k ∷ map mark_of cs) ≡ inside_hole_fault m scope counts at (at + 1) holes [] (k ∷ map mark_of cs)) refl refl

-- ---- parts

-- a hole is no words
pub no_words : (m : Model) (scope : Scope) (s : List ℕ) (P : TextPart → Type 0) → P Count → ((v : ℕ) → P (NameOf v)) → ((v a : ℕ) → P (AttributeOf v a)) → P (hole_part m scope s)
no_words m scope s P count name attribute =
    let x : List ℕ = (cut_at_dot s).0 in
    let a : List ℕ = (cut_at_dot s).1 in
    let v : ℕ = unwrap_or (variable_number scope x) 0 in
    go (bytes_eq s (codes "#")) (bytes_eq a (codes "name")) v (unwrap_or (attribute_number m scope v a) 0)
  where
    inner : (b : Bool) (v a : ℕ) → P (if b then NameOf v else AttributeOf v a)
    inner true v a = name v
    inner false v a = attribute v a

    go : (b c : Bool) (v a : ℕ) → P (if b then Count else (if c then NameOf v else AttributeOf v a))
    go true c v a = count
    go false c v a = inner c v a

in_front_one : (c : ℕ) (cs : List ℕ) (ps : List TextPart) → in_front (c ∷ cs) ps ≡ in_front (c ∷ []) (in_front cs ps)
in_front_one c [] ps = refl
in_front_one c (d ∷ ds) [] = refl
in_front_one c (d ∷ ds) (Words s ∷ ps) = refl
in_front_one c (d ∷ ds) (NameOf v ∷ ps) = refl
in_front_one c (d ∷ ds) (AttributeOf v a ∷ ps) = refl
in_front_one c (d ∷ ds) (Count ∷ ps) = refl

pub in_front_append : (u v : List ℕ) (ps : List TextPart) → in_front (u ++ v) ps ≡ in_front u (in_front v ps)
in_front_append [] v ps = refl
in_front_append (c ∷ cs) v ps =
    in_front_one c (cs ++ v) ps ∙ (ap (in_front (c ∷ [])) (in_front_append cs v ps) ∙ sym (in_front_one c cs (in_front v ps)))

longer_part : (m : Model) (scope : Scope) (c : ℕ) (ss : List Segment) → map (part_of m scope) (longer_plain c ss) ≡ in_front (c ∷ []) (map (part_of m scope) ss)
longer_part m scope c [] = refl
longer_part m scope c (plain s ∷ ss) = refl
longer_part m scope c (hole s ∷ ss) =
    no_words m scope s (λ p. Words (c ∷ []) ∷ p ∷ map (part_of m scope) ss ≡ in_front (c ∷ []) (p ∷ map (part_of m scope) ss)) refl (λ v. refl) (λ v a. refl)

pub longer_parts : (m : Model) (scope : Scope) (w : List ℕ) (ss : List Segment) → map (part_of m scope) (longer_by w ss) ≡ in_front w (map (part_of m scope) ss)
longer_parts m scope [] ss = refl
longer_parts m scope (c ∷ cs) ss =
    longer_part m scope c (longer_by cs ss) ∙ (ap (in_front (c ∷ [])) (longer_parts m scope cs ss) ∙ sym (in_front_one c cs (map (part_of m scope) ss)))
