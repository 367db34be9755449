-- The texts of nodes that break no rule: their words are texts, and the variables of their holes are in scope.
use Rattle.std.proofs.Common.{◌≡◌, ℕ, suc, ◌+◌, ◌<◌, List, [], ◌∷◌, ◌++◌, map, length, Bool, true, false, not, ◌&&◌, ◌||◌, ◌==◌, Option, Some, None, refl, subst, arith}
use Rattle.std.specs.Prelude.{codes, option_map, option_and_then, unwrap_or, bytes_eq, nat_le, if◌then◌else◌, is_some, ⊤}
use Rattle.std.proofs.lemmas.List.{length-map}
use Rattle.meaning.specs.Texts.{place_of, is_text}
use Rattle.meaning.specs.Documents.{Document, text_at}
use Rattle.meaning.specs.Models.{Model}
use Rattle.meaning.specs.QueryTexts.{Scope, variable_number, attribute_number}
use Rattle.meaning.specs.Templates.{NameOf, AttributeOf, Count}
use Rattle.meaning.specs.TemplateTexts.{Mark, open_brace, close_brace, byte, mark_of, Segment, plain, hole, then_byte, outside_hole, inside_hole, cut_at_dot, variable_part, hole_part, part_of, parts_of}
use Rattle.meaning.specs.BundlePlaces.{has, text_of_member}
use Rattle.meaning.specs.HoleFaults.{is_word, is_name_or_attribute, variable_hole_fault, hole_fault, outside_hole_fault, inside_hole_fault, text_hole_fault}
use Rattle.meaning.specs.TemplateRules.{NodeContext, scope_of, is_strategy, kind_in, node_texts_fit, hole_fault_of_node}
use Rattle.meaning.proofs.CutTrees.{Each}
use Rattle.meaning.proofs.EmptyLists.{both_true, all_true}
use Rattle.lifting.specs.ThereElements.{PartFits}
use Rattle.lifting.specs.FittingTemplates.{IsTextPart}
use Rattle.meaning.proofs.EqualityTests.{none_is_some, some_is}
use Rattle.lifting.proofs.ReadTemplateOrder.{map_some, both_none}

-- ---- lists, and lists that may be absent

pub each_mapped : {A B : Type 0} (P : B → Type 0) (f : A → B) (xs : List A) → Each (λ x. P (f x)) xs → Each P (map f xs)
each_mapped P f [] h = tt
each_mapped P f (x ∷ xs) h = (h.0, each_mapped P f xs h.1)

abbrev EachFound : {A : Type 0} → (A → Type 0) → Option (List A) → Type 0
EachFound P None = ⊤
EachFound P (Some xs) = Each P xs

found_each : {A : Type 0} (P : A → Type 0) (o : Option (List A)) → EachFound P o → Each P (unwrap_or o [])
found_each P None h = tt
found_each P (Some xs) h = h

pub place_below : (s : List ℕ) (xs : List (List ℕ)) (k : ℕ) → place_of s xs ≡ Some k → k < length xs
place_below s [] k e = elim (none_is_some k e) [ ]
place_below s (x ∷ xs) k e = go (bytes_eq s x) (λ j f. place_below s xs j f) e
  where
    first : 0 ≡ k → k < suc (length xs)
    first q = omega (arith, q)

    later : (j : ℕ) → suc j ≡ k → j < length xs → k < suc (length xs)
    later j q l = omega (arith, q, l)

    go : (b : Bool) → ((j : ℕ) → place_of s xs ≡ Some j → j < length xs) → (if b then Some 0 else option_map suc (place_of s xs)) ≡ Some k → k < suc (length xs)
    go true h e = first (some_is 0 k e)
    go false h e = let found : (j : ℕ) × (place_of s xs ≡ Some j) × (suc j ≡ k) = map_some suc (place_of s xs) k e in later found.0 found.2 (h found.0 found.1)

-- a variable that is found is in scope
pub variable_below : (scope : Scope) (x : List ℕ) (v : ℕ) → variable_number scope x ≡ Some v → v < length scope
variable_below scope x v e = subst (λ n. v < n) (length-map scope (λ v. v.0)) (place_below x (map (λ v. v.0) scope) v e)

-- ---- holes

module _ (m : Model) (scope : Scope) where
  variable_fits : (holes brace : ℕ) (x a : List ℕ) → variable_hole_fault m scope holes brace x a ≡ None
      → PartFits (length scope) (variable_part m scope (unwrap_or (variable_number scope x) 0) a)
  variable_fits holes brace x a e = go (not (is_word x && is_word a) || nat_le 8 holes) (variable_number scope x) refl e
    where
      by_name : (v : ℕ) → v < length scope → (b : Bool) → PartFits (length scope) (if b then NameOf v else AttributeOf v (unwrap_or (attribute_number m scope v a) 0))
      by_name v l true = l
      by_name v l false = l

      no_fault : (at : ℕ) → Some at ≡ None → ⊥
      no_fault at e = cc

      go : (wrong : Bool) (o : Option ℕ) → variable_number scope x ≡ o
          → (if wrong then Some brace else (if not (is_some o) then Some (brace + 1) else (if is_name_or_attribute m scope x a then None else Some (brace + length x + 2)))) ≡ None
          → PartFits (length scope) (variable_part m scope (unwrap_or o 0) a)
      go true o f e = elim (no_fault brace e) [ ]
      go false None f e = elim (no_fault (brace + 1) e) [ ]
      go false (Some v) f e = by_name v (variable_below scope x v f) (bytes_eq a (codes "name"))

  hole_fits : (counts : Bool) (holes brace : ℕ) (s : List ℕ) → hole_fault m scope counts holes brace s ≡ None → PartFits (length scope) (hole_part m scope s)
  hole_fits counts holes brace s e = go (bytes_eq s (codes "#")) e
    where
      go : (b : Bool)
          → (if b then (if counts && not (nat_le 8 holes) then None else Some brace) else variable_hole_fault m scope holes brace (cut_at_dot s).0 (cut_at_dot s).1) ≡ None
          → PartFits (length scope) (if b then Count else variable_part m scope (unwrap_or (variable_number scope (cut_at_dot s).0) 0) (cut_at_dot s).1)
      go true e = tt
      go false e = variable_fits holes brace (cut_at_dot s).0 (cut_at_dot s).1 e

  abbrev SegmentFits : Segment → Type 0
  SegmentFits s = PartFits (length scope) (part_of m scope s)

  longer_fits : (c : ℕ) (o : Option (List Segment)) → EachFound SegmentFits o → EachFound SegmentFits (then_byte c o)
  longer_fits c None h = tt
  longer_fits c (Some []) h = (tt, tt)
  longer_fits c (Some (plain s ∷ ss)) h = (tt, h.1)
  longer_fits c (Some (hole s ∷ ss)) h = (tt, h)

  hole_then : (s : List ℕ) (o : Option (List Segment)) → SegmentFits (hole s) → EachFound SegmentFits o → EachFound SegmentFits (option_map (λ ss. hole s ∷ ss) o)
  hole_then s None f h = tt
  hole_then s (Some ss) f h = (f, h)

  module _ (counts : Bool) where
    mutual
      outside_fits : (at holes : ℕ) (ms : List Mark) → outside_hole_fault m scope counts at holes ms ≡ None → EachFound SegmentFits (outside_hole ms)
      outside_fits at holes [] e = tt
      outside_fits at holes (open_brace ∷ []) e = tt
      outside_fits at holes (open_brace ∷ open_brace ∷ ms) e = longer_fits 123 (outside_hole ms) (outside_fits (at + 2) holes ms e)
      outside_fits at holes (open_brace ∷ close_brace ∷ ms) e = inside_fits at (at + 1) holes [] (close_brace ∷ ms) e
      outside_fits at holes (open_brace ∷ byte c ∷ ms) e = inside_fits at (at + 1) holes [] (byte c ∷ ms) e
      outside_fits at holes (close_brace ∷ []) e = tt
      outside_fits at holes (close_brace ∷ open_brace ∷ ms) e = tt
      outside_fits at holes (close_brace ∷ close_brace ∷ ms) e = longer_fits 125 (outside_hole ms) (outside_fits (at + 2) holes ms e)
      outside_fits at holes (close_brace ∷ byte c ∷ ms) e = tt
      outside_fits at holes (byte c ∷ ms) e = longer_fits c (outside_hole ms) (outside_fits (at + 1) holes ms e)

      inside_fits : (brace at holes : ℕ) (so_far : List ℕ) (ms : List Mark) → inside_hole_fault m scope counts brace at holes so_far ms ≡ None
          → EachFound SegmentFits (inside_hole so_far ms)
      inside_fits brace at holes so_far [] e = tt
      inside_fits brace at holes so_far (open_brace ∷ ms) e = tt
      inside_fits brace at holes so_far (close_brace ∷ ms) e =
          let parts = both_none (hole_fault m scope counts holes brace so_far) (outside_hole_fault m scope counts (at + 1) (holes + 1) ms) e in
          hole_then so_far (outside_hole ms) (hole_fits counts holes brace so_far parts.0) (outside_fits (at + 1) (holes + 1) ms parts.1)
      inside_fits brace at holes so_far (byte c ∷ ms) e = inside_fits brace (at + 1) holes (so_far ++ c ∷ []) ms e

    pub parts_fit_in : (s : List ℕ) → text_hole_fault m scope counts s ≡ None → Each (PartFits (length scope)) (parts_of m scope s)
    unfolding text_hole_fault parts_of
    parts_fit_in s e =
        each_mapped (PartFits (length scope)) (part_of m scope) (unwrap_or (outside_hole (map mark_of s)) [])
        (found_each SegmentFits (outside_hole (map mark_of s)) (outside_fits 0 0 (map mark_of s) e))

-- ---- words

abbrev is_text_byte : ℕ → Bool
is_text_byte c = nat_le 32 c && not (c == 127)

abbrev IsTextMark : Mark → Type 0
IsTextMark (byte c) = is_text_byte c ≡ true
IsTextMark _ = ⊤

abbrev IsTextSegment : Segment → Type 0
IsTextSegment (plain s) = is_text s ≡ true
IsTextSegment (hole s) = ⊤

mark_is_text : (c : ℕ) → is_text_byte c ≡ true → IsTextMark (mark_of c)
mark_is_text c e = go (c == 123) (c == 125)
  where
    go : (a b : Bool) → IsTextMark (if a then open_brace else (if b then close_brace else byte c))
    go true b = tt
    go false true = tt
    go false false = e

marks_are_text : (s : List ℕ) → is_text s ≡ true → Each IsTextMark (map mark_of s)
marks_are_text [] e = tt
marks_are_text (c ∷ s) e = let parts = both_true (is_text_byte c) (is_text s) e in (mark_is_text c parts.0, marks_are_text s parts.1)

longer_text : (c : ℕ) → is_text_byte c ≡ true → (o : Option (List Segment)) → EachFound IsTextSegment o → EachFound IsTextSegment (then_byte c o)
longer_text c e None h = tt
longer_text c e (Some []) h = (all_true (is_text_byte c) true e refl, tt)
longer_text c e (Some (plain s ∷ ss)) h = (all_true (is_text_byte c) (is_text s) e h.0, h.1)
longer_text c e (Some (hole s ∷ ss)) h = (all_true (is_text_byte c) true e refl, h)

hole_before : (s : List ℕ) (o : Option (List Segment)) → EachFound IsTextSegment o → EachFound IsTextSegment (option_map (λ ss. hole s ∷ ss) o)
hole_before s None h = tt
hole_before s (Some ss) h = (tt, h)

mutual
  outside_texts : (ms : List Mark) → Each IsTextMark ms → EachFound IsTextSegment (outside_hole ms)
  outside_texts [] h = tt
  outside_texts (open_brace ∷ []) h = tt
  outside_texts (open_brace ∷ open_brace ∷ ms) h = longer_text 123 refl (outside_hole ms) (outside_texts ms h.1.1)
  outside_texts (open_brace ∷ close_brace ∷ ms) h = inside_texts [] (close_brace ∷ ms) h.1
  outside_texts (open_brace ∷ byte c ∷ ms) h = inside_texts [] (byte c ∷ ms) h.1
  outside_texts (close_brace ∷ []) h = tt
  outside_texts (close_brace ∷ open_brace ∷ ms) h = tt
  outside_texts (close_brace ∷ close_brace ∷ ms) h = longer_text 125 refl (outside_hole ms) (outside_texts ms h.1.1)
  outside_texts (close_brace ∷ byte c ∷ ms) h = tt
  outside_texts (byte c ∷ ms) h = longer_text c h.0 (outside_hole ms) (outside_texts ms h.1)

  inside_texts : (so_far : List ℕ) (ms : List Mark) → Each IsTextMark ms → EachFound IsTextSegment (inside_hole so_far ms)
  inside_texts so_far [] h = tt
  inside_texts so_far (open_brace ∷ ms) h = tt
  inside_texts so_far (close_brace ∷ ms) h = hole_before so_far (outside_hole ms) (outside_texts ms h.1)
  inside_texts so_far (byte c ∷ ms) h = inside_texts (so_far ++ c ∷ []) ms h.1

segment_is_text : (m : Model) (scope : Scope) (s : Segment) → IsTextSegment s → IsTextPart (part_of m scope s)
segment_is_text m scope (plain s) h = h
segment_is_text m scope (hole s) h = go (bytes_eq s (codes "#")) (bytes_eq (cut_at_dot s).1 (codes "name"))
  where
    v : ℕ
    v = unwrap_or (variable_number scope (cut_at_dot s).0) 0

    go : (a b : Bool) → IsTextPart (if a then Count else (if b then NameOf v else AttributeOf v (unwrap_or (attribute_number m scope v (cut_at_dot s).1) 0)))
    go true b = tt
    go false true = tt
    go false false = tt

segments_are_text : (m : Model) (scope : Scope) (ss : List Segment) → Each IsTextSegment ss → Each (λ s. IsTextPart (part_of m scope s)) ss
segments_are_text m scope [] h = tt
segments_are_text m scope (s ∷ ss) h = (segment_is_text m scope s h.0, segments_are_text m scope ss h.1)

pub words_are_texts_in : (m : Model) (scope : Scope) (s : List ℕ) → is_text s ≡ true → Each IsTextPart (parts_of m scope s)
unfolding parts_of
words_are_texts_in m scope s e =
    each_mapped IsTextPart (part_of m scope) (unwrap_or (outside_hole (map mark_of s)) [])
    (segments_are_text m scope (unwrap_or (outside_hole (map mark_of s)) [])
    (found_each IsTextSegment (outside_hole (map mark_of s)) (outside_texts (map mark_of s) (marks_are_text s e))))

-- ---- of a node

no_words_fit : (m : Model) (scope : Scope) → Each (PartFits (length scope)) (parts_of m scope [])
unfolding parts_of
no_words_fit m scope = tt

module _ (c : NodeContext) (j : ℕ) (d : Document) where
  pub words_fit_in : hole_fault_of_node c (j, d) ≡ None → Each (PartFits (length (scope_of c j))) (parts_of c.model (scope_of c j) (text_at (codes "text") d))
  words_fit_in e = go (text_of_member (codes "text") d) e
    where
      counts : Bool
      counts = is_strategy (kind_in d) && has (codes "each") d

      go : (o : Option (List ℕ)) → option_and_then (text_hole_fault c.model (scope_of c j) counts) o ≡ None
          → Each (PartFits (length (scope_of c j))) (parts_of c.model (scope_of c j) (unwrap_or o []))
      go None e = no_words_fit c.model (scope_of c j)
      go (Some s) e = parts_fit_in c.model (scope_of c j) counts s e

  pub words_are_texts : (m : Model) (scope : Scope) → node_texts_fit d ≡ true → Each IsTextPart (parts_of m scope (text_at (codes "text") d))
  words_are_texts m scope e =
      words_are_texts_in m scope (text_at (codes "text") d) (both_true _ _ (both_true _ _ (both_true _ _ (both_true _ _ (both_true _ _ (both_true _ _ e).0).0).0).0).0).0
