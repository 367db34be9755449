-- How a template text is read to its end, or to its first fault.
use Rattle.std.proofs.Common.{◌≡◌, ◌≢◌, refl, sym, ap, ◌∙◌, subst, ℕ, suc, ◌+◌, ◌-◌, ◌<◌, ◌≤◌, List, [], ◌∷◌, ◌++◌, length, map, append_assoc, Bool, true, false, Option, Some, None, arith}
use Rattle.std.specs.Prelude.{option_map, unwrap_or, IfErr, IfOk, bytes_eq, codes, nat_le, not, ◌&&◌, ◌||◌, if◌then◌else◌, slice_index, ◌==◌, is_some}
use Rattle.std.proofs.lemmas.Bool.{ne_eqb}
use Rattle.std.proofs.lemmas.List.{nil_from_length}
use Rattle.std.proofs.lemmas.Str.Pattern.{split_parts, IsSplitOnceResult}
use Rattle.meaning.specs.Models.{Model}
use Rattle.meaning.specs.QueryTexts.{Scope, variable_number}
use Rattle.meaning.specs.Templates.{TextPart, Words, NameOf, AttributeOf, Count}
use Rattle.meaning.specs.TemplateTexts.{Segment, mark_of, outside_hole, cut_at_dot, variable_part, hole_part, part_of, parts_of}
use Rattle.meaning.specs.BundlePlaces.{or_else}
use Rattle.meaning.specs.HoleFaults.{hole_fault, variable_hole_fault, is_word, is_name_or_attribute, text_hole_fault}
use Rattle.templates.specs.TextReading.{in_front, parts_left, fault_left, BeginsWithWords, BeginsWithHole, BeginsWithFault}
use Rattle.templates.specs.TextSoFar.{TextSoFar}
use Rattle.templates.proofs.PlainRuns.{in_front_append, no_words}

-- a hole behind words
hole_behind : (m : Model) (scope : Scope) (w inner : List ℕ) (ps : List TextPart) → in_front w (hole_part m scope inner ∷ ps) ≡ in_front w [] ++ hole_part m scope inner ∷ ps
hole_behind m scope [] inner ps = refl
hole_behind m scope (c ∷ cs) inner ps =
    no_words m scope inner (λ p. in_front (c ∷ cs) (p ∷ ps) ≡ in_front (c ∷ cs) [] ++ p ∷ ps) refl (λ v. refl) (λ v a. refl)

module _ (m : Model) (scope : Scope) (counts : Bool) (text : List ℕ) where
  pub text_begins : TextSoFar m scope counts text 0 text [] []
  unfolding text_hole_fault
  text_begins = record {
    parts = same (parts_left m scope text);
    fault = ap (λ at. fault_left m scope counts at 0 text) (let f : 0 ≡ length text - length text = omega arith in f);
    within = omega arith;
    counted = omega arith;
  }
    where
      same : (o : Option (List TextPart)) → o ≡ option_map (λ ps. [] ++ in_front [] ps) o
      same None = refl
      same (Some ps) = refl

  module _ (holes : ℕ) (rest : List ℕ) (done : List TextPart) (words : List ℕ) (so_far : TextSoFar m scope counts text holes rest done words) where
    pub text_with_words : (w after : List ℕ) → BeginsWithWords rest w after → TextSoFar m scope counts text holes after done (words ++ w)
    text_with_words w after b = record {
      parts = so_far.parts ∙ (ap (option_map (λ ps. done ++ in_front words ps)) (b.parts m scope) ∙ joined (parts_left m scope after));
      fault = let s = b.shorter in let i = so_far.within in
          so_far.fault ∙ b.fault m scope counts (length text - length rest) (length text - length after) holes (omega arith);
      within = let s = b.shorter in let i = so_far.within in omega arith;
      counted = let s = b.shorter in let i = so_far.counted in omega arith;
    }
      where
        joined : (o : Option (List TextPart)) → option_map (λ ps. done ++ in_front words ps) (option_map (in_front w) o) ≡ option_map (λ ps. done ++ in_front (words ++ w) ps) o
        joined None = refl
        joined (Some ps) = ap (λ qs. Some (done ++ qs)) (sym (in_front_append words w ps))

    pub text_with_hole : (inner after : List ℕ) (next : List TextPart) → BeginsWithHole rest inner after
        → hole_fault m scope counts holes (length text - length rest) inner ≡ None
        → next ≡ done ++ in_front words [] ++ hole_part m scope inner ∷ [] → TextSoFar m scope counts text (holes + 1) after next []
    text_with_hole inner after next b none longer = record {
      parts = so_far.parts ∙ (ap (option_map (λ ps. done ++ in_front words ps)) (b.parts m scope) ∙ joined (parts_left m scope after));
      fault = let s = b.shorter in let i = so_far.within in
          so_far.fault ∙ (b.fault m scope counts (length text - length rest) (length text - length after) holes (omega arith)
          ∙ ap (λ o. or_else o (fault_left m scope counts (length text - length after) (holes + 1) after)) none);
      within = let s = b.shorter in let i = so_far.within in omega arith;
      counted = let s = b.shorter in let i = so_far.counted in omega arith;
    }
      where
        joined : (o : Option (List TextPart)) → option_map (λ ps. done ++ in_front words ps) (option_map (λ ps. hole_part m scope inner ∷ ps) o) ≡ option_map (λ ps. next ++ in_front [] ps) o
        joined None = refl
        joined (Some ps) =
            ap (λ qs. Some (done ++ qs)) (hole_behind m scope words inner ps)
            ∙ (ap Some (sym (append_assoc done (in_front words []) (hole_part m scope inner ∷ ps)))
            ∙ (ap Some (sym (append_assoc (done ++ in_front words []) (hole_part m scope inner ∷ []) ps))
            ∙ ap (λ qs. Some (qs ++ ps)) (sym longer)))

    pub text_hole_stops : (inner after : List ℕ) (at : ℕ) → BeginsWithHole rest inner after
        → hole_fault m scope counts holes (length text - length rest) inner ≡ Some at → text_hole_fault m scope counts text ≡ Some at
    text_hole_stops inner after at b is =
        let s = b.shorter in let i = so_far.within in
        so_far.fault ∙ (b.fault m scope counts (length text - length rest) (length text - length after) holes (omega arith)
        ∙ ap (λ o. or_else o (fault_left m scope counts (length text - length after) (holes + 1) after)) is)

    pub text_stops : BeginsWithFault rest → text_hole_fault m scope counts text ≡ Some (length text - length rest)
    text_stops b = so_far.fault ∙ b m scope counts (length text - length rest) holes

    pub text_ends : (all : List TextPart) → length rest ≡ 0 → all ≡ done ++ in_front words [] → all ≡ parts_of m scope text
    unfolding parts_of
    text_ends all empty is =
        let nothing : rest ≡ [] = nil_from_length rest empty in
        is ∙ sym (told (outside_hole (map mark_of text)) (done ++ in_front words [])
        (so_far.parts ∙ ap (λ r. option_map (λ ps. done ++ in_front words ps) (parts_left m scope r)) nothing))
      where
        told : (o : Option (List Segment)) (ps : List TextPart) → option_map (map (part_of m scope)) o ≡ Some ps → map (part_of m scope) (unwrap_or o []) ≡ ps
        told None ps e = absurd cc
        told (Some ss) ps e = let same : map (part_of m scope) ss ≡ ps = cc in same

    pub text_without_fault : length rest ≡ 0 → text_hole_fault m scope counts text ≡ None
    text_without_fault empty =
        let nothing : rest ≡ [] = nil_from_length rest empty in
        so_far.fault ∙ ap (λ r. fault_left m scope counts (length text - length rest) holes r) nothing

-- ---- what stands between the braces of a hole

cut : (x a : List ℕ) → ((i : ℕ) → i < length x → slice_index x i ≢ 46) → cut_at_dot (x ++ 46 ∷ a) ≡ (x, a)
cut [] a free = refl
cut (c ∷ cs) a free =
    let no : (c == 46) ≡ false = ne_eqb c 46 (free 0 (omega arith)) in
    let rest = cut cs a (λ i l. free (suc i) (omega arith)) in
    ap (λ b. if b then ([], cs ++ 46 ∷ a) else (c ∷ (cut_at_dot (cs ++ 46 ∷ a)).0, (cut_at_dot (cs ++ 46 ∷ a)).1)) no
    ∙ ap (λ r. (c ∷ r.0, r.1)) rest

pub cut_there : (s x a : List ℕ) → (s ≡ x ++ 46 ∷ a) × ((i : ℕ) → i < length x → slice_index x i ≢ 46) → cut_at_dot s ≡ (x, a)
cut_there s x a h = ap cut_at_dot h.0 ∙ cut x a h.1

uncut : (s : List ℕ) → ((i : ℕ) → i < length s → slice_index s i ≢ 46) → (cut_at_dot s).1 ≡ []
uncut [] free = refl
uncut (c ∷ cs) free = go (c == 46) (ne_eqb c 46 (free 0 (omega arith))) (uncut cs (λ i l. free (suc i) (omega arith)))
  where
    go : (b : Bool) → b ≡ false → (cut_at_dot cs).1 ≡ [] → (if◌then◌else◌ {A = List ℕ × List ℕ} b ([], cs) (c ∷ (cut_at_dot cs).0, (cut_at_dot cs).1)).1 ≡ []
    go true e later = absurd cc
    go false e later = later

no_second : (a b : Bool) → b ≡ false → (c : Bool) → (not (a && b) || c) ≡ true
no_second true b e c = rw e refl
no_second false b e c = refl

pub without_dot : (m : Model) (scope : Scope) (holes brace : ℕ) (s : List ℕ) → ((i : ℕ) → i < length s → slice_index s i ≢ 46)
    → variable_hole_fault m scope holes brace (cut_at_dot s).0 (cut_at_dot s).1 ≡ Some brace
without_dot m scope holes brace s free =
    let x : List ℕ = (cut_at_dot s).0 in
    let a : List ℕ = (cut_at_dot s).1 in
    ap (λ b. if b then Some brace
    else (if not (is_some (variable_number scope x)) then Some (brace + 1)
    else (if is_name_or_attribute m scope x a then None else Some (brace + length x + 2))))
    (no_second (is_word x) (is_word a) (ap is_word (uncut s free)) (nat_le 8 holes))

-- a hole with a dot is one of a variable
pub hole_with_dot : (m : Model) (scope : Scope) (counts : Bool) (holes brace : ℕ) (s x a : List ℕ) → bytes_eq s (codes "#") ≡ false → cut_at_dot s ≡ (x, a)
    → hole_fault m scope counts holes brace s ≡ variable_hole_fault m scope holes brace x a
hole_with_dot m scope counts holes brace s x a other is =
    ap (λ b. if b then (if counts && not (nat_le 8 holes) then None else Some brace) else variable_hole_fault m scope holes brace (cut_at_dot s).0 (cut_at_dot s).1) other
    ∙ ap (λ c. variable_hole_fault m scope holes brace c.0 c.1) is

pub part_with_dot : (m : Model) (scope : Scope) (s x a : List ℕ) → bytes_eq s (codes "#") ≡ false → cut_at_dot s ≡ (x, a)
    → hole_part m scope s ≡ variable_part m scope (unwrap_or (variable_number scope x) 0) a
part_with_dot m scope s x a other is =
    ap (λ b. if b then Count else variable_part m scope (unwrap_or (variable_number scope (cut_at_dot s).0) 0) (cut_at_dot s).1) other
    ∙ ap (λ c. variable_part m scope (unwrap_or (variable_number scope c.0) 0) c.1) is

pub hole_without_dot : (m : Model) (scope : Scope) (counts : Bool) (holes brace : ℕ) (s : List ℕ) → bytes_eq s (codes "#") ≡ false
    → ((i : ℕ) → i < length s → slice_index s i ≢ 46) → hole_fault m scope counts holes brace s ≡ Some brace
hole_without_dot m scope counts holes brace s other free =
    ap (λ b. if b then (if counts && not (nat_le 8 holes) then None else Some brace) else variable_hole_fault m scope holes brace (cut_at_dot s).0 (cut_at_dot s).1) other
    ∙ without_dot m scope holes brace s free
