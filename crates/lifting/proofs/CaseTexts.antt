-- The texts of a case are texts: its keys, and the parts of its nodes, whose words are as long as possible.
use Rattle.std.proofs.Common.{◌≡◌, ℕ, ◌≤◌, List, [], ◌∷◌, ◌++◌, map, Bool, true, false, not, ◌&&◌, ◌==◌, refl, ap, ◌∙◌, arith}
use Rattle.std.specs.Prelude.{decimal, nat_le, codes}
use Rattle.std.specs.List.{list_all, join_with_byte}
use Rattle.std.specs.Str.Parse.{AllDigits}
use Rattle.std.proofs.lemmas.Bool.Decides.{nat_tests}
use Rattle.std.proofs.lemmas.Fmt.{decimal_is_IsNumeral}
use Rattle.std.proofs.lemmas.Grind.{common_steps}
use Rattle.std.proofs.lemmas.Str.Parse.{digit_from_value}
use Rattle.meaning.specs.Texts.{is_text}
use Rattle.meaning.specs.Queries.{is_empty}
use Rattle.meaning.specs.CaseFiles.{CasePart, words, count}
use Rattle.meaning.specs.CaseReading.{part_is_text}
use Rattle.meaning.specs.Templates.{joined_parts, in_front, key_below, key_in_branch}
use Rattle.meaning.proofs.EmptyLists.{both_true, all_true}
use Rattle.meaning.proofs.CutTrees.{Each}
use Rattle.lifted_case.specs.declared.lifted.LPart.{LPart}
use Rattle.lifted_case.specs.declared.lifted.LPart.TheVariants as part
use Rattle.lifted_case.specs.CaseView.{case_part_of}
use Rattle.lifted_case.specs.CaseContents.{begins_with_words, are_joined}
use Rattle.meaning.proofs.KeySteps.{IsSmall}

-- ---- keys

pub text_both : (s t : List ℕ) → is_text s ≡ true → is_text t ≡ true → is_text (s ++ t) ≡ true
text_both [] t e h = h
text_both (c ∷ cs) t e h =
    let parts = both_true (nat_le 32 c && not (c == 127)) (is_text cs) e in all_true _ _ parts.0 (text_both cs t parts.1 h)

digit_is_text : (c : ℕ) → 48 ≤ c → c ≤ 57 → (nat_le 32 c && not (c == 127)) ≡ true
digit_is_text c l m = grind (arith, nat_tests, common_steps)

digits_are_text : (ds : List ℕ) → AllDigits 10 ds → is_text ds ≡ true
digits_are_text [] h = refl
digits_are_text (c ∷ cs) h =
    let d = digit_from_value c h.0 in all_true _ _ (digit_is_text c (omega (arith, d)) (omega (arith, d))) (digits_are_text cs h.1)

decimal_is_text : (n : ℕ) → IsSmall n → is_text (decimal n) ≡ true
decimal_is_text n l = digits_are_text (decimal n) (decimal_is_IsNumeral n l).0.1

joined_is_text : (xs : List ℕ) → Each IsSmall xs → is_text (join_with_byte 46 (map decimal xs)) ≡ true
joined_is_text [] h = refl
joined_is_text (x ∷ []) h = decimal_is_text x h.0
joined_is_text (x ∷ y ∷ xs) h =
    text_both (decimal x) (46 ∷ join_with_byte 46 (map decimal (y ∷ xs))) (decimal_is_text x h.0) (joined_is_text (y ∷ xs) h.1)

pub below_is_text : (key : List ℕ) (n : ℕ) → is_text key ≡ true → IsSmall n → is_text (key_below key n) ≡ true
below_is_text key n e l = text_both (key ++ codes "/") (decimal n) (text_both key (codes "/") e refl) (decimal_is_text n l)

pub in_branch_is_text : (key answer : List ℕ) (n : ℕ) → is_text key ≡ true → Each IsSmall answer → IsSmall n → is_text (key_in_branch key answer n) ≡ true
in_branch_is_text key answer n e h l =
    text_both (((key ++ codes "/") ++ join_with_byte 46 (map decimal answer)) ++ codes ":") (decimal n)
    (text_both ((key ++ codes "/") ++ join_with_byte 46 (map decimal answer)) (codes ":")
    (text_both (key ++ codes "/") (join_with_byte 46 (map decimal answer)) (text_both key (codes "/") e refl) (joined_is_text answer h)) refl)
    (decimal_is_text n l)

-- ---- parts

front_is_text : (s : List ℕ) (ps : List CasePart) → is_text s ≡ true → list_all part_is_text ps ≡ true → list_all part_is_text (in_front s ps) ≡ true
front_is_text [] ps e h = h
front_is_text (c ∷ cs) [] e h = all_true (is_text (c ∷ cs)) true e refl
front_is_text (c ∷ cs) (words t ∷ ps) e h =
    let parts = both_true (is_text t) (list_all part_is_text ps) h in all_true _ _ (text_both (c ∷ cs) t e parts.0) parts.1
front_is_text (c ∷ cs) (count ∷ ps) e h = all_true (is_text (c ∷ cs)) (list_all part_is_text (count ∷ ps)) e h

pub joined_are_texts : (ps : List CasePart) → list_all part_is_text ps ≡ true → list_all part_is_text (joined_parts ps) ≡ true
joined_are_texts [] e = refl
joined_are_texts (words s ∷ ps) e =
    let parts = both_true (is_text s) (list_all part_is_text ps) e in front_is_text s (joined_parts ps) parts.0 (joined_are_texts ps parts.1)
joined_are_texts (count ∷ ps) e = joined_are_texts ps e

-- ---- words as long as possible

abbrev begins : List CasePart → Bool
begins [] = false
begins (words s ∷ ps) = true
begins (count ∷ ps) = false

-- no words are empty, and none stand next to others
abbrev long_words : List CasePart → Bool
long_words [] = true
long_words (words s ∷ ps) = not (is_empty s) && not (begins ps) && long_words ps
long_words (count ∷ ps) = long_words ps

front_is_long : (s : List ℕ) (ps : List CasePart) → long_words ps ≡ true → long_words (in_front s ps) ≡ true
front_is_long [] ps e = e
front_is_long (c ∷ cs) [] e = refl
front_is_long (c ∷ cs) (words t ∷ ps) e = go (is_empty t) (begins ps) (long_words ps) e
  where
    go : (a b d : Bool) → ((not a && not b) && d) ≡ true → ((not false && not b) && d) ≡ true
    go true b d e = cc
    go false b d e = e
front_is_long (c ∷ cs) (count ∷ ps) e = e

joined_is_long : (ps : List CasePart) → long_words (joined_parts ps) ≡ true
joined_is_long [] = refl
joined_is_long (words s ∷ ps) = front_is_long s (joined_parts ps) (joined_is_long ps)
joined_is_long (count ∷ ps) = joined_is_long ps

begins_alike : (ps : List LPart) → begins_with_words ps ≡ begins (map case_part_of ps)
begins_alike [] = refl
begins_alike (part.Words s ∷ ps) = refl
begins_alike (part.Count ∷ ps) = refl

long_alike : (ps : List LPart) → are_joined ps ≡ long_words (map case_part_of ps)
long_alike [] = refl
long_alike (part.Words s ∷ ps) =
    ap (λ b. (not (is_empty s) && not b) && are_joined ps) (begins_alike ps)
    ∙ ap (λ b. (not (is_empty s) && not (begins (map case_part_of ps))) && b) (long_alike ps)
long_alike (part.Count ∷ ps) = long_alike ps

-- parts that were joined are those of a text whose words are as long as possible
pub parts_are_joined : (text : List LPart) (ps : List CasePart) → map case_part_of text ≡ joined_parts ps → are_joined text ≡ true
parts_are_joined text ps e = long_alike text ∙ ap long_words e ∙ joined_is_long ps
