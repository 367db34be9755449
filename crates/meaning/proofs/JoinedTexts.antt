-- Joining the parts of a text leaves the text.
use Rattle.std.proofs.Common.{◌≡◌, ℕ, List, [], ◌∷◌, ◌++◌, refl, ap, ◌∙◌}
use Rattle.std.specs.Prelude.{decimal}
use Rattle.std.proofs.lemmas.List.{append_assoc}
use Rattle.meaning.specs.Texts.{flat}
use Rattle.meaning.specs.CaseFiles.{CasePart, words, count, part_at}
use Rattle.meaning.specs.Templates.{joined_parts, in_front}

text_in_front : (n : ℕ) (s : List ℕ) (ps : List CasePart) → flat (part_at n) (in_front s ps) ≡ s ++ flat (part_at n) ps
text_in_front n [] ps = refl
text_in_front n (c ∷ cs) [] = refl
text_in_front n (c ∷ cs) (words s ∷ ps) = append_assoc (c ∷ cs) s (flat (part_at n) ps)
text_in_front n (c ∷ cs) (count ∷ ps) = refl

pub text_joined : (n : ℕ) (ps : List CasePart) → flat (part_at n) (joined_parts ps) ≡ flat (part_at n) ps
text_joined n [] = refl
text_joined n (words s ∷ ps) = text_in_front n s (joined_parts ps) ∙ ap (λ t. s ++ t) (text_joined n ps)
text_joined n (count ∷ ps) = ap (λ t. decimal n ++ t) (text_joined n ps)
