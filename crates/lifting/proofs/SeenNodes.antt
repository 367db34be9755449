-- What a lifted node is at a world: its text with the number of answers filled in is the text of the template node there.
use Rattle.std.proofs.Common.{◌≡◌, ℕ, ◌+◌, List, [], ◌∷◌, ◌++◌, map, length, Bool, true, false, not, Option, refl, sym, ap, ◌∙◌, arith}
use Rattle.std.specs.Prelude.{cond, filter, count_by, decimal, option_map}
use Rattle.std.proofs.lemmas.List.Sums.{sum_by-cons}
use Rattle.std.proofs.lemmas.List.{length-map}
use Rattle.meaning.specs.Texts.{flat}
use Rattle.meaning.specs.Models.{Model, PlainModel, model_at, element_name, attribute_at}
use Rattle.meaning.specs.Queries.{element_of_variable}
use Rattle.meaning.specs.Cases.{NodeKind}
use Rattle.meaning.specs.CaseFiles.{CasePart, part_at}
use Rattle.meaning.specs.Templates.{TextPart, Words, NameOf, AttributeOf, Count, TemplateNode, text_of, left_open, joined_parts, branches_of, check_refuted, node_of}
use Rattle.meaning.specs.Tidy.{whole_model}
use Rattle.meaning.proofs.CutTrees.{Each}
use Rattle.meaning.proofs.JoinedTexts.{text_joined}
use Rattle.lifting.specs.ThereElements.{IsThere, PartFits}
use Rattle.lifting.proofs.ThereElements.{each_of_variable, same_name, same_attribute}

-- ---- texts

-- the parts that are left open, with a number of answers, are the text
open_text : (m : PlainModel) (bound : List ℕ) (n : ℕ) (ps : List TextPart) → flat (part_at n) (map (left_open m bound) ps) ≡ text_of m bound n ps
open_text m bound n [] = refl
open_text m bound n (Words s ∷ ps) = ap (λ t. s ++ t) (open_text m bound n ps)
open_text m bound n (NameOf v ∷ ps) = ap (λ t. element_name m (element_of_variable bound v) ++ t) (open_text m bound n ps)
open_text m bound n (AttributeOf v a ∷ ps) = ap (λ t. attribute_at m (element_of_variable bound v) a ++ t) (open_text m bound n ps)
open_text m bound n (Count ∷ ps) = ap (λ t. decimal n ++ t) (open_text m bound n ps)

pub text_of_parts : (m : PlainModel) (bound : List ℕ) (n : ℕ) (ps : List TextPart) → flat (part_at n) (joined_parts (map (left_open m bound) ps)) ≡ text_of m bound n ps
text_of_parts m bound n ps = text_joined n (map (left_open m bound) ps) ∙ open_text m bound n ps

module _ (m : Model) (w : List Bool) (bound : List ℕ) (there : Each (IsThere m w) bound) where
  same_part : (p : TextPart) → PartFits (length bound) p → left_open (model_at m w) bound p ≡ left_open (whole_model m) bound p
  same_part (Words s) l = refl
  same_part (NameOf v) l = ap CasePart.words (same_name m w _ (each_of_variable (IsThere m w) bound v l there))
  same_part (AttributeOf v a) l = ap CasePart.words (same_attribute m w _ (each_of_variable (IsThere m w) bound v l there) a)
  same_part Count l = refl

  -- names and attributes are filled in once, from the whole model
  pub same_open_parts : (ps : List TextPart) → Each (PartFits (length bound)) ps → map (left_open (model_at m w) bound) ps ≡ map (left_open (whole_model m) bound) ps
  same_open_parts [] l = refl
  same_open_parts (p ∷ ps) l = rw (same_part p l.0, same_open_parts ps l.1) refl

  pub same_parts : (ps : List TextPart) → Each (PartFits (length bound)) ps
      → joined_parts (map (left_open (whole_model m) bound) ps) ≡ joined_parts (map (left_open (model_at m w) bound) ps)
  same_parts ps l = ap joined_parts (sym (same_open_parts ps l))

-- ---- numbers of answers

pub count_kept : {A : Type 0} (p : A → Bool) (xs : List A) → count_by p xs ≡ length (filter p xs)
count_kept p [] = refl
count_kept {A = A} p (x ∷ xs) = sum_by-cons (λ y. cond (p y) 1 0) x xs ∙ go (p x) (count_kept p xs)
  where
    go : (b : Bool) → count_by p xs ≡ length (filter p xs) → cond b 1 0 + count_by p xs ≡ length (cond b (x ∷ filter p xs) (filter p xs))
    go true e = omega (arith, e)
    go false e = omega (arith, e)

-- the rows that hold are as many as their tuples
pub count_rows : {A R : Type 0} (tuple : R → A) (row_holds : R → Bool) (rows : List R) (tuples : List A) → map tuple (filter row_holds rows) ≡ tuples → count_by row_holds rows ≡ length tuples
count_rows tuple row_holds rows tuples e = count_kept row_holds rows ∙ sym (length-map (filter row_holds rows) tuple) ∙ ap length e

-- ---- the node

-- these parts, this number of answers and this verdict make the template's node
pub node_is : (labels : ℕ) (m : PlainModel) (key bound : List ℕ) (kind : NodeKind) (n : TemplateNode) (parts : List CasePart) (total : ℕ) (verdict : Option Bool)
    → parts ≡ joined_parts (map (left_open m bound) n.words)
    → total ≡ length (branches_of m bound n.each)
    → verdict ≡ option_map (λ c. not (check_refuted labels m bound c)) n.check
    → record { key = key; kind = kind; words = flat (part_at total) parts; undeveloped = n.undeveloped; verdict = verdict } ≡ node_of labels m key bound kind n
node_is labels m key bound kind n parts total verdict e f g =
    rw (e, f, g) (ap (λ s. record { key = key; kind = kind; words = s; undeveloped = n.undeveloped; verdict = option_map (λ c. not (check_refuted labels m bound c)) n.check })
    (text_of_parts m bound (length (branches_of m bound n.each)) n.words))
