-- Templates whose nodes keep the rule of limits have few nodes in all.
use Rattle.std.proofs.Common.{◌≡◌, ℕ, zero, suc, ◌+◌, ◌-◌, ◌<◌, ◌≤◌, List, [], ◌∷◌, map, length, take, Bool, true, false, not, ◌==◌, Some, refl, sym, ap, ◌∙◌, subst, arith}
use Rattle.std.specs.Prelude.{codes, nat_le, sum_by}
use Rattle.std.specs.List.{slice_get}
use Rattle.std.proofs.lemmas.Bool.Decides.{nat_tests}
use Rattle.std.proofs.lemmas.List.{length-map}
use Rattle.std.proofs.lemmas.List.Sums.{sum_by-cons}
use Rattle.meaning.specs.Documents.{Document, list_at}
use Rattle.meaning.specs.Models.{Model}
use Rattle.meaning.specs.LineRules.{is_within}
use Rattle.meaning.specs.ModelRules.{counted_before}
use Rattle.meaning.specs.Templates.{Template, node_count}
use Rattle.meaning.specs.TemplateTexts.{template_of}
use Rattle.meaning.proofs.EqualityTests.{not_both, none_is_some, some_is, same_number}
use Rattle.lifting.proofs.ReadTemplateRules.{TemplateKeeps}
use Rattle.lifting.proofs.ReadTemplatePlaces.{count_after, get_within}

-- ---- numbers that pass a limit one by one

few_numbers : (limit k n : ℕ) → k ≤ limit → ((j : ℕ) → j < n → is_within limit (k + j) ≡ true) → k + n ≤ limit
few_numbers limit k n l h = go (nat_le (k + n) limit) refl
  where
    kept : nat_le (k + n) limit ≡ true → k + n ≤ limit
    kept e = grind (arith, nat_tests)

    past : nat_le (k + n) limit ≡ false → limit < k + n
    past e = grind (arith, nat_tests)

    go : (b : Bool) → nat_le (k + n) limit ≡ b → k + n ≤ limit
    go true e = kept e
    go false e =
        let at_limit : (k + (limit - k) == limit) ≡ true = same_number (k + (limit - k)) limit (omega (arith, l)) in
        elim (not_both false (sym (ap not at_limit) ∙ h (limit - k) (omega (arith, l, past e))) refl) [ ]

-- ---- nodes counted over the templates

abbrev nodes_of_document : Document → ℕ
nodes_of_document d = length (list_at (codes "nodes") d)

few_documents : (limit : ℕ) (ds : List Document) (k : ℕ) → k ≤ limit
    → ((i : ℕ) (d : Document) → slice_get ds i ≡ Some d → (j : ℕ) → j < nodes_of_document d → is_within limit (k + counted_before (codes "nodes") ds i + j) ≡ true)
    → k + sum_by nodes_of_document ds ≤ limit
few_documents limit [] k l h = omega (arith, l)
few_documents limit (d ∷ ds) k l h =
    let here : k + nodes_of_document d ≤ limit =
    few_numbers limit k (nodes_of_document d) l (λ j f. let e : k + 0 + j ≡ k + j = omega arith in ap (is_within limit) (sym e) ∙ h 0 d refl j f) in
    let rest : (k + nodes_of_document d) + sum_by nodes_of_document ds ≤ limit =
    few_documents limit ds (k + nodes_of_document d) here (λ i x e j f. ap (is_within limit) (moved i j) ∙ h (suc i) x e j f) in
    rw (sum_by-cons nodes_of_document d ds) (omega (arith, rest))
  where
    moved : (i j : ℕ) → k + nodes_of_document d + counted_before (codes "nodes") ds i + j ≡ k + counted_before (codes "nodes") (d ∷ ds) (suc i) + j
    moved i j = rw (sum_by-cons nodes_of_document d (take i ds)) (omega arith)

module _ (m : Model) (names : List (List ℕ)) where
  count_is : (d : Document) → length (template_of m names d).nodes ≡ nodes_of_document d
  count_is d = length-map _ (λ p. p.node) ∙ count_after m names _ _ [] (list_at (codes "nodes") d) ∙ omega arith

  counts_are : (ds : List Document) → node_count (map (template_of m names) ds) ≡ sum_by nodes_of_document ds
  counts_are [] = refl
  counts_are (d ∷ ds) =
      sum_by-cons (λ t. length t.nodes) (template_of m names d) (map (template_of m names) ds)
      ∙ rw (count_is d, counts_are ds) (sym (sum_by-cons nodes_of_document d ds))

  -- there are at most so many nodes in all
  pub read_nodes_are_few : (ds : List Document) → ((i : ℕ) (d : Document) → slice_get ds i ≡ Some d → TemplateKeeps m ds i d)
      → node_count (map (template_of m names) ds) ≤ 1024
  read_nodes_are_few ds keeps =
      let all : 0 + sum_by nodes_of_document ds ≤ 1024 = few_documents 1024 ds 0 (omega arith) within in omega (arith, all, counts_are ds)
    where
      within : (i : ℕ) (d : Document) → slice_get ds i ≡ Some d → (j : ℕ) → j < nodes_of_document d → is_within 1024 (0 + counted_before (codes "nodes") ds i + j) ≡ true
      within i d e j l =
          let node : (x : Document) × (slice_get (list_at (codes "nodes") d) j ≡ Some x) = get_within (list_at (codes "nodes") d) j l in
          let same : 0 + counted_before (codes "nodes") ds i + j ≡ counted_before (codes "nodes") ds i + j = omega arith in
          ap (is_within 1024) same ∙ ((keeps i d e).nodes j node.0 node.1).within

-- a template has no more nodes than all of them
pub one_of_all : (templates : List Template) (i : ℕ) (t : Template) → slice_get templates i ≡ Some t → length t.nodes ≤ node_count templates
one_of_all [] i t e = elim (none_is_some t e) [ ]
one_of_all (x ∷ xs) zero t e = rw (sum_by-cons (λ t. length t.nodes) x xs) (subst (λ y. length y.nodes ≤ length x.nodes + node_count xs) (some_is x t e) (omega arith))
one_of_all (x ∷ xs) (suc i) t e = rw (sum_by-cons (λ t. length t.nodes) x xs) (omega (arith, one_of_all xs i t e))
