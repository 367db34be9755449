-- Walks in the model of a product, by the arrows of all links.
use Rattle.std.proofs.Common.{◌≡◌, ◌∙◌, refl, sym, ap, ℕ, zero, suc, ◌+◌, ◌<◌, ◌≤◌, ◌⊎◌, inl, inr, List, [], ◌∷◌, length, map, Bool, true, false, cond, arith}
use Rattle.std.specs.Prelude.{◌&&◌, ◌||◌, ◌==◌, nat_lt, filter, Contains}
use Rattle.std.specs.List.{All, AllByRecursion, list_any, enumerate_from}
use Rattle.std.proofs.lemmas.Bool.{cases_lt, lt-ltb, le-ltb}
use Rattle.std.proofs.lemmas.List.Elements.{All-from_recursion, All-contains}
use Rattle.meaning.specs.Texts.{numbered}
use Rattle.meaning.specs.Expressions.{truth}
use Rattle.meaning.specs.Models.{Model, Element, Link, has_element, model_at}
use Rattle.meaning.specs.Queries.{Path, has_link, element_numbers, walks}
use Rattle.annotated_model.proofs.ProperProducts.{links_join_elements}
use Rattle.path_queries.specs.Presence.{is_kept, Arrow, arrow_of}
use Rattle.path_queries.specs.Relations.{Relation, related}
use Rattle.path_queries.specs.Matrices.{leads, linked}
use Rattle.path_queries.specs.Searching.{leads_within}
use Rattle.path_queries.proofs.WalkRelations.{related_walks, no_walk_from, no_walk_to}
use Rattle.path_queries.proofs.RelationsAlike.{Alike, related_alike}

-- ---- elements of a product have numbers below those of all elements

numbers_below : (x : List Bool) (i n : ℕ) (es : List Element) → i + length es ≤ n → AllByRecursion (λ k. k < n) (map (λ y. y.0) (filter (λ y. truth y.1.presence x) (enumerate_from i es)))
numbers_below x i n [] within = tt
numbers_below x i n (e ∷ es) within = go (truth e.presence x) (numbers_below x (i + 1) n es (omega (arith, within)))
  where
    go : (b : Bool) → AllByRecursion (λ k. k < n) (map (λ y. y.0) (filter (λ y. truth y.1.presence x) (enumerate_from (i + 1) es)))
        → AllByRecursion (λ k. k < n) (map (λ y. y.0) (cond b ((i, e) ∷ filter (λ y. truth y.1.presence x) (enumerate_from (i + 1) es)) (filter (λ y. truth y.1.presence x) (enumerate_from (i + 1) es))))
    go true all = (omega (arith, within), all)
    go false all = all

element_below : (m : Model) (x : List Bool) (e : ℕ) → Contains (element_numbers (model_at m x)) e → e < length m.elements
unfolding model_at
element_below m x e c =
    All-contains (λ k. k < length m.elements) (element_numbers (model_at m x)) e
    (All-from_recursion (λ k. k < length m.elements) (element_numbers (model_at m x)) (numbers_below x 0 (length m.elements) m.elements (omega arith))) c

-- ---- the links of a product

kept_links : (m : Model) (x : List Bool) (k i j : ℕ) (ls : List Link) → list_any (leads k i j) (map (arrow_of m x) ls) ≡ list_any (λ l. (l.kind == k) && (l.source == i) && (l.target == j)) (filter (is_kept m x) ls)
kept_links m x k i j [] = refl
kept_links m x k i j (l ∷ ls) = go (is_kept m x l) (kept_links m x k i j ls)
  where
    first : (t a b : Bool) → a ≡ b → ((t && true) || a) ≡ (t || b)
    first true a b e = refl
    first false a b e = e

    other : (t a b : Bool) → a ≡ b → ((t && false) || a) ≡ b
    other true a b e = e
    other false a b e = e

    go : (b : Bool) → list_any (leads k i j) (map (arrow_of m x) ls) ≡ list_any (λ l. (l.kind == k) && (l.source == i) && (l.target == j)) (filter (is_kept m x) ls)
        → ((((l.kind == k) && (l.source == i) && (l.target == j)) && b) || list_any (leads k i j) (map (arrow_of m x) ls))
        ≡ list_any (λ l. (l.kind == k) && (l.source == i) && (l.target == j)) (cond b (l ∷ filter (is_kept m x) ls) (filter (is_kept m x) ls))
    go true e = first ((l.kind == k) && (l.source == i) && (l.target == j)) (list_any (leads k i j) (map (arrow_of m x) ls)) (list_any (λ l. (l.kind == k) && (l.source == i) && (l.target == j)) (filter (is_kept m x) ls)) e
    go false e = other ((l.kind == k) && (l.source == i) && (l.target == j)) (list_any (leads k i j) (map (arrow_of m x) ls)) (list_any (λ l. (l.kind == k) && (l.source == i) && (l.target == j)) (filter (is_kept m x) ls)) e

links_are : (m : Model) (x : List Bool) (k i j : ℕ) → linked (map (arrow_of m x) m.links) k i j ≡ has_link (model_at m x) k i j
unfolding model_at
links_are m x k i j = kept_links m x k i j m.links ∙ any_of_cond m.links
  where
    any_of_cond : (ls : List Link) → list_any (λ l. (l.kind == k) && (l.source == i) && (l.target == j)) (filter (is_kept m x) ls) ≡ list_any (λ l. (l.kind == k) && (l.source == i) && (l.target == j)) (filter (λ l. truth l.presence x && has_element m.elements x l.source && has_element m.elements x l.target) ls)
    any_of_cond ls = refl

-- ---- walks

pub model_walks : (m : Model) (x : List Bool) (p : Path) → Alike (length m.elements) (related (length m.elements) (linked (map (arrow_of m x) m.links)) p) (walks (model_at m x) p)
model_walks m x p i j row column =
    related_alike (length m.elements) (linked (map (arrow_of m x) m.links)) (has_link (model_at m x)) (λ k y z r c. links_are m x k y z) p i j row column
    ∙ related_walks (model_at m x) (links_join_elements m x) (length m.elements) (element_below m x) p i j

-- a walk leads from an element to one
pub walks_within : (m : Model) (x : List Bool) (p : Path) (r : Relation) → Alike (length m.elements) r (walks (model_at m x) p) → (i j : ℕ)
    → leads_within (length m.elements) r i j ≡ walks (model_at m x) p i j
walks_within m x p r same i j = go (cases_lt i n) (cases_lt j n)
  where
    n : ℕ
    n = length m.elements

    and_false : (b c : Bool) → (b && false && c) ≡ false
    and_false true c = refl
    and_false false c = refl

    go : (i < n) ⊎ (n ≤ i) → (j < n) ⊎ (n ≤ j) → (nat_lt i n && nat_lt j n && r i j) ≡ walks (model_at m x) p i j
    go (inl row) (inl column) =
        ap (λ b. b && nat_lt j n && r i j) (lt-ltb i n row) ∙ ap (λ b. b && r i j) (lt-ltb j n column) ∙ same i j row column
    go (inr past) c =
        ap (λ b. b && nat_lt j n && r i j) (le-ltb i n past)
        ∙ sym (no_walk_from (model_at m x) (links_join_elements m x) p i j (λ there. let below = element_below m x i there in absurd (omega (arith, below, past))))
    go (inl row) (inr past) =
        ap (λ b. nat_lt i n && b && r i j) (le-ltb j n past) ∙ and_false (nat_lt i n) (r i j)
        ∙ sym (no_walk_to (model_at m x) (links_join_elements m x) p i j (λ there. let below = element_below m x j there in absurd (omega (arith, below, past))))
