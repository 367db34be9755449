-- Notes whose conditions have exact identifiers in a document are seen in the document as they are in the algebra.
use Rattle.std.proofs.Common.{◌≡◌, ℕ, suc, ◌+◌, List, [], ◌∷◌, map, length, Bool, true, false, Some, None, refl, sym, ap, ◌∙◌, subst, arith}
use Rattle.std.specs.Prelude.{cond, filter, count_by, pred}
use Rattle.std.specs.List.{slice_get}
use Rattle.std.proofs.lemmas.List.Sums.{sum_by-cons}
use Rattle.worlds.specs.Algebra.{Algebra}
use Rattle.path_queries.specs.Answering.{tuples_of, tuples_at}
use Rattle.meaning.specs.Texts.{numbers_from}
use Rattle.meaning.specs.Cases.{Node}
use Rattle.meaning.specs.CaseFiles.{CaseDocument, CaseNode, Row, holds, node_at_world}
use Rattle.meaning.specs.Templates.{Findings, Instance}
use Rattle.meaning.specs.Tidy.{presence_of}
use Rattle.meaning.proofs.CutTrees.{Each}
use Rattle.meaning.proofs.CutCases.{plain_relation}
use Rattle.meaning.proofs.EachMembers.{each_by}
use Rattle.meaning.proofs.MappedLists.{map_of_map}
use Rattle.lifted_case.specs.declared.lifted.Lifted.{Lifted}
use Rattle.lifted_case.specs.declared.lifted.LRel.{LRel}
use Rattle.lifted_case.specs.CaseWritten.{document_with, node_with, relation_with, conditions_of_node, conditions_of_finding}
use Rattle.lifted_case.proofs.CaseReadable.{each_split, each_in_map}
use Rattle.lifting.specs.Lifting.{Lifts}
use Rattle.lifting.specs.LiftedCases.{Noted as CaseNoted, there_in, seen_in, noted_tree}
use Rattle.lifting.specs.LiftedInstances.{tree_of}
use Rattle.lifting.specs.Noted.{Noted, there_at, seen_at, Stands, relation_of, conditions_to}
use Rattle.lifting.proofs.HeldValues.{those_held, held_rows}
use Rattle.lifting.proofs.MappedTrees.{lifts_mapped}
use Rattle.meaning.proofs.Pairs.{each_of_map}
use Rattle.lifting.proofs.SeenNodes.{count_rows}

-- the conditions of a note, of its node and of its rows, have a property
pub record HaveAll {C : Type 0} (P : C → Type 0) (n : Noted C) : Type 0 where
  pub when : P n.0.when
  pub rows : Each (λ r. P r.1) n.1.rows

pub have_all : {C : Type 0} (P : C → Type 0) (a : Algebra C) (n : Noted C) → Stands a n → Each P (conditions_of_node n.0) → HaveAll P n
have_all P a n s h = record {
  when = h.0;
  rows = each_in_map P (λ r. r.1) n.1.rows (subst (Each P) s.branches (each_split P n.0.branches (conditions_of_finding n.0.finding) h.1).0);
}

-- ---- relations have the conditions of their targets

abbrev presence_in : List CaseNode → ℕ → ℕ
presence_in ns i = elim (slice_get ns i) as (λ _. ℕ) [ None ↦ 0 | Some n ↦ n.presence ]

module _ {C : Type 0} (id : C → ℕ) (at : ℕ → ℕ) where
  targets_from : (j : ℕ) (rs : List (LRel C)) (ns : List (Noted C)) → map (λ r. r.to) rs ≡ numbers_from j (length ns) → map (λ r. r.when) rs ≡ map (λ n. n.0.when) ns
      → ((i : ℕ) → at (j + i) ≡ presence_in (map (λ n. node_with id n.0) ns) i) → Each (λ r. id r.when ≡ at r.to) rs
  targets_from j [] ns t c p = tt
  targets_from j (r ∷ rs) [] t c p = cc
  targets_from j (r ∷ rs) (n ∷ ns) t c p = (
    ap id when_is ∙ sym (p 0) ∙ ap at (omega (arith, to_is)),
    targets_from (suc j) rs ns rest_to rest_when (λ i. ap at (omega arith) ∙ p (suc i)),
  )
    where
      first_of : {A : Type 0} → A → List A → A
      first_of x [] = x
      first_of x (y ∷ ys) = y

      rest_of : {A : Type 0} → List A → List A
      rest_of [] = []
      rest_of (y ∷ ys) = ys

      when_is : r.when ≡ n.0.when
      when_is = ap (first_of r.when) c

      to_is : r.to ≡ j
      to_is = ap (first_of r.to) t

      rest_to : map (λ r. r.to) rs ≡ numbers_from (suc j) (length ns)
      rest_to = ap rest_of t

      rest_when : map (λ r. r.when) rs ≡ map (λ n. n.0.when) ns
      rest_when = ap rest_of c

  pub targets_of : (rs : List (LRel C)) (ns : List (Noted C)) → map (λ r. r.to) rs ≡ numbers_from 1 (pred (length ns)) → map (λ r. r.when) rs ≡ conditions_to None ns
      → ((i : ℕ) → at i ≡ presence_in (map (λ n. node_with id n.0) ns) i) → Each (λ r. id r.when ≡ at r.to) rs
  targets_of [] ns t c p = tt
  targets_of (r ∷ rs) [] t c p = cc
  targets_of (r ∷ rs) (n ∷ ns) t c p = targets_from 1 (r ∷ rs) ns t c (λ i. ap at (omega arith) ∙ p (suc i))

module _ {C : Type 0} (case : Lifted C) (id : C → ℕ) (rows : List Row) (notes : List (Noted C)) (of_nodes : map (λ n. n.0) notes ≡ case.nodes) where
  -- the notes' nodes are those of the document
  pub written_nodes : (tells : Noted C → List Bool → Findings) → map (λ (n : CaseNoted). n.0) (map (λ (n : Noted C). (node_with id n.0, tells n)) notes) ≡ (document_with id rows case).nodes
  written_nodes tells = map_of_map (λ (n : CaseNoted). n.0) (λ (n : Noted C). (node_with id n.0, tells n)) notes ∙ sym (map_of_map (node_with id) (λ n. n.0) notes) ∙ ap (map (node_with id)) of_nodes

  -- a relation has the identifier of its target
  pub written_targets : map (λ r. r.target) (map relation_of case.relations) ≡ numbers_from 1 (pred (length notes)) → map (λ r. r.when) case.relations ≡ conditions_to None notes
      → Each (λ r. r.presence ≡ presence_of (document_with id rows case) r.target) (document_with id rows case).relations
  written_targets targets conditions =
      each_of_map (λ r. r.presence ≡ presence_of (document_with id rows case) r.target) (relation_with id) case.relations
      (targets_of id (presence_of (document_with id rows case)) case.relations notes (sym (map_of_map (λ r. r.target) relation_of case.relations) ∙ targets) conditions
      (λ i. ap (λ ns. presence_in ns i) (ap (map (node_with id)) (sym of_nodes) ∙ map_of_map (node_with id) (λ n. n.0) notes)))

-- world w of the document is world x of the algebra
module _ {C : Type 0} (a : Algebra C) (case : Lifted C) (id : C → ℕ) (rows : List Row) (w x : List Bool) (is_world : a.is_world x ≡ true) where
  abbrev k : CaseDocument
  k = document_with id rows case

  abbrev pub IsExactAt : C → Type 0
  IsExactAt c = holds (document_with id rows case) w (id c) ≡ a.holds c x

  module _ (n : Noted C) (s : Stands a n) (e : HaveAll IsExactAt n) where
    pub same_there : holds k w (id n.0.when) ≡ n.1.there x
    same_there = e.when ∙ s.there x is_world

    -- as many branches hold as tuples answer
    count_holding : count_by (holds k w) (map id n.0.branches) ≡ length (cond (n.1.there x) (n.1.told x).branches [])
    count_holding =
        ap (λ cs. count_by (holds k w) (map id cs)) s.branches
        ∙ go n.1.rows e.rows
        ∙ count_rows (λ r. r.0) (λ r. a.holds r.1 x) n.1.rows (cond (n.1.there x) (n.1.told x).branches []) (s.branches_exact x is_world)
      where
        go : (rs : List (List ℕ × C)) → Each (λ r. IsExactAt r.1) rs → count_by (holds k w) (map id (map (λ r. r.1) rs)) ≡ count_by (λ r. a.holds r.1 x) rs
        go [] l = refl
        go (r ∷ rs) l = rw (sum_by-cons (λ c. cond (holds k w c) 1 0) (id r.1) (map id (map (λ r. r.1) rs)), sum_by-cons (λ r. cond (a.holds r.1 x) 1 0) r rs, l.0, go rs l.1) refl

    -- the tuples that are told
    pub held : those_held (holds k w) (tuples_of n.1.rows) (map id n.0.branches) ≡ cond (holds k w (id n.0.when)) (n.1.told x).branches []
    held =
        ap (λ cs. those_held (holds k w) (tuples_of n.1.rows) (map id cs)) s.branches
        ∙ ap (those_held (holds k w) (tuples_of n.1.rows)) (map_of_map id (λ r. r.1) n.1.rows)
        ∙ held_rows (holds k w) (λ r. r.0) (λ r. id r.1) n.1.rows
        ∙ go n.1.rows e.rows
        ∙ s.branches_exact x is_world
        ∙ ap (λ there. cond there (n.1.told x).branches []) (sym same_there)
      where
        go : (rs : List (List ℕ × C)) → Each (λ r. IsExactAt r.1) rs → map (λ r. r.0) (filter (λ r. holds k w (id r.1)) rs) ≡ tuples_at a rs x
        go [] l = refl
        go (r ∷ rs) l =
            ap (λ v. map (λ r. r.0) (cond v (r ∷ filter (λ r. holds k w (id r.1)) rs) (filter (λ r. holds k w (id r.1)) rs))) l.0
            ∙ at (a.holds r.1 x) (go rs l.1)
          where
            at : (v : Bool) → map (λ r. r.0) (filter (λ r. holds k w (id r.1)) rs) ≡ tuples_at a rs x
                → map (λ r. r.0) (cond v (r ∷ filter (λ r. holds k w (id r.1)) rs) (filter (λ r. holds k w (id r.1)) rs))
                ≡ map (λ r. r.0) (cond v (r ∷ filter (λ r. a.holds r.1 x) rs) (filter (λ r. a.holds r.1 x) rs))
            at true e = ap (λ ts. r.0 ∷ ts) e
            at false e = e

  -- what the notes tell in the document at w is what they tell at x
  module _ (tells : Noted C → List Bool → Findings) (as_told : (n : Noted C) → tells n w ≡ n.1.told x) where
    abbrev pub written_note : Noted C → CaseNoted
    written_note n = (node_with id n.0, tells n)

    same_seen : (n : Noted C) → Stands a n → HaveAll IsExactAt n → seen_in k w (written_note n) ≡ seen_at x n
    same_seen n s e = ap (λ f. (node_at_world k w (node_with id n.0), f)) (as_told n) ∙ ap (λ (m : Node). (m, n.1.told x)) same_node
      where
        same_node : node_at_world k w (node_with id n.0) ≡ (seen_at x n).0
        same_node = rw (count_holding n s e, s.unchecked, s.no_verdict x) refl

    pub written_lifts : (notes : List (Noted C)) → Each (λ n. Stands a n × HaveAll IsExactAt n) notes → (i : Instance) → Lifts (there_at x) (seen_at x) (tree_of notes case.relations) true i
        → Lifts (there_in k w) (seen_in k w) (noted_tree k (map written_note notes)) true i
    written_lifts notes known i l =
        subst (λ rs. Lifts (there_in k w) (seen_in k w) (record { nodes = map written_note notes; relations = rs }) true i)
        (sym (map_of_map plain_relation (relation_with id) case.relations))
        (lifts_mapped written_note (there_at x) (seen_at x) (there_in k w) (seen_in k w) (tree_of notes case.relations) true i
        (each_by (λ n. Stands a n × HaveAll IsExactAt n) _ (λ n s. (same_there n s.0 s.1, same_seen n s.0 s.1)) notes known) l)
