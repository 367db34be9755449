-- Edges at later moments, and the matrices of paths by those of their parts.
use Rattle.std.proofs.Common.{◌≡◌, ◌∙◌, sym, ap, ℕ, ◌+◌, ◌<◌, ◌≤◌, List, [], ◌∷◌, ◌++◌, length, map, take, Bool, true, Some, arith}
use Rattle.std.specs.List.{All, slice_get}
use Rattle.std.proofs.lemmas.List.{map-append, take-map}
use Rattle.std.proofs.lemmas.List.Elements.{All-weaker}
use Rattle.meaning.specs.Queries.{Path}
use Rattle.worlds.specs.Algebra.{Algebra, Kept}
use Rattle.worlds.proofs.Kept.{world_before}
use Rattle.worlds.proofs.Rows.{map_same}
use Rattle.path_queries.specs.declared.presence.Edge.{Edge}
use Rattle.meaning.specs.Models.{Model}
use Rattle.path_queries.specs.Presence.{Arrow, IsEdge, arrow_at, arrow_of}
use Rattle.path_queries.proofs.Presences.{take_one_more}
use Rattle.path_queries.specs.Relations.{Relation, related, composed, united, closed}
use Rattle.path_queries.specs.Matrices.{relation_at, linked, MatrixWhere}
use Rattle.path_queries.proofs.Cells.{matrix_later, matrix_is}
use Rattle.path_queries.proofs.RelationsAlike.{Alike, composed_alike, united_alike, closed_alike}

module _ {C : Type 0} where
  pub edges_later : {a b : Algebra C} (n : ℕ) (edges : List (Edge C)) → Kept a b → All (IsEdge a n) edges → All (IsEdge b n) edges
  edges_later {a} {b} n edges kept all =
      All-weaker (IsEdge a n) (IsEdge b n) (λ e h. record { source = h.source; target = h.target; live = kept.live e.when h.live }) edges all

  pub arrows_later : {a b : Algebra C} (n : ℕ) (edges : List (Edge C)) (x : List Bool) → Kept a b → All (IsEdge a n) edges → map (arrow_at b x) edges ≡ map (arrow_at a x) edges
  arrows_later {a} {b} n edges x kept all =
      map_same (IsEdge a n) (arrow_at b x) (arrow_at a x) edges (λ e h. ap (arrow_with e) (kept.holds e.when h.live x)) all
    where
      arrow_with : Edge C → Bool → Arrow
      arrow_with e present = record { kind = e.kind; source = e.from; target = e.to; present = present }

  -- the arrows of one more link
  pub one_more_arrow : {a b : Algebra C} (m : Model) (x : List Bool) (l : ℕ) (edges : List (Edge C)) (e : Edge C) → Kept a b → All (IsEdge a (length m.elements)) edges
      → map (arrow_at a x) edges ≡ map (arrow_of m x) (take l m.links) → slice_get (map (arrow_of m x) m.links) l ≡ Some (arrow_at b x e)
      → map (arrow_at b x) (edges ++ e ∷ []) ≡ map (arrow_of m x) (take (l + 1) m.links)
  one_more_arrow {a} {b} m x l edges e kept all so_far told =
      map-append (arrow_at b x) edges (e ∷ [])
      ∙ ap (λ rs. rs ++ arrow_at b x e ∷ []) (arrows_later (length m.elements) edges x kept all ∙ so_far ∙ sym (take-map (arrow_of m x) l m.links))
      ∙ sym (take_one_more (map (arrow_of m x) m.links) l (arrow_at b x e) told)
      ∙ take-map (arrow_of m x) (l + 1) m.links

  -- what was a matrix of a path, over the arrows of a later moment
  pub path_matrix_before : {a b c : Algebra C} {n : ℕ} {cells : List C} (edges : List (Edge C)) (p : Path) → Kept a b → All (IsEdge a n) edges
      → MatrixWhere c n cells (λ x. related n (linked (map (arrow_at b x) edges)) p) → MatrixWhere c n cells (λ x. related n (linked (map (arrow_at a x) edges)) p)
  path_matrix_before {a} {b} {c} {n} edges p kept all m =
      matrix_is (λ x. related n (linked (map (arrow_at b x) edges)) p) (λ x. related n (linked (map (arrow_at a x) edges)) p)
      (λ x w i j row column. ap (λ arrows. related n (linked arrows) p i j) (arrows_later n edges x kept all)) m

  -- the relation of a matrix is the one that it is to be, also later
  alike_at : {a b : Algebra C} {n : ℕ} {cells : List C} {r : List Bool → Relation} (x : List Bool) → Kept a b → MatrixWhere a n cells r → b.is_world x ≡ true → Alike n (relation_at b n cells x) (r x)
  alike_at x kept m w = (matrix_later kept m).holds x w

  pub composed_matrix : {a b c : Algebra C} {n : ℕ} {first second cells : List C} {r s : List Bool → Relation} → Kept a b → Kept b c → MatrixWhere a n first r → MatrixWhere b n second s
      → MatrixWhere c n cells (λ x. composed n (relation_at b n first x) (relation_at b n second x)) → MatrixWhere c n cells (λ x. composed n (r x) (s x))
  composed_matrix {a} {b} {c} {n} {first} {second} {cells} {r} {s} before after one two m =
      matrix_is (λ x. composed n (relation_at b n first x) (relation_at b n second x)) (λ x. composed n (r x) (s x))
      (λ x w. composed_alike n (relation_at b n first x) (relation_at b n second x) (r x) (s x)
      (alike_at x before one (world_before x after w)) (two.holds x (world_before x after w))) m

  pub united_matrix : {a b c : Algebra C} {n : ℕ} {first second cells : List C} {r s : List Bool → Relation} → Kept a b → Kept b c → MatrixWhere a n first r → MatrixWhere b n second s
      → MatrixWhere c n cells (λ x. united (relation_at b n first x) (relation_at b n second x)) → MatrixWhere c n cells (λ x. united (r x) (s x))
  united_matrix {a} {b} {c} {n} {first} {second} {cells} {r} {s} before after one two m =
      matrix_is (λ x. united (relation_at b n first x) (relation_at b n second x)) (λ x. united (r x) (s x))
      (λ x w. united_alike n (relation_at b n first x) (relation_at b n second x) (r x) (s x)
      (alike_at x before one (world_before x after w)) (two.holds x (world_before x after w))) m

  pub closed_matrix : {b c : Algebra C} {n : ℕ} {step cells : List C} {r : List Bool → Relation} → Kept b c → MatrixWhere b n step r
      → MatrixWhere c n cells (λ x. closed n (relation_at b n step x)) → MatrixWhere c n cells (λ x. closed n (r x))
  closed_matrix {b} {c} {n} {step} {cells} {r} after one m =
      matrix_is (λ x. closed n (relation_at b n step x)) (λ x. closed n (r x))
      (λ x w. closed_alike n n (relation_at b n step x) (r x) (itself n) (one.holds x (world_before x after w))) m
    where
      itself : (k : ℕ) → k ≤ k
      itself k = omega arith
