-- What is asked once for a query, at later moments and for one more constraint.
use Rattle.std.proofs.Common.{◌≡◌, ◌∙◌, sym, ap, subst, ℕ, zero, suc, ◌+◌, ◌*◌, ◌^◌, ◌<◌, ◌≤◌, ◌⊎◌, inl, inr, refl, List, [], ◌∷◌, ◌++◌, length, map, take, get_or, Bool, true, Some, arith}
use Rattle.std.specs.List.{slice_get, sum_by}
use Rattle.std.proofs.lemmas.List.{take_more, length-append}
use Rattle.std.proofs.lemmas.Option.{slice_get_within, slice_get-get_or}
use Rattle.meaning.specs.Models.{Model, model_at}
use Rattle.meaning.specs.Queries.{Path, walks}
use Rattle.worlds.specs.Algebra.{Algebra, Kept}
use Rattle.worlds.proofs.Kept.{world_before}
use Rattle.path_queries.specs.declared.presence.Edge.{Edge}
use Rattle.path_queries.specs.declared.data.Constraint.{Constraint}
use Rattle.path_queries.specs.declared.data.Constraint.TheVariants.{Walk, Attr}
use Rattle.path_queries.specs.Presence.{TellLinks, arrow_at}
use Rattle.path_queries.specs.Relations.{related}
use Rattle.path_queries.specs.Matrices.{linked, MatrixWhere}
use Rattle.path_queries.specs.Searching.{TellsWalks, TellConstraints}
use Rattle.path_queries.proofs.Arrows.{edges_later, arrows_later}
use Rattle.path_queries.proofs.Cells.{matrix_later, matrix_is}
use Rattle.path_queries.proofs.ModelWalks.{model_walks}

-- ---- an item at the end of a list

module _ {X : Type 0} where
  before_or_last : (xs : List X) (x : X) (i : ℕ) (y : X) → slice_get (xs ++ x ∷ []) i ≡ Some y → (slice_get xs i ≡ Some y) ⊎ ((i ≡ length xs) × (x ≡ y))
  before_or_last [] x zero y at = inr (refl, cc)
  before_or_last [] x (suc i) y at = absurd cc
  before_or_last (z ∷ xs) x zero y at = inl at
  before_or_last (z ∷ xs) x (suc i) y at = go (before_or_last xs x i y at)
    where
      go : (slice_get xs i ≡ Some y) ⊎ ((i ≡ length xs) × (x ≡ y)) → (slice_get xs i ≡ Some y) ⊎ ((suc i ≡ suc (length xs)) × (x ≡ y))
      go (inl before) = inl before
      go (inr last) = inr (ap suc last.0, last.1)

  -- the item that was read
  pub item_of : (xs ys : List X) (i : ℕ) (x : X) → ys ≡ xs → i < length xs → x ≡ get_or ys i x → slice_get xs i ≡ Some x
  item_of xs ys i x same below is = slice_get-get_or xs i x below ∙ ap Some (ap (λ zs. get_or zs i x) (sym same) ∙ sym is)

-- ---- one constraint

module _ {C : Type 0} where
  pub links_later : {a b : Algebra C} {m : Model} {es : List (Edge C)} → Kept a b → TellLinks a m es → TellLinks b m es
  links_later {m} {es} kept told = record {
    edges = edges_later (length m.elements) es kept told.edges;
    arrows = λ x w. arrows_later (length m.elements) es x kept told.edges ∙ told.arrows x (world_before x kept w);
    size = told.size;
  }

  -- the matrix of a path tells the walks of the products
  pub tells_walks : {a b : Algebra C} {cells : List C} (m : Model) (edges : List (Edge C)) (p : Path) → Kept a b → TellLinks a m edges
      → MatrixWhere b (length m.elements) cells (λ x. related (length m.elements) (linked (map (arrow_at a x) edges)) p) → MatrixWhere b (length m.elements) cells (λ x. walks (model_at m x) p)
  tells_walks {a} m edges p kept told made =
      let n = length m.elements in
      matrix_is (λ x. related n (linked (map (arrow_at a x) edges)) p) (λ x. walks (model_at m x) p)
      (λ x w i j row column. ap (λ arrows. related n (linked arrows) p i j) (told.arrows x (world_before x kept w)) ∙ model_walks m x p i j row column) made

  pub tells_later : {a b : Algebra C} (m : Model) (cells : List C) (c : Constraint) → Kept a b → TellsWalks a m cells c → TellsWalks b m cells c
  tells_later m cells (Walk from along to negated) kept told = matrix_later kept told
  tells_later m cells (Attr variable attribute text equal) kept told = tt

  -- ---- all constraints

  pub constraints_later : {a b : Algebra C} {m : Model} {rows : List (List C)} {cs : List Constraint} → Kept a b → TellConstraints a m rows cs → TellConstraints b m rows cs
  constraints_later {m} kept told = record { size = told.size; each = λ i cells c row at. tells_later m cells c kept (told.each i cells c row at) }

  none_told : (a : Algebra C) (m : Model) → TellConstraints a m [] []
  none_told a m = record { size = refl; each = λ i cells c row at. absurd cc }

  one_more_told : {a b : Algebra C} {m : Model} (rows : List (List C)) (cs : List Constraint) (cells : List C) (c : Constraint) → Kept a b → TellConstraints a m rows cs → TellsWalks b m cells c
      → TellConstraints b m (rows ++ cells ∷ []) (cs ++ c ∷ [])
  one_more_told {a} {b} {m} rows cs cells c kept told here = record {
    size = length-append rows (cells ∷ []) ∙ ap (λ n. n + 1) told.size ∙ sym (length-append cs (c ∷ []));
    each = λ i k d row at. go i k d (before_or_last rows cells i k row) (before_or_last cs c i d at);
  }
    where
      go : (i : ℕ) (k : List C) (d : Constraint) → (slice_get rows i ≡ Some k) ⊎ ((i ≡ length rows) × (cells ≡ k)) → (slice_get cs i ≡ Some d) ⊎ ((i ≡ length cs) × (c ≡ d)) → TellsWalks b m k d
      go i k d (inl row) (inl at) = tells_later m k d kept (told.each i k d row at)
      go i k d (inl row) (inr last) = let within = slice_get_within rows i k row in let same = last.0 in absurd (omega (arith, within, same, told.size))
      go i k d (inr last) (inl at) = let within = slice_get_within cs i d at in let same = last.0 in absurd (omega (arith, within, same, told.size))
      go i k d (inr last) (inr also) = subst (λ u. TellsWalks b m u d) last.1 (subst (λ u. TellsWalks b m cells u) also.1 here)

  pub told_more : {a b : Algebra C} {m : Model} (rows : List (List C)) (cs : List Constraint) (i : ℕ) (cells : List C) (c : Constraint) → Kept a b → TellConstraints a m rows (take i cs) → TellsWalks b m cells c
      → i < length cs → c ≡ get_or cs i c → TellConstraints b m (rows ++ cells ∷ []) (take (i + 1) cs)
  told_more {b} {m} rows cs i cells c kept told here below is =
      subst (TellConstraints b m (rows ++ cells ∷ [])) (sym (take_more cs i c below ∙ ap (λ d. take i cs ++ d ∷ []) (sym is))) (one_more_told rows (take i cs) cells c kept told here)
