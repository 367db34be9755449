-- The nodes of a template as they are read, one after the other: each stands at its document's place, over those before it.
use Rattle.std.proofs.Common.{◌≡◌, ℕ, zero, suc, ◌+◌, ◌<◌, List, [], ◌∷◌, ◌++◌, length, Some, refl, sym, ap, ◌∙◌, arith, length-append}
use Rattle.std.specs.List.{slice_get}
use Rattle.std.proofs.lemmas.Option.{slice_get_within}
use Rattle.meaning.specs.Documents.{Document}
use Rattle.meaning.specs.Models.{Model}
use Rattle.meaning.specs.QueryTexts.{Scope}
use Rattle.meaning.specs.TemplateTexts.{Placed, place_under, nodes_after}
use Rattle.meaning.proofs.EqualityTests.{none_is_some}

-- ---- lists

module _ {A : Type 0} where
  pub get_in_front : (xs ys : List A) (k : ℕ) (x : A) → slice_get xs k ≡ Some x → slice_get (xs ++ ys) k ≡ Some x
  get_in_front [] ys k x e = elim (none_is_some x e) [ ]
  get_in_front (y ∷ xs) ys zero x e = e
  get_in_front (y ∷ xs) ys (suc k) x e = get_in_front xs ys k x e

  pub get_next : (xs : List A) (x : A) → slice_get (xs ++ x ∷ []) (length xs) ≡ Some x
  get_next [] x = refl
  get_next (y ∷ xs) x = get_next xs x

  -- a number below the length has an element
  pub get_within : (xs : List A) (k : ℕ) → k < length xs → (x : A) × (slice_get xs k ≡ Some x)
  get_within [] k l = elim (none_below k l) [ ]
    where
      none_below : (k : ℕ) → k < 0 → ⊥
      none_below k l = omega (arith, l)
  get_within (x ∷ xs) zero l = (x, refl)
  get_within (x ∷ xs) (suc k) l = get_within xs k (omega (arith, l))

-- ---- nodes one after the other

module _ (m : Model) (names : List (List ℕ)) (parameters : Scope) (ids : List (List ℕ)) where
  abbrev pub after : List Placed → List Document → List Placed
  after before ds = nodes_after m names parameters ids before ds

  abbrev pub next : List Placed → Document → Placed
  next before d = place_under m names parameters ids before d

  pub stays : (before : List Placed) (ds : List Document) (k : ℕ) (p : Placed) → slice_get before k ≡ Some p → slice_get (after before ds) k ≡ Some p
  stays before [] k p e = e
  stays before (d ∷ ds) k p e = stays (before ++ next before d ∷ []) ds k p (get_in_front before (next before d ∷ []) k p e)

  pub count_after : (before : List Placed) (ds : List Document) → length (after before ds) ≡ length before + length ds
  count_after before [] = omega arith
  count_after before (d ∷ ds) = count_after (before ++ next before d ∷ []) ds ∙ rw (length-append before (next before d ∷ [])) (omega arith)

  -- the node of a document, over those before it
  pub record IsPlacedAt (all : List Placed) (j : ℕ) (d : Document) : Type 0 where
    pub before : List Placed
    pub many : length before ≡ j
    pub at : slice_get all j ≡ Some (next before d)
    pub earlier : (k : ℕ) (p : Placed) → slice_get before k ≡ Some p → slice_get all k ≡ Some p

  pub placed_from : (before : List Placed) (ds : List Document) (i : ℕ) (d : Document) → slice_get ds i ≡ Some d
      → (j : ℕ) → j ≡ length before + i → IsPlacedAt (after before ds) j d
  placed_from before [] i d e j q = elim (none_is_some d e) [ ]
  placed_from before (x ∷ ds) zero d e j q = record {
    before = before;
    many = omega (arith, q);
    at = ap (slice_get (after before (x ∷ ds))) (omega (arith, q)) ∙ stays (before ++ next before x ∷ []) ds (length before) (next before x) (get_next before (next before x)) ∙ ap (λ d. Some (next before d)) (same e);
    earlier = λ k p f. stays before (x ∷ ds) k p f;
  }
    where
      same : Some x ≡ Some d → x ≡ d
      same e = cc
  placed_from before (x ∷ ds) (suc i) d e j q =
      placed_from (before ++ next before x ∷ []) ds i d e j (q ∙ sym (rw (length-append before (next before x ∷ [])) (omega arith)))

  pub placed_at : (ds : List Document) (j : ℕ) (d : Document) → slice_get ds j ≡ Some d → IsPlacedAt (after [] ds) j d
  placed_at ds j d e = placed_from [] ds j d e j (omega arith)

  -- each node is that of a document
  pub of_document : (ds : List Document) (j : ℕ) (p : Placed) → slice_get (after [] ds) j ≡ Some p → (d : Document) × (slice_get ds j ≡ Some d)
  of_document ds j p e =
      get_within ds j (omega (arith, slice_get_within (after [] ds) j p e, count_after [] ds))
