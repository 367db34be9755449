-- A document that was written from a case over diagrams has no more rows than the diagrams have numbers, so it reads back, however long it is.
use Rattle.std.proofs.Common.{◌≡◌, ◌≢◌, ℕ, zero, suc, ◌+◌, ◌-◌, ◌<◌, ◌≤◌, Bool, true, false, cond, eqb, List, [], ◌∷◌, ◌++◌, map, length, get_or, Option, Some, None, refl, sym, ap, ◌∙◌, subst, arith, inl, inr, ⊎_elim}
use Rattle.std.specs.Prelude.{option_map}
use Rattle.std.specs.List.{list_all, list_any}
use Rattle.std.proofs.lemmas.Bool.{cases_lt}
use Rattle.std.proofs.lemmas.List.{length-map}
use Rattle.std.proofs.lemmas.Option.{slice_get-map, slice_get-get_or}
use Rattle.meaning.specs.Cofactors.{Agree}
use Rattle.meaning.specs.Texts.{numbered, numbers_from}
use Rattle.meaning.specs.Documents.{Json, document_of, of_json}
use Rattle.meaning.specs.CaseFiles.{Row, CaseDocument}
use Rattle.meaning.specs.CaseReading.{row_fits, read_document, read_case, Is}
use Rattle.meaning.specs.CaseBytes.{case_bytes, case_data}
use Rattle.meaning.specs.TableOrder.{row_of_id, row_ahead, left_after, left_after_all, conditions_of, walk_order}
use Rattle.meaning.proofs.CutTrees.{Each}
use Rattle.meaning.proofs.EachMembers.{each_by}
use Rattle.node_pool.specs.declared.node.Node.{Node}
use Rattle.node_pool.specs.declared.node.NodeNo.{NodeNo}
use Rattle.node_pool.specs.Nodes.{node_at, top_of, value, IsReduced}
use Rattle.node_pool.specs.Regions.{Region, IsRegion}
use Rattle.node_pool.specs.Functions.{put}
use Rattle.node_pool.proofs.Reduced.{top_of-constant, top_of-inner}
use Rattle.node_pool.proofs.Values.{var_of, low_of, high_of, stands_at, low_of-less, high_of-less, value-put, value-low_of, value-high_of}
use Rattle.node_pool.proofs.Canonical.{canonical}
use Rattle.conditions.specs.Tables.{TableRow, Contents, node_of, nodes_of, case_row, case_rows}
use Rattle.conditions.proofs.Leaving.{row_count, node_at-row}
use Rattle.lifted_case.specs.declared.lifted.Lifted.{Lifted}
use Rattle.lifted_case.specs.CaseContents.{BreaksNoRule}
use Rattle.lifted_case.specs.CaseWritten.{conditions_in, Stands, IsWrittenFrom}
use Rattle.lifted_case.proofs.CaseReadable.{each_from_all, readable, small_rows}
use Rattle.lifted_case.proofs.CaseReads.{IsReadable, case_reads}
use Rattle.lifted_case.proofs.CaseWritten.{conditions_of-with}
use Rattle.lifted_case.proofs.FindingReads.{IsSmallRow}
use Rattle.lifted_case.proofs.RowsFit.{rows_fit}
use Rattle.lifted_case.proofs.TablesAlike.{IsAlike, alike_back, alike_once, agree_over_lists}
use Rattle.lifted_case.proofs.TableValues.{holds-value}
use Rattle.meaning.proofs.Lists.{each_append, each_two}
use Rattle.meaning.proofs.Members.{Member, no_more}
use Rattle.meaning.proofs.Pairs.{Pairwise, each_of_map}
use Rattle.meaning.proofs.EqualityTests.{none_is_some, some_is}

-- ---- two reduced lists of nodes: what has a number with its function in the other has its children's there, too

module _ (vars : ℕ) where
  -- a number does not branch before another with its function: else its two children had one function
  not_before : (a b : List Node) (i j : ℕ) → IsReduced vars a → IsReduced vars b → IsAlike a b i j → 2 ≤ i → var_of a i < top_of vars b j → ⊥
  not_before a b i j ra rb h inner less =
      let i_in : i < length a + 2 = h.left_in in
      let j_in : j < length b + 2 = h.right_in in
      let v : ℕ = var_of a i in
      let low_less : low_of a i < i = low_of-less vars a i ra inner i_in in
      let high_less : high_of a i < i = high_of-less vars a i ra inner i_in in
      let children : Agree (value a (low_of a i)) (value a (high_of a i)) = λ w.
      value-low_of vars a i w ra inner i_in
      ∙ h.same (put w v false)
      ∙ value-put vars b j v false w rb j_in less
      ∙ sym (value-put vars b j v true w rb j_in less)
      ∙ sym (h.same (put w v true))
      ∙ sym (value-high_of vars a i w ra inner i_in) in
      (stands_at vars a i ra inner i_in).children_differ (canonical vars a (low_of a i) (high_of a i) ra (omega arith) (omega arith) children)

  both_inner : (a b : List Node) (i j : ℕ) → IsReduced vars a → IsReduced vars b → IsAlike a b i j → 2 ≤ i → 2 ≤ j
  both_inner a b i j ra rb h inner =
      ⊎_elim
      (λ (small : j < 2).
      let v_in : var_of a i < vars = (stands_at vars a i ra inner h.left_in).var_in in
      absurd (not_before a b i j ra rb h inner (omega (arith, top_of-constant vars b j small))))
      (λ (large : 2 ≤ j). large)
      (cases_lt j 2)

  same_variable : (a b : List Node) (i j : ℕ) → IsReduced vars a → IsReduced vars b → IsAlike a b i j → 2 ≤ i → 2 ≤ j → var_of a i ≡ var_of b j
  same_variable a b i j ra rb h inner other =
      ⊎_elim
      (λ (less : var_of a i < var_of b j). absurd (not_before a b i j ra rb h inner (omega (arith, top_of-inner vars b j other))))
      (λ (not_less : var_of b j ≤ var_of a i).
      ⊎_elim
      (λ (more : var_of b j < var_of a i). absurd (not_before b a j i rb ra (alike_back h) other (omega (arith, top_of-inner vars a i inner))))
      (λ (not_more : var_of a i ≤ var_of b j). omega arith)
      (cases_lt (var_of b j) (var_of a i)))
      (cases_lt (var_of a i) (var_of b j))

  module _ (a b : List Node) (ra : IsReduced vars a) (rb : IsReduced vars b) where
    -- a number of the second list has the function
    abbrev pub HasOne : ℕ → Type 0
    HasOne i = (j : ℕ) × IsAlike a b i j

    low_has : (i : ℕ) → 2 ≤ i → HasOne i → HasOne (low_of a i)
    low_has i inner h =
        let other : 2 ≤ h.0 = both_inner a b i h.0 ra rb h.1 inner in
        let variable : var_of a i ≡ var_of b h.0 = same_variable a b i h.0 ra rb h.1 inner other in
        let i_in : i < length a + 2 = h.1.left_in in
        let j_in : h.0 < length b + 2 = h.1.right_in in
        let low_a : low_of a i < i = low_of-less vars a i ra inner i_in in
        let low_b : low_of b h.0 < h.0 = low_of-less vars b h.0 rb other j_in in (
          low_of b h.0,
          record {
            left_in = omega arith;
            right_in = omega arith;
            same = λ w. value-low_of vars a i w ra inner i_in ∙ h.1.same (put w (var_of a i) false) ∙ ap (λ (v : ℕ). value b h.0 (put w v false)) variable ∙ sym (value-low_of vars b h.0 w rb other j_in);
          },
        )

    high_has : (i : ℕ) → 2 ≤ i → HasOne i → HasOne (high_of a i)
    high_has i inner h =
        let other : 2 ≤ h.0 = both_inner a b i h.0 ra rb h.1 inner in
        let variable : var_of a i ≡ var_of b h.0 = same_variable a b i h.0 ra rb h.1 inner other in
        let i_in : i < length a + 2 = h.1.left_in in
        let j_in : h.0 < length b + 2 = h.1.right_in in
        let high_a : high_of a i < i = high_of-less vars a i ra inner i_in in
        let high_b : high_of b h.0 < h.0 = high_of-less vars b h.0 rb other j_in in (
          high_of b h.0,
          record {
            left_in = omega arith;
            right_in = omega arith;
            same = λ w. value-high_of vars a i w ra inner i_in ∙ h.1.same (put w (var_of a i) true) ∙ ap (λ (v : ℕ). value b h.0 (put w v true)) variable ∙ sym (value-high_of vars b h.0 w rb other j_in);
          },
        )

    -- numbers that have one and all differ are no more than the second list has
    ones : (is : List ℕ) → Each HasOne is → List ℕ
    ones [] h = []
    ones (i ∷ is) h = h.0.0 ∷ ones is h.1

    ones_counted : (is : List ℕ) (h : Each HasOne is) → length (ones is h) ≡ length is
    unfolding ones
    ones_counted [] h = refl
    ones_counted (i ∷ is) h = ap suc (ones_counted is h.1)

    apart_from : (i : ℕ) (one : HasOne i) (is : List ℕ) (h : Each HasOne is) → Each (λ k. i ≢ k) is → Each (λ j. one.0 ≢ j) (ones is h)
    unfolding ones
    apart_from i one [] h d = tt
    apart_from i one (k ∷ is) h d = (
      λ e. d.0 (alike_once vars b a one.0 i k ra (alike_back one.1) (subst (λ j. IsAlike b a j k) (sym e) (alike_back h.0.1))),
      apart_from i one is h.1 d.1,
    )

    ones_differ : (is : List ℕ) (h : Each HasOne is) → Pairwise (λ i k. i ≢ k) is → Pairwise (λ i k. i ≢ k) (ones is h)
    unfolding ones
    ones_differ [] h d = tt
    ones_differ (i ∷ is) h d = (apart_from i h.0 is h.1 d.0, ones_differ is h.1 d.1)

    ones_within : (is : List ℕ) (h : Each HasOne is) → Each (λ j. j < length b + 2) (ones is h)
    unfolding ones
    ones_within [] h = tt
    ones_within (i ∷ is) h = (h.0.1.right_in, ones_within is h.1)

-- ---- numbers in order

later_numbers : (k j n : ℕ) → k < j → Each (λ i. k ≢ i) (numbers_from j n)
later_numbers k j zero l = tt
later_numbers k j (suc n) l = (λ e. omega (arith, l, e), later_numbers k (suc j) n (omega (arith, l)))

numbers_differ : (k n : ℕ) → Pairwise (λ i j. i ≢ j) (numbers_from k n)
numbers_differ k zero = tt
numbers_differ k (suc n) = (later_numbers k (suc k) n (omega arith), numbers_differ (suc k) n)

how_many_numbers : (k n : ℕ) → length (numbers_from k n) ≡ n
how_many_numbers k zero = refl
how_many_numbers k (suc n) = ap suc (how_many_numbers (suc k) n)

number_stands : (k n i : ℕ) → k ≤ i → i < k + n → Member i (numbers_from k n)
number_stands k zero i from below = absurd (omega (arith, from, below))
number_stands k (suc n) i from below =
    ⊎_elim
    (λ (later : k < i). inr (number_stands (suc k) n i (omega (arith, later)) (omega (arith, below))))
    (λ (here : i ≤ k). inl (omega (arith, here, from)))
    (cases_lt k i)

-- ---- a walk goes to numbers that have one

module _ (vars : ℕ) (rows : List TableRow) (b : List Node) (ra : IsReduced vars (nodes_of rows)) (rb : IsReduced vars b) where
  abbrev Has : ℕ → Type 0
  Has = HasOne vars (nodes_of rows) b ra rb

  -- the row of a number is its node
  row_of_number : (i : ℕ) (row : Row) → row_of_id (case_rows rows) i ≡ Some row → i < length rows + 2
      → (2 ≤ i) × (low_of (nodes_of rows) i ≡ row.low) × (high_of (nodes_of rows) i ≡ row.high)
  row_of_number zero row e l = elim (none_is_some row e) [ ]
  row_of_number (suc zero) row e l = elim (none_is_some row e) [ ]
  row_of_number (suc (suc r)) row e l =
      let r_in : r < length rows = omega (arith, l) in
      let t : TableRow = get_or rows r (0, 0, 0) in
      let place : suc (suc r) - 2 ≡ r = omega arith in
      let is : case_row t ≡ row = some_is (case_row t) row (sym (slice_get-map case_row rows r ∙ ap (λ o. option_map case_row o) (slice_get-get_or rows r (0, 0, 0) r_in)) ∙ e) in
      let node : node_at (nodes_of rows) (suc (suc r) - 2) ≡ node_of t = ap (node_at (nodes_of rows)) place ∙ node_at-row rows r r_in in
      (omega arith, ap (λ (m : Node). m.low.0) node ∙ ap (λ (x : Row). x.low) is, ap (λ (m : Node). m.high.0) node ∙ ap (λ (x : Row). x.high) is)

  ahead_is : (left : List ℕ) (i : ℕ) (row : Row) → row_ahead (case_rows rows) left i ≡ Some row → row_of_id (case_rows rows) i ≡ Some row
  ahead_is left i row e = go (list_any (λ x. eqb x i) left) e
    where
      go : (met : Bool) → cond met None (row_of_id (case_rows rows) i) ≡ Some row → row_of_id (case_rows rows) i ≡ Some row
      go true e = elim (none_is_some row e) [ ]
      go false e = e

  left_have : (depth : ℕ) (left : List ℕ) (i : ℕ) → Each Has left → Has i → Each Has (left_after depth (case_rows rows) left i)
  left_have zero left i h g = h
  left_have (suc depth) left i h g = go (λ others k f e. left_have depth others k f e) (row_ahead (case_rows rows) left i) refl
    where
      go : ((others : List ℕ) (k : ℕ) → Each Has others → Has k → Each Has (left_after depth (case_rows rows) others k)) → (o : Option Row) → row_ahead (case_rows rows) left i ≡ o
          → Each Has (elim o as (λ _. List ℕ) [ None ↦ left | Some row ↦ left_after depth (case_rows rows) (left_after depth (case_rows rows) left row.low) row.high ++ i ∷ [] ])
      go on None e = h
      go on (Some row) e =
          let is = row_of_number i row (ahead_is left i row e) (omega (arith, g.1.left_in, row_count rows)) in
          let low : Has row.low = subst Has is.1 (low_has vars (nodes_of rows) b ra rb i is.0 g) in
          let high : Has row.high = subst Has is.2 (high_has vars (nodes_of rows) b ra rb i is.0 g) in
          each_append Has (left_after depth (case_rows rows) (left_after depth (case_rows rows) left row.low) row.high) (i ∷ [])
          (on (left_after depth (case_rows rows) left row.low) row.high (on left row.low h low) high) (g, tt)

  all_left_have : (left is : List ℕ) → Each Has left → Each Has is → Each Has (left_after_all (case_rows rows) left is)
  all_left_have left [] h g = h
  all_left_have left (i ∷ is) h g = all_left_have (left_after (length (case_rows rows)) (case_rows rows) left i) is (left_have (length (case_rows rows)) left i h g.0) g.1

  -- so there are no more rows than numbers of the second list
  few_rows_left : (is : List ℕ) → Each Has is → left_after_all (case_rows rows) [] is ≡ numbers_from 2 (length (case_rows rows)) → length rows ≤ length b + 2
  few_rows_left is h e =
      let have : Each Has (numbers_from 2 (length (case_rows rows))) = subst (Each Has) e (all_left_have [] is tt h) in
      let some : List ℕ = ones vars (nodes_of rows) b ra rb (numbers_from 2 (length (case_rows rows))) have in
      omega (
        arith,
        no_more (ones vars (nodes_of rows) b ra rb (numbers_from 2 (length (case_rows rows))) have) (numbers_from 0 (length b + 2))
            (ones_differ vars (nodes_of rows) b ra rb (numbers_from 2 (length (case_rows rows))) have (numbers_differ 2 (length (case_rows rows))))
            (each_by (λ j. j < length b + 2) (λ j. Member j (numbers_from 0 (length b + 2))) (λ j l. number_stands 0 (length b + 2) j (omega arith) (omega (arith, l)))
            (ones vars (nodes_of rows) b ra rb (numbers_from 2 (length (case_rows rows))) have) (ones_within vars (nodes_of rows) b ra rb (numbers_from 2 (length (case_rows rows))) have)),
        ones_counted vars (nodes_of rows) b ra rb (numbers_from 2 (length (case_rows rows))) have,
        how_many_numbers 2 (length (case_rows rows)),
        how_many_numbers 0 (length b + 2),
        length-map rows case_row,
      )

-- ---- what is written from a case

module _ (r : Region) (case : Lifted NodeNo) (k : CaseDocument) (region : IsRegion r) (rules : BreaksNoRule case) (there : Each (λ c. c.0 < length r.nodes + 2) (conditions_in case)) (w : IsWrittenFrom r case k) where
  table_is : k.table ≡ case_rows w.table.rows
  table_is = ap (λ (d : CaseDocument). d.table) w.document

  features_are : w.table.features ≡ length case.features
  features_are = w.variables ∙ ap (λ (d : CaseDocument). length d.features) w.document

  reduced : IsReduced r.vars (nodes_of w.table.rows)
  reduced = subst (λ n. IsReduced n (nodes_of w.table.rows)) (w.variables ∙ sym w.places) w.rules

  has_one : (c : NodeNo) → Stands r k c (w.identifier c) → c.0 < length r.nodes + 2 → HasOne r.vars (nodes_of w.table.rows) r.nodes reduced region.reduced (w.identifier c)
  has_one c s l =
      let i_in : w.identifier c < length w.table.rows + 2 = omega (arith, s.there, ap length table_is, length-map w.table.rows case_row) in
      let i_there : w.identifier c < length (nodes_of w.table.rows) + 2 = omega (arith, i_in, row_count w.table.rows) in (
        c.0,
        record {
          left_in = i_there;
          right_in = l;
          same = agree_over_lists r.vars (nodes_of w.table.rows) r.nodes (w.identifier c) c.0 reduced region.reduced i_there l
              (λ truths many. sym (holds-value k w.table truths (w.identifier c) table_is w.rules i_in) ∙ s.function truths many);
        },
      )

  walked : left_after_all (case_rows w.table.rows) [] (map w.identifier (conditions_in case)) ≡ numbers_from 2 (length (case_rows w.table.rows))
  unfolding walk_order
  walked =
      ap (left_after_all (case_rows w.table.rows) []) (sym (conditions_of-with w.identifier (case_rows w.table.rows) case))
      ∙ subst (λ (d : CaseDocument). left_after_all d.table [] (d.valid ∷ conditions_of d) ≡ numbers_from 2 (length d.table)) w.document w.order

  few_rows : length w.table.rows ≤ 1048578
  few_rows =
      omega (
        arith,
        few_rows_left r.vars w.table.rows r.nodes reduced region.reduced (map w.identifier (conditions_in case))
            (each_of_map (HasOne r.vars (nodes_of w.table.rows) r.nodes reduced region.reduced) w.identifier (conditions_in case)
            (each_by (λ c. Stands r k c (w.identifier c) × (c.0 < length r.nodes + 2)) _ (λ c s. has_one c s.0 s.1) (conditions_in case)
            (each_two (λ c. Stands r k c (w.identifier c)) (λ c. c.0 < length r.nodes + 2) (conditions_in case)
            (each_from_all (λ c. Stands r k c (w.identifier c)) (conditions_in case) w.stands) there)))
            walked,
        region.within,
        region.few,
      )

  is_readable : IsReadable k
  is_readable =
      let t : Contents = w.table in
      let few : length (case_rows t.rows) ≤ 67108864 = omega (arith, few_rows, length-map t.rows case_row) in
      let small : Each IsSmallRow (case_rows t.rows) = small_rows t w.rules (omega (arith, features_are, rules.few_features)) (omega (arith, few_rows)) in
      let fit : list_all (row_fits (case_rows t.rows) (length case.features)) (numbered (case_rows t.rows)) ≡ true =
      subst (λ n. list_all (row_fits (case_rows t.rows) n) (numbered (case_rows t.rows)) ≡ true) features_are (rows_fit t.features t.rows w.rules) in
      let ids : Each (λ c. w.identifier c < length (case_rows t.rows) + 2) (conditions_in case) =
      each_by (λ c. Stands r k c (w.identifier c)) _ (λ c s. omega (arith, s.there, ap length table_is)) (conditions_in case) (each_from_all (λ c. Stands r k c (w.identifier c)) (conditions_in case) w.stands) in
      subst IsReadable (sym w.document) (readable w.identifier (case_rows t.rows) case rules few ids small fit)

  pub written_case_reads : document_of Json (case_bytes k) ≡ Some (of_json (case_data k)) → read_case (case_bytes k) ≡ Is k
  unfolding read_case
  written_case_reads e = ap read_document e ∙ case_reads k is_readable
