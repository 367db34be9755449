-- Where the elements of a tuple meet the constraints of a query, by the conditions at hand.
use Rattle.std.proofs.Common.{◌≡◌, ◌∙◌, refl, sym, ap, subst, ℕ, zero, suc, ◌+◌, ◌*◌, ◌<◌, ◌≤◌, List, [], ◌∷◌, ◌++◌, length, map, take, get_or, Bool, true, false, cond, Option, Some, None, arith}
use Rattle.std.specs.Prelude.{◌&&◌, not, nat_lt, bytes_eq, option_map, unwrap_or}
use Rattle.std.specs.Bool.{beq}
use Rattle.std.specs.List.{slice_get, list_all}
use Rattle.std.proofs.lemmas.Bool.{lt-ltb, le-ltb, false≢true}
use Rattle.std.proofs.lemmas.Option.{slice_get-map}
use Rattle.meaning.specs.Models.{Model, PlainModel, has_element, model_at, attribute_at}
use Rattle.meaning.specs.Queries as meaning
use Rattle.meaning.specs.Queries.{meets, alike, walks, element_of_variable}
use Rattle.worlds.specs.Algebra.{Algebra, Kept, HoldsWhere, HoldsNowhere}
use Rattle.worlds.proofs.Kept.{holds_as, world_before, kept_itself}
use Rattle.path_queries.specs.declared.data.Constraint.{Constraint}
use Rattle.path_queries.specs.declared.data.Path.{Path}
use Rattle.path_queries.specs.declared.data.Constraint.TheVariants.{Walk, Attr}
use Rattle.path_queries.specs.declared.answering.preparation.Search.{Search}
use Rattle.path_queries.specs.View.{path, constraint, query}
use Rattle.path_queries.specs.Relations.{Relation}
use Rattle.path_queries.specs.Matrices.{relation_at, IsMatrix, MatrixWhere}
use Rattle.path_queries.specs.Presence.{TellElements}
use Rattle.path_queries.specs.Searching.{IsReady, TellsWalks, value_at, leads_within, meets_number}
use Rattle.path_queries.specs.Tuples.{accepts}
use Rattle.path_queries.proofs.Cells.{cell_told}
use Rattle.path_queries.proofs.Presences.{element_holds}
use Rattle.path_queries.proofs.ModelWalks.{walks_within}
use Rattle.path_queries.proofs.Meetings.{past_elements, told_absent, told_alike, told_there, told_away, meets_more}

-- ---- a relation between two elements

and_false : (b c : Bool) → (b && false && c) ≡ false
and_false true c = refl
and_false false c = refl

pub from_beyond : (n : ℕ) (r : Relation) (i j : ℕ) → n ≤ i → leads_within n r i j ≡ false
from_beyond n r i j past = ap (λ b. b && nat_lt j n && r i j) (le-ltb i n past)

pub to_beyond : (n : ℕ) (r : Relation) (i j : ℕ) → n ≤ j → leads_within n r i j ≡ false
to_beyond n r i j past = ap (λ b. nat_lt i n && b && r i j) (le-ltb j n past) ∙ and_false (nat_lt i n) (r i j)

within_both : (n : ℕ) (r : Relation) (i j : ℕ) → i < n → j < n → leads_within n r i j ≡ r i j
within_both n r i j row column = ap (λ b. b && nat_lt j n && r i j) (lt-ltb i n row) ∙ ap (λ b. b && r i j) (lt-ltb j n column)

not_alike : (negated : Bool) → negated ≡ not (alike negated false)
not_alike true = refl
not_alike false = refl

-- where the relation cannot lead
pub met_beyond : {C : Type 0} {a : Algebra C} {c : C} (negated : Bool) (under : List Bool → Bool) (n : ℕ) (r : List Bool → Relation) (i j : ℕ) → ((x : List Bool) → leads_within n (r x) i j ≡ false)
    → HoldsWhere a c (λ x. under x && negated) → HoldsWhere a c (λ x. under x && not (alike negated (leads_within n (r x) i j)))
met_beyond negated under n r i j beyond made =
    holds_as (λ x. under x && negated) (λ x. under x && not (alike negated (leads_within n (r x) i j)))
    (λ x w. ap (λ b. under x && b) (not_alike negated) ∙ ap (λ b. under x && not (alike negated b)) (sym (beyond x))) made

module _ {C : Type 0} {a b : Algebra C} {cell : C} (n : ℕ) (cells : List C) (i j q : ℕ) (m : IsMatrix a n cells) (row : i < n) (column : j < n) (place : q ≡ i * n + j) (is : cell ≡ get_or cells q cell) (kept : Kept a b) where
  cell_holds : (x : List Bool) → b.is_world x ≡ true → a.holds cell x ≡ leads_within n (relation_at a n cells x) i j
  cell_holds x w = (cell_told i j q cell (kept_itself a) m row column place is).holds x (world_before x kept w) ∙ sym (within_both n (relation_at a n cells x) i j row column)

  -- where it leads
  pub met_by_walk : {c : C} (under : C) → HoldsWhere b c (λ x. a.holds under x && a.holds cell x) → HoldsWhere b c (λ x. a.holds under x && not (alike false (leads_within n (relation_at a n cells x) i j)))
  met_by_walk under made =
      holds_as (λ x. a.holds under x && a.holds cell x) (λ x. a.holds under x && not (alike false (leads_within n (relation_at a n cells x) i j)))
      (λ x w. ap (λ u. a.holds under x && u) (cell_holds x w ∙ twice (leads_within n (relation_at a n cells x) i j))) made
    where
      twice : (u : Bool) → u ≡ not (not u)
      twice true = refl
      twice false = refl

  -- where it doesn't
  pub met_by_no_walk : {c : C} (under : C) → HoldsWhere b c (λ x. a.holds under x && not (a.holds cell x)) → HoldsWhere b c (λ x. a.holds under x && not (alike true (leads_within n (relation_at a n cells x) i j)))
  met_by_no_walk under made =
      holds_as (λ x. a.holds under x && not (a.holds cell x)) (λ x. a.holds under x && not (alike true (leads_within n (relation_at a n cells x) i j)))
      (λ x w. ap (λ u. a.holds under x && not u) (cell_holds x w)) made

-- ---- the value of an attribute

same_truths : (a b : Bool) → beq a b ≡ true → a ≡ b
same_truths true true e = refl
same_truths true false e = absurd (false≢true e)
same_truths false true e = absurd (false≢true e)
same_truths false false e = refl

other_false : (a b : Bool) → a ≡ true → beq a b ≡ false → b ≡ false
other_false true true e f = absurd (false≢true (sym f))
other_false true false e f = refl
other_false false b e f = absurd (false≢true e)

other_true : (a b : Bool) → a ≡ false → beq a b ≡ false → b ≡ true
other_true true b e f = absurd (false≢true (sym e))
other_true false true e f = refl
other_true false false e f = absurd (false≢true (sym f))

abbrev pub agrees_at : Model → (e attribute : ℕ) → List ℕ → Bool → List Bool → Bool
agrees_at m e attribute text equal x = alike equal (bytes_eq (attribute_at (model_at m x) e attribute) text)

-- the tests of the value and of an empty one, as they were made
module _ {C : Type 0} {a : Algebra C} {elements : List C} (m : Model) (e attribute : ℕ) (text : List ℕ) (equal : Bool) (under : C) (told : TellElements a m elements) (absent : Bool)
    (is_absent : absent ≡ alike equal (bytes_eq [] text)) where
  -- of no element
  pub met_past : {c : C} → length elements ≤ e → HoldsWhere a c (λ x. a.holds under x && absent) → HoldsWhere a c (λ x. a.holds under x && agrees_at m e attribute text equal x)
  met_past past made =
      let size = told.size in
      holds_as (λ x. a.holds under x && absent) (λ x. a.holds under x && agrees_at m e attribute text equal x)
      (λ x w.
      ap (λ u. a.holds under x && u) is_absent ∙ told_absent m x e attribute text equal (a.holds under x) (past_elements m.elements x e (omega (arith, past, size)))) made

  module _ (there : Bool) (is_there : there ≡ alike equal (bytes_eq (value_at m e attribute) text)) where
    -- which agrees as an empty value does
    pub met_alike : {c : C} → beq there absent ≡ true → HoldsWhere a c (λ x. a.holds under x && absent) → HoldsWhere a c (λ x. a.holds under x && agrees_at m e attribute text equal x)
    met_alike same made =
        holds_as (λ x. a.holds under x && absent) (λ x. a.holds under x && agrees_at m e attribute text equal x)
        (λ x w. ap (λ u. a.holds under x && u) is_absent ∙ told_alike m x e attribute text equal (a.holds under x) (sym is_there ∙ same_truths there absent same ∙ is_absent)) made

    module _ {b : Algebra C} {presence : C} (below : e < length elements) (is : presence ≡ get_or elements e presence) (kept : Kept a b) (differ : beq there absent ≡ false) where
      present : (x : List Bool) → b.is_world x ≡ true → a.holds presence x ≡ has_element m.elements x e
      present x w = (element_holds e e presence told refl below is).holds x (world_before x kept w)

      -- which agrees, as an empty value doesn't
      pub met_there : {c : C} → there ≡ true → HoldsWhere b c (λ x. a.holds under x && a.holds presence x) → HoldsWhere b c (λ x. a.holds under x && agrees_at m e attribute text equal x)
      met_there agrees made =
          holds_as (λ x. a.holds under x && a.holds presence x) (λ x. a.holds under x && agrees_at m e attribute text equal x)
          (λ x w.
          ap (λ u. a.holds under x && u) (present x w)
          ∙ told_there m x e attribute text equal (a.holds under x) (sym is_there ∙ agrees) (sym is_absent ∙ other_false there absent agrees differ)) made

      -- which doesn't, as an empty value does
      pub met_away : {c : C} → there ≡ false → HoldsWhere b c (λ x. a.holds under x && not (a.holds presence x)) → HoldsWhere b c (λ x. a.holds under x && agrees_at m e attribute text equal x)
      met_away differs made =
          holds_as (λ x. a.holds under x && not (a.holds presence x)) (λ x. a.holds under x && agrees_at m e attribute text equal x)
          (λ x w.
          ap (λ u. a.holds under x && not u) (present x w)
          ∙ told_away m x e attribute text equal (a.holds under x) (sym is_there ∙ differs) (sym is_absent ∙ other_true there absent differs differ)) made

-- ---- the constraint of a number

meets_is : {C : Type 0} (s : Search C) (number : ℕ) (es : List ℕ) (k : Constraint) → slice_get s.query.now.constraints number ≡ Some k → (m : PlainModel) → meets_number m (query s.query.now) es number ≡ meets m es (constraint k)
meets_is s number es k at m = ap (λ o. unwrap_or (option_map (meets m es) o) true) (slice_get-map constraint s.query.now.constraints number ∙ ap (option_map constraint) at)

-- the matrix of a constraint on walks
pub walk_told : {C : Type 0} {a : Algebra C} (s : Search C) (number : ℕ) (cells : List C) (k : Constraint) (from to : ℕ) (along : Path) (negated : Bool) → IsReady a s → slice_get s.relations number ≡ Some cells
    → slice_get s.query.now.constraints number ≡ Some k → k ≡ Walk from along to negated → MatrixWhere a (length s.model.now.elements) cells (λ x. walks (model_at s.model.now x) (path along))
walk_told {a} s number cells k from to along negated ready row at is = subst (TellsWalks a s.model.now cells) is (ready.relations.each number cells k row at)

module _ {C : Type 0} {a b : Algebra C} (s : Search C) (number : ℕ) (es : List ℕ) (under : C) {c : C} (k : Constraint) (at : slice_get s.query.now.constraints number ≡ Some k) (kept : Kept a b) where
  pub walk_met : (n : ℕ) (cells : List C) (from to i j : ℕ) (along : Path) (negated : Bool) → k ≡ Walk from along to negated → n ≡ length s.model.now.elements
      → i ≡ element_of_variable es from → j ≡ element_of_variable es to → MatrixWhere a (length s.model.now.elements) cells (λ x. walks (model_at s.model.now x) (path along))
      → HoldsWhere b c (λ x. a.holds under x && not (alike negated (leads_within n (relation_at a n cells x) i j)))
      → HoldsWhere b c (λ x. a.holds under x && meets_number (model_at s.model.now x) (query s.query.now) es number)
  walk_met n cells from to i j along negated is size source target told made =
      let m = s.model.now in
      holds_as (λ x. a.holds under x && not (alike negated (leads_within n (relation_at a n cells x) i j))) (λ x. a.holds under x && meets_number (model_at m x) (query s.query.now) es number)
      (λ x w.
      ap (λ u. a.holds under x && not (alike negated (leads_within u (relation_at a u cells x) i j))) size
      ∙ ap (λ u. a.holds under x && not (alike negated u)) (walks_within m x (path along) (relation_at a (length m.elements) cells x) (told.holds x (world_before x kept w)) i j)
      ∙ ap (λ u. a.holds under x && not (alike negated (walks (model_at m x) (path along) u j))) source
      ∙ ap (λ u. a.holds under x && not (alike negated (walks (model_at m x) (path along) (element_of_variable es from) u))) target
      ∙ ap (λ u. a.holds under x && u) (sym (meets_is s number es k at (model_at m x) ∙ ap (λ d. meets (model_at m x) es (constraint d)) is))) made

  pub attribute_met : (variable attribute e : ℕ) (text told : List ℕ) (equal : Bool) → k ≡ Attr variable attribute text equal → told ≡ text
      → e ≡ element_of_variable es variable → HoldsWhere b c (λ x. a.holds under x && alike equal (bytes_eq (attribute_at (model_at s.model.now x) e attribute) told))
      → HoldsWhere b c (λ x. a.holds under x && meets_number (model_at s.model.now x) (query s.query.now) es number)
  attribute_met variable attribute e text told equal is same_text same made =
      let m = s.model.now in
      holds_as (λ x. a.holds under x && alike equal (bytes_eq (attribute_at (model_at m x) e attribute) told)) (λ x. a.holds under x && meets_number (model_at m x) (query s.query.now) es number)
      (λ x w.
      ap (λ u. a.holds under x && alike equal (bytes_eq (attribute_at (model_at m x) e attribute) u)) same_text
      ∙ ap (λ u. a.holds under x && alike equal (bytes_eq (attribute_at (model_at m x) u attribute) text)) same
      ∙ ap (λ u. a.holds under x && u) (sym (meets_is s number es k at (model_at m x) ∙ ap (λ d. meets (model_at m x) es (constraint d)) is))) made

-- ---- all constraints

and_assoc : (a b c : Bool) → ((a && b) && c) ≡ (a && (b && c))
and_assoc true b c = refl
and_assoc false b c = refl

-- the first constraints that a tuple meets
abbrev pub accepts_first : PlainModel → meaning.Query → (es : List ℕ) → ℕ → Bool
accepts_first m q es k = list_all (meets m es) (take k q.constraints)

-- none has been tried yet
pub met_none : {C : Type 0} (a : Algebra C) (s : Search C) (es : List ℕ) (under : C) → a.live under → HoldsWhere a under (λ x. a.holds under x && accepts_first (model_at s.model.now x) (query s.query.now) es 0)
met_none a s es under live = record { live = live; holds = λ x w. itself (a.holds under x) }
  where
    itself : (u : Bool) → u ≡ (u && true)
    itself true = refl
    itself false = refl

pub met_one_more : {C : Type 0} {a b c : Algebra C} {here more : C} (s : Search C) (es : List ℕ) (under : C) (k : ℕ) → Kept a b → Kept b c → k < length (query s.query.now).constraints
    → HoldsWhere b here (λ x. a.holds under x && accepts_first (model_at s.model.now x) (query s.query.now) es k)
    → HoldsWhere c more (λ x. b.holds here x && meets_number (model_at s.model.now x) (query s.query.now) es k)
    → HoldsWhere c more (λ x. a.holds under x && accepts_first (model_at s.model.now x) (query s.query.now) es (k + 1))
met_one_more {a} {b} {c} {here} {more} s es under k first second below so_far made =
    let m = s.model.now in
    let q = query s.query.now in
    holds_as (λ x. b.holds here x && meets_number (model_at m x) q es k) (λ x. a.holds under x && accepts_first (model_at m x) q es (k + 1))
    (λ x w.
    ap (λ u. u && meets_number (model_at m x) q es k) (so_far.holds x (world_before x second w))
    ∙ and_assoc (a.holds under x) (accepts_first (model_at m x) q es k) (meets_number (model_at m x) q es k)
    ∙ ap (λ u. a.holds under x && u) (sym (meets_more (model_at m x) q es k below))) made

fails_all : {X : Type 0} (p : X → Bool) (k : ℕ) (xs : List X) → list_all p (take k xs) ≡ false → list_all p xs ≡ false
fails_all p zero xs e = absurd cc
fails_all p (suc k) [] e = e
fails_all p (suc k) (x ∷ xs) e = go (p x) e (fails_all p k xs)
  where
    go : (b : Bool) → (b && list_all p (take k xs)) ≡ false → (list_all p (take k xs) ≡ false → list_all p xs ≡ false) → (b && list_all p xs) ≡ false
    go true h rest = rest h
    go false h rest = refl

-- what meets the first of them nowhere, meets all of them nowhere
pub met_nowhere : {C : Type 0} (a : Algebra C) {b : Algebra C} {here : C} (s : Search C) (es : List ℕ) (under : C) (k : ℕ) → HoldsNowhere b here
    → HoldsWhere b here (λ x. a.holds under x && accepts_first (model_at s.model.now x) (query s.query.now) es k)
    → HoldsWhere b here (λ x. a.holds under x && list_all (meets (model_at s.model.now x) es) (query s.query.now).constraints)
met_nowhere a {b} {here} s es under k never so_far = record {
  live = so_far.live;
  holds = λ x w. never x w ∙ sym (go x (a.holds under x) (sym (so_far.holds x w) ∙ never x w));
}
  where
    go : (x : List Bool) (u : Bool) → (u && accepts_first (model_at s.model.now x) (query s.query.now) es k) ≡ false → (u && list_all (meets (model_at s.model.now x) es) (query s.query.now).constraints) ≡ false
    go x true e = fails_all (meets (model_at s.model.now x) es) k (query s.query.now).constraints e
    go x false e = refl

all_of_all : {X : Type 0} (xs : List X) → take (length xs) xs ≡ xs
all_of_all [] = refl
all_of_all (x ∷ xs) = ap (λ ys. x ∷ ys) (all_of_all xs)

-- all of them are met
pub met_all : {C : Type 0} (a : Algebra C) {b : Algebra C} {here : C} (s : Search C) (es : List ℕ) (under : C) (k : ℕ) → k ≡ length (query s.query.now).constraints
    → HoldsWhere b here (λ x. a.holds under x && accepts_first (model_at s.model.now x) (query s.query.now) es k)
    → HoldsWhere b here (λ x. a.holds under x && list_all (meets (model_at s.model.now x) es) (query s.query.now).constraints)
met_all a s es under k all made =
    holds_as (λ x. a.holds under x && accepts_first (model_at s.model.now x) (query s.query.now) es k) (λ x. a.holds under x && list_all (meets (model_at s.model.now x) es) (query s.query.now).constraints)
    (λ x w. ap (λ cs. a.holds under x && list_all (meets (model_at s.model.now x) es) cs) (ap (λ n. take n (query s.query.now).constraints) all ∙ all_of_all (query s.query.now).constraints)) made
