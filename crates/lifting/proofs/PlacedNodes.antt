-- A node that is placed stands for the template node at each world, and why a lifting stops.
use Rattle.std.proofs.Common.{◌≡◌, ◌≢◌, ℕ, suc, ◌+◌, List, [], ◌∷◌, map, length, Bool, true, false, not, Option, Some, None, refl, sym, ap, ◌∙◌, subst, arith}
use Rattle.std.specs.Prelude.{cond, option_map, Contains, Result, Ok, Err, IfErr, IsErrAnd}
use Rattle.std.specs.List.{slice_get}
use Rattle.worlds.specs.Algebra.{Algebra, Kept}
use Rattle.worlds.specs.declared.stops.QStop.{QStop}
use Rattle.worlds.specs.declared.stops.QStop.TheVariants as query
use Rattle.worlds.proofs.Kept.{world_before, refused_later}
use Rattle.path_queries.specs.Answering.{Somewhere, ManyAnswers, StopsWith, answers_at}
use Rattle.meaning.specs.Models.{Model, model_at}
use Rattle.meaning.specs.Queries.{Query, answers}
use Rattle.meaning.specs.Cases.{NodeKind}
use Rattle.meaning.specs.Templates.{TemplateNode, node_of, findings_of, branches_of, check_refuted, left_open, joined_parts}
use Rattle.meaning.specs.Tidy.{none, whole_model}
use Rattle.meaning.proofs.CutTrees.{Each}
use Rattle.gsn.specs.View.{kind_of}
use Rattle.lifted_case.specs.declared.lifted.LNode.{LNode}
use Rattle.lifted_case.specs.CaseView.{case_part_of}
use Rattle.lifting.specs.declared.growing.Growing.{Growing}
use Rattle.lifting.specs.declared.stop.LiftStop.{LiftStop}
use Rattle.lifting.specs.declared.stop.LiftStop.TheVariants.{NodeLimit, BigCase, NoMemory}
use Rattle.lifting.specs.Stops.{Halts, as_lift_stop}
use Rattle.lifting.specs.Overflows.{RowsOverflow}
use Rattle.meaning.proofs.Pairs.{Pairwise}
use Rattle.meaning.proofs.Members.{Member, member_of_contains, contains_member, each_from_members}
use Rattle.lifting.specs.ThereElements.{IsThere, PartFits}
use Rattle.lifting.specs.Noted.{Grows, linked, conditions_to, seen_at}
use Rattle.lifting.specs.Sites.{AreRows, AddsOne, note_of}
use Rattle.lifting.proofs.SeenNodes.{same_parts, node_is}
use Rattle.meaning.proofs.AscendingTuples.{tuples_ascend, whole_ascends, ascend_from_pairs}
use Rattle.lifting.proofs.AmongLists.{among_pairs}
use Rattle.lifting.proofs.NotedTrees.{somewhere_later}
use Rattle.path_queries.specs.Answering.{tuples_of}
use Rattle.meaning.specs.Tidy.{Ascend, is_before}

-- ---- stops

-- what holds of the error that is told
pub err_as : {T E : Type 0} (r : Result T E) (e : E) (P : E → Type 0) → IsErrAnd r (λ d. d ≡ e) → P e → IfErr r P
err_as (Ok x) e P h p = tt
err_as (Err d) e P h p = subst P (sym h) p

pub halts_later : {C : Type 0} {a b : Algebra C} (c : Algebra C) (many : Type 0) (stop : LiftStop) → Kept a b → Halts b c many stop → Halts a c many stop
halts_later c many (NodeLimit stop) k h = refused_later k h
halts_later c many BigCase k h = h
halts_later c many NoMemory k h = tt

pub halts_weaker : {C : Type 0} (a b : Algebra C) (many more : Type 0) (stop : LiftStop) → (many → more) → Halts a b many stop → Halts a b more stop
halts_weaker a b many more (NodeLimit stop) f h = h
halts_weaker a b many more BigCase f h = f h
halts_weaker a b many more NoMemory f h = tt

-- elements each of which stands at one place alone all differ
each_at_places : {A : Type 0} (P : A → Type 0) (xs : List A) → ((i : ℕ) (y : A) → slice_get xs i ≡ Some y → P y) → Each P xs
each_at_places P [] h = tt
each_at_places P (x ∷ xs) h = (h 0 x refl, each_at_places P xs (λ i y e. h (suc i) y e))

pub pairs_of_places : {A : Type 0} (xs : List A) → ((i j : ℕ) (t : A) → slice_get xs i ≡ Some t → slice_get xs j ≡ Some t → i ≡ j) → Pairwise (λ t u. t ≢ u) xs
pairs_of_places [] h = tt
pairs_of_places (x ∷ xs) h = (
  each_at_places (λ y. x ≢ y) xs (λ i y s e. none_is_more i (h 0 (suc i) x refl (subst (λ z. slice_get xs i ≡ Some z) (sym e) s))),
  pairs_of_places xs (λ i j t e f. same i j (h (suc i) (suc j) t e f)),
)
  where
    none_is_more : (i : ℕ) → 0 ≡ suc i → ⊥
    none_is_more i e = omega (arith, e)

    same : (i j : ℕ) → suc i ≡ suc j → i ≡ j
    same i j e = omega (arith, e)

-- too many answers are too many rows
pub rows_overflow : {C : Type 0} (a : Algebra C) (m : Model) (q : Query) (bound : List ℕ) (under : C) (most : ℕ) → ManyAnswers a m q bound under most
    → RowsOverflow a m (Some q) bound (a.holds under) (most + 1)
rows_overflow a m q bound under most h = record {
  tuples = h.tuples;
  once = pairs_of_places h.tuples h.once;
  answer = each_from_members _ h.tuples (λ t i. answering t (h.each_answers t (contains_member t h.tuples i)));
  many = omega (arith, h.many);
}
  where
    chosen : (t : List ℕ) (ts : List (List ℕ)) (b : Bool) → Contains (cond b ts []) t → (b ≡ true) × Member t ts
    chosen t ts true c = (refl, member_of_contains t ts c)
    chosen t ts false c = elim (member_of_contains t [] c) [ ]

    answering : (t : List ℕ) → (x : List Bool) × (a.is_world x ≡ true) × Contains (answers_at a m q bound under x) t
        → (x : List Bool) × (a.is_world x ≡ true) × (a.holds under x ≡ true) × Member t (branches_of (model_at m x) bound (Some q))
    answering t h = let both : (a.holds under h.0 ≡ true) × Member t (answers (model_at m h.0) q bound) = chosen t (answers (model_at m h.0) q bound) (a.holds under h.0) h.2 in (h.0, h.1, both.0, both.1)

pub halts_of_rows : {C : Type 0} (a b : Algebra C) (m : Model) (each : Option Query) (q : Query) (bound : List ℕ) (under : C) (most : ℕ) (stop : QStop) → each ≡ Some q
    → StopsWith a b (ManyAnswers a m q bound under most) stop → Halts a b (RowsOverflow a m each bound (a.holds under) (most + 1)) (as_lift_stop stop)
halts_of_rows a b m each q bound under most (query.NodeLimit stop) e h = h
halts_of_rows a b m each q bound under most query.TooMany e h = subst (λ each. RowsOverflow a m each bound (a.holds under) (most + 1)) (sym e) (rows_overflow a m q bound under most h)
halts_of_rows a b m each q bound under most query.NoMemory e h = tt

module _ {C : Type 0} where
  -- ---- rows

  pub no_rows : (a : Algebra C) (m : Model) (bound : List ℕ) (under : List Bool → Bool) → AreRows a m None bound under []
  no_rows a m bound under = record {
    live = λ i d below. absurd (omega arith);
    occur = λ i d below. absurd (omega arith);
    order = none;
    exact = λ x w. go (under x);
  }
    where
      go : (b : Bool) → ◌≡◌ {A = List (List ℕ)} [] (cond b [] [])
      go true = refl
      go false = refl

  rows_ascend : (a : Algebra C) (m : Model) (each : Option Query) (bound : List ℕ) (under : List Bool → Bool) (rows : List (List ℕ × C)) → AreRows a m each bound under rows → Ascend (tuples_of rows)
  rows_ascend a m None bound under rows h = ascend_from_pairs (tuples_of rows) (among_pairs is_before h.order tt)
  rows_ascend a m (Some q) bound under rows h = ascend_from_pairs (tuples_of rows) (among_pairs is_before h.order (tuples_ascend (whole_model m) (whole_ascends m) q.variables))

  -- ---- a node

  pub one_added : (a b : Algebra C) (m : Model) (n : TemplateNode) (kind : NodeKind) (key bound : List ℕ) (under : C) (rows : List (List ℕ × C)) (above : Option ℕ) (g h : Growing C) (node : LNode C)
      → Kept a b → a.live under → Somewhere a under
      → Each (PartFits (length bound)) n.words → n.check ≡ None
      → ((x : List Bool) → a.is_world x ≡ true → a.holds under x ≡ true → Each (IsThere m x) bound)
      → AreRows b m n.each bound (a.holds under) rows
      → node.key ≡ key → kind_of node.kind ≡ kind → map case_part_of node.text ≡ joined_parts (map (left_open (whole_model m) bound) n.words)
      → node.when ≡ under → node.undeveloped ≡ n.undeveloped → node.branches ≡ map (λ r. r.1) rows → node.finding ≡ None
      → Grows g.nodes.items g.relations.items h.nodes.items h.relations.items ((node, note_of m bound n (a.holds under) rows) ∷ [])
      (linked above (length g.nodes.items) ((node, note_of m bound n (a.holds under) rows) ∷ [])) (conditions_to above ((node, note_of m bound n (a.holds under) rows) ∷ []))
      → h.left + (1 + length rows) ≡ g.left
      → AddsOne b m n kind key bound (a.holds under) rows above g h
  one_added a b m n kind key bound under rows above g h node k live occurs fits unchecked there rs ekey ekind etext ewhen emark ebranches efinding grows counted = record {
    node = node;
    stands = record {
      live = subst b.live (sym ewhen) (k.live under live);
      there = λ x w. ap (λ c. b.holds c x) ewhen ∙ k.holds under live x;
      occurs = subst (Somewhere b) (sym ewhen) (somewhere_later under k live occurs);
      parts = λ x w u. parts_at x (world_before x k w) u;
      branches = ebranches;
      branches_live = rs.live;
      branches_occur = rs.occur;
      branches_ascend = rows_ascend b m n.each bound (a.holds under) rows rs;
      branches_exact = rs.exact;
      unchecked = efinding;
      no_verdict = λ x. refl;
    };
    key = ekey;
    seen = λ x w u. seen_there x (world_before x k w) u;
    grows = grows;
    counted = counted;
  }
    where
      parts_at : (x : List Bool) → a.is_world x ≡ true → a.holds under x ≡ true → map case_part_of node.text ≡ joined_parts (map (left_open (model_at m x) bound) n.words)
      parts_at x w u = etext ∙ same_parts m x bound (there x w u) n.words fits

      seen_there : (x : List Bool) → a.is_world x ≡ true → a.holds under x ≡ true
          → seen_at x (node, note_of m bound n (a.holds under) rows) ≡ (node_of (length m.labels) (model_at m x) key bound kind n, findings_of (length m.labels) (model_at m x) bound n)
      seen_there x w u =
          rw (ekey, ekind, emark)
          (ap (λ s. (s, findings_of (length m.labels) (model_at m x) bound n))
          (node_is (length m.labels) (model_at m x) key bound kind n (map case_part_of node.text) _ None (parts_at x w u)
          (ap (λ v. length (cond v (branches_of (model_at m x) bound n.each) [])) u)
          (sym (ap (option_map (λ c. not (check_refuted (length m.labels) (model_at m x) bound c))) unchecked))))
