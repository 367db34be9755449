-- A search that begins with no element finds the answers of the query.
use Rattle.std.proofs.Common.{◌≡◌, ◌∙◌, refl, sym, ap, subst, ℕ, ◌+◌, ◌-◌, ◌≤◌, List, [], ◌∷◌, ◌++◌, length, Bool, true, false, cond, arith}
use Rattle.std.specs.Prelude.{◌&&◌, not, Contains}
use Rattle.std.specs.List.{All}
use Rattle.meaning.specs.Bounds.{asks_of_query}
use Rattle.meaning.specs.Models.{Model, model_at}
use Rattle.meaning.specs.Queries.{tuples, is_empty, has_answer, answers}
use Rattle.meaning.specs.Tidy.{Among, whole_model}
use Rattle.worlds.specs.Algebra.{Algebra, Kept, HoldsWhere, Stops}
use Rattle.worlds.specs.declared.stops.QStop.{QStop}
use Rattle.worlds.specs.declared.stops.QStop.TheVariants.{NodeLimit as AtLimit, TooMany, NoMemory}
use Rattle.worlds.proofs.Kept.{kept_then, holds_as, world_before, refused_later}
use Rattle.path_queries.specs.declared.data.Query.{Query}
use Rattle.path_queries.specs.declared.answering.preparation.Search.{Search}
use Rattle.path_queries.specs.View.{query}
use Rattle.path_queries.specs.Answering.{Somewhere, tuples_of, tuples_at, answers_at, ManyAnswers, StopsWith}
use Rattle.path_queries.specs.Tuples.{answers_below, answers_from, tuples_from, Adds, Overflows}
use Rattle.path_queries.specs.Searching.{asks_before, asks_left, asks_of_tuples, found_below, possible_below}
use Rattle.path_queries.proofs.TupleSplits.{tuples_from_none}
use Rattle.path_queries.proofs.AnswerRowLaws.{answers_whole, many_answers, overflows_more}
use Rattle.path_queries.proofs.Asked.{query_within}

module _ {C : Type 0} (s : Search C) (m : Model) (q : Query) (same_model : s.model.now ≡ m) (same_query : s.query.now ≡ q) where
  asks_all : asks_left s [] ≡ asks_of_tuples (length m.elements) (length q.constraints) (length q.vars)
  asks_all =
      let all : length q.vars - 0 ≡ length q.vars = omega arith in
      ap (λ k. asks_of_tuples (length k.elements) (length s.query.now.constraints) (length s.query.now.vars - 0)) same_model
      ∙ ap (λ k. asks_of_tuples (length m.elements) (length k.constraints) (length k.vars - 0)) same_query
      ∙ ap (asks_of_tuples (length m.elements) (length q.constraints)) all

  pub asks_within : length q.vars ≤ 3 → asks_before m q + asks_left s [] ≤ asks_of_query m (query q)
  asks_within few = let within = query_within m q few in let all = asks_all in omega (arith, within, all)

  pub possible_whole : possible_below s [] ≡ tuples (whole_model m) q.vars
  possible_whole =
      ap (λ k. tuples_from (whole_model k) s.query.now.vars []) same_model ∙ ap (λ k. tuples_from (whole_model m) k.vars []) same_query ∙ tuples_from_none (whole_model m) q.vars

  module _ (bound : List ℕ) (same_bound : s.bound.now ≡ bound) {a b : Algebra C} (under : C) (kept : Kept a b) (live : a.live under) where
    pub found_whole : (x : List Bool) → found_below b s [] under x ≡ answers_at a m (query q) bound under x
    found_whole x =
        ap (λ k. answers_below b k (query s.query.now) s.bound.now [] under x) same_model
        ∙ ap (λ k. answers_below b m (query k) s.bound.now [] under x) same_query
        ∙ ap (λ k. answers_below b m (query q) k [] under x) same_bound
        ∙ ap (λ h. cond h (answers_from (model_at m x) (query q) bound []) []) (kept.holds under live x)
        ∙ answers_whole a m (query q) bound under x

    module _ {c : Algebra C} (after : Kept b c) where
      pub many_whole : {most : ℕ} → Overflows c [] (found_below b s [] under) (possible_below s []) most → ManyAnswers a m (query q) bound under most
      many_whole over =
          many_answers (kept_then kept after)
          (overflows_more (answers_below a m (query q) bound [] under) (tuples_from (whole_model m) q.vars [])
          (λ x w t there. subst (λ ts. Contains ts t) (found_whole x ∙ sym (answers_whole a m (query q) bound under x)) there)
          (λ ts among. subst (Among ts) (possible_whole ∙ sym (tuples_from_none (whole_model m) q.vars)) among) over)

      pub stops_whole : (most : ℕ) (stop : QStop) → StopsWith b c (Overflows c [] (found_below b s [] under) (possible_below s []) most) stop → StopsWith a c (ManyAnswers a m (query q) bound under most) stop
      stops_whole most (AtLimit limit) h = refused_later kept h
      stops_whole most TooMany h = many_whole h
      stops_whole most NoMemory h = tt

      -- the rows that were added to none
      module _ {rows : List (List ℕ × C)} (added : Adds c [] rows (found_below b s [] under) (possible_below s [])) where
        pub rows_live : All (λ r. c.live r.1) rows
        rows_live = subst (All (λ r. c.live r.1)) (sym added.is) added.live

        pub rows_somewhere : All (λ r. Somewhere c r.1) rows
        rows_somewhere = subst (All (λ r. Somewhere c r.1)) (sym added.is) added.somewhere

        pub rows_ordered : Among (tuples_of rows) (tuples (whole_model m) q.vars)
        rows_ordered = subst (λ rs. Among (tuples_of rs) (tuples (whole_model m) q.vars)) (sym added.is) (subst (Among (tuples_of added.added)) possible_whole added.order)

        pub rows_answer : (x : List Bool) → c.is_world x ≡ true → tuples_at c rows x ≡ answers_at a m (query q) bound under x
        rows_answer x w = ap (λ rs. tuples_at c rs x) added.is ∙ added.holds x w ∙ found_whole x

      -- whether there is an answer
      pub some_whole : {found : C} → HoldsWhere c found (λ x. not (is_empty (found_below b s [] under x))) → HoldsWhere c found (λ x. a.holds under x && has_answer (model_at m x) (query q) bound)
      some_whole made =
          holds_as (λ x. not (is_empty (found_below b s [] under x))) (λ x. a.holds under x && has_answer (model_at m x) (query q) bound)
          (λ x w. ap (λ ts. not (is_empty ts)) (found_whole x) ∙ some_of (a.holds under x) (answers (model_at m x) (query q) bound)) made
        where
          some_of : (h : Bool) (ts : List (List ℕ)) → not (is_empty (cond h ts [])) ≡ (h && not (is_empty ts))
          some_of true ts = refl
          some_of false ts = refl
