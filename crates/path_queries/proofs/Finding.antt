-- What is found for a tuple, and below elements that are given, from the conditions at hand.
use Rattle.std.proofs.Common.{◌≡◌, ◌∙◌, refl, sym, ap, subst, ℕ, ◌+◌, ◌<◌, ◌≤◌, List, [], ◌∷◌, ◌++◌, length, map, get_or, Bool, true, false, cond, arith}
use Rattle.std.specs.Prelude.{◌&&◌, not, Contains}
use Rattle.std.specs.List.{All}
use Rattle.std.proofs.lemmas.List.Elements.{All-cons, All-nil}
use Rattle.meaning.specs.Models.{Model, has_element, is_a, model_at}
use Rattle.meaning.specs.Queries.{is_empty}
use Rattle.meaning.specs.Tidy.{Among, none, taken, whole_model}
use Rattle.worlds.specs.Algebra.{Algebra, Kept, HoldsWhere, HoldsNowhere}
use Rattle.path_queries.specs.Answering.{Somewhere}
use Rattle.path_queries.specs.View.{query}
use Rattle.path_queries.specs.Tuples.{accepts, answers_from, type_at, is_choice, Adds, Overflows}
use Rattle.path_queries.specs.Searching.{IsReady, found_below, found_with, possible_below, possible_next}
use Rattle.path_queries.specs.declared.answering.preparation.Search.{Search}
use Rattle.path_queries.proofs.TupleSplits.{tuple_itself, answer_itself}
use Rattle.worlds.proofs.Kept.{holds_as, world_before}
use Rattle.path_queries.specs.Presence.{TellElements}
use Rattle.path_queries.proofs.Presences.{element_holds}
use Rattle.path_queries.proofs.AnswerRowLaws.{adds_none, adds_as, overflows_more}

-- ---- truth values and lists

and_of_lists : {X : Type 0} (u v : Bool) (xs : List X) → cond u (cond v xs []) [] ≡ cond (u && v) xs []
and_of_lists true v xs = refl
and_of_lists false v xs = refl

nothing_if : {X : Type 0} (b : Bool) (xs : List X) → b ≡ false → cond b xs [] ≡ []
nothing_if b xs e = ap (λ c. cond c xs []) e

one_not_empty : {X : Type 0} (b : Bool) (x : X) → not (is_empty (cond b (x ∷ []) [])) ≡ b
one_not_empty true x = refl
one_not_empty false x = refl

-- ---- a whole tuple

module _ {C : Type 0} (a : Algebra C) (s : Search C) (given : List ℕ) (under : C) (last : length s.query.now.vars ≤ length given) where
  -- it is found where the condition holds and the tuple is accepted
  pub found_itself : (x : List Bool) → found_below a s given under x ≡ cond (a.holds under x && accepts (model_at s.model.now x) (query s.query.now) s.bound.now given) (given ∷ []) []
  found_itself x =
      ap (λ ts. cond (a.holds under x) ts []) (answer_itself (model_at s.model.now x) (query s.query.now) s.bound.now given last)
      ∙ and_of_lists (a.holds under x) (accepts (model_at s.model.now x) (query s.query.now) s.bound.now given) (given ∷ [])

  pub possible_itself : possible_below s given ≡ given ∷ []
  possible_itself = tuple_itself (whole_model s.model.now) s.query.now.vars given last

  module _ {b : Algebra C} {here : C} (made : HoldsWhere b here (λ x. a.holds under x && accepts (model_at s.model.now x) (query s.query.now) s.bound.now given)) where
    found_here : (x : List Bool) → b.is_world x ≡ true → found_below a s given under x ≡ cond (b.holds here x) (given ∷ []) []
    found_here x w = found_itself x ∙ ap (λ c. cond c (given ∷ []) []) (sym (made.holds x w))

    -- where it answers nowhere, no row is added
    pub adds_no_row : (rows : List (List ℕ × C)) → HoldsNowhere b here → Adds b rows rows (found_below a s given under) (possible_below s given)
    adds_no_row rows never = adds_none b rows (found_below a s given under) (possible_below s given) (λ x w. found_here x w ∙ nothing_if (b.holds here x) (given ∷ []) (never x w))

    -- else one is
    pub adds_row : (rows more : List (List ℕ × C)) → Somewhere b here → more ≡ rows ++ (given, here) ∷ [] → Adds b rows more (found_below a s given under) (possible_below s given)
    adds_row rows more some is = record {
      added = (given, here) ∷ [];
      is = is;
      live = All-cons (λ r. b.live r.1) (given, here) [] made.live (All-nil (λ r. b.live r.1));
      holds = λ x w. alone (b.holds here x) ∙ sym (found_here x w);
      somewhere = All-cons (λ r. Somewhere b r.1) (given, here) [] some (All-nil (λ r. Somewhere b r.1));
      order = subst (λ ts. Among (given ∷ []) ts) (sym possible_itself) (taken none);
    }
      where
        alone : (c : Bool) → map {A = List ℕ × C} (λ r. r.0) (cond c ((given, here) ∷ []) []) ≡ cond c (given ∷ []) []
        alone true = refl
        alone false = refl

    -- or there is no room for it
    pub no_room : (rows : List (List ℕ × C)) (most : ℕ) → Somewhere b here → most ≤ length rows → Overflows b rows (found_below a s given under) (possible_below s given) most
    no_room rows most some full = record {
      added = given ∷ [];
      order = subst (λ ts. Among (given ∷ []) ts) (sym possible_itself) (taken none);
      each_found = λ t c. (
        some.0,
        some.1,
        subst (λ ts. Contains ts t) (sym (found_here some.0 some.1 ∙ ap (λ d. cond d (given ∷ []) []) some.2)) c,
      );
      many = omega (arith, full);
    }

    -- the condition holds where something is found
    pub answers_itself : HoldsWhere b here (λ x. not (is_empty (found_below a s given under x)))
    answers_itself = record {
      live = made.live;
      holds = λ x w. sym (ap (λ ts. not (is_empty ts)) (found_here x w) ∙ one_not_empty (b.holds here x) given);
    }

-- ---- one more element

module _ {C : Type 0} (a : Algebra C) (s : Search C) (given : List ℕ) (under : C) (t e : ℕ) where
  pub nothing_of_other_type : is_a s.model.now.types (type_at s.model.now e) t ≡ false → (x : List Bool) → found_with a s given under t e x ≡ []
  nothing_of_other_type other x =
      nothing_if (a.holds under x && is_choice s.model.now x t e) (answers_from (model_at s.model.now x) (query s.query.now) s.bound.now (given ++ e ∷ []))
      (ap (λ b. a.holds under x && (has_element s.model.now.elements x e && b)) other ∙ none_of (a.holds under x) (has_element s.model.now.elements x e))
    where
      none_of : (u p : Bool) → (u && (p && false)) ≡ false
      none_of true true = refl
      none_of true false = refl
      none_of false p = refl

  module _ {b : Algebra C} {here : C} (of_type : is_a s.model.now.types (type_at s.model.now e) t ≡ true) (made : HoldsWhere b here (λ x. a.holds under x && has_element s.model.now.elements x e)) where
    choice_here : (x : List Bool) → b.is_world x ≡ true → (a.holds under x && is_choice s.model.now x t e) ≡ b.holds here x
    choice_here x w =
        ap (λ c. a.holds under x && (has_element s.model.now.elements x e && c)) of_type ∙ ap (λ c. a.holds under x && c) (and_true (has_element s.model.now.elements x e)) ∙ sym (made.holds x w)
      where
        and_true : (p : Bool) → (p && true) ≡ p
        and_true true = refl
        and_true false = refl

    -- what goes on with the element is what begins with it
    pub found_on : (x : List Bool) → b.is_world x ≡ true → found_below b s (given ++ e ∷ []) here x ≡ found_with a s given under t e x
    found_on x w = ap (λ c. cond c (answers_from (model_at s.model.now x) (query s.query.now) s.bound.now (given ++ e ∷ [])) []) (sym (choice_here x w))

    pub nothing_where_never : HoldsNowhere b here → (x : List Bool) → b.is_world x ≡ true → found_with a s given under t e x ≡ []
    nothing_where_never never x w =
        nothing_if (a.holds under x && is_choice s.model.now x t e) (answers_from (model_at s.model.now x) (query s.query.now) s.bound.now (given ++ e ∷ [])) (choice_here x w ∙ never x w)

    -- where it answers nowhere, nothing is added and nothing is found
    pub adds_nothing : (rows : List (List ℕ × C)) → HoldsNowhere b here → Adds b rows rows (found_with a s given under t e) (possible_next s given t e)
    adds_nothing rows never = adds_none b rows (found_with a s given under t e) (possible_next s given t e) (nothing_where_never never)

    pub none_found : HoldsNowhere b here → HoldsWhere b here (λ x. not (is_empty (found_with a s given under t e x)))
    none_found never = record { live = made.live; holds = λ x w. never x w ∙ sym (ap (λ ts. not (is_empty ts)) (nothing_where_never never x w)) }

    -- what is found with the element, by what is found below it
    module _ {later : Algebra C} (longer : List ℕ) (is : longer ≡ given ++ e ∷ []) (kept : Kept b later) where
      found_longer : (x : List Bool) → later.is_world x ≡ true → found_below b s longer here x ≡ found_with a s given under t e x
      found_longer x w = ap (λ es. found_below b s es here x) is ∙ found_on x (world_before x kept w)

      possible_longer : possible_below s longer ≡ possible_next s given t e
      possible_longer = ap (possible_below s) is ∙ sym (ap (λ c. cond c (possible_below s (given ++ e ∷ [])) []) of_type)

      pub any_longer : {found : C} → HoldsWhere later found (λ x. not (is_empty (found_below b s longer here x))) → HoldsWhere later found (λ x. not (is_empty (found_with a s given under t e x)))
      any_longer made =
          holds_as (λ x. not (is_empty (found_below b s longer here x))) (λ x. not (is_empty (found_with a s given under t e x))) (λ x w. ap (λ ts. not (is_empty ts)) (found_longer x w)) made

      pub adds_longer : {rows all : List (List ℕ × C)} → Adds later rows all (found_below b s longer here) (possible_below s longer) → Adds later rows all (found_with a s given under t e) (possible_next s given t e)
      adds_longer added = adds_as (found_with a s given under t e) (possible_next s given t e) found_longer possible_longer added

      pub overflows_longer : {rows : List (List ℕ × C)} {most : ℕ} → Overflows later rows (found_below b s longer here) (possible_below s longer) most → Overflows later rows (found_with a s given under t e) (possible_next s given t e) most
      overflows_longer over =
          overflows_more (found_with a s given under t e) (possible_next s given t e) (λ x w u there. subst (λ ts. Contains ts u) (found_longer x w) there) (λ ts among. subst (Among ts) possible_longer among) over

  pub adds_no_other : {b : Algebra C} (rows : List (List ℕ × C)) → is_a s.model.now.types (type_at s.model.now e) t ≡ false → Adds b rows rows (found_with a s given under t e) (possible_next s given t e)
  adds_no_other {b} rows other = adds_none b rows (found_with a s given under t e) (possible_next s given t e) (λ x w. nothing_of_other_type other x)

-- where the condition holds and the element is there
pub with_element : {C : Type 0} {a b : Algebra C} {cell here : C} (s : Search C) (cs : List C) (i e : ℕ) (under : C) → IsReady a s → cs ≡ s.elements → i ≡ e → e < length s.model.now.elements → cell ≡ get_or cs i cell → Kept a b
    → HoldsWhere b here (λ x. a.holds under x && a.holds cell x) → HoldsWhere b here (λ x. a.holds under x && has_element s.model.now.elements x e)
with_element {a} {b} {cell} s cs i e under ready same place there is kept made =
    let told = subst (TellElements a s.model.now) (sym same) ready.elements in
    let size = told.size in
    holds_as (λ x. a.holds under x && a.holds cell x) (λ x. a.holds under x && has_element s.model.now.elements x e)
    (λ x w. ap (λ u. a.holds under x && u) ((element_holds i e cell told place (omega (arith, size, place, there)) is).holds x (world_before x kept w))) made

pub element_live : {C : Type 0} {a : Algebra C} {cell : C} (s : Search C) (cs : List C) (i e : ℕ) → IsReady a s → cs ≡ s.elements → i ≡ e → e < length s.model.now.elements → cell ≡ get_or cs i cell → a.live cell
element_live {a} {cell} s cs i e ready same place there is =
    let told = subst (TellElements a s.model.now) (sym same) ready.elements in
    let size = told.size in
    (element_holds i e cell told place (omega (arith, size, place, there)) is).live
