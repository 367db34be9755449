use Rattle.std.proofs.Common.{◌≡◌, ◌∙◌, ℕ, ◌<◌, ◌+◌, ◌∷◌, ◌++◌, [], List, Bool, true, false, get_or, length, take, set, map, sym, ap, subst, refl, arith}
use Rattle.std.specs.Prelude.{◌==◌, if◌then◌else◌}
use Rattle.std.specs.List.{sum_by}
use Rattle.std.proofs.lemmas.Bool.{eqb-true, eq-eqb, false≢true}
use Rattle.std.proofs.lemmas.List.{length-map, length-append, length-take-le, map_more, get_or-set_same, get_or-set_other, append-nil}
use Rattle.std.proofs.lemmas.List.Sums.{sum_by-set}
use Rattle.annotated_model.specs.declared.data.Transition.{Transition}
use Rattle.featured_systems.specs.Rounds.{places, state_at, states_at}
use Rattle.featured_systems.proofs.Places.{places_push}
use Rattle.featured_systems.proofs.lists.numbers_by_state.Goals as goal

-- the lists after one more number
longer : (lists : List (List ℕ)) (state number y : ℕ) (es : List ℕ) → state < length lists → length es ≡ number → get_or lists y [] ≡ places 0 y es → get_or lists state [] ≡ places 0 state es
    → get_or (set lists state (get_or lists state [] ++ number ∷ [])) y [] ≡ places 0 y (es ++ state ∷ [])
longer lists state number y es below long before there = go (state == y) refl ∙ sym (places_push 0 y es state)
  where
    count : 0 + length es ≡ number
    count = omega (arith, long)

    go : (b : Bool) → (state == y) ≡ b → get_or (set lists state (get_or lists state [] ++ number ∷ [])) y [] ≡ places 0 y es ++ (if b then (0 + length es) ∷ [] else [])
    go true e =
        let same : state ≡ y = eqb-true state y e in
        ap (λ k. get_or (set lists state (get_or lists state [] ++ number ∷ [])) k []) (sym same)
        ∙ get_or-set_same lists state (get_or lists state [] ++ number ∷ []) [] below
        ∙ ap (λ ns. ns ++ number ∷ []) (ap (λ k. get_or lists k []) same ∙ before)
        ∙ ap (λ n. places 0 y es ++ n ∷ []) (sym count)
    go false e =
        get_or-set_other lists state y (get_or lists state [] ++ number ∷ []) [] (λ (same : y ≡ state). false≢true (sym e ∙ eq-eqb state y (sym same)))
        ∙ before ∙ sym (append-nil (places 0 y es))

pub transitions-preserved : goal.transitions-preserved
transitions-preserved c =
    let lists = map (λ list. list.items) c.transitions.lists.items in
    let ts = c.args.transitions.now in
    let n = c.transitions.number in
    let d = c.index-transitions-number.result in
    let end = c.args.end in
    let so_far = c.transitions.invariant in
    let state = c.from.result in
    let more : states_at end (take (n + 1) ts) ≡ states_at end (take n ts) ++ state_at end d ∷ [] = map_more (state_at end) ts n d c.transitions-test.true ∙ ap (λ (k : Transition). states_at end (take n ts) ++ state_at end k ∷ []) (sym c.index-transitions-number.is) in
    let is : state ≡ state_at end d = omega (arith, c.from.ensures, c.state_of.ensures) in
    let long : length (states_at end (take n ts)) ≡ n = length-map (take n ts) (state_at end) ∙ length-take-le n ts (omega (arith, c.transitions-test.true)) in
    let sized = length-map c.transitions.lists.items (λ list. list.items) in
    let below : state < length lists = omega (arith, is, sized, so_far.sized, c.transitions.lists.ok.0, subst (λ (k : Transition). state_at end k < c.args.states) (sym c.index-transitions-number.is) (c.requires.states n d c.transitions-test.true)) in
    let at_end = length-append (get_or lists state []) (n ∷ []) in
    let sum = sum_by-set length lists state (get_or lists state [] ++ n ∷ []) [] below in
    record {
      sized = c.in_ok-add.ensures.sized ∙ so_far.sized;
      lists = λ y. ap (λ l. get_or l y []) c.in_ok-add.ensures.added ∙ longer lists state n y (states_at end (take n ts)) below long (so_far.lists y) (so_far.lists state)
          ∙ ap (places 0 y) (ap (λ k. states_at end (take n ts) ++ k ∷ []) is ∙ sym more);
      each_once = ap (sum_by length) c.in_ok-add.ensures.added ∙ omega (arith, sum, at_end, so_far.each_once);
    }
