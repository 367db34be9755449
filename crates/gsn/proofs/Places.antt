-- The places of marks, one mark after another; the supports needed, one relation after another.
use Rattle.std.proofs.Common.{◌≡◌, ℕ, ◌+◌, ◌<◌, ◌≤◌, inl, inr, Bool, true, false, not, List, [], ◌∷◌, ◌++◌, length, get_or, set, take, refl, sym, ap, ◌∙◌, subst, arith}
use Rattle.std.specs.Prelude.{◌&&◌, ◌==◌, slice_index, if◌then◌else◌}
use Rattle.std.proofs.lemmas.Bool.{cases_eq, both_ways, false≢true, eq-eqb, ne_eqb}
use Rattle.std.proofs.lemmas.List.{get_or-set_same, get_or-set_other, get_or_read, length-set}
use Rattle.gsn.specs.declared.case.CRel.{CRel}
use Rattle.gsn.specs.Marks.{Waits, IsPlaces, is_in, is_supporting, supports_node, one_for, total}
use Rattle.gsn.proofs.UnderWay.{waits_front, waits_end, waits_parts}
use Rattle.gsn.proofs.Tallies.{total_more}

pub no_places : (marks : List Bool) → IsPlaces marks 0 []
no_places marks = record { below = λ x w. absurd w; only = λ x w. absurd w; all = λ x l e. absurd (omega (arith, l)) }

pub place_marked : (marks : List Bool) (k : ℕ) (places : List ℕ) → IsPlaces marks k places → is_in marks k ≡ true → IsPlaces marks (k + 1) (places ++ k ∷ [])
place_marked marks k places was here = record {
  below = λ x w. elim (waits_parts x k places w) [ inl v ↦ (let l = was.below x v in omega (arith, l)) | inr e ↦ omega (arith, e) ];
  only = λ x w. elim (waits_parts x k places w) [ inl v ↦ was.only x v | inr e ↦ ap (is_in marks) e ∙ here ];
  all = λ x l e. elim (cases_eq x k) [
    | inl s ↦ subst (λ y. Waits y (places ++ k ∷ [])) (sym s) (waits_end k places)
    | inr ne ↦ waits_front x places (k ∷ []) (was.all x (omega (arith, l, ne)) e)
  ];
}

pub place_passed : (marks : List Bool) (k : ℕ) (places : List ℕ) → IsPlaces marks k places → is_in marks k ≡ false → IsPlaces marks (k + 1) places
place_passed marks k places was away = record {
  below = λ x w. let l = was.below x w in omega (arith, l);
  only = was.only;
  all = λ x l e. elim (cases_eq x k) [
    | inl s ↦ absurd (both_ways (is_in marks k) away (ap (is_in marks) (sym s) ∙ e))
    | inr ne ↦ was.all x (omega (arith, l, ne)) e
  ];
}

-- ---- supports needed

module _ (rs : List CRel) (arguing refuted : List Bool) (k : ℕ) (d : CRel) (l : k < length rs) (needed : List ℕ)
    (was : (x : ℕ) → slice_index needed x ≡ (if is_in arguing x && not (is_in refuted x) then total (take k rs) x else 0)) where
  chosen : (a b : Bool) (m n : ℕ) → m ≡ n + one_for b → (a ≡ true → b ≡ false) → (if a then m else 0) ≡ (if a then n else 0)
  chosen true true m n e h = absurd (false≢true (sym (h refl)))
  chosen true false m n e h = omega (arith, e)
  chosen false b m n e h = refl

  chosen_more : (a b : Bool) (m n : ℕ) → m ≡ n + one_for b → a ≡ true → b ≡ true → (if a then m else 0) ≡ (if a then n else 0) + 1
  chosen_more true true m n e f g = omega (arith, e)
  chosen_more true false m n e f g = absurd (false≢true g)
  chosen_more false b m n e f g = absurd (false≢true f)

  not_both : (e s m : Bool) → (s && m) ≡ false → m ≡ true → (e && s) ≡ false
  not_both e true true h g = absurd (false≢true (sym h))
  not_both e true false h g = absurd (false≢true g)
  not_both true false m h g = refl
  not_both false false m h g = refl

  away : (e s : Bool) → e ≡ false → (e && s) ≡ false
  away true s h = absurd (false≢true (sym h))
  away false s h = refl

  and_two : (e s : Bool) → e ≡ true → s ≡ true → (e && s) ≡ true
  and_two true s h g = g
  and_two false s h g = absurd (false≢true h)

  and_first : (s m : Bool) → (s && m) ≡ true → (s ≡ true) × (m ≡ true)
  and_first true m h = (refl, h)
  and_first false m h = absurd (false≢true h)

  -- the relation isn't needed
  pub needs_same : (is_supporting (get_or rs k d) && (is_in arguing (get_or rs k d).from && not (is_in refuted (get_or rs k d).from))) ≡ false
      → (x : ℕ) → slice_index needed x ≡ (if is_in arguing x && not (is_in refuted x) then total (take (k + 1) rs) x else 0)
  needs_same h x = was x ∙ sym (chosen (is_in arguing x && not (is_in refuted x)) (supports_node x (get_or rs k d)) (total (take (k + 1) rs) x) (total (take k rs) x) (total_more rs x k d l)
      (λ g. elim (cases_eq (get_or rs k d).from x) [
        | inl e ↦ not_both ((get_or rs k d).from == x) (is_supporting (get_or rs k d)) (is_in arguing x && not (is_in refuted x))
            (ap (λ y. is_supporting (get_or rs k d) && (is_in arguing y && not (is_in refuted y))) (sym e) ∙ h) g
        | inr ne ↦ away ((get_or rs k d).from == x) (is_supporting (get_or rs k d)) (ne_eqb (get_or rs k d).from x ne)
      ]))

  -- the relation is needed
  pub needs_one : (is_supporting (get_or rs k d) && (is_in arguing (get_or rs k d).from && not (is_in refuted (get_or rs k d).from))) ≡ true
      → (get_or rs k d).from < length needed → (x : ℕ) → slice_index (set needed (get_or rs k d).from (slice_index needed (get_or rs k d).from + 1)) x
      ≡ (if is_in arguing x && not (is_in refuted x) then total (take (k + 1) rs) x else 0)
  needs_one h fits x =
      let s = (get_or rs k d).from in
      let parts = and_first (is_supporting (get_or rs k d)) (is_in arguing (get_or rs k d).from && not (is_in refuted (get_or rs k d).from)) h in
      elim (cases_eq x (get_or rs k d).from) [
        | inl e ↦
            subst (λ y. slice_index (set needed s (slice_index needed s + 1)) y ≡ (if is_in arguing y && not (is_in refuted y) then total (take (k + 1) rs) y else 0)) (sym e)
            (get_or-set_same needed s (slice_index needed s + 1) 0 fits ∙ (ap (λ n. n + 1) (was s)
            ∙ sym (chosen_more (is_in arguing s && not (is_in refuted s)) (supports_node s (get_or rs k d)) (total (take (k + 1) rs) s) (total (take k rs) s) (total_more rs s k d l) parts.1
            (and_two (s == s) (is_supporting (get_or rs k d)) (eq-eqb s s refl) parts.0))))
        | inr ne ↦
            get_or-set_other needed s x (slice_index needed s + 1) 0 ne
            ∙ (was x ∙ sym (chosen (is_in arguing x && not (is_in refuted x)) (supports_node x (get_or rs k d)) (total (take (k + 1) rs) x) (total (take k rs) x) (total_more rs x k d l)
            (λ g. away (s == x) (is_supporting (get_or rs k d)) (ne_eqb s x (λ z. ne (sym z))))))
      ]

  few_more : ((x : ℕ) → slice_index needed x ≤ k) → (s v : ℕ) → s < length needed → v ≡ slice_index needed s + 1 → (x : ℕ) → slice_index (set needed s v) x ≤ k + 1
  few_more few s v fits e x = elim (cases_eq x s) [
    | inl same ↦
        let f = few s in
        let g : slice_index (set needed s v) x ≡ v = ap (slice_index (set needed s v)) same ∙ get_or-set_same needed s v 0 fits in
        omega (arith, f, g, e)
    | inr ne ↦ let f = few x in let g : slice_index (set needed s v) x ≡ slice_index needed x = get_or-set_other needed s x v 0 ne in omega (arith, f, g)
  ]

  pub counted : (needed' : List ℕ) (v : ℕ) → ((x : ℕ) → slice_index needed x ≤ k) → needed' ≡ set needed (get_or rs k d).from (v + 1) → v ≡ get_or needed (get_or rs k d).from v
      → (get_or rs k d).from < length needed
      → true ≡ (is_supporting (get_or rs k d) && (is_in arguing (get_or rs k d).from && not (is_in refuted (get_or rs k d).from)))
      → (length needed' ≡ length needed) × ((x : ℕ) → slice_index needed' x ≤ k + 1)
      × ((x : ℕ) → slice_index needed' x ≡ (if is_in arguing x && not (is_in refuted x) then total (take (k + 1) rs) x else 0))
  counted needed' v few e read fits test =
      let s = (get_or rs k d).from in
      let was_v : v ≡ slice_index needed s = get_or_read needed s v fits read 0 in (
        ap length e ∙ length-set needed s (v + 1),
        (λ x. subst (λ xs. slice_index xs x ≤ k + 1) (sym e) (few_more few s (v + 1) fits (ap (λ n. n + 1) was_v) x)),
        (λ x. ap (λ xs. slice_index xs x) e ∙ (ap (λ n. slice_index (set needed s (n + 1)) x) was_v ∙ needs_one (sym test) fits x)),
      )

  pub skipped : (needed' : List ℕ) → ((x : ℕ) → slice_index needed x ≤ k) → needed' ≡ needed
      → false ≡ (is_supporting (get_or rs k d) && (is_in arguing (get_or rs k d).from && not (is_in refuted (get_or rs k d).from)))
      → (length needed' ≡ length needed) × ((x : ℕ) → slice_index needed' x ≤ k + 1)
      × ((x : ℕ) → slice_index needed' x ≡ (if is_in arguing x && not (is_in refuted x) then total (take (k + 1) rs) x else 0))
  skipped needed' few e test = (
    ap length e,
    (λ x. let f = few x in let g = ap (λ xs. slice_index xs x) e in omega (arith, f, g)),
    (λ x. ap (λ xs. slice_index xs x) e ∙ needs_same (sym test) x),
  )
