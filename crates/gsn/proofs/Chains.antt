-- Chains of the relations to each node, one relation after another.
use Rattle.std.proofs.Common.{◌≡◌, ℕ, ◌+◌, ◌-◌, ◌≤◌, ◌<◌, inl, inr, List, [], ◌∷◌, ◌++◌, set, replicate, refl, sym, ap, ◌∙◌, subst, arith}
use Rattle.std.specs.Prelude.{slice_index}
use Rattle.std.proofs.lemmas.Bool.{cases_eq, cases_lt}
use Rattle.std.proofs.lemmas.List.{get_or-set_same, get_or-set_other, get_or-replicate, get_or_past, length-set, length-replicate}
use Rattle.std.proofs.Math.ListN.{get_or-append, length-append}
use Rattle.std.proofs.Math.Seq.{get_or-append_seam}
use Rattle.gsn.specs.Incoming.{IsIncoming}

zeros : (n x : ℕ) → slice_index (replicate n 0) x ≡ 0
zeros n x = elim (cases_lt x n) [
  | inl l ↦ get_or-replicate n x 0 0 l
  | inr l ↦ get_or_past (replicate n 0) x 0 (omega (arith, l, length-replicate {A = ℕ} n 0))
]

pub no_relations : (n : ℕ) (to : List ℕ) → IsIncoming n to 0 (replicate n 0) []
no_relations n to = record {
  nodes_all = length-replicate n 0;
  relations_all = refl;
  last_in = λ x. omega (arith, zeros n x);
  last_to = λ x h. absurd (omega (arith, h, zeros n x));
  last_greatest = λ k h. absurd (omega (arith, h));
  before_in = λ k. omega arith;
  before_to = λ k h. absurd (omega (arith, h));
  before_greatest = λ j k l h e. absurd (omega (arith, h));
}

module _ (n : ℕ) (to : List ℕ) (k : ℕ) (last before : List ℕ) (was : IsIncoming n to k last before) (t : ℕ) (target : t ≡ slice_index to k) (there : t < n) where
  at_last : slice_index (set last t (k + 1)) t ≡ k + 1
  at_last = get_or-set_same last t (k + 1) 0 (omega (arith, there, was.nodes_all))

  elsewhere : (x : ℕ) → (x ≡ t → ⊥) → slice_index (set last t (k + 1)) x ≡ slice_index last x
  elsewhere x ne = get_or-set_other last t x (k + 1) 0 ne

  earlier : (j : ℕ) → j < k → slice_index (before ++ slice_index last t ∷ []) j ≡ slice_index before j
  earlier j l = get_or-append before (slice_index last t ∷ []) 0 j (omega (arith, l, was.relations_all))

  newest : slice_index (before ++ slice_index last t ∷ []) k ≡ slice_index last t
  newest = subst (λ i. slice_index (before ++ slice_index last t ∷ []) i ≡ slice_index last t) was.relations_all (get_or-append_seam before (slice_index last t) [] 0)

  none_later : (j : ℕ) → k < j → slice_index (before ++ slice_index last t ∷ []) j ≡ 0
  none_later j l = get_or_past (before ++ slice_index last t ∷ []) j 0 (omega (arith, l, was.relations_all, length-append before (slice_index last t ∷ [])))

  last_in_now : (x : ℕ) → slice_index (set last t (k + 1)) x ≤ k + 1
  last_in_now x = elim (cases_eq x t) [
    | inl e ↦ let v : slice_index (set last t (k + 1)) x ≡ k + 1 = ap (slice_index (set last t (k + 1))) e ∙ at_last in omega (arith, v)
    | inr ne ↦ let v = elsewhere x ne in let l = was.last_in x in omega (arith, v, l)
  ]

  last_to_now : (x : ℕ) → 0 < slice_index (set last t (k + 1)) x → slice_index to (slice_index (set last t (k + 1)) x - 1) ≡ x
  last_to_now x h = elim (cases_eq x t) [
    | inl e ↦
        let v : slice_index (set last t (k + 1)) x ≡ k + 1 = ap (slice_index (set last t (k + 1))) e ∙ at_last in
        let i : slice_index (set last t (k + 1)) x - 1 ≡ k = omega (arith, v) in
        ap (slice_index to) i ∙ (sym target ∙ sym e)
    | inr ne ↦
        let v = elsewhere x ne in
        ap (λ i. slice_index to (i - 1)) v ∙ was.last_to x (omega (arith, h, v))
  ]

  last_greatest_now : (j : ℕ) → j < k + 1 → j + 1 ≤ slice_index (set last t (k + 1)) (slice_index to j)
  last_greatest_now j h = elim (cases_eq (slice_index to j) t) [
    | inl e ↦ let v : slice_index (set last t (k + 1)) (slice_index to j) ≡ k + 1 = ap (slice_index (set last t (k + 1))) e ∙ at_last in omega (arith, v, h)
    | inr ne ↦ elim (cases_eq j k) [
      | inl e ↦ absurd (ne (ap (slice_index to) e ∙ sym target))
      | inr nk ↦ let v = elsewhere (slice_index to j) ne in let g = was.last_greatest j (omega (arith, h, nk)) in omega (arith, v, g)
    ]
  ]

  before_in_now : (j : ℕ) → slice_index (before ++ slice_index last t ∷ []) j ≤ j
  before_in_now j = elim (cases_lt j k) [
    | inl l ↦ let v = earlier j l in let b = was.before_in j in omega (arith, v, b)
    | inr l ↦ elim (cases_eq j k) [
      | inl e ↦ let v : slice_index (before ++ slice_index last t ∷ []) j ≡ slice_index last t = ap (slice_index (before ++ slice_index last t ∷ [])) e ∙ newest in
          let b = was.last_in t in omega (arith, v, b, e)
      | inr ne ↦ let v = none_later j (omega (arith, l, ne)) in omega (arith, v)
    ]
  ]

  before_to_now : (j : ℕ) → 0 < slice_index (before ++ slice_index last t ∷ []) j → slice_index to (slice_index (before ++ slice_index last t ∷ []) j - 1) ≡ slice_index to j
  before_to_now j h = elim (cases_lt j k) [
    | inl l ↦ let v = earlier j l in ap (λ i. slice_index to (i - 1)) v ∙ was.before_to j (omega (arith, h, v))
    | inr l ↦ elim (cases_eq j k) [
      | inl e ↦
          let v : slice_index (before ++ slice_index last t ∷ []) j ≡ slice_index last t = ap (slice_index (before ++ slice_index last t ∷ [])) e ∙ newest in
          ap (λ i. slice_index to (i - 1)) v ∙ (was.last_to t (omega (arith, h, v)) ∙ (target ∙ ap (slice_index to) (sym e)))
      | inr ne ↦ let v = none_later j (omega (arith, l, ne)) in absurd (omega (arith, v, h))
    ]
  ]

  before_greatest_now : (i j : ℕ) → i < j → j < k + 1 → slice_index to i ≡ slice_index to j → i + 1 ≤ slice_index (before ++ slice_index last t ∷ []) j
  before_greatest_now i j l h e = elim (cases_lt j k) [
    | inl m ↦ let v = earlier j m in let g = was.before_greatest i j l m e in omega (arith, v, g)
    | inr m ↦
        let same : j ≡ k = omega (arith, h, m) in
        let v : slice_index (before ++ slice_index last t ∷ []) j ≡ slice_index last t = ap (slice_index (before ++ slice_index last t ∷ [])) same ∙ newest in
        let to_t : slice_index to i ≡ t = e ∙ (ap (slice_index to) same ∙ sym target) in
        let g = was.last_greatest i (omega (arith, l, same)) in
        let w : slice_index last (slice_index to i) ≡ slice_index last t = ap (slice_index last) to_t in
        omega (arith, v, g, w)
  ]

  pub one_relation : IsIncoming n to (k + 1) (set last t (k + 1)) (before ++ slice_index last t ∷ [])
  one_relation = record {
    nodes_all = length-set last t (k + 1) ∙ was.nodes_all;
    relations_all = length-append before (slice_index last t ∷ []) ∙ omega (arith, was.relations_all);
    last_in = last_in_now;
    last_to = last_to_now;
    last_greatest = last_greatest_now;
    before_in = before_in_now;
    before_to = before_to_now;
    before_greatest = before_greatest_now;
  }
