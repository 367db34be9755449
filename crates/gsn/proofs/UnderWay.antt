-- The way to the least set: how it begins, what a node that is taken changes, what a credited relation changes, and how it ends.
use Rattle.std.proofs.Common.{◌≡◌, ℕ, zero, suc, ◌+◌, ◌-◌, ◌≤◌, ◌<◌, ◌⊎◌, inl, inr, Bool, true, false, not, List, [], ◌∷◌, ◌++◌, Some, length, get_or, set, refl, sym, ap, ◌∙◌, subst, arith}
use Rattle.std.specs.Prelude.{◌&&◌, ◌||◌, ◌==◌, nat_le, slice_index, if◌then◌else◌, replicate}
use Rattle.std.specs.List.{slice_get}
use Rattle.std.proofs.lemmas.Bool.{false≢true, and_parts, and_from, and_right, cases_Bool, cases_eq, cases_lt, eq-eqb, ne_eqb, eqb-true, le-leb, lt-leb, both_ways}
use Rattle.std.proofs.lemmas.List.{get_or-set_same, get_or-set_other, get_or-replicate, get_or_past, get_or_read, length-set, length-replicate}
use Rattle.gsn.specs.declared.case.CRel.{CRel}
use Rattle.gsn.specs.Incoming.{targets, IsIncoming}
use Rattle.gsn.specs.Marks.{one_for, gains, supports_node, is_supporting, is_in, leads_into, leads_into_from, Waits, AllBelow, IsClosed, IsForced, IsLeastClosed, IsMet, IsUnderWay, IsCredited}
use Rattle.gsn.proofs.Tallies.{tally_same, tally_none, tally_more, tally_grows, target_at, place_in}

-- ---- lists of nodes that wait

pub waits_front : (x : ℕ) (xs ys : List ℕ) → Waits x xs → Waits x (xs ++ ys)
waits_front x [] ys w = absurd w
waits_front x (z ∷ xs) ys (inl e) = inl e
waits_front x (z ∷ xs) ys (inr w) = inr (waits_front x xs ys w)

pub waits_end : (x : ℕ) (xs : List ℕ) → Waits x (xs ++ x ∷ [])
waits_end x [] = inl refl
waits_end x (z ∷ xs) = inr (waits_end x xs)

pub waits_parts : (x y : ℕ) (xs : List ℕ) → Waits x (xs ++ y ∷ []) → Waits x xs ⊎ (x ≡ y)
waits_parts x y [] (inl e) = inr e
waits_parts x y [] (inr w) = absurd w
waits_parts x y (z ∷ xs) (inl e) = inl (inl e)
waits_parts x y (z ∷ xs) (inr w) = elim (waits_parts x y xs w) [ inl v ↦ inl (inr v) | inr e ↦ inr e ]

waits_more : (b : Bool) (x y : ℕ) (xs : List ℕ) → Waits x xs → Waits x (if b then xs ++ y ∷ [] else xs)
waits_more true x y xs w = waits_front x xs (y ∷ []) w
waits_more false x y xs w = w

waits_new : (b : Bool) (y : ℕ) (xs : List ℕ) → b ≡ true → Waits y (if b then xs ++ y ∷ [] else xs)
waits_new true y xs e = waits_end y xs
waits_new false y xs e = absurd (false≢true e)

waits_either : (b : Bool) (x y : ℕ) (xs : List ℕ) → Waits x (if b then xs ++ y ∷ [] else xs) → Waits x xs ⊎ ((b ≡ true) × (x ≡ y))
waits_either true x y xs w = elim (waits_parts x y xs w) [ inl v ↦ inl v | inr e ↦ inr (refl, e) ]
waits_either false x y xs w = inl w

-- ---- what a read of the marks tells

pub was_in : (marked : List Bool) (y : ℕ) (b c : Bool) → y < length marked → b ≡ get_or marked y b → b ≡ c → is_in marked y ≡ c
was_in marked y b c l read e = sym (get_or_read marked y b l read false) ∙ e

-- ---- forced nodes

pub and_grows : (a b c : Bool) → (b ≡ true → c ≡ true) → (a && b) ≡ true → (a && c) ≡ true
and_grows a b c h e = and_from a c (and_parts a b e).0 (h (and_parts a b e).1)

module _ (rs : List CRel) (needed start : List ℕ) where
  start_forced : (x : ℕ) → Waits x start → IsForced rs needed start x
  unfolding IsForced
  start_forced x w inside closed = closed.starts x w

  pub forced_in : (inside : List Bool) → IsClosed rs needed start inside → (x : ℕ) → IsForced rs needed start x → is_in inside x ≡ true
  unfolding IsForced
  forced_in inside closed x f = f inside closed

  gains_forced : (marked : List Bool) (test : ℕ → CRel → Bool) (x : ℕ) → 0 < slice_index needed x → slice_index needed x ≤ gains test rs x
      → ((k : ℕ) (r : CRel) → slice_get rs k ≡ Some r → test k r ≡ true → is_in marked r.to ≡ true)
      → ((y : ℕ) → is_in marked y ≡ true → IsForced rs needed start y) → IsForced rs needed start x
  unfolding IsForced
  gains_forced marked test x some enough marks forced inside closed =
      let grows : gains test rs x ≤ gains (leads_into inside) rs x =
      tally_grows (λ k r. supports_node x r && test k r) (λ k r. supports_node x r && leads_into inside k r) rs
      (λ k r at. and_grows (supports_node x r) (test k r) (is_in inside r.to) (λ e. forced r.to (marks k r at e) inside closed)) in
      closed.gathers x some (omega (arith, enough, grows))

-- ---- one relation more is credited

and_same : (a b c : Bool) → (a ≡ true → b ≡ c) → (a && b) ≡ (a && c)
and_same true b c h = h refl
and_same false b c h = refl

gains_more : (test test' : ℕ → CRel → Bool) (rs : List CRel) (k : ℕ) (r : CRel) → slice_get rs k ≡ Some r → test k r ≡ false → test' k r ≡ true
    → ((i : ℕ) (s : CRel) → slice_get rs i ≡ Some s → (i ≡ k → ⊥) → test i s ≡ test' i s)
    → (x : ℕ) → gains test' rs x ≡ gains test rs x + one_for (supports_node x r)
gains_more test test' rs k r at off on other x = elim (cases_Bool (supports_node x r)) [
  | inl yes' ↦ plus_one (supports_node x r) (gains test rs x) (gains test' rs x) yes' (tally_more (λ i s. supports_node x s && test i s) (λ i s. supports_node x s && test' i s) rs k r at
      (and_right (supports_node x r) (test k r) off) (and_from (supports_node x r) (test' k r) yes' on) (λ i s p ne. ap (λ b. supports_node x s && b) (other i s p ne)))
  | inr no' ↦ plus_none (supports_node x r) (gains test rs x) (gains test' rs x) no' (tally_same (λ i s. supports_node x s && test i s) (λ i s. supports_node x s && test' i s) rs
      (λ i s p. elim (cases_eq i k) [
        | inl e ↦ same_off (supports_node x s) (test i s) (test' i s) (ap (supports_node x) (same_one i s p e) ∙ no')
        | inr ne ↦ ap (λ b. supports_node x s && b) (other i s p ne)
      ]))
]
  where
    plus_one : (b : Bool) (m n : ℕ) → b ≡ true → n ≡ suc m → n ≡ m + one_for b
    plus_one true m n e z = omega (arith, z)
    plus_one false m n e z = absurd (false≢true e)

    plus_none : (b : Bool) (m n : ℕ) → b ≡ false → m ≡ n → n ≡ m + one_for b
    plus_none true m n e z = absurd (false≢true (sym e))
    plus_none false m n e z = omega (arith, z)

    same_off : (a b c : Bool) → a ≡ false → (a && b) ≡ (a && c)
    same_off true b c e = absurd (false≢true (sym e))
    same_off false b c e = refl

    same_one : (i : ℕ) (s : CRel) → slice_get rs i ≡ Some s → i ≡ k → s ≡ r
    same_one i s p e = let q : slice_get rs k ≡ Some s = ap (slice_get rs) (sym e) ∙ p in cc

supports_parts : (x : ℕ) (r : CRel) → supports_node x r ≡ true → (r.from ≡ x) × (is_supporting r ≡ true)
supports_parts x r e = (eqb-true r.from x (and_parts (r.from == x) (is_supporting r) e).0, (and_parts (r.from == x) (is_supporting r) e).1)

one_means : (b : Bool) (m n : ℕ) → n ≡ m - one_for b → 0 < m → n ≡ 0 → (b ≡ true) × (m ≡ 1)
one_means true m n e p z = (refl, omega (arith, e, p, z))
one_means false m n e p z = absurd (omega (arith, e, p, z))

module _ (rs : List CRel) (needed start : List ℕ) (test test' : ℕ → CRel → Bool) (marked : List Bool) (missing pending missing' pending' : List ℕ)
    (k : ℕ) (r : CRel) (at : slice_get rs k ≡ Some r) (off : test k r ≡ false) (on : test' k r ≡ true)
    (other : (i : ℕ) (s : CRel) → slice_get rs i ≡ Some s → (i ≡ k → ⊥) → test i s ≡ test' i s)
    (marks : (i : ℕ) (s : CRel) → slice_get rs i ≡ Some s → test' i s ≡ true → is_in marked s.to ≡ true)
    (source : r.from < length needed) (sized : length missing' ≡ length missing)
    (was : IsUnderWay rs needed start test marked missing pending) (by : IsCredited r missing pending missing' pending') where
  more : (x : ℕ) → gains test' rs x ≡ gains test rs x + one_for (supports_node x r)
  more x = gains_more test test' rs k r at off on other x

  still_met : (x : ℕ) → IsMet marked pending x → IsMet marked pending' x
  still_met x (inl e) = inl e
  still_met x (inr w) = inr (subst (Waits x) (sym by.waiting) (waits_more (is_supporting r && (slice_index missing r.from == 1)) x r.from pending w))

  newly_met : (x : ℕ) → (supports_node x r ≡ true) × (slice_index missing x ≡ 1) → IsMet marked pending' x
  newly_met x h =
      let s = supports_parts x r h.0 in
      let one : slice_index missing r.from ≡ 1 = ap (slice_index missing) s.0 ∙ h.1 in
      inr (subst (Waits x) (sym by.waiting) (subst (λ y. Waits y (if is_supporting r && (slice_index missing r.from == 1) then pending ++ r.from ∷ [] else pending)) s.0
      (waits_new (is_supporting r && (slice_index missing r.from == 1)) r.from pending (and_from (is_supporting r) (slice_index missing r.from == 1) s.1 (eq-eqb (slice_index missing r.from) 1 one)))))

  met : (x : ℕ) → 0 < slice_index needed x → slice_index missing' x ≡ 0 → IsMet marked pending' x
  met x some none = elim (cases_eq (slice_index missing x) 0) [
    | inl z ↦ still_met x (was.need_met x some z)
    | inr nz ↦ newly_met x (one_means (supports_node x r) (slice_index missing x) (slice_index missing' x) (by.falls x) (positive (slice_index missing x) nz) none)
  ]
    where
      positive : (n : ℕ) → (n ≡ 0 → ⊥) → 0 < n
      positive zero h = absurd (h refl)
      positive (suc n) h = omega arith

  source_forced : (is_supporting r && (slice_index missing r.from == 1)) ≡ true → IsForced rs needed start r.from
  source_forced e =
      let parts = and_parts (is_supporting r) (slice_index missing r.from == 1) e in
      let one : slice_index missing r.from ≡ 1 = eqb-true (slice_index missing r.from) 1 parts.1 in
      let supports : supports_node r.from r ≡ true = and_from (r.from == r.from) (is_supporting r) (eq-eqb r.from r.from refl) parts.0 in
      let gained : gains test' rs r.from ≡ gains test rs r.from + 1 = more r.from ∙ ap (λ b. gains test rs r.from + one_for b) supports in
      let left = was.left r.from in
      gains_forced rs needed start marked test' r.from (omega (arith, one, left)) (omega (arith, one, left, gained)) marks was.marked_forced

  waiting_in : (x : ℕ) → Waits x pending' → Waits x pending ⊎ (((is_supporting r && (slice_index missing r.from == 1)) ≡ true) × (x ≡ r.from))
  waiting_in x w = waits_either (is_supporting r && (slice_index missing r.from == 1)) x r.from pending (subst (Waits x) by.waiting w)

  pub credited : IsUnderWay rs needed start test' marked missing' pending'
  credited = record {
    missing_all = sized ∙ was.missing_all;
    marked_all = was.marked_all;
    left = λ x. let a = by.falls x in let b = was.left x in let c = more x in omega (arith, a, b, c);
    start_met = λ x w. still_met x (was.start_met x w);
    need_met = met;
    pending_in = λ x w. elim (waiting_in x w) [ inl v ↦ was.pending_in x v | inr h ↦ subst (λ y. y < length needed) (sym h.1) source ];
    pending_forced = λ x w. elim (waiting_in x w) [ inl v ↦ was.pending_forced x v | inr h ↦ subst (IsForced rs needed start) (sym h.1) (source_forced h.0) ];
    marked_forced = was.marked_forced;
  }

-- ---- the beginning and the end

nowhere : (n x : ℕ) → is_in (replicate n false) x ≡ false
nowhere n x = elim (cases_lt x n) [
  | inl l ↦ get_or-replicate n x false false l
  | inr l ↦ get_or_past (replicate n false) x false (omega (arith, l, simp_length n))
]
  where
    simp_length : (n : ℕ) → length (replicate n false) ≡ n
    simp_length n = length-replicate n false

pub begun : (rs : List CRel) (needed start : List ℕ) → AllBelow (length needed) start
    → IsUnderWay rs needed start (leads_into (replicate (length needed) false)) (replicate (length needed) false) needed start
begun rs needed start below = record {
  missing_all = refl;
  marked_all = length-replicate (length needed) false;
  left = λ x. let none : gains (leads_into (replicate (length needed) false)) rs x ≡ 0 =
      tally_none (λ k r. supports_node x r && leads_into (replicate (length needed) false) k r) rs
      (λ k r at. and_right (supports_node x r) (is_in (replicate (length needed) false) r.to) (nowhere (length needed) r.to)) in omega (arith, none);
  start_met = λ x w. inr w;
  need_met = λ x some none. absurd (omega (arith, some, none));
  pending_in = below;
  pending_forced = start_forced rs needed start;
  marked_forced = λ x e. absurd (both_ways (is_in (replicate (length needed) false) x) (nowhere (length needed) x) e);
}

pub ended : (rs : List CRel) (needed start : List ℕ) (marked : List Bool) (missing : List ℕ)
    → IsUnderWay rs needed start (leads_into marked) marked missing [] → IsLeastClosed rs needed start marked
ended rs needed start marked missing u = record {
  nodes_all = u.marked_all;
  closed = record {
    starts = λ x w. only x (u.start_met x w);
    gathers = λ x some enough. let l = u.left x in only x (u.need_met x some (omega (arith, enough, l)));
  };
  forced = u.marked_forced;
}
  where
    only : (x : ℕ) → IsMet marked [] x → is_in marked x ≡ true
    only x (inl e) = e
    only x (inr w) = absurd w

-- ---- a node is taken from those that wait

module _ (rs : List CRel) (needed start : List ℕ) (marked : List Bool) (missing rest : List ℕ) (y : ℕ)
    (was : IsUnderWay rs needed start (leads_into marked) marked missing (rest ++ y ∷ [])) where
  fewer_in : (x : ℕ) → Waits x rest → x < length needed
  fewer_in x w = was.pending_in x (waits_front x rest (y ∷ []) w)

  fewer_forced : (x : ℕ) → Waits x rest → IsForced rs needed start x
  fewer_forced x w = was.pending_forced x (waits_front x rest (y ∷ []) w)

  passed_met : is_in marked y ≡ true → (x : ℕ) → IsMet marked (rest ++ y ∷ []) x → IsMet marked rest x
  passed_met there x (inl e) = inl e
  passed_met there x (inr w) = elim (waits_parts x y rest w) [ inl v ↦ inr v | inr e ↦ inl (ap (is_in marked) e ∙ there) ]

  pub passed : is_in marked y ≡ true → IsUnderWay rs needed start (leads_into marked) marked missing rest
  passed there = record {
    missing_all = was.missing_all;
    marked_all = was.marked_all;
    left = was.left;
    start_met = λ x w. passed_met there x (was.start_met x w);
    need_met = λ x some none. passed_met there x (was.need_met x some none);
    pending_in = fewer_in;
    pending_forced = fewer_forced;
    marked_forced = was.marked_forced;
  }

  y_in : y < length marked
  y_in = let b = was.pending_in y (waits_end y rest) in omega (arith, b, was.marked_all)

  in_now : is_in (set marked y true) y ≡ true
  in_now = get_or-set_same marked y true false y_in

  pub now_in : is_in (set marked y true) y ≡ true
  now_in = in_now

  in_before : (x : ℕ) → (x ≡ y → ⊥) → is_in (set marked y true) x ≡ is_in marked x
  in_before x ne = get_or-set_other marked y x true false ne

  marked_met : (x : ℕ) → IsMet marked (rest ++ y ∷ []) x → IsMet (set marked y true) rest x
  marked_met x h = elim (cases_eq x y) [
    | inl e ↦ inl (ap (is_in (set marked y true)) e ∙ in_now)
    | inr ne ↦ other h ne
  ]
    where
      other : IsMet marked (rest ++ y ∷ []) x → (x ≡ y → ⊥) → IsMet (set marked y true) rest x
      other (inl e) ne = inl (in_before x ne ∙ e)
      other (inr w) ne = elim (waits_parts x y rest w) [ inl v ↦ inr v | inr e ↦ absurd (ne e) ]

  now_forced : (x : ℕ) → is_in (set marked y true) x ≡ true → IsForced rs needed start x
  now_forced x e = elim (cases_eq x y) [
    | inl same ↦ subst (IsForced rs needed start) (sym same) (was.pending_forced y (waits_end y rest))
    | inr ne ↦ was.marked_forced x (sym (in_before x ne) ∙ e)
  ]

  module _ (last before : List ℕ) (chains : IsIncoming (length needed) (targets rs) (length rs) last before) (away : is_in marked y ≡ false) where
    same_test : (k : ℕ) (r : CRel) → slice_get rs k ≡ Some r → leads_into marked k r ≡ leads_into_from (set marked y true) y (slice_index last y) k r
    same_test k r at = elim (cases_eq r.to y) [
      | inl e ↦ (ap (is_in marked) e ∙ away) ∙ sym (and_right (is_in (set marked y true) r.to) (not (r.to == y) || nat_le (slice_index last y) k) (late e))
      | inr ne ↦ sym (in_before r.to ne) ∙ sym (kept (is_in (set marked y true) r.to) (r.to == y) (nat_le (slice_index last y) k) (ne_eqb r.to y ne))
    ]
      where
        kept : (a b c : Bool) → b ≡ false → (a && (not b || c)) ≡ a
        kept a true c e = absurd (false≢true (sym e))
        kept true false c e = refl
        kept false false c e = refl

        neither : (b c : Bool) → b ≡ true → c ≡ false → (not b || c) ≡ false
        neither true c e h = h
        neither false c e h = absurd (false≢true e)

        late : r.to ≡ y → (not (r.to == y) || nat_le (slice_index last y) k) ≡ false
        late e =
            let l = chains.last_greatest k (place_in rs k r at) in
            let same : slice_index last (slice_index (targets rs) k) ≡ slice_index last y = ap (slice_index last) (target_at rs k r at ∙ e) in
            neither (r.to == y) (nat_le (slice_index last y) k) (eq-eqb r.to y e) (lt-leb (slice_index last y) k (omega (arith, l, same)))

    pub opened : IsUnderWay rs needed start (leads_into_from (set marked y true) y (slice_index last y)) (set marked y true) missing rest
    opened = record {
      missing_all = was.missing_all;
      marked_all = length-set marked y true ∙ was.marked_all;
      left = λ x. was.left x ∙ ap (λ n. slice_index needed x - n) (tally_same (λ k r. supports_node x r && leads_into marked k r)
          (λ k r. supports_node x r && leads_into_from (set marked y true) y (slice_index last y) k r) rs (λ k r at. ap (λ b. supports_node x r && b) (same_test k r at)));
      start_met = λ x w. marked_met x (was.start_met x w);
      need_met = λ x some none. marked_met x (was.need_met x some none);
      pending_in = fewer_in;
      pending_forced = fewer_forced;
      marked_forced = now_forced;
    }

-- ---- along a chain

module _ (rs : List CRel) (n : ℕ) (last before : List ℕ) (chains : IsIncoming n (targets rs) (length rs) last before) (marked : List Bool) (node k : ℕ) (r : CRel)
    (at : slice_get rs k ≡ Some r) (here : slice_index (targets rs) k ≡ node) where
  to_node : r.to ≡ node
  to_node = sym (target_at rs k r at) ∙ here

  pub link_off : leads_into_from marked node (k + 1) k r ≡ false
  link_off = and_right (is_in marked r.to) (not (r.to == node) || nat_le (k + 1) k) (neither (r.to == node) (nat_le (k + 1) k) (eq-eqb r.to node to_node) (lt-leb (k + 1) k (omega arith)))
    where
      neither : (b c : Bool) → b ≡ true → c ≡ false → (not b || c) ≡ false
      neither true c e h = h
      neither false c e h = absurd (false≢true e)

  pub link_on : is_in marked node ≡ true → leads_into_from marked node (slice_index before k) k r ≡ true
  link_on there = and_from (is_in marked r.to) (not (r.to == node) || nat_le (slice_index before k) k) (ap (is_in marked) to_node ∙ there)
      (second (not (r.to == node)) (nat_le (slice_index before k) k) (le-leb (slice_index before k) k (chains.before_in k)))
    where
      second : (a b : Bool) → b ≡ true → (a || b) ≡ true
      second true b e = refl
      second false b e = e

  pub link_other : (i : ℕ) (s : CRel) → slice_get rs i ≡ Some s → (i ≡ k → ⊥) → leads_into_from marked node (k + 1) i s ≡ leads_into_from marked node (slice_index before k) i s
  link_other i s p ne = ap (λ b. is_in marked s.to && b) (same (s.to == node) (nat_le (k + 1) i) (nat_le (slice_index before k) i) (λ e. turn (eqb-true s.to node e)))
    where
      same : (a b c : Bool) → (a ≡ true → b ≡ c) → (not a || b) ≡ (not a || c)
      same true b c h = h refl
      same false b c h = refl

      turn : s.to ≡ node → nat_le (k + 1) i ≡ nat_le (slice_index before k) i
      turn e = elim (cases_lt i k) [
        | inl l ↦
            let g = chains.before_greatest i k l (place_in rs k r at) (target_at rs i s p ∙ (e ∙ sym here)) in
            lt-leb (k + 1) i (omega (arith, l)) ∙ sym (lt-leb (slice_index before k) i (omega (arith, g)))
        | inr l ↦
            let g = chains.before_in k in
            let above : k < i = omega (arith, l, ne) in
            le-leb (k + 1) i (omega (arith, above)) ∙ sym (le-leb (slice_index before k) i (omega (arith, g, above)))
      ]

  pub link_marks : (place : ℕ) (i : ℕ) (s : CRel) → slice_get rs i ≡ Some s → leads_into_from marked node place i s ≡ true → is_in marked s.to ≡ true
  link_marks place i s p e = (and_parts (is_in marked s.to) (not (s.to == node) || nat_le place i) e).0

-- at the end of the chain each relation into the set has been credited
pub all_credited : (rs : List CRel) (needed start : List ℕ) (marked : List Bool) (node : ℕ) (missing pending : List ℕ)
    → IsUnderWay rs needed start (leads_into_from marked node 0) marked missing pending → IsUnderWay rs needed start (leads_into marked) marked missing pending
all_credited rs needed start marked node missing pending u = record {
  missing_all = u.missing_all;
  marked_all = u.marked_all;
  left = λ x. u.left x ∙ ap (λ n. slice_index needed x - n) (tally_same (λ k r. supports_node x r && leads_into_from marked node 0 k r)
      (λ k r. supports_node x r && leads_into marked k r) rs (λ k r at. ap (λ b. supports_node x r && b) (all (is_in marked r.to) (not (r.to == node)) (nat_le 0 k) (le-leb 0 k (omega arith)))));
  start_met = u.start_met;
  need_met = u.need_met;
  pending_in = u.pending_in;
  pending_forced = u.pending_forced;
  marked_forced = u.marked_forced;
}
  where
    all : (a b c : Bool) → c ≡ true → (a && (b || c)) ≡ a
    all true true c e = refl
    all true false c e = e
    all false b c e = refl
