-- The least closed set is the least set of the definitions: of refuted nodes, and of supported ones.
use Rattle.std.proofs.Common.{◌≡◌, ℕ, zero, suc, ◌+◌, ◌≤◌, ◌<◌, ◌⊎◌, inl, inr, Bool, true, false, not, List, [], ◌∷◌, Some, map, length, refl, sym, ap, ◌∙◌, subst, arith}
use Rattle.std.specs.Prelude.{◌&&◌, ◌==◌, slice_index, filter, if◌then◌else◌}
use Rattle.std.specs.List.{slice_get, list_any, list_all, enumerate_from, range_with_len}
use Rattle.std.proofs.lemmas.Bool.{false≢true, and_parts, and_from, or_cases, or_left, or_right, cases_Bool, cases_lt, both_ways}
use Rattle.std.proofs.lemmas.List.{same_lists, get_or_default, get_or_past}
use Rattle.std.proofs.Math.ListN.{get_or-map}
use Rattle.meaning.specs.Texts.{holds_at, numbered}
use Rattle.meaning.specs.Cases as plain
use Rattle.meaning.proofs.StatusLaws.{statuses_are_least}
use Rattle.gsn.specs.declared.case.CNode.{CNode}
use Rattle.gsn.specs.declared.case.CRel.{CRel}
use Rattle.gsn.specs.View.{kind_of, node_of, relation_of}
use Rattle.gsn.specs.Marks.{one_for, gains, total, supports_node, is_in, leads_into, IsClosed, IsLeastClosed, IsPlaces, AllBelow}
use Rattle.gsn.proofs.Tallies.{tally_grows}
use Rattle.gsn.proofs.UnderWay.{forced_in, and_grows}

-- ---- marks at places

pub holds_is : (set : List Bool) (x : ℕ) → holds_at set x ≡ is_in set x
holds_is [] x = refl
holds_is (b ∷ bs) zero = refl
holds_is (b ∷ bs) (suc x) = holds_is bs x

in_range : (set : List Bool) (x : ℕ) → is_in set x ≡ true → x < length set
in_range set x e = elim (cases_lt x (length set)) [
  | inl l ↦ l
  | inr l ↦ absurd (both_ways (is_in set x) (get_or_past set x false l) e)
]

same_marks : (a b : Bool) → (a ≡ true → b ≡ true) → (b ≡ true → a ≡ true) → a ≡ b
same_marks true true f g = refl
same_marks true false f g = absurd (false≢true (f refl))
same_marks false true f g = absurd (false≢true (g refl))
same_marks false false f g = refl

same_sets : (xs ys : List Bool) → length xs ≡ length ys → ((x : ℕ) → is_in xs x ≡ true → is_in ys x ≡ true) → ((x : ℕ) → is_in ys x ≡ true → is_in xs x ≡ true) → xs ≡ ys
same_sets xs ys e f g = same_lists xs ys e (λ k d l.
    let m : k < length ys = omega (arith, l, e) in
    get_or_default xs k d false l ∙ (same_marks (is_in xs k) (is_in ys k) (f k) (g k) ∙ get_or_default ys k false d m))

at_numbered : (g : ℕ × plain.Node → Bool) (xs : List plain.Node) (k x i : ℕ) (n : plain.Node) → i ≡ k + x → slice_get xs x ≡ Some n
    → holds_at (map g (enumerate_from k xs)) x ≡ g (i, n)
at_numbered g [] k x i n e at = cc
at_numbered g (y ∷ ys) k zero i n e at = let s : k ≡ i = omega (arith, e) in let t : y ≡ n = cc in ap (λ j. g (j, y)) s ∙ ap (λ z. g (i, z)) t
at_numbered g (y ∷ ys) k (suc x) i n e at = at_numbered g ys (k + 1) x i n (omega (arith, e)) at

there_numbered : (g : ℕ × plain.Node → Bool) (xs : List plain.Node) (k x : ℕ) → holds_at (map g (enumerate_from k xs)) x ≡ true
    → (n : plain.Node) × (slice_get xs x ≡ Some n)
there_numbered g [] k x e = absurd (false≢true e)
there_numbered g (y ∷ ys) k zero e = (y, refl)
there_numbered g (y ∷ ys) k (suc x) e = there_numbered g ys (k + 1) x e

length_numbered : (g : ℕ × plain.Node → Bool) (xs : List plain.Node) (k : ℕ) → length (map g (enumerate_from k xs)) ≡ length xs
length_numbered g [] k = refl
length_numbered g (y ∷ ys) k = ap suc (length_numbered g ys (k + 1))

at_node : (f : plain.Node → Bool) (ns : List CNode) (x : ℕ) (n : plain.Node) → slice_get (map node_of ns) x ≡ Some n → is_in (map (λ m. f (node_of m)) ns) x ≡ f n
at_node f [] x n at = cc
at_node f (m ∷ ms) zero n at = let t : node_of m ≡ n = cc in ap f t
at_node f (m ∷ ms) (suc x) n at = at_node f ms x n at

there_node : (ns : List CNode) (x : ℕ) → x < length ns → (n : plain.Node) × (slice_get (map node_of ns) x ≡ Some n)
there_node [] x l = absurd (omega (arith, l))
there_node (m ∷ ms) zero l = (node_of m, refl)
there_node (m ∷ ms) (suc x) l = there_node ms x (omega (arith, l))

node_in : (ns : List CNode) (x : ℕ) (n : plain.Node) → slice_get (map node_of ns) x ≡ Some n → x < length ns
node_in [] x n at = cc
node_in (m ∷ ms) zero n at = omega arith
node_in (m ∷ ms) (suc x) n at = omega (arith, node_in ms x n at)

first_is : (f : plain.Node → Bool) (ns : List CNode) → map f (map node_of ns) ≡ map (λ m. f (node_of m)) ns
first_is f [] = refl
first_is f (m ∷ ms) = ap (λ xs. f (node_of m) ∷ xs) (first_is f ms)

length_nodes : (ns : List CNode) → length (map node_of ns) ≡ length ns
length_nodes [] = refl
length_nodes (m ∷ ms) = ap suc (length_nodes ms)

length_firsts : (f : plain.Node → Bool) (ns : List CNode) → length (map (λ m. f (node_of m)) ns) ≡ length ns
length_firsts f [] = refl
length_firsts f (m ∷ ms) = ap suc (length_firsts f ms)

-- ---- a set by rounds is the least closed set

module _ (ns : List CNode) (rs : List CRel) (needed start : List ℕ) (marked : List Bool) (first : plain.Node → Bool) (joins : List Bool → ℕ × plain.Node → Bool)
    (rounds : ℕ → List Bool) (begins : rounds zero ≡ map first (map node_of ns)) (goes : (n : ℕ) → rounds (suc n) ≡ map (joins (rounds n)) (numbered (map node_of ns)))
    (set : List Bool) (is_round : (n : ℕ) × (set ≡ rounds n)) (fixed : map (joins set) (numbered (map node_of ns)) ≡ set)
    (size : length needed ≡ length ns)
    (link : (inside : List Bool) (x : ℕ) (n : plain.Node) → slice_get (map node_of ns) x ≡ Some n → joins inside (x, n) ≡ true
    → (first n ≡ true) ⊎ ((0 < slice_index needed x) × (slice_index needed x ≤ gains (leads_into inside) rs x)))
    (first_link : (inside : List Bool) (x : ℕ) (n : plain.Node) → first n ≡ true → joins inside (x, n) ≡ true)
    (need_link : (inside : List Bool) (x : ℕ) (n : plain.Node) → slice_get (map node_of ns) x ≡ Some n
    → 0 < slice_index needed x → slice_index needed x ≤ gains (leads_into inside) rs x → joins inside (x, n) ≡ true)
    (starts : IsPlaces (map (λ m. first (node_of m)) ns) (length ns) start)
    (least : IsLeastClosed rs needed start marked) where
  start_marked : (x : ℕ) (n : plain.Node) → slice_get (map node_of ns) x ≡ Some n → first n ≡ true → is_in marked x ≡ true
  start_marked x n at e = least.closed.starts x (starts.all x (node_in ns x n at) (at_node first ns x n at ∙ e))

  within_more : (inside : List Bool) → ((x : ℕ) → is_in inside x ≡ true → is_in marked x ≡ true) → (x : ℕ) → gains (leads_into inside) rs x ≤ gains (leads_into marked) rs x
  within_more inside h x = tally_grows (λ k r. supports_node x r && leads_into inside k r) (λ k r. supports_node x r && leads_into marked k r) rs
      (λ k r at. and_grows (supports_node x r) (is_in inside r.to) (is_in marked r.to) (h r.to))

  joined : (inside : List Bool) → ((x : ℕ) → is_in inside x ≡ true → is_in marked x ≡ true) → (x : ℕ)
      → holds_at (map (joins inside) (numbered (map node_of ns))) x ≡ true → is_in marked x ≡ true
  joined inside h x e =
      let there = there_numbered (joins inside) (map node_of ns) 0 x e in
      let test : joins inside (x, there.0) ≡ true = sym (at_numbered (joins inside) (map node_of ns) 0 x x there.0 (omega arith) there.1) ∙ e in
      elim (link inside x there.0 there.1 test) [
        | inl f ↦ start_marked x there.0 there.1 f
        | inr g ↦ let m = within_more inside h x in least.closed.gathers x g.0 (omega (arith, g.1, m))
      ]

  rounds_in : (n : ℕ) (x : ℕ) → is_in (rounds n) x ≡ true → is_in marked x ≡ true
  rounds_in zero x e =
      let flags : is_in (map (λ m. first (node_of m)) ns) x ≡ true = ap (λ xs. is_in xs x) (sym (begins ∙ first_is first ns)) ∙ e in
      let l : x < length ns = subst (λ k. x < k) (length_firsts first ns) (in_range (map (λ m. first (node_of m)) ns) x flags) in
      least.closed.starts x (starts.all x l flags)
  rounds_in (suc n) x e =
      joined (rounds n) (rounds_in n) x (ap (λ xs. holds_at xs x) (sym (goes n)) ∙ (holds_is (rounds (suc n)) x ∙ e))

  fixed_at : (x : ℕ) (n : plain.Node) → slice_get (map node_of ns) x ≡ Some n → joins set (x, n) ≡ true → is_in set x ≡ true
  fixed_at x n at e =
      sym (holds_is set x) ∙ (ap (λ xs. holds_at xs x) (sym fixed) ∙ (at_numbered (joins set) (map node_of ns) 0 x x n (omega arith) at ∙ e))

  set_closed : IsClosed rs needed start set
  set_closed = record {
    starts = λ x w.
        let there = there_node ns x (starts.below x w) in
        fixed_at x there.0 there.1 (first_link set x there.0 (sym (at_node first ns x there.0 there.1) ∙ starts.only x w));
    gathers = λ x some enough.
        let there = there_node ns x (subst (λ k. x < k) size (needs_in needed x some)) in
        fixed_at x there.0 there.1 (need_link set x there.0 there.1 some enough);
  }
    where
      needs_in : (xs : List ℕ) (x : ℕ) → 0 < slice_index xs x → x < length xs
      needs_in xs x h = elim (cases_lt x (length xs)) [
        | inl l ↦ l
        | inr l ↦ let z : slice_index xs x ≡ 0 = get_or_past xs x 0 l in absurd (omega (arith, h, z))
      ]

  pub marked_is : marked ≡ set
  marked_is = same_sets marked set
      (least.nodes_all ∙ (size ∙ (sym (length_nodes ns) ∙ (sym (length_numbered (joins set) (map node_of ns) 0) ∙ ap length fixed))))
      (λ x e. forced_in rs needed start set set_closed x (least.forced x e))
      (λ x e. rounds_in is_round.0 x (ap (λ xs. is_in xs x) (sym is_round.1) ∙ e))

-- ---- supports of a node, in the words of the definitions

abbrev supported_by : ℕ → List CRel → List ℕ
supported_by x rs = map (λ r. r.target) (filter (λ r. (r.source == x) && plain.is_support r.kind) (map relation_of rs))

any_to : (set : List Bool) (x : ℕ) (rs : List CRel) → list_any (holds_at set) (supported_by x rs) ≡ true → 1 ≤ gains (leads_into set) rs x
any_to set x [] e = absurd (false≢true e)
any_to set x (r ∷ rs) e = go (supports_node x r) (any_to set x rs) e
  where
    one : (b : Bool) (n : ℕ) → b ≡ true → 1 ≤ one_for b + n
    one true n e = omega arith
    one false n e = absurd (false≢true e)

    go : (b : Bool) → (list_any (holds_at set) (supported_by x rs) ≡ true → 1 ≤ gains (leads_into set) rs x) → list_any (holds_at set) (map (λ s. s.target) (if b then relation_of r ∷ filter (λ s. (s.source == x) && plain.is_support s.kind) (map relation_of rs)
        else filter (λ s. (s.source == x) && plain.is_support s.kind) (map relation_of rs))) ≡ true → 1 ≤ one_for (b && is_in set r.to) + gains (leads_into set) rs x
    go false later e = let h = later e in omega (arith, h)
    go true later e = elim (or_cases (holds_at set r.to) (list_any (holds_at set) (supported_by x rs)) e) [
      | inl f ↦ one (is_in set r.to) (gains (leads_into set) rs x) (sym (holds_is set r.to) ∙ f)
      | inr f ↦ let h = later f in omega (arith, h)
    ]

any_from : (set : List Bool) (x : ℕ) (rs : List CRel) → 1 ≤ gains (leads_into set) rs x → list_any (holds_at set) (supported_by x rs) ≡ true
any_from set x [] l = absurd (omega (arith, l))
any_from set x (r ∷ rs) l = go (supports_node x r) (any_from set x rs) l
  where
    none : (b : Bool) (n : ℕ) → b ≡ false → 1 ≤ one_for (true && b) + n → 1 ≤ n
    none true n e l = absurd (false≢true (sym e))
    none false n e l = omega (arith, l)

    go : (b : Bool) → (1 ≤ gains (leads_into set) rs x → list_any (holds_at set) (supported_by x rs) ≡ true) → 1 ≤ one_for (b && is_in set r.to) + gains (leads_into set) rs x
        → list_any (holds_at set) (map (λ s. s.target) (if b then relation_of r ∷ filter (λ s. (s.source == x) && plain.is_support s.kind) (map relation_of rs)
        else filter (λ s. (s.source == x) && plain.is_support s.kind) (map relation_of rs))) ≡ true
    go false later l = later (omega (arith, l))
    go true later l = elim (cases_Bool (is_in set r.to)) [
      | inl e ↦ or_left (holds_at set r.to) (list_any (holds_at set) (supported_by x rs)) (holds_is set r.to ∙ e)
      | inr e ↦ or_right (holds_at set r.to) (list_any (holds_at set) (supported_by x rs))
          (later (none (is_in set r.to) (gains (leads_into set) rs x) e l))
    ]

gains_in : (set : List Bool) (x : ℕ) (rs : List CRel) → gains (leads_into set) rs x ≤ total rs x
gains_in set x rs = tally_grows (λ k r. supports_node x r && leads_into set k r) (λ k r. supports_node x r) rs (λ k r at e. (and_parts (supports_node x r) (is_in set r.to) e).0)

all_to : (set : List Bool) (x : ℕ) (rs : List CRel) → list_all (holds_at set) (supported_by x rs) ≡ true → total rs x ≤ gains (leads_into set) rs x
all_to set x [] e = omega arith
all_to set x (r ∷ rs) e = go (supports_node x r) (all_to set x rs) e
  where
    one : (b : Bool) (m n : ℕ) → b ≡ true → m ≤ n → 1 + m ≤ one_for (true && b) + n
    one true m n e l = omega (arith, l)
    one false m n e l = absurd (false≢true e)

    go : (b : Bool) → (list_all (holds_at set) (supported_by x rs) ≡ true → total rs x ≤ gains (leads_into set) rs x) → list_all (holds_at set) (map (λ s. s.target) (if b then relation_of r ∷ filter (λ s. (s.source == x) && plain.is_support s.kind) (map relation_of rs)
        else filter (λ s. (s.source == x) && plain.is_support s.kind) (map relation_of rs))) ≡ true → one_for b + total rs x ≤ one_for (b && is_in set r.to) + gains (leads_into set) rs x
    go false later e = let h = later e in omega (arith, h)
    go true later e =
        let parts = and_parts (holds_at set r.to) (list_all (holds_at set) (supported_by x rs)) e in
        one (is_in set r.to) (total rs x) (gains (leads_into set) rs x) (sym (holds_is set r.to) ∙ parts.0) (later parts.1)

all_from : (set : List Bool) (x : ℕ) (rs : List CRel) → total rs x ≤ gains (leads_into set) rs x → list_all (holds_at set) (supported_by x rs) ≡ true
all_from set x [] l = refl
all_from set x (r ∷ rs) l = go (supports_node x r) (all_from set x rs) l
  where
    same : (b : Bool) (m n : ℕ) → b ≡ true → 1 + m ≤ one_for (true && b) + n → m ≤ n
    same true m n e l = omega (arith, l)
    same false m n e l = absurd (false≢true e)

    lacks : (b : Bool) (m n : ℕ) → b ≡ false → 1 + m ≤ one_for (true && b) + n → n ≤ m → ⊥
    lacks true m n e l h = false≢true (sym e)
    lacks false m n e l h = omega (arith, l, h)

    go : (b : Bool) → (total rs x ≤ gains (leads_into set) rs x → list_all (holds_at set) (supported_by x rs) ≡ true) → one_for b + total rs x ≤ one_for (b && is_in set r.to) + gains (leads_into set) rs x
        → list_all (holds_at set) (map (λ s. s.target) (if b then relation_of r ∷ filter (λ s. (s.source == x) && plain.is_support s.kind) (map relation_of rs)
        else filter (λ s. (s.source == x) && plain.is_support s.kind) (map relation_of rs))) ≡ true
    go false later l = later (omega (arith, l))
    go true later l = elim (cases_Bool (is_in set r.to)) [
      | inl e ↦ and_from (holds_at set r.to) (list_all (holds_at set) (supported_by x rs)) (holds_is set r.to ∙ e) (later (same (is_in set r.to) (total rs x) (gains (leads_into set) rs x) e l))
      | inr e ↦ absurd (lacks (is_in set r.to) (total rs x) (gains (leads_into set) rs x) e l (gains_in set x rs))
    ]

length_supports : (x : ℕ) (rs : List CRel) → length (supported_by x rs) ≡ total rs x
length_supports x [] = refl
length_supports x (r ∷ rs) = go (supports_node x r) (length_supports x rs)
  where
    go : (b : Bool) → length (supported_by x rs) ≡ total rs x → length (map (λ s. s.target) (if b then relation_of r ∷ filter (λ s. (s.source == x) && plain.is_support s.kind) (map relation_of rs)
        else filter (λ s. (s.source == x) && plain.is_support s.kind) (map relation_of rs))) ≡ one_for b + total rs x
    go true h = omega (arith, h)
    go false h = omega (arith, h)

some_parts : (test : ℕ → Bool) (xs : List ℕ) → plain.some_and_all test xs ≡ true → (0 < length xs) × (list_all test xs ≡ true)
some_parts test [] e = absurd (false≢true e)
some_parts test (x ∷ xs) e = (omega arith, e)

some_from : (test : ℕ → Bool) (xs : List ℕ) → 0 < length xs → list_all test xs ≡ true → plain.some_and_all test xs ≡ true
some_from test [] l e = absurd (omega (arith, l))
some_from test (x ∷ xs) l e = e

-- ---- the two sets

abbrev plain_case : List CNode → List CRel → plain.Case
plain_case ns rs = record { nodes = map node_of ns; relations = map relation_of rs }

-- a node that argues and isn't refuted
abbrev may : List CNode → List CRel → ℕ → plain.Node → Bool
may ns rs x n = plain.argues n.kind && not (holds_at (plain.refuted_nodes (plain_case ns rs)) x)

module _ (ns : List CNode) (rs : List CRel) (arguing : List Bool) (args : arguing ≡ map (λ m. plain.argues (kind_of m.kind)) ns) where
  argues_at : (x : ℕ) (n : plain.Node) → slice_get (map node_of ns) x ≡ Some n → is_in arguing x ≡ plain.argues n.kind
  argues_at x n at = ap (λ xs. is_in xs x) args ∙ at_node (λ m. plain.argues m.kind) ns x n at

  pub marked_is_refuted : (needed start : List ℕ) (judged marked : List Bool) → needed ≡ map one_for arguing → judged ≡ map (λ m. plain.is_judged false (node_of m)) ns
      → IsPlaces judged (length judged) start → IsLeastClosed rs needed start marked → marked ≡ plain.refuted_nodes (plain_case ns rs)
  marked_is_refuted needed start judged marked needs judges starts least =
      marked_is ns rs needed start marked (plain.is_judged false) (plain.joins_refuted (plain_case ns rs)) (plain.refuted_within (plain_case ns rs)) refl (λ n. refl)
      (plain.refuted_nodes (plain_case ns rs)) (length (map node_of ns), refl) (statuses_are_least (plain_case ns rs)).0.0
      sized link (λ inside x n e. or_left (plain.is_judged false n) (plain.argues n.kind && list_any (holds_at inside) (supported_by x rs)) e) need_link
      (subst (λ k. IsPlaces (map (λ m. plain.is_judged false (node_of m)) ns) k start) (length_firsts (plain.is_judged false) ns) (subst (λ j. IsPlaces j (length j) start) judges starts)) least
    where
      sized : length needed ≡ length ns
      sized = ap length needs ∙ (length_map_one arguing ∙ (ap length args ∙ length_firsts (λ m. plain.argues m.kind) ns))
        where
          length_map_one : (bs : List Bool) → length (map one_for bs) ≡ length bs
          length_map_one [] = refl
          length_map_one (b ∷ bs) = ap suc (length_map_one bs)

      needs_at : (x : ℕ) (n : plain.Node) → slice_get (map node_of ns) x ≡ Some n → slice_index needed x ≡ one_for (plain.argues n.kind)
      needs_at x n at = ap (λ xs. slice_index xs x) needs ∙ (get_or-map one_for arguing x false ∙ ap one_for (argues_at x n at))

      is_one : (b : Bool) → b ≡ true → one_for b ≡ 1
      is_one true e = refl
      is_one false e = absurd (false≢true e)

      is_some' : (b : Bool) → 0 < one_for b → b ≡ true
      is_some' true l = refl
      is_some' false l = absurd (omega (arith, l))

      link : (inside : List Bool) (x : ℕ) (n : plain.Node) → slice_get (map node_of ns) x ≡ Some n → plain.joins_refuted (plain_case ns rs) inside (x, n) ≡ true
          → (plain.is_judged false n ≡ true) ⊎ ((0 < slice_index needed x) × (slice_index needed x ≤ gains (leads_into inside) rs x))
      link inside x n at e = elim (or_cases (plain.is_judged false n) (plain.argues n.kind && list_any (holds_at inside) (supported_by x rs)) e) [
        | inl f ↦ inl f
        | inr f ↦
            let parts = and_parts (plain.argues n.kind) (list_any (holds_at inside) (supported_by x rs)) f in
            let one : slice_index needed x ≡ 1 = needs_at x n at ∙ is_one (plain.argues n.kind) parts.0 in
            let many = any_to inside x rs parts.1 in
            inr (omega (arith, one), omega (arith, one, many))
      ]

      need_link : (inside : List Bool) (x : ℕ) (n : plain.Node) → slice_get (map node_of ns) x ≡ Some n
          → 0 < slice_index needed x → slice_index needed x ≤ gains (leads_into inside) rs x → plain.joins_refuted (plain_case ns rs) inside (x, n) ≡ true
      need_link inside x n at some enough =
          or_right (plain.is_judged false n) (plain.argues n.kind && list_any (holds_at inside) (supported_by x rs))
          (and_from (plain.argues n.kind) (list_any (holds_at inside) (supported_by x rs))
          (is_some' (plain.argues n.kind) (subst (λ m. 0 < m) (needs_at x n at) some)) (any_from inside x rs (omega (arith, some, enough))))

  pub marked_is_supported : (refuted : List Bool) (needed start : List ℕ) (judged marked : List Bool) → length needed ≡ length arguing
      → ((x : ℕ) → slice_index needed x ≡ (if is_in arguing x && not (is_in refuted x) then total rs x else 0)) → judged ≡ map (λ m. plain.is_judged true (node_of m)) ns
      → refuted ≡ plain.refuted_nodes (plain_case ns rs)
      → IsPlaces judged (length judged) start → IsLeastClosed rs needed start marked → marked ≡ plain.supported_nodes (plain_case ns rs)
  marked_is_supported refuted needed start judged marked size needs judges refutes starts least =
      marked_is ns rs needed start marked (plain.is_judged true) (plain.joins_supported (plain_case ns rs) (plain.refuted_nodes (plain_case ns rs)))
      (plain.supported_within (plain_case ns rs) (plain.refuted_nodes (plain_case ns rs))) refl (λ n. refl)
      (plain.supported_nodes (plain_case ns rs)) (length (map node_of ns), refl) (statuses_are_least (plain_case ns rs)).1.0
      (size ∙ (ap length args ∙ length_firsts (λ m. plain.argues m.kind) ns)) link
      (λ inside x n e. or_left (plain.is_judged true n) (may ns rs x n && plain.some_and_all (holds_at inside) (supported_by x rs)) e) need_link
      (subst (λ k. IsPlaces (map (λ m. plain.is_judged true (node_of m)) ns) k start) (length_firsts (plain.is_judged true) ns) (subst (λ j. IsPlaces j (length j) start) judges starts)) least
    where
      is_may : (x : ℕ) (n : plain.Node) → slice_get (map node_of ns) x ≡ Some n → (is_in arguing x && not (is_in refuted x)) ≡ may ns rs x n
      is_may x n at =
          ap (λ b. b && not (is_in refuted x)) (argues_at x n at)
          ∙ ap (λ b. plain.argues n.kind && not b) (ap (λ xs. is_in xs x) refutes ∙ sym (holds_is (plain.refuted_nodes (plain_case ns rs)) x))

      needs_at : (x : ℕ) (n : plain.Node) → slice_get (map node_of ns) x ≡ Some n → slice_index needed x ≡ (if may ns rs x n then total rs x else 0)
      needs_at x n at = needs x ∙ ap (λ b. if b then total rs x else 0) (is_may x n at)

      taken : (b : Bool) (m : ℕ) → b ≡ true → (if b then m else 0) ≡ m
      taken true m e = refl
      taken false m e = absurd (false≢true e)

      is_taken : (b : Bool) (m k : ℕ) → 0 < k → k ≡ (if b then m else 0) → (b ≡ true) × (k ≡ m)
      is_taken true m k l e = (refl, e)
      is_taken false m k l e = absurd (omega (arith, l, e))

      link : (inside : List Bool) (x : ℕ) (n : plain.Node) → slice_get (map node_of ns) x ≡ Some n
          → plain.joins_supported (plain_case ns rs) (plain.refuted_nodes (plain_case ns rs)) inside (x, n) ≡ true
          → (plain.is_judged true n ≡ true) ⊎ ((0 < slice_index needed x) × (slice_index needed x ≤ gains (leads_into inside) rs x))
      link inside x n at e = elim (or_cases (plain.is_judged true n) (may ns rs x n && plain.some_and_all (holds_at inside) (supported_by x rs)) e) [
        | inl f ↦ inl f
        | inr f ↦
            let parts = and_parts (may ns rs x n) (plain.some_and_all (holds_at inside) (supported_by x rs)) f in
            let all : slice_index needed x ≡ total rs x = needs_at x n at ∙ taken (may ns rs x n) (total rs x) parts.0 in
            let both = some_parts (holds_at inside) (supported_by x rs) parts.1 in
            let some = both.0 in
            let many = length_supports x rs in
            let enough = all_to inside x rs both.1 in
            inr (omega (arith, all, some, many), omega (arith, all, enough))
      ]

      need_link : (inside : List Bool) (x : ℕ) (n : plain.Node) → slice_get (map node_of ns) x ≡ Some n
          → 0 < slice_index needed x → slice_index needed x ≤ gains (leads_into inside) rs x
          → plain.joins_supported (plain_case ns rs) (plain.refuted_nodes (plain_case ns rs)) inside (x, n) ≡ true
      need_link inside x n at some enough =
          let t = is_taken (may ns rs x n) (total rs x) (slice_index needed x) some (needs_at x n at) in
          let all = t.1 in
          let many = length_supports x rs in
          or_right (plain.is_judged true n) (may ns rs x n && plain.some_and_all (holds_at inside) (supported_by x rs))
          (and_from (may ns rs x n) (plain.some_and_all (holds_at inside) (supported_by x rs)) t.0
          (some_from (holds_at inside) (supported_by x rs) (omega (arith, all, some, many)) (all_from inside x rs (omega (arith, all, enough)))))

-- ---- statuses by number

length_map_one : (bs : List Bool) → length (map one_for bs) ≡ length bs
length_map_one [] = refl
length_map_one (b ∷ bs) = ap suc (length_map_one bs)

pub length_refuted : (ns : List CNode) (rs : List CRel) → length (plain.refuted_nodes (plain_case ns rs)) ≡ length ns
length_refuted ns rs =
    sym (ap length (statuses_are_least (plain_case ns rs)).0.0)
    ∙ (length_numbered (plain.joins_refuted (plain_case ns rs) (plain.refuted_nodes (plain_case ns rs))) (map node_of ns) 0 ∙ length_nodes ns)

pub length_supported : (ns : List CNode) (rs : List CRel) → length (plain.supported_nodes (plain_case ns rs)) ≡ length ns
length_supported ns rs =
    sym (ap length (statuses_are_least (plain_case ns rs)).1.0)
    ∙ (length_numbered (plain.joins_supported (plain_case ns rs) (plain.refuted_nodes (plain_case ns rs)) (plain.supported_nodes (plain_case ns rs))) (map node_of ns) 0 ∙ length_nodes ns)

-- what the starting nodes are below
pub starts_in : (ns : List CNode) (first : plain.Node → Bool) (judged : List Bool) (start : List ℕ) (n : ℕ) → judged ≡ map (λ m. first (node_of m)) ns → n ≡ length ns
    → IsPlaces judged (length judged) start → AllBelow n start
starts_in ns first judged start n e size starts x w =
    let l = starts.below x w in
    let f = ap length e ∙ length_firsts first ns in
    omega (arith, l, f, size)

pub length_arguing : (ns : List CNode) (arguing : List Bool) → arguing ≡ map (λ m. plain.argues (kind_of m.kind)) ns → length arguing ≡ length ns
length_arguing ns arguing e = ap length e ∙ length_firsts (λ m. plain.argues m.kind) ns

pub length_one_support : (ns : List CNode) (arguing : List Bool) (needed : List ℕ) → arguing ≡ map (λ m. plain.argues (kind_of m.kind)) ns → needed ≡ map one_for arguing → length needed ≡ length ns
length_one_support ns arguing needed e f = ap length f ∙ (length_map_one arguing ∙ length_arguing ns arguing e)

by_number : (g : ℕ → plain.Status) (xs : List plain.Node) (k : ℕ) → map g (range_with_len k (length xs)) ≡ map (λ x. g x.0) (enumerate_from k xs)
by_number g [] k = refl
by_number g (x ∷ xs) k = ap (λ ys. g k ∷ ys) (by_number g xs (k + 1))

pub statuses_by_number : (ns : List CNode) (rs : List CRel) (refuted supported : List Bool) → refuted ≡ plain.refuted_nodes (plain_case ns rs) → supported ≡ plain.supported_nodes (plain_case ns rs)
    → map (λ i. plain.status_of (holds_at refuted i) (holds_at supported i)) (range_with_len 0 (length refuted)) ≡ plain.statuses (plain_case ns rs)
unfolding plain.statuses
statuses_by_number ns rs refuted supported e f =
    ap (λ k. map (λ i. plain.status_of (holds_at refuted i) (holds_at supported i)) (range_with_len 0 k)) (ap length e ∙ (length_refuted ns rs ∙ sym (length_nodes ns)))
    ∙ (by_number (λ i. plain.status_of (holds_at refuted i) (holds_at supported i)) (map node_of ns) 0
    ∙ (ap (λ r. map (λ x. plain.status_of (holds_at r x.0) (holds_at supported x.0)) (numbered (map node_of ns))) e
    ∙ ap (λ s. map (λ x. plain.status_of (holds_at (plain.refuted_nodes (plain_case ns rs)) x.0) (holds_at s x.0)) (numbered (map node_of ns))) f))
