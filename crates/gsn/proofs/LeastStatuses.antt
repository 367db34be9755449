-- The statuses of the definitions are the least sets: each closed under its rule, and inside every set that is.
use Rattle.std.proofs.Common.{◌≡◌, Option, ℕ, zero, suc, ◌+◌, Bool, true, false, not, List, [], ◌∷◌, Some, None, map, length, refl, sym, ap, ◌∙◌, subst, arith}
use Rattle.std.specs.Prelude.{◌&&◌, ◌||◌}
use Rattle.std.specs.List.{slice_get, list_any, list_all, enumerate_from}
use Rattle.std.proofs.lemmas.Bool.{false≢true}
use Rattle.meaning.specs.Texts.{holds_at, numbered}
use Rattle.meaning.specs.Cases.{Case, Node, Status, NodeKind, Goal, Strategy, Solution, Context, Assumption, Justification, is_judged, is_verdict, is_solution, argues, supports, joins_refuted, joins_supported, refuted_within, refuted_nodes, supported_within, supported_nodes, some_and_all, status_of, statuses}
use Rattle.meaning.proofs.StandsStill.{any_grows}
use Rattle.meaning.proofs.StatusLaws.{statuses_are_least}
use Rattle.gsn.specs.LeastStatuses.{Rule, IsClosedUnder, IsLeastUnder, AreLeastStatuses, is_refuted, is_supported}

-- ---- a set read off the numbered nodes

-- what holds at a place of a numbered list
numbered_at : (g : ℕ × Node → Bool) (xs : List Node) (k x : ℕ) (n : Node) → slice_get xs x ≡ Some n → holds_at (map g (enumerate_from k xs)) x ≡ g (k + x, n)
numbered_at g [] k x n e = absurd cc
numbered_at g (y ∷ xs) k zero n e = let same : y ≡ n = cc in let at : k ≡ k + zero = omega arith in rw (same, ← at) refl
numbered_at g (y ∷ xs) k (suc x) n e = let at : (k + 1) + x ≡ k + suc x = omega arith in subst (λ i. holds_at (map g (enumerate_from (k + 1) xs)) x ≡ g (i, n)) at (numbered_at g xs (k + 1) x n e)

-- what is true there stands at a node
record StandsAt (xs : List Node) (x : ℕ) : Type 0 where
  node : Node
  there : slice_get xs x ≡ Some node

stands_at : (g : ℕ × Node → Bool) (xs : List Node) (k x : ℕ) → holds_at (map g (enumerate_from k xs)) x ≡ true → StandsAt xs x
stands_at g [] k x e = absurd (false≢true e)
stands_at g (y ∷ xs) k zero e = record { node = y; there = refl }
stands_at g (y ∷ xs) k (suc x) e = let s = stands_at g xs (k + 1) x e in record { node = s.node; there = s.there }

-- the nodes of a first round, numbered
firsts_numbered : (f : Node → Bool) (xs : List Node) (k : ℕ) → map f xs ≡ map (λ x. f x.1) (enumerate_from k xs)
firsts_numbered f [] k = refl
firsts_numbered f (x ∷ xs) k = ap (λ ys. f x ∷ ys) (firsts_numbered f xs (k + 1))

-- a set of as many places as there are nodes is read off by their numbers
read_off : (set : List Bool) (xs : List Node) (k : ℕ) (full : List Bool) → length set ≡ length xs
    → ((i : ℕ) → holds_at full (k + i) ≡ holds_at set i) → map (λ x. holds_at full x.0) (enumerate_from k xs) ≡ set
read_off [] [] k full e same = refl
read_off [] (x ∷ xs) k full e same = absurd (omega (arith, e))
read_off (b ∷ set) [] k full e same = absurd (omega (arith, e))
read_off (b ∷ set) (x ∷ xs) k full e same =
    let at : k + zero ≡ k = omega arith in
    let here : holds_at full k ≡ b = subst (λ i. holds_at full i ≡ b) at (same zero) in
    rw here (ap (λ ys. b ∷ ys) (read_off set xs (k + 1) full (omega (arith, e)) (λ i. let next : (k + 1) + i ≡ k + suc i = omega arith in ap (holds_at full) next ∙ same (suc i))))

-- ---- rules that grow with the set

all_grows : (p q : ℕ → Bool) → ((i : ℕ) → p i ≡ true → q i ≡ true) → (xs : List ℕ) → list_all p xs ≡ true → list_all q xs ≡ true
all_grows p q h [] e = e
all_grows p q h (x ∷ xs) e = go (p x) (q x) (h x) e (all_grows p q h xs)
  where
    go : (a b : Bool) → (a ≡ true → b ≡ true) → (a && list_all p xs) ≡ true → (list_all p xs ≡ true → list_all q xs ≡ true) → (b && list_all q xs) ≡ true
    go true true k e later = later e
    go true false k e later = absurd (false≢true (k refl))
    go false b k e later = absurd (false≢true e)

some_and_all_grows : (p q : ℕ → Bool) → ((i : ℕ) → p i ≡ true → q i ≡ true) → (xs : List ℕ) → some_and_all p xs ≡ true → some_and_all q xs ≡ true
some_and_all_grows p q h [] e = e
some_and_all_grows p q h (x ∷ xs) e = all_grows p q h (x ∷ xs) e

grows_with : (a b c d : Bool) → (c ≡ true → d ≡ true) → (a || (b && c)) ≡ true → (a || (b && d)) ≡ true
grows_with true b c d h e = refl
grows_with false true c d h e = h e
grows_with false false c d h e = e

given_first : (a b : Bool) → a ≡ true → (a || b) ≡ true
given_first true b e = refl
given_first false b e = absurd (false≢true e)

abbrev Grows : Rule → Type 0
Grows joins = (xs ys : List Bool) → ((i : ℕ) → holds_at xs i ≡ true → holds_at ys i ≡ true) → (x : ℕ × Node) → joins xs x ≡ true → joins ys x ≡ true

-- ---- the rounds lead to the least closed set

module _ (c : Case) (first : Node → Bool) (joins : Rule) (rounds : ℕ → List Bool)
    (begins : rounds zero ≡ map first c.nodes) (goes : (n : ℕ) → rounds (suc n) ≡ map (joins (rounds n)) (numbered c.nodes))
    (given : (inside : List Bool) (n : ℕ) (x : Node) → first x ≡ true → joins inside (n, x) ≡ true) (grows : Grows joins) where
  within : (other : List Bool) → IsClosedUnder c joins other → (n x : ℕ) → holds_at (rounds n) x ≡ true → holds_at other x ≡ true
  within other closed zero x e =
      let told : holds_at (map (λ y. first y.1) (numbered c.nodes)) x ≡ true = sym (ap (λ s. holds_at s x) (begins ∙ firsts_numbered first c.nodes 0)) ∙ e in
      let s = stands_at (λ y. first y.1) c.nodes 0 x told in
      let is : first s.node ≡ true = sym (numbered_at (λ y. first y.1) c.nodes 0 x s.node s.there) ∙ told in
      closed.has x s.node s.there (given other x s.node is)
  within other closed (suc n) x e =
      let told : holds_at (map (joins (rounds n)) (numbered c.nodes)) x ≡ true = sym (ap (λ s. holds_at s x) (goes n)) ∙ e in
      let s = stands_at (joins (rounds n)) c.nodes 0 x told in
      let zero_more : 0 + x ≡ x = omega arith in
      let is : joins (rounds n) (x, s.node) ≡ true = ap (λ i. joins (rounds n) (i, s.node)) (sym zero_more) ∙ sym (numbered_at (joins (rounds n)) c.nodes 0 x s.node s.there) ∙ told in
      closed.has x s.node s.there (grows (rounds n) other (within other closed n) (x, s.node) is)

  least : (n : ℕ) → map (joins (rounds n)) (numbered c.nodes) ≡ rounds n → IsLeastUnder c joins (rounds n)
  least n still = record {
    closed = record {
      has = λ x node there joined.
          let zero_more : 0 + x ≡ x = omega arith in
          sym (ap (λ s. holds_at s x) still) ∙ numbered_at (joins (rounds n)) c.nodes 0 x node there ∙ ap (λ i. joins (rounds n) (i, node)) zero_more ∙ joined;
    };
    inside = λ other closed x e. within other closed n x e;
  }

refuted_least : (c : Case) → IsLeastUnder c (joins_refuted c) (refuted_nodes c)
refuted_least c =
    least c (is_judged false) (joins_refuted c) (refuted_within c) refl (λ n. refl)
    (λ inside n x e. given_first (is_judged false x) (argues x.kind && list_any (holds_at inside) (supports c n)) e)
    (λ xs ys w x e. grows_with (is_judged false x.1) (argues x.1.kind) (list_any (holds_at xs) (supports c x.0)) (list_any (holds_at ys) (supports c x.0))
    (any_grows (holds_at xs) (holds_at ys) w (supports c x.0)) e)
    (length c.nodes) (statuses_are_least c).0.0

supported_least : (c : Case) → IsLeastUnder c (joins_supported c (refuted_nodes c)) (supported_nodes c)
supported_least c =
    least c (is_judged true) (joins_supported c (refuted_nodes c)) (supported_within c (refuted_nodes c)) refl (λ n. refl)
    (λ inside n x e. given_first (is_judged true x) (argues x.kind && not (holds_at (refuted_nodes c) n) && some_and_all (holds_at inside) (supports c n)) e)
    (λ xs ys w x e. grows_with (is_judged true x.1) (argues x.1.kind && not (holds_at (refuted_nodes c) x.0)) (some_and_all (holds_at xs) (supports c x.0)) (some_and_all (holds_at ys) (supports c x.0))
    (some_and_all_grows (holds_at xs) (holds_at ys) w (supports c x.0)) e)
    (length c.nodes) (statuses_are_least c).1.0

-- ---- what the statuses tell of the two sets

length_numbered : (g : ℕ × Node → Bool) (xs : List Node) (k : ℕ) → length (map g (enumerate_from k xs)) ≡ length xs
length_numbered g [] k = refl
length_numbered g (x ∷ xs) k = ap suc (length_numbered g xs (k + 1))

refuted_told : (r s : Bool) → is_refuted (status_of r s) ≡ r
refuted_told true s = refl
refuted_told false true = refl
refuted_told false false = refl

supported_told : (r s : Bool) → (s ≡ true → r ≡ false) → is_supported (status_of r s) ≡ s
supported_told true true h = absurd (false≢true (sym (h refl)))
supported_told true false h = refl
supported_told false true h = refl
supported_told false false h = refl

-- no node is both
apart : (kind : NodeKind) (verdict : Option Bool) (any all : Bool)
    → ((is_solution kind && is_verdict true verdict) || ((argues kind && not true) && all)) ≡ true
    → ((is_solution kind && is_verdict false verdict) || (argues kind && any)) ≡ true → ⊥
apart Goal verdict any all e f = false≢true e
apart Strategy verdict any all e f = false≢true e
apart Solution None any all e f = false≢true e
apart Solution (Some true) any all e f = false≢true f
apart Solution (Some false) any all e f = false≢true e
apart Context verdict any all e f = false≢true e
apart Assumption verdict any all e f = false≢true e
apart Justification verdict any all e f = false≢true e

disjoint : (c : Case) (x : ℕ) → holds_at (supported_nodes c) x ≡ true → holds_at (refuted_nodes c) x ≡ false
disjoint c x e = go (holds_at (refuted_nodes c) x) refl
  where
    go : (b : Bool) → holds_at (refuted_nodes c) x ≡ b → b ≡ false
    go false r = refl
    go true r =
        let zero_more : 0 + x ≡ x = omega arith in
        let rule_s = joins_supported c (refuted_nodes c) (supported_nodes c) in
        let rule_r = joins_refuted c (refuted_nodes c) in
        let told_s : holds_at (map rule_s (numbered c.nodes)) x ≡ true = ap (λ s. holds_at s x) (statuses_are_least c).1.0 ∙ e in
        let told_r : holds_at (map rule_r (numbered c.nodes)) x ≡ true = ap (λ s. holds_at s x) (statuses_are_least c).0.0 ∙ r in
        let s = stands_at rule_s c.nodes 0 x told_s in
        let joins_s : rule_s (x, s.node) ≡ true = ap (λ i. rule_s (i, s.node)) (sym zero_more) ∙ sym (numbered_at rule_s c.nodes 0 x s.node s.there) ∙ told_s in
        let joins_r : rule_r (x, s.node) ≡ true = ap (λ i. rule_r (i, s.node)) (sym zero_more) ∙ sym (numbered_at rule_r c.nodes 0 x s.node s.there) ∙ told_r in
        absurd (apart s.node.kind s.node.verdict (list_any (holds_at (refuted_nodes c)) (supports c x)) (some_and_all (holds_at (supported_nodes c)) (supports c x))
        (subst (λ b. ((is_solution s.node.kind && is_verdict true s.node.verdict) || ((argues s.node.kind && not b) && some_and_all (holds_at (supported_nodes c)) (supports c x))) ≡ true) r joins_s)
        joins_r)

told_as : (test : Status → Bool) (f : ℕ → Status) (g : ℕ → Bool) → ((i : ℕ) → test (f i) ≡ g i) → (xs : List Node) (k : ℕ)
    → map test (map (λ x. f x.0) (enumerate_from k xs)) ≡ map (λ x. g x.0) (enumerate_from k xs)
told_as test f g h [] k = refl
told_as test f g h (x ∷ xs) k = rw (h k) (ap (λ ys. g k ∷ ys) (told_as test f g h xs (k + 1)))

length_statuses : (f : ℕ → Status) (xs : List Node) (k : ℕ) → length (map (λ x. f x.0) (enumerate_from k xs)) ≡ length xs
length_statuses f [] k = refl
length_statuses f (x ∷ xs) k = ap suc (length_statuses f xs (k + 1))

pub statuses_least : (c : Case) → AreLeastStatuses c (statuses c)
unfolding statuses
statuses_least c =
    let f : ℕ → Status = λ i. status_of (holds_at (refuted_nodes c) i) (holds_at (supported_nodes c) i) in
    let size_r : length (refuted_nodes c) ≡ length c.nodes = sym (ap length (statuses_are_least c).0.0) ∙ length_numbered (joins_refuted c (refuted_nodes c)) c.nodes 0 in
    let size_s : length (supported_nodes c) ≡ length c.nodes =
    sym (ap length (statuses_are_least c).1.0) ∙ length_numbered (joins_supported c (refuted_nodes c) (supported_nodes c)) c.nodes 0 in
    let is_r : map is_refuted (statuses c) ≡ refuted_nodes c =
    told_as is_refuted f (holds_at (refuted_nodes c)) (λ i. refuted_told (holds_at (refuted_nodes c) i) (holds_at (supported_nodes c) i)) c.nodes 0
    ∙ read_off (refuted_nodes c) c.nodes 0 (refuted_nodes c) size_r (λ i. let at : 0 + i ≡ i = omega arith in ap (holds_at (refuted_nodes c)) at) in
    let is_s : map is_supported (statuses c) ≡ supported_nodes c =
    told_as is_supported f (holds_at (supported_nodes c)) (λ i. supported_told (holds_at (refuted_nodes c) i) (holds_at (supported_nodes c) i) (disjoint c i)) c.nodes 0
    ∙ read_off (supported_nodes c) c.nodes 0 (supported_nodes c) size_s (λ i. let at : 0 + i ≡ i = omega arith in ap (holds_at (supported_nodes c)) at) in
    record {
      each = length_statuses f c.nodes 0;
      refuted = subst (λ set. IsLeastUnder c (joins_refuted c) set) (sym is_r) (refuted_least c);
      supported = subst (λ set. IsLeastUnder c (joins_supported c set) (map is_supported (statuses c))) (sym is_r)
          (subst (λ set. IsLeastUnder c (joins_supported c (refuted_nodes c)) set) (sym is_s) (supported_least c));
    }
