-- Relations between the numbers below a bound, and the relation of a path.
use Rattle.std.specs.Prelude.{ℕ, zero, suc, ◌<◌, Bool, true, false, ◌&&◌, ◌||◌}
use Rattle.meaning.specs.Queries.{Path, Along, Against, Then, OneOf, Chain}

abbrev pub Relation : Type 0
Relation = ℕ → ℕ → Bool

-- some number below n passes
abbrev pub any_below : ℕ → (ℕ → Bool) → Bool
any_below zero p = false
any_below (suc n) p = any_below n p || p n

-- the one and then the other
abbrev pub composed : ℕ → Relation → Relation → Relation
composed n a b i j = any_below n (λ k. a i k && b k j)

abbrev pub united : Relation → Relation → Relation
united a b i j = a i j || b i j

-- the relation, or the other way
abbrev pub turned : Bool → Relation → Relation
turned false r i j = r i j
turned true r i j = r j i

-- where a step from i to j begins, or the step back
abbrev pub start_of : Bool → ℕ → ℕ → ℕ
start_of false i j = i
start_of true i j = j

-- the relation itself, or by it to one number and on from there
abbrev pub through : ℕ → Relation → Relation
through k r i j = r i j || (r i k && r k j)

-- once or more, through numbers below a bound
abbrev pub closed : ℕ → Relation → Relation
closed zero r i j = r i j
closed (suc k) r i j = through k (closed k r) i j

-- the relation of a path between n elements, where the links are told by their kinds
abbrev pub related : ℕ → (ℕ → Relation) → Path → Relation
related n link (Along k) i j = link k i j
related n link (Against k) i j = link k j i
related n link (Then a b) i j = composed n (related n link a) (related n link b) i j
related n link (OneOf a b) i j = united (related n link a) (related n link b) i j
related n link (Chain a) i j = closed n (related n link a) i j
