-- What contracts see of diagrams.
use Rattle.std.specs.Prelude.{◌≡◌, ◌↔◌, ℕ, ◌+◌, ◌-◌, ◌*◌, ◌^◌, ◌<◌, ◌≤◌, zero, suc, List, length, Bool, true, false, ◌&&◌, ◌||◌, nat_lt, if◌then◌else◌, ◌==◌, count_by, Result, IfOk, IfErr}
use Rattle.std.specs.List.{list_any}
use Rattle.meaning.specs.Bounds.{nodes_of_functions}
use Rattle.meaning.specs.Counts.{counted}
use Rattle.meaning.specs.Cofactors.{World, Function, IsThere, Agree, IsRefusedFor, AddsCofactors}
use Rattle.meaning.specs.Texts.{numbers_from}
use Rattle.node_pool.specs.declared.node.Node.{Node}
use Rattle.node_pool.specs.declared.node.NodeNo.{NodeNo}
use Rattle.node_pool.specs.Nodes.{node_at}
use Rattle.node_pool.specs.Regions.{Region, IsRegion}
use Rattle.node_pool.specs.Functions.{pool_of, function_of, world_of}
use Rattle.node_pool.specs.Made.{Grows}
use Rattle.worlds.specs.Algebra.{Algebra, has, refusals_after}
use Rattle.worlds.specs.declared.stops.NodeLimit.{NodeLimit}
use Rattle.conditions.specs.declared.question.Question.{Question}
use Rattle.conditions.specs.declared.diagrams.Diagrams.TheInside.{Inside}
use Rattle.conditions.specs.Answers.{asked_in}

-- the nodes, the condition of the valid worlds, and the counts of growing calls, of refused ones, and of what was taken in from outside
pub record State : Type 0 where
  pub region : Region
  pub valid : NodeNo
  pub asked : ℕ
  pub refused : ℕ
  pub taken : ℕ

abbrev pub state_of : Inside → State
state_of d = record { region = d.store; valid = d.valid; asked = d.asked; refused = d.refused; taken = d.taken }

-- the number is there, and true only at valid worlds
pub record IsLive (r : Region) (valid c : NodeNo) : Type 0 where
  pub there : IsThere (pool_of r) c.0
  pub within : (w : World) → function_of r c.0 w ≡ true → function_of r valid.0 w ≡ true

-- number k is met on the way down from n, in at most so many steps
unfoldable pub leads_to : List Node → ℕ → ℕ → ℕ → Bool
leads_to nodes zero n k = n == k
leads_to nodes (suc steps) n k =
    n == k
    || (if nat_lt n 2 then false
    else leads_to nodes steps (node_at nodes (n - 2)).low.0 k || leads_to nodes steps (node_at nodes (n - 2)).high.0 k)

-- how many nodes are among the first m, or below one of the conditions
abbrev pub span_of : Region → ℕ → List NodeNo → ℕ
span_of r m cs = count_by (λ n. nat_lt n (m + 2) || list_any (λ c. leads_to r.nodes c.0 c.0 n) cs) (numbers_from 2 (length r.nodes))

-- the conditions over the valid worlds
abbrev pub algebra_of : State → Algebra NodeNo
algebra_of s = record {
  count = s.region.vars;
  is_world = λ x. (length x == s.region.vars) && function_of s.region s.valid.0 (world_of x);
  live = IsLive s.region s.valid;
  holds = λ c x. function_of s.region c.0 (world_of x);
  asked = s.asked;
  refused = s.refused;
  limit = s.region.limit;
  taken = s.taken;
  size = length s.region.nodes;
  span = span_of s.region;
}

-- wherever a call was refused, the limit is below what so many functions need
abbrev pub IsBounded : {C : Type 0} → Algebra C → Type 0
IsBounded a = 0 < a.refused → a.limit < nodes_of_functions a.count (a.asked + a.taken)

-- what always holds of diagrams
pub record IsSound (d : Inside) : Type 0 where
  pub region : IsRegion d.store
  pub valid_there : IsThere (pool_of d.store) d.valid.0
  pub few : length d.store.nodes ≤ (d.asked + d.taken) * (2 ^ d.store.vars - 1)
  pub bounded : IsBounded (algebra_of (state_of d))
  pub shut : d.store.limit ≡ 0 → d.refused ≡ 0

-- ---- growing calls

-- the nodes that were added belong to the diagram of f. The call was refused only where at its end the pool is full and lacks a node of that diagram, and then it tells the limit
pub record IsExact (old new : Region) (f : Function) (result : Result NodeNo NodeLimit) : Type 0 where
  pub adds : AddsCofactors old.vars (pool_of old) (pool_of new) f
  pub refused : IfErr result (λ stop. IsRefusedFor old.vars old.limit stop.used (pool_of new) f)

-- the number is there, and has the function
pub record HasFunction (r : Region) (f : Function) (n : NodeNo) : Type 0 where
  pub there : IsThere (pool_of r) n.0
  pub is : Agree (function_of r n.0) f

-- what every growing call does
pub record Asks (old new : State) (question : Question) (result : Result NodeNo NodeLimit) : Type 0 where
  pub valid_there : IsThere (pool_of old.region) old.valid.0
  pub grows : Grows old.region new.region
  pub valid : new.valid ≡ old.valid
  pub asked : new.asked ≡ counted old.asked 1
  pub refused : new.refused ≡ refusals_after result old.refused
  pub taken : new.taken ≡ old.taken
  pub no_less_asked : old.asked ≤ new.asked
  pub no_fewer_refused : old.refused ≤ new.refused
  pub answer : IfOk result (HasFunction new.region (asked_in old.region question))
  pub exact : IsExact old.region new.region (asked_in old.region question) result

-- ---- a restriction

-- the one condition holds only where the other does
abbrev pub IsWithin : Region → NodeNo → NodeNo → Type 0
IsWithin r a c = (w : World) → function_of r a.0 w ≡ true → function_of r c.0 w ≡ true

-- the worlds are those at which c held, and `always` is c. Of what was live, just what holds only where c does is live, with its function: so c and never are. All else stays
pub record IsRestricted (old new : State) (c : NodeNo) : Type 0 where
  pub worlds : (x : List Bool) → (algebra_of new).is_world x ≡ has (algebra_of old) c x
  pub always : new.valid ≡ c
  pub always_live : (algebra_of new).live c
  pub never_live : (algebra_of new).live (record { 0 = 0 })
  pub live : (a : NodeNo) → (algebra_of new).live a ↔ ((algebra_of old).live a × IsWithin old.region a c)
  pub holds : (a : NodeNo) (x : List Bool) → (algebra_of new).holds a x ≡ (algebra_of old).holds a x
  pub count : (algebra_of new).count ≡ (algebra_of old).count
  pub limit : (algebra_of new).limit ≡ (algebra_of old).limit
  pub asked : (algebra_of new).asked ≡ (algebra_of old).asked
  pub refused : (algebra_of new).refused ≡ (algebra_of old).refused
  pub taken : (algebra_of new).taken ≡ (algebra_of old).taken
  pub size : (algebra_of new).size ≡ (algebra_of old).size
