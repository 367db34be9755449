-- What a triple that is there, a new one and a refused one tell of functions.
use Rattle.std.proofs.Common.{◌≡◌, ◌≢◌, ℕ, ◌+◌, ◌-◌, Bool, false, cond, eqb, ltb, [], ◌∷◌, ◌++◌, length, arith, sym, ap, ◌∙◌, refl, length-append}
use Rattle.std.proofs.lemmas.Bool.Decides.{nat_tests}
use Rattle.meaning.specs.Cofactors.{World, Function, Agree, Lacks, cofactor}
use Rattle.node_pool.specs.declared.node.Node.{Node}
use Rattle.node_pool.specs.declared.node.NodeNo.{NodeNo}
use Rattle.node_pool.specs.Nodes.{node_at, top_of, value, MayStand, IsReduced, IsAbsent, Extends}
use Rattle.node_pool.specs.Regions.{Region, IsNumberOf}
use Rattle.node_pool.specs.Functions.{pool_of, branch}
use Rattle.node_pool.specs.Made.{Makes, Grows}
use Rattle.node_pool.proofs.Reduced.{top_of-inner, Extends-push, IsReduced-push, node_at-pushed}
use Rattle.node_pool.proofs.Values.{value-inner, value-extends}
use Rattle.node_pool.proofs.Canonical.{absent_function}

-- with nothing fixed, a function is its own cofactor
pub cofactor-none : (f : Function) (fixed world : World) → cofactor f 0 fixed world ≡ f world
cofactor-none f fixed world =
    let free : (v : ℕ) → cond (ltb v 0) (fixed v) (world v) ≡ world v = λ v. let test : ltb v 0 ≡ false = grind (arith, nat_tests) in rw test in
    ap f (λ i v. free v i)

-- a number of a triple has the triple's function
pub value-number : (r : Region) (node : Node) (number : NodeNo) → IsReduced r.vars r.nodes → IsNumberOf r number node → Agree (value r.nodes number.0) (branch node.var (value r.nodes node.low.0) (value r.nodes node.high.0))
value-number r node number reduced is world =
    value-inner r.vars r.nodes number.0 world reduced is.inner is.there
    ∙ ap (λ (m : Node). cond (world m.var) (value r.nodes m.high.0 world) (value r.nodes m.low.0 world)) is.triple

top_of-number : (r : Region) (node : Node) (number : NodeNo) → IsNumberOf r number node → top_of r.vars r.nodes number.0 ≡ node.var
top_of-number r node number is = top_of-inner r.vars r.nodes number.0 is.inner ∙ ap (λ (m : Node). m.var) is.triple

-- two numbers that a test tells apart
pub differ_by_number : (a b : ℕ) → false ≡ eqb a b → a ≢ b
differ_by_number a b test = grind (arith, nat_tests)

-- a triple that is there
pub Makes-found : (r : Region) (node : Node) (number : NodeNo) → IsReduced r.vars r.nodes → IsNumberOf r number node → Makes r r node number
Makes-found r node number reduced is = record {
  there = is.there;
  function = value-number r node number reduced is;
  top = omega (arith, top_of-number r node number is);
  stands = λ differ. is;
  one_more = omega arith;
  adds = λ n past n_in. absurd (omega arith);
}

-- the region with a node at its end
abbrev pub pushed : Region → Node → Region
pushed r node = record { limit = r.limit; vars = r.vars; nodes = r.nodes ++ node ∷ [] }

pub Grows-pushed : (r : Region) (node : Node) → IsReduced r.vars r.nodes → Grows r (pushed r node)
Grows-pushed r node reduced =
    let longer : Extends r.nodes (r.nodes ++ node ∷ []) = Extends-push r.nodes node in
    record {
      limit = refl;
      vars = refl;
      extends = longer;
      keeps = record {
        no_fewer = longer.no_shorter;
        same = λ n n_in world. value-extends r.vars r.nodes (r.nodes ++ node ∷ []) n world reduced longer n_in;
      };
    }

IsNumberOf-pushed : (r : Region) (node : Node) (answer : NodeNo) → answer.0 ≡ length r.nodes + 2 → IsNumberOf (pushed r node) answer node
IsNumberOf-pushed r node answer next =
    let one_more : length (r.nodes ++ node ∷ []) ≡ length r.nodes + 1 = omega (arith, length-append r.nodes (node ∷ [])) in
    let place : answer.0 - 2 ≡ length r.nodes = omega arith in
    record {
      inner = omega arith;
      there = omega arith;
      triple = ap (node_at (r.nodes ++ node ∷ [])) place ∙ node_at-pushed r.nodes node;
    }

-- a new triple
pub Makes-pushed : (r : Region) (node : Node) (answer : NodeNo) → IsReduced r.vars r.nodes → MayStand r.vars r.nodes node (length r.nodes) → IsAbsent r.nodes node → answer.0 ≡ length r.nodes + 2 → Makes r (pushed r node) node answer
Makes-pushed r node answer reduced stands absent next =
    let new : Region = pushed r node in
    let f : Function = branch node.var (value r.nodes node.low.0) (value r.nodes node.high.0) in
    let one_more : length new.nodes ≡ length r.nodes + 1 = omega (arith, length-append r.nodes (node ∷ [])) in
    let new_reduced : IsReduced new.vars new.nodes = IsReduced-push r.vars r.nodes node reduced stands absent in
    let is : IsNumberOf new answer node = IsNumberOf-pushed r node answer next in
    let grows : Grows r new = Grows-pushed r node reduced in
    let function : Agree (value new.nodes answer.0) f = λ world.
    value-number new node answer new_reduced is world
    ∙ ap (λ (x : Bool). cond (world node.var) x (value new.nodes node.low.0 world)) (grows.keeps.same node.high.0 stands.high_in world)
    ∙ ap (λ (x : Bool). cond (world node.var) (value r.nodes node.high.0 world) x) (grows.keeps.same node.low.0 stands.low_in world) in
    record {
      there = is.there;
      function = function;
      top = omega (arith, top_of-number new node answer is);
      stands = λ differ. is;
      one_more = omega arith;
      adds = λ n past n_in.
          let last : n ≡ answer.0 = omega arith in
          record {
            prefix = 0;
            fixed = λ _. false;
            within = omega arith;
            is = λ world. ap (λ (m : ℕ). value new.nodes m world) last ∙ function world ∙ sym (cofactor-none f (λ _. false) world);
          };
    }

-- a pool that lacks the triple lacks its function
pub Lacks-absent : (r : Region) (node : Node) → IsReduced r.vars r.nodes → MayStand r.vars r.nodes node (length r.nodes) → IsAbsent r.nodes node → Lacks r.vars (pool_of r) (branch node.var (value r.nodes node.low.0) (value r.nodes node.high.0))
Lacks-absent r node reduced stands absent =
    let f : Function = branch node.var (value r.nodes node.low.0) (value r.nodes node.high.0) in
    record {
      prefix = 0;
      fixed = λ _. false;
      within = omega arith;
      nowhere = λ n n_in same. absent_function r.vars r.nodes node n reduced stands absent n_in (λ world. same world ∙ cofactor-none f (λ _. false) world);
    }
