-- Answers to questions, and what the region becomes on the way.
use Rattle.std.specs.Prelude.{◌≡◌, ℕ, ◌+◌, ◌-◌, ◌^◌, ◌<◌, ◌≤◌, length, Result, IfOk, OnErr}
use Rattle.meaning.specs.Cofactors.{Function, IsThere, Agree, Lacks, AddsCofactors}
use Rattle.node_pool.specs.declared.node.NodeNo.{NodeNo}
use Rattle.node_pool.specs.declared.pool.Full.{Full}
use Rattle.node_pool.specs.Nodes.{top_of}
use Rattle.node_pool.specs.Regions.{Region, IsRegion}
use Rattle.node_pool.specs.Functions.{pool_of, function_of, branch}
use Rattle.node_pool.specs.Made.{Grows}
use Rattle.conditions.specs.declared.question.Question.{Question}
use Rattle.conditions.specs.Questions.{function_asked, first_of, IsAsked}

-- the function that is asked for in a region
abbrev pub asked_in : Region → Question → Function
asked_in r question = function_asked r.nodes question

-- the number has the function that is asked for, and doesn't branch before the question does
pub record IsAnswer (r : Region) (question : Question) (answer : NodeNo) : Type 0 where
  pub asked : IsAsked r.vars r.nodes question
  pub there : IsThere (pool_of r) answer.0
  pub top : first_of r.vars r.nodes question ≤ top_of r.vars r.nodes answer.0
  pub function : Agree (function_of r answer.0) (asked_in r question)

-- the pool is full, and lacks a node of the function
pub record IsRefused (old new : Region) (f : Function) : Type 0 where
  pub full : length new.nodes ≡ new.limit
  pub lacks : Lacks old.vars (pool_of new) f

-- the region grew by nodes of the function's diagram alone. Below its first variable there are not more than so many
pub record IsProgress (old new : Region) (f : Function) (first : ℕ) : Type 0 where
  pub region : IsRegion new
  pub grows : Grows old new
  pub adds : AddsCofactors old.vars (pool_of old) (pool_of new) f
  pub few : length new.nodes + 1 ≤ length old.nodes + 2 ^ (old.vars - first)

-- a question was answered, or refused
pub record Answers (old new : Region) (question : Question) (result : Result NodeNo Full) : Type 0 where
  pub progress : IsProgress old new (asked_in old question) (first_of old.vars old.nodes question)
  pub ok : IfOk result (IsAnswer new question)
  pub refused : OnErr result (IsRefused old new (asked_in old question))

-- two numbers have what the question asks at the two truths of its first variable
pub record IsHalved (r : Region) (question : Question) (var : ℕ) (low high : NodeNo) : Type 0 where
  pub asked : IsAsked r.vars r.nodes question
  pub var_in : var < r.vars
  pub first : first_of r.vars r.nodes question ≤ var
  pub low_there : IsThere (pool_of r) low.0
  pub high_there : IsThere (pool_of r) high.0
  pub low_after : var < top_of r.vars r.nodes low.0
  pub high_after : var < top_of r.vars r.nodes high.0
  pub function : Agree (branch var (function_of r low.0) (function_of r high.0)) (asked_in r question)

-- the question was answered from its two halves by at most one node more, or refused
pub record Joins (old new : Region) (question : Question) (result : Result NodeNo Full) : Type 0 where
  pub region : IsRegion new
  pub grows : Grows old new
  pub adds : AddsCofactors old.vars (pool_of old) (pool_of new) (asked_in old question)
  pub one_more : length new.nodes ≤ length old.nodes + 1
  pub ok : IfOk result (IsAnswer new question)
  pub refused : OnErr result (IsRefused old new (asked_in old question))
