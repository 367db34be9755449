use Rattle.std.proofs.Common.{◌<◌, [], arith}
use Rattle.node_pool.specs.Nodes.{IsReduced}
use Rattle.node_pool.specs.Regions.{IsRegion}
use Rattle.conditions.specs.Questions.{first_of}
use Rattle.conditions.specs.Store.{no_region}
use Rattle.conditions.proofs.Answers.{Answers-known, none_after, false_at, true_at, constant_top}
use Rattle.conditions.proofs.store.constant.Goals as goal

no_nodes : IsReduced 0 []
no_nodes = record { stands = λ k k_in. absurd (omega arith); once = λ j k less k_in. absurd (omega arith) }

nothing : IsRegion no_region
nothing = record { few = omega arith; few_vars = omega arith; within = omega arith; reduced = no_nodes }

pub unreachable-requires : goal.unreachable-requires
unreachable-requires c =
    let none_first : first_of 0 [] c.args.question < 0 = c.in-None.ensures.none 0 [] (λ m inner there. absurd (omega arith)) c.requires in
    omega arith

pub returns : goal.returns
returns c =
    Answers-known no_region c.args.question c.in-Some.answer nothing (record {
      asked = c.requires;
      there = c.in-Some.ensures.there 0 [] c.requires;
      top = c.in-Some.ensures.first 0 [] (none_after no_region no_nodes) (constant_top no_region 0 (omega arith)) (constant_top no_region 1 (omega arith)) c.requires;
      function = λ w. c.in-Some.ensures.function [] w (false_at no_region w) (true_at no_region w);
    })
