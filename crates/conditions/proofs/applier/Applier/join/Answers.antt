use Rattle.std.proofs.Common.{◌≡◌, refl, sym, subst, ap, ◌∙◌}
use Rattle.node_pool.specs.Nodes.{triple, IsReduced}
use Rattle.node_pool.specs.Regions.{IsFull}
use Rattle.node_pool.specs.Made.{Grows, Makes}
use Rattle.node_pool.specs.Functions.{pool_of, function_of, branch}
use Rattle.meaning.specs.Cofactors.{Lacks}
use Rattle.conditions.specs.Answers.{Joins}
use Rattle.conditions.proofs.Answers.{Joins-made, Joins-refused, IsAnswer-later, at_error}
use Rattle.conditions.proofs.applier.Applier.join.Goals as goal
use Rattle.conditions.proofs.applier.Applier.join.Goals.{In_ok-answer}

made : (c : In_ok-answer) → Joins c.args.self.now c.make.new.self c.args.question (Rattle.std.proofs.Common.Ok c.in_ok-answer.answer)
made c =
    let reduced : IsReduced c.args.self.now.vars c.args.self.now.nodes = rw (← c.self.view_is) c.self.invariant.region.reduced in
    let grows : Grows c.args.self.now c.make.new.self = rw (← c.self.view_is) c.make.ensures.grows in
    let makes : Makes c.args.self.now c.make.new.self (triple c.args.var c.args.low c.args.high) c.in_ok-answer.answer = rw (← c.self.view_is) c.in_ok-answer.ensures.ok in
    Joins-made c.args.self.now c.make.new.self c.args.question c.args.var c.args.low c.args.high c.in_ok-answer.answer c.requires reduced c.make.ensures.region grows makes

pub returns-in_err-answer : goal.returns-in_err-answer
returns-in_err-answer c =
    let now = c.args.self.now in
    let new = c.make.new.self in
    let grows : Grows now new = rw (← c.self.view_is) c.make.ensures.grows in
    let same : new ≡ now = c.in_err-answer.ensures.err ∙ c.self.view_is in
    let full : IsFull now (triple c.args.var c.args.low c.args.high) = rw (← c.self.view_is) (c.in_err-answer.ensures.full.0 refl) in
    let lacks : Lacks now.vars (pool_of new) (branch c.args.var (function_of now c.args.low.0) (function_of now c.args.high.0)) = rw (← c.self.view_is) c.in_err-answer.ensures.lacks in
    at_error c.from_residual.result (Joins c.args.self.now c.make.new.self c.args.question)
    (λ e. Joins-refused c.args.self.now c.make.new.self c.args.question c.args.var c.args.low c.args.high e c.requires c.make.ensures.region grows same full lacks)
    c.from_residual.ensures.0

pub invariant_of-self-2 : goal.invariant_of-self-2
invariant_of-self-2 c =
    record {
      region = c.make.ensures.region;
      slots = c.self.invariant.slots;
      within = c.self.invariant.within;
      room = c.self.invariant.room;
      all_true = λ k k_in. IsAnswer-later c.self.inside.pool c.make.new.self _ _ c.self.invariant.region.reduced c.make.ensures.grows (c.self.invariant.all_true k k_in);
    }

pub keep-requires : goal.keep-requires
keep-requires c = (made (goal.at.keep-requires c).In_ok-answer).ok

pub returns : goal.returns
returns c = rw c.keep.ensures (made (goal.at.returns c).In_ok-answer)
