use Rattle.std.proofs.Common.{◌≡◌, ◌<◌, ℕ, arith}
use Rattle.conditions.specs.Questions.{first_of, IsSplit}
use Rattle.conditions.specs.Answers.{Answers}
use Rattle.conditions.proofs.Answers.{IsBranching, Answers-known, Answers-low_refused, Answers-high_refused, IsHalved-answered, Answers-joined, at_error}
use Rattle.conditions.proofs.applier.Applier.+apply.Goals as goal
use Rattle.conditions.proofs.applier.Applier.+apply.Goals.{After-branches-if_false}

branching : (t : ℕ) (c : After-branches-if_false t) → IsBranching c.args.self.now c.args.question c.first-var.result c.branches-if_false.result.0 c.branches-if_false.result.1
branching t c =
    let now = c.args.self.now in
    let var_is : c.first-var.result ≡ first_of now.vars now.nodes c.args.question = rw (← c.self.view_is) c.first-var.ensures in
    let split : IsSplit now.vars now.nodes c.args.question c.first-var.result c.branches-if_false.result.0 c.branches-if_false.result.1 = rw (← c.self.view_is) c.branches-if_false.ensures in
    let var_in : first_of now.vars now.nodes c.args.question < now.vars = c.in_default.ensures in
    record {
      region = c.used-used.ensures.region;
      asked = c.requires;
      var_in = omega arith;
      var_is = var_is;
      split = split;
    }

pub returns-in-Some : goal.returns-in-Some
returns-in-Some t c = Answers-known c.args.self.now c.args.question c.in-Some.answer c.used-used.ensures.region c.in-Some.ensures

pub returns-in_err-low : goal.returns-in_err-low
returns-in_err-low t c =
    let b = branching t (goal.at.returns-in_err-low t c).After-branches-if_false in
    at_error c.from_residual.result (Answers c.args.self.now c.apply.new.self c.args.question)
    (λ e. Answers-low_refused c.apply.new.self _ e b c.in_err-low.ensures)
    c.from_residual.ensures.0

pub returns-in_err-high : goal.returns-in_err-high
returns-in_err-high t c =
    let b = branching t (goal.at.returns-in_err-high t c).After-branches-if_false in
    at_error c.from_residual-in_err-high.result (Answers c.args.self.now c.apply-2.new.self c.args.question)
    (λ e. Answers-high_refused c.apply.new.self c.apply-2.new.self c.in_ok-low.low _ e b c.in_ok-low.ensures c.in_err-high.ensures)
    c.from_residual-in_err-high.ensures.0

pub join-requires : goal.join-requires
join-requires t c =
    let b = branching t (goal.at.join-requires t c).After-branches-if_false in
    IsHalved-answered c.apply.new.self c.apply-2.new.self c.in_ok-low.low c.in_ok-high.high b c.in_ok-low.ensures c.in_ok-high.ensures

pub returns : goal.returns
returns t c =
    let b = branching t (goal.at.returns t c).After-branches-if_false in
    Answers-joined c.apply.new.self c.apply-2.new.self c.join.new.self c.in_ok-low.low c.in_ok-high.high c.join.result b c.in_ok-low.ensures c.in_ok-high.ensures c.join.ensures
