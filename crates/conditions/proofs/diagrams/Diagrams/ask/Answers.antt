use Rattle.std.proofs.Common.{◌≡◌, ◌+◌, ◌-◌, ◌*◌, ◌^◌, ◌<◌, ◌≤◌, length, ◌∙◌, refl, arith}
use Rattle.meaning.specs.Bounds.{nodes_of_functions}
use Rattle.node_pool.specs.Functions.{pool_of}
use Rattle.meaning.specs.Cofactors.{IsThere}
use Rattle.conditions.specs.Questions.{first_of}
use Rattle.conditions.proofs.Counting.{few_after, limit_below, nodes_of_functions-more}
use Rattle.conditions.proofs.diagrams.Diagrams.ask.Goals as goal
use Rattle.conditions.proofs.diagrams.Diagrams.ask.Goals.{After-ask}

few_now : (c : After-ask) → length c.ask.new.self.nodes ≤ (c.saturating_add-self-inside.result + c.self.inside.taken) * (2 ^ c.ask.new.self.vars - 1)
few_now c =
    let old = c.self.inside.store in
    let new = c.ask.new.self in
    let p = c.ask.ensures.answers.progress in
    let small : length new.nodes ≤ 1048576 = omega (arith, p.region.within, p.region.few) in
    rw (p.grows.vars, c.saturating_add-self-inside.ensures)
    (few_after old.vars (first_of old.vars old.nodes c.args.question) c.self.inside.asked c.self.inside.taken (length old.nodes) (length new.nodes) c.self.invariant.few p.few small)

-- an earlier refusal still bounds the limit
still_below : (c : After-ask) → 0 < c.self.inside.refused → c.ask.new.self.limit < nodes_of_functions c.ask.new.self.vars (c.saturating_add-self-inside.result + c.self.inside.taken)
still_below c some =
    let old = c.self.inside.store in
    let p = c.ask.ensures.answers.progress in
    let before = c.self.invariant.bounded some in
    let more = nodes_of_functions-more old.vars (c.self.inside.asked + c.self.inside.taken) (c.saturating_add-self-inside.result + c.self.inside.taken) (omega (arith, c.saturating_add-self-inside.ensures)) in
    rw (p.grows.limit, p.grows.vars) (omega (arith, before, more))

full_below : (c : After-ask) → length c.ask.new.self.nodes ≡ c.ask.new.self.limit → c.ask.new.self.limit < nodes_of_functions c.ask.new.self.vars (c.saturating_add-self-inside.result + c.self.inside.taken)
full_below c full =
    let new = c.ask.new.self in
    limit_below new.vars (c.saturating_add-self-inside.result + c.self.inside.taken) new.limit new.nodes c.ask.ensures.answers.progress.region.reduced full
    (omega (arith, c.saturating_add-self-inside.ensures)) (few_now c)

valid_there : (c : After-ask) → IsThere (pool_of c.ask.new.self) c.self.inside.valid.0
valid_there c = omega (arith, c.self.invariant.valid_there, c.ask.ensures.answers.progress.grows.extends.no_shorter)

pub invariant_of-self : goal.invariant_of-self
invariant_of-self c =
    let at = (goal.at.invariant_of-self c).After-ask in
    record {
      region = c.ask.ensures.answers.progress.region;
      valid_there = valid_there at;
      few = few_now at;
      bounded = still_below at;
      shut = λ none. c.self.invariant.shut (omega (arith, c.ask.ensures.answers.progress.grows.limit));
    }

pub invariant_of-self-in-Err : goal.invariant_of-self-in-Err
invariant_of-self-in-Err c =
    let at = (goal.at.invariant_of-self-in-Err c).After-ask in
    record {
      region = c.ask.ensures.answers.progress.region;
      valid_there = valid_there at;
      few = few_now at;
      bounded = λ some. full_below at c.in-Err.ensures.answers.refused.full;
      shut = λ none. absurd (omega (arith, c.in-Err.ensures.if_open refl, c.ask.ensures.answers.progress.grows.limit));
    }

pub returns-in-Err : goal.returns-in-Err
returns-in-Err c =
    let p = c.ask.ensures.answers.progress in
    rw (← c.self.view_is) (record {
      valid_there = c.self.invariant.valid_there;
      grows = p.grows;
      valid = refl;
      asked = c.saturating_add-self-inside.ensures;
      refused = c.saturating_add-self-inside-in-Err.ensures;
      taken = refl;
      no_less_asked = omega (arith, c.saturating_add-self-inside.ensures);
      no_fewer_refused = omega (arith, c.saturating_add-self-inside-in-Err.ensures);
      answer = tt;
      exact = record {
        adds = p.adds;
        refused = record {
          full = c.in-Err.ensures.answers.refused.full ∙ p.grows.limit;
          told = c.used.ensures.value ∙ c.in-Err.ensures.answers.refused.full ∙ p.grows.limit;
          lacks = c.in-Err.ensures.answers.refused.lacks;
        };
      };
    })
