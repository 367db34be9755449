use Rattle.std.proofs.Common.{◌≡◌, ◌∙◌, sym, ap, subst, ◌+◌, ◌≤◌, [], length, arith}
use Rattle.std.proofs.lemmas.Result.{IfOk-weaker}
use Rattle.worlds.proofs.Kept.{worked_then, worked_at_most}
use Rattle.path_queries.proofs.Asked.{query_within}
use Rattle.path_queries.proofs.WholeQuery.{asks_within, some_whole}
use Rattle.path_queries.proofs.answering.some.Goals as goal

pub returns-in_err-asked-clause-worked : goal.returns-in_err-asked-clause-worked
returns-in_err-asked-clause-worked g c =
    let within = query_within c.args.model.now c.args.query.now c.requires.variables in
    worked_at_most c.prepare.ensures.worked (omega (arith, within))

pub returns-clause-worked : goal.returns-clause-worked
returns-clause-worked g c =
    worked_at_most (worked_then c.prepare.ensures.worked c.any_answer.ensures.worked)
    (asks_within c.in_ok-asked.asked c.args.model.now c.args.query.now c.in_ok-asked.ensures.model c.in_ok-asked.ensures.query c.requires.variables)

pub returns-clause-made : goal.returns-clause-made
returns-clause-made g c =
    IfOk-weaker c.any_answer.result _ _
    (λ found h. some_whole c.in_ok-asked.asked c.args.model.now c.args.query.now c.in_ok-asked.ensures.model c.in_ok-asked.ensures.query c.args.bound.now c.in_ok-asked.ensures.bound c.args.under
    c.prepare.ensures.worked.kept c.requires.under c.any_answer.ensures.worked.kept h) c.any_answer.ensures.made
