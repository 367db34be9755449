use Rattle.std.proofs.Common.{◌≡◌, ◌∙◌, sym, ap, subst, ◌+◌, ◌≤◌, [], length, arith}
use Rattle.worlds.proofs.Kept.{worked_then, worked_at_most}
use Rattle.path_queries.specs.View.{query}
use Rattle.path_queries.specs.Answering.{ManyAnswers, StopsWith}
use Rattle.path_queries.specs.Tuples.{Adds, Overflows}
use Rattle.path_queries.specs.Searching.{found_below, possible_below}
use Rattle.path_queries.proofs.Asked.{query_within}
use Rattle.path_queries.proofs.Exits.{stops_with}
use Rattle.path_queries.proofs.WholeQuery.{asks_within, stops_whole, rows_live, rows_somewhere, rows_ordered, rows_answer}
use Rattle.path_queries.proofs.answering.answers.Goals as goal

pub returns-in_err-asked-clause-worked : goal.returns-in_err-asked-clause-worked
returns-in_err-asked-clause-worked g c =
    let within = query_within c.args.model.now c.args.query.now c.requires.variables in
    worked_at_most c.prepare.ensures.worked (omega (arith, within))

pub returns-in_err-add_all-clause-worked : goal.returns-in_err-add_all-clause-worked
returns-in_err-add_all-clause-worked g c =
    worked_at_most (worked_then c.prepare.ensures.worked c.add_all.ensures.worked)
    (asks_within c.in_ok-asked.asked c.args.model.now c.args.query.now c.in_ok-asked.ensures.model c.in_ok-asked.ensures.query c.requires.variables)

pub returns-in_err-add_all-clause-stops : goal.returns-in_err-add_all-clause-stops
returns-in_err-add_all-clause-stops g c =
    let m = c.args.model.now in
    let q = c.args.query.now in
    let bound = c.args.bound.now in
    let under = c.args.under in
    let most = c.args.most in
    let s = c.in_ok-asked.asked in
    let asked = c.in_ok-asked.ensures in
    let before = g.W.Worlds.algebra c.args.w.now in
    let mid = g.W.Worlds.algebra c.prepare.new.w in
    let after = g.W.Worlds.algebra c.add_all.new.w in
    let stop = c.in_err-add_all.field-0.0 in
    let stops = subst (λ rs. StopsWith mid after (Overflows after rs (found_below mid s [] under) (possible_below s []) most) stop) c.new-tuples.ensures.items c.in_err-add_all.ensures.stops in
    stops_with c.from_residual-in_err-add_all.result (StopsWith before after (ManyAnswers before m (query q) bound under most)) stop c.from_residual-in_err-add_all.ensures.1
    (stops_whole s m q asked.model asked.query bound asked.bound under c.prepare.ensures.worked.kept c.requires.under c.add_all.ensures.worked.kept most stop stops)

pub returns-clause-worked : goal.returns-clause-worked
returns-clause-worked g c =
    worked_at_most (worked_then c.prepare.ensures.worked c.add_all.ensures.worked)
    (asks_within c.in_ok-asked.asked c.args.model.now c.args.query.now c.in_ok-asked.ensures.model c.in_ok-asked.ensures.query c.requires.variables)

pub returns-clause-live : goal.returns-clause-live
returns-clause-live g c =
    let under = c.args.under in
    let s = c.in_ok-asked.asked in
    let asked = c.in_ok-asked.ensures in
    let mid = g.W.Worlds.algebra c.prepare.new.w in
    let after = g.W.Worlds.algebra c.add_all.new.w in
    let to_none = subst (λ rs. Adds after rs c.add_all.new.rows.items (found_below mid s [] under) (possible_below s [])) c.new-tuples.ensures.items c.in_ok-add_all.ensures.added in
    let added = subst (λ rs. Adds after [] rs (found_below mid s [] under) (possible_below s [])) (sym c.of.ensures) to_none in
    rows_live s c.args.model.now c.args.query.now asked.model asked.query c.args.bound.now asked.bound under c.prepare.ensures.worked.kept c.requires.under c.add_all.ensures.worked.kept added

pub returns-clause-answers : goal.returns-clause-answers
returns-clause-answers g c =
    let under = c.args.under in
    let s = c.in_ok-asked.asked in
    let asked = c.in_ok-asked.ensures in
    let mid = g.W.Worlds.algebra c.prepare.new.w in
    let after = g.W.Worlds.algebra c.add_all.new.w in
    let to_none = subst (λ rs. Adds after rs c.add_all.new.rows.items (found_below mid s [] under) (possible_below s [])) c.new-tuples.ensures.items c.in_ok-add_all.ensures.added in
    let added = subst (λ rs. Adds after [] rs (found_below mid s [] under) (possible_below s [])) (sym c.of.ensures) to_none in
    rows_answer s c.args.model.now c.args.query.now asked.model asked.query c.args.bound.now asked.bound under c.prepare.ensures.worked.kept c.requires.under c.add_all.ensures.worked.kept added

pub returns-clause-somewhere : goal.returns-clause-somewhere
returns-clause-somewhere g c =
    let under = c.args.under in
    let s = c.in_ok-asked.asked in
    let asked = c.in_ok-asked.ensures in
    let mid = g.W.Worlds.algebra c.prepare.new.w in
    let after = g.W.Worlds.algebra c.add_all.new.w in
    let to_none = subst (λ rs. Adds after rs c.add_all.new.rows.items (found_below mid s [] under) (possible_below s [])) c.new-tuples.ensures.items c.in_ok-add_all.ensures.added in
    let added = subst (λ rs. Adds after [] rs (found_below mid s [] under) (possible_below s [])) (sym c.of.ensures) to_none in
    rows_somewhere s c.args.model.now c.args.query.now asked.model asked.query c.args.bound.now asked.bound under c.prepare.ensures.worked.kept c.requires.under c.add_all.ensures.worked.kept added

pub returns-clause-order : goal.returns-clause-order
returns-clause-order g c =
    let under = c.args.under in
    let s = c.in_ok-asked.asked in
    let asked = c.in_ok-asked.ensures in
    let mid = g.W.Worlds.algebra c.prepare.new.w in
    let after = g.W.Worlds.algebra c.add_all.new.w in
    let to_none = subst (λ rs. Adds after rs c.add_all.new.rows.items (found_below mid s [] under) (possible_below s [])) c.new-tuples.ensures.items c.in_ok-add_all.ensures.added in
    let added = subst (λ rs. Adds after [] rs (found_below mid s [] under) (possible_below s [])) (sym c.of.ensures) to_none in
    rows_ordered s c.args.model.now c.args.query.now asked.model asked.query c.args.bound.now asked.bound under c.prepare.ensures.worked.kept c.requires.under c.add_all.ensures.worked.kept added
