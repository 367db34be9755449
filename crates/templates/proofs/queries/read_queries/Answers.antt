use Rattle.std.proofs.Common.{◌≡◌, ◌∙◌, sym, ap, subst, [], None}
use Rattle.std.specs.Prelude.{codes, Option, ℕ}
use Rattle.meaning.specs.BundlePlaces.{broken_at, or_else, faults_at}
use Rattle.meaning.specs.TemplateRules.{place_if_any, first_query_fault}
use Rattle.doc_tree.specs.Places.{part_of}
use Rattle.doc_tree.specs.View.{document}
use Rattle.templates.specs.Faults.{IsFirst, faults_here}
use Rattle.templates.specs.NodeRules.{seeing}
use Rattle.templates.specs.QueryReads.{place_at_member, check_place}
use Rattle.templates.proofs.Firsts.{at_error}
use Rattle.templates.proofs.QueryLaws.{texts_fit, told_place, second_place, first_place_is}
use Rattle.templates.proofs.queries.read_queries.Goals as goal

pub read_query-requires-clause-fits : goal.read_query-requires-clause-fits
read_query-requires-clause-fits c = (texts_fit (document c.args.node.now) c.requires.fits).guard

pub read_check_queries-requires-clause-absent_fits : goal.read_check_queries-requires-clause-absent_fits
read_check_queries-requires-clause-absent_fits c = (texts_fit (document c.args.node.now) c.requires.fits).absent

pub read_check_queries-requires-clause-demanded_fits : goal.read_check_queries-requires-clause-demanded_fits
read_check_queries-requires-clause-demanded_fits c = (texts_fit (document c.args.node.now) c.requires.fits).demanded

pub returns-in_err-check-clause-fault : goal.returns-in_err-check-clause-fault
returns-in_err-check-clause-fault c =
    let m = c.args.model.now in
    let scope = c.args.scope.now in
    let d = document c.args.node.now in
    let p = c.args.place in
    let each : Option ℕ = place_at_member m scope (codes "each") d in
    let guard : Option ℕ = place_at_member m scope (codes "guard") d in
    let no_each : each ≡ None = told_place m scope (codes "each") d c.args.each c.requires.told ∙ c.in_ok-each.ensures.none in
    at_error c.from_residual-in_err-check.result c.in_err-check.field-0.0
    (IsFirst (faults_here p (broken_at 26 (place_if_any (first_query_fault (seeing m [] scope) (0, d))))))
    (subst (λ o. IsFirst (faults_here p (broken_at 26 o)) c.in_err-check.field-0.0) (sym (first_place_is m [] scope d))
    (second_place (part_of p.part) p.item p.sub each (or_else guard (check_place m scope d)) c.in_err-check.field-0.0 no_each
    (second_place (part_of p.part) p.item p.sub guard (check_place m scope d) c.in_err-check.field-0.0 c.in_ok-guard.ensures.none c.in_err-check.ensures.fault)))
    c.from_residual-in_err-check.ensures.1
