use Rattle.std.proofs.Common.{◌≡◌, [], map, subst, ap, ◌∙◌}
use Rattle.std.specs.Prelude.{codes, IfOk, IfErr, option_map}
use Rattle.meaning.specs.Counts.{capped}
use Rattle.meaning.specs.BundlePlaces.{Table}
use Rattle.meaning.specs.Documents.{list_at}
use Rattle.conditions.specs.TableRows.{first_bad, bad_rows}
use Rattle.doc_tree.specs.View.{document, documents}
use Rattle.lifted_case.specs.ReadFaults.{Finds, size_at}
use Rattle.lifted_case.proofs.FirstFault.{told_place, told_again}
use Rattle.lifted_case.proofs.faults.table.check_table.Goals as goal

pub returns-clause-kept : goal.returns-clause-kept
returns-clause-kept c =
    let d = document c.args.doc.now in
    let rows = bad_rows (size_at (codes "features") d) (list_at (codes "table") d) in
    let place = told_place c.place_of.result rows
    (c.place_of.ensures ∙ (c.in_ok-row.ensures ∙ (ap (λ n. option_map capped (first_bad n (documents c.list_at.result.now))) c.size_at.ensures.size
    ∙ ap (λ ds. option_map capped (first_bad (size_at (codes "features") d) ds)) c.list_at.ensures))) in
    subst (λ fs. IfOk c.check_place.result (λ _. fs ≡ [])) (told_again 5 Table rows) (c.check_place.ensures.kept (map capped rows) place)

pub returns-clause-fault : goal.returns-clause-fault
returns-clause-fault c =
    let d = document c.args.doc.now in
    let rows = bad_rows (size_at (codes "features") d) (list_at (codes "table") d) in
    let place = told_place c.place_of.result rows
    (c.place_of.ensures ∙ (c.in_ok-row.ensures ∙ (ap (λ n. option_map capped (first_bad n (documents c.list_at.result.now))) c.size_at.ensures.size
    ∙ ap (λ ds. option_map capped (first_bad (size_at (codes "features") d) ds)) c.list_at.ensures))) in
    subst (λ fs. IfErr c.check_place.result (Finds fs)) (told_again 5 Table rows) (c.check_place.ensures.fault (map capped rows) place)
