use Rattle.std.proofs.Common.{[], ap, ◌∙◌}
use Rattle.std.specs.Prelude.{codes}
use Rattle.meaning.specs.Documents.{texts_in, list_at}
use Rattle.meaning.specs.CaseReading.{bad_names}
use Rattle.doc_tree.specs.View.{document}
use Rattle.lifted_case.specs.ReadFaults.{first_bad_after}
use Rattle.lifted_case.proofs.SeenNames.{first_bad_name_is}
use Rattle.lifted_case.proofs.faults.texts.check_names.Goals as goal

pub returns-clause-kept : goal.returns-clause-kept
returns-clause-kept c =
    let names = texts_in (list_at (codes "features") (document c.args.doc.now)) in
    c.check_place.ensures.kept (bad_names names)
    (c.in_ok-place.ensures ∙ (ap (λ ds. first_bad_after [] 0 (texts_in ds)) c.list_at.ensures ∙ first_bad_name_is names))

pub returns-clause-fault : goal.returns-clause-fault
returns-clause-fault c =
    let names = texts_in (list_at (codes "features") (document c.args.doc.now)) in
    c.check_place.ensures.fault (bad_names names)
    (c.in_ok-place.ensures ∙ (ap (λ ds. first_bad_after [] 0 (texts_in ds)) c.list_at.ensures ∙ first_bad_name_is names))
