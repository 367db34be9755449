use Rattle.std.proofs.Common.{sym, subst}
use Rattle.lifted_case.specs.CaseIds.{NamesAlike}
use Rattle.lifted_case.proofs.CaseIds.{NamesAlike-exported}
use Rattle.lifted_case.proofs.case_ids.case_ids.Goals as goal

pub place-requires-clause-alike : goal.place-requires-clause-alike
place-requires-clause-alike c =
    subst (λ ids. NamesAlike c.args.roots.now ids) (sym c.list.ensures)
    (NamesAlike-exported c.args.d.now.region c.args.roots.now c.in_ok-table.table c.in_ok-table.found c.in_ok-table.ensures)
