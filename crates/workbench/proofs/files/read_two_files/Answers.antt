use Rattle.std.proofs.Common.{[], ◌∷◌}
use Rattle.workbench.specs.Run.{file_of}
use Rattle.workbench.proofs.Exits.{stops_with}
use Rattle.workbench.proofs.FileReads.{first_stops, second_stops}
use Rattle.workbench.proofs.files.read_two_files.Goals as goal

pub returns-in_err-bytes-clause-stopped : goal.returns-in_err-bytes-clause-stopped
returns-in_err-bytes-clause-stopped g c =
    stops_with _ _ _ c.from_residual.ensures.1 (first_stops (file_of c.args.first.now c.args.limit) (file_of c.args.second.now 1048576 ∷ []) _ _ _ c.in_err-bytes.ensures.stopped)

pub returns-in_err-chosen-clause-stopped : goal.returns-in_err-chosen-clause-stopped
returns-in_err-chosen-clause-stopped g c =
    stops_with _ _ _ c.from_residual-in_err-chosen.ensures.1
    (second_stops (file_of c.args.first.now c.args.limit) (file_of c.args.second.now 1048576) _ _ _ c.in_ok-bytes.ensures.read
    c.in_ok-bytes.ensures.same_files c.in_ok-bytes.ensures.no_fewer_faults c.in_ok-bytes.ensures.no_less_given _ _ c.in_err-chosen.ensures.stopped)
