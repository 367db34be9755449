-- What the answer of a replay means.
use Rattle.std.specs.Prelude.{ℕ, Result, Ok, Err}
use Rattle.meaning.specs.Replay.{Replayed, Ends}
use Rattle.meaning.specs.Replay as meaning
use Rattle.run_replay.specs.declared.fault.ReplayFault.{ReplayFault}
use Rattle.run_replay.specs.declared.fault.ReplayFault.TheVariants.{NotInitial, NotJoined, NotPresent}

abbrev pub fault_view : ReplayFault → Replayed
fault_view NotInitial = meaning.NotInitial
fault_view (NotJoined step) = meaning.NotJoined step
fault_view (NotPresent step) = meaning.NotPresent step

abbrev pub replayed : Result ℕ ReplayFault → Replayed
replayed (Ok end) = Ends end
replayed (Err fault) = fault_view fault
