-- Why a lifting stops.
use Rattle.std.specs.Prelude.{⊤}
use Rattle.worlds.specs.Algebra.{Algebra, IsRefusal}
use Rattle.worlds.specs.declared.stops.QStop.{QStop}
use Rattle.worlds.specs.declared.stops.QStop.TheVariants as query
use Rattle.lifting.specs.declared.stop.LiftStop.{LiftStop}
use Rattle.lifting.specs.declared.stop.LiftStop.TheVariants.{NodeLimit, BigCase, NoMemory}

abbrev pub as_lift_stop : QStop → LiftStop
as_lift_stop (query.NodeLimit stop) = NodeLimit stop
as_lift_stop query.TooMany = BigCase
as_lift_stop query.NoMemory = NoMemory

-- a condition was refused in between, there are too many entries, or memory ran out, which tells nothing
abbrev pub Halts : {C : Type 0} → Algebra C → Algebra C → Type 0 → LiftStop → Type 0
Halts before after many (NodeLimit stop) = IsRefusal before after stop
Halts before after many BigCase = many
Halts before after many NoMemory = ⊤
