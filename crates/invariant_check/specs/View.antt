-- What the data of this crate mean: the words of the definitions.
use Rattle.std.specs.Prelude.{ℕ, List}
use Rattle.meaning.specs.Expressions.{name_bound}
use Rattle.meaning.specs.Systems as meaning
use Rattle.cond_text.specs.View.{expression}
use Rattle.invariant_check.specs.declared.data.Property.{Property}
use Rattle.invariant_check.specs.declared.data.Property.TheVariants.{Never, NoDeadlock}
use Rattle.invariant_check.specs.declared.data.Run.{Run}

abbrev pub property : Property → meaning.Property
property (Never e) = meaning.Never (expression e)
property NoDeadlock = meaning.NoDeadlock

-- the least number above all labels of a property
abbrev pub label_bound : meaning.Property → ℕ
label_bound (meaning.Never e) = name_bound e
label_bound meaning.NoDeadlock = 0

-- the start and the steps
abbrev pub run_view : Run → ℕ × List ℕ
run_view r = (r.start, r.steps)
