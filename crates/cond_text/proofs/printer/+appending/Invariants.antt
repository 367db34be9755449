use Rattle.std.proofs.Common.{◌+◌, ◌*◌}
use Rattle.meaning.specs.Expressions.{size_of}
use Rattle.cond_text.specs.View.{expression}
use Rattle.cond_text.proofs.printer.+appending.Given as goal

abbrev pub decreases-append_operand : goal.decreases-append_operand
decreases-append_operand l = 2 * size_of (expression l.e.now) + 1

abbrev pub decreases-append : goal.decreases-append
decreases-append l = 2 * size_of (expression l.e.now)
