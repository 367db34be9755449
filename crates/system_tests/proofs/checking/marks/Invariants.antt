use Rattle.std.proofs.Common.{◌≡◌, length}
use Rattle.system_tests.proofs.checking.marks.Given as goal

abbrev pub invariant-loop-c : goal.invariant-loop-c
invariant-loop-c g l = length l.marked.items ≡ l.c-index
