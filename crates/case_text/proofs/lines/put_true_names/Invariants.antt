use Rattle.std.proofs.Common.{◌≡◌, ◌++◌, take}
use Rattle.case_text.proofs.Pieces.{names_from}
use Rattle.case_text.proofs.lines.put_true_names.Given as goal

abbrev pub invariant-features : goal.invariant-features
invariant-features l = l.out.items ≡ l.fn.out.items ++ names_from l.world 0 (take l.feature l.fn.features)
