use Rattle.std.proofs.Common.{◌≡◌, ◌++◌, map, take, string_bytes}
use Rattle.meaning.specs.Texts.{spaced}
use Rattle.case_text.specs.Parts.{name_at}
use Rattle.case_text.proofs.lines.put_ends.Given as goal

abbrev pub invariant-targets : goal.invariant-targets
invariant-targets l =
    l.out.items ≡ (l.fn.out.items ++ l.fn.words) ++ spaced (map (name_at (map string_bytes l.identifiers)) (take l.target-index l.targets))
