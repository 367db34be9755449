-- What a case document counts: its nodes, and their branches, targets and witnesses.
use Rattle.std.specs.Prelude.{ℕ, ◌+◌, List, [], ◌∷◌, length, Option, None, Some}
use Rattle.meaning.specs.CaseFiles.{CaseNode, Finding}

abbrev pub entries_of_finding : Option Finding → ℕ
entries_of_finding None = 0
entries_of_finding (Some f) = length f.targets + length f.witnesses

abbrev pub entries_of_node : CaseNode → ℕ
entries_of_node n = 1 + (length n.branches + entries_of_finding n.finding)

abbrev pub entries_in : List CaseNode → ℕ
entries_in [] = 0
entries_in (n ∷ ns) = entries_of_node n + entries_in ns
