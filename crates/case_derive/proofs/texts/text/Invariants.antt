use Rattle.std.proofs.Common.{◌≡◌, map, take, string_bytes}
use Rattle.meaning.specs.Texts.{flat}
use Rattle.meaning.specs.CaseFiles.{part_at}
use Rattle.lifted_case.specs.CaseView.{case_part_of}
use Rattle.case_derive.proofs.texts.text.Given as goal

abbrev pub invariant-parts : goal.invariant-parts
invariant-parts l = string_bytes l.text ≡ flat (part_at l.count) (map case_part_of (take l.part-index l.parts))
