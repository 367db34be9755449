use Rattle.std.proofs.Common.{◌≡◌, ◌++◌, map, drop, string_bytes}
use Rattle.meaning.specs.Templates.{in_front}
use Rattle.lifted_case.specs.CaseView.{case_part_of}
use Rattle.lifting.specs.TextParts.{parts_of}
use Rattle.lifting.proofs.texts.text_parts.Given as goal

-- the parts so far, with the words that were not ended and the pieces that are left, are all parts
abbrev pub invariant-pieces : goal.invariant-pieces
invariant-pieces l = map case_part_of l.parts.items ++ in_front (string_bytes l.words) (parts_of l.model l.bound (drop l.piece-index l.pieces)) ≡ parts_of l.model l.bound l.pieces
