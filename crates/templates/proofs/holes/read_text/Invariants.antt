use Rattle.std.proofs.Common.{map, length}
use denote.Shadow.{shadow}
use denote.Text.{Utf8}
use Rattle.std.specs.Prelude.{string_bytes}
use Rattle.templates.specs.View.{piece_view}
use Rattle.templates.specs.TextSoFar.{TextSoFar}
use Rattle.templates.proofs.holes.read_text.Given as goal

abbrev pub invariant-rest : goal.invariant-rest
invariant-rest l = record {
  utf8 : shadow (Utf8 l.rest);
  so_far : TextSoFar l.model l.scope l.counts l.text l.holes l.rest (map piece_view l.pieces.done.items) (string_bytes l.pieces.words);
}

abbrev pub decreases-rest : goal.decreases-rest
decreases-rest l = length l.rest
