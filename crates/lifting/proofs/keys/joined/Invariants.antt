use Rattle.std.proofs.Common.{◌≡◌, map, take, decimal, string_bytes}
use Rattle.std.specs.Prelude.{◌==◌}
use Rattle.std.specs.List.{join_with_byte}
use Rattle.lifting.proofs.keys.joined.Given as goal

abbrev pub invariant-numbers : goal.invariant-numbers
invariant-numbers l = record {
  text : string_bytes l.text ≡ join_with_byte 46 (map decimal (take l.number-index l.numbers));
  first : l.first ≡ (l.number-index == 0);
}
