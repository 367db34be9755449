use Rattle.std.proofs.Common.{◌≡◌, ◌<◌, ◌^◌, drop}
use Rattle.std.specs.List.{list_all}
use Rattle.meaning.specs.Words.{is_digit, value_from}
use Rattle.workbench.proofs.words.number_from.Given as goal

-- the number so far, with the digits that are left, is that of all digits
abbrev pub invariant-digits : goal.invariant-digits
invariant-digits l =
    (value_from l.number (drop l.digit-index l.digits) ≡ value_from 0 l.digits)
    × ((list_all is_digit (drop l.digit-index l.digits) ≡ list_all is_digit l.digits)
    × (l.number < 10 ^ l.digit-index))
