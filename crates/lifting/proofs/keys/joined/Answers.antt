use Rattle.lifting.proofs.KeyJoins.{next_joined, no_first}
use Rattle.lifting.proofs.keys.joined.Goals as goal

pub numbers-preserved : goal.numbers-preserved
numbers-preserved c =
    let more = next_joined c.args.numbers.now c.numbers.number-index c.numbers.first c.numbers.invariant.first c.numbers-test.true in
    record {
      text = cc (c.in_ok-push_str.ensures.bytes, c.in_ok-separate.ensures, c.in_ok-digits.ensures.ok, c.as_str.ensures.value, c.numbers.invariant.text, more);
      first = no_first c.numbers.number-index;
    }
