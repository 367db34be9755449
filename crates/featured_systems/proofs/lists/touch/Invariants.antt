use Rattle.std.proofs.Common.{◌≡◌, ℕ, length, get_or, take, true, false}
use Rattle.std.specs.List.{All}
use Rattle.featured_systems.specs.Rounds.{states_at}
use Rattle.featured_systems.proofs.lists.touch.Given as goal

abbrev pub invariant-loop-number : goal.invariant-loop-number
invariant-loop-number l = record {
  size : length l.touched.items ≡ length l.fn.touched.items;
  kept : (y : ℕ) → get_or l.fn.touched.items y false ≡ true → get_or l.touched.items y false ≡ true;
  marked : All (λ t. get_or l.touched.items (get_or (states_at true l.transitions) t 0) false ≡ true) (take l.number-index l.numbers);
}
