use Rattle.std.proofs.Common.{◌≡◌, ◌∙◌, sym, true, false, get_or}
use Rattle.std.proofs.lemmas.Bool.{false≢true}
use Rattle.std.proofs.lemmas.List.Elements.{All-contains}
use Rattle.featured_systems.specs.Rounds.{states_at}
use Rattle.featured_systems.proofs.lists.touch_from.Goals as goal

pub returns-clause-left : goal.returns-clause-left
returns-clause-left g c = λ t there away.
    absurd (false≢true (sym away ∙ All-contains (λ u. get_or c.touch.new.touched.items (get_or (states_at true c.args.transitions.now) u 0) false ≡ true) c.args.numbers.now t c.touch.ensures.marked there))
