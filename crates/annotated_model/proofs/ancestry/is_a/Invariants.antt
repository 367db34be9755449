use Rattle.std.proofs.Common.{◌≡◌, ◌-◌, length, map}
use Rattle.meaning.specs.Models as meaning
use Rattle.annotated_model.specs.View.{type_view}
use Rattle.annotated_model.specs.Ancestry.{is_met_from}
use Rattle.annotated_model.proofs.ancestry.is_a.Given as goal

abbrev pub invariant-up : goal.invariant-up
invariant-up l = is_met_from (length l.types - l._step) (map type_view l.types) l.met l.of ≡ meaning.is_a (map type_view l.types) l.t l.of
