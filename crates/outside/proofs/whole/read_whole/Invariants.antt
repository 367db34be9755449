use Rattle.std.proofs.Common.{◌≡◌, ◌≤◌, ◌<◌, ◌+◌, ◌-◌, ◌^◌, ℕ, List, Some, vec_len}
use Rattle.meaning.specs.Counts.{RoseBy, NoFewer}
use Rattle.outside.specs.Pieces.{IsPlace, IsFront}
use Rattle.outside.proofs.whole.read_whole.Given as goal

abbrev pub invariant-pieces : goal.invariant-pieces
invariant-pieces g l = record {
  room : 0 < vec_len l.chunk;
  most : l.most ≡ l.limit + 1;
  limit : l.limit < 2 ^ 32;
  within : vec_len l.whole ≤ l.most;
  place : IsPlace (vec_len l.whole) (g.S.Shelf.next l.shelf);
  given : RoseBy (g.S.Shelf.given l.initial.shelf l.name) (g.S.Shelf.given l.shelf l.name) (vec_len l.whole);
  front : (file : List ℕ) → g.S.Shelf.holds l.initial.shelf l.name ≡ Some file → IsFront file l.whole.items;
  no_fewer_faults : NoFewer (g.S.Shelf.faults l.initial.shelf) (g.S.Shelf.faults l.shelf);
  no_less_given : NoFewer (g.S.Shelf.given l.initial.shelf) (g.S.Shelf.given l.shelf);
  same_files : g.S.Shelf.holds l.shelf ≡ g.S.Shelf.holds l.initial.shelf;
}

abbrev pub decreases-pieces : goal.decreases-pieces
decreases-pieces g l = l.most - vec_len l.whole
