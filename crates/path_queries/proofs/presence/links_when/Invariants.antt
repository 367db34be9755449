use Rattle.std.proofs.Common.{◌≡◌, ◌*◌, ◌+◌, take, length, map, true}
use Rattle.std.specs.List.{sum_by, All}
use Rattle.meaning.specs.Expressions.{size_of}
use Rattle.worlds.specs.Algebra.{Worked}
use Rattle.path_queries.specs.Presence.{IsEdge, arrow_at, arrow_of}
use Rattle.path_queries.proofs.presence.links_when.Given as goal

abbrev pub invariant-loop-l : goal.invariant-loop-l
invariant-loop-l g l =
    let algebra = g.W.Worlds.algebra in
    record {
      worked : Worked (sum_by (λ k. 8 * size_of k.presence + 2) (take l.l l.model.links)) (algebra l.fn.w) (algebra l.w);
      size : length l.edges.items ≡ l.l;
      edges : All (IsEdge (algebra l.w) (length l.model.elements)) l.edges.items;
      arrows : (x : _) → (algebra l.w).is_world x ≡ true → map (arrow_at (algebra l.w) x) l.edges.items ≡ map (arrow_of l.model x) (take l.l l.model.links);
    }
