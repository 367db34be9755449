use Rattle.std.proofs.Common.{◌≡◌, ◌∙◌, sym, ◌+◌, ◌++◌}
use Rattle.meaning.specs.QueryFaults.{a_negated_walk}
use Rattle.path_queries.specs.View.{constraint}
use Rattle.path_queries.specs.ConstraintReading.{ReadsNegated, ReadsConstraint, StopsAt, ConstraintStops}
use Rattle.path_queries.proofs.Exits.{ok_along, err_along}
use Rattle.path_queries.proofs.FirstConstraints.{not_reads, not_stops}
use Rattle.path_queries.proofs.parse_constraint.parse_constraint.Goals as goal

pub returns-then-is_word_at : goal.returns-then-is_word_at
returns-then-is_word_at c =
    let m = c.args.model.now in
    let scope = c.args.scope.now ++ c.args.new.now in
    let tokens = c.args.tokens.now in
    let is_not = sym c.is_word_at.ensures ∙ c.if-is_word_at.true in
    record {
      reads = ok_along c.parse_negated.result (λ read. ReadsNegated m scope tokens (c.args.at + 1) read.1 (constraint read.0))
          (λ read. ReadsConstraint m scope tokens c.args.at read.1 (constraint read.0))
          (λ read h. not_reads m scope tokens c.args.at read.1 (constraint read.0) is_not h) c.parse_negated.ensures.reads;
      stop = err_along c.parse_negated.result (StopsAt m scope tokens (c.args.at + 1) a_negated_walk) (ConstraintStops m scope tokens c.args.at)
          (λ stop h. not_stops m scope tokens c.args.at stop is_not h) c.parse_negated.ensures.stop;
    }
