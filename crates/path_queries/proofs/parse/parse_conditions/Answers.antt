use Rattle.std.proofs.Common.{◌≡◌, ◌∙◌, sym, ◌+◌, ◌++◌, map}
use Rattle.path_queries.specs.View.{constraint}
use Rattle.path_queries.specs.ConstraintReading.{ReadsConstraints, ConstraintsStop}
use Rattle.path_queries.specs.VariableReading.{ReadsConditions, ConditionsStop}
use Rattle.path_queries.proofs.Exits.{ok_along, err_along}
use Rattle.path_queries.proofs.QueryLaws.{with_reads, with_stops, end_reads}
use Rattle.path_queries.proofs.parse.parse_conditions.Goals as goal

pub returns-then-is_word_at : goal.returns-then-is_word_at
returns-then-is_word_at c =
    let m = c.args.model.now in
    let scope = c.args.scope.now ++ c.args.new.now in
    let tokens = c.args.tokens.now in
    let is_with = sym c.is_word_at.ensures ∙ c.if-is_word_at.true in
    record {
      reads = ok_along c.parse_constraints.result (λ list. ReadsConstraints m scope tokens (c.args.at + 1) (map constraint list.items))
          (λ list. ReadsConditions m scope tokens c.args.at (map constraint list.items)) (λ list h. with_reads m scope tokens c.args.at (map constraint list.items) is_with h)
          c.parse_constraints.ensures.reads;
      stop = err_along c.parse_constraints.result (ConstraintsStop m scope tokens (c.args.at + 1)) (ConditionsStop m scope tokens c.args.at)
          (λ stop h. with_stops m scope tokens c.args.at stop is_with h) c.parse_constraints.ensures.stop;
    }

pub returns-else-is_word_at-clause-reads : goal.returns-else-is_word_at-clause-reads
returns-else-is_word_at-clause-reads c =
    rw (c.new.ensures.items)
    (end_reads c.args.model.now (c.args.scope.now ++ c.args.new.now) c.args.tokens.now c.args.at c.requires.begins (sym c.is_word_at.ensures ∙ c.if-is_word_at.false))
