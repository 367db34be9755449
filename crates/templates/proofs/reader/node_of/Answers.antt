use Rattle.std.proofs.Common.{◌≤◌, [], length, sym, subst}
use Rattle.std.specs.Prelude.{unwrap_or}
use Rattle.templates.proofs.ReaderSteps.{few_new}
use Rattle.templates.proofs.reader.node_of.Goals as goal

pub returns-clause-few : goal.returns-clause-few
returns-clause-few c =
    subst (λ new. length (unwrap_or new []) ≤ 3) (sym c.query_parts-new.ensures.new) (few_new c.args.parts.queries.each c.requires.parts.queries.few)
