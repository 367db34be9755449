use Rattle.std.specs.Prelude.{string_bytes}
use Rattle.cond_text.proofs.NamePlaces.{distinct_places}
use Rattle.cond_text.proofs.names.Names.count.Goals as goal

pub returns-clause-distinct : goal.returns-clause-distinct
returns-clause-distinct c =
    rw (← c.self.view_is) (distinct_places string_bytes c.self.inside.texts.keys c.len.ensures.unique)
