use Rattle.std.proofs.Common.{◌∙◌, sym}
use Rattle.std.specs.Prelude.{string_bytes}
use Rattle.cond_text.proofs.NamePlaces.{position_is_place}
use Rattle.cond_text.proofs.names.Names.find.Goals as goal

pub returns-in-Some : goal.returns-in-Some
returns-in-Some c =
    rw (← c.self.view_is) (sym c.in-Some.is ∙ (c.get_index_of.ensures.index ∙ position_is_place string_bytes c.args.name.now c.self.inside.texts.keys))

pub returns-in-None : goal.returns-in-None
returns-in-None c =
    rw (← c.self.view_is) (sym c.in-None.is ∙ (c.get_index_of.ensures.index ∙ position_is_place string_bytes c.args.name.now c.self.inside.texts.keys))
