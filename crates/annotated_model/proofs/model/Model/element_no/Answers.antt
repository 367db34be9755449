use Rattle.std.proofs.Common.{sym, ap, ◌∙◌, map}
use Rattle.meaning.specs.Texts.{place_of}
use Rattle.annotated_model.specs.View.{element_view}
use Rattle.annotated_model.proofs.KnownLaws.{map_twice}
use Rattle.annotated_model.proofs.model.Model.element_no.Goals as goal

pub returns : goal.returns
returns c =
    let name = c.args.name.now in
    c.find.ensures ∙ ap (place_of name) (c.self.invariant.0 ∙ sym (map_twice (λ e. e.name) element_view c.self.inside.elements))
    ∙ ap (λ m. place_of name (map (λ e. e.name) m.elements)) c.self.view_is
