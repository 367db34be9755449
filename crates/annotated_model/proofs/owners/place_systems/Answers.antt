use Rattle.std.proofs.Common.{◌∙◌, ap, ◌<◌, length, arith}
use Rattle.meaning.specs.Texts.{place_of}
use Rattle.annotated_model.proofs.PlacedSystems.{same_views, placed_next}
use Rattle.annotated_model.proofs.owners.place_systems.Goals as goal

pub elements-preserved : goal.elements-preserved
elements-preserved c =
    let xs = c.elements.elements in
    let i = c.elements.element-index in
    let item = c.element-item.result in
    let lt : i < length xs = omega arith in
    record {
      elements = same_views xs i item c.find-system.result lt ∙ c.elements.invariant.elements;
      systems = placed_next (λ e. place_of e.name c.args.owners.now) xs c.args.elements.now i item c.find-system.result lt
          c.elements.invariant.elements c.elements.invariant.systems
          (c.find-system.ensures ∙ ap (λ s. place_of s c.args.owners.now) c.text.ensures);
    }
