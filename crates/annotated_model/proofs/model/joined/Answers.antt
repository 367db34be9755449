use Rattle.std.proofs.Common.{◌≡◌, sym, ap, ◌∙◌, subst, map}
use Rattle.meaning.specs.Texts.{place_of}
use Rattle.annotated_model.specs.View.{type_view, kind_view, element_view, link_view, system_view}
use Rattle.annotated_model.specs.ModelFacts.{KeepsRules}
use Rattle.annotated_model.specs.ModelTexts.{ModelHasTexts}
use Rattle.annotated_model.proofs.KnownLaws.{map_twice}
use Rattle.annotated_model.proofs.SystemPlacesLaw.{tell_systems}
use Rattle.annotated_model.proofs.model.joined.Goals as goal

pub invariant_of-result : goal.invariant_of-result
invariant_of-result c =
    let before = c.args.known.elements in
    let after = c.with_systems-elements.result in
    let views = c.with_systems-elements.ensures.elements in
    let names = c.args.known.element_names in
    let owners = c.args.owners.now in
    let named : names ≡ map (λ e. e.name) after =
    c.requires.named ∙ sym (map_twice (λ e. e.name) element_view before) ∙ ap (map (λ e. e.name)) (sym views) ∙ map_twice (λ e. e.name) element_view after in (
      named,
      tell_systems after (map system_view c.args.systems) names owners record {
        named = named;
        placed = c.with_systems-elements.ensures.systems ∙ sym (map_twice (λ s. place_of s owners) (λ e. e.name) (map element_view before))
            ∙ ap (map (λ s. place_of s owners)) (map_twice (λ e. e.name) element_view before ∙ sym c.requires.named);
        owned = map_twice (λ s. s.element) system_view c.args.systems ∙ c.requires.owned;
        names_differ = c.requires.names_differ;
        owners_differ = c.requires.owners_differ;
        known = c.requires.owners_known;
      },
      subst (λ es. KeepsRules record {
        types = map type_view c.args.known.types;
        kinds = map kind_view c.args.known.kinds;
        labels = c.args.known.labels;
        elements = es;
        links = map link_view c.args.links;
        systems = map system_view c.args.systems;
      }) (sym views) c.requires.rules,
      subst (λ es. ModelHasTexts record {
        types = map type_view c.args.known.types;
        kinds = map kind_view c.args.known.kinds;
        labels = c.args.known.labels;
        elements = es;
        links = map link_view c.args.links;
        systems = map system_view c.args.systems;
      }) (sym views) c.requires.texts,
    )
