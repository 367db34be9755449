use Rattle.std.proofs.Common.{◌≡◌, [], sym, ap, ◌∙◌, subst, map}
use Rattle.std.proofs.lemmas.Result.{err_from_is_err_and}
use Rattle.doc_tree.specs.View.{document}
use Rattle.annotated_model.specs.View.{type_view, element_view}
use Rattle.annotated_model.specs.Faults.{IsFirst}
use Rattle.annotated_model.specs.Owners.{owners_broken}
use Rattle.annotated_model.proofs.WholeReads.{at_links, at_systems, at_owners, no_fault, model_is, can_join}
use Rattle.annotated_model.proofs.read.read_later.Goals as goal

pub returns-in_err-links-clause-fault : goal.returns-in_err-links-clause-fault
returns-in_err-links-clause-fault c =
    let p = err_from_is_err_and c.from_residual.result c.from_residual.ensures.1 in
    rw (p.1, p.2) (at_links c.args.features.now (document c.args.model.now) c.requires.none c.in_err-links.field-0.0 c.in_err-links.ensures.fault)

pub returns-in_err-systems-clause-fault : goal.returns-in_err-systems-clause-fault
returns-in_err-systems-clause-fault c =
    let p = err_from_is_err_and c.from_residual-in_err-systems.result c.from_residual-in_err-systems.ensures.1 in
    rw (p.1, p.2)
    (at_systems c.args.features.now (document c.args.model.now) c.requires.none c.in_ok-links.ensures.none c.in_err-systems.field-0.0 c.in_err-systems.ensures.fault)

pub returns-in_err-check_owners-clause-fault : goal.returns-in_err-check_owners-clause-fault
returns-in_err-check_owners-clause-fault c =
    let p = err_from_is_err_and c.from_residual-in_err-check_owners.result c.from_residual-in_err-check_owners.ensures.1 in
    let owners = c.in_ok-systems.owners in
    let stop = c.in_err-check_owners.field-0.0 in
    rw (p.1, p.2)
    (at_owners c.args.features.now (document c.args.model.now) c.requires.none c.in_ok-links.ensures.none c.in_ok-systems.ensures.none c.args.known.now
    c.requires.knows owners c.in_ok-systems.ensures.owners stop
    (subst (λ es. IsFirst (owners_broken (map type_view c.args.known.now.types) owners 0 (map element_view es)) stop) c.list-2.ensures
    (subst (λ ts. IsFirst (owners_broken (map type_view ts) owners 0 (map element_view c.list-2.result.now)) stop) c.list.ensures c.in_err-check_owners.ensures.fault)))

pub returns-clause-fit : goal.returns-clause-fit
returns-clause-fit c =
    let owners = c.in_ok-systems.owners in
    let none : owners_broken (map type_view c.args.known.now.types) owners 0 (map element_view c.args.known.now.elements) ≡ [] =
    ap (λ es. owners_broken (map type_view c.args.known.now.types) owners 0 (map element_view es)) (sym c.list-2.ensures)
    ∙ ap (λ ts. owners_broken (map type_view ts) owners 0 (map element_view c.list-2.result.now)) (sym c.list.ensures) ∙ c.in_ok-check_owners.ensures.none in
    can_join c.args.features.now (document c.args.model.now) c.requires.none c.in_ok-links.ensures.none c.in_ok-systems.ensures.none c.args.known.now
    c.requires.knows owners c.in_ok-systems.ensures.owners none c.in_ok-links.links c.in_ok-systems.systems c.in_ok-links.ensures.value c.in_ok-systems.ensures.value

pub returns-clause-value : goal.returns-clause-value
returns-clause-value c =
    let owners = c.in_ok-systems.owners in
    let none : owners_broken (map type_view c.args.known.now.types) owners 0 (map element_view c.args.known.now.elements) ≡ [] =
    ap (λ es. owners_broken (map type_view c.args.known.now.types) owners 0 (map element_view es)) (sym c.list-2.ensures)
    ∙ ap (λ ts. owners_broken (map type_view ts) owners 0 (map element_view c.list-2.result.now)) (sym c.list.ensures) ∙ c.in_ok-check_owners.ensures.none in
    model_is c.args.features.now (document c.args.model.now) c.requires.none c.in_ok-links.ensures.none c.in_ok-systems.ensures.none c.args.known.now
    c.requires.knows owners c.in_ok-systems.ensures.owners none c.in_ok-links.links c.in_ok-systems.systems c.in_ok-links.ensures.value c.in_ok-systems.ensures.value

pub returns-clause-none : goal.returns-clause-none
returns-clause-none c =
    let owners = c.in_ok-systems.owners in
    let none : owners_broken (map type_view c.args.known.now.types) owners 0 (map element_view c.args.known.now.elements) ≡ [] =
    ap (λ es. owners_broken (map type_view c.args.known.now.types) owners 0 (map element_view es)) (sym c.list-2.ensures)
    ∙ ap (λ ts. owners_broken (map type_view ts) owners 0 (map element_view c.list-2.result.now)) (sym c.list.ensures) ∙ c.in_ok-check_owners.ensures.none in
    no_fault c.args.features.now (document c.args.model.now) c.requires.none c.in_ok-links.ensures.none c.in_ok-systems.ensures.none c.args.known.now
    c.requires.knows owners c.in_ok-systems.ensures.owners none
