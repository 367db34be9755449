use Rattle.std.proofs.Common.{◌≡◌, [], subst, codes}
use Rattle.std.specs.List.{enumerate_from}
use Rattle.meaning.specs.BundlePlaces.{Links, requires}
use Rattle.doc_tree.specs.View.{document, documents}
use Rattle.annotated_model.specs.Faults.{IsFirst}
use Rattle.annotated_model.specs.Links.{link_faults_from}
use Rattle.annotated_model.specs.Parts.{link_faults}
use Rattle.annotated_model.proofs.ItemFaults.{at_error, first_in_list, none_in_list}
use Rattle.annotated_model.proofs.LinkLaws.{link_faults_are}
use Rattle.annotated_model.proofs.links.read_links.Goals as goal

pub returns-in_err-read_items-clause-fault : goal.returns-in_err-read_items-clause-fault
returns-in_err-read_items-clause-fault c =
    let features = c.args.features.now in
    let known = c.args.known.now in
    let model = document c.args.model.now in
    let stop = c.in_err-read_items.field-0.0 in
    at_error c.from_residual-in_err-read_items.result stop (IsFirst (link_faults features model))
    (first_in_list Links (codes "links") model (λ ds. link_faults_from features known (enumerate_from 0 ds)) (link_faults features model) (documents c.list_at.result.now)
    (link_faults_are features known model c.requires) c.list_at.ensures (subst (λ b. requires 2 b ≡ []) c.may_have_list.ensures c.in_ok-require.ensures.none) stop c.in_err-read_items.ensures.fault)
    c.from_residual-in_err-read_items.ensures.1

pub returns-clause-none : goal.returns-clause-none
returns-clause-none c =
    let features = c.args.features.now in
    let known = c.args.known.now in
    let model = document c.args.model.now in
    none_in_list Links (codes "links") model (λ ds. link_faults_from features known (enumerate_from 0 ds)) (link_faults features model) (documents c.list_at.result.now)
    (link_faults_are features known model c.requires) c.list_at.ensures (subst (λ b. requires 2 b ≡ []) c.may_have_list.ensures c.in_ok-require.ensures.none) c.in_ok-read_items.ensures.none
