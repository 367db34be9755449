use Rattle.std.proofs.Common.{◌+◌, [], ◌∷◌, ◌++◌, refl, sym, ap, ◌∙◌, map, drop, arith}
use Rattle.meaning.specs.BundlePlaces.{is_among}
use Rattle.doc_tree.specs.View.{document, documents}
use Rattle.templates.specs.declared.nodes.Seen.{Seen}
use Rattle.templates.specs.Faults.{IsFirst}
use Rattle.templates.specs.View.{node_view}
use Rattle.templates.specs.NodeRules.{nodes_told, nodes_broken}
use Rattle.templates.specs.Readers.{around_of, ids_of}
use Rattle.templates.specs.Seen.{scopes_of, scope_next}
use Rattle.templates.proofs.Firsts.{at_error}
use Rattle.templates.proofs.SupportLaws.{ids_before, ids_many}
use Rattle.templates.proofs.NodeSteps.{item_inside, seen_more, told_more, clear_more, node_stops, clear_whole}
use Rattle.templates.proofs.reader.Reader.add_nodes.Goals as goal

pub returns-in_err-found-clause-fault : goal.returns-in_err-found-clause-fault
returns-in_err-found-clause-fault c =
    let r = c.args.self.now in
    let stop = c.in_err-found.field-0.0 in
    let all = nodes_broken (around_of r) [] 0 (documents r.nodes.now) in
    at_error c.from_residual.result stop (IsFirst all)
    (node_stops r c.nodes.seen c.nodes.number c.node-item.result all stop (omega arith) c.node-item.is c.nodes.invariant.none c.in_err-found.ensures.fault)
    c.from_residual.ensures.1

pub add-requires : goal.add-requires
add-requires c = item_inside c.nodes.seen.scopes.all.items c.in_ok-found.found.place (scope_next c.args.self.now c.nodes.seen (document c.node-item.result)) c.in_ok-found.ensures.place

pub add_new-requires-clause-few : goal.add_new-requires-clause-few
add_new-requires-clause-few c =
    let items = c.args.self.now.nodes.now in
    let i = c.nodes.number in
    let many = ids_many items i c.nodes.seen.ids (c.nodes.invariant.seen.ids ∙ sym (ids_before items i)) (omega arith) in
    let few = c.nodes.invariant.seen.few in omega arith

pub add_new-requires-clause-new : goal.add_new-requires-clause-new
add_new-requires-clause-new c = ap (is_among c.nodes.seen.ids) c.text_at.ensures ∙ c.in_ok-found.ensures.new_id

pub nodes-preserved : goal.nodes-preserved
nodes-preserved c =
    let r = c.args.self.now in
    let seen = c.nodes.seen in
    let i = c.nodes.number in
    let x = c.node-item.result in
    let found = c.in_ok-found.found in
    let told = c.in_ok-found.ensures in
    let scope = scope_next r seen (document x) in
    let next : Seen = record { ids = c.add_new.new.names; scopes = c.add.new.self } in
    let ids = c.in_ok-add_new.ensures.added ∙ ap (λ t. seen.ids ++ t ∷ []) c.text_at.ensures in
    record {
      seen = seen_more r seen next i x c.nodes.invariant.seen (omega arith) c.node-item.is found.place scope found.read.new told.place refl told.new told.few
          c.in_ok-add.ensures.all c.in_ok-add.ensures.spots told.within ids;
      formed = told.formed;
      value = ap (λ ns. map node_view ns ++ nodes_told r.model.now r.names.now r.parameters.now (ids_of r) (scopes_of next.scopes) (documents (drop (i + 1) r.nodes.now))) c.in_ok-push.ensures.items
          ∙ told_more r seen next i x c.nodes.invariant.seen (omega arith) c.node-item.is found.place scope found.read.new told.place refl told.new told.few
          c.in_ok-add.ensures.all c.in_ok-add.ensures.spots c.nodes.nodes.items found.read.node
          (nodes_told r.model.now r.names.now r.parameters.now (ids_of r) [] (documents r.nodes.now)) told.node c.nodes.invariant.value;
      none = clear_more r seen next i x c.nodes.invariant.seen (omega arith) c.node-item.is found.place scope found.read.new told.place refl told.new told.few
          c.in_ok-add.ensures.all c.in_ok-add.ensures.spots (nodes_broken (around_of r) [] 0 (documents r.nodes.now)) told.none c.nodes.invariant.none;
    }

pub returns-clause-none : goal.returns-clause-none
returns-clause-none c =
    let r = c.args.self.now in
    clear_whole r c.nodes.seen c.nodes.number (nodes_broken (around_of r) [] 0 (documents r.nodes.now)) (omega arith) c.nodes.invariant.none
