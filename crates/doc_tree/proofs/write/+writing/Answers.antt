use Rattle.std.proofs.Common.{◌∙◌, refl}
use Rattle.serde_json.specs.View.{view}
use Rattle.serde_json.proofs.Views.{view-Array, view-Object}
use Rattle.doc_tree.specs.Order.{has_no_other, items_have_no_other, values_have_no_other, is_in_order, items_in_order, values_in_order}
use Rattle.doc_tree.proofs.Writing.{ItemsStandFor-step, items-step, MembersStandFor-insert, values-step, StandsFor-list, StandsFor-table}
use Rattle.doc_tree.proofs.write.+writing.Goals as goal

pub items_from-items-preserved : goal.items_from-items-preserved
items_from-items-preserved t c = record {
  done = ItemsStandFor-step view _ _ _ c.args.docs.now c.items.doc-index _ c.in_ok-push.ensures.items c.items-test.true c.doc-item.is c.items.invariant.done c.in_ok-value_from.ensures;
  no_other = (items-step has_no_other items_have_no_other (λ d ds. refl) c.args.docs.now c.items.doc-index _ c.items-test.true c.doc-item.is c.items.invariant.no_other).1;
  in_order = (items-step is_in_order items_in_order (λ d ds. refl) c.args.docs.now c.items.doc-index _ c.items-test.true c.doc-item.is c.items.invariant.in_order).1;
}

pub members_from-members-preserved : goal.members_from-members-preserved
members_from-members-preserved t c = record {
  done = MembersStandFor-insert _ _ _ _ c.args.entries.now c.members.entry-index _ c.in_ok-insert.ensures.entries (c.in_ok-name.ensures.ok ∙ c.text.ensures)
      c.members-test.true c.entry-item.is c.requires.rise c.members.invariant.done c.in_ok-value.ensures;
  rise = c.members.invariant.rise;
  no_other = (values-step has_no_other values_have_no_other (λ k d ms. refl) c.args.entries.now c.members.entry-index _ c.members-test.true c.entry-item.is c.members.invariant.no_other).1;
  in_order = (values-step is_in_order values_in_order (λ k d ms. refl) c.args.entries.now c.members.entry-index _ c.members-test.true c.entry-item.is c.members.invariant.in_order).1;
}

pub value_from-returns-in_ok-items_from-in-List : goal.value_from-returns-in_ok-items_from-in-List
value_from-returns-in_ok-items_from-in-List t c =
    StandsFor-list _ c.args.doc.now _ _ c.list.result.now (view-Array _) c.in-List.is c.list.ensures c.in_ok-items_from-in-List.ensures

pub value_from-returns-in_ok-members_from-in-Table : goal.value_from-returns-in_ok-members_from-in-Table
value_from-returns-in_ok-members_from-in-Table t c =
    StandsFor-table _ c.args.doc.now _ _ c.list-in-Table.result.now (view-Object _) c.in-Table.is c.list-in-Table.ensures
    c.in_ok-members_from-in-Table.ensures
