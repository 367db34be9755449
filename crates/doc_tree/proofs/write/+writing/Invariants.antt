use Rattle.std.proofs.Common.{map, IsTrue, take, drop}
use Rattle.serde_json.specs.View.{view, members_view}
use Rattle.doc_tree.specs.View.{documents, documents_of, members, members_of}
use Rattle.doc_tree.specs.Order.{items_have_no_other, items_in_order, names_rise, values_have_no_other, values_in_order}
use Rattle.doc_tree.specs.Written.{ItemsStandFor, MembersStandFor}
use Rattle.doc_tree.proofs.write.+writing.Given as goal

abbrev pub invariant-items_from-items : goal.invariant-items_from-items
invariant-items_from-items l = record {
  done : ItemsStandFor (map view l.values.items) (documents (take l.doc-index l.docs));
  no_other : IsTrue (items_have_no_other (documents_of (documents (drop l.doc-index l.docs))));
  in_order : IsTrue (items_in_order (documents_of (documents (drop l.doc-index l.docs))));
}

abbrev pub invariant-members_from-members : goal.invariant-members_from-members
invariant-members_from-members l = record {
  done : MembersStandFor (members_view l.members.entries) (members (take l.entry-index l.entries));
  rise : IsTrue (names_rise (members_of (members l.entries)));
  no_other : IsTrue (values_have_no_other (members_of (members (drop l.entry-index l.entries))));
  in_order : IsTrue (values_in_order (members_of (members (drop l.entry-index l.entries))));
}
