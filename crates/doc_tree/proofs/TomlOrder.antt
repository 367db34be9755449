-- The tables of TOML that was read have their names in order, and so have the tables of its document.
use Rattle.std.proofs.Common.{◌≡◌, ℕ, List, true, Ordering, Less, Equal, Greater, nat_cmp, refl}
use Rattle.std.specs.Prelude.{◌&&◌}
use Rattle.std.specs.Ordering.{is_lt}
use Rattle.std.specs.Cmp.Lexicographic.{slice_cmp}
use Rattle.std.proofs.lemmas.Bool.{and_parts, false≢true}
use Rattle.std.proofs.lemmas.Cmp.{nat_list_cmp_total}
use Rattle.toml.specs.Data.{Data, string, integer, float, boolean, datetime, array, table, Items, no_items, item, Members, no_members, member, is_before, is_sorted, items_are_sorted, members_are_sorted}
use Rattle.meaning.specs.Documents.{of_toml, items_of_toml, members_of_toml}
use Rattle.doc_tree.specs.Order as order
use Rattle.doc_tree.specs.Order.{names_rise, is_in_order, items_in_order, values_in_order}

less : (o : Ordering) → is_lt o ≡ true → o ≡ Less
less Less e = refl
less Equal e = absurd (false≢true e)
less Greater e = absurd (false≢true e)

-- a name before one stands before all that are after that one
before-later : (k l : List ℕ) → order.is_before k l ≡ true → (ms : Members) → order.is_before_all l (members_of_toml ms) ≡ true
    → order.is_before_all k (members_of_toml ms) ≡ true
before-later k l first no_members e = refl
before-later k l first (member m d ms) e =
    let (next, rest) = and_parts (order.is_before l m) (order.is_before_all l (members_of_toml ms)) e in
    let here : slice_cmp nat_cmp k m ≡ Less = nat_list_cmp_total.trans k l m (less _ first) (less _ next) in
    rw (here, before-later k l first ms rest) refl

record InOrder (ms : Members) : Type 0 where
  names : names_rise (members_of_toml ms) ≡ true
  values : values_in_order (members_of_toml ms) ≡ true

-- the name is before all members, whose names rise, where it is before the first
before_all : (k : List ℕ) (ms : Members) → is_before k ms ≡ true → names_rise (members_of_toml ms) ≡ true → order.is_before_all k (members_of_toml ms) ≡ true
before_all k no_members first rise = refl
before_all k (member l d ms) first rise =
    let (next, rest) = and_parts (order.is_before_all l (members_of_toml ms)) (names_rise (members_of_toml ms)) rise in
    rw (first, before-later k l first ms next) refl

mutual
  in_order : (d : Data) → is_sorted d ≡ true → is_in_order (of_toml d) ≡ true
  in_order (string s) e = refl
  in_order (integer z) e = refl
  in_order (float x) e = refl
  in_order (boolean b) e = refl
  in_order (datetime d) e = refl
  in_order (array ds) e = items_are_in_order ds e
  in_order (table ms) e = let here = members_in_order ms e in rw (here.names, here.values) refl

  items_are_in_order : (ds : Items) → items_are_sorted ds ≡ true → items_in_order (items_of_toml ds) ≡ true
  items_are_in_order no_items e = refl
  items_are_in_order (item d ds) e =
      let (here, more) = and_parts (is_sorted d) (items_are_sorted ds) e in
      rw (in_order d here, items_are_in_order ds more) refl

  members_in_order : (ms : Members) → members_are_sorted ms ≡ true → InOrder ms
  members_in_order no_members e = record { names = refl; values = refl }
  members_in_order (member k d ms) e =
      let (front, more) = and_parts (is_before k ms && is_sorted d) (members_are_sorted ms) e in
      let (first, here) = and_parts (is_before k ms) (is_sorted d) front in
      let rest = members_in_order ms more in
      record {
        names = rw (before_all k ms first rest.names, rest.names) refl;
        values = rw (in_order d here, rest.values) refl;
      }

pub table_in_order : (ms : Members) → members_are_sorted ms ≡ true → is_in_order (of_toml (table ms)) ≡ true
table_in_order ms = in_order (table ms)
