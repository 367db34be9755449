-- The members of each table that was read stand in order, each name once, and lists and tables nest no deeper than a text may.
use Rattle.std.proofs.Common.{◌≡◌, ℕ, ◌≤◌, List, Bool, true, false, Option, Some, None, option_map, option_and_then, if◌then◌else◌, Ordering, Less, Equal, Greater, nat_cmp, refl, ap, ◌∙◌, subst, arith}
use Rattle.std.specs.Prelude.{⊤, nat_lt, ◌^◌}
use Rattle.std.specs.Ordering.{match_ordering, ordering_reverse}
use Rattle.std.specs.Cmp.Lexicographic.{slice_cmp}
use Rattle.std.proofs.lemmas.Cmp.{nat_list_cmp_total}
use Rattle.json.specs.Lex.{tokens}
use Rattle.json.specs.Json as grammar
use Rattle.serde_json.specs.Data.{Num, unsigned, negative, float, Data, null, boolean, number, string, array, object, Items, no_items, item, Members, no_members, member, put, depth, items_depth, members_depth}
use Rattle.serde_json.specs.Read as serde
use Rattle.serde_json.specs.Read.{read, max_depth}
use Rattle.serde_json.proofs.Nesting.{depth-read}
use Rattle.meaning.specs.Documents.{Document, Json, document_of, of_json, of_number, items_of_json, members_of_json, or_left_out}
use Rattle.meaning.specs.Documents as meaning
use Rattle.doc_tree.specs.Order.{is_before_all, names_rise, is_in_order, items_in_order, values_in_order, nesting, items_nesting, values_nesting, most_nesting}

-- ---- order in a value of JSON

abbrev IsBefore : List ℕ → List ℕ → Type 0
IsBefore k l = slice_cmp nat_cmp k l ≡ Less

abbrev IsBeforeAll : List ℕ → Members → Type 0
IsBeforeAll k no_members = ⊤
IsBeforeAll k (member l d ms) = IsBefore k l × IsBeforeAll k ms

abbrev NamesRise : Members → Type 0
NamesRise no_members = ⊤
NamesRise (member k d ms) = IsBeforeAll k ms × NamesRise ms

abbrev mutual
  IsInOrder : Data → Type 0
  IsInOrder null = ⊤
  IsInOrder (boolean b) = ⊤
  IsInOrder (number n) = ⊤
  IsInOrder (string s) = ⊤
  IsInOrder (array ds) = ItemsInOrder ds
  IsInOrder (object ms) = MembersInOrder ms

  ItemsInOrder : Items → Type 0
  ItemsInOrder no_items = ⊤
  ItemsInOrder (item d ds) = IsInOrder d × ItemsInOrder ds

  MembersInOrder : Members → Type 0
  MembersInOrder no_members = ⊤
  MembersInOrder (member k d ms) = IsBeforeAll k ms × (IsInOrder d × MembersInOrder ms)

-- ---- a member that is put keeps the order

IsBeforeAll-later : (k l : List ℕ) (ms : Members) → IsBefore k l → IsBeforeAll l ms → IsBeforeAll k ms
IsBeforeAll-later k l no_members first rest = tt
IsBeforeAll-later k l (member m d ms) first rest = (nat_list_cmp_total.trans k l m first rest.0, IsBeforeAll-later k l ms first rest.1)

IsBeforeAll-match : (o : Ordering) (k : List ℕ) (a b c : Members) → IsBeforeAll k a → IsBeforeAll k b → IsBeforeAll k c → IsBeforeAll k (match_ordering o a b c)
IsBeforeAll-match Less k a b c p q r = p
IsBeforeAll-match Equal k a b c p q r = q
IsBeforeAll-match Greater k a b c p q r = r

IsBeforeAll-put : (k l : List ℕ) (d : Data) (ms : Members) → IsBefore k l → IsBeforeAll k ms → IsBeforeAll k (put l d ms)
IsBeforeAll-put k l d no_members first rest = (first, tt)
IsBeforeAll-put k l d (member m e ms) first rest =
    IsBeforeAll-match _ k (member l d (member m e ms)) (member m d ms) (member m e (put l d ms))
    (first, rest) rest (rest.0, IsBeforeAll-put k l d ms first rest.1)

MembersInOrder-match : (o : Ordering) (a b c : Members) → (o ≡ Less → MembersInOrder a) → MembersInOrder b → (o ≡ Greater → MembersInOrder c)
    → MembersInOrder (match_ordering o a b c)
MembersInOrder-match Less a b c p q r = p refl
MembersInOrder-match Equal a b c p q r = q
MembersInOrder-match Greater a b c p q r = r refl

MembersInOrder-put : (k : List ℕ) (d : Data) (ms : Members) → IsInOrder d → MembersInOrder ms → MembersInOrder (put k d ms)
MembersInOrder-put k d no_members value rest = (tt, (value, tt))
MembersInOrder-put k d (member l e ms) value rest =
    MembersInOrder-match (slice_cmp nat_cmp k l) (member k d (member l e ms)) (member l d ms) (member l e (put k d ms))
    (λ before. ((before, IsBeforeAll-later k l ms before rest.0), (value, rest)))
    (rest.0, (value, rest.1.1))
    (λ after. (
      IsBeforeAll-put l k d ms (nat_list_cmp_total.antisymm l k ∙ ap ordering_reverse after) rest.0,
      (rest.1.0, MembersInOrder-put k d ms value rest.1.1),
    ))

-- ---- each value that is read is in order

abbrev Holds : {A : Type 0} → (A → Type 0) → Option A → Type 0
Holds P None = ⊤
Holds P (Some a) = P a

Holds-map : {A B : Type 0} (P : A → Type 0) (Q : B → Type 0) (f : A → B) → ((a : A) → P a → Q (f a)) → (o : Option A) → Holds P o → Holds Q (option_map f o)
Holds-map P Q f h None p = tt
Holds-map P Q f h (Some a) p = h a p

Holds-and_then : {A B : Type 0} (P : A → Type 0) (Q : B → Type 0) (f : A → Option B) → ((a : A) → P a → Holds Q (f a)) → (o : Option A) → Holds P o → Holds Q (option_and_then f o)
Holds-and_then P Q f h None p = tt
Holds-and_then P Q f h (Some a) p = h a p

nothing_asked : {A : Type 0} (o : Option A) → Holds (λ _. ⊤) o
nothing_asked None = tt
nothing_asked (Some a) = tt

mutual
  value_in_order : (j : grammar.Json) → Holds IsInOrder (serde.of_json j)
  value_in_order grammar.null = tt
  value_in_order (grammar.boolean b) = tt
  value_in_order (grammar.number s) = Holds-map (λ _. ⊤) IsInOrder number (λ a x. tt) (serde.number_of s) (nothing_asked _)
  value_in_order (grammar.string s) = tt
  value_in_order (grammar.array js) = Holds-map ItemsInOrder IsInOrder array (λ a x. x) _ (items_read_in_order js)
  value_in_order (grammar.object ms) = Holds-map MembersInOrder IsInOrder object (λ a x. x) _ (members_read_in_order ms no_members tt)

  items_read_in_order : (js : grammar.Items) → Holds ItemsInOrder (serde.of_items js)
  items_read_in_order grammar.no_items = tt
  items_read_in_order (grammar.item j js) =
      Holds-and_then IsInOrder ItemsInOrder _ (λ d x. Holds-map ItemsInOrder ItemsInOrder (item d) (λ ds y. (x, y)) _ (items_read_in_order js)) _ (value_in_order j)

  members_read_in_order : (ms : grammar.Members) (found : Members) → MembersInOrder found → Holds MembersInOrder (serde.of_members ms found)
  members_read_in_order grammar.no_members found h = h
  members_read_in_order (grammar.member k j ms) found h =
      Holds-and_then IsInOrder MembersInOrder _ (λ d x. members_read_in_order ms (put k d found) (MembersInOrder-put k d found x h)) _ (value_in_order j)

one_value_in_order : (o : Option grammar.Json) → Holds IsInOrder (option_and_then serde.of_json o)
one_value_in_order None = tt
one_value_in_order (Some j) = value_in_order j

IsInOrder-read : (text : List ℕ) (d : Data) → read text ≡ Some d → IsInOrder d
IsInOrder-read text d e =
    subst (Holds IsInOrder) e (one_value_in_order (option_and_then (λ p. grammar.if_last p.0 p.1) (grammar.value max_depth (tokens text))))

-- ---- leaving out members keeps it

is_before_all-left_out : (k l : List ℕ) (v : Data) (d : Document) (ms : meaning.Members) → IsBefore k l → is_before_all k ms ≡ true
    → is_before_all k (or_left_out l v d ms) ≡ true
is_before_all-left_out k l null d ms first rest = rest
is_before_all-left_out k l (boolean b) d ms first rest = rw (first, rest)
is_before_all-left_out k l (number n) d ms first rest = rw (first, rest)
is_before_all-left_out k l (string s) d ms first rest = rw (first, rest)
is_before_all-left_out k l (array ds) d ms first rest = rw (first, rest)
is_before_all-left_out k l (object es) d ms first rest = rw (first, rest)

before_all : (k : List ℕ) (ms : Members) → IsBeforeAll k ms → is_before_all k (members_of_json ms) ≡ true
before_all k no_members h = refl
before_all k (member l v ms) h = is_before_all-left_out k l v (of_json v) (members_of_json ms) h.0 (before_all k ms h.1)

record InOrder (ms : meaning.Members) : Type 0 where
  names : names_rise ms ≡ true
  values : values_in_order ms ≡ true

InOrder-member : (k : List ℕ) (d : Document) (ms : meaning.Members) → is_before_all k ms ≡ true → is_in_order d ≡ true → InOrder ms → InOrder (meaning.member k d ms)
InOrder-member k d ms first value rest = record { names = rw (first, rest.names); values = rw (value, rest.values) }

InOrder-left_out : (k : List ℕ) (v : Data) (d : Document) (ms : meaning.Members) → is_before_all k ms ≡ true → is_in_order d ≡ true → InOrder ms
    → InOrder (or_left_out k v d ms)
InOrder-left_out k null d ms first value rest = rest
InOrder-left_out k (boolean b) d ms first value rest = InOrder-member k d ms first value rest
InOrder-left_out k (number n) d ms first value rest = InOrder-member k d ms first value rest
InOrder-left_out k (string s) d ms first value rest = InOrder-member k d ms first value rest
InOrder-left_out k (array ds) d ms first value rest = InOrder-member k d ms first value rest
InOrder-left_out k (object es) d ms first value rest = InOrder-member k d ms first value rest

number_or_other : (b : Bool) (x y : Document) → is_in_order x ≡ true → is_in_order y ≡ true → is_in_order (if b then x else y) ≡ true
number_or_other true x y p q = p
number_or_other false x y p q = q

number_in_order : (n : Num) → is_in_order (of_number n) ≡ true
number_in_order (unsigned n) = number_or_other (nat_lt n (2 ^ 63)) _ _ refl refl
number_in_order (negative z) = refl
number_in_order (float x) = refl

mutual
  of_json-in_order : (v : Data) → IsInOrder v → is_in_order (of_json v) ≡ true
  of_json-in_order null h = refl
  of_json-in_order (boolean b) h = refl
  of_json-in_order (number n) h = number_in_order n
  of_json-in_order (string s) h = refl
  of_json-in_order (array ds) h = items_of_json-in_order ds h
  of_json-in_order (object ms) h = let rest = members_of_json-in_order ms h in rw (rest.names, rest.values)

  items_of_json-in_order : (ds : Items) → ItemsInOrder ds → items_in_order (items_of_json ds) ≡ true
  items_of_json-in_order no_items h = refl
  items_of_json-in_order (item d ds) h = rw (of_json-in_order d h.0, items_of_json-in_order ds h.1)

  members_of_json-in_order : (ms : Members) → MembersInOrder ms → InOrder (members_of_json ms)
  members_of_json-in_order no_members h = record { names = refl; values = refl }
  members_of_json-in_order (member k v ms) h =
      InOrder-left_out k v (of_json v) (members_of_json ms) (before_all k ms h.0) (of_json-in_order v h.1.0) (members_of_json-in_order ms h.1.1)

pub in_order-read : (text : List ℕ) (v : Data) → read text ≡ Some v → is_in_order (of_json v) ≡ true
in_order-read text v e = of_json-in_order v (IsInOrder-read text v e)

-- ---- nesting

values_nesting-left_out : (k : List ℕ) (v : Data) (d : Document) (ms : meaning.Members) (n : ℕ) → nesting d ≤ n → values_nesting ms ≤ n
    → values_nesting (or_left_out k v d ms) ≤ n
values_nesting-left_out k null d ms n p q = q
values_nesting-left_out k (boolean b) d ms n p q = omega arith
values_nesting-left_out k (number x) d ms n p q = omega arith
values_nesting-left_out k (string s) d ms n p q = omega arith
values_nesting-left_out k (array ds) d ms n p q = omega arith
values_nesting-left_out k (object es) d ms n p q = omega arith

flat_or_other : (b : Bool) (x y : Document) (n : ℕ) → nesting x ≤ n → nesting y ≤ n → nesting (if b then x else y) ≤ n
flat_or_other true x y n p q = p
flat_or_other false x y n p q = q

number_is_flat : (x : Num) (n : ℕ) → nesting (of_number x) ≤ n
number_is_flat (unsigned k) n = flat_or_other (nat_lt k (2 ^ 63)) _ _ n (omega arith) (omega arith)
number_is_flat (negative z) n = omega arith
number_is_flat (float x) n = omega arith

mutual
  nesting-of_json : (v : Data) (n : ℕ) → depth v ≤ n → nesting (of_json v) ≤ n
  nesting-of_json null n h = omega arith
  nesting-of_json (boolean b) n h = omega arith
  nesting-of_json (number x) n h = number_is_flat x n
  nesting-of_json (string s) n h = omega arith
  nesting-of_json (array ds) n h = omega (arith, items_nesting-of_json ds (items_depth ds) (omega arith))
  nesting-of_json (object ms) n h = omega (arith, values_nesting-of_json ms (members_depth ms) (omega arith))

  items_nesting-of_json : (ds : Items) (n : ℕ) → items_depth ds ≤ n → items_nesting (items_of_json ds) ≤ n
  items_nesting-of_json no_items n h = omega arith
  items_nesting-of_json (item d ds) n h = omega (arith, nesting-of_json d n (omega arith), items_nesting-of_json ds n (omega arith))

  values_nesting-of_json : (ms : Members) (n : ℕ) → members_depth ms ≤ n → values_nesting (members_of_json ms) ≤ n
  values_nesting-of_json no_members n h = omega arith
  values_nesting-of_json (member k v ms) n h =
      values_nesting-left_out k v (of_json v) (members_of_json ms) n (nesting-of_json v n (omega arith)) (values_nesting-of_json ms n (omega arith))

pub nesting-read : (text : List ℕ) (v : Data) → read text ≡ Some v → nesting (of_json v) ≤ most_nesting
nesting-read text v e = nesting-of_json v most_nesting (depth-read text v e)
