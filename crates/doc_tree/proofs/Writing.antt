-- What stands for a document, its items and its members.
use Rattle.std.proofs.Common.{◌≡◌, ℕ, suc, max, List, [], ◌∷◌, ◌++◌, map, Bool, true, false, ◌&&◌, ◌||◌, Ordering, Less, Equal, Greater, nat_cmp, refl, sym, ap, ap₂, ◌∙◌, ◌<◌, ◌+◌, length, get_or, take, drop, drop-cons, add-one, String, Global, string_bytes, string_cmp}
use Rattle.std.proofs.lemmas.List.{take_more, take-append-drop}
use Rattle.std.proofs.lemmas.Cmp.{nat_list_cmp_total}
use Rattle.std.specs.Cmp.Lexicographic.{slice_cmp}
use Rattle.std.specs.Ordering.{ordering_reverse, is_lt}
use Rattle.std.specs.BTreeMap.{insert_entry}
use Rattle.serde_json.specs.Data as json
use Rattle.serde_json.specs.Data.{Data, put, depth, items_depth, members_depth}
use Rattle.serde_json.specs.View.{items_of, view, members_view}
use Rattle.serde_json.specs.declared.value.Value.{Value}
use Rattle.serde_json.proofs.Views.{Entry, members_view-insert_entry}
use Rattle.serde_json.specs.Written.{has_float, items_have_float, members_have_float}
use Rattle.meaning.specs.Documents.{Document, text, number, truth, list, table, other, Documents, no_documents, document as item, Members, no_members, member, entries, of_json, items_of_json, members_of_json, or_left_out}
use Rattle.doc_tree.specs.declared.doc.Doc.{Doc}
use Rattle.doc_tree.specs.declared.doc.Doc.TheVariants as doc
use Rattle.doc_tree.specs.View.{document, documents, documents_of, members, members_of}
use Rattle.doc_tree.specs.Order.{is_before_all, names_rise, nesting, items_nesting, values_nesting}
use Rattle.doc_tree.specs.Written.{data_of, items_data, members_data, is_null, StandsFor, ItemsStandFor, MembersStandFor}
use Rattle.doc_tree.proofs.Levels.{document-List, document-Table, members_of-entries}

-- ---- truth

pub both_true : (a b : Bool) → (a && b) ≡ true → (a ≡ true) × (b ≡ true)
both_true true b h = (refl, h)
both_true false b h = cc

either_false : (a b : Bool) → (a || b) ≡ false → (a ≡ false) × (b ≡ false)
either_false true b h = cc
either_false false b h = (refl, h)

neither : (a b : Bool) → a ≡ false → b ≡ false → (a || b) ≡ false
neither a b p q = rw (p, q)

-- ---- items

pub map-more : {A B : Type 0} (f : A → B) → (xs : List A) (x : A) → map f (xs ++ x ∷ []) ≡ map f xs ++ f x ∷ []
map-more f [] x = refl
map-more f (y ∷ xs) x = ap (λ ys. f y ∷ ys) (map-more f xs x)

pub items_data-documents_of : (ds : List Document) → items_data (documents_of ds) ≡ items_of (map data_of ds)
items_data-documents_of [] = refl
items_data-documents_of (d ∷ ds) = ap (json.item (data_of d)) (items_data-documents_of ds)

items_of_json-items_of : (vs : List Data) → items_of_json (items_of vs) ≡ documents_of (map of_json vs)
items_of_json-items_of [] = refl
items_of_json-items_of (v ∷ vs) = ap (item (of_json v)) (items_of_json-items_of vs)

items_have_float-more : (vs : List Data) (v : Data) → items_have_float (items_of vs) ≡ false → has_float v ≡ false → items_have_float (items_of (vs ++ v ∷ [])) ≡ false
items_have_float-more [] v h p = neither _ _ p refl
items_have_float-more (x ∷ vs) v h p =
    let parts = either_false (has_float x) (items_have_float (items_of vs)) h in
    neither _ _ parts.0 (items_have_float-more vs v parts.1 p)

ItemsStandFor-more : (vs : List Data) (ds : List Document) (v : Data) (d : Document) → ItemsStandFor vs ds → StandsFor v d → ItemsStandFor (vs ++ v ∷ []) (ds ++ d ∷ [])
ItemsStandFor-more vs ds v d i s = record {
  value = ap (λ xs. xs ++ v ∷ []) i.value ∙ ap (λ x. map data_of ds ++ x ∷ []) s.value ∙ sym (map-more data_of ds d);
  back = map-more of_json vs v ∙ ap (λ xs. xs ++ of_json v ∷ []) i.back ∙ ap (λ x. ds ++ x ∷ []) s.back;
  no_float = items_have_float-more vs v i.no_float s.no_float;
}

-- a value that is an array stands for a list
pub StandsFor-list : (v : Data) (d : Doc) (vs : List Data) (docs items : List Doc) → v ≡ json.array (items_of vs) → d ≡ doc.List docs → items ≡ docs
    → ItemsStandFor vs (documents items) → StandsFor v (document d)
StandsFor-list v d vs docs items e is same i =
    let level : document d ≡ list (documents_of (documents items)) = ap document is ∙ document-List docs ∙ ap (λ xs. list (documents_of (documents xs))) (sym same) in
    record {
      value = e ∙ ap (λ xs. json.array (items_of xs)) i.value ∙ ap json.array (sym (items_data-documents_of (documents items))) ∙ ap data_of (sym level);
      back = ap of_json e ∙ ap list (items_of_json-items_of vs ∙ ap documents_of i.back) ∙ sym level;
      no_float = ap has_float e ∙ i.no_float;
      not_null = ap is_null e;
    }

-- ---- members

-- a value that is an object stands for a table
pub StandsFor-table : (v : Data) (d : Doc) (ms : json.Members) (es items : List (List ℕ × Doc)) → v ≡ json.object ms → d ≡ doc.Table es → items ≡ es
    → MembersStandFor ms (members items) → StandsFor v (document d)
StandsFor-table v d ms es items e is same m =
    let level : document d ≡ table (members_of (members items)) = ap document is ∙ document-Table es ∙ ap (λ xs. table (members_of (members xs))) (sym same) in
    record {
      value = e ∙ ap json.object m.value ∙ ap data_of (sym level);
      back = ap of_json e ∙ ap table (sym (members_of-entries (members_of_json ms)) ∙ ap members_of m.back) ∙ sym level;
      no_float = ap has_float e ∙ m.no_float;
      not_null = ap is_null e;
    }

is_Less : (o : Ordering) → is_lt o ≡ true → o ≡ Less
is_Less Less h = refl
is_Less Equal h = cc
is_Less Greater h = cc

-- the names after a first one are above it
first_before : (first k : List ℕ) (d : Document) (done more : List (List ℕ × Document)) → is_before_all first (members_of (done ++ (k, d) ∷ more)) ≡ true
    → slice_cmp nat_cmp k first ≡ Greater
first_before first k d [] more h = nat_list_cmp_total.antisymm k first ∙ ap ordering_reverse (is_Less _ (both_true _ _ h).0)
first_before first k d (x ∷ done) more h = first_before first k d done more (both_true _ _ h).1

-- a name that is above those before it goes last
put-last : (done : List (List ℕ × Document)) (k : List ℕ) (d : Document) (more : List (List ℕ × Document)) → names_rise (members_of (done ++ (k, d) ∷ more)) ≡ true
    → put k (data_of d) (members_data (members_of done)) ≡ members_data (members_of (done ++ (k, d) ∷ []))
put-last [] k d more h = refl
put-last (first ∷ done) k d more h =
    let parts = both_true (is_before_all first.0 (members_of (done ++ (k, d) ∷ more))) (names_rise (members_of (done ++ (k, d) ∷ more))) h in
    rw (first_before first.0 k d done more parts.0) (ap (json.member first.0 (data_of first.1)) (put-last done k d more parts.1))

kept : (k : List ℕ) (v : Data) (d : Document) (ms : Members) → is_null v ≡ false → or_left_out k v d ms ≡ member k d ms
kept k json.null d ms h = cc
kept k (json.boolean b) d ms h = refl
kept k (json.number n) d ms h = refl
kept k (json.string s) d ms h = refl
kept k (json.array vs) d ms h = refl
kept k (json.object vs) d ms h = refl

left_out-more : (k : List ℕ) (v : Data) (d : Document) (ms longer : Members) (x : List ℕ × Document) → entries longer ≡ entries ms ++ x ∷ []
    → entries (or_left_out k v d longer) ≡ entries (or_left_out k v d ms) ++ x ∷ []
left_out-more k json.null d ms longer x h = h
left_out-more k (json.boolean b) d ms longer x h = ap (λ es. (k, d) ∷ es) h
left_out-more k (json.number n) d ms longer x h = ap (λ es. (k, d) ∷ es) h
left_out-more k (json.string s) d ms longer x h = ap (λ es. (k, d) ∷ es) h
left_out-more k (json.array vs) d ms longer x h = ap (λ es. (k, d) ∷ es) h
left_out-more k (json.object vs) d ms longer x h = ap (λ es. (k, d) ∷ es) h

abbrev read_back : List (List ℕ × Document) → List (List ℕ × Document)
read_back es = entries (members_of_json (members_data (members_of es)))

read_back-more : (done : List (List ℕ × Document)) (k : List ℕ) (d : Document) → is_null (data_of d) ≡ false
    → read_back (done ++ (k, d) ∷ []) ≡ read_back done ++ (k, of_json (data_of d)) ∷ []
read_back-more [] k d h = ap entries (kept k (data_of d) (of_json (data_of d)) no_members h)
read_back-more (first ∷ done) k d h =
    left_out-more first.0 (data_of first.1) (of_json (data_of first.1)) _ _ (k, of_json (data_of d)) (read_back-more done k d h)

members_have_float-more : (done : List (List ℕ × Document)) (k : List ℕ) (d : Document) → members_have_float (members_data (members_of done)) ≡ false
    → has_float (data_of d) ≡ false → members_have_float (members_data (members_of (done ++ (k, d) ∷ []))) ≡ false
members_have_float-more [] k d h p = neither _ _ p refl
members_have_float-more (x ∷ done) k d h p =
    let parts = either_false (has_float (data_of x.1)) (members_have_float (members_data (members_of done))) h in
    neither _ _ parts.0 (members_have_float-more done k d parts.1 p)

MembersStandFor-more : (ms new : json.Members) (es : List (List ℕ × Document)) (k : List ℕ) (v : Data) (d : Document) (more : List (List ℕ × Document))
    → MembersStandFor ms es → StandsFor v d → new ≡ put k v ms → names_rise (members_of (es ++ (k, d) ∷ more)) ≡ true → MembersStandFor new (es ++ (k, d) ∷ [])
MembersStandFor-more ms new es k v d more m s e h =
    let is : new ≡ members_data (members_of (es ++ (k, d) ∷ [])) = e ∙ rw (s.value, m.value) (put-last es k d more h) in
    let not_null : is_null (data_of d) ≡ false = sym (ap is_null s.value) ∙ s.not_null in
    let no_float : has_float (data_of d) ≡ false = sym (ap has_float s.value) ∙ s.no_float in
    let before : read_back es ≡ es = sym (ap (λ vs. entries (members_of_json vs)) m.value) ∙ m.back in
    let back : of_json (data_of d) ≡ d = sym (ap of_json s.value) ∙ s.back in
    record {
      value = is;
      back = ap (λ vs. entries (members_of_json vs)) is ∙ read_back-more es k d not_null ∙ ap (λ fs. fs ++ (k, of_json (data_of d)) ∷ []) before
          ∙ ap (λ b. es ++ (k, b) ∷ []) back;
      no_float = ap members_have_float is ∙ members_have_float-more es k d (sym (ap members_have_float m.value) ∙ m.no_float) no_float;
    }

-- ---- one step of a loop

module _ {A : Type 0} (xs : List A) (i : ℕ) (x : A) (within : i < length xs) (at : x ≡ get_or xs i x) where
  take_step : take (i + 1) xs ≡ take i xs ++ x ∷ []
  take_step = take_more xs i x within ∙ ap (λ y. take i xs ++ y ∷ []) (sym at)

  drop_step : drop i xs ≡ x ∷ drop (i + 1) xs
  drop_step = drop-cons xs i x within ∙ rw add-one (ap (λ y. y ∷ drop (suc i) xs) (sym at))

pub ItemsStandFor-step : {V : Type 0} (view : V → Data) → (vs new : List V) (v : V) (docs : List Doc) (i : ℕ) (x : Doc)
    → new ≡ vs ++ v ∷ [] → i < length docs → x ≡ get_or docs i x → ItemsStandFor (map view vs) (documents (take i docs)) → StandsFor (view v) (document x)
    → ItemsStandFor (map view new) (documents (take (i + 1) docs))
ItemsStandFor-step view vs new v docs i x e within at done stands =
    rw (e, map-more view vs v, take_step docs i x within at, map-more document (take i docs) x) (ItemsStandFor-more _ _ _ _ done stands)

-- what is asked of all items is asked of the next one and of those after it
pub items-step : (test : Document → Bool) (all : Documents → Bool) → ((d : Document) (ds : Documents) → all (item d ds) ≡ (test d && all ds))
    → (docs : List Doc) (i : ℕ) (x : Doc) → i < length docs → x ≡ get_or docs i x → all (documents_of (documents (drop i docs))) ≡ true
    → (test (document x) ≡ true) × (all (documents_of (documents (drop (i + 1) docs))) ≡ true)
items-step test all level docs i x within at h =
    both_true _ _ (sym (level (document x) (documents_of (documents (drop (i + 1) docs))))
    ∙ ap (λ xs. all (documents_of (documents xs))) (sym (drop_step docs i x within at)) ∙ h)

pub values-step : (test : Document → Bool) (all : Members → Bool) → ((k : List ℕ) (d : Document) (ms : Members) → all (member k d ms) ≡ (test d && all ms))
    → (es : List (List ℕ × Doc)) (i : ℕ) (x : List ℕ × Doc) → i < length es → x ≡ get_or es i x → all (members_of (members (drop i es))) ≡ true
    → (test (document x.1) ≡ true) × (all (members_of (members (drop (i + 1) es))) ≡ true)
values-step test all level es i x within at h =
    both_true _ _ (sym (level x.0 (document x.1) (members_of (members (drop (i + 1) es))))
    ∙ ap (λ xs. all (members_of (members xs))) (sym (drop_step es i x within at)) ∙ h)

members-append : (es fs : List (List ℕ × Doc)) → members (es ++ fs) ≡ members es ++ members fs
members-append [] fs = refl
members-append (e ∷ es) fs = ap (λ xs. (e.0, document e.1) ∷ xs) (members-append es fs)

MembersStandFor-step : (ms new : json.Members) (v : Data) (es : List (List ℕ × Doc)) (i : ℕ) (x : List ℕ × Doc) → i < length es → x ≡ get_or es i x
    → new ≡ put x.0 v ms → names_rise (members_of (members es)) ≡ true → MembersStandFor ms (members (take i es)) → StandsFor v (document x.1)
    → MembersStandFor new (members (take (i + 1) es))
MembersStandFor-step ms new v es i x within at e h done stands =
    let parts : members es ≡ members (take i es) ++ (x.0, document x.1) ∷ members (drop (i + 1) es) =
    ap members (sym (take-append-drop i es) ∙ ap (λ ys. take i es ++ ys) (drop_step es i x within at)) ∙ members-append (take i es) (x ∷ drop (i + 1) es) in
    rw (take_step es i x within at, members-append (take i es) (x ∷ []))
    (MembersStandFor-more ms new (members (take i es)) x.0 v (document x.1) (members (drop (i + 1) es)) done stands e (ap (λ ys. names_rise (members_of ys)) (sym parts) ∙ h))

pub MembersStandFor-insert : (old new : List Entry) (k : String Global) (v : Value) (es : List (List ℕ × Doc)) (i : ℕ) (x : List ℕ × Doc)
    → new ≡ insert_entry string_cmp old k v → string_bytes k ≡ x.0 → i < length es → x ≡ get_or es i x
    → names_rise (members_of (members es)) ≡ true → MembersStandFor (members_view old) (members (take i es)) → StandsFor (view v) (document x.1)
    → MembersStandFor (members_view new) (members (take (i + 1) es))
MembersStandFor-insert old new k v es i x e same within at h done stands =
    MembersStandFor-step (members_view old) (members_view new) (view v) es i x within at
    (ap members_view e ∙ members_view-insert_entry old k v ∙ ap (λ n. put n (view v) (members_view old)) same) h done stands

-- ---- a document nests as deep as the value that it is written as

mutual
  pub depth-data_of : (d : Document) → depth (data_of d) ≡ nesting d
  depth-data_of (text s) = refl
  depth-data_of (number z) = refl
  depth-data_of (truth b) = refl
  depth-data_of (list ds) = ap suc (items_depth-items_data ds)
  depth-data_of (table ms) = ap suc (members_depth-members_data ms)
  depth-data_of other = refl

  items_depth-items_data : (ds : Documents) → items_depth (items_data ds) ≡ items_nesting ds
  items_depth-items_data no_documents = refl
  items_depth-items_data (item d ds) = ap₂ max (depth-data_of d) (items_depth-items_data ds)

  members_depth-members_data : (ms : Members) → members_depth (members_data ms) ≡ values_nesting ms
  members_depth-members_data no_members = refl
  members_depth-members_data (member k d ms) = ap₂ max (depth-data_of d) (members_depth-members_data ms)
