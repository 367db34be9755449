-- The document of any case has the members of its tables in order, and nests no deeper than a text may.
use Rattle.std.proofs.Common.{◌≡◌, ◌≤◌, ◌^◌, ℕ, suc, List, [], ◌∷◌, ◌++◌, map, Bool, true, false, ◌&&◌, if◌then◌else◌, Option, Some, None, pos, refl, ap₂, arith}
use Rattle.std.specs.Prelude.{⊤, nat_lt, codes}
use Rattle.serde_json.specs.Data.{Data, null, boolean, number, string, array, object}
use Rattle.meaning.specs.Documents.{Document, of_json, items_of_json, members_of_json, or_left_out}
use Rattle.meaning.specs.Documents as meaning
use Rattle.meaning.specs.CaseFiles.{Row, CasePart, words, count, CaseCheck, Never, NoDeadlock, NoAnswer, SomeAnswer, Finding, CaseNode, CaseRelation, CaseSystem, CaseDocument}
use Rattle.meaning.specs.Cases.{kind_word}
use Rattle.meaning.specs.CaseBytes.{items_of, members_of, list_data, natural_data, part_data, row_data, target_data, witness_data, finding_members, branch_members, finding_member, node_data, relation_word, relation_data, transition_data, system_data, case_data}
use Rattle.doc_tree.specs.Order.{is_before, is_before_all, names_rise, is_in_order, items_in_order, values_in_order, nesting, items_nesting, values_nesting, most_nesting}
use Rattle.doc_tree.proofs.Writing.{both_true}

-- ---- documents

record Fits (n : ℕ) (d : Document) : Type 0 where
  in_order : is_in_order d ≡ true
  nests : nesting d ≤ n

record ItemsFit (n : ℕ) (ds : meaning.Documents) : Type 0 where
  in_order : items_in_order ds ≡ true
  nests : items_nesting ds ≤ n

record MembersFit (n : ℕ) (ms : meaning.Members) : Type 0 where
  names : names_rise ms ≡ true
  values : values_in_order ms ≡ true
  nests : values_nesting ms ≤ n

string_fits : (n : ℕ) (s : List ℕ) → Fits n (of_json (string s))
string_fits n s = record { in_order = refl; nests = omega arith }

boolean_fits : (n : ℕ) (b : Bool) → Fits n (of_json (boolean b))
boolean_fits n b = record { in_order = refl; nests = omega arith }

number_or_other : (b : Bool) (n k : ℕ) → Fits n (if b then meaning.number (pos k) else meaning.other)
number_or_other true n k = record { in_order = refl; nests = omega arith }
number_or_other false n k = record { in_order = refl; nests = omega arith }

natural_fits : (n k : ℕ) → Fits n (of_json (natural_data k))
natural_fits n k = number_or_other (nat_lt k (2 ^ 63)) n k

-- ---- lists

abbrev EachFits : ℕ → List Data → Type 0
EachFits n [] = ⊤
EachFits n (v ∷ vs) = Fits n (of_json v) × EachFits n vs

items_fit : (n : ℕ) (vs : List Data) → EachFits n vs → ItemsFit n (items_of_json (items_of vs))
items_fit n [] h = record { in_order = refl; nests = omega arith }
items_fit n (v ∷ vs) h =
    let later = items_fit n vs h.1 in
    let deep : nesting (of_json v) ≤ n = h.0.nests in
    let deeper : items_nesting (items_of_json (items_of vs)) ≤ n = later.nests in
    record { in_order = ap₂ (λ a b. a && b) h.0.in_order later.in_order; nests = omega arith }

array_fits : (n : ℕ) (vs : List Data) → EachFits n vs → Fits (suc n) (of_json (array (items_of vs)))
array_fits n vs h =
    let items = items_fit n vs h in
    let deep : items_nesting (items_of_json (items_of vs)) ≤ n = items.nests in
    record { in_order = items.in_order; nests = omega arith }

each_mapped : {A : Type 0} (n : ℕ) (f : A → Data) → ((x : A) → Fits n (of_json (f x))) → (xs : List A) → EachFits n (map f xs)
each_mapped n f h [] = tt
each_mapped n f h (x ∷ xs) = (h x, each_mapped n f h xs)

list_fits : {A : Type 0} (n : ℕ) (f : A → Data) → ((x : A) → Fits n (of_json (f x))) → (xs : List A) → Fits (suc n) (of_json (list_data f xs))
list_fits n f h xs = array_fits n (map f xs) (each_mapped n f h xs)

-- ---- tables

abbrev is_before_each : List ℕ → List (List ℕ × Data) → Bool
is_before_each k [] = true
is_before_each k (m ∷ ms) = is_before k m.0 && is_before_each k ms

abbrev rises : List (List ℕ × Data) → Bool
rises [] = true
rises (m ∷ ms) = is_before_each m.0 ms && rises ms

abbrev EachValueFits : ℕ → List (List ℕ × Data) → Type 0
EachValueFits n [] = ⊤
EachValueFits n (m ∷ ms) = Fits n (of_json m.1) × EachValueFits n ms

kept_or_left_out : (P : meaning.Members → Type 0) (k : List ℕ) (v : Data) (d : Document) (ms : meaning.Members) → P ms → P (meaning.member k d ms) → P (or_left_out k v d ms)
kept_or_left_out P k null d ms p q = p
kept_or_left_out P k (boolean b) d ms p q = q
kept_or_left_out P k (number n) d ms p q = q
kept_or_left_out P k (string s) d ms p q = q
kept_or_left_out P k (array ds) d ms p q = q
kept_or_left_out P k (object es) d ms p q = q

before_all : (k : List ℕ) (ms : List (List ℕ × Data)) → is_before_each k ms ≡ true → is_before_all k (members_of_json (members_of ms)) ≡ true
before_all k [] h = refl
before_all k (m ∷ ms) h =
    let parts = both_true (is_before k m.0) (is_before_each k ms) h in
    let rest = before_all k ms parts.1 in
    kept_or_left_out (λ x. is_before_all k x ≡ true) m.0 m.1 (of_json m.1) (members_of_json (members_of ms)) rest (ap₂ (λ a b. a && b) parts.0 rest)

members_fit : (n : ℕ) (ms : List (List ℕ × Data)) → rises ms ≡ true → EachValueFits n ms → MembersFit n (members_of_json (members_of ms))
members_fit n [] h e = record { names = refl; values = refl; nests = omega arith }
members_fit n (m ∷ ms) h e =
    let parts = both_true (is_before_each m.0 ms) (rises ms) h in
    let later = members_fit n ms parts.1 e.1 in
    let deep : nesting (of_json m.1) ≤ n = e.0.nests in
    let deeper : values_nesting (members_of_json (members_of ms)) ≤ n = later.nests in
    kept_or_left_out (MembersFit n) m.0 m.1 (of_json m.1) (members_of_json (members_of ms)) later
    (record {
      names = ap₂ (λ a b. a && b) (before_all m.0 ms parts.0) later.names;
      values = ap₂ (λ a b. a && b) e.0.in_order later.values;
      nests = omega arith;
    })

object_fits : (n : ℕ) (ms : List (List ℕ × Data)) → rises ms ≡ true → EachValueFits n ms → Fits (suc n) (of_json (object (members_of ms)))
object_fits n ms h e =
    let all = members_fit n ms h e in
    let deep : values_nesting (members_of_json (members_of ms)) ≤ n = all.nests in
    record { in_order = ap₂ (λ a b. a && b) all.names all.values; nests = omega arith }

both_fit : (n : ℕ) (ms es : List (List ℕ × Data)) → EachValueFits n ms → EachValueFits n es → EachValueFits n (ms ++ es)
both_fit n [] es p q = q
both_fit n (m ∷ ms) es p q = (p.0, both_fit n ms es p.1 q)

-- ---- the parts of a case

part_fits : (n : ℕ) (p : CasePart) → Fits n (of_json (part_data p))
part_fits n (words s) = string_fits n s
part_fits n count = natural_fits n 0

row_fits : (n : ℕ) (r : Row) → Fits (suc n) (of_json (row_data r))
row_fits n r = list_fits n natural_data (natural_fits n) (r.variable ∷ r.low ∷ r.high ∷ [])

target_fits : (n : ℕ) (t : ℕ × ℕ) → Fits (suc n) (of_json (target_data t))
target_fits n t = list_fits n natural_data (natural_fits n) (t.0 ∷ t.1 ∷ [])

witness_fits : (n : ℕ) (x : List (List ℕ) × ℕ) → Fits (suc (suc n)) (of_json (witness_data x))
witness_fits n x = array_fits (suc n) (list_data string x.0 ∷ natural_data x.1 ∷ []) (list_fits n string (string_fits n) x.0, (natural_fits (suc n) x.1, tt))

transition_fits : (n : ℕ) (t : ℕ × ℕ × List ℕ) → Fits (suc n) (of_json (transition_data t))
transition_fits n t =
    array_fits n (natural_data t.0 ∷ natural_data t.1 ∷ string t.2 ∷ []) (natural_fits n t.0, (natural_fits n t.1, (string_fits n t.2, tt)))

finding_fits : (f : Finding) (c : CaseCheck) → Fits 4 (of_json (object (members_of (finding_members f c))))
finding_fits f (Never s e) =
    object_fits 3 (finding_members f (Never s e)) refl
    (string_fits 3 _, (string_fits 3 e, (natural_fits 3 f.refuted, (natural_fits 3 s, (list_fits 2 target_data (target_fits 1) f.targets, tt)))))
finding_fits f (NoDeadlock s) =
    object_fits 3 (finding_members f (NoDeadlock s)) refl
    (string_fits 3 _, (natural_fits 3 f.refuted, (natural_fits 3 s, (list_fits 2 target_data (target_fits 1) f.targets, tt))))
finding_fits f NoAnswer =
    object_fits 3 (finding_members f NoAnswer) refl
    (string_fits 3 _, (natural_fits 3 f.refuted, (list_fits 2 witness_data (witness_fits 0) f.witnesses, tt)))
finding_fits f SomeAnswer =
    object_fits 3 (finding_members f SomeAnswer) refl
    (string_fits 3 _, (natural_fits 3 f.refuted, (list_fits 2 witness_data (witness_fits 0) f.witnesses, tt)))

branches_fit : (bs : List ℕ) → EachValueFits 4 (branch_members bs)
branches_fit [] = tt
branches_fit (b ∷ bs) = (list_fits 3 natural_data (natural_fits 3) (b ∷ bs), tt)

finding_fits_if : (o : Option Finding) → EachValueFits 4 (finding_member o)
finding_fits_if None = tt
finding_fits_if (Some f) = (finding_fits f f.check, tt)

abbrev undeveloped_member : Bool → List (List ℕ × Data)
undeveloped_member b = if b then (codes "undeveloped", boolean true) ∷ [] else []

undeveloped_fits : (b : Bool) → EachValueFits 4 (undeveloped_member b)
undeveloped_fits true = (boolean_fits 4 true, tt)
undeveloped_fits false = tt

abbrev middle_members : List ℕ → List ℕ → List CasePart → List (List ℕ × Data)
middle_members key kind parts = (codes "key", string key) ∷ (codes "kind", string kind) ∷ (codes "text", list_data part_data parts) ∷ []

abbrev node_members : List ℕ → Option Finding → List ℕ → List ℕ → List CasePart → Bool → ℕ → List (List ℕ × Data)
node_members bs o key kind parts u presence =
    branch_members bs ++ finding_member o ++ middle_members key kind parts ++ undeveloped_member u ++ (codes "when", natural_data presence) ∷ []

node_names_rise : (bs : List ℕ) (o : Option Finding) (key kind : List ℕ) (parts : List CasePart) (u : Bool) (presence : ℕ)
    → rises (node_members bs o key kind parts u presence) ≡ true
node_names_rise [] None key kind parts true presence = refl
node_names_rise [] None key kind parts false presence = refl
node_names_rise [] (Some f) key kind parts true presence = refl
node_names_rise [] (Some f) key kind parts false presence = refl
node_names_rise (b ∷ bs) None key kind parts true presence = refl
node_names_rise (b ∷ bs) None key kind parts false presence = refl
node_names_rise (b ∷ bs) (Some f) key kind parts true presence = refl
node_names_rise (b ∷ bs) (Some f) key kind parts false presence = refl

node_fits : (n : CaseNode) → Fits 5 (of_json (node_data n))
node_fits n =
    let middle = middle_members n.key (kind_word n.kind) n.parts in
    let first = both_fit 4 (branch_members n.branches) (finding_member n.finding) (branches_fit n.branches) (finding_fits_if n.finding) in
    let second = both_fit 4 (branch_members n.branches ++ finding_member n.finding) middle first
    (string_fits 4 n.key, (string_fits 4 (kind_word n.kind), (list_fits 3 part_data (part_fits 3) n.parts, tt))) in
    let third = both_fit 4 (branch_members n.branches ++ finding_member n.finding ++ middle) (undeveloped_member n.undeveloped) second (undeveloped_fits n.undeveloped) in
    let fourth = both_fit 4 (branch_members n.branches ++ finding_member n.finding ++ middle ++ undeveloped_member n.undeveloped)
    ((codes "when", natural_data n.presence) ∷ []) third (natural_fits 4 n.presence, tt) in
    object_fits 4 (node_members n.branches n.finding n.key (kind_word n.kind) n.parts n.undeveloped n.presence)
    (node_names_rise n.branches n.finding n.key (kind_word n.kind) n.parts n.undeveloped n.presence) fourth

relation_fits : (r : CaseRelation) → Fits 5 (of_json (relation_data r))
relation_fits r =
    object_fits 4 ((codes "from", natural_data r.source) ∷ (codes "kind", string (relation_word r.kind)) ∷ (codes "to", natural_data r.target) ∷ (codes "when", natural_data r.presence) ∷ []) refl
    (natural_fits 4 r.source, (string_fits 4 (relation_word r.kind), (natural_fits 4 r.target, (natural_fits 4 r.presence, tt))))

system_fits : (s : CaseSystem) → Fits 5 (of_json (system_data s))
system_fits s =
    object_fits 4 ((codes "element", string s.element) ∷ (codes "parents", list_data natural_data s.parents) ∷ (codes "reached", list_data natural_data s.reached)
    ∷ (codes "states", list_data string s.states) ∷ (codes "transitions", list_data transition_data s.transitions) ∷ []) refl (
      string_fits 4 s.element,
      (
        list_fits 3 natural_data (natural_fits 3) s.parents,
        (
          list_fits 3 natural_data (natural_fits 3) s.reached,
          (list_fits 3 string (string_fits 3) s.states, (list_fits 3 transition_data (transition_fits 2) s.transitions, tt)),
        ),
      ),
    )

case_fits : (k : CaseDocument) → Fits 7 (of_json (case_data k))
case_fits k =
    object_fits 6 ((codes "case", natural_data 1) ∷ (codes "features", list_data string k.features)
    ∷ (codes "nodes", list_data node_data k.nodes) ∷ (codes "relations", list_data relation_data k.relations)
    ∷ (codes "systems", list_data system_data k.systems) ∷ (codes "table", list_data row_data k.table)
    ∷ (codes "title", string k.title) ∷ (codes "valid", natural_data k.valid) ∷ []) refl (
      natural_fits 6 1,
      (
        list_fits 5 string (string_fits 5) k.features,
        (
          list_fits 5 node_data node_fits k.nodes,
          (
            list_fits 5 relation_data relation_fits k.relations,
            (
              list_fits 5 system_data system_fits k.systems,
              (list_fits 5 row_data (row_fits 4) k.table, (string_fits 6 k.title, (natural_fits 6 k.valid, tt))),
            ),
          ),
        ),
      ),
    )

pub case_in_order : (k : CaseDocument) → is_in_order (of_json (case_data k)) ≡ true
case_in_order k = (case_fits k).in_order

pub case_nests : (k : CaseDocument) → nesting (of_json (case_data k)) ≤ most_nesting
case_nests k = let deep : nesting (of_json (case_data k)) ≤ 7 = (case_fits k).nests in omega arith
