-- The cut over any kind of condition is the cut of the document.
use Rattle.std.proofs.Common.{◌≡◌, ℕ, zero, suc, ◌+◌, List, [], ◌∷◌, Bool, true, false, Some, None, not, take, map, refl, sym, ap, subst, ◌∙◌}
use Rattle.std.specs.Prelude.{Option, filter, count_by, cond, option_map, option_and_then, unwrap_or, ◌&&◌, if◌then◌else◌}
use Rattle.std.specs.List.{cons_option, slice_get}
use Rattle.std.proofs.lemmas.List.Sums.{sum_by-cons}
use Rattle.meaning.specs.Texts.{flat, holds_at}
use Rattle.meaning.specs.Cases as plain
use Rattle.meaning.specs.CaseFiles.{Row, Finding, CaseSystem, CaseNode, CaseRelation, CaseDocument, part_at, holds, cut, node_at_world, relation_at_world, is_there, number_there}
use Rattle.gsn.specs.View.{kind_of, relation_kind_of}
use Rattle.lifted_case.specs.CaseView.{case_part_of, check_of, case_document_of_read, case_node_of, case_relation_of, case_system_of, finding_of}
use Rattle.lifted_case.specs.declared.lifted.Lifted.{Lifted}
use Rattle.lifted_case.specs.declared.lifted.LNode.{LNode}
use Rattle.lifted_case.specs.declared.lifted.LRel.{LRel}
use Rattle.lifted_case.specs.declared.lifted.LFinding.{LFinding}
use Rattle.lifted_case.specs.declared.lifted.LSystem.{LSystem}
use Rattle.lifted_case.specs.declared.lifted.ReadCase.{ReadCase}
use Rattle.conditions.specs.Tables.{case_rows}
use Rattle.case_derive.proofs.Functions.{same_function, map_same}
use Rattle.case_derive.specs.Places.{marked_before}
use Rattle.case_derive.specs.AtWorld.{marks_of, node_at, nodes_at, relations_at, case_at}
use Rattle.case_derive.specs.Keys.{unkeyed_node, unkeyed}
use Rattle.case_derive.specs.OneWorld.{finding_over, node_over, relation_over, system_over, document_over, id_of, document_at_one}

-- ---- lists

count_over : {A B : Type 0} (p : B → Bool) (f : A → B) (xs : List A) → count_by (λ x. p (f x)) xs ≡ count_by p (map f xs)
count_over p f [] = refl
count_over p f (x ∷ xs) =
    sum_by-cons (λ y. cond (p (f y)) 1 0) x xs ∙ ap (λ n. cond (p (f x)) 1 0 + n) (count_over p f xs) ∙ sym (sum_by-cons (λ y. cond (p y) 1 0) (f x) (map f xs))

there_over : {A B : Type 0} (p : B → Bool) (f : A → B) (xs : List A) (i : ℕ)
    → unwrap_or (option_map p (slice_get (map f xs) i)) false ≡ holds_at (map (λ x. p (f x)) xs) i
there_over p f [] i = refl
there_over p f (x ∷ xs) zero = refl
there_over p f (x ∷ xs) (suc i) = there_over p f xs i

number_over : {A B : Type 0} (p : B → Bool) (f : A → B) (xs : List A) (i : ℕ)
    → count_by p (take i (map f xs)) ≡ marked_before (map (λ x. p (f x)) xs) i
number_over p f [] zero = refl
number_over p f [] (suc i) = refl
number_over p f (x ∷ xs) zero = refl
number_over p f (x ∷ xs) (suc i) =
    sum_by-cons (λ y. cond (p y) 1 0) (f x) (take i (map f xs)) ∙ ap (λ n. cond (p (f x)) 1 0 + n) (number_over p f xs i)
    ∙ sym (sum_by-cons (λ (b : Bool). cond b 1 0) (p (f x)) (take i (map (λ y. p (f y)) xs)))

-- ---- nodes

node_is : {C : Type 0} (k : CaseDocument) (w : List Bool) (id : C → ℕ) (n : LNode C)
    → node_at (λ c. holds k w (id c)) n ≡ unkeyed_node (node_at_world k w (node_over id n))
node_is {C} k w id n =
    let node : List ℕ → Option Bool → plain.Node =
    λ words verdict. record { key = []; kind = kind_of n.kind; words = words; undeveloped = n.undeveloped; verdict = verdict } in
    ap (λ count. node (flat (part_at count) (map case_part_of n.text)) (option_map (λ f. not (holds k w (id f.refuted))) n.finding))
    (count_over (holds k w) id n.branches)
    ∙ ap (node (flat (part_at (count_by (holds k w) (map id n.branches))) (map case_part_of n.text))) (verdict_is n.finding)
  where
    verdict_is : (f : Option (LFinding C)) → option_map (λ x. not (holds k w (id x.refuted))) f ≡ option_map (λ x. not (holds k w x.refuted)) (option_map (finding_over id) f)
    verdict_is None = refl
    verdict_is (Some f) = refl

nodes_are : {C : Type 0} (k : CaseDocument) (w : List Bool) (id : C → ℕ) (ns : List (LNode C))
    → nodes_at (λ c. holds k w (id c)) ns ≡ map unkeyed_node (map (node_at_world k w) (filter (λ n. holds k w n.presence) (map (node_over id) ns)))
nodes_are k w id [] = refl
nodes_are {C} k w id (n ∷ ns) =
    go (holds k w (id n.when)) (filter (λ m. holds k w (id m.when)) ns) (filter (λ m. holds k w m.presence) (map (node_over id) ns)) (nodes_are k w id ns)
  where
    go : (b : Bool) (here : List (LNode C)) (there : List CaseNode)
        → map (node_at (λ c. holds k w (id c))) here ≡ map unkeyed_node (map (node_at_world k w) there)
        → map (node_at (λ c. holds k w (id c))) (cond b (n ∷ here) here) ≡ map unkeyed_node (map (node_at_world k w) (cond b (node_over id n ∷ there) there))
    go true here there e =
        ap (λ x. x ∷ map (node_at (λ c. holds k w (id c))) here) (node_is k w id n) ∙ ap (λ xs. unkeyed_node (node_at_world k w (node_over id n)) ∷ xs) e
    go false here there e = e

-- ---- relations

-- the marks tell which nodes of the document are there, and with which numbers
record IsMarked (k : CaseDocument) (w marks : List Bool) : Type 0 where
  there : (i : ℕ) → is_there k w i ≡ holds_at marks i
  number : (i : ℕ) → number_there k w i ≡ marked_before marks i

relations_are : {C : Type 0} (k : CaseDocument) (w marks : List Bool) (id : C → ℕ) (rs : List (LRel C)) → IsMarked k w marks
    → relations_at (λ c. holds k w (id c)) marks rs
    ≡ map (relation_at_world k w) (filter (λ r. holds k w r.presence && is_there k w r.source && is_there k w r.target) (map (relation_over id) rs))
relations_are k w marks id [] h = refl
relations_are {C} k w marks id (r ∷ rs) h =
    rw (h.there r.from, h.there r.to) (go (holds k w (id r.when)) (holds_at marks r.from) (holds_at marks r.to) (relations_are k w marks id rs h))
  where
    rest : List CaseRelation
    rest = filter (λ x. holds k w x.presence && is_there k w x.source && is_there k w x.target) (map (relation_over id) rs)

    same : record { source = marked_before marks r.from; target = marked_before marks r.to; kind = relation_kind_of r.kind } ≡ relation_at_world k w (relation_over id r)
    same = rw (h.number r.from, h.number r.to) refl

    go : (a b c : Bool) → relations_at (λ x. holds k w (id x)) marks rs ≡ map (relation_at_world k w) rest
        → cons_option (if a then option_and_then (λ from. option_map (λ to. record { source = from; target = to; kind = relation_kind_of r.kind }) (if c then Some (marked_before marks r.to) else None)) (if b then Some (marked_before marks r.from) else None) else None) (relations_at (λ x. holds k w (id x)) marks rs)
        ≡ map (relation_at_world k w) (cond (a && b && c) (relation_over id r ∷ rest) rest)
    go true true true e = ap (λ x. x ∷ relations_at (λ x. holds k w (id x)) marks rs) same ∙ ap (λ xs. relation_at_world k w (relation_over id r) ∷ xs) e
    go true true false e = e
    go true false true e = e
    go true false false e = e
    go false true true e = e
    go false true false e = e
    go false false true e = e
    go false false false e = e

-- ---- cases

marks_are : {C : Type 0} (id : C → ℕ) (rows : List Row) (c : Lifted C) (w : List Bool)
    → IsMarked (document_over id rows c) w (marks_of (λ x. holds (document_over id rows c) w (id x)) c.nodes)
marks_are id rows c w =
    let k : CaseDocument = document_over id rows c in
    record {
      there = there_over (λ n. holds k w n.presence) (node_over id) c.nodes;
      number = number_over (λ n. holds k w n.presence) (node_over id) c.nodes;
    }

pub cut_over : {C : Type 0} (id : C → ℕ) (rows : List Row) (c : Lifted C) (w : List Bool)
    → case_at (λ x. holds (document_over id rows c) w (id x)) c ≡ unkeyed (cut (document_over id rows c) w)
unfolding cut
cut_over {C} id rows c w =
    let k : CaseDocument = document_over id rows c in
    let h : C → Bool = λ x. holds k w (id x) in
    let put : List plain.Node → List plain.Relation → plain.Case = λ ns rs. record { nodes = ns; relations = rs } in
    ap (λ ns. put ns (relations_at h (marks_of h c.nodes) c.relations)) (nodes_are k w id c.nodes)
    ∙ ap (put (map unkeyed_node (map (node_at_world k w) (filter (λ n. holds k w n.presence) k.nodes)))) (relations_are k w (marks_of h c.nodes) id c.relations (marks_are id rows c w))

-- ---- a case that was read

map_itself : {A : Type 0} (xs : List A) → map (λ x. x) xs ≡ xs
map_itself [] = refl
map_itself (x ∷ xs) = ap (λ ys. x ∷ ys) (map_itself xs)

abbrev itself : ℕ → ℕ
itself id = id

finding_read : (f : LFinding ℕ) → finding_over itself f ≡ finding_of f
finding_read f =
    let make : List (ℕ × ℕ) → List (List (List ℕ) × ℕ) → Finding =
    λ targets witnesses. record { check = check_of f.check; refuted = f.refuted; targets = targets; witnesses = witnesses } in
    ap (λ targets. make targets (map (λ x. (x.0, x.1)) f.witnesses)) (map_itself f.targets) ∙ ap (make f.targets) (map_itself f.witnesses)

node_read : (n : LNode ℕ) → node_over itself n ≡ case_node_of n
node_read n =
    let make : List ℕ → Option Finding → CaseNode =
    λ branches finding. record { key = n.key; kind = kind_of n.kind; parts = map case_part_of n.text; presence = n.when; undeveloped = n.undeveloped; branches = branches; finding = finding } in
    ap (λ branches. make branches (option_map (finding_over itself) n.finding)) (map_itself n.branches)
    ∙ ap (λ (f : LFinding ℕ → Finding). make n.branches (option_map f n.finding)) (same_function (finding_over itself) finding_of finding_read)

system_read : (s : LSystem ℕ) → system_over itself s ≡ case_system_of s
system_read s =
    let make : List ℕ → List ℕ → CaseSystem =
    λ reached parents. record { element = s.element; states = s.states; reached = reached; transitions = s.transitions; parents = parents } in
    ap (λ reached. make reached (map itself s.parents)) (map_itself s.reached) ∙ ap (make s.reached) (map_itself s.parents)

document_read : (c : ReadCase) → document_over itself (case_rows c.table.rows) c.lifted ≡ case_document_of_read c
document_read c =
    let make : List CaseNode → List CaseSystem → CaseDocument = λ nodes systems. record {
      title = c.lifted.title;
      features = c.lifted.features;
      valid = c.lifted.valid;
      nodes = nodes;
      relations = map case_relation_of c.lifted.relations;
      systems = systems;
      table = case_rows c.table.rows;
    } in
    ap (λ nodes. make nodes (map (system_over itself) c.lifted.systems)) (map_same (node_over itself) case_node_of node_read c.lifted.nodes)
    ∙ ap (make (map case_node_of c.lifted.nodes)) (map_same (system_over itself) case_system_of system_read c.lifted.systems)

pub cut_of_read : (c : ReadCase) (w : List Bool) → case_at (holds (case_document_of_read c) w) c.lifted ≡ unkeyed (cut (case_document_of_read c) w)
cut_of_read c w = subst (λ (k : CaseDocument). case_at (holds k w) c.lifted ≡ unkeyed (cut k w)) (document_read c) (cut_over itself (case_rows c.table.rows) c.lifted w)

-- by any test that agrees
pub cut_by_test : (c : ReadCase) (w : List Bool) (test : ℕ → Bool) → ((id : ℕ) → test id ≡ holds (case_document_of_read c) w id)
    → case_at test c.lifted ≡ unkeyed (cut (case_document_of_read c) w)
cut_by_test c w test e = ap (λ (h : ℕ → Bool). case_at h c.lifted) (same_function test (holds (case_document_of_read c) w) e) ∙ cut_of_read c w

-- ---- a case at one world

told : (c : Lifted Bool) (b : Bool) → b ≡ holds (document_at_one c) [] (id_of b)
unfolding holds
told c true = refl
told c false = refl

pub cut_at_one : (c : Lifted Bool) → case_at (λ b. b) c ≡ unkeyed (cut (document_at_one c) [])
cut_at_one c =
    ap (λ (h : Bool → Bool). case_at h c) (same_function (λ b. b) (λ b. holds (document_at_one c) [] (id_of b)) (told c))
    ∙ cut_over id_of [] c []
