-- The relations of a cut join its nodes.
use Rattle.std.proofs.Common.{◌≡◌, ℕ, ◌+◌, ◌<◌, List, [], ◌∷◌, Bool, true, false, Some, None, length, map, refl, sym, ap, subst, ◌∙◌, arith}
use Rattle.std.specs.Prelude.{Option, filter, count_by, cond, option_map, option_and_then, if◌then◌else◌, IfSome, All}
use Rattle.std.specs.List.{cons_option}
use Rattle.std.proofs.lemmas.List.{length-map, get_or-map}
use Rattle.std.proofs.lemmas.List.Elements.{All-cons, All-nil}
use Rattle.std.proofs.lemmas.List.Sums.{length-filter, sum_by-cons}
use Rattle.meaning.specs.Cases as plain
use Rattle.gsn.specs.declared.case.Case.{Case}
use Rattle.gsn.specs.View.{relation_of, case_of, node_of, relation_kind_of, EndsInRange}
use Rattle.lifted_case.specs.declared.lifted.Lifted.{Lifted}
use Rattle.lifted_case.specs.declared.lifted.LNode.{LNode}
use Rattle.lifted_case.specs.declared.lifted.LRel.{LRel}
use Rattle.case_derive.specs.Places.{place_at}
use Rattle.case_derive.specs.AtWorld.{marks_of, node_at, nodes_at, relation_at, relations_at, case_at}
use Rattle.case_derive.proofs.Numbers.{marked, place_below}

abbrev pub IsWithin : ℕ → plain.Relation → Type 0
IsWithin n r = (r.source < n) × (r.target < n)

relation_within : {C : Type 0} (h : C → Bool) (marks : List Bool) (r : LRel C) → IfSome (relation_at h marks r) (IsWithin (marked marks))
relation_within h marks r = go (h r.when) (place_at marks r.from) (place_at marks r.to) (place_below marks r.from) (place_below marks r.to)
  where
    go : (b : Bool) (from to : Option ℕ) → IfSome from (λ n. n < marked marks) → IfSome to (λ n. n < marked marks)
        → IfSome (if b then option_and_then (λ s. option_map (λ t. record { source = s; target = t; kind = relation_kind_of r.kind }) to) from else None) (IsWithin (marked marks))
    go true (Some s) (Some t) p q = (p, q)
    go true (Some s) None p q = tt
    go true None to p q = tt
    go false from to p q = tt

relations_within : {C : Type 0} (h : C → Bool) (marks : List Bool) (rs : List (LRel C)) → All (IsWithin (marked marks)) (relations_at h marks rs)
relations_within h marks [] = All-nil (IsWithin (marked marks))
relations_within h marks (r ∷ rs) = go (relation_at h marks r) (relations_at h marks rs) (relation_within h marks r) (relations_within h marks rs)
  where
    go : (o : Option plain.Relation) (rest : List plain.Relation) → IfSome o (IsWithin (marked marks)) → All (IsWithin (marked marks)) rest
        → All (IsWithin (marked marks)) (cons_option o rest)
    go None rest p q = q
    go (Some x) rest p q = All-cons (IsWithin (marked marks)) x rest p q

-- as many nodes are there as are marked
marked_nodes : {C : Type 0} (h : C → Bool) (ns : List (LNode C)) → count_by (λ n. h n.when) ns ≡ marked (marks_of h ns)
marked_nodes h [] = refl
marked_nodes h (n ∷ ns) =
    sum_by-cons (λ m. cond (h m.when) 1 0) n ns ∙ ap (λ k. cond (h n.when) 1 0 + k) (marked_nodes h ns)
    ∙ sym (sum_by-cons (λ (b : Bool). cond b 1 0) (h n.when) (marks_of h ns))

pub ends_in : {C : Type 0} (h : C → Bool) (case : Lifted C) (c : Case) → case_of c ≡ case_at h case → EndsInRange c
ends_in h case c e k d l =
    let nodes : length c.nodes ≡ marked (marks_of h case.nodes) =
    sym (length-map c.nodes node_of) ∙ ap (λ (x : plain.Case). length x.nodes) e ∙ length-map (filter (λ n. h n.when) case.nodes) (node_at h)
    ∙ length-filter (λ n. h n.when) case.nodes ∙ marked_nodes h case.nodes in
    let all : All (IsWithin (length c.nodes)) (map relation_of c.relations) =
    subst (λ n. All (IsWithin n) (map relation_of c.relations)) (sym nodes)
    (subst (All (IsWithin (marked (marks_of h case.nodes)))) (sym (ap (λ (x : plain.Case). x.relations) e)) (relations_within h (marks_of h case.nodes) case.relations)) in
    subst (IsWithin (length c.nodes)) (get_or-map relation_of c.relations k d (relation_of d) l)
    (all k (relation_of d) (omega (arith, l, length-map c.relations relation_of)))

-- ---- the cut of its parts

pub case_is : {C : Type 0} (h : C → Bool) (case : Lifted C) (marks : List Bool) (c : Case) → marks ≡ marks_of h case.nodes
    → map node_of c.nodes ≡ nodes_at h case.nodes → map relation_of c.relations ≡ relations_at h marks case.relations → case_of c ≡ case_at h case
case_is h case marks c m n r =
    let put : List plain.Node → List plain.Relation → plain.Case = λ ns rs. record { nodes = ns; relations = rs } in
    ap (λ ns. put ns (map relation_of c.relations)) n ∙ ap (put (nodes_at h case.nodes)) (r ∙ ap (λ ms. relations_at h ms case.relations) m)
