-- Trees of noted nodes: at later moments, side by side, and behind the nodes that are there.
use Rattle.std.proofs.Common.{◌≡◌, ℕ, ◌+◌, List, [], ◌∷◌, ◌++◌, map, length, Bool, true, false, Some, refl, sym, ap, ◌∙◌, subst, arith}
use Rattle.std.specs.Prelude.{cond, filter}
use Rattle.std.specs.List.{All, AllByRecursion}
use Rattle.std.proofs.lemmas.List.{map-append, length-append, append_assoc, append-nil, length-map}
use Rattle.std.proofs.lemmas.List.Elements.{All-weaker, recursion_from_All}
use Rattle.worlds.specs.Algebra.{Algebra, Kept}
use Rattle.worlds.proofs.Kept.{world_before}
use Rattle.path_queries.specs.Answering.{Somewhere, tuples_at}
use Rattle.meaning.specs.Cases.{Relation}
use Rattle.meaning.specs.Templates.{Instance, moved, relation_to}
use Rattle.meaning.proofs.CutTrees.{Tree, Each, nodes_of, links_below, link_down}
use Rattle.meaning.proofs.EachMembers.{each_by}
use Rattle.lifted_case.specs.declared.lifted.LNode.{LNode}
use Rattle.lifted_case.specs.declared.lifted.LRel.{LRel}
use Rattle.lifting.specs.Lifting.{LiftsAll}
use Rattle.lifting.specs.RootedTrees.{IsRooted, HangsUnder, AreKeyed}
use Rattle.lifting.specs.Noted.{Noted, note_key, note_kind, there_at, seen_at, Stands, LiftsBelow, relation_of, linked, links_at, Grows, entries_of}
use Rattle.meaning.proofs.Lists.{each_append, flat_append}
use Rattle.lifting.proofs.LiftedTrees.{lifts_none, lifts_both}
use Rattle.lifting.proofs.GrowingTrees.{moved_twice}
use Rattle.lifting.proofs.KeyedTrees.{keyed_none, keyed_both}

-- ---- later

-- the same tuples hold, where no condition changed
pub same_tuples : {C : Type 0} {a b : Algebra C} (rows : List (List ℕ × C)) (x : List Bool) → Kept a b → All (λ r. a.live r.1) rows → tuples_at b rows x ≡ tuples_at a rows x
same_tuples {C} {a} {b} rows x k live = go rows (recursion_from_All (λ r. a.live r.1) rows live)
  where
    go : (rows : List (List ℕ × C)) → AllByRecursion (λ r. a.live r.1) rows → tuples_at b rows x ≡ tuples_at a rows x
    go [] h = refl
    go (r ∷ rows) h =
        ap (λ v. map (λ r. r.0) (cond v (r ∷ filter (λ r. b.holds r.1 x) rows) (filter (λ r. b.holds r.1 x) rows))) (k.holds r.1 h.0 x)
        ∙ at (a.holds r.1 x) (go rows h.1)
      where
        at : (v : Bool) → tuples_at b rows x ≡ tuples_at a rows x
            → map (λ r. r.0) (cond v (r ∷ filter (λ r. b.holds r.1 x) rows) (filter (λ r. b.holds r.1 x) rows))
            ≡ map (λ r. r.0) (cond v (r ∷ filter (λ r. a.holds r.1 x) rows) (filter (λ r. a.holds r.1 x) rows))
        at true e = ap (λ ts. r.0 ∷ ts) e
        at false e = e

pub somewhere_later : {C : Type 0} {a b : Algebra C} (c : C) → Kept a b → a.live c → Somewhere a c → Somewhere b c
somewhere_later c k live s = (s.0, k.worlds s.0 ∙ s.1, k.holds c live s.0 ∙ s.2)

pub all_occur_later : {C : Type 0} {a b : Algebra C} (rows : List (List ℕ × C)) → Kept a b → All (λ r. a.live r.1) rows → All (λ r. Somewhere a r.1) rows → All (λ r. Somewhere b r.1) rows
all_occur_later rows k live occur = λ i d below. somewhere_later _ k (live i d below) (occur i d below)

pub stands_later : {C : Type 0} {a b : Algebra C} (n : Noted C) → Kept a b → Stands a n → Stands b n
stands_later {C} {a} {b} n k h = record {
  live = k.live n.0.when h.live;
  there = λ x w. k.holds n.0.when h.live x ∙ h.there x (world_before x k w);
  occurs = somewhere_later n.0.when k h.live h.occurs;
  parts = λ x w t. h.parts x (world_before x k w) t;
  branches = h.branches;
  branches_live = All-weaker (λ r. a.live r.1) (λ r. b.live r.1) (λ r l. k.live r.1 l) n.1.rows h.branches_live;
  branches_occur = all_occur_later n.1.rows k h.branches_live h.branches_occur;
  branches_ascend = h.branches_ascend;
  branches_exact = λ x w. same_tuples n.1.rows x k h.branches_live ∙ h.branches_exact x (world_before x k w);
  unchecked = h.unchecked;
  no_verdict = λ x. h.no_verdict x;
}

pub below_later : {C : Type 0} {a b : Algebra C} (upper : List ℕ) (instances : List Bool → List Instance) (keys : List (List ℕ)) (trees : List (Tree (Noted C)))
    → Kept a b → LiftsBelow a upper instances keys trees → LiftsBelow b upper instances keys trees
below_later {C} {a} {b} upper instances keys trees k h = record {
  lift = λ x w. h.lift x (world_before x k w);
  rooted = h.rooted;
  keyed = h.keyed;
  nodes = each_by (Stands a) (Stands b) (λ n s. stands_later n k s) (nodes_of trees) h.nodes;
}

-- ---- side by side

pub below_none : {C : Type 0} (a : Algebra C) (upper : List ℕ) → LiftsBelow a upper (λ x. []) [] []
below_none {C} a upper = record { lift = λ x w. lifts_none (there_at x) (seen_at x); rooted = tt; keyed = keyed_none {A = Noted C} note_key; nodes = tt }

pub below_both : {C : Type 0} (a : Algebra C) (upper : List ℕ) (is js : List Bool → List Instance) (keys others : List (List ℕ)) (ts us : List (Tree (Noted C)))
    → LiftsBelow a upper is keys ts → LiftsBelow a upper js others us → LiftsBelow a upper (λ x. is x ++ js x) (keys ++ others) (ts ++ us)
below_both a upper is js keys others ts us h g = record {
  lift = λ x w. lifts_both (there_at x) (seen_at x) ts us (is x) (js x) (h.lift x w) (g.lift x w);
  rooted = each_append (λ t. IsRooted note_key t × HangsUnder note_key upper t.nodes) ts us h.rooted g.rooted;
  keyed = keyed_both note_key ts us keys others h.keyed g.keyed;
  nodes = subst (Each (Stands a)) (sym (flat_append (λ t. t.nodes) ts us)) (each_append (Stands a) (nodes_of ts) (nodes_of us) h.nodes g.nodes);
}

-- at each world the same instances
pub below_as : {C : Type 0} (a : Algebra C) (upper : List ℕ) (is js : List Bool → List Instance) (keys others : List (List ℕ)) (ts : List (Tree (Noted C)))
    → ((x : List Bool) → a.is_world x ≡ true → is x ≡ js x) → keys ≡ others → LiftsBelow a upper is keys ts → LiftsBelow a upper js others ts
below_as a upper is js keys others ts same e h = record {
  lift = λ x w. subst (LiftsAll (there_at x) (seen_at x) ts) (same x w) (h.lift x w);
  rooted = h.rooted;
  keyed = subst (λ ks. AreKeyed note_key ts ks) e h.keyed;
  nodes = h.nodes;
}

-- ---- relations

pub links_both : {C : Type 0} (p k : ℕ) (ts us : List (Tree (Noted C))) → links_at p k (ts ++ us) ≡ links_at p k ts ++ links_at p (k + length (nodes_of ts)) us
links_both p k [] us = let e : k ≡ k + 0 = omega arith in ap (λ i. links_at p i us) e
links_both p k (t ∷ ts) us =
    ap (λ rs. (linked (Some p) k t.nodes ++ map (moved k) t.relations) ++ rs)
    (links_both p (k + length t.nodes) ts us
    ∙ ap (λ i. links_at p (k + length t.nodes) ts ++ links_at p i us) (omega (arith, length-append t.nodes (nodes_of ts))))
    ∙ sym (append_assoc (linked (Some p) k t.nodes ++ map (moved k) t.relations) (links_at p (k + length t.nodes) ts) (links_at p (k + length (t.nodes ++ nodes_of ts)) us))

linked_down : {C : Type 0} (p k : ℕ) (ns : List (Noted C)) → linked (Some p) (p + k) ns ≡ map (moved p) (link_down note_kind k ns)
linked_down p k [] = refl
linked_down p k (n ∷ ns) = let e : p ≡ p + 0 = omega arith in ap (λ i. record { source = i; target = p + k; kind = relation_to (note_kind n) } ∷ []) e

-- they are those of the trees below a first node, from where that stands
pub links_are_below : {C : Type 0} (p k : ℕ) (ts : List (Tree (Noted C))) → links_at p (p + k) ts ≡ map (moved p) (links_below note_kind k ts)
links_are_below p k [] = refl
links_are_below {C} p k (t ∷ ts) =
    ap (λ rs. rs ++ links_at p ((p + k) + length t.nodes) ts) own
    ∙ ap (λ i. map (moved p) (link_down note_kind k t.nodes ++ map (moved k) t.relations) ++ links_at p i ts) further
    ∙ ap (λ rs. map (moved p) (link_down note_kind k t.nodes ++ map (moved k) t.relations) ++ rs) (links_are_below p (k + length t.nodes) ts)
    ∙ sym (map-append (moved p) (link_down note_kind k t.nodes ++ map (moved k) t.relations) (links_below note_kind (k + length t.nodes) ts))
  where
    further : (p + k) + length t.nodes ≡ p + (k + length t.nodes)
    further = omega arith

    own : linked {C = C} (Some p) (p + k) t.nodes ++ map (moved (p + k)) t.relations ≡ map (moved p) (link_down (note_kind {C = C}) k t.nodes ++ map (moved k) t.relations)
    own =
        ap (λ rs. rs ++ map (moved (p + k)) t.relations) (linked_down p k t.nodes)
        ∙ ap (λ rs. map (moved p) (link_down (note_kind {C = C}) k t.nodes) ++ rs) (sym (moved_twice (note_kind {C = C}) p k t.relations))
        ∙ sym (map-append (moved p) (link_down (note_kind {C = C}) k t.nodes) (map (moved k) t.relations))

-- ---- growing lists

module _ {C : Type 0} where
  pub grows_nothing : (nodes : List (LNode C)) (relations : List (LRel C)) → Grows nodes relations nodes relations [] [] []
  grows_nothing nodes relations = record {
    nodes = sym (append-nil nodes);
    relations = sym (append-nil (map relation_of relations));
    conditions = sym (append-nil (map (λ r. r.when) relations));
  }

  pub grows_then : (n0 n1 n2 : List (LNode C)) (r0 r1 r2 : List (LRel C)) (a b : List (Noted C)) (p q : List Relation) (c d : List C)
      → Grows n0 r0 n1 r1 a p c → Grows n1 r1 n2 r2 b q d → Grows n0 r0 n2 r2 (a ++ b) (p ++ q) (c ++ d)
  grows_then n0 n1 n2 r0 r1 r2 a b p q c d h g = record {
    nodes = g.nodes ∙ ap (λ ns. ns ++ map (λ n. n.0) b) h.nodes ∙ append_assoc n0 (map (λ n. n.0) a) (map (λ n. n.0) b) ∙ ap (λ ns. n0 ++ ns) (sym (map-append (λ n. n.0) a b));
    relations = g.relations ∙ ap (λ rs. rs ++ q) h.relations ∙ append_assoc (map relation_of r0) p q;
    conditions = g.conditions ∙ ap (λ cs. cs ++ d) h.conditions ∙ append_assoc (map (λ r. r.when) r0) c d;
  }

  pub grown_length : (n0 n1 : List (LNode C)) (r0 r1 : List (LRel C)) (a : List (Noted C)) (p : List Relation) (c : List C) → Grows n0 r0 n1 r1 a p c → length n1 ≡ length n0 + length a
  grown_length n0 n1 r0 r1 a p c h = ap length h.nodes ∙ length-append n0 (map (λ n. n.0) a) ∙ ap (λ k. length n0 + k) (length-map a (λ n. n.0))

  pub entries_both : (a b : List (Noted C)) → entries_of (a ++ b) ≡ entries_of a + entries_of b
  entries_both [] b = omega arith
  entries_both (n ∷ a) b = omega (arith, entries_both a b)
