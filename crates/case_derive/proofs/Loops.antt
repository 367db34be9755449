-- Lists of nodes and of relations, one more.
use Rattle.std.proofs.Common.{◌≡◌, ℕ, ◌+◌, ◌<◌, List, [], ◌∷◌, ◌++◌, Bool, true, false, Some, None, length, get_or, take, map, refl, sym, ap, ◌∙◌}
use Rattle.std.specs.Prelude.{Option, filter, cond, if◌then◌else◌}
use Rattle.std.specs.List.{filter_map}
use Rattle.std.specs.Option.{option_to_list}
use Rattle.std.proofs.lemmas.List.{map-append, append-nil, take_more}
use Rattle.std.proofs.lemmas.List.Elements.{filter_more, filter_map-append}
use Rattle.meaning.specs.Cases as plain
use Rattle.gsn.specs.declared.case.CNode.{CNode}
use Rattle.gsn.specs.declared.case.CRel.{CRel}
use Rattle.gsn.specs.View.{node_of, relation_of}
use Rattle.lifted_case.specs.declared.lifted.LNode.{LNode}
use Rattle.lifted_case.specs.declared.lifted.LRel.{LRel}
use Rattle.case_derive.specs.AtWorld.{node_at, nodes_at, relation_at, relations_at}

-- ---- nodes

nodes_next : {C : Type 0} (h : C → Bool) (ns : List (LNode C)) (i : ℕ) (n : LNode C) (b : Bool) → i < length ns → n ≡ get_or ns i n → h n.when ≡ b
    → nodes_at h (take (i + 1) ns) ≡ nodes_at h (take i ns) ++ (if b then node_at h n ∷ [] else [])
nodes_next {C} h ns i n b l at e =
    let before : List (LNode C) = filter (λ m. h m.when) (take i ns) in
    ap (map (node_at h)) (filter_more (λ m. h m.when) ns i n l)
    ∙ ap (λ (m : LNode C). map (node_at h) (before ++ cond (h m.when) (m ∷ []) [])) (sym at)
    ∙ ap (λ (t : Bool). map (node_at h) (before ++ cond t (n ∷ []) [])) e
    ∙ go before b
  where
    go : (ms : List (LNode C)) (t : Bool) → map (node_at h) (ms ++ cond t (n ∷ []) []) ≡ map (node_at h) ms ++ (if t then node_at h n ∷ [] else [])
    go ms true = map-append (node_at h) ms (n ∷ [])
    go ms false = ap (map (node_at h)) (append-nil ms) ∙ sym (append-nil (map (node_at h) ms))

pub node_put : {C : Type 0} (h : C → Bool) (ns : List (LNode C)) (i : ℕ) (n : LNode C) (out new : List CNode) (x : CNode) → i < length ns → n ≡ get_or ns i n
    → h n.when ≡ true → map node_of out ≡ nodes_at h (take i ns) → node_of x ≡ node_at h n → new ≡ out ++ x ∷ []
    → map node_of new ≡ nodes_at h (take (i + 1) ns)
node_put h ns i n out new x l at e before is put =
    ap (map node_of) put ∙ map-append node_of out (x ∷ []) ∙ ap (λ ms. ms ++ node_of x ∷ []) before ∙ ap (λ m. nodes_at h (take i ns) ++ m ∷ []) is
    ∙ sym (nodes_next h ns i n true l at e)

pub node_left : {C : Type 0} (h : C → Bool) (ns : List (LNode C)) (i : ℕ) (n : LNode C) (out : List CNode) → i < length ns → n ≡ get_or ns i n
    → h n.when ≡ false → map node_of out ≡ nodes_at h (take i ns) → map node_of out ≡ nodes_at h (take (i + 1) ns)
node_left h ns i n out l at e before = before ∙ sym (append-nil (nodes_at h (take i ns))) ∙ sym (nodes_next h ns i n false l at e)

-- ---- relations

relations_next : {C : Type 0} (h : C → Bool) (marks : List Bool) (rs : List (LRel C)) (i : ℕ) (r : LRel C) (o : Option plain.Relation) → i < length rs → r ≡ get_or rs i r
    → o ≡ relation_at h marks r → relations_at h marks (take (i + 1) rs) ≡ relations_at h marks (take i rs) ++ option_to_list o
relations_next {C} h marks rs i r o l at e =
    ap (relations_at h marks) (take_more rs i r l)
    ∙ ap (λ (x : LRel C). relations_at h marks (take i rs ++ x ∷ [])) (sym at)
    ∙ filter_map-append (relation_at h marks) (take i rs) (r ∷ [])
    ∙ ap (λ ys. relations_at h marks (take i rs) ++ ys) (one (relation_at h marks r) ∙ ap option_to_list (sym e))
  where
    one : (x : Option plain.Relation) → filter_map (λ (y : Option plain.Relation). y) (x ∷ []) ≡ option_to_list x
    one None = refl
    one (Some y) = refl

pub relation_put : {C : Type 0} (h : C → Bool) (marks : List Bool) (rs : List (LRel C)) (i : ℕ) (r : LRel C) (out new : List CRel) (x : CRel) → i < length rs → r ≡ get_or rs i r
    → Some (relation_of x) ≡ relation_at h marks r → map relation_of out ≡ relations_at h marks (take i rs) → new ≡ out ++ x ∷ []
    → map relation_of new ≡ relations_at h marks (take (i + 1) rs)
relation_put h marks rs i r out new x l at e before put =
    ap (map relation_of) put ∙ map-append relation_of out (x ∷ []) ∙ ap (λ ys. ys ++ relation_of x ∷ []) before
    ∙ sym (relations_next h marks rs i r (Some (relation_of x)) l at e)

pub relation_left : {C : Type 0} (h : C → Bool) (marks : List Bool) (rs : List (LRel C)) (i : ℕ) (r : LRel C) (out : List CRel) → i < length rs → r ≡ get_or rs i r
    → None ≡ relation_at h marks r → map relation_of out ≡ relations_at h marks (take i rs)
    → map relation_of out ≡ relations_at h marks (take (i + 1) rs)
relation_left h marks rs i r out l at e before =
    before ∙ sym (append-nil (relations_at h marks (take i rs))) ∙ sym (relations_next h marks rs i r None l at e)
