-- A node's text over gathered identifiers and targets is that of the definitions.
use Rattle.std.proofs.Common.{◌≡◌, ℕ, zero, suc, ◌+◌, ◌≤◌, ◌<◌, inl, inr, Bool, true, false, not, List, [], ◌∷◌, ◌++◌, Some, None, map, length, get_or, take, refl, sym, ap, ◌∙◌, arith}
use Rattle.std.specs.Prelude.{filter, ◌&&◌, ◌==◌, if◌then◌else◌, unwrap_or, option_map, codes}
use Rattle.std.specs.List.{slice_get, enumerate_from}
use Rattle.std.proofs.lemmas.Bool.{cases_lt}
use Rattle.std.proofs.lemmas.List.{get_or_past, get_or-map, append_assoc, take_all}
use Rattle.std.proofs.lemmas.Option.{unwrap_or-slice_get}
use Rattle.std.proofs.lemmas.List.FromFn.{get_or-map-range_with_len, length-map-range_with_len}
use Rattle.meaning.specs.Texts.{flat, spaced, numbered, holds_at}
use Rattle.meaning.specs.Cases as plain
use Rattle.gsn.specs.declared.case.CRel.{CRel}
use Rattle.gsn.specs.declared.case.CNode.{CNode}
use Rattle.gsn.specs.declared.status.Status3.{Status3}
use Rattle.gsn.specs.View.{relation_of, relation_kind_of, node_of, status_view}
use Rattle.case_text.specs.Parts.{numbered_identifiers, goes_from, same_relation, targets_of, name_at, ends_line, first_line, node_text}
use Rattle.case_text.proofs.Pieces.{flat_more}

past : (xs : List plain.Node) (t : ℕ) → length xs ≤ t → slice_get xs t ≡ None
past [] t l = refl
past (x ∷ xs) zero l = absurd (omega (arith, l))
past (x ∷ xs) (suc t) l = past xs t (omega (arith, l))

-- also past the last node, where there is no identifier
pub name_is : (c : plain.Case) (t : ℕ) → name_at (numbered_identifiers c) t ≡ plain.identifier c t
name_is c t = elim (cases_lt t (length c.nodes)) [
  | inl l ↦ get_or-map-range_with_len (plain.identifier c) 0 (length c.nodes) t t [] l (omega arith)
  | inr l ↦
      get_or_past (numbered_identifiers c) t [] (omega (arith, l, length-map-range_with_len (plain.identifier c) 0 (length c.nodes)))
      ∙ sym (ap (λ o. unwrap_or (option_map (plain.identifier_of c t) o) []) (past c.nodes t l))
]

names_are : (c : plain.Case) (ts : List ℕ) → map (name_at (numbered_identifiers c)) ts ≡ map (plain.identifier c) ts
names_are c [] = refl
names_are c (t ∷ ts) = ap (λ x. x ∷ map (name_at (numbered_identifiers c)) ts) (name_is c t) ∙ ap (λ xs. plain.identifier c t ∷ xs) (names_are c ts)

ends_are : (c : plain.Case) (words : List ℕ) (ts : List ℕ) → ends_line (numbered_identifiers c) words ts ≡ plain.ends_line c words ts
ends_are c words [] = refl
ends_are c words (t ∷ ts) = ap (λ xs. words ++ spaced xs ++ plain.newline) (names_are c (t ∷ ts))

pub identifier_at : (c : plain.Case) (k : ℕ) (n : plain.Node) → slice_get c.nodes k ≡ Some n → plain.identifier c k ≡ plain.identifier_of c k n
identifier_at c k n at = ap (λ o. unwrap_or (option_map (plain.identifier_of c k) o) []) at

supports_are : (c : plain.Case) (x : ℕ) (rs : List CRel) → targets_of plain.SupportedBy x rs
    ≡ map (λ r. r.target) (filter (λ r. (r.source == x) && (if true then plain.is_support r.kind else not (plain.is_support r.kind))) (map relation_of rs))
supports_are c x [] = refl
supports_are c x (r ∷ rs) = go (goes_from plain.SupportedBy x r) (filter (goes_from plain.SupportedBy x) rs)
    (filter (λ s. (s.source == x) && (if true then plain.is_support s.kind else not (plain.is_support s.kind))) (map relation_of rs)) (supports_are c x rs)
  where
    go : (b : Bool) (here : List CRel) (there : List plain.Relation) → map (λ s. s.to) here ≡ map (λ s. s.target) there
        → map (λ s. s.to) (if b then r ∷ here else here) ≡ map (λ s. s.target) (if b then relation_of r ∷ there else there)
    go true here there e = ap (λ ys. r.to ∷ ys) e
    go false here there e = e

contexts_are : (c : plain.Case) (x : ℕ) (rs : List CRel) → targets_of plain.InContextOf x rs
    ≡ map (λ r. r.target) (filter (λ r. (r.source == x) && (if false then plain.is_support r.kind else not (plain.is_support r.kind))) (map relation_of rs))
contexts_are c x [] = refl
contexts_are c x (r ∷ rs) = ap (λ b. map (λ (s : CRel). s.to) (if b then r ∷ filter (goes_from plain.InContextOf x) rs else filter (goes_from plain.InContextOf x) rs)) (same (relation_kind_of r.kind))
    ∙ go ((r.from == x) && not (plain.is_support (relation_kind_of r.kind))) (filter (goes_from plain.InContextOf x) rs)
    (filter (λ s. (s.source == x) && (if false then plain.is_support s.kind else not (plain.is_support s.kind))) (map relation_of rs)) (contexts_are c x rs)
  where
    same : (k : plain.RelationKind) → ((r.from == x) && same_relation plain.InContextOf k) ≡ ((r.from == x) && not (plain.is_support k))
    same plain.SupportedBy = refl
    same plain.InContextOf = refl

    go : (b : Bool) (here : List CRel) (there : List plain.Relation) → map (λ s. s.to) here ≡ map (λ s. s.target) there
        → map (λ s. s.to) (if b then r ∷ here else here) ≡ map (λ s. s.target) (if b then relation_of r ∷ there else there)
    go true here there e = ap (λ ys. r.to ∷ ys) e
    go false here there e = e

pub text_is : (ns : List CNode) (rs : List CRel) (k : ℕ) (x : plain.Node) (names : List (List ℕ)) (all : List plain.Status) (status : plain.Status) (contexts supports : List ℕ)
    → slice_get (map node_of ns) k ≡ Some x → names ≡ numbered_identifiers (record { nodes = map node_of ns; relations = map relation_of rs })
    → status ≡ unwrap_or (slice_get all k) plain.Open → contexts ≡ targets_of plain.InContextOf k rs → supports ≡ targets_of plain.SupportedBy k rs
    → node_text names k x status contexts supports ≡ plain.node_text (record { nodes = map node_of ns; relations = map relation_of rs }) all k x
text_is ns rs k x names all status contexts supports at named told e f =
    let c : plain.Case = record { nodes = map node_of ns; relations = map relation_of rs } in
    ap (λ n. node_text n k x status contexts supports) named
    ∙ (ap (λ s. node_text (numbered_identifiers c) k x s contexts supports) told
    ∙ (ap (λ ts. node_text (numbered_identifiers c) k x (unwrap_or (slice_get all k) plain.Open) ts supports) (e ∙ contexts_are c k rs)
    ∙ (ap (λ ts. node_text (numbered_identifiers c) k x (unwrap_or (slice_get all k) plain.Open) (plain.ends_of c false k) ts) (f ∙ supports_are c k rs)
    ∙ (ap (λ i. first_line i x.kind (unwrap_or (slice_get all k) plain.Open) x.undeveloped ++ codes "  " ++ x.words ++ plain.newline
    ++ ends_line (numbered_identifiers c) (codes "  in context of") (plain.ends_of c false k) ++ ends_line (numbered_identifiers c) (codes "  supported by") (plain.ends_of c true k))
    (name_is c k ∙ identifier_at c k x at)
    ∙ (ap (λ ys. plain.first_line c all k x ++ codes "  " ++ x.words ++ plain.newline ++ ys ++ ends_line (numbered_identifiers c) (codes "  supported by") (plain.ends_of c true k))
    (ends_are c (codes "  in context of") (plain.ends_of c false k))
    ∙ ap (λ ys. plain.first_line c all k x ++ codes "  " ++ x.words ++ plain.newline ++ plain.ends_line c (codes "  in context of") (plain.ends_of c false k) ++ ys)
    (ends_are c (codes "  supported by") (plain.ends_of c true k)))))))

-- ---- a node of the code, by its place

pub at_node : (ns : List CNode) (k : ℕ) (n : CNode) → slice_get ns k ≡ Some n → slice_get (map node_of ns) k ≡ Some (node_of n)
at_node [] k n e = cc
at_node (m ∷ ms) zero n e = let s : m ≡ n = cc in ap (λ x. Some (node_of x)) s
at_node (m ∷ ms) (suc k) n e = at_node ms k n e

pub length_nodes : (ns : List CNode) → length (map node_of ns) ≡ length ns
length_nodes [] = refl
length_nodes (m ∷ ms) = ap suc (length_nodes ms)

length_numbered : (g : ℕ × plain.Node → plain.Status) (xs : List plain.Node) (k : ℕ) → length (map g (enumerate_from k xs)) ≡ length xs
length_numbered g [] k = refl
length_numbered g (y ∷ ys) k = ap suc (length_numbered g ys (k + 1))

pub length_statuses : (c : plain.Case) → length (plain.statuses c) ≡ length c.nodes
unfolding plain.statuses
length_statuses c = length_numbered (λ x. plain.status_of (holds_at (plain.refuted_nodes c) x.0) (holds_at (plain.supported_nodes c) x.0)) c.nodes 0

pub length_identifiers : (c : plain.Case) → length (numbered_identifiers c) ≡ length c.nodes
length_identifiers c = length-map-range_with_len (plain.identifier c) 0 (length c.nodes)

-- the status of a node, as the definitions look it up
pub told_at : (xs : List Status3) (all : List plain.Status) (k : ℕ) (d : Status3) → map status_view xs ≡ all → k < length xs → status_view (get_or xs k d) ≡ unwrap_or (slice_get all k) plain.Open
told_at xs all k d e l =
    sym (get_or-map status_view xs k d plain.Open l) ∙ (ap (λ ys. get_or ys k plain.Open) e ∙ sym (unwrap_or-slice_get all k plain.Open))

-- ---- the whole text

pub one_node : (ns : List CNode) (rs : List CRel) (head : List ℕ) (k : ℕ) (n : CNode) (names : List (List ℕ)) (status : plain.Status) (contexts supports out out' : List ℕ)
    → slice_get ns k ≡ Some n → names ≡ numbered_identifiers (record { nodes = map node_of ns; relations = map relation_of rs })
    → status ≡ unwrap_or (slice_get (plain.statuses (record { nodes = map node_of ns; relations = map relation_of rs })) k) plain.Open
    → contexts ≡ targets_of plain.InContextOf k rs → supports ≡ targets_of plain.SupportedBy k rs
    → out' ≡ out ++ node_text names k (node_of n) status contexts supports
    → out ≡ head ++ flat (λ x. plain.node_text (record { nodes = map node_of ns; relations = map relation_of rs })
    (plain.statuses (record { nodes = map node_of ns; relations = map relation_of rs })) x.0 x.1) (numbered (take k (map node_of ns)))
    → out' ≡ head ++ flat (λ x. plain.node_text (record { nodes = map node_of ns; relations = map relation_of rs })
    (plain.statuses (record { nodes = map node_of ns; relations = map relation_of rs })) x.0 x.1) (numbered (take (k + 1) (map node_of ns)))
one_node ns rs head k n names status contexts supports out out' at named told e f now was =
    let c : plain.Case = record { nodes = map node_of ns; relations = map relation_of rs } in
    now
    ∙ (ap (λ xs. xs ++ node_text names k (node_of n) status contexts supports) was
    ∙ (append_assoc head (flat (λ x. plain.node_text c (plain.statuses c) x.0 x.1) (numbered (take k (map node_of ns)))) (node_text names k (node_of n) status contexts supports)
    ∙ ap (λ xs. head ++ xs) (ap (λ ys. flat (λ x. plain.node_text c (plain.statuses c) x.0 x.1) (numbered (take k (map node_of ns))) ++ ys)
    (text_is ns rs k (node_of n) names (plain.statuses c) status contexts supports (at_node ns k n at) named told e f)
    ∙ (sym (flat_more (λ x. plain.node_text c (plain.statuses c) x.0 x.1) (map node_of ns) 0 k k (node_of n) (omega arith) (at_node ns k n at))
    ∙ ap (λ i. flat (λ x. plain.node_text c (plain.statuses c) x.0 x.1) (numbered (take i (map node_of ns)))) (sym (one k))))))
  where
    one : (i : ℕ) → i + 1 ≡ suc i
    one i = omega arith

pub whole_text : (c : plain.Case) (title : List ℕ) (features : List (List ℕ)) (w : List Bool) (out : List ℕ) (k : ℕ) → length c.nodes ≤ k
    → out ≡ plain.heading (codes "case") title features w ++ flat (λ x. plain.node_text c (plain.statuses c) x.0 x.1) (numbered (take k c.nodes))
    → out ≡ plain.text_of_case c title features w
unfolding plain.text_of_case
whole_text c title features w out k l e =
    e ∙ ap (λ xs. plain.heading (codes "case") title features w ++ flat (λ x. plain.node_text c (plain.statuses c) x.0 x.1) (numbered xs)) (take_all k c.nodes l)
