-- Statuses and texts do not read the keys of nodes.
use Rattle.std.proofs.Common.{◌≡◌, ℕ, zero, suc, ◌+◌, List, [], ◌∷◌, ◌++◌, Bool, true, false, take, length, map, refl, sym, ap, ◌∙◌}
use Rattle.std.specs.Prelude.{count_by, cond, option_map, unwrap_or, decimal, codes, if◌then◌else◌}
use Rattle.std.specs.List.{slice_get, enumerate_from}
use Rattle.std.proofs.lemmas.List.{length-map}
use Rattle.std.proofs.lemmas.List.Sums.{sum_by-cons}
use Rattle.meaning.specs.Texts.{flat, spaced, holds_at}
use Rattle.meaning.specs.Cases.{NodeKind, Node, Case, Status, Open, kind_word, has_status, status_word, statuses, status_of, is_judged, joins_refuted, joins_supported, refuted_within, refuted_nodes, supported_within, supported_nodes, same_kind, letters, identifier, identifier_of, ends_line, ends_of, node_text, heading, newline, text_of_case}
use Rattle.case_derive.specs.Keys.{unkeyed_node, unkeyed}
use Rattle.case_derive.proofs.Functions.{same_function}

-- ---- statuses

nodes_alike : {A : Type 0} (f : Node → A) → ((n : Node) → f (unkeyed_node n) ≡ f n) → (ns : List Node) → map f (map unkeyed_node ns) ≡ map f ns
nodes_alike f e [] = refl
nodes_alike f e (n ∷ ns) = ap (λ x. x ∷ map f (map unkeyed_node ns)) (e n) ∙ ap (λ xs. f n ∷ xs) (nodes_alike f e ns)

numbered_alike : {A : Type 0} (f g : ℕ × Node → A) → ((i : ℕ) (n : Node) → f (i, unkeyed_node n) ≡ g (i, n)) → (k : ℕ) (ns : List Node)
    → map f (enumerate_from k (map unkeyed_node ns)) ≡ map g (enumerate_from k ns)
numbered_alike f g e k [] = refl
numbered_alike f g e k (n ∷ ns) =
    ap (λ x. x ∷ map f (enumerate_from (k + 1) (map unkeyed_node ns))) (e k n) ∙ ap (λ xs. g (k, n) ∷ xs) (numbered_alike f g e (k + 1) ns)

refuted_alike : (c : Case) (n : ℕ) → refuted_within (unkeyed c) n ≡ refuted_within c n
refuted_alike c zero = nodes_alike (is_judged false) (λ n. refl) c.nodes
refuted_alike c (suc n) =
    ap (λ before. map (joins_refuted (unkeyed c) before) (enumerate_from 0 (map unkeyed_node c.nodes))) (refuted_alike c n)
    ∙ numbered_alike (joins_refuted (unkeyed c) (refuted_within c n)) (joins_refuted c (refuted_within c n)) (λ i x. refl) 0 c.nodes

all_refuted_alike : (c : Case) → refuted_nodes (unkeyed c) ≡ refuted_nodes c
all_refuted_alike c = ap (refuted_within (unkeyed c)) (length-map c.nodes unkeyed_node) ∙ refuted_alike c (length c.nodes)

supported_alike : (c : Case) (refuted : List Bool) (n : ℕ) → supported_within (unkeyed c) refuted n ≡ supported_within c refuted n
supported_alike c refuted zero = nodes_alike (is_judged true) (λ n. refl) c.nodes
supported_alike c refuted (suc n) =
    ap (λ before. map (joins_supported (unkeyed c) refuted before) (enumerate_from 0 (map unkeyed_node c.nodes))) (supported_alike c refuted n)
    ∙ numbered_alike (joins_supported (unkeyed c) refuted (supported_within c refuted n)) (joins_supported c refuted (supported_within c refuted n)) (λ i x. refl) 0 c.nodes

all_supported_alike : (c : Case) → supported_nodes (unkeyed c) ≡ supported_nodes c
all_supported_alike c =
    ap (λ refuted. supported_within (unkeyed c) refuted (length (map unkeyed_node c.nodes))) (all_refuted_alike c)
    ∙ ap (supported_within (unkeyed c) (refuted_nodes c)) (length-map c.nodes unkeyed_node) ∙ supported_alike c (refuted_nodes c) (length c.nodes)

pub statuses_of_unkeyed : (c : Case) → statuses (unkeyed c) ≡ statuses c
unfolding statuses
statuses_of_unkeyed c =
    let told : List Bool → List Bool → ℕ × Node → Status = λ refuted supported x. status_of (holds_at refuted x.0) (holds_at supported x.0) in
    ap (λ refuted. map (told refuted (supported_nodes (unkeyed c))) (enumerate_from 0 (map unkeyed_node c.nodes))) (all_refuted_alike c)
    ∙ ap (λ supported. map (told (refuted_nodes c) supported) (enumerate_from 0 (map unkeyed_node c.nodes))) (all_supported_alike c)
    ∙ numbered_alike (told (refuted_nodes c) (supported_nodes c)) (told (refuted_nodes c) (supported_nodes c)) (λ i x. refl) 0 c.nodes

-- ---- identifiers

kinds_alike : (kind : NodeKind) (i : ℕ) (ns : List Node) → count_by (λ y. same_kind y.kind kind) (take i (map unkeyed_node ns)) ≡ count_by (λ y. same_kind y.kind kind) (take i ns)
kinds_alike kind zero ns = refl
kinds_alike kind (suc i) [] = refl
kinds_alike kind (suc i) (n ∷ ns) =
    sum_by-cons (λ y. cond (same_kind y.kind kind) 1 0) (unkeyed_node n) (take i (map unkeyed_node ns))
    ∙ ap (λ k. cond (same_kind n.kind kind) 1 0 + k) (kinds_alike kind i ns)
    ∙ sym (sum_by-cons (λ y. cond (same_kind y.kind kind) 1 0) n (take i ns))

identifier_of_alike : (c : Case) (i : ℕ) (n : Node) → identifier_of (unkeyed c) i (unkeyed_node n) ≡ identifier_of c i n
identifier_of_alike c i n = ap (λ k. letters n.kind ++ decimal (suc k)) (kinds_alike n.kind i c.nodes)

found_alike : (f g : Node → List ℕ) → ((n : Node) → f (unkeyed_node n) ≡ g n) → (i : ℕ) (ns : List Node)
    → unwrap_or (option_map f (slice_get (map unkeyed_node ns) i)) [] ≡ unwrap_or (option_map g (slice_get ns i)) []
found_alike f g e i [] = refl
found_alike f g e zero (n ∷ ns) = e n
found_alike f g e (suc i) (n ∷ ns) = found_alike f g e i ns

identifiers_alike : (c : Case) → identifier (unkeyed c) ≡ identifier c
identifiers_alike c =
    same_function (identifier (unkeyed c)) (identifier c) (λ i. found_alike (identifier_of (unkeyed c) i) (identifier_of c i) (identifier_of_alike c i) i c.nodes)

-- ---- texts

ends_alike : (c : Case) (title : List ℕ) (xs : List ℕ) → ends_line (unkeyed c) title xs ≡ ends_line c title xs
ends_alike c title [] = refl
ends_alike c title (x ∷ xs) = ap (λ (f : ℕ → List ℕ). title ++ spaced (map f (x ∷ xs)) ++ newline) (identifiers_alike c)

node_alike : (c : Case) (all : List Status) (i : ℕ) (n : Node) → node_text (unkeyed c) all i (unkeyed_node n) ≡ node_text c all i n
node_alike c all i n =
    let rest : List ℕ → List ℕ → List ℕ → List ℕ = λ name contexts supports.
    (name ++ codes " " ++ kind_word n.kind
    ++ (if has_status n.kind then codes " " ++ status_word (unwrap_or (slice_get all i) Open) else [])
    ++ (if n.undeveloped then codes " undeveloped" else []) ++ newline)
    ++ codes "  " ++ n.words ++ newline ++ contexts ++ supports in
    let contexts : Case → List ℕ = λ x. ends_line x (codes "  in context of") (ends_of c false i) in
    let supports : Case → List ℕ = λ x. ends_line x (codes "  supported by") (ends_of c true i) in
    ap (λ name. rest name (contexts (unkeyed c)) (supports (unkeyed c))) (identifier_of_alike c i n)
    ∙ ap (λ xs. rest (identifier_of c i n) xs (supports (unkeyed c))) (ends_alike c (codes "  in context of") (ends_of c false i))
    ∙ ap (rest (identifier_of c i n) (contexts c)) (ends_alike c (codes "  supported by") (ends_of c true i))

flat_alike : (f g : ℕ × Node → List ℕ) → ((i : ℕ) (n : Node) → f (i, unkeyed_node n) ≡ g (i, n)) → (k : ℕ) (ns : List Node)
    → flat f (enumerate_from k (map unkeyed_node ns)) ≡ flat g (enumerate_from k ns)
flat_alike f g e k [] = refl
flat_alike f g e k (n ∷ ns) = ap (λ x. x ++ flat f (enumerate_from (k + 1) (map unkeyed_node ns))) (e k n) ∙ ap (λ xs. g (k, n) ++ xs) (flat_alike f g e (k + 1) ns)

-- a case has the text that it has without its keys
pub text_of_unkeyed : (c : Case) (title : List ℕ) (features : List (List ℕ)) (world : List Bool)
    → text_of_case (unkeyed c) title features world ≡ text_of_case c title features world
unfolding text_of_case
text_of_unkeyed c title features world =
    ap (λ nodes. heading (codes "case") title features world ++ nodes)
    (ap (λ all. flat (λ x. node_text (unkeyed c) all x.0 x.1) (enumerate_from 0 (map unkeyed_node c.nodes))) (statuses_of_unkeyed c)
    ∙ flat_alike (λ x. node_text (unkeyed c) (statuses c) x.0 x.1) (λ x. node_text c (statuses c) x.0 x.1) (node_alike c (statuses c)) 0 c.nodes)
