use Rattle.std.proofs.Common.{◌≡◌, ◌<◌, [], ℕ, List, Some, map, length, get_or, string_bytes, sym, ap, ◌∙◌, subst, arith}
use Rattle.std.specs.Prelude.{codes}
use Rattle.std.proofs.lemmas.List.{get_or-map, length-map}
use Rattle.std.proofs.lemmas.Option.{slice_get-get_or}
use Rattle.meaning.specs.Cases as plain
use Rattle.gsn.specs.declared.case.CRel.{CRel}
use Rattle.gsn.specs.View.{case_of, status_view}
use Rattle.case_text.specs.Parts.{targets_of}
use Rattle.case_text.proofs.Pieces.{targets_in}
use Rattle.case_text.proofs.Whole.{length_nodes, length_statuses, length_identifiers, told_at, one_node, whole_text}
use Rattle.case_text.proofs.written.text.Goals as goal

pub bounds-list-place : goal.bounds-list-place
bounds-list-place c =
    let a = ap length c.in_ok-statuses.ensures.statuses in
    let b = length_statuses (case_of c.args.case.now) in
    let d = length_nodes c.args.case.now.nodes in
    let e = length-map c.in_ok-statuses.statuses status_view in
    let f = ap length c.list.ensures in
    let g = ap length c.list-nodes.ensures in
    omega (arith, a, b, d, e, f, g, c.nodes-test.true)

pub put_node-requires-clause-place : goal.put_node-requires-clause-place
put_node-requires-clause-place c =
    let a = ap length c.in_ok-identifiers.ensures in
    let b = length_identifiers (case_of c.args.case.now) in
    let d = length_nodes c.args.case.now.nodes in
    let e = length-map c.in_ok-identifiers.identifiers.items string_bytes in
    let f = ap length c.deref.ensures.value in
    let g = ap length c.list-nodes.ensures in
    omega (arith, a, b, d, e, f, g, c.nodes-test.true)

-- the targets that were gathered for a node
gathered : (kind : plain.RelationKind) (rs rs' : List CRel) (k : ℕ) (lists : List (List ℕ)) (list : List ℕ) → rs ≡ rs' → ((x : ℕ) → get_or lists x [] ≡ targets_of kind x rs)
    → list ≡ get_or lists k [] → list ≡ targets_of kind k rs'
gathered kind rs rs' k lists list same all read = read ∙ (all k ∙ ap (targets_of kind k) same)

in_names : (kind : plain.RelationKind) (rs : List CRel) (nodes names k : ℕ) (list : List ℕ) → list ≡ targets_of kind k rs → names ≡ nodes
    → ((i : ℕ) (d : CRel) → i < length rs → ((get_or rs i d).from < nodes) × ((get_or rs i d).to < nodes))
    → (i : ℕ) (d : ℕ) → i < length list → get_or list i d < names
in_names kind rs nodes names k list e size ends =
    subst (λ xs. (i : ℕ) (d : ℕ) → i < length xs → get_or xs i d < names) (sym e)
    (subst (λ m. (i : ℕ) (d : ℕ) → i < length (targets_of kind k rs) → get_or (targets_of kind k rs) i d < m) (sym size) (targets_in kind k nodes rs (λ i d l. (ends i d l).1)))

pub put_node-requires-clause-contexts : goal.put_node-requires-clause-contexts
put_node-requires-clause-contexts c =
    let g = ap length c.list-nodes.ensures in
    let there : c.nodes.place < length c.in_ok-contexts.contexts.items = omega (arith, c.in_ok-contexts.contexts.ok.0, c.in_ok-contexts.ensures.sized, c.nodes-test.true) in
    let a = ap length c.in_ok-identifiers.ensures in
    let b = length_identifiers (case_of c.args.case.now) in
    let d = length_nodes c.args.case.now.nodes in
    let e = length-map c.in_ok-identifiers.identifiers.items string_bytes in
    let f = ap length c.deref.ensures.value in
    in_names plain.InContextOf c.args.case.now.relations (length c.args.case.now.nodes) (length c.deref.result.now) c.nodes.place c.deref-in-nodes.result.now
    (gathered plain.InContextOf c.list-relations.result.now c.args.case.now.relations c.nodes.place (map (λ list. list.items) c.in_ok-contexts.contexts.items) c.deref-in-nodes.result.now
    c.list-relations.ensures c.in_ok-contexts.ensures.targets
    (c.deref-in-nodes.ensures.value ∙ (ap (λ list. list.items) c.index.ensures ∙ sym (get_or-map (λ list. list.items) c.in_ok-contexts.contexts.items c.nodes.place c.index.result.now [] there))))
    (omega (arith, a, b, d, e, f)) c.requires.ends

pub put_node-requires-clause-supports : goal.put_node-requires-clause-supports
put_node-requires-clause-supports c =
    let g = ap length c.list-nodes.ensures in
    let there : c.nodes.place < length c.in_ok-supports.supports.items = omega (arith, c.in_ok-supports.supports.ok.0, c.in_ok-supports.ensures.sized, c.nodes-test.true) in
    let a = ap length c.in_ok-identifiers.ensures in
    let b = length_identifiers (case_of c.args.case.now) in
    let d = length_nodes c.args.case.now.nodes in
    let e = length-map c.in_ok-identifiers.identifiers.items string_bytes in
    let f = ap length c.deref.ensures.value in
    in_names plain.SupportedBy c.args.case.now.relations (length c.args.case.now.nodes) (length c.deref.result.now) c.nodes.place c.deref-in-nodes-2.result.now
    (gathered plain.SupportedBy c.list-relations.result.now c.args.case.now.relations c.nodes.place (map (λ list. list.items) c.in_ok-supports.supports.items) c.deref-in-nodes-2.result.now
    c.list-relations.ensures c.in_ok-supports.ensures.targets
    (c.deref-in-nodes-2.ensures.value ∙ (ap (λ list. list.items) c.index-in-nodes.ensures ∙ sym (get_or-map (λ list. list.items) c.in_ok-supports.supports.items c.nodes.place c.index-in-nodes.result.now [] there))))
    (omega (arith, a, b, d, e, f)) c.requires.ends

pub nodes-preserved : goal.nodes-preserved
nodes-preserved c =
    let there : c.nodes.place < length c.in_ok-contexts.contexts.items = omega (arith, c.in_ok-contexts.contexts.ok.0, c.in_ok-contexts.ensures.sized, c.nodes-test.true) in
    let there' : c.nodes.place < length c.in_ok-supports.supports.items = omega (arith, c.in_ok-supports.supports.ok.0, c.in_ok-supports.ensures.sized, c.nodes-test.true) in
    let ns = c.args.case.now.nodes in
    let k = c.nodes.place in
    let n = c.index-nodes-place.result in
    let g = ap length c.list-nodes.ensures in
    let l : c.nodes.place < length c.args.case.now.nodes = omega (arith, g, c.nodes-test.true) in
    let read : c.index-nodes-place.result ≡ get_or c.args.case.now.nodes c.nodes.place c.index-nodes-place.result = c.index-nodes-place.is ∙ ap (λ xs. get_or xs k n) c.list-nodes.ensures in
    let sa = ap length c.in_ok-statuses.ensures.statuses in
    let sb = length_statuses (case_of c.args.case.now) in
    let sd = length_nodes c.args.case.now.nodes in
    let se = length-map c.in_ok-statuses.statuses status_view in
    let sf = ap length c.list.ensures in
    one_node c.args.case.now.nodes c.args.case.now.relations (plain.heading (codes "case") c.args.title.now c.args.features.now c.args.world.now) c.nodes.place c.index-nodes-place.result
    (map string_bytes c.deref.result.now) _ c.deref-in-nodes.result.now c.deref-in-nodes-2.result.now c.nodes.out.items c.put_node.new.out.items
    (slice_get-get_or ns k n l ∙ ap (λ x. Some x) (sym read))
    (ap (map string_bytes) c.deref.ensures.value ∙ c.in_ok-identifiers.ensures)
    (told_at c.list.result.now (plain.statuses (case_of c.args.case.now)) c.nodes.place _ (ap (map status_view) c.list.ensures ∙ c.in_ok-statuses.ensures.statuses) (omega (arith, sa, sb, sd, se, sf, l)))
    (gathered plain.InContextOf c.list-relations.result.now c.args.case.now.relations c.nodes.place (map (λ list. list.items) c.in_ok-contexts.contexts.items) c.deref-in-nodes.result.now
    c.list-relations.ensures c.in_ok-contexts.ensures.targets
    (c.deref-in-nodes.ensures.value ∙ (ap (λ list. list.items) c.index.ensures ∙ sym (get_or-map (λ list. list.items) c.in_ok-contexts.contexts.items c.nodes.place c.index.result.now [] there))))
    (gathered plain.SupportedBy c.list-relations.result.now c.args.case.now.relations c.nodes.place (map (λ list. list.items) c.in_ok-supports.supports.items) c.deref-in-nodes-2.result.now
    c.list-relations.ensures c.in_ok-supports.ensures.targets
    (c.deref-in-nodes-2.ensures.value ∙ (ap (λ list. list.items) c.index-in-nodes.ensures ∙ sym (get_or-map (λ list. list.items) c.in_ok-supports.supports.items c.nodes.place c.index-in-nodes.result.now [] there'))))
    c.in_ok-put_node.ensures c.nodes.invariant

pub returns : goal.returns
returns c =
    let d = length_nodes c.args.case.now.nodes in
    let g = ap length c.list-nodes.ensures in
    whole_text (case_of c.args.case.now) c.args.title.now c.args.features.now c.args.world.now c.nodes.out.items c.nodes.place (omega (arith, d, g, c.nodes-test.false)) c.nodes.invariant
