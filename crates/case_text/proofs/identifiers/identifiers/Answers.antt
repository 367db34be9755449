use Rattle.std.proofs.Common.{◌≡◌, ◌<◌, ◌+◌, ◌++◌, ◌∷◌, [], ℕ, suc, List, Some, map, length, get_or, set, take, inl, inr, string_bytes, decimal, refl, sym, ap, ◌∙◌, subst, arith}
use Rattle.std.specs.Prelude.{count_by, ◌==◌}
use Rattle.std.specs.List.{slice_get, range_with_len}
use Rattle.std.proofs.lemmas.Bool.{cases_eq, eq-eqb, ne_eqb}
use Rattle.std.proofs.lemmas.List.{get_or-set_same, get_or-set_other, map-append, length-set}
use Rattle.std.proofs.lemmas.List.FromFn.{map-range_with_len_more}
use Rattle.std.proofs.lemmas.List.Sums.{count_by_more_yes, count_by_more_no}
use Rattle.std.proofs.lemmas.Option.{slice_get-get_or, get_or_from_slice_get}
use Rattle.meaning.specs.Cases as plain
use Rattle.gsn.specs.View.{case_of, node_of, kind_of}
use Rattle.case_text.proofs.Whole.{at_node, length_nodes, identifier_at}
use Rattle.case_text.proofs.identifiers.identifiers.Goals as goal

-- the counts of kinds, one node further
module _ (xs : List plain.Node) (k : ℕ) (x : plain.Node) (at : slice_get xs k ≡ Some x) (l : k < length xs) (counts : List ℕ) (six : length counts ≡ 6)
    (q : ℕ) (is_kind : q ≡ plain.kind_number x.kind) (small : q < 6)
    (was : (j : ℕ) → j < 6 → get_or counts j 0 ≡ count_by (λ y. plain.kind_number y.kind == j) (take k xs)) where
  here : get_or xs k x ≡ x
  here = get_or_from_slice_get xs k x x at

  counted : (j : ℕ) → j < 6 → get_or (set counts q (get_or counts q 0 + 1)) j 0 ≡ count_by (λ y. plain.kind_number y.kind == j) (take (k + 1) xs)
  counted j h = elim (cases_eq j q) [
    | inl e ↦
        subst (λ i. get_or (set counts q (get_or counts q 0 + 1)) i 0 ≡ count_by (λ y. plain.kind_number y.kind == i) (take (k + 1) xs)) (sym e)
        (get_or-set_same counts q (get_or counts q 0 + 1) 0 (omega (arith, six, small)) ∙ (ap (λ n. n + 1) (was q small)
        ∙ sym (count_by_more_yes (λ y. plain.kind_number y.kind == q) xs k x l (ap (λ y. plain.kind_number y.kind == q) here ∙ eq-eqb (plain.kind_number x.kind) q (sym is_kind)))))
    | inr ne ↦
        get_or-set_other counts q j (get_or counts q 0 + 1) 0 ne ∙ (was j h
        ∙ sym (count_by_more_no (λ y. plain.kind_number y.kind == j) xs k x l (ap (λ y. plain.kind_number y.kind == j) here
        ∙ ne_eqb (plain.kind_number x.kind) j (λ z. ne (sym z ∙ sym is_kind)))))
  ]

  named : (c : plain.Case) → c.nodes ≡ xs → plain.letters x.kind ++ decimal (get_or counts q 0 + 1) ≡ plain.identifier c k
  named c e =
      ap (λ n. plain.letters x.kind ++ decimal n) (ap (λ n. n + 1) (was q small ∙ ap (λ j. count_by (λ y. plain.kind_number y.kind == j) (take k xs)) is_kind) ∙ one (count_by (λ y. plain.same_kind y.kind x.kind) (take k xs)))
      ∙ (ap (λ ys. plain.letters x.kind ++ decimal (suc (count_by (λ y. plain.same_kind y.kind x.kind) (take k ys)))) (sym e)
      ∙ sym (identifier_at c k x (ap (λ ys. slice_get ys k) e ∙ at)))
    where
      one : (n : ℕ) → n + 1 ≡ suc n
      one n = omega arith

pub nodes-preserved : goal.nodes-preserved
nodes-preserved c =
    let ns = c.args.case.now.nodes in
    let k = c.nodes.node-index in
    let n = c.node-item.result in
    let q = c.kind_number-kind.result in
    let l : c.nodes.node-index < length c.args.case.now.nodes = (let e = ap length c.list-node-items.ensures in omega (arith, e, c.nodes-test.true)) in
    let read : c.node-item.result ≡ get_or c.args.case.now.nodes c.nodes.node-index c.node-item.result = c.node-item.is ∙ ap (λ xs. get_or xs k n) c.list-node-items.ensures in
    let at : slice_get (map node_of c.args.case.now.nodes) c.nodes.node-index ≡ Some (node_of c.node-item.result) = at_node ns k n (slice_get-get_or ns k n l ∙ ap (λ x. Some x) (sym read)) in
    let l' : c.nodes.node-index < length (map node_of c.args.case.now.nodes) = (let e = length_nodes ns in omega (arith, e, l)) in
    let was = c.nodes.invariant in
    record {
      names =
          ap (map string_bytes) c.in_ok-push.ensures.items ∙ (map-append string_bytes c.nodes.all.items (c.in_ok-identifier.field-0 ∷ [])
          ∙ (ap (λ xs. xs ++ string_bytes c.in_ok-identifier.field-0 ∷ []) was.names
          ∙ (ap (λ x. map (plain.identifier (case_of c.args.case.now)) (range_with_len 0 c.nodes.node-index) ++ x ∷ [])
          (c.in_ok-identifier.ensures ∙ (ap (λ m. plain.letters (kind_of c.node-item.result.kind) ++ decimal m) (get_or-set_same c.nodes.counts q (get_or c.nodes.counts q 0 + 1) 0 (omega (arith, was.kinds, c.kind_number-kind.ensures.within)))
          ∙ named (map node_of ns) k (node_of n) at l' c.nodes.counts was.kinds q c.kind_number-kind.ensures.number c.kind_number-kind.ensures.within was.counts (case_of c.args.case.now) refl))
          ∙ sym (map-range_with_len_more (plain.identifier (case_of c.args.case.now)) 0 c.nodes.node-index c.nodes.node-index (omega arith)))));
      kinds = length-set c.nodes.counts q (get_or c.nodes.counts q 0 + 1) ∙ was.kinds;
      counts = counted (map node_of ns) k (node_of n) at l' c.nodes.counts was.kinds q c.kind_number-kind.ensures.number c.kind_number-kind.ensures.within was.counts;
    }
