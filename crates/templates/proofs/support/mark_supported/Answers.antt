use Rattle.std.proofs.Common.{◌≡◌, sym, ap, ◌∙◌, ◌+◌, [], ◌∷◌, ◌++◌, length, get_or, take, map, true, false, vec_len, arith, rules}
use Rattle.std.specs.Prelude.{not, if◌then◌else◌, None}
use Rattle.meaning.specs.BundlePlaces.{is_among}
use Rattle.meaning.specs.LineRules.{is_within}
use Rattle.meaning.specs.ModelRules.{is_formed}
use Rattle.meaning.specs.TemplateRules.{id_in, kind_in, supports}
use Rattle.doc_tree.specs.View.{document, documents}
use Rattle.templates.specs.NodeRules.{form_with, above_among}
use Rattle.templates.proofs.SupportLaws.{ids_before, doc_inside, doc_past, doc_is, not_false, not_true, within_more, ids_many, ids_more, formed_next, unformed_next, formed_to_end, marks_more, marks_to_end, supported_inside}
use Rattle.templates.proofs.support.mark_supported.Goals as goal

pub returns-then-not-is_formed-clause-formed : goal.returns-then-not-is_formed-clause-formed
returns-then-not-is_formed-clause-formed c =
    let node = c.index-nodes-number.result in
    let known = c.is_known-new.ensures ∙ ap (is_among c.nodes.ids) c.text_at.ensures in
    let tested : c.is_formed.result ≡ is_formed (form_with (not (is_among c.nodes.ids (id_in (document node)))) (is_within 1024 (c.args.counted + c.nodes.number)) (document node)) =
    c.is_formed.ensures.formed ∙ ap (λ b. is_formed (form_with (not b) (is_within 1024 (c.args.counted + c.nodes.number)) (document node))) known in
    unformed_next c.args.nodes.now c.nodes.number c.nodes.ids c.nodes.invariant.ids c.args.counted node c.nodes-test.true c.index-nodes-number.is c.is_formed.result tested
    (first_of (cc, search (rules, not_true)))

pub mark-requires : goal.mark-requires
mark-requires c =
    supported_inside c.nodes.ids (document c.index-nodes-number.result) c.supported_by.result (vec_len c.nodes.marks) c.supported_by.ensures
    (ids_many c.args.nodes.now c.nodes.number c.nodes.ids c.nodes.invariant.ids (omega arith) ∙ sym c.nodes.invariant.many)

pub nodes-preserved : goal.nodes-preserved
nodes-preserved c =
    let items = c.args.nodes.now in
    let i = c.nodes.number in
    let node = c.index-nodes-number.result in
    let known = c.is_known-new.ensures ∙ ap (is_among c.nodes.ids) c.text_at.ensures in
    let tested : c.is_formed.result ≡ is_formed (form_with (not (is_among c.nodes.ids (id_in (document node)))) (is_within 1024 (c.args.counted + i)) (document node)) =
    c.is_formed.ensures.formed ∙ ap (λ b. is_formed (form_with (not b) (is_within 1024 (c.args.counted + i)) (document node))) known in
    let holds : c.is_formed.result ≡ true = first_of (cc, search (rules, not_false)) in
    let within : is_within 1024 (c.args.counted + i) ≡ true = c.is_formed.ensures.within holds in
    let many : length c.nodes.marks.items ≡ i = omega (arith, c.nodes.marks.ok.0, c.nodes.invariant.many) in
    let sized : length c.nodes.ids ≡ length c.nodes.marks.items = ids_many items i c.nodes.ids c.nodes.invariant.ids (omega arith) ∙ sym many in
    let before : c.nodes.ids ≡ take i (map id_in (documents items)) = c.nodes.invariant.ids ∙ ids_before items i in
    let inside = supported_inside c.nodes.ids (document node) c.supported_by.result (length c.nodes.marks.items) c.supported_by.ensures sized in
    let number_is = c.supported_by.ensures ∙ ap (λ ss. if supports (kind_in (document node)) then above_among ss (document node) else None) before in
    record {
      few = let l = within_more (c.args.counted + i) within c.nodes.invariant.few in omega arith;
      many = omega (arith, c.in_ok-push.ensures.len, c.mark.ensures.length, c.nodes.invariant.many);
      ids = ids_more items i c.nodes.ids c.nodes.invariant.ids node c.text_at-in-nodes.result.now c.add_new.new.names c.nodes-test.true c.index-nodes-number.is c.text_at-in-nodes.ensures
          c.in_ok-add_new.ensures.added;
      formed = formed_next items i c.nodes.ids c.nodes.invariant.ids c.args.counted node c.nodes-test.true c.index-nodes-number.is c.is_formed.result tested c.nodes.invariant.formed holds;
      marks = λ j. ap (λ ms. get_or ms j false) (c.in_ok-push.ensures.items ∙ ap (λ ms. ms ++ false ∷ []) c.mark.ensures.marks)
          ∙ marks_more (documents items) c.nodes.marks.items i (document node) (doc_inside items i c.nodes-test.true) (doc_is items i node c.index-nodes-number.is)
          c.supported_by.result number_is inside c.nodes.invariant.marks j;
    }

pub returns-clause-formed : goal.returns-clause-formed
returns-clause-formed c =
    formed_to_end c.args.counted (documents c.args.nodes.now) c.nodes.number (doc_past c.args.nodes.now c.nodes.number c.nodes-test.false) c.nodes.invariant.formed

pub returns-clause-marks : goal.returns-clause-marks
returns-clause-marks c =
    λ _ j. marks_to_end (documents c.args.nodes.now) c.nodes.marks.items c.nodes.number (doc_past c.args.nodes.now c.nodes.number c.nodes-test.false) c.nodes.invariant.marks j
