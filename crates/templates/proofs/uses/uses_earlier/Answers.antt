use Rattle.std.proofs.Common.{◌≡◌, ◌∙◌, sym, ap, ◌<◌, ◌≤◌, map, Some, None, arith}
use Rattle.std.specs.Prelude.{codes}
use Rattle.std.specs.List.{slice_get}
use Rattle.meaning.specs.Texts.{place_of}
use Rattle.meaning.specs.Documents.{text_at, list_at, texts_in}
use Rattle.doc_tree.specs.View.{document}
use Rattle.templates.specs.UseReads.{all_fit}
use Rattle.templates.proofs.UseLaws.{found_item, found_none, uses_none, uses_later, uses_there, uses_unread}
use Rattle.templates.proofs.uses.uses_earlier.Goals as goal

pub returns-in-Some-get : goal.returns-in-Some-get
returns-in-Some-get c =
    let m = c.args.model.now in
    let scope = c.args.scope.now in
    let d = document c.args.node.now in
    let row = c.in-Some-get.row.now in
    let found = c.in-Some.found in
    let place : place_of (text_at (codes "template") d) c.args.names.now ≡ Some found =
    sym (c.find.ensures ∙ ap (λ t. place_of t c.args.names.now) c.text_at.ensures) ∙ c.in-Some.is in
    let earlier : found < c.args.number = omega (arith, c.if-from-number.true, c.from.ensures) in
    let there : slice_get c.args.parameters.now found ≡ Some row =
    ap (slice_get c.args.parameters.now) (sym c.from-in-Some.ensures)
    ∙ found_item c.args.parameters.now c.from-in-Some.result row c.in-Some-get.ensures.lookup.3.0 c.in-Some-get.ensures.lookup.1 in
    c.arguments_fit.ensures
    ∙ (ap (λ ds. all_fit m scope (texts_in ds) (map (λ p. p.1) c.list.result.now)) c.list_at.ensures
    ∙ (ap (λ ps. all_fit m scope (texts_in (list_at (codes "args") d)) (map (λ p. p.1) ps)) c.list.ensures
    ∙ uses_there m c.args.docs.now c.args.names.now c.args.parameters.now c.args.number scope c.requires.names c.requires.types (text_at (codes "template") d)
    (texts_in (list_at (codes "args") d)) found row place earlier there))

pub returns-in-None : goal.returns-in-None
returns-in-None c =
    let d = document c.args.node.now in
    let found = c.in-Some.found in
    let place : place_of (text_at (codes "template") d) c.args.names.now ≡ Some found =
    sym (c.find.ensures ∙ ap (λ t. place_of t c.args.names.now) c.text_at.ensures) ∙ c.in-Some.is in
    let earlier : found < c.args.number = omega (arith, c.if-from-number.true, c.from.ensures) in
    let there : slice_get c.args.parameters.now found ≡ None =
    ap (slice_get c.args.parameters.now) (sym c.from-in-Some.ensures) ∙ found_none c.args.parameters.now c.from-in-Some.result c.in-None.ensures.lookup.3 in
    uses_unread c.args.model.now c.args.docs.now c.args.names.now c.args.parameters.now c.args.number c.args.scope.now c.requires.names c.requires.types (text_at (codes "template") d)
    (texts_in (list_at (codes "args") d)) found place earlier there

pub returns-in_default : goal.returns-in_default
returns-in_default c =
    let d = document c.args.node.now in
    let found = c.in-Some.found in
    let place : place_of (text_at (codes "template") d) c.args.names.now ≡ Some found =
    sym (c.find.ensures ∙ ap (λ t. place_of t c.args.names.now) c.text_at.ensures) ∙ c.in-Some.is in
    let later : c.args.number ≤ found = omega (arith, c.if-from-number.false, c.from.ensures) in
    uses_later c.args.model.now c.args.docs.now c.args.names.now c.args.parameters.now c.args.number c.args.scope.now c.requires.names c.requires.types (text_at (codes "template") d)
    (texts_in (list_at (codes "args") d)) found place later

pub returns-in_default-2 : goal.returns-in_default-2
returns-in_default-2 c =
    let d = document c.args.node.now in
    let place : place_of (text_at (codes "template") d) c.args.names.now ≡ None =
    sym (c.find.ensures ∙ ap (λ t. place_of t c.args.names.now) c.text_at.ensures) ∙ c.in_default.is in
    uses_none c.args.model.now c.args.docs.now c.args.names.now c.args.parameters.now c.args.number c.args.scope.now c.requires.names c.requires.types (text_at (codes "template") d)
    (texts_in (list_at (codes "args") d)) place
