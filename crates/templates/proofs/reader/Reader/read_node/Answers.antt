use Rattle.std.proofs.Common.{◌+◌, refl, [], sym, ap, ◌∙◌, subst, arith}
use Rattle.std.specs.Prelude.{not, codes, unwrap_or}
use Rattle.meaning.specs.BundlePlaces.{Nodes, requires, faults_at, is_among}
use Rattle.meaning.specs.LineRules.{is_within, expression_rules}
use Rattle.meaning.specs.TemplateRules.{check_in}
use Rattle.doc_tree.specs.View.{document}
use Rattle.templates.specs.Faults.{IsFirst, faults_here}
use Rattle.templates.specs.View.{node_view}
use Rattle.templates.specs.Readers.{new_variables_in}
use Rattle.templates.specs.Seen.{next_broken, scope_next}
use Rattle.templates.proofs.Firsts.{at_error}
use Rattle.templates.proofs.QueryLaws.{texts_fit}
use Rattle.templates.proofs.SupportLaws.{within_more}
use Rattle.templates.proofs.NodeSteps.{item_is, item_inside, form_stops, never_stops, place_stops, scoped_stops, next_none, number_above_is, scope_found, scope_short, told_next, formed_more}
use Rattle.templates.proofs.reader.Reader.read_node.Goals as goal

pub returns-in_err-check_form-clause-fault : goal.returns-in_err-check_form-clause-fault
returns-in_err-check_form-clause-fault c =
    let r = c.args.self.now in
    let seen = c.args.seen.now in
    let i = c.args.number in
    let d = document c.args.node.now in
    let known = ap not (c.is_known-new.ensures ∙ ap (is_among seen.ids) c.text_at.ensures) in
    let new = not c.is_known-new.result in
    let within = is_within 1024 (r.counted + i) in
    let stop = c.in_err-check_form.field-0.0 in
    at_error c.from_residual.result stop (IsFirst (faults_at Nodes r.number i (next_broken r seen i d)))
    (form_stops r seen i d c.requires.seen new within known refl c.inside-place.result c.inside-place.ensures stop c.in_err-check_form.ensures.fault) c.from_residual.ensures.1

pub read_never-requires : goal.read_never-requires
read_never-requires c = (texts_fit (document c.args.node.now) c.in_ok-check_form.ensures.fit).never

pub returns-in_err-never-clause-fault : goal.returns-in_err-never-clause-fault
returns-in_err-never-clause-fault c =
    let r = c.args.self.now in
    let seen = c.args.seen.now in
    let i = c.args.number in
    let d = document c.args.node.now in
    let known = ap not (c.is_known-new.ensures ∙ ap (is_among seen.ids) c.text_at.ensures) in
    let new = not c.is_known-new.result in
    let within = is_within 1024 (r.counted + i) in
    let stop = c.in_err-never.field-0.0 in
    at_error c.from_residual-in_err-never.result stop (IsFirst (faults_at Nodes r.number i (next_broken r seen i d)))
    (never_stops r seen i d c.requires.seen new within known refl c.inside-place.result c.inside-place.ensures stop c.in_ok-check_form.ensures.none
    (subst (λ ls. IsFirst (faults_here c.inside-place.result (expression_rules ls (codes "never") (check_in d))) stop) c.labels.ensures c.in_err-never.ensures.fault)) c.from_residual-in_err-never.ensures.1

pub stands_in_place-requires : goal.stands_in_place-requires
stands_in_place-requires c = record {
  above = number_above_is c.args.self.now c.args.seen.now c.args.number (document c.args.node.now) c.requires.seen c.above_of-above.result c.above_of-above.ensures;
}

pub returns-in_err-require-clause-fault : goal.returns-in_err-require-clause-fault
returns-in_err-require-clause-fault c =
    let r = c.args.self.now in
    let seen = c.args.seen.now in
    let i = c.args.number in
    let d = document c.args.node.now in
    let known = ap not (c.is_known-new.ensures ∙ ap (is_among seen.ids) c.text_at.ensures) in
    let new = not c.is_known-new.result in
    let within = is_within 1024 (r.counted + i) in
    let never = ap (λ ls. expression_rules ls (codes "never") (check_in d)) (sym c.labels.ensures) ∙ c.in_ok-never.ensures.none in
    let stop = c.in_err-require.field-0.0 in
    at_error c.from_residual-in_err-require.result stop (IsFirst (faults_at Nodes r.number i (next_broken r seen i d)))
    (place_stops r seen i d c.requires.seen new within known refl c.inside-place.result c.inside-place.ensures stop c.in_ok-check_form.ensures.none never
    (subst (λ b. IsFirst (faults_here c.inside-place.result (requires 24 b)) stop) c.stands_in_place.ensures c.in_err-require.ensures.fault)) c.from_residual-in_err-require.ensures.1

pub at-scope-requires : goal.at-scope-requires
at-scope-requires c =
    let r = c.args.self.now in
    let seen = c.args.seen.now in
    let i = c.args.number in
    let d = document c.args.node.now in
    item_inside seen.scopes.all.items c.place_under-place.result (scope_next r seen d)
    (scope_found r seen i d c.requires.seen c.above_of-above.result c.above_of-above.ensures (sym c.stands_in_place.ensures ∙ c.in_ok-require.ensures.ok)
    c.annotates.result c.annotates.ensures c.place_under-place.result c.place_under-place.ensures)

pub read_scoped-requires-clause-few : goal.read_scoped-requires-clause-few
read_scoped-requires-clause-few c =
    scope_short c.args.self.now c.args.seen.now c.args.number (document c.args.node.now) c.requires.seen c.place_under-place.result c.at-scope.result.now c.at-scope.ensures

pub node_of-read-requires-clause-few : goal.node_of-read-requires-clause-few
node_of-read-requires-clause-few c =
    let few = scope_short c.args.self.now c.args.seen.now c.args.number (document c.args.node.now) c.requires.seen c.place_under-place.result c.at-scope.result.now c.at-scope.ensures in
    omega arith

pub read_scoped-requires-clause-formed : goal.read_scoped-requires-clause-formed
read_scoped-requires-clause-formed c =
    let r = c.args.self.now in
    let seen = c.args.seen.now in
    let i = c.args.number in
    let d = document c.args.node.now in
    let known = ap not (c.is_known-new.ensures ∙ ap (is_among seen.ids) c.text_at.ensures) in
    let new = not c.is_known-new.result in
    let within = is_within 1024 (r.counted + i) in
    formed_more r seen i c.args.node.now c.requires.seen c.requires.inside (item_is r.nodes.now i c.args.node.now c.requires.item) new within known refl
    c.in_ok-check_form.ensures.none c.requires.formed

pub returns-in_err-parts-clause-fault : goal.returns-in_err-parts-clause-fault
returns-in_err-parts-clause-fault c =
    let r = c.args.self.now in
    let seen = c.args.seen.now in
    let i = c.args.number in
    let d = document c.args.node.now in
    let known = ap not (c.is_known-new.ensures ∙ ap (is_among seen.ids) c.text_at.ensures) in
    let new = not c.is_known-new.result in
    let within = is_within 1024 (r.counted + i) in
    let never = ap (λ ls. expression_rules ls (codes "never") (check_in d)) (sym c.labels.ensures) ∙ c.in_ok-never.ensures.none in
    let stood = ap (requires 24) (sym c.stands_in_place.ensures) ∙ c.in_ok-require.ensures.none in
    let found = scope_found r seen i d c.requires.seen c.above_of-above.result c.above_of-above.ensures (sym c.stands_in_place.ensures ∙ c.in_ok-require.ensures.ok)
    c.annotates.result c.annotates.ensures c.place_under-place.result c.place_under-place.ensures in
    let scope = c.at-scope.result.now in
    let scope_is = ap (λ o. unwrap_or o []) (sym c.at-scope.ensures ∙ found) in
    let stop = c.in_err-parts.field-0.0 in
    at_error c.from_residual-in_err-parts.result stop (IsFirst (faults_at Nodes r.number i (next_broken r seen i d)))
    (scoped_stops r seen i d c.requires.seen new within known refl c.inside-place.result c.inside-place.ensures stop c.in_ok-check_form.ensures.none
    never stood scope scope_is c.in_err-parts.ensures.fault) c.from_residual-in_err-parts.ensures.1

pub returns-clause-node : goal.returns-clause-node
returns-clause-node c =
    let r = c.args.self.now in
    let seen = c.args.seen.now in
    let i = c.args.number in
    let d = document c.args.node.now in
    let found = scope_found r seen i d c.requires.seen c.above_of-above.result c.above_of-above.ensures (sym c.stands_in_place.ensures ∙ c.in_ok-require.ensures.ok)
    c.annotates.result c.annotates.ensures c.place_under-place.result c.place_under-place.ensures in
    let scope = c.at-scope.result.now in
    let scope_is = ap (λ o. unwrap_or o []) (sym c.at-scope.ensures ∙ found) in
    told_next r seen i d c.requires.seen c.above_of-above.result c.above_of-above.ensures (sym c.stands_in_place.ensures ∙ c.in_ok-require.ensures.ok)
    (node_view c.node_of-read.result.node) scope scope_is c.node_of-read.ensures.node

pub returns-clause-place : goal.returns-clause-place
returns-clause-place c =
    let r = c.args.self.now in
    let seen = c.args.seen.now in
    let i = c.args.number in
    let d = document c.args.node.now in
    scope_found r seen i d c.requires.seen c.above_of-above.result c.above_of-above.ensures (sym c.stands_in_place.ensures ∙ c.in_ok-require.ensures.ok)
    c.annotates.result c.annotates.ensures c.place_under-place.result c.place_under-place.ensures

pub returns-clause-new : goal.returns-clause-new
returns-clause-new c =
    let r = c.args.self.now in
    let seen = c.args.seen.now in
    let i = c.args.number in
    let d = document c.args.node.now in
    let found = scope_found r seen i d c.requires.seen c.above_of-above.result c.above_of-above.ensures (sym c.stands_in_place.ensures ∙ c.in_ok-require.ensures.ok)
    c.annotates.result c.annotates.ensures c.place_under-place.result c.place_under-place.ensures in
    let scope = c.at-scope.result.now in
    let scope_is = ap (λ o. unwrap_or o []) (sym c.at-scope.ensures ∙ found) in
    c.node_of-read.ensures.new ∙ ap (λ s. new_variables_in r.model.now s d) scope_is

pub returns-clause-within : goal.returns-clause-within
returns-clause-within c =
    let within = within_more (c.args.self.now.counted + c.args.number) c.in_ok-check_form.ensures.within c.requires.seen.few in omega arith

pub returns-clause-formed : goal.returns-clause-formed
returns-clause-formed c =
    let r = c.args.self.now in
    let seen = c.args.seen.now in
    let i = c.args.number in
    let d = document c.args.node.now in
    let known = ap not (c.is_known-new.ensures ∙ ap (is_among seen.ids) c.text_at.ensures) in
    let new = not c.is_known-new.result in
    let within = is_within 1024 (r.counted + i) in
    formed_more r seen i c.args.node.now c.requires.seen c.requires.inside (item_is r.nodes.now i c.args.node.now c.requires.item) new within known refl
    c.in_ok-check_form.ensures.none c.requires.formed

pub returns-clause-none : goal.returns-clause-none
returns-clause-none c =
    let r = c.args.self.now in
    let seen = c.args.seen.now in
    let i = c.args.number in
    let d = document c.args.node.now in
    let known = ap not (c.is_known-new.ensures ∙ ap (is_among seen.ids) c.text_at.ensures) in
    let new = not c.is_known-new.result in
    let within = is_within 1024 (r.counted + i) in
    let never = ap (λ ls. expression_rules ls (codes "never") (check_in d)) (sym c.labels.ensures) ∙ c.in_ok-never.ensures.none in
    let stood = ap (requires 24) (sym c.stands_in_place.ensures) ∙ c.in_ok-require.ensures.none in
    let found = scope_found r seen i d c.requires.seen c.above_of-above.result c.above_of-above.ensures (sym c.stands_in_place.ensures ∙ c.in_ok-require.ensures.ok)
    c.annotates.result c.annotates.ensures c.place_under-place.result c.place_under-place.ensures in
    let scope = c.at-scope.result.now in
    let scope_is = ap (λ o. unwrap_or o []) (sym c.at-scope.ensures ∙ found) in
    next_none r seen i d c.requires.seen new within known refl c.in_ok-check_form.ensures.none never stood scope scope_is c.in_ok-parts.ensures.none
