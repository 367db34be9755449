use Rattle.std.proofs.Common.{◌≡◌, ◌∙◌, sym, ap, true, false}
use Rattle.std.specs.Prelude.{codes, is_some}
use Rattle.meaning.specs.Documents.{texts_in}
use Rattle.meaning.specs.BundlePlaces.{has}
use Rattle.doc_tree.specs.View.{document}
use Rattle.feature_model.specs.Reading.{two_places}
use Rattle.feature_model.proofs.RuleReading.{needs_one, bars_one, needs_claim, bars_claim}
use Rattle.feature_model.proofs.rules.claimed.Goals as goal

pub returns-in_err-a-clause-is_one : goal.returns-in_err-a-clause-is_one
returns-in_err-a-clause-is_one c =
    let names = c.args.names.now in
    let d = document c.args.rule.now in
    let needs : has (codes "requires") d ≡ true = sym c.has-needs.ensures ∙ c.if-needs.true in
    let bars : has (codes "excludes") d ≡ false = sym c.has-bars.ensures ∙ c.if-not-bars.true in
    let holds : has (codes "holds") d ≡ false = sym c.has-holds.ensures ∙ c.if-not-holds.true in
    ap is_some c.from_residual.ensures ∙ (ap is_some (c.in_err-a.ensures ∙ ap (λ ds. two_places names (texts_in ds)) c.list_at.ensures) ∙ sym (needs_one names d holds needs bars))

pub returns-in_err-a-2-clause-is_one : goal.returns-in_err-a-2-clause-is_one
returns-in_err-a-2-clause-is_one c =
    let names = c.args.names.now in
    let d = document c.args.rule.now in
    let needs : has (codes "requires") d ≡ false = sym c.has-needs.ensures ∙ c.if-not-needs.true in
    let bars : has (codes "excludes") d ≡ true = sym c.has-bars.ensures ∙ c.if-bars.true in
    let holds : has (codes "holds") d ≡ false = sym c.has-holds.ensures ∙ c.if-not-holds-2.true in
    ap is_some c.from_residual-in_err-a-2.ensures ∙ (ap is_some (c.in_err-a-2.ensures ∙ ap (λ ds. two_places names (texts_in ds)) c.list_at-then-not-holds-2.ensures)
    ∙ sym (bars_one names d holds needs bars))

pub returns-in_ok-a-clause-is_one : goal.returns-in_ok-a-clause-is_one
returns-in_ok-a-clause-is_one c =
    let names = c.args.names.now in
    let d = document c.args.rule.now in
    let needs : has (codes "requires") d ≡ true = sym c.has-needs.ensures ∙ c.if-needs.true in
    let bars : has (codes "excludes") d ≡ false = sym c.has-bars.ensures ∙ c.if-not-bars.true in
    let holds : has (codes "holds") d ≡ false = sym c.has-holds.ensures ∙ c.if-not-holds.true in
    ap is_some (c.in_ok-a.ensures ∙ ap (λ ds. two_places names (texts_in ds)) c.list_at.ensures) ∙ sym (needs_one names d holds needs bars)

pub returns-in_ok-a-clause-claim : goal.returns-in_ok-a-clause-claim
returns-in_ok-a-clause-claim c =
    let names = c.args.names.now in
    let d = document c.args.rule.now in
    let holds : has (codes "holds") d ≡ false = sym c.has-holds.ensures ∙ c.if-not-holds.true in
    needs_claim names d holds c.in_ok-a.a c.in_ok-a.b (sym (c.in_ok-a.ensures ∙ ap (λ ds. two_places names (texts_in ds)) c.list_at.ensures))

pub returns-in_ok-a-2-clause-is_one : goal.returns-in_ok-a-2-clause-is_one
returns-in_ok-a-2-clause-is_one c =
    let names = c.args.names.now in
    let d = document c.args.rule.now in
    let needs : has (codes "requires") d ≡ false = sym c.has-needs.ensures ∙ c.if-not-needs.true in
    let bars : has (codes "excludes") d ≡ true = sym c.has-bars.ensures ∙ c.if-bars.true in
    let holds : has (codes "holds") d ≡ false = sym c.has-holds.ensures ∙ c.if-not-holds-2.true in
    ap is_some (c.in_ok-a-2.ensures ∙ ap (λ ds. two_places names (texts_in ds)) c.list_at-then-not-holds-2.ensures) ∙ sym (bars_one names d holds needs bars)

pub returns-in_ok-a-2-clause-claim : goal.returns-in_ok-a-2-clause-claim
returns-in_ok-a-2-clause-claim c =
    let names = c.args.names.now in
    let d = document c.args.rule.now in
    let needs : has (codes "requires") d ≡ false = sym c.has-needs.ensures ∙ c.if-not-needs.true in
    let holds : has (codes "holds") d ≡ false = sym c.has-holds.ensures ∙ c.if-not-holds-2.true in
    bars_claim names d holds c.in_ok-a-2.a c.in_ok-a-2.b needs (sym (c.in_ok-a-2.ensures ∙ ap (λ ds. two_places names (texts_in ds)) c.list_at-then-not-holds-2.ensures))
