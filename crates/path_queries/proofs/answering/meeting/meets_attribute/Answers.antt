use Rattle.std.proofs.Common.{◌≡◌, ◌∙◌, ap, subst, ◌<◌, length, get_or, arith}
use Rattle.std.specs.Prelude.{bytes_eq}
use Rattle.std.proofs.lemmas.Result.{IfOk-weaker}
use Rattle.meaning.specs.Queries.{alike}
use Rattle.path_queries.specs.Searching.{value_at}
use Rattle.path_queries.proofs.MetConstraints.{met_past, met_alike, met_there, met_away}
use Rattle.path_queries.proofs.answering.meeting.meets_attribute.Goals.{then-place-elements-via-then-place-elements, then-place-elements-via-else-place-elements+then-there-absent}
use Rattle.path_queries.proofs.answering.meeting.meets_attribute.Goals as goal

pub returns-then-place-elements-clause-made : goal.returns-then-place-elements-clause-made
returns-then-place-elements-clause-made g c =
    let m = c.args.model.now in
    let text = c.args.text.now in
    let equal = c.args.equal in
    let there : c.agrees-there.result ≡ alike equal (bytes_eq (value_at m c.args.e c.args.attribute) text) = c.agrees-there.ensures ∙ ap (λ v. alike equal (bytes_eq v text)) c.value_of.ensures in
    elim c.then-place-elements.branch [
      | then-place-elements-via-then-place-elements w ↦
          let past = w.if-place-elements.true in
          met_past m c.args.e c.args.attribute text equal c.args.under c.requires.elements c.agrees-absent.result c.agrees-absent.ensures (omega (arith, past, c.from-place.ensures)) c.under_if.ensures
      | then-place-elements-via-else-place-elements+then-there-absent w ↦
          met_alike m c.args.e c.args.attribute text equal c.args.under c.requires.elements c.agrees-absent.result c.agrees-absent.ensures c.agrees-there.result there w.if-there-absent.true c.under_if.ensures
    ]

pub returns-then-there-clause-made : goal.returns-then-there-clause-made
returns-then-there-clause-made g c =
    let m = c.args.model.now in
    let elements = c.args.elements.now in
    let text = c.args.text.now in
    let equal = c.args.equal in
    let there : c.agrees-there.result ≡ alike equal (bytes_eq (value_at m c.args.e c.args.attribute) text) = c.agrees-there.ensures ∙ ap (λ v. alike equal (bytes_eq v text)) c.value_of.ensures in
    let below : c.args.e < length elements = omega (arith, c.if-place-elements.false, c.from-place.ensures) in
    let is : c.index-elements-place.result ≡ get_or elements c.args.e c.index-elements-place.result = c.index-elements-place.is ∙ ap (λ k. get_or elements k c.index-elements-place.result) c.from-place.ensures in
    IfOk-weaker c.both.result _ _
    (λ made h. met_there m c.args.e c.args.attribute text equal c.args.under c.requires.elements c.agrees-absent.result c.agrees-absent.ensures c.agrees-there.result there
    below is c.both.ensures.kept c.if-there-absent.false c.if-there.true h)
    c.both.ensures.made

pub returns-else-there-clause-made : goal.returns-else-there-clause-made
returns-else-there-clause-made g c =
    let m = c.args.model.now in
    let elements = c.args.elements.now in
    let text = c.args.text.now in
    let equal = c.args.equal in
    let there : c.agrees-there.result ≡ alike equal (bytes_eq (value_at m c.args.e c.args.attribute) text) = c.agrees-there.ensures ∙ ap (λ v. alike equal (bytes_eq v text)) c.value_of.ensures in
    let below : c.args.e < length elements = omega (arith, c.if-place-elements.false, c.from-place.ensures) in
    let is : c.index-elements-place-else-there.result ≡ get_or elements c.args.e c.index-elements-place-else-there.result = c.index-elements-place-else-there.is ∙ ap (λ k. get_or elements k c.index-elements-place-else-there.result) c.from-place.ensures in
    IfOk-weaker c.without.result _ _
    (λ made h. met_away m c.args.e c.args.attribute text equal c.args.under c.requires.elements c.agrees-absent.result c.agrees-absent.ensures c.agrees-there.result there
    below is c.without.ensures.kept c.if-there-absent.false c.if-there.false h)
    c.without.ensures.made
