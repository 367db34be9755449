use Rattle.std.proofs.Common.{◌≡◌, ◌∙◌, sym, ap, subst, ◌<◌, ◌≤◌, ◌^◌, length, arith}
use Rattle.std.proofs.lemmas.List.{length-map}
use Rattle.meaning.specs.Models.{Model}
use Rattle.annotated_model.specs.ModelFacts.{KeepsRules}
use Rattle.worlds.proofs.Kept.{kept_then}
use Rattle.path_queries.specs.Presence.{TellElements}
use Rattle.path_queries.specs.Searching.{TellConstraints}
use Rattle.path_queries.proofs.Presences.{elements_later}
use Rattle.path_queries.proofs.answering.preparation.prepare.Goals as goal

few_elements : (m : Model) → KeepsRules m → length m.elements < 2 ^ 16
few_elements m h = omega (arith, h.few_elements)

pub relations-requires-clause-few : goal.relations-requires-clause-few
relations-requires-clause-few g c = few_elements c.args.model.now c.types-types.ensures.rules

pub returns-clause-ready : goal.returns-clause-ready
returns-clause-ready g c =
    let m = c.args.model.now in
    let after = g.W.Worlds.algebra c.relations.new.w in
    let kept = kept_then c.links_when.ensures.worked.kept c.relations.ensures.worked.kept in
    record {
      few = few_elements m c.types-types.ensures.rules;
      elements = subst (TellElements after m) (sym c.of.ensures) (elements_later kept c.in_ok-elements.ensures.made);
      relations = subst (TellConstraints after m c.in_ok-relations.relations) c.list.ensures c.in_ok-relations.ensures.made;
    }
