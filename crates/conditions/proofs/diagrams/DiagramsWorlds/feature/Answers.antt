use Rattle.std.proofs.Common.{◌≡◌, ap, subst}
use Rattle.node_pool.specs.declared.node.NodeNo.{NodeNo}
use Rattle.conditions.specs.Diagrams.{State, Asks}
use Rattle.conditions.proofs.Laws.{Kept-asks, HoldsWhere-asks, IsExact-agree, feature_asked, feature_within, feature_at, feature_is}
use Rattle.conditions.proofs.diagrams.DiagramsWorlds.feature.Goals as goal
use Rattle.conditions.proofs.diagrams.DiagramsWorlds.feature.Goals.{After-ask-2}

asks : (c : After-ask-2) → Asks c.args.self.now c.ask-2.new.self (feature_asked c.args.f c.args.self.now.valid) c.ask-2.result
asks c =
    let valid_is : c.ask.inside.valid ≡ c.args.self.now.valid = ap (λ (s : State). s.valid) c.ask.view_is in
    subst (λ (v : NodeNo). Asks c.args.self.now c.ask-2.new.self (feature_asked c.args.f v) c.ask-2.result) valid_is c.ask-2.ensures

pub returns-clause-kept : goal.returns-clause-kept
returns-clause-kept c = Kept-asks c.args.self.now c.ask-2.new.self _ c.ask-2.result (asks (goal.at.returns-clause-kept c).After-ask-2)

pub returns-clause-made : goal.returns-clause-made
returns-clause-made c =
    let now = c.args.self.now in
    HoldsWhere-asks now c.ask-2.new.self (feature_asked c.args.f now.valid) c.ask-2.result _ (asks (goal.at.returns-clause-made c).After-ask-2)
    (feature_within now.region now.valid c.args.f) (feature_at now.region now.valid c.args.f)

pub returns-clause-exact : goal.returns-clause-exact
returns-clause-exact c =
    let now = c.args.self.now in
    IsExact-agree now.region c.ask-2.new.self.region _ _ c.ask-2.result (feature_is now.region now.valid c.args.f) (asks (goal.at.returns-clause-exact c).After-ask-2).exact
