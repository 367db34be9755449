use Rattle.meaning.specs.BundlePlaces.{Features}
use Rattle.doc_tree.specs.View.{document}
use Rattle.feature_model.specs.Reading.{rules_at}
use Rattle.feature_model.proofs.ItemFaults.{first_at_place, nothing_broken}
use Rattle.feature_model.proofs.features.read_feature.Goals as goal

pub returns-in-Some-clause-fault : goal.returns-in-Some-clause-fault
returns-in-Some-clause-fault c =
    first_at_place Features c.args.no (rules_at c.args.before.now c.args.no (document c.args.feature.now)) c.in-Some.rule 0 c.in-Some.ensures

pub returns-in-None-clause-no_fault : goal.returns-in-None-clause-no_fault
returns-in-None-clause-no_fault c = nothing_broken (rules_at c.args.before.now c.args.no (document c.args.feature.now)) c.in-None.ensures
