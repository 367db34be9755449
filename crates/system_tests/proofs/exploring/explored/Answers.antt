use Rattle.std.proofs.Common.{◌∙◌, sym}
use Rattle.system_tests.proofs.FirstItem.{first_item}
use Rattle.system_tests.proofs.exploring.explored.Goals as goal

pub shown-requires-clause-steps : goal.shown-requires-clause-steps
shown-requires-clause-steps g c = let s = first_item c.args.model.now.systems c.requires.there in (c.in-Ok.ensures.explored s.item s.stands).steps.live

pub shown-requires-clause-reached : goal.shown-requires-clause-reached
shown-requires-clause-reached g c = let s = first_item c.args.model.now.systems c.requires.there in (c.in-Ok.ensures.explored s.item s.stands).reached.live

pub shown-requires-clause-parents : goal.shown-requires-clause-parents
shown-requires-clause-parents g c = let s = first_item c.args.model.now.systems c.requires.there in (c.in-Ok.ensures.explored s.item s.stands).parents.live

pub shown-requires-clause-layers : goal.shown-requires-clause-layers
shown-requires-clause-layers g c =
    let s = first_item c.args.model.now.systems c.requires.there in λ k d h. ((c.in-Ok.ensures.explored s.item s.stands).layered k d h).live

pub shown-requires-clause-length : goal.shown-requires-clause-length
shown-requires-clause-length g c =
    let s = first_item c.args.model.now.systems c.requires.there in c.requires.length ∙ sym (c.in-Ok.ensures.worked s.item s.stands).kept.count
