use Rattle.std.proofs.Common.{◌∙◌, sym}
use Rattle.invariant_check.specs.View.{property}
use Rattle.system_tests.proofs.FirstItem.{first_item}
use Rattle.system_tests.proofs.LaterFindings.{explored_later, within_later}
use Rattle.system_tests.proofs.checking.judged.Goals as goal

pub told-requires-clause-explored : goal.told-requires-clause-explored
told-requires-clause-explored g c = λ s stands. explored_later (c.in-Ok.ensures.worked s stands).kept (c.requires.explored s stands)

pub told-requires-clause-finding : goal.told-requires-clause-finding
told-requires-clause-finding g c = λ s stands.
    let kept = (c.in-Ok.ensures.worked s stands).kept in
    record {
      property = property c.args.property.now;
      under = c.args.under;
      live = kept.live c.args.under c.requires.live;
      within = within_later c.args.model.now s c.args.under kept c.requires.live (c.requires.under s stands);
      is = c.in-Ok.ensures.found s stands;
    }

pub told-requires-clause-length : goal.told-requires-clause-length
told-requires-clause-length g c =
    let s = first_item c.args.model.now.systems c.requires.there in c.requires.length ∙ sym (c.in-Ok.ensures.worked s.item s.stands).kept.count
