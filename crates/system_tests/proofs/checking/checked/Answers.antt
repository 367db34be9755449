use Rattle.std.proofs.Common.{◌∙◌, sym}
use Rattle.worlds.proofs.Kept.{kept_then}
use Rattle.system_tests.proofs.FirstItem.{first_item}
use Rattle.system_tests.proofs.LaterFindings.{within_later}
use Rattle.system_tests.proofs.checking.checked.Goals as goal

pub judged-requires-clause-live : goal.judged-requires-clause-live
judged-requires-clause-live g c =
    let s = first_item c.args.model.now.systems c.requires.there in
    (c.in-Ok-explore.ensures.worked s.item s.stands).kept.live c.in-Ok.under (c.in-Ok.ensures.made s.item s.stands).live

pub judged-requires-clause-under : goal.judged-requires-clause-under
judged-requires-clause-under g c = λ s stands.
    let made = c.in-Ok.ensures.made s stands in
    within_later c.args.model.now s c.in-Ok.under (c.in-Ok-explore.ensures.worked s stands).kept made.live (λ x w h. sym (made.holds x w) ∙ h)

pub judged-requires-clause-length : goal.judged-requires-clause-length
judged-requires-clause-length g c =
    let s = first_item c.args.model.now.systems c.requires.there in
    c.requires.length ∙ sym (kept_then c.where_there.ensures.kept (c.in-Ok-explore.ensures.worked s.item s.stands).kept).count
