use Rattle.std.proofs.Common.{◌+◌, sym, subst, rules}
use Rattle.featured_systems.specs.Rounds.{Listed}
use Rattle.featured_systems.proofs.ListedLayers.{listed_push}
use Rattle.featured_systems.proofs.listing.list_state.Goals as goal

pub returns-clause-listed : goal.returns-clause-listed
returns-clause-listed g c =
    let a = g.W.Worlds.algebra c.args.w.now in
    subst (λ layers. Listed a layers c.args.distance (c.args.state + 1)) (sym c.in_ok-push.ensures.items)
    (listed_push c.args.layers.now.items c.args.distance c.args.state c.args.there c.requires.listed (record { live = c.requires.live; somewhere = search rules }))
