use Rattle.std.proofs.Common.{◌<◌, ◌++◌, ◌∷◌, [], map, length, set, sym, ap, ◌∙◌, arith}
use Rattle.std.proofs.lemmas.List.{get_or-map}
use Rattle.std.proofs.Math.Seq.{map-set}
use Rattle.featured_systems.proofs.lists.add.Goals as goal

pub returns-clause-added : goal.returns-clause-added
returns-clause-added c =
    let here : c.args.state < length c.args.lists.now.items = omega (arith, c.requires, c.args.lists.now.ok.0) in
    map-set (λ list. list.items) c.args.lists.now.items c.args.state c.push.new.self
    ∙ ap (set (map (λ list. list.items) c.args.lists.now.items) c.args.state)
    (c.in_ok-push.ensures.items ∙ ap (λ xs. xs ++ c.args.number ∷ [])
    (ap (λ list. list.items) c.index_mut.ensures.value ∙ sym (get_or-map (λ list. list.items) c.args.lists.now.items c.args.state c.index_mut.result.now [] here)))
