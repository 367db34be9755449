use Rattle.std.proofs.Common.{◌<◌, ◌++◌, ◌∷◌, [], map, length, set, sym, ap, ◌∙◌, arith}
use Rattle.std.proofs.lemmas.List.{get_or-map}
use Rattle.std.proofs.Math.Seq.{map-set}
use Rattle.case_text.proofs.targets.add.Goals as goal

pub returns-clause-added : goal.returns-clause-added
returns-clause-added c =
    let here : c.args.source < length c.args.lists.now.items = omega (arith, c.requires, c.args.lists.now.ok.0) in
    map-set (λ list. list.items) c.args.lists.now.items c.args.source c.push.new.self
    ∙ ap (set (map (λ list. list.items) c.args.lists.now.items) c.args.source)
    (c.in_ok-push.ensures.items ∙ ap (λ xs. xs ++ c.args.target ∷ [])
    (ap (λ list. list.items) c.index_mut.ensures.value ∙ sym (get_or-map (λ list. list.items) c.args.lists.now.items c.args.source c.index_mut.result.now [] here)))
