use Rattle.std.proofs.Common.{◌≡◌, ◌∙◌, ◌+◌, ◌-◌, length, map, None, ap, refl, arith}
use Rattle.gsn.specs.View.{kind_of}
use Rattle.templates.specs.View.{node_view}
use Rattle.lifted_case.specs.CaseView.{case_part_of}
use Rattle.lifting.specs.Sites.{note_of}
use Rattle.lifting.specs.TextParts.{parts_of}
use Rattle.lifting.proofs.NotedTrees.{grown_length}
use Rattle.lifting.proofs.PlacedNodes.{one_added}
use Rattle.lifting.proofs.lift.place_node.Goals as goal

pub returns-clause-room : goal.returns-clause-room
returns-clause-room g c =
    let before = g.W.Worlds.algebra c.args.w.now in
    let note = note_of c.args.model.now c.args.bound.now (node_view c.args.node.now) (before.holds c.args.under) c.in_ok-rows.rows in
    let grown = grown_length _ _ _ _ _ _ _ (c.in_ok-add.ensures.grows note) in
    let longer : length c.add.new.self.nodes.items ≡ length c.args.out.now.nodes.items + 1 = grown in
    let listed : length c.list-3.result.now ≡ length c.in_ok-rows.rows = ap length c.list-3.ensures in
    omega (arith, longer, listed, c.in_ok-add.ensures.left, c.in_ok-rows.ensures.few, c.requires.room, c.if-out-eq0.false)

pub returns-clause-adds : goal.returns-clause-adds
returns-clause-adds g c =
    let before = g.W.Worlds.algebra c.args.w.now in
    let after = g.W.Worlds.algebra c.rows.new.w in
    let rows = c.in_ok-rows.rows in
    let note = note_of c.args.model.now c.args.bound.now (node_view c.args.node.now) (before.holds c.args.under) rows in
    let listed : length c.list-3.result.now ≡ length rows = ap length c.list-3.ensures in
    let counted : (c.add.new.self.left - (1 + length c.list-3.result.now)) + (1 + length rows) ≡ c.args.out.now.left = omega (arith, listed, c.in_ok-add.ensures.left, c.in_ok-rows.ensures.few, c.if-out-eq0.false) in
    one_added before after c.args.model.now (node_view c.args.node.now) (kind_of c.args.kind) c.args.key.now c.args.bound.now c.args.under rows c.args.above c.args.out.now
    (record { nodes = c.add.new.self.nodes; relations = c.add.new.self.relations; left = c.add.new.self.left - (1 + length c.list-3.result.now) })
    (record {
      key = c.in_ok-of.field-0;
      kind = c.args.kind;
      text = c.text.inside.items.items;
      when = c.args.under;
      undeveloped = c.args.node.now.undeveloped;
      branches = c.in_ok-conditions.field-0;
      finding = None;
    })
    c.in_ok-rows.ensures.kept c.requires.live c.requires.occurs c.requires.as_many c.requires.unchecked c.requires.there c.in_ok-rows.ensures.rows c.in_ok-of.ensures refl
    (ap (map case_part_of) c.text.view_is ∙ c.in_ok-text.ensures ∙ ap (parts_of c.args.model.now c.args.bound.now) c.list.ensures) refl refl (c.in_ok-conditions.ensures ∙ ap (map (λ r. r.1)) c.list-2.ensures) refl
    (c.in_ok-add.ensures.grows note) counted
