use Rattle.std.proofs.Common.{◌≡◌, ◌∙◌, ap, sym, length, get_or, arith}
use Rattle.feature_model.proofs.FeatureLists.{length_with}
use Rattle.feature_model.proofs.Lines.{placed_at}
use Rattle.feature_model.proofs.line.Line.placed.Goals as goal

pub index-requires : goal.index-requires
index-requires c =
    let l = c.self.inside in
    let many : length c.args.self.now.features ≡ length l.placed.items =
    ap (λ s. length s.features) (sym c.self.view_is) ∙ (length_with l.names l.placed.items c.self.invariant.all_placed ∙ sym c.self.invariant.all_placed) in
    omega (arith, l.placed.ok.0)

pub returns : goal.returns
returns c =
    let l = c.self.inside in
    let many : length c.args.self.now.features ≡ length l.placed.items =
    ap (λ s. length s.features) (sym c.self.view_is) ∙ (length_with l.names l.placed.items c.self.invariant.all_placed ∙ sym c.self.invariant.all_placed) in
    rw (← c.self.view_is) (placed_at l.names l.placed.items c.args.no c.index.result.now c.self.invariant.all_placed (omega arith)
    (c.index.ensures ∙ ap (λ at. get_or l.placed.items at c.index.result.now) c.from.ensures))
