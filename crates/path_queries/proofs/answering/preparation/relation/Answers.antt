use Rattle.std.proofs.Common.{◌≡◌, ◌∙◌, sym, ap, subst, length, map}
use Rattle.std.proofs.lemmas.List.{length-map}
use Rattle.meaning.specs.Models.{model_at}
use Rattle.meaning.specs.Queries.{walks}
use Rattle.annotated_model.specs.View.{element_view}
use Rattle.path_queries.specs.View.{path}
use Rattle.path_queries.specs.Presence.{arrow_at}
use Rattle.path_queries.specs.Relations.{related}
use Rattle.path_queries.specs.Matrices.{linked, MatrixWhere}
use Rattle.path_queries.specs.Searching.{TellsWalks}
use Rattle.path_queries.proofs.Preparing.{tells_walks}
use Rattle.path_queries.proofs.answering.preparation.relation.Goals as goal

pub returns-in_ok-cells-in-Walk-clause-made : goal.returns-in_ok-cells-in-Walk-clause-made
returns-in_ok-cells-in-Walk-clause-made g c =
    let before = g.W.Worlds.algebra c.args.w.now in
    let after = g.W.Worlds.algebra c.walks.new.w in
    let m = c.args.model.now in
    let edges = c.args.edges.now in
    let along = path c.in-Walk.path in
    let same : length c.elements.result.now ≡ length m.elements = sym (length-map c.elements.result.now element_view) ∙ ap length c.elements.ensures.elements in
    subst (λ k. TellsWalks after m c.of.result k) (sym c.in-Walk.is)
    (subst (λ cs. MatrixWhere after (length m.elements) cs (λ x. walks (model_at m x) along)) (sym c.of.ensures)
    (tells_walks m edges along c.walks.ensures.worked.kept c.requires.edges
    (subst (λ n. MatrixWhere after n c.in_ok-cells-in-Walk.cells.items (λ x. related n (linked (map (arrow_at before x) edges)) along)) same c.in_ok-cells-in-Walk.ensures.made)))
