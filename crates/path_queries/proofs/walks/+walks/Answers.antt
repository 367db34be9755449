use Rattle.std.proofs.Common.{◌≡◌, sym, ap, subst, ◌+◌, ◌*◌, ◌^◌, List, Bool, length, map, arith}
use Rattle.std.proofs.lemmas.Result.{IfOk-weaker}
use Rattle.meaning.specs.Bounds.{path_size}
use Rattle.meaning.specs.Queries.{Path, Then, OneOf, Chain}
use Rattle.worlds.specs.Algebra.{Worked}
use Rattle.worlds.proofs.Kept.{worked_then, worked_at_most}
use Rattle.path_queries.specs.View.{path}
use Rattle.path_queries.specs.Presence.{arrow_at}
use Rattle.path_queries.specs.Relations.{related}
use Rattle.path_queries.specs.Matrices.{linked, MatrixWhere}
use Rattle.path_queries.proofs.Arrows.{path_matrix_before, composed_matrix, united_matrix, closed_matrix}
use Rattle.path_queries.proofs.WalkAsks.{both_within, joined_within, chained_within, compose_within, chain_within, unite_within}
use Rattle.path_queries.proofs.walks.+walks.Goals as goal

pub returns-in_err-second-in-Then-clause-worked : goal.returns-in_err-second-in-Then-clause-worked
returns-in_err-second-in-Then-clause-worked g t c =
    let before = g.W.Worlds.algebra c.args.w.now in
    let k = 16 * (length c.args.edges.now + (c.args.n + 1) ^ 3) in
    let one = path c.deref.result.now in
    let two = path c.deref-in-Then.result.now in
    let whole : path c.args.along.now ≡ Then one two = let is = ap path c.in-Then.is in cc in
    subst (λ p. Worked (path_size p * k) before (g.W.Worlds.algebra c.walks-in-Then.new.w)) (sym whole)
    (worked_at_most (worked_then c.walks.ensures.worked c.walks-in-Then.ensures.worked) (both_within (path_size one) (path_size two) k))

pub returns-in_ok-second-in-Then-clause-worked : goal.returns-in_ok-second-in-Then-clause-worked
returns-in_ok-second-in-Then-clause-worked g t c =
    let before = g.W.Worlds.algebra c.args.w.now in
    let k = 16 * (length c.args.edges.now + (c.args.n + 1) ^ 3) in
    let one = path c.deref.result.now in
    let two = path c.deref-in-Then.result.now in
    let whole : path c.args.along.now ≡ Then one two = let is = ap path c.in-Then.is in cc in
    subst (λ p. Worked (path_size p * k) before (g.W.Worlds.algebra c.compose.new.w)) (sym whole)
    (worked_at_most (worked_then (worked_then c.walks.ensures.worked c.walks-in-Then.ensures.worked) c.compose.ensures.worked) (joined_within (path_size one) (path_size two) k _ (compose_within c.args.n (length c.args.edges.now))))

pub returns-in_ok-second-in-Then-clause-made : goal.returns-in_ok-second-in-Then-clause-made
returns-in_ok-second-in-Then-clause-made g t c =
    let before = g.W.Worlds.algebra c.args.w.now in
    let k = 16 * (length c.args.edges.now + (c.args.n + 1) ^ 3) in
    let one = path c.deref.result.now in
    let two = path c.deref-in-Then.result.now in
    let whole : path c.args.along.now ≡ Then one two = let is = ap path c.in-Then.is in cc in
    let n = c.args.n in
    let edges = c.args.edges.now in
    let second = g.W.Worlds.algebra c.walks-in-Then.new.w in
    let after = g.W.Worlds.algebra c.compose.new.w in
    let by = λ (p : Path) (x : List Bool). related n (linked (map (arrow_at before x) edges)) p in
    IfOk-weaker c.compose.result _ _
    (λ cells m.
    subst (λ p. MatrixWhere after n cells.items (λ x. by p x)) (sym whole)
    (composed_matrix c.walks-in-Then.ensures.worked.kept c.compose.ensures.worked.kept
    (subst (λ cs. MatrixWhere (g.W.Worlds.algebra c.walks.new.w) n cs (by one)) (sym c.deref-in-Then-2.ensures.value) c.in_ok-first-in-Then.ensures.made)
    (subst (λ cs. MatrixWhere second n cs (by two)) (sym c.deref-in-Then-3.ensures.value) (path_matrix_before edges two c.walks.ensures.worked.kept c.requires.edges c.in_ok-second-in-Then.ensures.made)) m))
    c.compose.ensures.made

pub returns-in_err-second-in-Either-clause-worked : goal.returns-in_err-second-in-Either-clause-worked
returns-in_err-second-in-Either-clause-worked g t c =
    let before = g.W.Worlds.algebra c.args.w.now in
    let k = 16 * (length c.args.edges.now + (c.args.n + 1) ^ 3) in
    let one = path c.deref-in-Either.result.now in
    let two = path c.deref-in-Either-2.result.now in
    let whole : path c.args.along.now ≡ OneOf one two = let is = ap path c.in-Either.is in cc in
    subst (λ p. Worked (path_size p * k) before (g.W.Worlds.algebra c.walks-in-Either-2.new.w)) (sym whole)
    (worked_at_most (worked_then c.walks-in-Either.ensures.worked c.walks-in-Either-2.ensures.worked) (both_within (path_size one) (path_size two) k))

pub returns-in_ok-second-in-Either-clause-worked : goal.returns-in_ok-second-in-Either-clause-worked
returns-in_ok-second-in-Either-clause-worked g t c =
    let before = g.W.Worlds.algebra c.args.w.now in
    let k = 16 * (length c.args.edges.now + (c.args.n + 1) ^ 3) in
    let one = path c.deref-in-Either.result.now in
    let two = path c.deref-in-Either-2.result.now in
    let whole : path c.args.along.now ≡ OneOf one two = let is = ap path c.in-Either.is in cc in
    subst (λ p. Worked (path_size p * k) before (g.W.Worlds.algebra c.unite.new.w)) (sym whole)
    (worked_at_most (worked_then (worked_then c.walks-in-Either.ensures.worked c.walks-in-Either-2.ensures.worked) c.unite.ensures.worked) (joined_within (path_size one) (path_size two) k _ (unite_within c.args.n (length c.args.edges.now))))

pub returns-in_ok-second-in-Either-clause-made : goal.returns-in_ok-second-in-Either-clause-made
returns-in_ok-second-in-Either-clause-made g t c =
    let before = g.W.Worlds.algebra c.args.w.now in
    let k = 16 * (length c.args.edges.now + (c.args.n + 1) ^ 3) in
    let one = path c.deref-in-Either.result.now in
    let two = path c.deref-in-Either-2.result.now in
    let whole : path c.args.along.now ≡ OneOf one two = let is = ap path c.in-Either.is in cc in
    let n = c.args.n in
    let edges = c.args.edges.now in
    let second = g.W.Worlds.algebra c.walks-in-Either-2.new.w in
    let after = g.W.Worlds.algebra c.unite.new.w in
    let by = λ (p : Path) (x : List Bool). related n (linked (map (arrow_at before x) edges)) p in
    IfOk-weaker c.unite.result _ _
    (λ cells m.
    subst (λ p. MatrixWhere after n cells.items (λ x. by p x)) (sym whole)
    (united_matrix c.walks-in-Either-2.ensures.worked.kept c.unite.ensures.worked.kept
    (subst (λ cs. MatrixWhere (g.W.Worlds.algebra c.walks-in-Either.new.w) n cs (by one)) (sym c.deref-in-Either-3.ensures.value) c.in_ok-first-in-Either.ensures.made)
    (subst (λ cs. MatrixWhere second n cs (by two)) (sym c.deref-in-Either-4.ensures.value) (path_matrix_before edges two c.walks-in-Either.ensures.worked.kept c.requires.edges c.in_ok-second-in-Either.ensures.made)) m))
    c.unite.ensures.made

pub returns-in_ok-step-in-Chain-clause-worked : goal.returns-in_ok-step-in-Chain-clause-worked
returns-in_ok-step-in-Chain-clause-worked g t c =
    let before = g.W.Worlds.algebra c.args.w.now in
    let k = 16 * (length c.args.edges.now + (c.args.n + 1) ^ 3) in
    let one = path c.deref-in-Chain.result.now in
    let whole : path c.args.along.now ≡ Chain one = let is = ap path c.in-Chain.is in cc in
    subst (λ p. Worked (path_size p * k) before (g.W.Worlds.algebra c.chain.new.w)) (sym whole)
    (worked_at_most (worked_then c.walks-in-Chain.ensures.worked c.chain.ensures.worked) (chained_within (path_size one) k _ (chain_within c.args.n (length c.args.edges.now))))

pub returns-in_ok-step-in-Chain-clause-made : goal.returns-in_ok-step-in-Chain-clause-made
returns-in_ok-step-in-Chain-clause-made g t c =
    let before = g.W.Worlds.algebra c.args.w.now in
    let one = path c.deref-in-Chain.result.now in
    let whole : path c.args.along.now ≡ Chain one = let is = ap path c.in-Chain.is in cc in
    let n = c.args.n in
    let edges = c.args.edges.now in
    let after = g.W.Worlds.algebra c.chain.new.w in
    let by = λ (p : Path) (x : List Bool). related n (linked (map (arrow_at before x) edges)) p in
    IfOk-weaker c.chain.result _ _
    (λ cells m.
    subst (λ p. MatrixWhere after n cells.items (λ x. by p x)) (sym whole)
    (closed_matrix c.chain.ensures.worked.kept
    (subst (λ cs. MatrixWhere (g.W.Worlds.algebra c.walks-in-Chain.new.w) n cs (by one)) (sym c.deref-in-Chain-2.ensures.value) c.in_ok-step-in-Chain.ensures.made) m))
    c.chain.ensures.made
