use Rattle.std.proofs.Common.{◌≡◌, ◌+◌, suc, ap, length, take, arith}
use Rattle.meaning.specs.Templates.{node_count}
use Rattle.lifting.specs.Sites.{templates_of}
use Rattle.lifting.proofs.WholeInstances.{nodes_more, nodes_at_most}
use Rattle.lifting.proofs.instance.node_count.Goals as goal

pub overflow_add-count : goal.overflow_add-count
overflow_add-count c =
    let more = nodes_more c.args.templates.now c.templates.template-index c.template-item.result c.templates-test.true c.template-item.is in
    omega (arith, c.templates.invariant, more, nodes_at_most c.args.templates.now (suc c.templates.template-index), c.requires, ap length c.list.ensures)

pub templates-preserved : goal.templates-preserved
templates-preserved c =
    let more = nodes_more c.args.templates.now c.templates.template-index c.template-item.result c.templates-test.true c.template-item.is in
    let after : suc c.templates.template-index ≡ c.templates.template-index + 1 = omega arith in
    omega (arith, c.templates.invariant, more, ap (λ n. node_count (templates_of (take n c.args.templates.now))) after, ap length c.list.ensures)
