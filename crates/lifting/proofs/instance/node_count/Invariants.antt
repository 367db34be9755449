use Rattle.std.proofs.Common.{◌≡◌, take}
use Rattle.meaning.specs.Templates as meaning
use Rattle.lifting.specs.Sites.{templates_of}
use Rattle.lifting.proofs.instance.node_count.Given as goal

abbrev pub invariant-templates : goal.invariant-templates
invariant-templates l = l.count ≡ meaning.node_count (templates_of (take l.template-index l.templates))
