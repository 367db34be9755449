-- What the words of the code are in the words of the definitions.
use Rattle.workbench.specs.declared.words.Invocation.{Invocation}
use Rattle.workbench.specs.declared.words.Task.{Task}
use Rattle.workbench.specs.declared.words.Task.TheVariants as task
use Rattle.meaning.specs.Words as meaning

abbrev pub task_view : Task → meaning.Task
task_view (task.Build bundle) = meaning.Build bundle.now
task_view (task.Derive case configuration) = meaning.Derive case.now configuration.now
task_view (task.Product bundle configuration) = meaning.Product bundle.now configuration.now

abbrev pub invocation_view : Invocation → meaning.Invocation
invocation_view i = record { task = task_view i.task; node_limit = i.node_limit }
