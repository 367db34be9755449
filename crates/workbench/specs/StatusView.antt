-- What a status of the code is in the words of the definitions.
use Rattle.workbench.specs.declared.status.Status.{Status}
use Rattle.workbench.specs.declared.status.Status.TheVariants as status
use Rattle.meaning.specs.Statuses as meaning
use Rattle.doc_tree.specs.Places.{fault_of}
use Rattle.lifted_case.specs.CaseView.{fault_view}

abbrev pub status_view : Status → meaning.Status
status_view status.Done = meaning.Done
status_view status.BadWords = meaning.BadWords
status_view (status.BadBundle fault) = meaning.BadBundle (fault_of fault)
status_view (status.BadConfig rule at) = meaning.BadConfig rule at
status_view status.NotValid = meaning.NotValid
status_view (status.BadCase fault) = meaning.BadCase (fault_view fault)
status_view (status.NodeLimit used) = meaning.NodeLimit used
status_view (status.BigCase entries) = meaning.BigCase entries
status_view (status.TooLong file) = meaning.TooLong file
status_view (status.ReadFault file) = meaning.ReadFault file
status_view status.WriteFault = meaning.WriteFault
status_view status.NoMemory = meaning.NoMemory
status_view status.Unsupported = meaning.Unsupported
