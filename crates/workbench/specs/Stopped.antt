-- The statuses that tell why a reader or a writer, the cut of a case or the lifting of templates stopped.
use Rattle.std.specs.Prelude.{true, false}
use Rattle.workbench.specs.declared.status.Status.{Status}
use Rattle.workbench.specs.declared.status.Status.TheVariants as status
use Rattle.lifted_case.specs.declared.stop.ReadCaseStop.{ReadCaseStop}
use Rattle.lifted_case.specs.declared.stop.ReadCaseStop.TheVariants as case
use Rattle.lifted_case.specs.declared.case_bytes.CaseStop.{CaseStop}
use Rattle.lifted_case.specs.declared.case_bytes.CaseStop.TheVariants as write
use Rattle.feature_model.specs.declared.config.ConfigStop.{ConfigStop}
use Rattle.feature_model.specs.declared.config.ConfigStop.TheVariants as config
use Rattle.feature_model.specs.declared.read.LineStop.{LineStop}
use Rattle.feature_model.specs.declared.read.LineStop.TheVariants as line
use Rattle.annotated_model.specs.declared.fault.ModelStop.{ModelStop}
use Rattle.annotated_model.specs.declared.fault.ModelStop.TheVariants as model
use Rattle.templates.specs.declared.fault.TemplateStop.{TemplateStop}
use Rattle.templates.specs.declared.fault.TemplateStop.TheVariants as template
use Rattle.lifting.specs.declared.stop.LiftStop.{LiftStop}
use Rattle.lifting.specs.declared.stop.LiftStop.TheVariants as lift
use Rattle.case_derive.specs.declared.cutting.CutStop.{CutStop}
use Rattle.case_derive.specs.declared.cutting.CutStop.TheVariants as cut

abbrev pub status_of_case_stop : ReadCaseStop → Status
status_of_case_stop (case.Fault fault) = status.BadCase fault
status_of_case_stop case.NoMemory = status.NoMemory

abbrev pub status_of_config_stop : ConfigStop → Status
status_of_config_stop config.NotList = status.BadConfig 2 0
status_of_config_stop (config.UnknownFeature at) = status.BadConfig 3 at
status_of_config_stop (config.Repeated at) = status.BadConfig 4 at
status_of_config_stop config.NoMemory = status.NoMemory

abbrev pub status_of_cut_stop : CutStop → Status
status_of_cut_stop cut.NotValid = status.NotValid
status_of_cut_stop cut.NoMemory = status.NoMemory

abbrev pub status_of_write_stop : CaseStop → Status
status_of_write_stop write.BigCase = status.BigCase false
status_of_write_stop write.NoMemory = status.NoMemory

abbrev pub status_of_line_stop : LineStop → Status
status_of_line_stop (line.Fault fault) = status.BadBundle fault
status_of_line_stop line.NoMemory = status.NoMemory

abbrev pub status_of_model_stop : ModelStop → Status
status_of_model_stop (model.Fault fault) = status.BadBundle fault
status_of_model_stop model.NoMemory = status.NoMemory

abbrev pub status_of_template_stop : TemplateStop → Status
status_of_template_stop (template.Fault fault) = status.BadBundle fault
status_of_template_stop template.NoMemory = status.NoMemory

abbrev pub status_of_lift_stop : LiftStop → Status
status_of_lift_stop (lift.NodeLimit stop) = status.NodeLimit stop.used
status_of_lift_stop lift.BigCase = status.BigCase true
status_of_lift_stop lift.NoMemory = status.NoMemory
