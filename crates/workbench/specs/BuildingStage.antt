-- The stage of the program: every bundle whose templates have no solution is built, of which all faults are known, and every case file derives,
-- of which the first fault is named.
use Rattle.meaning.specs.CaseReading.{read_case}
use Rattle.meaning.specs.Stages.{building_templates, fault_of_case}
use Rattle.meaning.specs.Answers.{Stage}

abbrev pub building_cases : Stage
building_cases = building_templates (λ bytes. fault_of_case (read_case bytes))
