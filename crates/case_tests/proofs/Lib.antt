pub mod CaseExamples
