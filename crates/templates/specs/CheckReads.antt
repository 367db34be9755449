-- For private clauses: what is read of a check.
use Rattle.std.specs.Prelude.{ℕ, List, Option, Some, None, option_map, unwrap_or, codes}
use Rattle.meaning.specs.Documents.{Document}
use Rattle.meaning.specs.Models.{text_if}
use Rattle.meaning.specs.Expressions.{Expression, Top, expression_of}
use Rattle.meaning.specs.Queries as meaning
use Rattle.meaning.specs.QueryTexts.{Scope}
use Rattle.meaning.specs.Systems.{Never, NoDeadlock}
use Rattle.meaning.specs.Templates as meaning_templates
use Rattle.meaning.specs.TemplateTexts.{variable_of}
use Rattle.templates.specs.QueryReads.{parsed}
use Rattle.templates.specs.declared.queries.CheckQueries.{CheckQueries}

-- the expression that a check says is never true, if it has one
abbrev pub never_in : List (List ℕ) → Document → Option Expression
never_in labels check = option_map (λ e. unwrap_or (expression_of labels e) Top) (text_if (codes "never") check)

-- what a check checks that has no expression: the system of a variable, or a query
abbrev pub without_expression : Scope → Option (List ℕ) → Option (Scope × meaning.Query) → Option (Scope × meaning.Query) → Option meaning_templates.Check
without_expression scope (Some x) absent demanded = Some (meaning_templates.OfSystem NoDeadlock (variable_of scope x))
without_expression scope None (Some p) demanded = Some (meaning_templates.NoAnswer p.1)
without_expression scope None None (Some p) = Some (meaning_templates.SomeAnswer p.1)
without_expression scope None None None = None

abbrev pub told_without : Scope → CheckQueries → Document → Option meaning_templates.Check
told_without scope queries check = without_expression scope (text_if (codes "deadlock") check) (option_map parsed queries.absent) (option_map parsed queries.demanded)
