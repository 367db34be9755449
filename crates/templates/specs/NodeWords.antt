-- What the kinds that nodes say they have are in the words of the definitions.
use Rattle.meaning.specs.TemplateRules.{KindWord, a_goal, a_strategy, a_solution, a_context, an_assumption, a_justification, a_use, no_kind}
use Rattle.templates.specs.declared.kinds.NodeWord.{NodeWord}
use Rattle.templates.specs.declared.kinds.NodeWord.TheVariants as word

abbrev pub word_view : NodeWord → KindWord
word_view word.Goal = a_goal
word_view word.Strategy = a_strategy
word_view word.Solution = a_solution
word_view word.Context = a_context
word_view word.Assumption = an_assumption
word_view word.Justification = a_justification
word_view word.Use = a_use
word_view word.Unknown = no_kind
