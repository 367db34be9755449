use Rattle.std.proofs.Common.{◌∙◌, sym}
use Rattle.cond_text.proofs.LexemeLaws.{arrow_stands, no_arrow}
use Rattle.cond_text.proofs.lexeme.arrow_at.Goals as goal

pub returns-then-is_at : goal.returns-then-is_at
returns-then-is_at c =
    arrow_stands c.args.names.now c.args.text.now c.args.at c.requires.inside c.requires.equals (sym c.is_at.ensures ∙ c.if-is_at.true)

pub returns-else-is_at : goal.returns-else-is_at
returns-else-is_at c = no_arrow c.args.text.now c.args.at c.requires.inside c.requires.equals (sym c.is_at.ensures ∙ c.if-is_at.false)
