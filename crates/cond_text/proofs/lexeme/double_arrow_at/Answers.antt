use Rattle.std.proofs.Common.{◌∙◌, sym}
use Rattle.cond_text.proofs.LexemeLaws.{double_arrow_stands, no_equals, no_double_arrow}
use Rattle.cond_text.proofs.lexeme.double_arrow_at.Goals as goal
use Rattle.cond_text.proofs.lexeme.double_arrow_at.Goals.{else-is_at-via-then-is_at+else-is_at-2, else-is_at-via-else-is_at}

pub returns-then-is_at-2 : goal.returns-then-is_at-2
returns-then-is_at-2 c =
    double_arrow_stands c.args.names.now c.args.text.now c.args.at c.requires.inside c.requires.less
    (sym c.is_at.ensures ∙ c.if-is_at.true) (sym c.is_at-then-is_at.ensures ∙ c.if-is_at-2.true)

pub returns-else-is_at : goal.returns-else-is_at
returns-else-is_at c = elim c.else-is_at.branch [
  | else-is_at-via-then-is_at+else-is_at-2 w ↦
      no_double_arrow c.args.text.now c.args.at c.requires.inside c.requires.less (sym c.is_at.ensures ∙ w.if-is_at.true) (sym w.is_at-then-is_at.ensures ∙ w.if-is_at-2.false)
  | else-is_at-via-else-is_at w ↦ no_equals c.args.text.now c.args.at c.requires.inside c.requires.less (sym c.is_at.ensures ∙ w.if-is_at.false)
]
