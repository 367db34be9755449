-- What an expression of the code is in the words of the definitions.
use Rattle.cond_text.specs.declared.expr.Expr.{Expr}
use Rattle.cond_text.specs.declared.expr.Expr.TheVariants.{Top, Bottom, Name, Not', Both', Either', Implies', Same'}
use Rattle.meaning.specs.Expressions.{Expression}
use Rattle.meaning.specs.Expressions as meaning

abbrev pub expression : Expr → Expression
expression Top = meaning.Top
expression Bottom = meaning.Bottom
expression (Name n) = meaning.Name n
expression (Not' p a) = meaning.Not (expression a)
expression (Both' p a q b) = meaning.Both (expression a) (expression b)
expression (Either' p a q b) = meaning.Either (expression a) (expression b)
expression (Implies' p a q b) = meaning.Implies (expression a) (expression b)
expression (Same' p a q b) = meaning.Same (expression a) (expression b)
