-- What the queries of the code are in the words of the definitions.
use Rattle.std.specs.Prelude.{List, map}
use Rattle.meaning.specs.Queries as meaning
use Rattle.path_queries.specs.declared.data.Path.{Path}
use Rattle.path_queries.specs.declared.data.Path.TheVariants.{Link, Back, Then', Either', Chain'}
use Rattle.path_queries.specs.declared.data.Constraint.{Constraint}
use Rattle.path_queries.specs.declared.data.Constraint.TheVariants.{Walk, Attr}
use Rattle.path_queries.specs.declared.data.Query.{Query}

abbrev pub path : Path → meaning.Path
path (Link k) = meaning.Along k
path (Back k) = meaning.Against k
path (Then' p a q b) = meaning.Then (path a) (path b)
path (Either' p a q b) = meaning.OneOf (path a) (path b)
path (Chain' p a) = meaning.Chain (path a)

abbrev pub constraint : Constraint → meaning.Constraint
constraint (Walk from p to negated) = meaning.Walks from (path p) to negated
constraint (Attr variable attribute text equal) = meaning.Attribute variable attribute text equal

abbrev pub query : Query → meaning.Query
query q = record { variables = q.vars; constraints = map constraint q.constraints }
