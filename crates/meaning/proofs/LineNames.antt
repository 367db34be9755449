-- The names of a line are those in its document.
use Rattle.std.proofs.Common.{◌≡◌}
use Rattle.std.specs.Prelude.{codes}
use Rattle.meaning.specs.Documents.{Document, list_at}
use Rattle.meaning.specs.Features.{feature_of, line_of, feature_names}
use Rattle.meaning.specs.LineRules.{line_in, feature_names_in}
use Rattle.meaning.proofs.MappedLists.{map_of_map}

pub names_of_line : (d : Document) → feature_names (line_of d) ≡ feature_names_in d
unfolding line_of
names_of_line d = map_of_map (λ f. f.name) (feature_of (feature_names_in d)) (list_at (codes "features") (line_in d))
