use Rattle.std.proofs.Common.{◌+◌, ◌-◌, ◌*◌}
use Rattle.meaning.specs.QueryTexts.{kind_names, read_path, more_path, read_sequence, more_sequence, read_step, more_step}
use Rattle.path_queries.specs.View.{path}
use Rattle.path_queries.specs.PathReading.{GoesOn}
use Rattle.path_queries.proofs.parse_path.+paths.Given as goal

abbrev pub decreases-parse_path : goal.decreases-parse_path
decreases-parse_path l = 4 * (256 - l.at) + 3

abbrev pub decreases-parse_sequence : goal.decreases-parse_sequence
decreases-parse_sequence l = 4 * (256 - l.at) + 2

abbrev pub decreases-parse_step : goal.decreases-parse_step
decreases-parse_step l = 4 * (256 - l.at) + 1

abbrev pub decreases-parse_atom : goal.decreases-parse_atom
decreases-parse_atom l = 4 * (256 - l.at)

abbrev pub invariant-parse_path-bars : goal.invariant-parse_path-bars
invariant-parse_path-bars l = GoesOn (read_path (kind_names l.model)) (more_path (kind_names l.model)) 5 2 l.model l.tokens l.at l.next (path l.left)

abbrev pub decreases-parse_path-bars : goal.decreases-parse_path-bars
decreases-parse_path-bars l = 256 - l.next

abbrev pub invariant-parse_sequence-slashes : goal.invariant-parse_sequence-slashes
invariant-parse_sequence-slashes l =
    GoesOn (read_sequence (kind_names l.model)) (more_sequence (kind_names l.model)) 3 3 l.model l.tokens l.at l.next (path l.left)

abbrev pub decreases-parse_sequence-slashes : goal.decreases-parse_sequence-slashes
decreases-parse_sequence-slashes l = 256 - l.next

abbrev pub invariant-parse_step-pluses : goal.invariant-parse_step-pluses
invariant-parse_step-pluses l = GoesOn (read_step (kind_names l.model)) (more_step (kind_names l.model)) 1 4 l.model l.tokens l.at l.next (path l.left)

abbrev pub decreases-parse_step-pluses : goal.decreases-parse_step-pluses
decreases-parse_step-pluses l = 256 - l.next
