-- For private clauses: the number of the name in front of a list of tokens, and the fault there.
use Rattle.std.specs.Prelude.{ℕ, List, Option, option_and_then, is_some, if◌then◌else◌}
use Rattle.meaning.specs.QueryTexts.{Token}
use Rattle.path_queries.specs.declared.fault.QueryStop.{QueryStop}
use Rattle.path_queries.specs.declared.fault.QueryStop.TheVariants.{UnknownName}
use Rattle.path_queries.specs.Signs.{name_first}
use Rattle.path_queries.specs.Stops.{place_told, refusal}

abbrev pub looked_up : (List ℕ → Option ℕ) → ℕ → List (ℕ × Token) → Option ℕ
looked_up number at ts = option_and_then number (name_first at ts)

-- where it has none
abbrev pub lookup_stop : ℕ → ℕ → List (ℕ × Token) → QueryStop
lookup_stop end at ts = if is_some (name_first at ts) then UnknownName (place_told end ts) else refusal end at ts
