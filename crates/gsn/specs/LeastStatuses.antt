-- The statuses of a case are the least sets that its rules ask for.
use Rattle.std.specs.Prelude.{◌≡◌, ℕ, List, Bool, true, false, Some, map, length, IsTrue}
use Rattle.std.specs.List.{slice_get}
use Rattle.meaning.specs.Texts.{holds_at}
use Rattle.meaning.specs.Cases.{Case, Node, Status, Supported, Refuted, joins_refuted, joins_supported}

-- a set of nodes is a truth value for each; a rule says which numbered nodes join a set
abbrev pub Rule : Type 0
Rule = List Bool → ℕ × Node → Bool

-- each node of the case that joins the set is in it
pub record IsClosedUnder (c : Case) (joins : Rule) (set : List Bool) : Type 0 where
  pub has : (x : ℕ) (n : Node) → slice_get c.nodes x ≡ Some n → IsTrue (joins set (x, n)) → IsTrue (holds_at set x)

-- the set is closed under the rule, and inside every set that is
pub record IsLeastUnder (c : Case) (joins : Rule) (set : List Bool) : Type 0 where
  pub closed : IsClosedUnder c joins set
  pub inside : (other : List Bool) → IsClosedUnder c joins other → (x : ℕ) → IsTrue (holds_at set x) → IsTrue (holds_at other x)

abbrev pub is_refuted : Status → Bool
is_refuted Refuted = true
is_refuted _ = false

abbrev pub is_supported : Status → Bool
is_supported Supported = true
is_supported _ = false

-- the refuted nodes are the least set of their rule, and the supported ones that of theirs, given the refuted ones
pub record AreLeastStatuses (c : Case) (all : List Status) : Type 0 where
  pub each : length all ≡ length c.nodes
  pub refuted : IsLeastUnder c (joins_refuted c) (map is_refuted all)
  pub supported : IsLeastUnder c (joins_supported c (map is_refuted all)) (map is_supported all)
