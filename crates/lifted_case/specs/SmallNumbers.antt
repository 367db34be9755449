-- What makes the numbers of a document fit into 16 bits: those of states and of systems are small in a document without faults.
use Rattle.std.specs.Prelude.{ℕ, ◌<◌, ◌^◌, codes, IfSome}
use Rattle.std.specs.List.{All}
use Rattle.meaning.specs.Documents.{Document, member_of, list_at, natural_at}
use Rattle.meaning.specs.CaseReading.{target_of, transition_of}

-- the number fits into 16 bits
abbrev pub IsNarrow : ℕ → Type 0
IsNarrow n = n < 2 ^ 16

abbrev pub TargetIsNarrow : Document → Type 0
TargetIsNarrow d = IsNarrow (target_of d).0

-- the state of each target, and the system, also where the check has none
pub record FindingIsNarrow (d : Document) : Type 0 where
  pub system : IsNarrow (natural_at (codes "system") d)
  pub targets : All TargetIsNarrow (list_at (codes "targets") d)

-- the finding of a node, if it has one
abbrev pub NodeIsNarrow : Document → Type 0
NodeIsNarrow d = IfSome (member_of (codes "finding") d) FindingIsNarrow

-- both ends of a transition
pub record TransitionIsNarrow (d : Document) : Type 0 where
  pub source : IsNarrow (transition_of d).0
  pub target : IsNarrow (transition_of d).1

-- the ends of each transition of a system
abbrev pub SystemIsNarrow : Document → Type 0
SystemIsNarrow d = All TransitionIsNarrow (list_at (codes "transitions") d)
