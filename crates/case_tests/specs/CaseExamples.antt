-- A case with each form of check, which a test writes.
use Rattle.std.specs.Prelude.{ℕ, List, [], ◌∷◌, false, Some, codes}
use Rattle.gsn.specs.declared.case.NodeKind.TheVariants.{Solution}
use Rattle.lifted_case.specs.declared.lifted.Lifted.{Lifted}
use Rattle.lifted_case.specs.declared.lifted.LNode.{LNode}
use Rattle.lifted_case.specs.declared.lifted.LPart.TheVariants.{Words}
use Rattle.lifted_case.specs.declared.lifted.LSystem.{LSystem}
use Rattle.lifted_case.specs.declared.lifted.LFinding.{LFinding}
use Rattle.lifted_case.specs.declared.lifted.LCheck.TheVariants.{Never, NoDeadlock, NoAnswer, SomeAnswer}

-- a solution with these words and this finding
abbrev pub solution_node : {C : Type 0} → List ℕ → List ℕ → C → LFinding C → LNode C
solution_node key words when finding =
    record { key = key; kind = Solution; text = Words words ∷ []; when = when; undeveloped = false; branches = []; finding = Some finding }

abbrev pub never_finding : {C : Type 0} → C → LFinding C
never_finding refuted = record { check = Never 0 (codes "bad"); refuted = refuted; targets = (1, refuted) ∷ []; witnesses = [] }

abbrev pub deadlock_finding : {C : Type 0} → C → LFinding C
deadlock_finding refuted = record { check = NoDeadlock 0; refuted = refuted; targets = (0, refuted) ∷ []; witnesses = [] }

abbrev pub no_answer : {C : Type 0} → C → C → LFinding C
no_answer refuted witness = record { check = NoAnswer; refuted = refuted; targets = []; witnesses = (codes "x" ∷ codes "y" ∷ [], witness) ∷ [] }

abbrev pub some_answer : {C : Type 0} → C → LFinding C
some_answer refuted = record { check = SomeAnswer; refuted = refuted; targets = []; witnesses = [] }

abbrev pub small_system : {C : Type 0} → C → C → LSystem C
small_system valid other = record {
  element = codes "x";
  states = codes "s" ∷ codes "bad" ∷ [];
  reached = valid ∷ other ∷ [];
  transitions = (0, 1, codes "slip") ∷ [];
  parents = other ∷ [];
}

abbrev pub all_checks : {C : Type 0} → C → C → C → Lifted C
all_checks valid other never = record {
  title = codes "M";
  features = codes "R" ∷ codes "A" ∷ [];
  valid = valid;
  nodes = solution_node (codes "0") (codes "V") valid (never_finding other) ∷ solution_node (codes "1") (codes "D") valid (deadlock_finding other)
      ∷ solution_node (codes "2") (codes "N") valid (no_answer valid other) ∷ solution_node (codes "3") (codes "S") valid (some_answer never) ∷ [];
  relations = [];
  systems = small_system valid other ∷ [];
}
