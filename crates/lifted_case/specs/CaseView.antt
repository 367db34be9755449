-- What a case that was read means: the case document of the definitions.
use Rattle.std.specs.Prelude.{ℕ, map, option_map}
use Rattle.doc_tree.specs.Places.{part_of}
use Rattle.gsn.specs.View.{kind_of, relation_kind_of}
use Rattle.meaning.specs.CaseFiles.{CasePart, words, count, CaseCheck, Never, NoDeadlock, NoAnswer, SomeAnswer, Finding, CaseNode, CaseRelation, CaseSystem, CaseDocument}
use Rattle.meaning.specs.CaseReading as meaning
use Rattle.conditions.specs.Tables.{case_rows}
use Rattle.lifted_case.specs.declared.lifted.LNode.{LNode}
use Rattle.lifted_case.specs.declared.lifted.LPart.{LPart}
use Rattle.lifted_case.specs.declared.lifted.LPart.TheVariants as part
use Rattle.lifted_case.specs.declared.lifted.LRel.{LRel}
use Rattle.lifted_case.specs.declared.lifted.LSystem.{LSystem}
use Rattle.lifted_case.specs.declared.lifted.LFinding.{LFinding}
use Rattle.lifted_case.specs.declared.lifted.LCheck.{LCheck}
use Rattle.lifted_case.specs.declared.lifted.LCheck.TheVariants as check
use Rattle.lifted_case.specs.declared.lifted.ReadCase.{ReadCase}
use Rattle.lifted_case.specs.declared.lifted.CaseFault.{CaseFault}

abbrev pub case_part_of : LPart → CasePart
case_part_of (part.Words s) = words s
case_part_of part.Count = count

abbrev pub check_of : LCheck → CaseCheck
check_of (check.Never system property) = Never system property
check_of (check.NoDeadlock system) = NoDeadlock system
check_of check.NoAnswer = NoAnswer
check_of check.SomeAnswer = SomeAnswer

abbrev pub finding_of : LFinding ℕ → Finding
finding_of f = record { check = check_of f.check; refuted = f.refuted; targets = f.targets; witnesses = f.witnesses }

abbrev pub case_node_of : LNode ℕ → CaseNode
case_node_of n = record {
  key = n.key;
  kind = kind_of n.kind;
  parts = map case_part_of n.text;
  presence = n.when;
  undeveloped = n.undeveloped;
  branches = n.branches;
  finding = option_map finding_of n.finding;
}

abbrev pub case_relation_of : LRel ℕ → CaseRelation
case_relation_of r = record { source = r.from; target = r.to; kind = relation_kind_of r.kind; presence = r.when }

abbrev pub case_system_of : LSystem ℕ → CaseSystem
case_system_of s = record { element = s.element; states = s.states; reached = s.reached; transitions = s.transitions; parents = s.parents }

-- the document of a case that was read
abbrev pub case_document_of_read : ReadCase → CaseDocument
case_document_of_read c = record {
  title = c.lifted.title;
  features = c.lifted.features;
  valid = c.lifted.valid;
  nodes = map case_node_of c.lifted.nodes;
  relations = map case_relation_of c.lifted.relations;
  systems = map case_system_of c.lifted.systems;
  table = case_rows c.table.rows;
}

abbrev pub fault_view : CaseFault → meaning.CaseFault
fault_view f = record { fault = f.fault; part = part_of f.part; item = f.item }
