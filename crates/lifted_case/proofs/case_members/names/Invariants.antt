use Rattle.std.proofs.Common.{map, take}
use Rattle.serde_json.specs.Data.{string}
use Rattle.doc_tree.specs.View.{documents}
use Rattle.lifted_case.specs.Written.{AreWritten}
use Rattle.lifted_case.proofs.case_members.names.Given as goal

abbrev pub invariant-names : goal.invariant-names
invariant-names l = AreWritten (documents l.docs.items) (map string (take l.no l.names))
