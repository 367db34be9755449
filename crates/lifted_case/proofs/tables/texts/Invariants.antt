use Rattle.std.proofs.Common.{map, take}
use Rattle.serde_json.specs.Data.{string}
use Rattle.doc_tree.specs.View.{documents}
use Rattle.lifted_case.specs.Written.{AreWritten}
use Rattle.lifted_case.proofs.tables.texts.Given as goal

abbrev pub invariant-words : goal.invariant-words
invariant-words l = AreWritten (documents l.docs.items) (map string (take l.word-index l.words))
