use Rattle.doc_tree.specs.View.{document}
use Rattle.lifted_case.specs.declared.lifted.ReadCase.{ReadCase}
use Rattle.lifted_case.proofs.CasesRead.{rules_kept, document_is}
use Rattle.lifted_case.proofs.read.case_of.Goals as goal

pub returns-clause-document : goal.returns-clause-document
returns-clause-document c =
    let case : ReadCase
    = record {
      lifted = record {
        title = c.in_ok-items.items.title;
        features = c.in_ok-features.features;
        valid = c.natural_at.result;
        nodes = c.in_ok-items.items.nodes;
        relations = c.in_ok-items.items.relations;
        systems = c.in_ok-items.items.systems;
      };
      table = c.in_ok-features.table;
    } in
    document_is case (document c.args.doc.now) c.in_ok-items.ensures.title c.in_ok-features.ensures.features c.natural_at.ensures c.in_ok-items.ensures.nodes
    c.in_ok-items.ensures.relations c.in_ok-items.ensures.systems c.in_ok-features.ensures.rows

pub returns-clause-rules : goal.returns-clause-rules
returns-clause-rules c =
    let case : ReadCase
    = record {
      lifted = record {
        title = c.in_ok-items.items.title;
        features = c.in_ok-features.features;
        valid = c.natural_at.result;
        nodes = c.in_ok-items.items.nodes;
        relations = c.in_ok-items.items.relations;
        systems = c.in_ok-items.items.systems;
      };
      table = c.in_ok-features.table;
    } in
    rules_kept (document c.args.doc.now) case c.requires (returns-clause-document c) c.in_ok-features.ensures.over
