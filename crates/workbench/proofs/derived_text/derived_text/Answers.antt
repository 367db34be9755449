use Rattle.std.proofs.Common.{refl}
use Rattle.gsn.specs.View.{case_of}
use Rattle.lifted_case.specs.CaseView.{case_document_of_read}
use Rattle.workbench.proofs.TextAnswers.{derived_is}
use Rattle.workbench.proofs.derived_text.derived_text.Goals as goal

pub returns-clause-derived : goal.returns-clause-derived
returns-clause-derived c =
    derived_is (case_document_of_read c.args.case.now) c.args.world.now (case_of c.in_ok-product.product) c.text-title.result.now c.args.case.now.lifted.features
    c.in_ok-bytes.bytes.items c.in_ok-product.ensures.valid c.in_ok-product.ensures.cut c.text-title.ensures refl c.in_ok-bytes.ensures
