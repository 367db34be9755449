use Rattle.std.proofs.Common.{◌≡◌, List, [], ◌∷◌, false, refl, sym, subst}
use Rattle.meaning.specs.BundlePlaces.{Broken}
use Rattle.meaning.specs.ModelRules.{is_formed}
use Rattle.doc_tree.specs.View.{document}
use Rattle.doc_tree.specs.declared.fault.BundleFault.{BundleFault}
use Rattle.doc_tree.specs.declared.fault.Part.TheVariants.{States}
use Rattle.annotated_model.specs.declared.fault.ModelStop.{ModelStop}
use Rattle.annotated_model.specs.declared.fault.ModelStop.TheVariants.{Fault}
use Rattle.annotated_model.specs.declared.fault.Place.{Place}
use Rattle.annotated_model.specs.Faults.{IsFirst, faults_here}
use Rattle.annotated_model.specs.StateRules.{state_form}
use Rattle.annotated_model.proofs.systems.is_formed.Goals as goal

-- where a fault is the first, there is one
broken_is_not_formed : (p : Place) (form : List Broken) (stop : ModelStop) (f : BundleFault) → stop ≡ Fault f → IsFirst (faults_here p form) stop → is_formed form ≡ false
broken_is_not_formed p [] stop f is first = let none = subst (IsFirst []) is first in absurd cc
broken_is_not_formed p (b ∷ bs) stop f is first = refl

pub returns-in-Err-Fault-clause-formed : goal.returns-in-Err-Fault-clause-formed
returns-in-Err-Fault-clause-formed c =
    let place : Place = record { part = States; item = 0; sub = 0 } in
    sym (broken_is_not_formed place (state_form c.args.new c.args.within (document c.args.state.now)) c.in-Err-Fault.field-0 c.in-Err-Fault.field-0-0 c.in-Err-Fault.field-0-is c.in-Err-Fault.ensures.fault)
