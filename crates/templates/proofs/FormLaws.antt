-- Whether rules of form are broken, by the tests that they make.
use Rattle.std.proofs.Common.{◌≡◌, refl, Bool, true, false}
use Rattle.std.specs.Prelude.{◌&&◌}
use Rattle.meaning.specs.ModelRules.{is_formed}
use Rattle.annotated_model.specs.Items.{texts_form}

pub formed_is : (a b c d e : Bool) → is_formed (texts_form a b c d e) ≡ (a && b && c && d && e)
formed_is true true true true true = refl
formed_is true true true true false = refl
formed_is true true true false e = refl
formed_is true true false d e = refl
formed_is true false c d e = refl
formed_is false b c d e = refl
