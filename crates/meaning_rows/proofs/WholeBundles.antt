-- Whole bundles that break no rule, and a line that has no valid world, computed by the check.
use Rattle.std.specs.Prelude.{◌≡◌, ℕ, List, [], ◌∷◌, length, true, false, ◌==◌, Some, None, refl, codes, option_map}
use Rattle.std.proofs.lemmas.Bool.{ne_eqb}
use native.Mathlib.Omega.{arith}
use Rattle.meaning.specs.Documents.{Json, Toml, document_of}
use Rattle.meaning.specs.Expressions.{Not, Name}
use Rattle.meaning.specs.Features.{Line, Mandatory, Optional, line_of, is_valid}
use Rattle.meaning.specs.BundleRules.{first_fault_of_bytes, NoWorldIsValid}
use Rattle.toml.proofs.OnLiterals.{toml_on_literals}
use Rattle.meaning_rows.proofs.Samples.{smallest_bundle, smallest_toml, one_enumeration_bundle, alternatives_bundle, pairs_bundle, nested_bundle, system_bundle, library_bundle, edited, rules_on_literals, fault_of}

smallest_breaks_no_rule : fault_of smallest_bundle ≡ None
unfolding rules_on_literals
smallest_breaks_no_rule = refl

one_enumeration_breaks_no_rule : fault_of one_enumeration_bundle ≡ None
unfolding rules_on_literals
one_enumeration_breaks_no_rule = refl

alternatives_breaks_no_rule : fault_of alternatives_bundle ≡ None
unfolding rules_on_literals
alternatives_breaks_no_rule = refl

pairs_breaks_no_rule : fault_of pairs_bundle ≡ None
unfolding rules_on_literals
pairs_breaks_no_rule = refl

nested_enumeration_breaks_no_rule : fault_of nested_bundle ≡ None
unfolding rules_on_literals
nested_enumeration_breaks_no_rule = refl

system_breaks_no_rule : fault_of system_bundle ≡ None
unfolding rules_on_literals
system_breaks_no_rule = refl

library_breaks_no_rule : fault_of library_bundle ≡ None
unfolding rules_on_literals
library_breaks_no_rule = refl

smallest_in_toml_breaks_no_rule : first_fault_of_bytes Toml smallest_toml ≡ None
unfolding rules_on_literals toml_on_literals
smallest_in_toml_breaks_no_rule = refl

-- a mandatory feature that a rule forbids
unfoldable pub void_bundle : List ℕ
unfolding smallest_bundle
void_bundle = edited smallest_bundle (codes "[{'name':'R'}]")
    (codes "[{'name':'R'},{'name':'A','parent':'R','kind':'mandatory'}],'rules':[{'holds':'!A'}]")

void_breaks_no_other_rule : fault_of void_bundle ≡ None
unfolding rules_on_literals void_bundle
void_breaks_no_other_rule = refl

-- a line of two features that has no valid world: the second is mandatory, and the rule says that it isn't there
mandatory_and_forbidden : Line
mandatory_and_forbidden = record {
  features = record { name = codes "R"; parent = None; group = Optional } ∷ record { name = codes "A"; parent = Some 0; group = Mandatory } ∷ [];
  constraints = Not (Name 1) ∷ [];
}

is_that_line : option_map line_of (document_of Json void_bundle) ≡ Some mandatory_and_forbidden
unfolding rules_on_literals void_bundle mandatory_and_forbidden
is_that_line = refl

mandatory_and_forbidden_is_void : NoWorldIsValid mandatory_and_forbidden
unfolding is_valid mandatory_and_forbidden
mandatory_and_forbidden_is_void [] = refl
mandatory_and_forbidden_is_void (a ∷ []) = refl
mandatory_and_forbidden_is_void (false ∷ b ∷ []) = refl
mandatory_and_forbidden_is_void (true ∷ false ∷ []) = refl
mandatory_and_forbidden_is_void (true ∷ true ∷ []) = refl
mandatory_and_forbidden_is_void (a ∷ b ∷ c ∷ w) =
    let long : (length (a ∷ b ∷ c ∷ w) == 2) ≡ false = ne_eqb _ 2 (omega arith) in
    rw long refl
