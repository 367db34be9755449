-- The fault of the expression that a rule of a line holds.
use Rattle.std.proofs.Common.{◌≡◌, ◌∙◌, refl, sym, ap, ℕ, ◌≤◌, List, [], ◌++◌, length, true, Option, Some, arith}
use Rattle.std.specs.Prelude.{nat_le, option_and_then, unwrap_or, codes}
use Rattle.std.proofs.lemmas.Bool.Decides.{nat_tests}
use Rattle.meaning.specs.Texts.{first_of_list, is_text}
use Rattle.meaning.specs.Documents.{Document, text_at}
use Rattle.meaning.specs.BundlePlaces.{BundleFault, Rules, Broken, broken_at, faults_at, text_of_member, member_within}
use Rattle.meaning.specs.LineRules.{expression_rules, expression_fault_at}
use Rattle.meaning.specs.ExpressionFaults.{TextFault, expression_fault, place_of_form_fault, place_of_unknown_name, place_in_text}
use Rattle.meaning.specs.ExpressionFaults as fault
use Rattle.meaning.proofs.EmptyLists.{both_true}
use Rattle.meaning.specs.Counts.{capped}
use Rattle.cond_text.specs.Stops.{Tells}
use Rattle.cond_text.specs.declared.scan.ExprStop.TheVariants.{Syntax, UnknownName, TooMany}
use Rattle.feature_model.proofs.FaultPlaces.{fault_place}

abbrev pub told_at : (rule item at : ℕ) → BundleFault
told_at rule item at = record { rule = rule; part = Rules; item = item; sub = 0; at = at }

abbrev rules_of : Option TextFault → List Broken
rules_of f = broken_at 11 (place_of_form_fault f) ++ broken_at 12 (place_of_unknown_name f)

module _ (names : List (List ℕ)) (d : Document) (s : List ℕ) (item : ℕ) (text : text_of_member (codes "holds") d ≡ Some s) (within : member_within 4096 (codes "holds") d ≡ true) where
  short : length s ≤ 4096
  short =
      let parts = both_true (is_text (text_at (codes "holds") d)) (nat_le (length (text_at (codes "holds") d)) 4096) within in
      let same : text_at (codes "holds") d ≡ s = ap (λ o. unwrap_or o []) text in
      let h : nat_le (length s) 4096 ≡ true = ap (λ t. nat_le (length t) 4096) (sym same) ∙ parts.1 in grind (arith, nat_tests)

  whole : (told at : ℕ) (f : TextFault) → place_in_text f ≡ at → expression_fault names s ≡ Some f → told ≡ capped at → told ≡ at
  whole told at f is e t = let place = fault_place names s f e in let h = short in omega arith

  fault_is : (f : TextFault) → expression_fault names s ≡ Some f → expression_fault_at names (codes "holds") d ≡ Some f
  fault_is f e = ap (option_and_then (expression_fault names)) text ∙ e

  first_rule : (f : TextFault) → expression_fault names s ≡ Some f → first_of_list (faults_at Rules item 0 (expression_rules names (codes "holds") d)) ≡ first_of_list (faults_at Rules item 0 (rules_of (Some f)))
  first_rule f e = ap (λ o. first_of_list (faults_at Rules item 0 (rules_of o))) (fault_is f e)

  pub unknown_name : (told : ℕ) → Tells (UnknownName told) (expression_fault names s)
      → first_of_list (faults_at Rules item 0 (expression_rules names (codes "holds") d)) ≡ Some (told_at 12 item told)
  unknown_name told t =
      first_rule (fault.UnknownName t.0) t.1 ∙ ap (λ at. Some (told_at 12 item at)) (sym (whole told t.0 (fault.UnknownName t.0) refl t.1 t.2))

  pub syntax_fault : (told : ℕ) → Tells (Syntax told) (expression_fault names s)
      → first_of_list (faults_at Rules item 0 (expression_rules names (codes "holds") d)) ≡ Some (told_at 11 item told)
  syntax_fault told t =
      first_rule (fault.Syntax t.0) t.1 ∙ ap (λ at. Some (told_at 11 item at)) (sym (whole told t.0 (fault.Syntax t.0) refl t.1 t.2))

  pub too_many : (told : ℕ) → Tells (TooMany told) (expression_fault names s)
      → first_of_list (faults_at Rules item 0 (expression_rules names (codes "holds") d)) ≡ Some (told_at 11 item told)
  too_many told t =
      first_rule (fault.TooMany t.0) t.1 ∙ ap (λ at. Some (told_at 11 item at)) (sym (whole told t.0 (fault.TooMany t.0) refl t.1 t.2))
