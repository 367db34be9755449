-- The fault of the text of a condition is what the rules on it tell.
use Rattle.std.proofs.Common.{◌≡◌, ap, ◌∙◌, subst, ℕ, ◌≤◌, List, [], ◌∷◌, ◌++◌, length, Bool, true, false, Some, arith}
use Rattle.std.specs.Prelude.{◌&&◌, nat_le, unwrap_or, option_and_then}
use Rattle.std.proofs.lemmas.Bool.{leb-true}
use Rattle.meaning.specs.Texts.{is_text}
use Rattle.meaning.specs.Documents.{Document, text_at}
use Rattle.meaning.specs.BundlePlaces.{broken_at, member_within, text_of_member}
use Rattle.meaning.specs.ExpressionFaults.{TextFault, Syntax, UnknownName, TooMany, place_in_text, expression_fault, place_of_form_fault, place_of_unknown_name}
use Rattle.meaning.specs.LineRules.{expression_rules}
use Rattle.cond_text.specs.Stops.{capped, Tells}
use Rattle.cond_text.specs.declared.scan.ExprStop.TheVariants as stop
use Rattle.annotated_model.proofs.FaultPlaces.{fault_is_within}

both_right : (a b : Bool) → (a && b) ≡ true → b ≡ true
both_right true b e = e
both_right false b e = absurd cc

is_short : (k : List ℕ) (d : Document) (text : List ℕ) → text_of_member k d ≡ Some text → member_within 4096 k d ≡ true → length text ≤ 4096
is_short k d text is within =
    let there : text_at k d ≡ text = ap (λ o. unwrap_or o []) is in
    let short : nat_le (length text) 4096 ≡ true = subst (λ s. nat_le (length s) 4096 ≡ true) there (both_right (is_text (text_at k d)) _ within) in
    leb-true (length text) 4096 short

module _ (names : List (List ℕ)) (k : List ℕ) (d : Document) (text : List ℕ) (is : text_of_member k d ≡ Some text) where
  rules_of : (f : TextFault) → expression_fault names text ≡ Some f
      → expression_rules names k d ≡ broken_at 11 (place_of_form_fault (Some f)) ++ broken_at 12 (place_of_unknown_name (Some f))
  rules_of f e =
      ap (λ o. broken_at 11 (place_of_form_fault o) ++ broken_at 12 (place_of_unknown_name o)) (ap (option_and_then (expression_fault names)) is ∙ e)

  -- a place in the text is told as it is
  exact : member_within 4096 k d ≡ true → (f : TextFault) (told : ℕ) → expression_fault names text ≡ Some f → told ≡ capped (place_in_text f) → place_in_text f ≡ told
  exact within f told e capped_is =
      let inside = fault_is_within names text f e in
      let short = is_short k d text is within in
      omega arith

  pub syntax_told : member_within 4096 k d ≡ true → (told : ℕ) → Tells (stop.Syntax told) (expression_fault names text) → expression_rules names k d ≡ (11, told) ∷ []
  syntax_told within told t = rules_of (Syntax t.0) t.1 ∙ ap (λ at. (11, at) ∷ []) (exact within (Syntax t.0) told t.1 t.2)

  pub too_many_told : member_within 4096 k d ≡ true → (told : ℕ) → Tells (stop.TooMany told) (expression_fault names text) → expression_rules names k d ≡ (11, told) ∷ []
  too_many_told within told t = rules_of (TooMany t.0) t.1 ∙ ap (λ at. (11, at) ∷ []) (exact within (TooMany t.0) told t.1 t.2)

  pub unknown_told : member_within 4096 k d ≡ true → (told : ℕ) → Tells (stop.UnknownName told) (expression_fault names text) → expression_rules names k d ≡ (12, told) ∷ []
  unknown_told within told t = rules_of (UnknownName t.0) t.1 ∙ ap (λ at. (12, at) ∷ []) (exact within (UnknownName t.0) told t.1 t.2)
