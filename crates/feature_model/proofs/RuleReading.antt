-- What a rule of a line tells.
use Rattle.std.proofs.Common.{◌≡◌, ◌≢◌, ◌∙◌, refl, sym, ap, ap₂, ℕ, zero, suc, ◌<◌, List, [], ◌∷◌, ◌++◌, length, Bool, true, false, Option, Some, None, arith}
use Rattle.std.specs.Prelude.{option_and_then, unwrap_or, is_some, not, ◌&&◌, ◌==◌, codes}
use Rattle.std.specs.List.{list_all}
use Rattle.std.proofs.lemmas.List.{length-map}
use Rattle.std.proofs.lemmas.Option.{some_pair_parts}
use Rattle.std.proofs.lemmas.Bool.Decides.{nat_tests}
use Rattle.meaning.specs.Texts.{place_of, first_of_list}
use Rattle.meaning.specs.Documents.{Document, as_text, as_list, member_of, texts_in, list_at}
use Rattle.meaning.specs.Expressions.{Expression, Name, Not, Both, Implies}
use Rattle.meaning.specs.Features.{first_two, constraint_from, list_member, text_member}
use Rattle.meaning.specs.BundlePlaces.{Broken, requires, where_formed, broken_at, has, is_among, member_within, text_of_member}
use Rattle.meaning.specs.ExpressionFaults.{TextFault, expression_fault, place_of_form_fault, place_of_unknown_name}
use Rattle.meaning.specs.LineRules.{is_within, line_rule_has_form, line_rule_is_one, line_rule_rules, expression_rules}
use Rattle.feature_model.specs.declared.rules.Claim.TheVariants.{Requires, Excludes}
use Rattle.feature_model.specs.Reading.{both_places, two_places, IsClaimed, rule_form_at}
use Rattle.meaning.proofs.FirstFaults.{nothing_left}
use Rattle.feature_model.proofs.FeatureReading.{formed, kept}
use Rattle.feature_model.proofs.Places.{among_is, place_within}

-- ---- two features

both_known : (x y : Option ℕ) → is_some (both_places x y) ≡ (is_some x && (is_some y && true))
both_known None y = refl
both_known (Some a) None = refl
both_known (Some a) (Some b) = refl

pub two_known : (names ss : List (List ℕ)) → is_some (two_places names ss) ≡ ((length ss == 2) && list_all (is_among names) ss)
two_known names [] = refl
two_known names (s ∷ []) = let e : (suc zero == 2) ≡ false = grind (arith, nat_tests) in rw e refl
two_known names (s ∷ t ∷ []) =
    both_known (place_of s names) (place_of t names)
    ∙ (ap₂ (λ x y. x && (y && true)) (sym (among_is names s)) (sym (among_is names t)) ∙ (let e : (suc (suc zero) == 2) ≡ true = grind (arith, nat_tests) in rw e refl))
two_known names (s ∷ t ∷ u ∷ us) = let e : (suc (suc (suc (length us))) == 2) ≡ false = grind (arith, nat_tests) in rw e refl

pub record AreTwo (names ss : List (List ℕ)) (a b : ℕ) : Type 0 where
  pub make : (f : Expression → Expression → Expression) → first_two names ss f ≡ f (Name a) (Name b)
  pub first : a < length names
  pub second : b < length names

are_two : (names ss : List (List ℕ)) (a b : ℕ) → two_places names ss ≡ Some (a, b) → AreTwo names ss a b
are_two names [] a b e = absurd cc
are_two names (s ∷ []) a b e = absurd cc
are_two names (s ∷ t ∷ u ∷ us) a b e = absurd cc
are_two names (s ∷ t ∷ []) a b e = go (place_of s names) (place_of t names) refl refl e
  where
    go : (x y : Option ℕ) → place_of s names ≡ x → place_of t names ≡ y → both_places x y ≡ Some (a, b) → AreTwo names (s ∷ t ∷ []) a b
    go None y is_x is_y e = absurd cc
    go (Some x) None is_x is_y e = absurd cc
    go (Some x) (Some y) is_x is_y e =
        let pair = some_pair_parts x a y b e in
        let first : place_of s names ≡ Some a = is_x ∙ ap Some pair.0 in
        let second : place_of t names ≡ Some b = is_y ∙ ap Some pair.1 in
        record {
          make = λ f. ap₂ (λ x y. f (Name (unwrap_or x 0)) (Name (unwrap_or y 0))) first second;
          first = place_within names s a first;
          second = place_within names t b second;
        }

-- ---- a rule that names two features

and_true : (a : Bool) → (a && true) ≡ a
and_true true = refl
and_true false = refl

two_items : (names : List (List ℕ)) (ds : List Document) → ((length ds == 2) && list_all (is_among names) (texts_in ds)) ≡ is_some (two_places names (texts_in ds))
two_items names ds =
    ap (λ n. (n == 2) && list_all (is_among names) (texts_in ds)) (sym (length-map ds (λ d. unwrap_or (as_text d) []))) ∙ sym (two_known names (texts_in ds))

module _ (names : List (List ℕ)) (d : Document) (holds : has (codes "holds") d ≡ false) where
  pub needs_one : has (codes "requires") d ≡ true → has (codes "excludes") d ≡ false
      → line_rule_is_one names d ≡ is_some (two_places names (texts_in (list_at (codes "requires") d)))
  needs_one needs bars = rw (needs, bars, holds) (and_true _ ∙ two_items names (list_at (codes "requires") d))

  pub bars_one : has (codes "requires") d ≡ false → has (codes "excludes") d ≡ true
      → line_rule_is_one names d ≡ is_some (two_places names (texts_in (list_at (codes "excludes") d)))
  bars_one needs bars = rw (needs, bars, holds) (two_items names (list_at (codes "excludes") d))

  no_expression : text_of_member (codes "holds") d ≡ None
  no_expression = go (member_of (codes "holds") d) holds
    where
      go : (o : Option Document) → is_some o ≡ false → option_and_then as_text o ≡ None
      go None e = refl
      go (Some x) e = absurd cc

  listed : (o : Option (List Document)) (a b : ℕ) → two_places names (texts_in (unwrap_or o [])) ≡ Some (a, b) → (ds : List Document) × (o ≡ Some ds) × AreTwo names (texts_in ds) a b
  listed None a b e = absurd cc
  listed (Some ds) a b e = (ds, refl, are_two names (texts_in ds) a b e)

  pub needs_claim : (a b : ℕ) → two_places names (texts_in (list_at (codes "requires") d)) ≡ Some (a, b) → IsClaimed names d (Requires a b)
  needs_claim a b e =
      let r = listed (list_member (codes "requires") d) a b e in
      (ap (λ o. constraint_from names o (list_member (codes "excludes") d) (text_member (codes "holds") d)) r.1 ∙ r.2.make Implies, r.2.first, r.2.second, no_expression)

  no_list : (k : List ℕ) → has k d ≡ false → list_member k d ≡ None
  no_list k none = go (member_of k d) none
    where
      go : (o : Option Document) → is_some o ≡ false → option_and_then as_list o ≡ None
      go None e = refl
      go (Some x) e = absurd cc

  pub bars_claim : (a b : ℕ) → has (codes "requires") d ≡ false → two_places names (texts_in (list_at (codes "excludes") d)) ≡ Some (a, b) → IsClaimed names d (Excludes a b)
  bars_claim a b needs e =
      let r = listed (list_member (codes "excludes") d) a b e in
      (ap₂ (λ x y. constraint_from names x y (text_member (codes "holds") d)) (no_list (codes "requires") needs) r.1 ∙ r.2.make (λ x y. Not (Both x y)), r.2.first, r.2.second, no_expression)

-- ---- all that is broken at a rule

module _ (names : List (List ℕ)) (i : ℕ) (d : Document) where
  first_of_formed : (form others : List Broken) (b : Broken) → Some b ≡ first_of_list form → Some b ≡ first_of_list (where_formed form others)
  first_of_formed [] others b e = absurd cc
  first_of_formed (f ∷ fs) others b e = e

  pub form_first : (rule : ℕ) → Some (rule, 0) ≡ first_of_list (rule_form_at i d) → Some (rule, 0) ≡ first_of_list (line_rule_rules names (i, d))
  unfolding line_rule_rules
  form_first rule e = first_of_formed (rule_form_at i d) (requires 10 (line_rule_is_one names d) ++ expression_rules names (codes "holds") d) (rule, 0) e

  pub formed_rules : rule_form_at i d ≡ [] → line_rule_rules names (i, d) ≡ requires 10 (line_rule_is_one names d) ++ expression_rules names (codes "holds") d
  unfolding line_rule_rules
  formed_rules e = ap (λ form. where_formed form (requires 10 (line_rule_is_one names d) ++ expression_rules names (codes "holds") d)) e

  pub one_rules : rule_form_at i d ≡ [] → line_rule_is_one names d ≡ true → line_rule_rules names (i, d) ≡ expression_rules names (codes "holds") d
  one_rules e one = formed_rules e ∙ ap (λ b. requires 10 b ++ expression_rules names (codes "holds") d) one

  pub not_one : rule_form_at i d ≡ [] → line_rule_is_one names d ≡ false → Some (10, 0) ≡ first_of_list (line_rule_rules names (i, d))
  not_one e none = sym (ap first_of_list (formed_rules e ∙ ap (λ b. requires 10 b ++ expression_rules names (codes "holds") d) none))

  pub no_rules : rule_form_at i d ≡ [] → line_rule_is_one names d ≡ true → text_of_member (codes "holds") d ≡ None → line_rule_rules names (i, d) ≡ []
  no_rules e one none = one_rules e one ∙ ap (λ o. expression_places (option_and_then (expression_fault names) o)) none
    where
      expression_places : Option TextFault → List Broken
      expression_places f = broken_at 11 (place_of_form_fault f) ++ broken_at 12 (place_of_unknown_name f)

  -- a rule that breaks none is within the limit
  pub rule_within : line_rule_rules names (i, d) ≡ [] → i ≢ 1024
  unfolding line_rule_rules
  rule_within e =
      let all = formed (rule_form_at i d) (requires 10 (line_rule_is_one names d) ++ expression_rules names (codes "holds") d) e in
      let last = nothing_left (requires 2 (line_rule_has_form d) ++ requires 4 (member_within 4096 (codes "holds") d)) (requires 6 (is_within 1024 i)) all.0 in
      let w : not (i == 1024) ≡ true = kept 6 (is_within 1024 i) last.1 in grind (arith, nat_tests)
