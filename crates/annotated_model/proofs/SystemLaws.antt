-- The rules at systems, read one after another over what is known, are those of the definitions.
use Rattle.std.proofs.Common.{◌≡◌, refl, sym, ap, ◌∙◌, ℕ, ◌+◌, ◌^◌, ◌-◌, List, [], ◌∷◌, ◌++◌, length, map, take, Option, Some, None, not, arith}
use Rattle.std.specs.Prelude.{codes, ◌&&◌, ◌||◌, min, slice_get, is_some, option_map, unwrap_or, false}
use Rattle.std.specs.List.{enumerate_from, list_all, take-map}
use Rattle.std.proofs.lemmas.List.{map-append}
use Rattle.std.proofs.lemmas.Bool.Decides.{nat_tests}
use Rattle.std.proofs.lemmas.Option.{slice_get-map}
use Rattle.meaning.specs.Texts.{flat, place_of}
use Rattle.meaning.specs.Documents.{Document, text_at, list_at}
use Rattle.meaning.specs.BundlePlaces.{Systems, requires, where_formed, faults_at, may_have, is_list_value, is_among, name_in, if_some}
use Rattle.meaning.specs.LineRules.{is_within}
use Rattle.meaning.specs.ModelRules.{ModelContext, context_of, items_in, names_in, state_names, counted_before, type_of_element, system_elements, element_takes_system, is_formed, has_initial_state, system_rules}
use Rattle.meaning.specs.ModelRules as meaning
use Rattle.annotated_model.specs.declared.known.Known.{Known}
use Rattle.annotated_model.specs.declared.data.TypeDef.{TypeDef}
use Rattle.annotated_model.specs.View.{type_view}
use Rattle.annotated_model.specs.Known.{Knows}
use Rattle.annotated_model.specs.Parts.{system_faults}
use Rattle.annotated_model.specs.StateRules.{state_form, given_states}
use Rattle.annotated_model.specs.SystemRules.{is_system_type, takes_system, are_formed, can_start, system_form, system_broken, with_states, systems_broken}
use Rattle.annotated_model.proofs.LinkLaws.{among_place, same_element_type}
use Rattle.annotated_model.proofs.StateLaws.{before_place, one_more, one_longer, counted_in, one_counted}

-- a count that stands still is past the limit where the true one is, and else the same
within_same : (n k : ℕ) → is_within 4096 (n + k) ≡ is_within 4096 (min n (2 ^ 64 - 1) + k)
within_same n k = grind (arith, nat_tests)

counted_on : (n counted more : ℕ) → min n (2 ^ 64 - 1) ≡ counted → min (n + more) (2 ^ 64 - 1) ≡ min (counted + more) (2 ^ 64 - 1)
counted_on n counted more same = omega arith

-- the mark of a type, seen
mark_seen : (o : Option TypeDef) → unwrap_or (option_map (λ x. x.has_system) (option_map type_view o)) false ≡ unwrap_or (option_map (λ x. x.system) o) false
mark_seen None = refl
mark_seen (Some t) = refl

module _ (c : ModelContext) (i : ℕ) (system : Document) (n : ℕ) (count : counted_before (codes "states") (items_in c (codes "systems")) i ≡ n) where
  form_is : (before : List (List ℕ)) (k : ℕ) (d : Document) → take k (state_names system) ≡ before
      → meaning.state_form c (i, system) (k, d) ≡ state_form (not (is_among before (name_in d))) (is_within 4096 (min n (2 ^ 64 - 1) + k)) d
  form_is before k d names =
      ap (λ m. state_form (not (is_among (take k (state_names system)) (name_in d))) (is_within 4096 (m + k)) d) count
      ∙ (ap (λ names. state_form (not (is_among names (name_in d))) (is_within 4096 (n + k)) d) names
      ∙ ap (λ within. state_form (not (is_among before (name_in d))) within d) (within_same n k))

  formed : (before : List (List ℕ)) (k : ℕ) (ds : List Document) → before ++ map name_in ds ≡ state_names system → length before ≡ k
      → list_all (λ s. is_formed (meaning.state_form c (i, system) s)) (enumerate_from k ds) ≡ are_formed (min n (2 ^ 64 - 1)) before k ds
  formed before k [] whole many = refl
  formed before k (d ∷ ds) whole many =
      let here = form_is before k d (before_place before (map name_in (d ∷ ds)) (state_names system) k whole many) in
      let rest = formed (before ++ name_in d ∷ []) (k + 1) ds (one_more before (map name_in ds) (state_names system) (name_in d) whole) (one_longer before (name_in d) k many) in
      ap (λ form. is_formed form && list_all (λ s. is_formed (meaning.state_form c (i, system) s)) (enumerate_from (k + 1) ds)) here
      ∙ ap (λ b. is_formed (state_form (not (is_among before (name_in d))) (is_within 4096 (min n (2 ^ 64 - 1) + k)) d) && b) rest

  starts : (not (meaning.states_have_form c (i, system)) || has_initial_state system) ≡ can_start (min n (2 ^ 64 - 1)) system
  starts =
      ap (λ b. not (may_have is_list_value (codes "states") system && b) || has_initial_state system) (formed [] 0 (given_states system) refl refl)

module _ (features : List (List ℕ)) (known : Known) (model : Document) (knows : Knows known features model) where
  abbrev c : ModelContext
  c = context_of features model

  same_mark : (t : ℕ) → meaning.is_system_type c t ≡ is_system_type known t
  same_mark t =
      ap (λ types. unwrap_or (option_map (λ x. x.has_system) (slice_get types t)) false) (sym knows.types)
      ∙ ap (λ o. unwrap_or (option_map (λ x. x.has_system) o) false) (slice_get-map type_view known.types t) ∙ mark_seen (slice_get known.types t)

  same_marks : (o : Option ℕ) → if_some (meaning.is_system_type c) o ≡ if_some (is_system_type known) o
  same_marks None = refl
  same_marks (Some t) = same_mark t

  same_takes : (before : List (List ℕ)) (i : ℕ) (d : Document) → take i (system_elements c) ≡ before → element_takes_system c (i, d) ≡ takes_system known before d
  same_takes before i d names =
      let e = text_at (codes "element") d in
      let may = same_marks (type_of_element c e) ∙ ap (if_some (is_system_type known)) (same_element_type features known model knows e) in
      ap (λ b. b && not (is_among (take i (system_elements c)) e) && if_some (meaning.is_system_type c) (type_of_element c e))
      (among_place (names_in c (codes "elements")) known.element_names e knows.element_names)
      ∙ (ap (λ names. is_some (place_of e known.element_names) && not (is_among names e) && if_some (meaning.is_system_type c) (type_of_element c e)) names
      ∙ ap (λ b. is_some (place_of e known.element_names) && not (is_among before e) && b) may)

  rules_are : (i : ℕ) (d : Document) → system_rules c (i, d)
      ≡ where_formed (system_form i d) (requires 19 (element_takes_system c (i, d)) ++ requires 21 (not (meaning.states_have_form c (i, d)) || has_initial_state d))
  unfolding system_rules
  rules_are i d = refl

  same_rules : (before : List (List ℕ)) (i n : ℕ) (d : Document) → take i (system_elements c) ≡ before → counted_before (codes "states") (items_in c (codes "systems")) i ≡ n
      → system_rules c (i, d) ≡ system_broken known before (min n (2 ^ 64 - 1)) i d
  same_rules before i n d names count =
      rules_are i d
      ∙ (ap (λ b. where_formed (system_form i d) (requires 19 b ++ requires 21 (not (meaning.states_have_form c (i, d)) || has_initial_state d))) (same_takes before i d names)
      ∙ ap (λ b. where_formed (system_form i d) (requires 19 (takes_system known before d) ++ requires 21 b)) (starts c i d n count))

  in_systems : (before ds : List Document) (i n counted : ℕ) → before ++ ds ≡ items_in c (codes "systems") → length before ≡ i → counted_in (codes "states") before ≡ n → min n (2 ^ 64 - 1) ≡ counted
      → flat (λ x. faults_at Systems x.0 0 (system_rules c x)) (enumerate_from i ds) ≡ systems_broken known (map (text_at (codes "element")) before) counted i ds
  in_systems before [] i n counted whole many count same = refl
  in_systems before (d ∷ ds) i n counted whole many count same =
      let element = text_at (codes "element") in
      let place = before_place before (d ∷ ds) (items_in c (codes "systems")) i whole many in
      let owners : take i (system_elements c) ≡ map element before = take-map element i (items_in c (codes "systems")) ∙ ap (map element) place in
      let here = same_rules (map element before) i n d owners (ap (counted_in (codes "states")) place ∙ count)
      ∙ ap (λ m. system_broken known (map element before) m i d) same in
      let rest = in_systems (before ++ d ∷ []) ds (i + 1) (n + length (given_states d)) (with_states counted d) (one_more before ds (items_in c (codes "systems")) d whole) (one_longer before d i many)
      (one_counted (codes "states") before d n count) (counted_on n counted (length (given_states d)) same)
      ∙ ap (λ names. systems_broken known names (with_states counted d) (i + 1) ds) (map-append element before (d ∷ [])) in
      ap (λ broken. faults_at Systems i 0 broken ++ flat (λ x. faults_at Systems x.0 0 (system_rules c x)) (enumerate_from (i + 1) ds)) here
      ∙ ap (λ fs. faults_at Systems i 0 (system_broken known (map element before) counted i d) ++ fs) rest

  pub system_faults_are : system_faults features model ≡ faults_at Systems 0 0 (requires 2 (may_have is_list_value (codes "systems") model))
      ++ systems_broken known [] 0 0 (list_at (codes "systems") model)
  system_faults_are =
      ap (λ fs. faults_at Systems 0 0 (requires 2 (may_have is_list_value (codes "systems") model)) ++ fs) (in_systems [] (list_at (codes "systems") model) 0 0 0 refl refl refl refl)
