-- The faults of elements without their systems, over what was read, are those of the definitions.
use Rattle.std.proofs.Common.{◌≡◌, refl, ap, ◌∙◌, ℕ, ◌+◌, List, [], ◌∷◌, ◌++◌, map, Some}
use Rattle.std.specs.Prelude.{codes, not, ◌||◌}
use Rattle.std.specs.List.{enumerate_from}
use Rattle.meaning.specs.Texts.{flat}
use Rattle.meaning.specs.Documents.{Document, list_at}
use Rattle.meaning.specs.Models.{Element}
use Rattle.meaning.specs.BundlePlaces.{Owners, requires, faults_at, if_some, name_in, is_among}
use Rattle.meaning.specs.ModelRules.{ModelContext, context_of, types_in, type_at, is_system_type, system_elements, has_its_system}
use Rattle.annotated_model.specs.Parts.{names_at, owners_in, owner_faults}
use Rattle.annotated_model.specs.Known.{types_at}
use Rattle.annotated_model.specs.Owners.{owner_broken, owners_broken}

module _ (c : ModelContext) where
  rule_is : (d : Document) (e : Element) → type_at c (codes "type") d ≡ Some e.of_type → name_in d ≡ e.name
      → requires 20 (has_its_system c d) ≡ owner_broken c.types (system_elements c) e
  rule_is d e typed named =
      ap (λ o. requires 20 (if_some (λ t. not (is_system_type c t) || is_among (system_elements c) (name_in d)) o)) typed
      ∙ ap (λ s. requires 20 (not (is_system_type c e.of_type) || is_among (system_elements c) s)) named

  walk_is : (i : ℕ) (ds : List Document) (es : List Element) → map (type_at c (codes "type")) ds ≡ map (λ e. Some e.of_type) es
      → map name_in ds ≡ map (λ e. e.name) es
      → flat (λ x. faults_at Owners x.0 0 (requires 20 (has_its_system c x.1))) (enumerate_from i ds) ≡ owners_broken c.types (system_elements c) i es
  walk_is i [] [] typed named = refl
  walk_is i [] (e ∷ es) typed named = absurd cc
  walk_is i (d ∷ ds) [] typed named = absurd cc
  walk_is i (d ∷ ds) (e ∷ es) typed named =
      let here : type_at c (codes "type") d ≡ Some e.of_type = cc in
      let name_here : name_in d ≡ e.name = cc in
      let rest : map (type_at c (codes "type")) ds ≡ map (λ x. Some x.of_type) es = cc in
      let names_rest : map name_in ds ≡ map (λ x. x.name) es = cc in
      ap (λ broken. faults_at Owners i 0 broken ++ flat (λ x. faults_at Owners x.0 0 (requires 20 (has_its_system c x.1))) (enumerate_from (i + 1) ds)) (rule_is d e here name_here)
      ∙ ap (λ fs. faults_at Owners i 0 (owner_broken c.types (system_elements c) e) ++ fs) (walk_is (i + 1) ds es rest names_rest)

pub owner_faults_are : (features : List (List ℕ)) (model : Document) (es : List Element)
    → types_at (codes "elements") (codes "type") model ≡ map (λ e. Some e.of_type) es → names_at (codes "elements") model ≡ map (λ e. e.name) es
    → owner_faults features model ≡ owners_broken (types_in model) (owners_in model) 0 es
owner_faults_are features model es typed named = walk_is (context_of features model) 0 (list_at (codes "elements") model) es typed named
