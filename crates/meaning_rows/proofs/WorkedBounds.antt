-- What a build may ask, computed by the check.
use Rattle.std.specs.Prelude.{◌≡◌, ℕ, ◌+◌, List, [], ◌∷◌, length, Bool, ◌&&◌, ◌==◌, if◌then◌else◌, Some, refl, option_map, bytes_eq, filter}
use Rattle.std.specs.List.{list_any}
use Rattle.meaning.specs.Texts.{flat}
use Rattle.meaning.specs.Documents.{Json, Document, document_of}
use Rattle.meaning.specs.Features.{is_valid, feature_names}
use Rattle.meaning.specs.CaseReading.{CaseReading, Broken, Is, read_case}
use Rattle.meaning.specs.Derivation.{Bundle, bundle_of}
use Rattle.meaning.specs.Queries.{Path}
use Rattle.meaning.specs.Worlds.{worlds}
use Rattle.meaning.specs.Entries.{places_at}
use Rattle.meaning.specs.Bounds.{work_of, line_asks, asks_of_report, asks_of_rules, asks_of_audit, nodes_of_functions, pairs_at, Pair, annotation_width, query_width, paths_in, distinct_paths, model_size, most_variables}
use Rattle.meaning_rows.proofs.TramDoors.{tram_bundle}
use Rattle.meaning_rows.proofs.Samples.{pairs_bundle, system_bundle, system_case, meaning_on_literals}

valid_worlds : Bundle → List (List Bool)
valid_worlds b = filter (λ w. is_valid b.line w) (worlds (length (feature_names b.line)))

once_after : {A : Type 0} → (A → A → Bool) → List A → List A → List A
once_after same before [] = before
once_after same before (x ∷ xs) = once_after same (if list_any (same x) before then before else x ∷ before) xs

same_pair : Pair → Pair → Bool
same_pair x y = (x.0 == y.0) && (x.1 == y.1)

pairs_of : Bundle → Path → List Pair
pairs_of b p = once_after same_pair [] (flat (pairs_at b p) (valid_worlds b))

place_count : Bundle → ℕ
place_count b = 1 + length (once_after bytes_eq [] (flat (places_at b) (valid_worlds b)))

-- places, work, how often the line asks
sizes_of : Document → List ℕ
sizes_of d =
    let b = bundle_of d in
    place_count b ∷ work_of b (pairs_of b) (place_count b) ∷ line_asks (feature_names b.line) d ∷ []

-- the widths and sizes that work is made of
widths_of : Document → List ℕ
widths_of d =
    let b = bundle_of d in
    line_asks (feature_names b.line) d ∷ model_size b.model ∷ annotation_width b.templates ∷ query_width b.templates
    ∷ length (paths_in b.templates) ∷ length (distinct_paths b.templates) ∷ most_variables b.templates ∷ []

-- of a case against a bundle: what a report, the rules and an audit may ask
asks_of : Document → CaseReading → List ℕ
asks_of d (Broken f) = []
asks_of d (Is k) =
    let b = bundle_of d in asks_of_report k ∷ asks_of_rules k ∷ asks_of_audit b.model k (line_asks (feature_names b.line) d) ∷ []

sizes_of_pairs : option_map sizes_of (document_of Json pairs_bundle) ≡ Some (5 ∷ 69888 ∷ 256 ∷ [])
unfolding meaning_on_literals valid_worlds once_after same_pair pairs_of place_count sizes_of widths_of asks_of places_at pairs_bundle
sizes_of_pairs = refl

sizes_of_system : option_map sizes_of (document_of Json system_bundle) ≡ Some (4 ∷ 21984 ∷ 256 ∷ [])
unfolding meaning_on_literals valid_worlds once_after same_pair pairs_of place_count sizes_of widths_of asks_of places_at system_bundle
sizes_of_system = refl

asks_over_system : option_map (λ d. asks_of d (read_case system_case)) (document_of Json system_bundle) ≡ Some (83 ∷ 646 ∷ 57539 ∷ [])
unfolding meaning_on_literals valid_worlds once_after same_pair pairs_of place_count sizes_of widths_of asks_of places_at system_bundle system_case
asks_over_system = refl

widths_of_tram : option_map widths_of (document_of Json tram_bundle) ≡ Some (2731 ∷ 47 ∷ 2 ∷ 9 ∷ 5 ∷ 3 ∷ 1 ∷ [])
unfolding meaning_on_literals valid_worlds once_after same_pair pairs_of place_count sizes_of widths_of asks_of places_at tram_bundle
widths_of_tram = refl

nodes_of_few : nodes_of_functions 3 1 ∷ nodes_of_functions 4 7 ∷ nodes_of_functions 5 7 ∷ nodes_of_functions 12 100 ∷ [] ≡ 256 ∷ 65536 ∷ 224 ∷ 409600 ∷ []
unfolding meaning_on_literals
nodes_of_few = refl
