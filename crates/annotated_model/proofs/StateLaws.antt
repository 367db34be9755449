-- The rules at states, read one after another, are those of the definitions.
use Rattle.std.proofs.Common.{◌≡◌, refl, sym, ap, ◌∙◌, ℕ, ◌+◌, List, [], ◌∷◌, ◌++◌, length, map, take, append_assoc, length-append}
use Rattle.std.specs.Prelude.{codes}
use Rattle.std.specs.List.{enumerate_from, sum_by}
use Rattle.std.proofs.Math.Seq.{take-append_seam}
use Rattle.std.proofs.lemmas.List.Sums.{sum_by_push}
use Rattle.meaning.specs.Texts.{flat}
use Rattle.meaning.specs.Documents.{Document, list_at}
use Rattle.meaning.specs.BundlePlaces.{States, requires, faults_at, may_have, is_list_value, name_in}
use Rattle.meaning.specs.ModelRules.{ModelContext, context_of, items_in, state_names, counted_before, faults_in_item, state_rules}
use Rattle.annotated_model.specs.Parts.{labels_in, state_faults}
use Rattle.annotated_model.specs.StateRules.{given_states, state_broken, states_broken, system_states_broken, all_states_broken}

-- what stands before a place
pub before_place : {X : Type 0} (before after all : List X) (i : ℕ) → before ++ after ≡ all → length before ≡ i → take i all ≡ before
before_place before after all i whole many = ap (λ n. take n all) (sym many) ∙ ap (take (length before)) (sym whole) ∙ take-append_seam before after

-- one more stands before the next place
pub one_more : {X : Type 0} (before after all : List X) (x : X) → before ++ (x ∷ after) ≡ all → (before ++ x ∷ []) ++ after ≡ all
one_more before after all x whole = append_assoc before (x ∷ []) after ∙ whole

pub one_longer : {X : Type 0} (before : List X) (x : X) (i : ℕ) → length before ≡ i → length (before ++ x ∷ []) ≡ i + 1
one_longer before x i many = length-append before (x ∷ []) ∙ ap (λ n. n + 1) many

-- how many items stand in the lists of these
abbrev pub counted_in : List ℕ → List Document → ℕ
counted_in k ds = sum_by (λ d. length (list_at k d)) ds

pub one_counted : (k : List ℕ) (before : List Document) (d : Document) (n : ℕ) → counted_in k before ≡ n → counted_in k (before ++ d ∷ []) ≡ n + length (list_at k d)
one_counted k before d n many = sum_by_push (λ x. length (list_at k x)) before d ∙ ap (λ m. m + length (list_at k d)) many

module _ (c : ModelContext) where
  rules_are : (i : ℕ) (system : Document) (k : ℕ) (d : Document)
      → state_rules c (i, system) (k, d) ≡ state_broken c.labels (counted_before (codes "states") (items_in c (codes "systems")) i) (take k (state_names system)) k d
  unfolding state_rules
  rules_are i system k d = refl

  module _ (i : ℕ) (system : Document) (counted : ℕ) (count : counted_before (codes "states") (items_in c (codes "systems")) i ≡ counted) where
    walk : (before : List (List ℕ)) (k : ℕ) (ds : List Document) → before ++ map name_in ds ≡ state_names system → length before ≡ k
        → flat (λ s. faults_at States i s.0 (state_rules c (i, system) s)) (enumerate_from k ds) ≡ states_broken c.labels i counted before k ds
    walk before k [] whole many = refl
    walk before k (d ∷ ds) whole many =
        let here : state_rules c (i, system) (k, d) ≡ state_broken c.labels counted before k d =
        rules_are i system k d ∙ (ap (λ n. state_broken c.labels n (take k (state_names system)) k d) count
        ∙ ap (λ names. state_broken c.labels counted names k d) (before_place before (map name_in (d ∷ ds)) (state_names system) k whole many)) in
        let rest = walk (before ++ name_in d ∷ []) (k + 1) ds (one_more before (map name_in ds) (state_names system) (name_in d) whole) (one_longer before (name_in d) k many) in
        ap (λ broken. faults_at States i k broken ++ flat (λ s. faults_at States i s.0 (state_rules c (i, system) s)) (enumerate_from (k + 1) ds)) here
        ∙ ap (λ fs. faults_at States i k (state_broken c.labels counted before k d) ++ fs) rest

    in_system : faults_in_item States (codes "states") (state_rules c (i, system)) (i, system) ≡ system_states_broken c.labels i counted system
    in_system = ap (λ fs. faults_at States i 0 (requires 2 (may_have is_list_value (codes "states") system)) ++ fs) (walk [] 0 (given_states system) refl refl)

  in_systems : (before ds : List Document) (i counted : ℕ) → before ++ ds ≡ items_in c (codes "systems") → length before ≡ i → counted_in (codes "states") before ≡ counted
      → flat (λ x. faults_in_item States (codes "states") (state_rules c x) x) (enumerate_from i ds) ≡ all_states_broken c.labels i counted ds
  in_systems before [] i counted whole many count = refl
  in_systems before (d ∷ ds) i counted whole many count =
      let so_far : counted_before (codes "states") (items_in c (codes "systems")) i ≡ counted =
      ap (counted_in (codes "states")) (before_place before (d ∷ ds) (items_in c (codes "systems")) i whole many) ∙ count in
      let rest = in_systems (before ++ d ∷ []) ds (i + 1) (counted + length (given_states d)) (one_more before ds (items_in c (codes "systems")) d whole) (one_longer before d i many)
      (one_counted (codes "states") before d counted count) in
      ap (λ fs. fs ++ flat (λ x. faults_in_item States (codes "states") (state_rules c x) x) (enumerate_from (i + 1) ds)) (in_system i d counted so_far)
      ∙ ap (λ fs. system_states_broken c.labels i counted d ++ fs) rest

pub state_faults_are : (features labels : List (List ℕ)) (model : Document) → labels ≡ labels_in model
    → state_faults features model ≡ all_states_broken labels 0 0 (list_at (codes "systems") model)
state_faults_are features labels model same =
    in_systems (context_of features model) [] (list_at (codes "systems") model) 0 0 refl refl refl
    ∙ ap (λ ls. all_states_broken ls 0 0 (list_at (codes "systems") model)) (sym same)
