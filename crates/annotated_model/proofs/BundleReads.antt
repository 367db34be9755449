-- What is read from the table of a model is read from its bundle.
use Rattle.std.proofs.Common.{◌≡◌, sym, ap, ◌∙◌, subst, ℕ, List, []}
use Rattle.std.specs.Prelude.{Result, Ok, Err, IfOk, IfErr}
use Rattle.meaning.specs.Documents.{Document, table, no_members}
use Rattle.meaning.specs.Models.{Model, model_from, model_of}
use Rattle.meaning.specs.ModelRules.{context_of, model_in, faults_of_context, model_faults}
use Rattle.annotated_model.specs.declared.fault.ModelStop.{ModelStop}
use Rattle.annotated_model.specs.Faults.{IsFirst}
use Rattle.annotated_model.specs.Joined.{nothing}

faults_are : (features : List (List ℕ)) (bundle model : Document) → model ≡ model_in bundle → faults_of_context (context_of features model) ≡ model_faults features bundle
unfolding model_faults
faults_are features bundle model is = ap (λ d. faults_of_context (context_of features d)) is

model_is : (features : List (List ℕ)) (bundle model : Document) → model ≡ model_in bundle → model_from features model ≡ model_of features bundle
unfolding model_of
model_is features bundle model is = ap (model_from features) is

pub read_ok : (features : List (List ℕ)) (bundle model : Document) → model ≡ model_in bundle → (r : Result Model ModelStop)
    → IfOk r (λ m. m ≡ model_from features model) → IfOk r (λ _. faults_of_context (context_of features model) ≡ [])
    → IfOk r (λ m. (m ≡ model_of features bundle) × (model_faults features bundle ≡ []))
read_ok features bundle model is (Ok m) value none =
    (value ∙ model_is features bundle model is, sym (faults_are features bundle model is) ∙ none)
read_ok features bundle model is (Err stop) value none = value

pub read_fault : (features : List (List ℕ)) (bundle model : Document) → model ≡ model_in bundle → (r : Result Model ModelStop)
    → IfErr r (IsFirst (faults_of_context (context_of features model))) → IfErr r (IsFirst (model_faults features bundle))
read_fault features bundle model is (Ok m) first = first
read_fault features bundle model is (Err stop) first = subst (λ fs. IsFirst fs stop) (faults_are features bundle model is) first

-- a bundle without a table of a model
pub read_nothing : (features : List (List ℕ)) (bundle : Document) → model_in bundle ≡ table no_members
    → (nothing ≡ model_of features bundle) × (model_faults features bundle ≡ [])
read_nothing features bundle is =
    (model_is features bundle (table no_members) (sym is), sym (faults_are features bundle (table no_members) (sym is)))
