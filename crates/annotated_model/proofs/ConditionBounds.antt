-- The conditions of a model speak of the line's features alone.
use Rattle.std.proofs.Common.{◌≡◌, refl, sym, subst, ℕ, ◌≤◌, List, [], ◌∷◌, length, map, Option, Some, None, arith}
use Rattle.std.specs.Prelude.{codes, option_and_then, unwrap_or, Result, Ok, Err, IfOk}
use Rattle.std.specs.List.{All, AllByRecursion}
use Rattle.std.proofs.lemmas.List.Elements.{All-from_recursion}
use Rattle.meaning.specs.Documents.{Document, list_at}
use Rattle.meaning.specs.Expressions.{Expression, Top, pieces_of, tokens_of, name_bound, expression_of_tokens, expression_of}
use Rattle.meaning.specs.Models.{Model, condition_of, text_if, element_of, link_of, transition_of, system_from, names_in, model_of}
use Rattle.meaning.specs.ModelRules.{model_in, types_in, model_faults}
use Rattle.meaning.proofs.GrammarLaw.{then_some}
use Rattle.meaning.proofs.ReadsGrammar.{reads_grammar}
use Rattle.cond_text.proofs.NameBounds.{phrase_bound}
use Rattle.annotated_model.specs.declared.fault.ModelStop.{ModelStop}
use Rattle.annotated_model.specs.ModelFacts.{NamesFeatures}
use Rattle.annotated_model.specs.Parts.{names_at, labels_in}

module _ {X Y : Type 0} (P : Y → Type 0) (f : X → Y) (h : (x : X) → P (f x)) where
  each_by_recursion : (xs : List X) → AllByRecursion P (map f xs)
  each_by_recursion [] = tt
  each_by_recursion (x ∷ xs) = (h x, each_by_recursion xs)

  -- what each item gives is one of what the list gives
  each : (xs : List X) → All P (map f xs)
  each xs = All-from_recursion P (map f xs) (each_by_recursion xs)

-- an expression that is read speaks of the names that it is read over
pub expression_bound : (names : List (List ℕ)) (s : List ℕ) (e : Expression) → expression_of names s ≡ Some e → name_bound e ≤ length names
unfolding expression_of
expression_bound names s e is =
    let r = then_some (expression_of_tokens names) (tokens_of (pieces_of s)) e is in
    phrase_bound names s e (r.0, r.1, (reads_grammar names r.0 e).0 r.2)

pub condition_bound : (features : List (List ℕ)) (d : Document) → name_bound (condition_of features d) ≤ length features
condition_bound features d = go (option_and_then (expression_of features) (text_if (codes "when") d)) read
  where
    read : (e : Expression) → option_and_then (expression_of features) (text_if (codes "when") d) ≡ Some e → name_bound e ≤ length features
    read e is =
        let s = then_some (expression_of features) (text_if (codes "when") d) e is in expression_bound features s.0 e s.2

    go : (o : Option Expression) → ((e : Expression) → o ≡ Some e → name_bound e ≤ length features) → name_bound (unwrap_or o Top) ≤ length features
    go None h = omega arith
    go (Some e) h = h e refl

-- each condition of a bundle's model speaks of the features of its line
pub names_features : (features : List (List ℕ)) (bundle : Document) → NamesFeatures (length features) (model_of features bundle)
unfolding model_of
names_features features bundle =
    let model = model_in bundle in
    record {
      elements = each (λ e. name_bound e.presence ≤ length features) (element_of features (types_in model)) (condition_bound features) (list_at (codes "elements") model);
      links = each (λ l. name_bound l.presence ≤ length features) (link_of features (names_at (codes "kinds") model) (names_at (codes "elements") model)) (condition_bound features)
          (list_at (codes "links") model);
      transitions = each (λ s. All (λ t. name_bound t.presence ≤ length features) s.transitions) (system_from features (labels_in model) (names_at (codes "elements") model))
          (λ d. each (λ t. name_bound t.presence ≤ length features) (transition_of features (names_in (list_at (codes "states") d))) (condition_bound features)
          (list_at (codes "transitions") d)) (list_at (codes "systems") model);
    }

-- so it is of a model that was read
pub read_bounded : (features : List (List ℕ)) (bundle : Document) (r : Result Model ModelStop)
    → IfOk r (λ m. (m ≡ model_of features bundle) × (model_faults features bundle ≡ [])) → IfOk r (NamesFeatures (length features))
read_bounded features bundle (Ok m) is = subst (NamesFeatures (length features)) (sym is.0) (names_features features bundle)
read_bounded features bundle (Err stop) is = is
