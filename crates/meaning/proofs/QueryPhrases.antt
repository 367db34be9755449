-- The reader of queries finds the tree that the grammar has.
use Rattle.std.proofs.Common.{◌≡◌, ◌∙◌, sym, ap, refl, ℕ, zero, suc, ◌+◌, ◌*◌, ◌≤◌, List, [], ◌∷◌, ◌++◌, length, map, Bool, true, false, append_assoc, length-append, Some, arith}
use Rattle.std.specs.Prelude.{option_map, option_and_then, codes}
use Rattle.std.proofs.lemmas.List.{append-nil}
use Rattle.meaning.specs.Models.{Model}
use Rattle.meaning.specs.Queries.{Path, Constraint, Walks, Attribute, Query}
use Rattle.meaning.specs.QueryTexts.{Token, word, colon, comma, close_bracket, Scope, attribute_number, kind_names, read_variables, typed, walk_from, attribute_test, read_walk, read_path, read_constraint, read_constraints, more_constraints, read_conditions, query_of_tokens, query_of}
use Rattle.meaning.specs.QueryGrammar.{IsNameOf, IsAttributeOf, variable_names, type_names, IsPath, IsConstraint, a_walk, no_walk, equals, differs, IsConstraints, of_constraint, and_constraints, IsConditions, unconditional, with_constraints, of_type, IsVariables, of_variable, and_variables, IsNew, no_variables, some_variables, IsQuery, query, IsQueryText}
use Rattle.meaning.proofs.PathPhrases.{reads_path}

-- ---- constraints

module _ (m : Model) (scope : Scope) where
  walk_read : (negated : Bool) (x y : List ℕ) (v u : ℕ) (ts rest : List Token) (p : Path)
      → IsNameOf (variable_names scope) x v → IsPath (kind_names m) ts p → IsNameOf (variable_names scope) y u
      → read_walk m scope negated x ((ts ++ close_bracket ∷ word y ∷ []) ++ rest) ≡ Some (Walks v p u negated, rest)
  walk_read negated x y v u ts rest p from phrase to =
      let all = (ts ++ close_bracket ∷ word y ∷ []) ++ rest in
      let long : length all ≡ length ts + suc (suc (length rest)) = ap length (append_assoc ts (close_bracket ∷ word y ∷ []) rest) ∙ length-append ts (close_bracket ∷ word y ∷ rest) in
      ap (option_and_then (λ k. option_and_then (walk_from scope negated k) (read_path (kind_names m) (8 * length all + 8) all))) from.stands
      ∙ (ap (λ us. option_and_then (walk_from scope negated v) (read_path (kind_names m) (8 * length all + 8) us)) (append_assoc ts (close_bracket ∷ word y ∷ []) rest)
      ∙ (ap (option_and_then (walk_from scope negated v)) (reads_path (kind_names m) ts (word y ∷ rest) p phrase (8 * length all + 8) (omega arith))
      ∙ ap (option_map (λ k. (Walks v p k negated, rest))) to.stands))

  test_read : (equal : Bool) (x a s : List ℕ) (v n : ℕ) (rest : List Token) → IsNameOf (variable_names scope) x v → IsAttributeOf m scope v a n
      → attribute_test m scope x a s equal rest ≡ Some (Attribute v n s equal, rest)
  test_read equal x a s v n rest variable attribute =
      ap (option_and_then (λ k. option_map (λ i. (Attribute k i s equal, rest)) (attribute_number m scope k a))) variable.stands
      ∙ ap (option_map (λ i. (Attribute v i s equal, rest))) attribute.stands

  -- a constraint in front of other tokens is read as it stands
  constraint_read : {ts : List Token} {c : Constraint} → IsConstraint m scope ts c → (rest : List Token) → read_constraint m scope (ts ++ rest) ≡ Some (c, rest)
  constraint_read (a_walk {x = x} {y = y} {v = v} {u = u} {ts = ts} {p = p} from phrase to) rest = walk_read false x y v u ts rest p from phrase to
  constraint_read (no_walk {x = x} {y = y} {v = v} {u = u} {ts = ts} {p = p} from phrase to) rest = walk_read true x y v u ts rest p from phrase to
  constraint_read (equals {x = x} {a = a} {s = s} {v = v} {n = n} variable attribute) rest = test_read true x a s v n rest variable attribute
  constraint_read (differs {x = x} {a = a} {s = s} {v = v} {n = n} variable attribute) rest = test_read false x a s v n rest variable attribute

  last_read : (n : ℕ) (ts : List Token) (c : Constraint) → IsConstraint m scope ts c → 2 ≤ n → read_constraints n m scope ts ≡ Some (c ∷ [])
  last_read zero ts c h above = absurd (omega arith)
  last_read (suc zero) ts c h above = absurd (omega arith)
  last_read (suc (suc n)) ts c h above =
      ap (λ us. option_and_then (more_constraints (suc n) m scope) (read_constraint m scope us)) (sym (append-nil ts))
      ∙ ap (option_and_then (more_constraints (suc n) m scope)) (constraint_read h [])

  before_read : (n : ℕ) (ts us : List Token) (c : Constraint) (cs : List Constraint) → IsConstraint m scope ts c
      → ((k : ℕ) → 2 * length us + 2 ≤ k → read_constraints k m scope us ≡ Some cs)
      → 2 * length (ts ++ comma ∷ us) + 2 ≤ n → read_constraints n m scope (ts ++ comma ∷ us) ≡ Some (c ∷ cs)
  before_read zero ts us c cs h later above = absurd (omega arith)
  before_read (suc zero) ts us c cs h later above = let long = length-append ts (comma ∷ us) in absurd (omega arith)
  before_read (suc (suc n)) ts us c cs h later above =
      ap (option_and_then (more_constraints (suc n) m scope)) (constraint_read h (comma ∷ us))
      ∙ ap (option_map (λ ds. c ∷ ds)) (later n (let long : length (ts ++ comma ∷ us) ≡ length ts + suc (length us) = length-append ts (comma ∷ us) in omega arith))

  constraints_read : {ts : List Token} {cs : List Constraint} → IsConstraints m scope ts cs → (n : ℕ) → 2 * length ts + 2 ≤ n → read_constraints n m scope ts ≡ Some cs
  constraints_read (of_constraint {ts = ts} {c = c} h) n above = last_read n ts c h (omega arith)
  constraints_read (and_constraints {ts = ts} {us = us} {c = c} {cs = cs} h g) n above =
      before_read n ts us c cs h (λ k enough. constraints_read g k enough) above

  conditions_read : {ts : List Token} {cs : List Constraint} → IsConditions m scope ts cs → read_conditions m scope ts ≡ Some cs
  conditions_read unconditional = refl
  conditions_read (with_constraints {ts = ts} h) = constraints_read h (2 * length ts + 2) (omega arith)

  -- ---- what conditions begin with

  -- a list that is empty, or begins with two words
  first_word : {ts : List Token} {c : Constraint} → IsConstraint m scope ts c → (w : List ℕ) × (us : List Token) × (ts ≡ word w ∷ us)
  first_word (a_walk {x = x} from phrase to) = (x, _, refl)
  first_word (no_walk from phrase to) = (codes "not", _, refl)
  first_word (equals {x = x} variable attribute) = (x, _, refl)
  first_word (differs {x = x} variable attribute) = (x, _, refl)

  word_of_constraints : {ts : List Token} {cs : List Constraint} → IsConstraints m scope ts cs → (w : List ℕ) × (us : List Token) × (ts ≡ word w ∷ us)
  word_of_constraints (of_constraint h) = first_word h
  word_of_constraints (and_constraints {us = us} h g) = let r = first_word h in (r.0, r.1 ++ comma ∷ us, ap (λ ts. ts ++ comma ∷ us) r.2)

  -- no variable stands in front of conditions
  conditions_alone : {ts : List Token} {cs : List Constraint} → IsConditions m scope ts cs → read_variables ts ≡ ([], ts)
  conditions_alone unconditional = refl
  conditions_alone (with_constraints {ts = ts} h) =
      let r = word_of_constraints h in
      let front : word (codes "with") ∷ ts ≡ word (codes "with") ∷ word r.0 ∷ r.1 = ap (λ us. word (codes "with") ∷ us) r.2 in
      ap read_variables front ∙ ap (λ us. ([], us)) (sym front)

  -- nor a comma behind variables
  last_variable : {ts : List Token} {cs : List Constraint} → IsConditions m scope ts cs → (x t : List ℕ)
      → read_variables (word x ∷ colon ∷ word t ∷ ts) ≡ ((x, t) ∷ [], ts)
  last_variable unconditional x t = refl
  last_variable (with_constraints h) x t = refl

-- ---- variables

-- the names of these new variables and of their types
record Named (m : Model) (ts rest : List Token) (new : Scope) : Type 0 where
  pairs : List (List ℕ × List ℕ)
  reads : read_variables (ts ++ rest) ≡ (pairs, rest)
  types : typed m pairs ≡ Some new

module _ (m : Model) where
  one_typed : (x t : List ℕ) (n : ℕ) (vs : List (List ℕ × List ℕ)) (new : Scope) → IsNameOf (type_names m) t n → typed m vs ≡ Some new
      → typed m ((x, t) ∷ vs) ≡ Some ((x, n) ∷ new)
  one_typed x t n vs new h types =
      ap (option_and_then (λ k. option_map (λ rest. (x, k) ∷ rest) (typed m vs))) h.stands ∙ ap (option_map (λ rest. (x, n) ∷ rest)) types

  variables_read : {ts : List Token} {new : Scope} → IsVariables m ts new → (scope : Scope) (rest : List Token) (cs : List Constraint) → IsConditions m scope rest cs
      → Named m ts rest new
  variables_read (of_variable (of_type {x = x} {t = t} {n = n} is h)) scope rest cs c =
      record { pairs = (x, t) ∷ []; reads = last_variable m scope c x t; types = one_typed x t n [] [] h refl }
  variables_read (and_variables {us = us} (of_type {x = x} {t = t} {n = n} is h) g) scope rest cs c =
      let r = variables_read g scope rest cs c in record {
        pairs = (x, t) ∷ r.pairs;
        reads = ap (λ p. ((x, t) ∷ p.0, p.1)) r.reads;
        types = one_typed x t n r.pairs _ h r.types;
      }

  new_read : {ts : List Token} {new : Scope} → IsNew m ts new → (scope : Scope) (rest : List Token) (cs : List Constraint) → IsConditions m scope rest cs
      → Named m ts rest new
  new_read no_variables scope rest cs c = record { pairs = []; reads = conditions_alone m scope c; types = refl }
  new_read (some_variables h) scope rest cs c = variables_read h scope rest cs c

  -- ---- a whole query

  pub query_read : (scope : Scope) (ts : List Token) (q : Scope × Query) → IsQuery m scope ts q → query_of_tokens m scope ts ≡ Some q
  query_read scope ts q (query {ts = us} {us = rest} {new = new} {cs = cs} h c) =
      let r = new_read h (scope ++ new) rest cs c in
      ap (λ vars. option_and_then (λ vs. option_map (λ ds. (vs, record { variables = map (λ v. v.1) vs; constraints = ds })) (read_conditions m (scope ++ vs) vars.1)) (typed m vars.0)) r.reads
      ∙ (ap (option_and_then (λ vs. option_map (λ ds. (vs, record { variables = map (λ v. v.1) vs; constraints = ds })) (read_conditions m (scope ++ vs) rest))) r.types
      ∙ ap (option_map (λ ds. (new, record { variables = map (λ v. v.1) new; constraints = ds }))) (conditions_read m (scope ++ new) c))

  pub text_is_read : (scope : Scope) (s : List ℕ) (q : Scope × Query) → IsQueryText m scope s q → query_of m scope s ≡ Some q
  unfolding query_of
  text_is_read scope s q h = ap (option_and_then (query_of_tokens m scope)) h.lexed ∙ query_read scope h.tokens q h.tree
