-- A text has no fault of queries exactly where it is a query, and then the reader finds the tree of the grammar.
use Rattle.std.proofs.Common.{◌≡◌, ◌∙◌, sym, ap, subst, refl, ℕ, ◌+◌, ◌≤◌, List, [], ◌∷◌, ◌++◌, length, map, Bool, true, false, ◌||◌, Some, None, arith}
use Rattle.std.specs.Prelude.{codes, if◌then◌else◌, is_some, unwrap_or}
use Rattle.std.proofs.lemmas.Bool.{true≢false}
use Rattle.std.proofs.lemmas.List.{append-nil}
use Rattle.std.proofs.lemmas.Slice.Eq.{bytes_eq-Decides}
use Rattle.meaning.specs.Texts.{is_name}
use Rattle.meaning.specs.Models.{Model}
use Rattle.meaning.specs.Queries.{Constraint, Query}
use Rattle.meaning.specs.QueryTexts.{Token, word, comma, Scope, query_of}
use Rattle.meaning.specs.QueryFaults.{a_query, the_colon, after_type, a_constraint, is_with, query_fault}
use Rattle.meaning.specs.QueryGrammar.{IsConstraints, IsConditions, unconditional, with_constraints, IsNew, no_variables, some_variables, IsQuery, query, IsQueryText, variable_names, FaultlessIsQuery, ReadsQueries, OneQuery}
use Rattle.meaning.specs.BundlePlaces.{are_new}
use Rattle.meaning.specs.BundleRules.{QueryReads}
use Rattle.meaning.proofs.QueryPasses.{Fine, Passes, at_start, faultless_passes, passing_faultless}
use Rattle.meaning.proofs.QueryPhrases.{query_read, text_is_read}
use Rattle.meaning.proofs.PathPasses.{fine}
use Rattle.meaning.proofs.ConstraintPasses.{reading, constraints_pass, constraints_found, Constrains}
use Rattle.meaning.proofs.VariablePasses.{AllNew, fresh_each, each_fresh, variables_pass, ends_variables, Variables, first_found}

module _ (m : Model) where
  -- ---- the tokens of a query go on

  -- conditions at the start of the text, or behind variables
  conditions_pass : {ts : List Token} {cs : List Constraint} (first : Bool) (scope : Scope) (new : ℕ) → IsConditions m scope ts cs → length cs ≤ 16
      → Passes m (reading scope new 0 (if first then a_query else after_type)) ts
  conditions_pass true scope new unconditional few = refl
  conditions_pass false scope new unconditional few = refl
  conditions_pass true scope new (with_constraints {ts = ts} h) few =
      (fine m (reading scope new 0 a_query) (word (codes "with")) ts refl refl refl refl, constraints_pass m scope new h 0 (omega arith))
  conditions_pass false scope new (with_constraints {ts = ts} h) few =
      (fine m (reading scope new 0 after_type) (word (codes "with")) ts refl refl refl refl, constraints_pass m scope new h 0 (omega arith))

  query_passes : (scope : Scope) (ts us : List Token) (new : Scope) (cs : List Constraint) → IsNew m ts new → IsConditions m (scope ++ new) us cs
      → AllNew scope new → length new ≤ 3 → length cs ≤ 16 → Passes m (at_start scope) (ts ++ us)
  query_passes scope ts us new cs no_variables c fresh few few_constraints =
      subst (λ s. Passes m (reading s 0 0 a_query) us) (append-nil scope) (conditions_pass true (scope ++ []) 0 c few_constraints)
  query_passes scope ts us new cs (some_variables h) c fresh few few_constraints =
      variables_pass m h true scope 0 us (omega arith) fresh (conditions_pass false (scope ++ new) (0 + length new) c few_constraints)

  tree_passes : (scope : Scope) (ts : List Token) (q : Scope × Query) → IsQuery m scope ts q → are_new (variable_names scope) (variable_names q.0) ≡ true
      → length q.0 ≤ 3 → length q.1.constraints ≤ 16 → Passes m (at_start scope) ts
  tree_passes scope ts q (query {ts = us} {us = rest} {new = new} {cs = cs} h c) fresh few few_constraints =
      query_passes scope us rest new cs h c (fresh_each scope new fresh) few few_constraints

  -- ---- tokens that go on are a query

  record Reads (scope : Scope) (ts : List Token) : Type 0 where
    new : Scope
    list : List Constraint
    tree : IsQuery m scope ts (new, record { variables = map (λ v. v.1) new; constraints = list })
    fresh : AllNew scope new
    few : length new ≤ 3
    few_constraints : length list ≤ 16

  with_word : (w : List ℕ) → is_with w ≡ true → codes "with" ≡ w
  with_word w e = sym ((bytes_eq-Decides w (codes "with")).0 e)

  -- constraints alone
  only_constraints : (scope : Scope) (w : List ℕ) (ts : List Token) → is_with w ≡ true → Constrains m scope 0 0 ts → Reads scope (word w ∷ ts)
  only_constraints scope w ts is c = record {
    new = [];
    list = c.list;
    tree = subst (λ v. IsQuery m scope (word v ∷ ts) ([], record { variables = []; constraints = c.list })) (with_word w is)
        (query no_variables (with_constraints (subst (λ s. IsConstraints m s ts c.list) (sym (append-nil scope)) c.phrase)));
    fresh = tt;
    few = omega arith;
    few_constraints = let f = c.few in omega arith;
  }

  -- variables, and what stands behind them
  with_conditions : (scope : Scope) (ts : List Token) (v : Variables m scope 0 ts) (us : List Token) → v.left ≡ us
      → (cs : List Constraint) → IsConditions m (scope ++ v.list) us cs → length cs ≤ 16 → Reads scope ts
  with_conditions scope ts v us next cs c few = record {
    new = v.list;
    list = cs;
    tree = subst (λ vs. IsQuery m scope vs (v.list, record { variables = map (λ x. x.1) v.list; constraints = cs })) (sym (v.front ∙ ap (λ z. v.taken ++ z) next))
        (query (some_variables v.phrase) c);
    fresh = v.all_new;
    few = let f = v.few in omega arith;
    few_constraints = few;
  }

  behind_variables : (scope : Scope) (ts : List Token) (v : Variables m scope 0 ts) (us : List Token) → v.left ≡ us → ends_variables us ≡ true
      → Passes m (reading (scope ++ v.list) (0 + length v.list) 0 after_type) us → Reads scope ts
  behind_variables scope ts v [] next ends goes = with_conditions scope ts v [] next [] unconditional (omega arith)
  behind_variables scope ts v (word w ∷ us) next ends goes =
      let c = constraints_found m (scope ++ v.list) (0 + length v.list) (length us) 0 us (omega arith) goes.1 in
      with_conditions scope ts v (word (codes "with") ∷ us) (next ∙ ap (λ x. word x ∷ us) (sym (with_word w goes.0.goes))) c.list (with_constraints c.phrase)
      (let f = c.few in omega arith)
  behind_variables scope ts v (comma ∷ us) next ends goes = absurd (true≢false (sym ends))
  behind_variables scope ts v (t ∷ us) next ends goes = absurd (true≢false (sym goes.0.goes))

  first_word : (scope : Scope) (w : List ℕ) (ts : List Token) (b : Bool) → is_with w ≡ b → b || is_name w ≡ true
      → Fine m (at_start scope) (word w) ts → Passes m (reading scope 0 0 (if b then a_constraint else the_colon w)) ts → Reads scope (word w ∷ ts)
  first_word scope w ts true is goes f rest = only_constraints scope w ts is (constraints_found m scope 0 (length ts) 0 ts (omega arith) rest)
  first_word scope w ts false is goes f rest =
      let v = first_found m scope w ts goes f rest in behind_variables scope (word w ∷ ts) v v.left refl v.ends v.goes

  tokens_read : (scope : Scope) (ts : List Token) → Passes m (at_start scope) ts → Reads scope ts
  tokens_read scope [] goes = record {
    new = [];
    list = [];
    tree = query no_variables unconditional;
    fresh = tt;
    few = omega arith;
    few_constraints = omega arith;
  }
  tokens_read scope (word w ∷ ts) goes = first_word scope w ts (is_with w) refl goes.0.goes goes.0 goes.1
  tokens_read scope (t ∷ ts) goes = absurd (true≢false (sym goes.0.goes))

-- ---- the laws

-- a text without a fault is a query
pub text_is_query : (m : Model) (scope : Scope) (s : List ℕ) → query_fault m scope s ≡ None → (q : Scope × Query) × IsQueryText m scope s q
text_is_query m scope s e =
    let p = faultless_passes m scope s e in
    let r = tokens_read m scope p.0 p.2 in (
      (r.new, record { variables = map (λ v. v.1) r.new; constraints = r.list }),
      record {
        tokens = p.0;
        lexed = p.1;
        tree = r.tree;
        fresh = each_fresh scope r.new r.fresh;
        few_tokens = p.3;
        few_variables = r.few;
        few_constraints = r.few_constraints;
      },
    )

-- a query has no fault
pub query_is_faultless : (m : Model) (scope : Scope) (s : List ℕ) (q : Scope × Query) → IsQueryText m scope s q → query_fault m scope s ≡ None
query_is_faultless m scope s q h =
    passing_faultless m scope s h.tokens h.lexed (tree_passes m scope h.tokens q h.tree h.fresh h.few_variables h.few_constraints) h.few_tokens

pub faultless_is_query : FaultlessIsQuery
faultless_is_query m scope s = (text_is_query m scope s, query_is_faultless m scope s)

pub reads_queries : ReadsQueries
reads_queries m scope s q = (text_is_read m scope s q, only_query)
  where
    only_query : query_fault m scope s ≡ None → query_of m scope s ≡ Some q → IsQueryText m scope s q
    only_query e is =
        let r = text_is_query m scope s e in
        let same : q ≡ r.0 = ap (λ o. unwrap_or o q) (sym is ∙ text_is_read m scope s r.0 r.1) in subst (IsQueryText m scope s) (sym same) r.1

pub query_reads : QueryReads
query_reads m scope s e = let r = text_is_query m scope s e in ap is_some (text_is_read m scope s r.0 r.1)

pub one_query : OneQuery
one_query m scope ts q r h g = ap (λ o. unwrap_or o q) (sym (query_read m scope ts q h) ∙ query_read m scope ts r g)
