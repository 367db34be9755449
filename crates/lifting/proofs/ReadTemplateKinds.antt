-- What nodes of each kind may have where no rule is broken: branches at strategies, the mark of undeveloped nodes at goals and strategies, checks at solutions.
use Rattle.std.proofs.Common.{◌≡◌, ℕ, List, map, Bool, true, false, not, ◌&&◌, ◌||◌, None, refl, sym, ap, ◌∙◌, ◌⊎◌, inl, inr}
use Rattle.std.specs.Prelude.{codes, option_map, option_and_then, unwrap_or, bytes_eq, if◌then◌else◌, is_none, ⊤}
use Rattle.meaning.specs.Texts.{place_of}
use Rattle.meaning.specs.Documents.{Document, as_text, member_of, text_at, list_at, truth_at, texts_in}
use Rattle.meaning.specs.Models.{Model}
use Rattle.meaning.specs.Cases.{NodeKind, Goal, Strategy, Solution, argues, is_solution}
use Rattle.meaning.specs.CaseReading.{is_strategy}
use Rattle.meaning.specs.QueryTexts.{Scope, query_of}
use Rattle.meaning.specs.Templates.{Plain, Uses}
use Rattle.meaning.specs.TemplateTexts.{node_kind, variable_of, kind_of, query_at, check_of}
use Rattle.meaning.specs.TemplateRules.{NodeContext, KindWord, a_goal, a_strategy, a_solution, a_context, an_assumption, a_justification, a_use, no_kind, kind_named, kind_in, is_goal_or_strategy, only_if, has_what_it_needs, has_nothing_else, later_nodes_have_form, has_no_support, undeveloped_is_right, each_has_variables, has_its_members}
use Rattle.meaning.specs.TemplateRules as rules
use Rattle.meaning.proofs.EmptyLists.{both_true}
use Rattle.meaning.proofs.AbsentMembers.{absent}
use Rattle.meaning.proofs.EqualityTests.{not_both, equal_texts}
use Rattle.lifting.proofs.ReadTemplateOrder.{either_true}

-- ---- words of kinds

abbrev IsWordOf : KindWord → List ℕ → Type 0
IsWordOf a_goal s = s ≡ codes "goal"
IsWordOf a_strategy s = s ≡ codes "strategy"
IsWordOf _ s = ⊤

word_is : (s : List ℕ) → IsWordOf (kind_named s) s
word_is s =
    go (bytes_eq s (codes "goal")) (bytes_eq s (codes "strategy")) (bytes_eq s (codes "solution")) (bytes_eq s (codes "context")) (bytes_eq s (codes "assumption"))
    (bytes_eq s (codes "justification")) (bytes_eq s (codes "use")) refl refl
  where
    go : (g t o c a j u : Bool) → bytes_eq s (codes "goal") ≡ g → bytes_eq s (codes "strategy") ≡ t
        → IsWordOf (if g then a_goal else (if t then a_strategy else (if o then a_solution else (if c then a_context else (if a then an_assumption else (if j then a_justification else (if u then a_use else no_kind))))))) s
    go true t o c a j u e f = equal_texts s (codes "goal") e
    go false true o c a j u e f = equal_texts s (codes "strategy") f
    go false false true c a j u e f = tt
    go false false false true a j u e f = tt
    go false false false false true j u e f = tt
    go false false false false false true u e f = tt
    go false false false false false false true e f = tt
    go false false false false false false false e f = tt

strategy_word : (k : KindWord) (s : List ℕ) → IsWordOf k s → rules.is_strategy k ≡ true → s ≡ codes "strategy"
strategy_word a_strategy s h e = h
strategy_word _ s h e = elim (not_both false e refl) [ ]

arguing_word : (k : KindWord) (s : List ℕ) → IsWordOf k s → is_goal_or_strategy k ≡ true → (s ≡ codes "goal") ⊎ (s ≡ codes "strategy")
arguing_word a_goal s h e = inl h
arguing_word a_strategy s h e = inr h
arguing_word _ s h e = elim (not_both false e refl) [ ]

abbrev IsSolutionWord : NodeKind → List ℕ → Type 0
IsSolutionWord Solution s = s ≡ codes "solution"
IsSolutionWord _ s = ⊤

solution_is : (s : List ℕ) → IsSolutionWord (node_kind s) s
solution_is s =
    go (bytes_eq s (codes "strategy")) (bytes_eq s (codes "solution")) (bytes_eq s (codes "context")) (bytes_eq s (codes "assumption")) (bytes_eq s (codes "justification")) refl
  where
    go : (t o c a j : Bool) → bytes_eq s (codes "solution") ≡ o
        → IsSolutionWord (if t then Strategy else (if o then Solution else (if c then NodeKind.Context else (if a then NodeKind.Assumption else (if j then NodeKind.Justification else Goal))))) s
    go true o c a j e = tt
    go false true c a j e = equal_texts s (codes "solution") e
    go false false true a j e = tt
    go false false false true j e = tt
    go false false false false true e = tt
    go false false false false false e = tt

solution_word : (k : NodeKind) (s : List ℕ) → IsSolutionWord k s → is_solution k ≡ true → s ≡ codes "solution"
solution_word Solution s h e = h
solution_word _ s h e = elim (not_both false e refl) [ ]

-- ---- nodes that are no uses

-- a node that is read as one of a kind has the kind of its word
pub plain_named : (names : List (List ℕ)) (scope : Scope) (d : Document) (kind : NodeKind) → kind_of names scope d ≡ Plain kind → node_kind (text_at (codes "kind") d) ≡ kind
plain_named names scope d kind e = go (bytes_eq (text_at (codes "kind") d) (codes "use")) e
  where
    no_plain : (u : ℕ) (us : List ℕ) → Uses u us ≡ Plain kind → ⊥
    no_plain u us e = cc

    same : (k : NodeKind) → Plain k ≡ Plain kind → k ≡ kind
    same k e = cc

    go : (b : Bool) → (if b then Uses (unwrap_or (place_of (text_at (codes "template") d) names) 0) (map (variable_of scope) (texts_in (list_at (codes "args") d))) else Plain (node_kind (text_at (codes "kind") d))) ≡ Plain kind
        → node_kind (text_at (codes "kind") d) ≡ kind
    go true e = elim (no_plain _ _ e) [ ]
    go false e = same (node_kind (text_at (codes "kind") d)) e

or_false : (a b : Bool) → a ≡ false → (a || b) ≡ true → b ≡ true
or_false true b e f = elim (not_both true refl e) [ ]
or_false false b e f = f

or_front : (a b : Bool) → a ≡ true → (a || b) ≡ true
or_front true b e = refl
or_front false b e = elim (not_both false e refl) [ ]

or_back : (a b : Bool) → b ≡ true → (a || b) ≡ true
or_back true b e = refl
or_back false b e = e

module _ (c : NodeContext) (j : ℕ) (d : Document) (members : has_its_members c (j, d) ≡ true) where
  nothing_else : has_nothing_else (j, d) ≡ true
  nothing_else = (both_true _ _ (both_true _ _ (both_true _ (each_has_variables c (j, d)) members).0).0).1

  undeveloped_right : undeveloped_is_right c (j, d) ≡ true
  undeveloped_right = (both_true _ _ (both_true _ (each_has_variables c (j, d)) members).0).1

  only_each_and_check : (only_if (rules.is_strategy (kind_in d)) (codes "each") d && only_if (rules.is_solution (kind_in d)) (codes "check") d) ≡ true
  only_each_and_check = (both_true _ _ (both_true _ _ (both_true _ _ (both_true _ _ nothing_else).0).0).0).0

  each_at_strategies : only_if (rules.is_strategy (kind_in d)) (codes "each") d ≡ true
  each_at_strategies = (both_true _ _ only_each_and_check).0

  check_at_solutions : only_if (rules.is_solution (kind_in d)) (codes "check") d ≡ true
  check_at_solutions = (both_true _ _ only_each_and_check).1

  -- branches stand at strategies alone
  pub branches_at_strategies : (m : Model) (names : List (List ℕ)) (scope other : Scope) (kind : NodeKind) → kind_of names scope d ≡ Plain kind
      → (is_strategy kind || is_none (option_map (λ q. q.1) (query_at m other (codes "each") d))) ≡ true
  branches_at_strategies m names scope other kind e = go (rules.is_strategy (kind_in d)) refl
    where
      go : (b : Bool) → rules.is_strategy (kind_in d) ≡ b → (is_strategy kind || is_none (option_map (λ q. q.1) (query_at m other (codes "each") d))) ≡ true
      go true f =
          let word : text_at (codes "kind") d ≡ codes "strategy" = strategy_word (kind_in d) (text_at (codes "kind") d) (word_is (text_at (codes "kind") d)) f in
          or_front (is_strategy kind) _ (ap is_strategy (sym (plain_named names scope d kind e)) ∙ ap (λ s. is_strategy (node_kind s)) word)
      go false f =
          or_back (is_strategy kind) _
          (ap (λ o. is_none (option_map (λ q. q.1) (option_and_then (query_of m other) (option_and_then as_text o))))
          (absent (codes "each") d (or_false (rules.is_strategy (kind_in d)) _ f each_at_strategies)))

  -- the mark of undeveloped nodes stands at goals and strategies alone
  pub marks_at_arguments : (names : List (List ℕ)) (scope : Scope) (kind : NodeKind) → kind_of names scope d ≡ Plain kind
      → (argues kind || not (truth_at (codes "undeveloped") d)) ≡ true
  marks_at_arguments names scope kind e = go (truth_at (codes "undeveloped") d) refl
    where
      argues_by : (s : List ℕ) → text_at (codes "kind") d ≡ s → argues (node_kind s) ≡ true → argues kind ≡ true
      argues_by s word f = ap argues (sym (plain_named names scope d kind e)) ∙ ap (λ s. argues (node_kind s)) word ∙ f

      by_word : (text_at (codes "kind") d ≡ codes "goal") ⊎ (text_at (codes "kind") d ≡ codes "strategy") → argues kind ≡ true
      by_word (inl word) = argues_by (codes "goal") word refl
      by_word (inr word) = argues_by (codes "strategy") word refl

      go : (b : Bool) → truth_at (codes "undeveloped") d ≡ b → (argues kind || not b) ≡ true
      go true f =
          let right : (is_goal_or_strategy (kind_in d) && (not (later_nodes_have_form c j) || has_no_support c j)) ≡ true = either_true (truth_at (codes "undeveloped") d) _ f undeveloped_right in
          or_front (argues kind) _
          (by_word (arguing_word (kind_in d) (text_at (codes "kind") d) (word_is (text_at (codes "kind") d)) (both_true (is_goal_or_strategy (kind_in d)) _ right).0))
      go false f = or_back (argues kind) true refl

  module _ (none : not (rules.is_solution (kind_in d)) ≡ true) where
    no_solution_word : rules.is_solution (kind_in d) ≡ false
    no_solution_word = go (rules.is_solution (kind_in d)) none
      where
        go : (b : Bool) → not b ≡ true → b ≡ false
        go true e = elim (not_both false e refl) [ ]
        go false e = refl

    -- a node that is no solution has no check
    pub unchecked_in : (m : Model) (scope : Scope) → option_and_then (check_of m scope) (member_of (codes "check") d) ≡ None
    unchecked_in m scope = ap (option_and_then (check_of m scope)) (absent (codes "check") d (or_false (rules.is_solution (kind_in d)) _ no_solution_word check_at_solutions))

    -- nor is it read as a solution
    pub no_solution_in : (names : List (List ℕ)) (scope : Scope) (kind : NodeKind) → kind_of names scope d ≡ Plain kind → is_solution kind ≡ false
    no_solution_in names scope kind e = ap is_solution (sym (plain_named names scope d kind e)) ∙ go (is_solution (node_kind (text_at (codes "kind") d))) refl
      where
        go : (b : Bool) → is_solution (node_kind (text_at (codes "kind") d)) ≡ b → b ≡ false
        go true f =
            let word : text_at (codes "kind") d ≡ codes "solution" = solution_word (node_kind (text_at (codes "kind") d)) (text_at (codes "kind") d) (solution_is (text_at (codes "kind") d)) f in
            elim (not_both (rules.is_solution (kind_in d)) (ap (λ s. rules.is_solution (kind_named s)) word) no_solution_word) [ ]
        go false f = refl
