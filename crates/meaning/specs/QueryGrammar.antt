-- The grammar of queries: the token lists that are a query over a model and the variables in scope, with their trees.
use Rattle.std.specs.Prelude.{◌≡◌, ℕ, List, [], ◌∷◌, ◌++◌, map, length, true, false, Some, None, codes, ◌≤◌}
use Rattle.meaning.specs.Texts.{is_name, place_of}
use Rattle.meaning.specs.Models.{Model}
use Rattle.meaning.specs.Queries.{Path, Along, Against, Then, OneOf, Chain, Constraint, Walks, Attribute, Query}
use Rattle.meaning.specs.QueryTexts.{Token, word, quoted, colon, comma, open_bracket, close_bracket, open_paren, close_paren, dot, equal_sign, exclamation, bar, slash, plus, caret, tokens_of, Scope, attribute_number, kind_names, query_of}
use Rattle.meaning.specs.QueryFaults.{query_fault}
use Rattle.meaning.specs.BundlePlaces.{are_new}

-- ---- names

-- the word is a name, and stands at this place among the names
pub record IsNameOf (names : List (List ℕ)) (w : List ℕ) (n : ℕ) : Type 0 where
  pub is_one : is_name w ≡ true
  pub stands : place_of w names ≡ Some n

-- the word is a name, and is that of an attribute of the variable's type
pub record IsAttributeOf (m : Model) (scope : Scope) (v : ℕ) (w : List ℕ) (n : ℕ) : Type 0 where
  pub is_one : is_name w ≡ true
  pub stands : attribute_number m scope v w ≡ Some n

abbrev pub variable_names : Scope → List (List ℕ)
variable_names scope = map (λ v. v.0) scope

abbrev pub type_names : Model → List (List ℕ)
type_names m = map (λ d. d.name) m.types

-- ---- paths

mutual
  pub data IsPath (kinds : List (List ℕ)) : List Token → Path → Type 0 where
    of_sequence : {ts : List Token} {p : Path} → IsSequence kinds ts p → IsPath kinds ts p
    one_of : {ts us : List Token} {a b : Path} → IsPath kinds ts a → IsSequence kinds us b → IsPath kinds (ts ++ bar ∷ us) (OneOf a b)

  pub data IsSequence (kinds : List (List ℕ)) : List Token → Path → Type 0 where
    of_step : {ts : List Token} {p : Path} → IsStep kinds ts p → IsSequence kinds ts p
    after : {ts us : List Token} {a b : Path} → IsSequence kinds ts a → IsStep kinds us b → IsSequence kinds (ts ++ slash ∷ us) (Then a b)

  pub data IsStep (kinds : List (List ℕ)) : List Token → Path → Type 0 where
    of_atom : {ts : List Token} {p : Path} → IsAtom kinds ts p → IsStep kinds ts p
    chain : {ts : List Token} {a : Path} → IsStep kinds ts a → IsStep kinds (ts ++ plus ∷ []) (Chain a)

  pub data IsAtom (kinds : List (List ℕ)) : List Token → Path → Type 0 where
    forwards : {w : List ℕ} {k : ℕ} → IsNameOf kinds w k → IsAtom kinds (word w ∷ []) (Along k)
    backwards : {w : List ℕ} {k : ℕ} → IsNameOf kinds w k → IsAtom kinds (caret ∷ word w ∷ []) (Against k)
    grouped : {ts : List Token} {p : Path} → IsPath kinds ts p → IsAtom kinds (open_paren ∷ (ts ++ close_paren ∷ [])) p

-- ---- constraints over the variables in scope

pub data IsConstraint (m : Model) (scope : Scope) : List Token → Constraint → Type 0 where
  a_walk : {x y : List ℕ} {v u : ℕ} {ts : List Token} {p : Path}
      → IsNameOf (variable_names scope) x v → IsPath (kind_names m) ts p → IsNameOf (variable_names scope) y u
      → IsConstraint m scope (word x ∷ open_bracket ∷ (ts ++ close_bracket ∷ word y ∷ [])) (Walks v p u false)
  no_walk : {x y : List ℕ} {v u : ℕ} {ts : List Token} {p : Path}
      → IsNameOf (variable_names scope) x v → IsPath (kind_names m) ts p → IsNameOf (variable_names scope) y u
      → IsConstraint m scope (word (codes "not") ∷ word x ∷ open_bracket ∷ (ts ++ close_bracket ∷ word y ∷ [])) (Walks v p u true)
  equals : {x a s : List ℕ} {v n : ℕ}
      → IsNameOf (variable_names scope) x v → IsAttributeOf m scope v a n
      → IsConstraint m scope (word x ∷ dot ∷ word a ∷ equal_sign ∷ quoted s ∷ []) (Attribute v n s true)
  differs : {x a s : List ℕ} {v n : ℕ}
      → IsNameOf (variable_names scope) x v → IsAttributeOf m scope v a n
      → IsConstraint m scope (word x ∷ dot ∷ word a ∷ exclamation ∷ quoted s ∷ []) (Attribute v n s false)

-- one constraint or more, with commas between
pub data IsConstraints (m : Model) (scope : Scope) : List Token → List Constraint → Type 0 where
  of_constraint : {ts : List Token} {c : Constraint} → IsConstraint m scope ts c → IsConstraints m scope ts (c ∷ [])
  and_constraints : {ts us : List Token} {c : Constraint} {cs : List Constraint}
      → IsConstraint m scope ts c → IsConstraints m scope us cs → IsConstraints m scope (ts ++ comma ∷ us) (c ∷ cs)

-- none, or `with` and constraints
pub data IsConditions (m : Model) (scope : Scope) : List Token → List Constraint → Type 0 where
  unconditional : IsConditions m scope [] []
  with_constraints : {ts : List Token} {cs : List Constraint} → IsConstraints m scope ts cs → IsConditions m scope (word (codes "with") ∷ ts) cs

-- ---- new variables, each with the number of its type

pub data IsVariable (m : Model) : List Token → List ℕ × ℕ → Type 0 where
  of_type : {x t : List ℕ} {n : ℕ} → is_name x ≡ true → IsNameOf (type_names m) t n → IsVariable m (word x ∷ colon ∷ word t ∷ []) (x, n)

-- one variable or more, with commas between
pub data IsVariables (m : Model) : List Token → Scope → Type 0 where
  of_variable : {ts : List Token} {v : List ℕ × ℕ} → IsVariable m ts v → IsVariables m ts (v ∷ [])
  and_variables : {ts us : List Token} {v : List ℕ × ℕ} {vs : Scope}
      → IsVariable m ts v → IsVariables m us vs → IsVariables m (ts ++ comma ∷ us) (v ∷ vs)

-- none, or some
pub data IsNew (m : Model) : List Token → Scope → Type 0 where
  no_variables : IsNew m [] []
  some_variables : {ts : List Token} {vs : Scope} → IsVariables m ts vs → IsNew m ts vs

-- ---- queries

-- the tokens are a query: new variables, then the conditions on these and on those in scope
pub data IsQuery (m : Model) (scope : Scope) : List Token → Scope × Query → Type 0 where
  query : {ts us : List Token} {new : Scope} {cs : List Constraint}
      → IsNew m ts new → IsConditions m (scope ++ new) us cs
      → IsQuery m scope (ts ++ us) (new, record { variables = map (λ v. v.1) new; constraints = cs })

-- the text is a query: its tokens are one, no new variable has the name of another or of one in scope, and no limit is passed
pub record IsQueryText (m : Model) (scope : Scope) (s : List ℕ) (q : Scope × Query) : Type 0 where
  pub tokens : List Token
  pub lexed : tokens_of s ≡ Some tokens
  pub tree : IsQuery m scope tokens q
  pub fresh : are_new (variable_names scope) (variable_names q.0) ≡ true
  pub few_tokens : length tokens ≤ 256
  pub few_variables : length q.0 ≤ 3
  pub few_constraints : length q.1.constraints ≤ 16

-- ---- what a fault and the reader are to mean

-- a text has no fault exactly where it is a query
abbrev pub FaultlessIsQuery : Type 0
FaultlessIsQuery = (m : Model) (scope : Scope) (s : List ℕ)
    → (query_fault m scope s ≡ None → (q : Scope × Query) × IsQueryText m scope s q)
    × ((q : Scope × Query) → IsQueryText m scope s q → query_fault m scope s ≡ None)

-- what is read of a text is the query that it is, and where it has no fault nothing else is read
abbrev pub ReadsQueries : Type 0
ReadsQueries = (m : Model) (scope : Scope) (s : List ℕ) (q : Scope × Query)
    → (IsQueryText m scope s q → query_of m scope s ≡ Some q)
    × (query_fault m scope s ≡ None → query_of m scope s ≡ Some q → IsQueryText m scope s q)

-- tokens are one query at most
abbrev pub OneQuery : Type 0
OneQuery = (m : Model) (scope : Scope) (ts : List Token) (q r : Scope × Query) → IsQuery m scope ts q → IsQuery m scope ts r → q ≡ r
