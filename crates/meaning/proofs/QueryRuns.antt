-- The tokens of a query go on from the first to the last, whatever its names are.
use Rattle.std.proofs.Common.{◌≡◌, sym, ap, subst, refl, ℕ, zero, suc, ◌+◌, List, [], ◌∷◌, ◌++◌, Bool, true, false, append_assoc, arith}
use Rattle.std.specs.Prelude.{codes, bytes_eq, if◌then◌else◌}
use Rattle.std.proofs.lemmas.Bool.{true≢false, or_right}
use Rattle.std.proofs.lemmas.List.{append-nil}
use Rattle.meaning.specs.Texts.{is_name}
use Rattle.meaning.specs.Models.{Model}
use Rattle.meaning.specs.Queries.{Path, Constraint, Query}
use Rattle.meaning.specs.QueryTexts.{Token, word, quoted, colon, comma, open_bracket, close_bracket, open_paren, close_paren, dot, equal_sign, exclamation, bar, slash, plus, caret, Scope}
use Rattle.meaning.specs.QueryFaults.{Next, a_query, a_new_variable, the_colon, the_type, after_type, a_constraint, a_negated_walk, after_variable, an_attribute, a_comparison, a_quoted_text, a_step, a_step_back, after_step, the_other_end, after_constraint, Progress, goes_on, may_end, is_with, progress_after, number_of}
use Rattle.meaning.specs.QueryGrammar.{IsPath, of_sequence, one_of, IsSequence, of_step, after, IsStep, of_atom, chain, IsAtom, forwards, backwards, grouped, IsConstraint, a_walk, no_walk, equals, differs, IsConstraints, of_constraint, and_constraints, IsConditions, unconditional, with_constraints, of_type, IsVariables, of_variable, and_variables, no_variables, some_variables, IsQuery, query}
use Rattle.meaning.proofs.ConstraintPasses.{not_not, not_with}

-- ---- what comes next without its names and numbers

abbrev pub shape : Next → Next
shape (the_colon x) = the_colon []
shape (the_type x) = the_type []
shape (after_variable v negated) = after_variable 0 negated
shape (an_attribute v) = an_attribute 0
shape n = n

-- what may come after this token
abbrev pub step : Next → Token → Next
step a_query (word w) = if is_with w then a_constraint else the_colon []
step a_new_variable (word w) = the_colon []
step (the_colon x) colon = the_type []
step (the_type x) (word t) = after_type
step after_type comma = a_new_variable
step after_type (word w) = a_constraint
step a_constraint (word w) = if bytes_eq w (codes "not") then a_negated_walk else after_variable 0 false
step a_negated_walk (word w) = after_variable 0 true
step (after_variable v negated) open_bracket = a_step 0
step (after_variable v negated) dot = an_attribute 0
step (an_attribute v) (word a) = a_comparison
step a_comparison equal_sign = a_quoted_text
step a_comparison exclamation = a_quoted_text
step a_quoted_text (quoted s) = after_constraint
step (a_step k) (word w) = after_step k
step (a_step k) caret = a_step_back k
step (a_step k) open_paren = a_step (k + 1)
step (a_step_back k) (word w) = after_step k
step (after_step k) bar = a_step k
step (after_step k) slash = a_step k
step (after_step k) close_bracket = the_other_end
step (after_step (suc k)) close_paren = after_step k
step the_other_end (word y) = after_constraint
step after_constraint comma = a_constraint
step n t = n

-- the tokens go on from here to an end
abbrev pub Runs : Next → List Token → Type 0
Runs n [] = may_end n ≡ true
Runs n (t ∷ ts) = (goes_on n t ≡ true) × Runs (step n t) ts

-- ---- a query's tokens do

pub one_deeper : (k : ℕ) → k + 1 ≡ suc k
one_deeper k = omega arith

between : (k : ℕ) (ts us rest : List Token) (s : Token) → Runs (a_step k) (ts ++ s ∷ (us ++ rest)) → Runs (a_step k) ((ts ++ s ∷ us) ++ rest)
between k ts us rest s h = subst (Runs (a_step k)) (sym (append_assoc ts (s ∷ us) rest)) h

in_parentheses : (k : ℕ) (ts rest : List Token) → Runs (a_step (suc k)) (ts ++ close_paren ∷ rest) → Runs (a_step k) ((open_paren ∷ (ts ++ close_paren ∷ [])) ++ rest)
in_parentheses k ts rest h = (
  refl,
  subst (λ j. Runs (a_step j) ((ts ++ close_paren ∷ []) ++ rest)) (sym (one_deeper k)) (subst (Runs (a_step (suc k))) (sym (append_assoc ts (close_paren ∷ []) rest)) h),
)

after_bar : (k : ℕ) (ts : List Token) → Runs (a_step k) ts → Runs (after_step k) (bar ∷ ts)
after_bar zero ts r = (refl, r)
after_bar (suc k) ts r = (refl, r)

after_slash : (k : ℕ) (ts : List Token) → Runs (a_step k) ts → Runs (after_step k) (slash ∷ ts)
after_slash zero ts r = (refl, r)
after_slash (suc k) ts r = (refl, r)

after_plus : (k : ℕ) (ts : List Token) → Runs (after_step k) ts → Runs (after_step k) (plus ∷ ts)
after_plus zero ts r = (refl, r)
after_plus (suc k) ts r = (refl, r)

module _ (kinds : List (List ℕ)) where
  mutual
    path_runs : {ts : List Token} {a : Path} → IsPath kinds ts a → (k : ℕ) (rest : List Token) → Runs (after_step k) rest → Runs (a_step k) (ts ++ rest)
    path_runs (of_sequence h) k rest g = sequence_runs h k rest g
    path_runs (one_of {ts = ts} {us = us} h i) k rest g =
        between k ts us rest bar (path_runs h k (bar ∷ (us ++ rest)) (after_bar k (us ++ rest) (sequence_runs i k rest g)))

    sequence_runs : {ts : List Token} {a : Path} → IsSequence kinds ts a → (k : ℕ) (rest : List Token) → Runs (after_step k) rest → Runs (a_step k) (ts ++ rest)
    sequence_runs (of_step h) k rest g = step_runs h k rest g
    sequence_runs (after {ts = ts} {us = us} h i) k rest g =
        between k ts us rest slash (sequence_runs h k (slash ∷ (us ++ rest)) (after_slash k (us ++ rest) (step_runs i k rest g)))

    step_runs : {ts : List Token} {a : Path} → IsStep kinds ts a → (k : ℕ) (rest : List Token) → Runs (after_step k) rest → Runs (a_step k) (ts ++ rest)
    step_runs (of_atom h) k rest g = atom_runs h k rest g
    step_runs (chain {ts = ts} h) k rest g = between k ts [] rest plus (step_runs h k (plus ∷ rest) (after_plus k rest g))

    atom_runs : {ts : List Token} {a : Path} → IsAtom kinds ts a → (k : ℕ) (rest : List Token) → Runs (after_step k) rest → Runs (a_step k) (ts ++ rest)
    atom_runs (forwards h) k rest g = (h.is_one, g)
    atom_runs (backwards h) k rest g = (refl, (h.is_one, g))
    atom_runs (grouped {ts = ts} h) k rest g = in_parentheses k ts rest (path_runs h (suc k) (close_paren ∷ rest) (refl, g))

-- a variable of a constraint
constraint_first : (x : List ℕ) (ts : List Token) → is_name x ≡ true → Runs (after_variable 0 false) ts → Runs a_constraint (word x ∷ ts)
constraint_first x ts is r = (
  or_right (bytes_eq x (codes "not")) (is_name x) is,
  subst (λ b. Runs (if b then a_negated_walk else after_variable 0 false) ts) (sym (not_not x is)) r,
)

walk_runs : (kinds : List (List ℕ)) (negated : Bool) (ts : List Token) (p : Path) (y : List ℕ) (rest : List Token)
    → IsPath kinds ts p → is_name y ≡ true → Runs after_constraint rest
    → Runs (after_variable 0 negated) (open_bracket ∷ ((ts ++ close_bracket ∷ word y ∷ []) ++ rest))
walk_runs kinds negated ts p y rest phrase is g = (
  refl,
  subst (Runs (a_step 0)) (sym (append_assoc ts (close_bracket ∷ word y ∷ []) rest)) (path_runs kinds phrase 0 (close_bracket ∷ word y ∷ rest) (refl, (is, g))),
)

module _ (m : Model) where
  constraint_runs : {scope : Scope} {ts : List Token} {c : Constraint} → IsConstraint m scope ts c → (rest : List Token)
      → Runs after_constraint rest → Runs a_constraint (ts ++ rest)
  constraint_runs (a_walk {x = x} {y = y} {ts = ts} {p = p} from phrase to) rest g =
      constraint_first x (open_bracket ∷ ((ts ++ close_bracket ∷ word y ∷ []) ++ rest)) from.is_one (walk_runs _ false ts p y rest phrase to.is_one g)
  constraint_runs (no_walk {x = x} {y = y} {ts = ts} {p = p} from phrase to) rest g =
      (refl, (from.is_one, walk_runs _ true ts p y rest phrase to.is_one g))
  constraint_runs (equals {x = x} {a = a} {s = s} variable attribute) rest g =
      constraint_first x (dot ∷ word a ∷ equal_sign ∷ quoted s ∷ rest) variable.is_one (refl, (attribute.is_one, (refl, (refl, g))))
  constraint_runs (differs {x = x} {a = a} {s = s} variable attribute) rest g =
      constraint_first x (dot ∷ word a ∷ exclamation ∷ quoted s ∷ rest) variable.is_one (refl, (attribute.is_one, (refl, (refl, g))))

  constraints_run : {scope : Scope} {ts : List Token} {cs : List Constraint} → IsConstraints m scope ts cs → Runs a_constraint ts
  constraints_run (of_constraint {ts = ts} h) = subst (Runs a_constraint) (append-nil ts) (constraint_runs h [] refl)
  constraints_run (and_constraints {us = us} h g) = constraint_runs h (comma ∷ us) (refl, constraints_run g)

  at_first : {scope : Scope} {ts : List Token} {cs : List Constraint} → IsConditions m scope ts cs → Runs a_query ts
  at_first unconditional = refl
  at_first (with_constraints h) = (refl, constraints_run h)

  behind_variables : {scope : Scope} {ts : List Token} {cs : List Constraint} → IsConditions m scope ts cs → Runs after_type ts
  behind_variables unconditional = refl
  behind_variables (with_constraints h) = (refl, constraints_run h)

  -- what asks for a new variable: the start of the text, or a comma
  abbrev start : Bool → Next
  start first = if first then a_query else a_new_variable

  name_first : (first : Bool) (x : List ℕ) (ts : List Token) → is_name x ≡ true → Runs (the_colon []) ts → Runs (start first) (word x ∷ ts)
  name_first true x ts is r =
      (or_right (is_with x) (is_name x) is, subst (λ b. Runs (if b then a_constraint else the_colon []) ts) (sym (not_with x is)) r)
  name_first false x ts is r = (is, r)

  variables_run : {ts : List Token} {vs : Scope} → IsVariables m ts vs → (first : Bool) (rest : List Token) → Runs after_type rest → Runs (start first) (ts ++ rest)
  variables_run (of_variable (of_type {x = x} {t = t} is h)) first rest g = name_first first x (colon ∷ word t ∷ rest) is (refl, (h.is_one, g))
  variables_run (and_variables {us = us} (of_type {x = x} {t = t} is h) i) first rest g =
      name_first first x (colon ∷ word t ∷ comma ∷ (us ++ rest)) is (refl, (h.is_one, (refl, variables_run i false rest g)))

  pub query_runs : {scope : Scope} {ts : List Token} {q : Scope × Query} → IsQuery m scope ts q → Runs a_query ts
  query_runs (query no_variables c) = at_first c
  query_runs (query {us = us} (some_variables h) c) = variables_run h true us (behind_variables c)

-- ---- the scan goes the same way

pub goes_by_shape : (n : Next) (t : Token) → goes_on (shape n) t ≡ goes_on n t
goes_by_shape (the_colon x) colon = refl
goes_by_shape (the_colon x) t = refl
goes_by_shape (the_type x) (word w) = refl
goes_by_shape (the_type x) t = refl
goes_by_shape (after_variable v negated) open_bracket = refl
goes_by_shape (after_variable v negated) dot = refl
goes_by_shape (after_variable v negated) t = refl
goes_by_shape (an_attribute v) (word w) = refl
goes_by_shape (an_attribute v) t = refl
goes_by_shape n t = refl

pub ends_by_shape : (n : Next) → may_end (shape n) ≡ may_end n
ends_by_shape (the_colon x) = refl
ends_by_shape (the_type x) = refl
ends_by_shape (after_variable v negated) = refl
ends_by_shape (an_attribute v) = refl
ends_by_shape n = refl

pub after_by_shape : (m : Model) (p : Progress) (n : Next) (t : Token) → p.next ≡ n → goes_on n t ≡ true → shape (progress_after m p n t).next ≡ step (shape n) t
after_by_shape m p a_query (word w) is e = go (is_with w)
  where
    go : (b : Bool) → shape (if b then a_constraint else the_colon w) ≡ (if b then a_constraint else the_colon [])
    go true = refl
    go false = refl
after_by_shape m p a_query t is e = absurd (true≢false (sym e))
after_by_shape m p a_new_variable (word w) is e = refl
after_by_shape m p a_new_variable t is e = absurd (true≢false (sym e))
after_by_shape m p (the_colon x) colon is e = refl
after_by_shape m p (the_colon x) t is e = absurd (true≢false (sym e))
after_by_shape m p (the_type x) (word w) is e = refl
after_by_shape m p (the_type x) t is e = absurd (true≢false (sym e))
after_by_shape m p after_type comma is e = refl
after_by_shape m p after_type (word w) is e = refl
after_by_shape m p after_type t is e = absurd (true≢false (sym e))
after_by_shape m p a_constraint (word w) is e = go (bytes_eq w (codes "not"))
  where
    go : (b : Bool) → shape (if b then a_negated_walk else after_variable (number_of p.scope w) false) ≡ (if b then a_negated_walk else after_variable 0 false)
    go true = refl
    go false = refl
after_by_shape m p a_constraint t is e = absurd (true≢false (sym e))
after_by_shape m p a_negated_walk (word w) is e = refl
after_by_shape m p a_negated_walk t is e = absurd (true≢false (sym e))
after_by_shape m p (after_variable v negated) open_bracket is e = refl
after_by_shape m p (after_variable v negated) dot is e = refl
after_by_shape m p (after_variable v negated) t is e = absurd (true≢false (sym e))
after_by_shape m p (an_attribute v) (word w) is e = refl
after_by_shape m p (an_attribute v) t is e = absurd (true≢false (sym e))
after_by_shape m p a_comparison equal_sign is e = refl
after_by_shape m p a_comparison exclamation is e = refl
after_by_shape m p a_comparison t is e = absurd (true≢false (sym e))
after_by_shape m p a_quoted_text (quoted s) is e = refl
after_by_shape m p a_quoted_text t is e = absurd (true≢false (sym e))
after_by_shape m p (a_step k) (word w) is e = refl
after_by_shape m p (a_step k) caret is e = refl
after_by_shape m p (a_step k) open_paren is e = refl
after_by_shape m p (a_step k) t is e = absurd (true≢false (sym e))
after_by_shape m p (a_step_back k) (word w) is e = refl
after_by_shape m p (a_step_back k) t is e = absurd (true≢false (sym e))
after_by_shape m p (after_step zero) bar is e = refl
after_by_shape m p (after_step zero) slash is e = refl
after_by_shape m p (after_step zero) close_bracket is e = refl
after_by_shape m p (after_step zero) plus is e = ap shape is
after_by_shape m p (after_step zero) t is e = absurd (true≢false (sym e))
after_by_shape m p (after_step (suc k)) bar is e = refl
after_by_shape m p (after_step (suc k)) slash is e = refl
after_by_shape m p (after_step (suc k)) close_paren is e = refl
after_by_shape m p (after_step (suc k)) plus is e = ap shape is
after_by_shape m p (after_step (suc k)) t is e = absurd (true≢false (sym e))
after_by_shape m p the_other_end (word y) is e = refl
after_by_shape m p the_other_end t is e = absurd (true≢false (sym e))
after_by_shape m p after_constraint comma is e = refl
after_by_shape m p after_constraint t is e = absurd (true≢false (sym e))
