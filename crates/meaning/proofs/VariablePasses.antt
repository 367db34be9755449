-- The tokens of new variables go on from the first to what follows them, and tokens that go on so are new variables.
use Rattle.std.proofs.Common.{◌≡◌, ◌∙◌, sym, ap, subst, refl, ℕ, zero, suc, ◌+◌, ◌≤◌, List, [], ◌∷◌, ◌++◌, length, Bool, true, false, not, ◌&&◌, append_assoc, length-append, Option, Some, None, arith}
use Rattle.std.specs.Prelude.{if◌then◌else◌, is_some, unwrap_or}
use Rattle.std.proofs.lemmas.Bool.{true≢false, lt-leb, leb-false, and_parts, not-true, or_right}
use Rattle.meaning.specs.Texts.{is_name}
use Rattle.meaning.specs.Models.{Model}
use Rattle.meaning.specs.BundlePlaces.{is_among, are_new}
use Rattle.meaning.specs.QueryTexts.{Token, word, colon, comma, Scope, variable_number, type_number}
use Rattle.meaning.specs.QueryFaults.{Next, a_query, a_new_variable, the_colon, the_type, after_type, a_constraint, is_with, is_variable_too_many, stands_in_scope, progress_after}
use Rattle.meaning.specs.QueryGrammar.{IsNameOf, variable_names, type_names, IsVariable, of_type, IsVariables, of_variable, and_variables}
use Rattle.meaning.proofs.NamePlaces.{some_place}
use Rattle.meaning.proofs.NewNames.{one_more_before}
use Rattle.meaning.proofs.QueryPasses.{colon_next, named, Fine, Passes}
use Rattle.meaning.proofs.PathPasses.{fine, some_there}
use Rattle.meaning.proofs.ConstraintPasses.{reading, not_with}

-- ---- new names

-- no variable has the name of one before it, nor of one in scope
abbrev pub AllNew : Scope → Scope → Type 0
AllNew scope [] = Unit {0}
AllNew scope (v ∷ vs) = (is_some (variable_number scope v.0) ≡ false) × AllNew (scope ++ v ∷ []) vs

names_joined : (a b : Scope) → variable_names (a ++ b) ≡ variable_names a ++ variable_names b
names_joined [] b = refl
names_joined (v ∷ vs) b = ap (λ ns. v.0 ∷ ns) (names_joined vs b)

-- the same names, in another order
abbrev SameNames : List (List ℕ) → Scope → Type 0
SameNames seen scope = (s : List ℕ) → is_among seen s ≡ is_among (variable_names scope) s

one_more_seen : (seen : List (List ℕ)) (scope : Scope) (v : List ℕ × ℕ) → SameNames seen scope → SameNames (v.0 ∷ seen) (scope ++ v ∷ [])
one_more_seen seen scope v same s =
    one_more_before (variable_names scope) seen v.0 same s ∙ ap (λ ns. is_among ns s) (sym (names_joined scope (v ∷ [])))

each_new : (vs scope : Scope) (seen : List (List ℕ)) → SameNames seen scope → are_new seen (variable_names vs) ≡ true → AllNew scope vs
each_new [] scope seen same e = tt
each_new (v ∷ vs) scope seen same e =
    let d = and_parts (not (is_among seen v.0)) (are_new (v.0 ∷ seen) (variable_names vs)) e in (
      some_place (variable_names scope) v.0 ∙ (sym (same v.0) ∙ not-true (is_among seen v.0) d.0),
      each_new vs (scope ++ v ∷ []) (v.0 ∷ seen) (one_more_seen seen scope v same) d.1,
    )

all_new : (vs scope : Scope) (seen : List (List ℕ)) → SameNames seen scope → AllNew scope vs → are_new seen (variable_names vs) ≡ true
all_new [] scope seen same h = refl
all_new (v ∷ vs) scope seen same h =
    ap (λ b. not b && are_new (v.0 ∷ seen) (variable_names vs)) (same v.0 ∙ (sym (some_place (variable_names scope) v.0) ∙ h.0))
    ∙ all_new vs (scope ++ v ∷ []) (v.0 ∷ seen) (one_more_seen seen scope v same) h.1

pub fresh_each : (scope vs : Scope) → are_new (variable_names scope) (variable_names vs) ≡ true → AllNew scope vs
fresh_each scope vs e = each_new vs scope (variable_names scope) (λ s. refl) e

pub each_fresh : (scope vs : Scope) → AllNew scope vs → are_new (variable_names scope) (variable_names vs) ≡ true
each_fresh scope vs h = all_new vs scope (variable_names scope) (λ s. refl) h

-- a list that goes on with no comma
abbrev pub ends_variables : List Token → Bool
ends_variables (comma ∷ ts) = false
ends_variables ts = true

-- ---- one variable

module _ (m : Model) where
  abbrev GoesFrom : Scope → ℕ → Next → List Token → Type 0
  GoesFrom scope new next ts = Passes m (reading scope new 0 next) ts

  -- what asks for a new variable: the start of the text, or a comma
  abbrev pub start : Bool → Next
  start first = if first then a_query else a_new_variable

  start_names : (first : Bool) (x : List ℕ) (b : Bool) → named (start first) (word x) b ≡ (if is_name x && b then Some x else None)
  start_names true x b = refl
  start_names false x b = refl

  start_fine : (first : Bool) (scope : Scope) (new : ℕ) (x : List ℕ) (ts : List Token) (o : Option (List ℕ)) → named (start first) (word x) (colon_next ts) ≡ o
      → is_variable_too_many (reading scope new 0 (start first)) o ≡ false → stands_in_scope (reading scope new 0 (start first)) o ≡ false
      → is_name x ≡ true → Fine m (reading scope new 0 (start first)) (word x) ts
  start_fine true scope new x ts o e few fresh is = record {
    goes = or_right (is_with x) (is_name x) is;
    known = refl;
    few_variables = ap (is_variable_too_many (reading scope new 0 a_query)) e ∙ few;
    few_constraints = refl;
    fresh = ap (stands_in_scope (reading scope new 0 a_query)) e ∙ fresh;
  }
  start_fine false scope new x ts o e few fresh is = record {
    goes = is;
    known = refl;
    few_variables = ap (is_variable_too_many (reading scope new 0 a_new_variable)) e ∙ few;
    few_constraints = refl;
    fresh = ap (stands_in_scope (reading scope new 0 a_new_variable)) e ∙ fresh;
  }

  -- ---- the tokens of variables go on

  after_name : (first : Bool) (scope : Scope) (new : ℕ) (x : List ℕ) (ts : List Token) → is_name x ≡ true → GoesFrom scope new (the_colon x) ts
      → Passes m (progress_after m (reading scope new 0 (start first)) (start first) (word x)) ts
  after_name true scope new x ts is g = subst (λ b. GoesFrom scope new (if b then a_constraint else the_colon x) ts) (sym (not_with x is)) g
  after_name false scope new x ts is g = g

  variable_passes : {ts : List Token} {v : List ℕ × ℕ} → IsVariable m ts v → (first : Bool) (scope : Scope) (new : ℕ) (rest : List Token) → suc new ≤ 3
      → is_some (variable_number scope v.0) ≡ false → GoesFrom (scope ++ v ∷ []) (new + 1) after_type rest → GoesFrom scope new (start first) (ts ++ rest)
  variable_passes (of_type {x = x} {t = t} {n = n} is h) first scope new rest few fresh g = (
    start_fine first scope new x (colon ∷ word t ∷ rest) (Some x) (start_names first x true ∙ ap (λ b. if b && true then Some x else None) is)
        (lt-leb 3 new few) fresh is,
    after_name first scope new x (colon ∷ word t ∷ rest) is (
      fine m (reading scope new 0 (the_colon x)) colon (word t ∷ rest) refl refl refl refl,
      (
        fine m (reading scope new 0 (the_type x)) (word t) rest h.is_one (ap is_some h.stands) refl refl,
        subst (λ o. GoesFrom (scope ++ (x, unwrap_or o 0) ∷ []) (new + 1) after_type rest) (sym h.stands) g,
      ),
    ),
  )

  moved_by_one : (scope : Scope) (new : ℕ) (v : List ℕ × ℕ) (vs : Scope) (rest : List Token)
      → GoesFrom (scope ++ v ∷ vs) (new + length (v ∷ vs)) after_type rest → GoesFrom ((scope ++ v ∷ []) ++ vs) (new + 1 + length vs) after_type rest
  moved_by_one scope new v vs rest g =
      subst (λ s. GoesFrom s (new + 1 + length vs) after_type rest) (sym (append_assoc scope (v ∷ []) vs))
      (subst (λ n. GoesFrom (scope ++ v ∷ vs) n after_type rest) (let e : new + length (v ∷ vs) ≡ new + 1 + length vs = omega arith in e) g)

  pub variables_pass : {ts : List Token} {vs : Scope} → IsVariables m ts vs → (first : Bool) (scope : Scope) (new : ℕ) (rest : List Token) → new + length vs ≤ 3
      → AllNew scope vs → GoesFrom (scope ++ vs) (new + length vs) after_type rest → GoesFrom scope new (start first) (ts ++ rest)
  variables_pass (of_variable {ts = ts} {v = v} h) first scope new rest few fresh g = variable_passes h first scope new rest (omega arith) fresh.0 g
  variables_pass (and_variables {ts = ts} {us = us} {v = v} {vs = vs} h i) first scope new rest few fresh g =
      subst (GoesFrom scope new (start first)) (sym (append_assoc ts (comma ∷ us) rest))
      (variable_passes h first scope new (comma ∷ (us ++ rest)) (omega arith) fresh.0 (
        fine m (reading (scope ++ v ∷ []) (new + 1) 0 after_type) comma (us ++ rest) refl refl refl refl,
        variables_pass i false (scope ++ v ∷ []) (new + 1) rest (omega arith) fresh.1 (moved_by_one scope new v vs rest g),
      ))

  -- ---- tokens that go on are variables

  -- a colon and a type
  record Typed (scope : Scope) (new : ℕ) (x : List ℕ) (ts : List Token) : Type 0 where
    of : List ℕ
    number : ℕ
    known : IsNameOf (type_names m) of number
    left : List Token
    front : ts ≡ colon ∷ word of ∷ left
    goes : GoesFrom (scope ++ (x, number) ∷ []) (new + 1) after_type left

  behind_name : (scope : Scope) (new : ℕ) (x : List ℕ) (ts : List Token) → GoesFrom scope new (the_colon x) ts → Typed scope new x ts
  behind_name scope new x [] goes = absurd (true≢false (sym goes))
  behind_name scope new x (colon ∷ []) goes = absurd (true≢false (sym goes.1))
  behind_name scope new x (colon ∷ word t ∷ ts) goes =
      let d = some_there (type_number m t) goes.1.0.known in record {
        of = t;
        number = d.0;
        known = record { is_one = goes.1.0.goes; stands = d.1 };
        left = ts;
        front = refl;
        goes = subst (λ o. GoesFrom (scope ++ (x, unwrap_or o 0) ∷ []) (new + 1) after_type ts) d.1 goes.1.1;
      }
  behind_name scope new x (colon ∷ t ∷ ts) goes = absurd (true≢false (sym goes.1.0.goes))
  behind_name scope new x (t ∷ ts) goes = absurd (true≢false (sym goes.0.goes))

  -- one variable, and the tokens after it
  record One (scope : Scope) (new : ℕ) (ts : List Token) : Type 0 where
    taken : List Token
    left : List Token
    front : ts ≡ taken ++ left
    variable : List ℕ × ℕ
    phrase : IsVariable m taken variable
    fresh : is_some (variable_number scope variable.0) ≡ false
    few : suc new ≤ 3
    goes : GoesFrom (scope ++ variable ∷ []) (new + 1) after_type left

  one_found : (first : Bool) (scope : Scope) (new : ℕ) (x : List ℕ) (ts : List Token) → is_name x ≡ true
      → Fine m (reading scope new 0 (start first)) (word x) ts → GoesFrom scope new (the_colon x) ts → One scope new (word x ∷ ts)
  one_found first scope new x ts is f goes =
      let r = behind_name scope new x ts goes in
      let name_is : named (start first) (word x) (colon_next ts) ≡ Some x =
      start_names first x (colon_next ts) ∙ (ap (λ us. if is_name x && colon_next us then Some x else None) r.front ∙ ap (λ b. if b && true then Some x else None) is) in record {
        taken = word x ∷ colon ∷ word r.of ∷ [];
        left = r.left;
        front = ap (λ us. word x ∷ us) r.front;
        variable = (x, r.number);
        phrase = of_type is r.known;
        fresh = sym (ap (stands_in_scope (reading scope new 0 (start first))) name_is) ∙ f.fresh;
        few = leb-false 3 new (sym (ap (is_variable_too_many (reading scope new 0 (start first))) name_is) ∙ f.few_variables);
        goes = r.goes;
      }

  -- variables, and the tokens after them
  pub record Variables (scope : Scope) (new : ℕ) (ts : List Token) : Type 0 where
    pub taken : List Token
    pub left : List Token
    pub front : ts ≡ taken ++ left
    pub list : Scope
    pub phrase : IsVariables m taken list
    pub all_new : AllNew scope list
    pub few : new + length list ≤ 3
    pub goes : GoesFrom (scope ++ list) (new + length list) after_type left
    pub ends : ends_variables left ≡ true

  last_of : (scope : Scope) (new : ℕ) (ts : List Token) (o : One scope new ts) → ends_variables o.left ≡ true → Variables scope new ts
  last_of scope new ts o ends = record {
    taken = o.taken;
    left = o.left;
    front = o.front;
    list = o.variable ∷ [];
    phrase = of_variable o.phrase;
    all_new = (o.fresh, tt);
    few = let f = o.few in omega arith;
    goes = o.goes;
    ends = ends;
  }

  moved_back : (scope : Scope) (new : ℕ) (v : List ℕ × ℕ) (vs : Scope) (rest : List Token)
      → GoesFrom ((scope ++ v ∷ []) ++ vs) (new + 1 + length vs) after_type rest → GoesFrom (scope ++ v ∷ vs) (new + length (v ∷ vs)) after_type rest
  moved_back scope new v vs rest g =
      subst (λ n. GoesFrom (scope ++ v ∷ vs) n after_type rest) (let e : new + 1 + length vs ≡ new + length (v ∷ vs) = omega arith in e)
      (subst (λ s. GoesFrom s (new + 1 + length vs) after_type rest) (append_assoc scope (v ∷ []) vs) g)

  more_of : (scope : Scope) (new : ℕ) (ts : List Token) (o : One scope new ts) (us : List Token) → o.left ≡ comma ∷ us
      → Variables (scope ++ o.variable ∷ []) (new + 1) us → Variables scope new ts
  more_of scope new ts o us next r = record {
    taken = o.taken ++ comma ∷ r.taken;
    left = r.left;
    front = o.front ∙ (ap (λ z. o.taken ++ z) (next ∙ ap (λ z. comma ∷ z) r.front) ∙ sym (append_assoc o.taken (comma ∷ r.taken) r.left));
    list = o.variable ∷ r.list;
    phrase = and_variables o.phrase r.phrase;
    all_new = (o.fresh, r.all_new);
    few = let f = r.few in omega arith;
    goes = moved_back scope new o.variable r.list r.left r.goes;
    ends = r.ends;
  }

  shorter : (ts taken us left : List Token) (n : ℕ) → ts ≡ taken ++ left → left ≡ comma ∷ us → length ts ≤ suc n → length us ≤ n
  shorter ts taken us left n front next above =
      let e : length ts ≡ length taken + suc (length us) = ap length (front ∙ ap (λ z. taken ++ z) next) ∙ length-append taken (comma ∷ us) in omega arith

  behind_one : (n : ℕ) (scope : Scope) (new : ℕ) (ts : List Token) (o : One scope new ts)
      → ((s : Scope) (k : ℕ) (vs : List Token) → length vs ≤ n → GoesFrom s k a_new_variable vs → Variables s k vs) → length ts ≤ suc n
      → (us : List Token) → o.left ≡ us → GoesFrom (scope ++ o.variable ∷ []) (new + 1) after_type us → Variables scope new ts
  behind_one n scope new ts o later above (comma ∷ us) next goes =
      more_of scope new ts o us next (later (scope ++ o.variable ∷ []) (new + 1) us (shorter ts o.taken us o.left n o.front next above) goes.1)
  behind_one n scope new ts o later above us next goes = last_of scope new ts o (ap ends_variables next)

  variables_found : (n : ℕ) (scope : Scope) (new : ℕ) (ts : List Token) → length ts ≤ n → GoesFrom scope new a_new_variable ts → Variables scope new ts
  variables_found n scope new [] above goes = absurd (true≢false (sym goes))
  variables_found zero scope new (t ∷ ts) above goes = absurd (omega arith)
  variables_found (suc n) scope new (word x ∷ ts) above goes =
      let o = one_found false scope new x ts goes.0.goes goes.0 goes.1 in
      behind_one n scope new (word x ∷ ts) o (λ s k vs bound on. variables_found n s k vs bound on) above o.left refl o.goes
  variables_found (suc n) scope new (t ∷ ts) above goes = absurd (true≢false (sym goes.0.goes))

  -- at the start of a text
  pub first_found : (scope : Scope) (x : List ℕ) (ts : List Token) → is_name x ≡ true → Fine m (reading scope 0 0 a_query) (word x) ts
      → GoesFrom scope 0 (the_colon x) ts → Variables scope 0 (word x ∷ ts)
  first_found scope x ts is f goes =
      let o = one_found true scope 0 x ts is f goes in
      behind_one (length ts) scope 0 (word x ∷ ts) o (λ s k vs bound on. variables_found (length ts) s k vs bound on) (omega arith) o.left refl o.goes
