-- The tokens of constraints go on from the first to the end, and tokens that go on so are constraints.
use Rattle.std.proofs.Common.{◌≡◌, ◌∙◌, sym, ap, subst, refl, ℕ, zero, suc, ◌+◌, ◌≤◌, List, [], ◌∷◌, ◌++◌, length, Bool, true, false, not, ◌&&◌, ◌||◌, append_assoc, length-append, arith}
use Rattle.std.specs.Prelude.{codes, bytes_eq, if◌then◌else◌, is_some, nat_le, unwrap_or}
use Rattle.std.proofs.lemmas.Bool.{true≢false, lt-leb, leb-false, and_left, or_right}
use Rattle.std.proofs.lemmas.List.{append-nil}
use Rattle.std.proofs.lemmas.Slice.Eq.{bytes_eq-Decides}
use Rattle.meaning.specs.Texts.{is_name}
use Rattle.meaning.specs.Models.{Model}
use Rattle.meaning.specs.Queries.{Path, Constraint, Walks, Attribute}
use Rattle.meaning.specs.QueryTexts.{Token, word, quoted, comma, open_bracket, close_bracket, dot, equal_sign, exclamation, Scope, variable_number, attribute_number, kind_names}
use Rattle.meaning.specs.QueryFaults.{Next, a_constraint, a_negated_walk, after_variable, an_attribute, a_comparison, a_quoted_text, a_step, after_step, the_other_end, after_constraint, Progress, number_of, is_stray}
use Rattle.meaning.specs.QueryGrammar.{IsNameOf, IsAttributeOf, variable_names, IsPath, IsConstraint, a_walk, no_walk, equals, differs, IsConstraints, of_constraint, and_constraints}
use Rattle.meaning.proofs.QueryPasses.{Fine, Passes}
use Rattle.meaning.proofs.PathPasses.{fine, some_there, path_passes, path_found}

-- ---- words

no_reserved : (w r : List ℕ) → is_name r ≡ false → is_name w ≡ true → bytes_eq w r ≡ false
no_reserved w r reserved is = go (bytes_eq w r) refl
  where
    go : (b : Bool) → bytes_eq w r ≡ b → b ≡ false
    go true e = absurd (true≢false (sym is ∙ (ap is_name ((bytes_eq-Decides w r).0 e) ∙ reserved)))
    go false e = refl

pub not_not : (w : List ℕ) → is_name w ≡ true → bytes_eq w (codes "not") ≡ false
not_not w is = no_reserved w (codes "not") refl is

pub not_with : (w : List ℕ) → is_name w ≡ true → bytes_eq w (codes "with") ≡ false
not_with w is = no_reserved w (codes "with") refl is

-- what is read so far
abbrev pub reading : Scope → ℕ → ℕ → Next → Progress
reading scope new count next = record { next = next; scope = scope; new = new; constraints = count }

module _ (m : Model) (scope : Scope) (new : ℕ) where
  abbrev GoesFrom : ℕ → Next → List Token → Type 0
  GoesFrom count next ts = Passes m (reading scope new count next) ts

  number_is : (x : List ℕ) (v : ℕ) → IsNameOf (variable_names scope) x v → number_of scope x ≡ v
  number_is x v h = ap (λ o. unwrap_or o 0) h.stands

  -- ---- the tokens of a constraint go on

  first_fine : (count : ℕ) (w : List ℕ) (ts : List Token) → suc count ≤ 16 → bytes_eq w (codes "not") || is_name w ≡ true
      → bytes_eq w (codes "not") || is_some (variable_number scope w) ≡ true → Fine m (reading scope new count a_constraint) (word w) ts
  first_fine count w ts few goes known =
      fine m (reading scope new count a_constraint) (word w) ts goes known refl (and_left (nat_le 16 count) (not (is_stray (word w))) (lt-leb 16 count few))

  -- a variable first
  variable_first : (count : ℕ) (x : List ℕ) (v : ℕ) (ts : List Token) → suc count ≤ 16 → IsNameOf (variable_names scope) x v
      → GoesFrom (count + 1) (after_variable v false) ts → GoesFrom count a_constraint (word x ∷ ts)
  variable_first count x v ts few h g = (
    first_fine count x ts few (or_right (bytes_eq x (codes "not")) (is_name x) h.is_one)
        (or_right (bytes_eq x (codes "not")) (is_some (variable_number scope x)) (ap is_some h.stands)),
    subst (λ n. GoesFrom (count + 1) n ts)
        (sym (ap (λ b. if b then a_negated_walk else after_variable (number_of scope x) false) (not_not x h.is_one) ∙ ap (λ k. after_variable k false) (number_is x v h))) g,
  )

  -- `not` and a variable first
  not_first : (count : ℕ) (x : List ℕ) (v : ℕ) (ts : List Token) → suc count ≤ 16 → IsNameOf (variable_names scope) x v
      → GoesFrom (count + 1) (after_variable v true) ts → GoesFrom count a_constraint (word (codes "not") ∷ word x ∷ ts)
  not_first count x v ts few h g = (
    first_fine count (codes "not") (word x ∷ ts) few refl refl,
    (
      fine m (reading scope new (count + 1) a_negated_walk) (word x) ts h.is_one (ap is_some h.stands) refl refl,
      subst (λ k. GoesFrom (count + 1) (after_variable k true) ts) (sym (number_is x v h)) g,
    ),
  )

  -- a path in brackets and its other end
  walk_goes : (count v : ℕ) (negated : Bool) (ts : List Token) (p : Path) (y : List ℕ) (u : ℕ) (rest : List Token)
      → IsPath (kind_names m) ts p → IsNameOf (variable_names scope) y u → GoesFrom count after_constraint rest
      → GoesFrom count (after_variable v negated) (open_bracket ∷ ((ts ++ close_bracket ∷ word y ∷ []) ++ rest))
  walk_goes count v negated ts p y u rest phrase to g =
      let q = reading scope new count a_constraint in (
        fine m (reading scope new count (after_variable v negated)) open_bracket ((ts ++ close_bracket ∷ word y ∷ []) ++ rest) refl refl refl refl,
        subst (GoesFrom count (a_step 0)) (sym (append_assoc ts (close_bracket ∷ word y ∷ []) rest))
            (path_passes m q phrase 0 (close_bracket ∷ word y ∷ rest) (
              fine m (reading scope new count (after_step 0)) close_bracket (word y ∷ rest) refl refl refl refl,
              (fine m (reading scope new count the_other_end) (word y) rest to.is_one (ap is_some to.stands) refl refl, g),
            )),
      )

  -- an attribute, `=` or `!=`, and a text
  test_goes : (count v : ℕ) (a s : List ℕ) (n : ℕ) (sign : Token) (rest : List Token) → IsAttributeOf m scope v a n
      → ((ts : List Token) → GoesFrom count a_quoted_text ts → GoesFrom count a_comparison (sign ∷ ts))
      → GoesFrom count after_constraint rest → GoesFrom count (after_variable v false) (dot ∷ word a ∷ sign ∷ quoted s ∷ rest)
  test_goes count v a s n sign rest h compares g = (
    fine m (reading scope new count (after_variable v false)) dot (word a ∷ sign ∷ quoted s ∷ rest) refl refl refl refl,
    (
      fine m (reading scope new count (an_attribute v)) (word a) (sign ∷ quoted s ∷ rest) h.is_one (ap is_some h.stands) refl refl,
      compares (quoted s ∷ rest) (fine m (reading scope new count a_quoted_text) (quoted s) rest refl refl refl refl, g),
    ),
  )

  equal_goes : (count : ℕ) (ts : List Token) → GoesFrom count a_quoted_text ts → GoesFrom count a_comparison (equal_sign ∷ ts)
  equal_goes count ts g = (fine m (reading scope new count a_comparison) equal_sign ts refl refl refl refl, g)

  unequal_goes : (count : ℕ) (ts : List Token) → GoesFrom count a_quoted_text ts → GoesFrom count a_comparison (exclamation ∷ ts)
  unequal_goes count ts g = (fine m (reading scope new count a_comparison) exclamation ts refl refl refl refl, g)

  constraint_passes : {ts : List Token} {c : Constraint} → IsConstraint m scope ts c → (count : ℕ) (rest : List Token) → suc count ≤ 16
      → GoesFrom (count + 1) after_constraint rest → GoesFrom count a_constraint (ts ++ rest)
  constraint_passes (a_walk {x = x} {y = y} {v = v} {u = u} {ts = ts} {p = p} from phrase to) count rest few g =
      variable_first count x v (open_bracket ∷ ((ts ++ close_bracket ∷ word y ∷ []) ++ rest)) few from (walk_goes (count + 1) v false ts p y u rest phrase to g)
  constraint_passes (no_walk {x = x} {y = y} {v = v} {u = u} {ts = ts} {p = p} from phrase to) count rest few g =
      not_first count x v (open_bracket ∷ ((ts ++ close_bracket ∷ word y ∷ []) ++ rest)) few from (walk_goes (count + 1) v true ts p y u rest phrase to g)
  constraint_passes (equals {x = x} {a = a} {s = s} {v = v} {n = n} variable attribute) count rest few g =
      variable_first count x v (dot ∷ word a ∷ equal_sign ∷ quoted s ∷ rest) few variable
      (test_goes (count + 1) v a s n equal_sign rest attribute (equal_goes (count + 1)) g)
  constraint_passes (differs {x = x} {a = a} {s = s} {v = v} {n = n} variable attribute) count rest few g =
      variable_first count x v (dot ∷ word a ∷ exclamation ∷ quoted s ∷ rest) few variable
      (test_goes (count + 1) v a s n exclamation rest attribute (unequal_goes (count + 1)) g)

  pub constraints_pass : {ts : List Token} {cs : List Constraint} → IsConstraints m scope ts cs → (count : ℕ) → count + length cs ≤ 16 → GoesFrom count a_constraint ts
  constraints_pass (of_constraint {ts = ts} {c = c} h) count few =
      subst (GoesFrom count a_constraint) (append-nil ts) (constraint_passes h count [] (omega arith) refl)
  constraints_pass (and_constraints {ts = ts} {us = us} {c = c} {cs = cs} h g) count few =
      constraint_passes h count (comma ∷ us) (omega arith)
      (fine m (reading scope new (count + 1) after_constraint) comma us refl refl refl refl, constraints_pass g (count + 1) (omega arith))

  -- ---- tokens that go on are constraints

  -- a constraint, and the tokens after it
  record Found (count : ℕ) (ts : List Token) : Type 0 where
    taken : List Token
    left : List Token
    front : ts ≡ taken ++ left
    constraint : Constraint
    phrase : IsConstraint m scope taken constraint
    goes : GoesFrom (count + 1) after_constraint left

  -- a path in brackets, its other end, and the tokens after it
  record Walk (count : ℕ) (ts : List Token) : Type 0 where
    taken : List Token
    path : Path
    phrase : IsPath (kind_names m) taken path
    end : List ℕ
    number : ℕ
    to : IsNameOf (variable_names scope) end number
    left : List Token
    front : ts ≡ (taken ++ close_bracket ∷ word end ∷ []) ++ left
    goes : GoesFrom count after_constraint left

  known_variable : (x : List ℕ) → is_name x ≡ true → is_some (variable_number scope x) ≡ true → (v : ℕ) × IsNameOf (variable_names scope) x v
  known_variable x is known = let r = some_there (variable_number scope x) known in (r.0, record { is_one = is; stands = r.1 })

  end_found : (count : ℕ) (ts taken rest : List Token) (p : Path) → ts ≡ taken ++ close_bracket ∷ rest → IsPath (kind_names m) taken p
      → GoesFrom count the_other_end rest → Walk count ts
  end_found count ts taken [] p front phrase goes = absurd (true≢false (sym goes))
  end_found count ts taken (word y ∷ rest) p front phrase goes =
      let d = known_variable y goes.0.goes goes.0.known in record {
        taken = taken;
        path = p;
        phrase = phrase;
        end = y;
        number = d.0;
        to = d.1;
        left = rest;
        front = front ∙ sym (append_assoc taken (close_bracket ∷ word y ∷ []) rest);
        goes = goes.1;
      }
  end_found count ts taken (t ∷ rest) p front phrase goes = absurd (true≢false (sym goes.0.goes))

  walk_found : (count : ℕ) (ts : List Token) → GoesFrom count (a_step 0) ts → Walk count ts
  walk_found count ts goes =
      let b = path_found m (reading scope new count a_constraint) ts goes in end_found count ts b.taken b.rest b.path b.front b.phrase b.goes

  -- behind `not` and a variable
  negated_found : (count v : ℕ) (x : List ℕ) (ts : List Token) → IsNameOf (variable_names scope) x v → GoesFrom (count + 1) (after_variable v true) ts
      → Found count (word (codes "not") ∷ word x ∷ ts)
  negated_found count v x [] h goes = absurd (true≢false (sym goes))
  negated_found count v x (open_bracket ∷ ts) h goes =
      let w = walk_found (count + 1) ts goes.1 in record {
        taken = word (codes "not") ∷ word x ∷ open_bracket ∷ (w.taken ++ close_bracket ∷ word w.end ∷ []);
        left = w.left;
        front = ap (λ us. word (codes "not") ∷ word x ∷ open_bracket ∷ us) w.front;
        constraint = Walks v w.path w.number true;
        phrase = no_walk h w.phrase w.to;
        goes = w.goes;
      }
  negated_found count v x (t ∷ ts) h goes = absurd (true≢false (sym goes.0.goes))

  -- behind an attribute
  test_found : (count v : ℕ) (x a : List ℕ) (n : ℕ) (ts : List Token) → IsNameOf (variable_names scope) x v → IsAttributeOf m scope v a n
      → GoesFrom (count + 1) a_comparison ts → Found count (word x ∷ dot ∷ word a ∷ ts)
  test_found count v x a n [] h g goes = absurd (true≢false (sym goes))
  test_found count v x a n (equal_sign ∷ []) h g goes = absurd (true≢false (sym goes.1))
  test_found count v x a n (equal_sign ∷ quoted s ∷ ts) h g goes = record {
    taken = word x ∷ dot ∷ word a ∷ equal_sign ∷ quoted s ∷ [];
    left = ts;
    front = refl;
    constraint = Attribute v n s true;
    phrase = equals h g;
    goes = goes.1.1;
  }
  test_found count v x a n (equal_sign ∷ t ∷ ts) h g goes = absurd (true≢false (sym goes.1.0.goes))
  test_found count v x a n (exclamation ∷ []) h g goes = absurd (true≢false (sym goes.1))
  test_found count v x a n (exclamation ∷ quoted s ∷ ts) h g goes = record {
    taken = word x ∷ dot ∷ word a ∷ exclamation ∷ quoted s ∷ [];
    left = ts;
    front = refl;
    constraint = Attribute v n s false;
    phrase = differs h g;
    goes = goes.1.1;
  }
  test_found count v x a n (exclamation ∷ t ∷ ts) h g goes = absurd (true≢false (sym goes.1.0.goes))
  test_found count v x a n (t ∷ ts) h g goes = absurd (true≢false (sym goes.0.goes))

  -- behind a variable
  plain_found : (count v : ℕ) (x : List ℕ) (ts : List Token) → IsNameOf (variable_names scope) x v → GoesFrom (count + 1) (after_variable v false) ts
      → Found count (word x ∷ ts)
  plain_found count v x [] h goes = absurd (true≢false (sym goes))
  plain_found count v x (open_bracket ∷ ts) h goes =
      let w = walk_found (count + 1) ts goes.1 in record {
        taken = word x ∷ open_bracket ∷ (w.taken ++ close_bracket ∷ word w.end ∷ []);
        left = w.left;
        front = ap (λ us. word x ∷ open_bracket ∷ us) w.front;
        constraint = Walks v w.path w.number false;
        phrase = a_walk h w.phrase w.to;
        goes = w.goes;
      }
  plain_found count v x (dot ∷ []) h goes = absurd (true≢false (sym goes.1))
  plain_found count v x (dot ∷ word a ∷ ts) h goes =
      let d = some_there (attribute_number m scope v a) goes.1.0.known in
      test_found count v x a d.0 ts h (record { is_one = goes.1.0.goes; stands = d.1 }) goes.1.1
  plain_found count v x (dot ∷ t ∷ ts) h goes = absurd (true≢false (sym goes.1.0.goes))
  plain_found count v x (t ∷ ts) h goes = absurd (true≢false (sym goes.0.goes))

  behind_not : (count : ℕ) (ts : List Token) → GoesFrom (count + 1) a_negated_walk ts → Found count (word (codes "not") ∷ ts)
  behind_not count [] goes = absurd (true≢false (sym goes))
  behind_not count (word x ∷ ts) goes =
      let d = known_variable x goes.0.goes goes.0.known in
      negated_found count d.0 x ts d.1 (subst (λ k. GoesFrom (count + 1) (after_variable k true) ts) (number_is x d.0 d.1) goes.1)
  behind_not count (t ∷ ts) goes = absurd (true≢false (sym goes.0.goes))

  behind_first : (count : ℕ) (w : List ℕ) (ts : List Token) (b : Bool) → bytes_eq w (codes "not") ≡ b → b || is_name w ≡ true
      → b || is_some (variable_number scope w) ≡ true
      → GoesFrom (count + 1) (if b then a_negated_walk else after_variable (number_of scope w) false) ts → Found count (word w ∷ ts)
  behind_first count w ts true is goes known rest =
      subst (λ v. Found count (word v ∷ ts)) (sym ((bytes_eq-Decides w (codes "not")).0 is)) (behind_not count ts rest)
  behind_first count w ts false is goes known rest =
      let d = known_variable w goes known in
      plain_found count d.0 w ts d.1 (subst (λ k. GoesFrom (count + 1) (after_variable k false) ts) (number_is w d.0 d.1) rest)

  constraint_found : (count : ℕ) (ts : List Token) → GoesFrom count a_constraint ts → Found count ts × (suc count ≤ 16)
  constraint_found count [] goes = absurd (true≢false (sym goes))
  constraint_found count (word w ∷ ts) goes = (
    behind_first count w ts (bytes_eq w (codes "not")) refl goes.0.goes goes.0.known goes.1,
    few_so_far (nat_le 16 count) refl goes.0.few_constraints,
  )
    where
      few_so_far : (b : Bool) → nat_le 16 count ≡ b → (b && true) ≡ false → suc count ≤ 16
      few_so_far true is e = absurd (true≢false e)
      few_so_far false is e = leb-false 16 count is
  constraint_found count (t ∷ ts) goes = absurd (true≢false (sym goes.0.goes))

  -- the tokens are constraints, with those before not too many
  pub record Constrains (count : ℕ) (ts : List Token) : Type 0 where
    pub list : List Constraint
    pub phrase : IsConstraints m scope ts list
    pub few : count + length list ≤ 16

  last_of : (count : ℕ) (ts taken : List Token) (c : Constraint) → ts ≡ taken ++ [] → IsConstraint m scope taken c → suc count ≤ 16 → Constrains count ts
  last_of count ts taken c front h few = record {
    list = c ∷ [];
    phrase = subst (λ us. IsConstraints m scope us (c ∷ [])) (sym (front ∙ append-nil taken)) (of_constraint h);
    few = omega arith;
  }

  more_of : (count : ℕ) (ts taken us : List Token) (c : Constraint) → ts ≡ taken ++ comma ∷ us → IsConstraint m scope taken c → Constrains (count + 1) us → Constrains count ts
  more_of count ts taken us c front h r = record {
    list = c ∷ r.list;
    phrase = subst (λ vs. IsConstraints m scope vs (c ∷ r.list)) (sym front) (and_constraints h r.phrase);
    few = let f = r.few in omega arith;
  }

  shorter : (ts taken us : List Token) (n : ℕ) → ts ≡ taken ++ comma ∷ us → length ts ≤ suc n → length us ≤ n
  shorter ts taken us n front above = let e : length ts ≡ length taken + suc (length us) = ap length front ∙ length-append taken (comma ∷ us) in omega arith

  behind_constraint : (n count : ℕ) (ts taken us : List Token) (c : Constraint)
      → ((k : ℕ) (vs : List Token) → length vs ≤ n → GoesFrom k a_constraint vs → Constrains k vs) → length ts ≤ suc n
      → ts ≡ taken ++ us → IsConstraint m scope taken c → suc count ≤ 16 → GoesFrom (count + 1) after_constraint us → Constrains count ts
  behind_constraint n count ts taken [] c later above front h few goes = last_of count ts taken c front h few
  behind_constraint n count ts taken (comma ∷ us) c later above front h few goes =
      more_of count ts taken us c front h (later (count + 1) us (shorter ts taken us n front above) goes.1)
  behind_constraint n count ts taken (t ∷ us) c later above front h few goes = absurd (true≢false (sym goes.0.goes))

  pub constraints_found : (n count : ℕ) (ts : List Token) → length ts ≤ n → GoesFrom count a_constraint ts → Constrains count ts
  constraints_found n count [] above goes = absurd (true≢false (sym goes))
  constraints_found zero count (t ∷ ts) above goes = absurd (omega arith)
  constraints_found (suc n) count (t ∷ ts) above goes =
      let r = constraint_found count (t ∷ ts) goes in
      let f = r.0 in
      behind_constraint n count (t ∷ ts) f.taken f.left f.constraint (λ k vs bound on. constraints_found n k vs bound on) above f.front f.phrase r.1 f.goes
