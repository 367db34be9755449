-- Tokens that go on to an end are a query, over a model and a scope that have each of their words.
use Rattle.std.proofs.Common.{◌≡◌, ◌∙◌, sym, ap, subst, refl, ℕ, zero, suc, ◌+◌, List, [], ◌∷◌, ◌++◌, map, Bool, true, false, ◌||◌, append_assoc, Some, None}
use Rattle.std.specs.Prelude.{codes, bytes_eq, if◌then◌else◌, option_map, option_and_then}
use Rattle.std.specs.List.{slice_get}
use Rattle.std.proofs.lemmas.Bool.{true≢false}
use Rattle.std.proofs.lemmas.List.{append-nil}
use Rattle.std.proofs.lemmas.Slice.Eq.{bytes_eq-Decides}
use Rattle.meaning.specs.Texts.{is_name, place_of}
use Rattle.meaning.specs.BundlePlaces.{is_among}
use Rattle.meaning.specs.Models.{Model, TypeDef, LinkKind}
use Rattle.meaning.specs.Queries.{Path, Along, Against, Chain, Constraint, Walks, Attribute, Query}
use Rattle.meaning.specs.QueryTexts.{Token, word, quoted, colon, comma, open_bracket, close_bracket, open_paren, close_paren, dot, equal_sign, exclamation, bar, slash, plus, caret, Scope, kind_names}
use Rattle.meaning.specs.QueryFaults.{Next, a_query, a_new_variable, the_colon, the_type, after_type, a_constraint, a_negated_walk, after_variable, an_attribute, a_comparison, a_quoted_text, a_step, a_step_back, after_step, the_other_end, after_constraint, goes_on, may_end, is_with}
use Rattle.meaning.specs.QueryGrammar.{IsNameOf, IsAttributeOf, variable_names, type_names, IsPath, IsStep, of_atom, chain, forwards, backwards, grouped, IsConstraint, a_walk, no_walk, equals, differs, IsConstraints, of_constraint, and_constraints, unconditional, with_constraints, of_type, IsVariables, of_variable, and_variables, no_variables, some_variables, IsQuery, query}
use Rattle.meaning.proofs.QueryPasses.{at_start}
use Rattle.meaning.proofs.PathPasses.{some_there, known_name, Before, before_all, step_on, slash_on, bar_on}
use Rattle.meaning.proofs.NamePlaces.{some_place}
use Rattle.meaning.proofs.QueryRuns.{step, Runs, one_deeper}

-- ---- a model and a scope with these words as the names of all

abbrev word_type : List (List ℕ) → List ℕ → TypeDef
word_type all w = record { name = w; parent = None; attributes = all; has_system = false }

abbrev word_kind : List ℕ → LinkKind
word_kind w = record { name = w; source = 0; target = 0 }

abbrev scope_of : List (List ℕ) → Scope
scope_of ws = map (λ w. (w, 0)) ws

abbrev model_of : List (List ℕ) → Model
model_of ws = record {
  types = map (word_type (codes "x" ∷ ws)) (codes "x" ∷ ws);
  kinds = map word_kind (codes "x" ∷ ws);
  labels = [];
  elements = [];
  links = [];
  systems = [];
}

type_words : (all ws : List (List ℕ)) → map (λ d. d.name) (map (word_type all) ws) ≡ ws
type_words all [] = refl
type_words all (w ∷ ws) = ap (λ vs. w ∷ vs) (type_words all ws)

kind_words : (ws : List (List ℕ)) → map (λ k. k.name) (map word_kind ws) ≡ ws
kind_words [] = refl
kind_words (w ∷ ws) = ap (λ vs. w ∷ vs) (kind_words ws)

-- a word of the scope, at its place there
record InScope (ws : List (List ℕ)) (new : Scope) (x : List ℕ) : Type 0 where
  number : ℕ
  name : List ℕ
  at : place_of x (variable_names (scope_of ws ++ new)) ≡ Some number
  there : slice_get (scope_of ws ++ new) number ≡ Some (name, 0)

in_scope : (ws : List (List ℕ)) (new : Scope) (x : List ℕ) → is_among ws x ≡ true → InScope ws new x
in_scope [] new x e = absurd (true≢false (sym e))
in_scope (w ∷ ws) new x e = at_first (bytes_eq x w) (is_among ws x) refl e (in_scope ws new x)
  where
    at_first : (a b : Bool) → bytes_eq x w ≡ a → a || b ≡ true → (b ≡ true → InScope ws new x) → InScope (w ∷ ws) new x
    at_first true b is e later = record { number = 0; name = w; at = ap (λ c. if c then Some 0 else option_map suc (place_of x (variable_names (scope_of ws ++ new)))) is; there = refl }
    at_first false b is e later =
        let r = later e in record {
          number = suc r.number;
          name = r.name;
          at = ap (λ c. if c then Some 0 else option_map suc (place_of x (variable_names (scope_of ws ++ new)))) is ∙ ap (option_map suc) r.at;
          there = r.there;
        }

module _ (ws : List (List ℕ)) where
  abbrev m : Model
  m = model_of ws

  abbrev scope : Scope
  scope = scope_of (codes "x" ∷ ws)

  abbrev Known : List ℕ → Type 0
  Known w = is_among (codes "x" ∷ ws) w ≡ true

  abbrev KnownToken : Token → Type 0
  KnownToken (word w) = Known w
  KnownToken t = Unit {0}

  kind_known : (w : List ℕ) → is_name w ≡ true → Known w → (n : ℕ) × IsNameOf (kind_names m) w n
  kind_known w is known = known_name (kind_names m) w is (ap (λ vs. is_among vs w) (kind_words (codes "x" ∷ ws)) ∙ known)

  type_known : (w : List ℕ) → is_name w ≡ true → Known w → (n : ℕ) × IsNameOf (type_names m) w n
  type_known w is known = known_name (type_names m) w is (ap (λ vs. is_among vs w) (type_words (codes "x" ∷ ws) (codes "x" ∷ ws)) ∙ known)

  -- a variable, each word being an attribute of its type
  record Variable (new : Scope) (x : List ℕ) : Type 0 where
    number : ℕ
    is : IsNameOf (variable_names (scope ++ new)) x number
    attribute : (a : List ℕ) → is_name a ≡ true → Known a → (n : ℕ) × IsAttributeOf m (scope ++ new) number a n

  variable_known : (new : Scope) (x : List ℕ) → is_name x ≡ true → Known x → Variable new x
  variable_known new x is known =
      let r = in_scope (codes "x" ∷ ws) new x known in record {
        number = r.number;
        is = record { is_one = is; stands = r.at };
        attribute = λ a is_a known_a.
            let d = some_there (place_of a (codes "x" ∷ ws)) (some_place (codes "x" ∷ ws) a ∙ known_a) in (
              d.0,
              record {
                is_one = is_a;
                stands = ap (option_and_then (λ v. option_and_then (λ d. place_of a d.attributes) (slice_get m.types v.1))) r.there ∙ d.1;
              },
            );
      }

  -- ---- what is read so far

  abbrev HasQuery : List Token → Type 0
  HasQuery ts = (q : Scope × Query) × IsQuery m scope ts q

  abbrev HasVariables : List Token → Type 0
  HasVariables ts = (new : Scope) × IsVariables m ts new

  -- with variables behind them the tokens are variables
  abbrev VariablesOn : List Token → Type 0
  VariablesOn ds = (us : List Token) → HasVariables us → HasVariables (ds ++ us)

  -- with constraints behind them the tokens are a query
  abbrev ConstraintsOn : Scope → List Token → Type 0
  ConstraintsOn new ds = (us : List Token) (cs : List Constraint) → IsConstraints m (scope ++ new) us cs → HasQuery (ds ++ us)

  -- a constraint is begun behind them
  record Within (P : Scope → List Token → Type 0) (ds : List Token) : Type 0 where
    new : Scope
    before : List Token
    part : List Token
    both : ds ≡ before ++ part
    on : ConstraintsOn new before
    begun : P new part

  -- a constraint has ended
  record Done (ds : List Token) : Type 0 where
    whole : HasQuery ds
    new : Scope
    on : ConstraintsOn new (ds ++ comma ∷ [])

  abbrev HasConstraint : Scope → List Token → Type 0
  HasConstraint new ts = (c : Constraint) × IsConstraint m (scope ++ new) ts c

  one_longer : (ds before part : List Token) (t : Token) → ds ≡ before ++ part → ds ++ t ∷ [] ≡ before ++ (part ++ t ∷ [])
  one_longer ds before part t e = ap (λ z. z ++ t ∷ []) e ∙ append_assoc before part (t ∷ [])

  longer : (P R : Scope → List Token → Type 0) (ds : List Token) (t : Token) → Within P ds
      → ((new : Scope) (part : List Token) → P new part → R new (part ++ t ∷ [])) → Within R (ds ++ t ∷ [])
  longer P R ds t w more = record {
    new = w.new;
    before = w.before;
    part = w.part ++ t ∷ [];
    both = one_longer ds w.before w.part t w.both;
    on = w.on;
    begun = more w.new w.part w.begun;
  }

  ended : (ds before part : List Token) (new : Scope) → ds ≡ before ++ part → ConstraintsOn new before → HasConstraint new part → Done ds
  ended ds before part new both on h = record {
    whole = subst HasQuery (sym both) (on part (h.0 ∷ []) (of_constraint h.1));
    new = new;
    on = λ us cs g.
        subst HasQuery (sym (append_assoc ds (comma ∷ []) us ∙ (ap (λ z. z ++ comma ∷ us) both ∙ append_assoc before part (comma ∷ us))))
        (on (part ++ comma ∷ us) (h.0 ∷ cs) (and_constraints h.1 g));
  }

  ends : (P : Scope → List Token → Type 0) (ds : List Token) (t : Token) → Within P ds
      → ((new : Scope) (part : List Token) → P new part → HasConstraint new (part ++ t ∷ [])) → Done (ds ++ t ∷ [])
  ends P ds t w finish =
      ended (ds ++ t ∷ []) w.before (w.part ++ t ∷ []) w.new (one_longer ds w.before w.part t w.both) w.on (finish w.new w.part w.begun)

  begins_constraints : (ds : List Token) (new : Scope) → ConstraintsOn new ds → Within (λ new part. part ≡ []) ds
  begins_constraints ds new on = record { new = new; before = ds; part = []; both = sym (append-nil ds); on = on; begun = refl }

  -- ---- paths

  abbrev HasStep : List Token → Type 0
  HasStep ts = (a : Path) × IsStep (kind_names m) ts a

  abbrev HasPath : List Token → Type 0
  HasPath ts = (a : Path) × IsPath (kind_names m) ts a

  abbrev OnPath : List Token → Type 0
  OnPath ds = Before m (at_start scope) ds

  -- a step may stand behind them, in so many open parentheses
  abbrev Nest : ℕ → List Token → Type 0
  Nest zero ps = OnPath ps
  Nest (suc k) ps = (o : List Token) × (ds : List Token) × (ps ≡ o ++ open_paren ∷ ds) × Nest k o × OnPath ds

  abbrev BehindCaret : ℕ → List Token → Type 0
  BehindCaret k ps = (o : List Token) × (ps ≡ o ++ caret ∷ []) × Nest k o

  abbrev BehindStep : ℕ → List Token → Type 0
  BehindStep k ps = (o : List Token) × (us : List Token) × (ps ≡ o ++ us) × Nest k o × HasStep us

  abbrev BehindPath : List Token → Type 0
  BehindPath ps = (ts : List Token) × (ps ≡ ts ++ close_bracket ∷ []) × HasPath ts

  -- what the tokens of a walk before its path make of a path and an end
  abbrev Head : Scope → List Token → Type 0
  Head new hs = (ts : List Token) (p : Path) (y : List ℕ) (u : ℕ) → IsPath (kind_names m) ts p → IsNameOf (variable_names (scope ++ new)) y u
      → HasConstraint new (hs ++ (ts ++ close_bracket ∷ word y ∷ []))

  record Walking (R : List Token → Type 0) (new : Scope) (part : List Token) : Type 0 where
    before : List Token
    path : List Token
    both : part ≡ before ++ path
    head : Head new before
    begun : R path

  along : (R T : List Token → Type 0) (t : Token) → ((ps : List Token) → R ps → T (ps ++ t ∷ [])) → (new : Scope) (part : List Token)
      → Walking R new part → Walking T new (part ++ t ∷ [])
  along R T t more new part w = record {
    before = w.before;
    path = w.path ++ t ∷ [];
    both = one_longer part w.before w.path t w.both;
    head = w.head;
    begun = more w.path w.begun;
  }

  sign_after : (sign : Token) → ((ds us : List Token) → OnPath ds → HasStep us → OnPath (ds ++ (us ++ sign ∷ []))) → (k : ℕ) (o us : List Token)
      → Nest k o → HasStep us → Nest k (o ++ (us ++ sign ∷ []))
  sign_after sign on zero o us n h = on o us n h
  sign_after sign on (suc k) o us n h =
      let last = us ++ sign ∷ [] in
      (n.0, n.1 ++ last, ap (λ z. z ++ last) n.2 ∙ append_assoc n.0 (open_paren ∷ n.1) last, n.3, on n.1 us n.4 h)

  next_step : (sign : Token) → ((ds us : List Token) → OnPath ds → HasStep us → OnPath (ds ++ (us ++ sign ∷ []))) → (k : ℕ) (ps : List Token)
      → BehindStep k ps → Nest k (ps ++ sign ∷ [])
  next_step sign on k ps b = subst (Nest k) (sym (one_longer ps b.0 b.1 sign b.2)) (sign_after sign on k b.0 b.1 b.3 b.4)

  opens : (k : ℕ) (ps : List Token) → Nest k ps → Nest (k + 1) (ps ++ open_paren ∷ [])
  opens k ps n = subst (λ j. Nest j (ps ++ open_paren ∷ [])) (sym (one_deeper k)) (let r : Nest (suc k) (ps ++ open_paren ∷ []) = (ps, [], refl, n, before_all m (at_start scope)) in r)

  closes : (k : ℕ) (ps : List Token) → BehindStep (suc k) ps → BehindStep k (ps ++ close_paren ∷ [])
  closes k ps b =
      let n = b.3 in
      let r = step_on m (at_start scope) n.1 b.1 n.4 b.4 in (
        n.0,
        open_paren ∷ ((n.1 ++ b.1) ++ close_paren ∷ []),
        one_longer ps n.0 (open_paren ∷ (n.1 ++ b.1)) close_paren (b.2 ∙ (ap (λ z. z ++ b.1) n.2 ∙ append_assoc n.0 (open_paren ∷ n.1) b.1)),
        n.3,
        (r.0, of_atom (grouped r.1)),
      )

  path_ends : (ps : List Token) → BehindStep 0 ps → BehindPath (ps ++ close_bracket ∷ [])
  path_ends ps b = (b.0 ++ b.1, ap (λ z. z ++ close_bracket ∷ []) b.2, step_on m (at_start scope) b.0 b.1 b.3 b.4)

  -- ---- constraints that are begun

  abbrev NamedFirst : Scope → List Token → Type 0
  NamedFirst new part = (x : List ℕ) × (part ≡ word x ∷ []) × Variable new x

  abbrev NegatedFirst : Scope → List Token → Type 0
  NegatedFirst new part = (x : List ℕ) × (part ≡ word (codes "not") ∷ word x ∷ []) × Variable new x

  abbrev Dotted : Scope → List Token → Type 0
  Dotted new part = (x : List ℕ) × (part ≡ word x ∷ dot ∷ []) × Variable new x

  record Compared (new : Scope) (part : List Token) : Type 0 where
    name : List ℕ
    attribute : List ℕ
    shape : part ≡ word name ∷ dot ∷ word attribute ∷ []
    variable : ℕ
    number : ℕ
    is_variable : IsNameOf (variable_names (scope ++ new)) name variable
    is_attribute : IsAttributeOf m (scope ++ new) variable attribute number

  abbrev Quoting : Scope → List Token → Type 0
  Quoting new part = (s : List ℕ) → HasConstraint new (part ++ quoted s ∷ [])

  walk_begins : (new : Scope) (part : List Token) → NamedFirst new part → Walking OnPath new (part ++ open_bracket ∷ [])
  walk_begins new part f = record {
    before = part ++ open_bracket ∷ [];
    path = [];
    both = sym (append-nil (part ++ open_bracket ∷ []));
    head = λ ts p y u phrase to.
        subst (λ z. HasConstraint new ((z ++ open_bracket ∷ []) ++ (ts ++ close_bracket ∷ word y ∷ []))) (sym f.1)
        (Walks f.2.number p u false, a_walk f.2.is phrase to);
    begun = before_all m (at_start scope);
  }

  negated_walk_begins : (new : Scope) (part : List Token) → NegatedFirst new part → Walking OnPath new (part ++ open_bracket ∷ [])
  negated_walk_begins new part f = record {
    before = part ++ open_bracket ∷ [];
    path = [];
    both = sym (append-nil (part ++ open_bracket ∷ []));
    head = λ ts p y u phrase to.
        subst (λ z. HasConstraint new ((z ++ open_bracket ∷ []) ++ (ts ++ close_bracket ∷ word y ∷ []))) (sym f.1)
        (Walks f.2.number p u true, no_walk f.2.is phrase to);
    begun = before_all m (at_start scope);
  }

  walk_ends : (y : List ℕ) → is_name y ≡ true → Known y → (new : Scope) (part : List Token) → Walking BehindPath new part → HasConstraint new (part ++ word y ∷ [])
  walk_ends y is known new part w =
      let b = w.begun in
      let v = variable_known new y is known in
      subst (HasConstraint new)
      (sym (one_longer part w.before w.path (word y) w.both
      ∙ ap (λ z. w.before ++ z) (one_longer w.path b.0 (close_bracket ∷ []) (word y) b.1)))
      (w.head b.0 b.2.0 y v.number b.2.1 v.is)

  attribute_compared : (a : List ℕ) → is_name a ≡ true → Known a → (new : Scope) (part : List Token) → Dotted new part → Compared new (part ++ word a ∷ [])
  attribute_compared a is known new part f =
      let d = f.2.attribute a is known in record {
        name = f.0;
        attribute = a;
        shape = ap (λ z. z ++ word a ∷ []) f.1;
        variable = f.2.number;
        number = d.0;
        is_variable = f.2.is;
        is_attribute = d.1;
      }

  quoting_equal : (new : Scope) (part : List Token) → Compared new part → Quoting new (part ++ equal_sign ∷ [])
  quoting_equal new part c s =
      subst (λ z. HasConstraint new ((z ++ equal_sign ∷ []) ++ quoted s ∷ [])) (sym c.shape) (Attribute c.variable c.number s true, equals c.is_variable c.is_attribute)

  quoting_unequal : (new : Scope) (part : List Token) → Compared new part → Quoting new (part ++ exclamation ∷ [])
  quoting_unequal new part c s =
      subst (λ z. HasConstraint new ((z ++ exclamation ∷ []) ++ quoted s ∷ [])) (sym c.shape) (Attribute c.variable c.number s false, differs c.is_variable c.is_attribute)

  -- ---- what holds of the tokens so far, by what may come next

  abbrev Begun : Next → List Token → Type 0
  Begun a_query ds = ds ≡ []
  Begun a_new_variable ds = VariablesOn ds
  Begun (the_colon z) ds = (d : List Token) × (x : List ℕ) × (ds ≡ d ++ word x ∷ []) × (is_name x ≡ true) × VariablesOn d
  Begun (the_type z) ds = (d : List Token) × (x : List ℕ) × (ds ≡ d ++ word x ∷ colon ∷ []) × (is_name x ≡ true) × VariablesOn d
  Begun after_type ds = HasVariables ds × VariablesOn (ds ++ comma ∷ [])
  Begun a_constraint ds = Within (λ new part. part ≡ []) ds
  Begun a_negated_walk ds = Within (λ new part. part ≡ word (codes "not") ∷ []) ds
  Begun (after_variable v true) ds = Within NegatedFirst ds
  Begun (after_variable v false) ds = Within NamedFirst ds
  Begun (an_attribute v) ds = Within Dotted ds
  Begun a_comparison ds = Within Compared ds
  Begun a_quoted_text ds = Within Quoting ds
  Begun (a_step k) ds = Within (Walking (Nest k)) ds
  Begun (a_step_back k) ds = Within (Walking (BehindCaret k)) ds
  Begun (after_step k) ds = Within (Walking (BehindStep k)) ds
  Begun the_other_end ds = Within (Walking BehindPath) ds
  Begun after_constraint ds = Done ds

  variables_end : (ds : List Token) (t : List ℕ) → is_name t ≡ true → Known t → Begun (the_type []) ds → Begun after_type (ds ++ word t ∷ [])
  variables_end ds t is known (d, x, e, is_x, on) =
      let h = type_known t is known in
      let one = one_longer ds d (word x ∷ colon ∷ []) (word t) e in
      let two = one_longer (ds ++ word t ∷ []) d (word x ∷ colon ∷ word t ∷ []) comma one in (
        subst HasVariables (sym one) (on (word x ∷ colon ∷ word t ∷ []) ((x, h.0) ∷ [], of_variable (of_type is_x h.1))),
        λ us r.
            subst HasVariables (sym (ap (λ z. z ++ us) two ∙ append_assoc d (word x ∷ colon ∷ word t ∷ comma ∷ []) us))
            (on (word x ∷ colon ∷ word t ∷ comma ∷ us) ((x, h.0) ∷ r.0, and_variables (of_type is_x h.1) r.1)),
      )

  with_word : (w : List ℕ) → is_with w ≡ true → codes "with" ≡ w
  with_word w e = sym ((bytes_eq-Decides w (codes "with")).0 e)

  with_first : (ds : List Token) (w : List ℕ) → ds ≡ [] → is_with w ≡ true → ConstraintsOn [] (ds ++ word w ∷ [])
  with_first ds w e is us cs g =
      subst (λ z. HasQuery ((z ++ word w ∷ []) ++ us)) (sym e)
      (subst (λ v. HasQuery (word v ∷ us)) (with_word w is) (([], record { variables = []; constraints = cs }), query no_variables (with_constraints g)))

  with_behind : (ds : List Token) (w : List ℕ) (h : HasVariables ds) → is_with w ≡ true → ConstraintsOn h.0 (ds ++ word w ∷ [])
  with_behind ds w h is us cs g =
      subst HasQuery (sym (append_assoc ds (word w ∷ []) us))
      (subst (λ v. HasQuery (ds ++ word v ∷ us)) (with_word w is)
      ((h.0, record { variables = map (λ v. v.1) h.0; constraints = cs }), query (some_variables h.1) (with_constraints g)))

  query_begins : (ds : List Token) (w : List ℕ) (b : Bool) → is_with w ≡ b → b || is_name w ≡ true → ds ≡ []
      → Begun (if b then a_constraint else the_colon []) (ds ++ word w ∷ [])
  query_begins ds w true is goes e = begins_constraints (ds ++ word w ∷ []) [] (with_first ds w e is)
  query_begins ds w false is goes e = ([], w, ap (λ z. z ++ word w ∷ []) e, goes, λ us h. h)

  constraint_begins : (ds : List Token) (w : List ℕ) (b : Bool) → bytes_eq w (codes "not") ≡ b → b || is_name w ≡ true → Known w
      → Begun a_constraint ds → Begun (if b then a_negated_walk else after_variable 0 false) (ds ++ word w ∷ [])
  constraint_begins ds w true is goes known i =
      longer (λ new part. part ≡ []) (λ new part. part ≡ word (codes "not") ∷ []) ds (word w) i
      (λ new part e. ap (λ z. z ++ word w ∷ []) e ∙ ap (λ v. word v ∷ []) ((bytes_eq-Decides w (codes "not")).0 is))
  constraint_begins ds w false is goes known i =
      longer (λ new part. part ≡ []) NamedFirst ds (word w) i (λ new part e. (w, ap (λ z. z ++ word w ∷ []) e, variable_known new w goes known))

  kind_step : (w : List ℕ) → is_name w ≡ true → Known w → HasStep (word w ∷ [])
  kind_step w is known = let d = kind_known w is known in (Along d.0, of_atom (forwards d.1))

  kind_step_back : (w : List ℕ) → is_name w ≡ true → Known w → HasStep (caret ∷ word w ∷ [])
  kind_step_back w is known = let d = kind_known w is known in (Against d.0, of_atom (backwards d.1))

  plus_on : (k : ℕ) (ps : List Token) → BehindStep k ps → BehindStep k (ps ++ plus ∷ [])
  plus_on k ps b = (b.0, b.1 ++ plus ∷ [], one_longer ps b.0 b.1 plus b.2, b.3, (Chain b.4.0, chain b.4.1))

  on_path : (R T : List Token → Type 0) (ds : List Token) (t : Token) → ((ps : List Token) → R ps → T (ps ++ t ∷ [])) → Within (Walking R) ds
      → Within (Walking T) (ds ++ t ∷ [])
  on_path R T ds t more i = longer (Walking R) (Walking T) ds t i (along R T t more)

  -- ---- one token more

  advance : (n : Next) (t : Token) (ds : List Token) → goes_on n t ≡ true → KnownToken t → Begun n ds → Begun (step n t) (ds ++ t ∷ [])
  advance a_query (word w) ds goes known i = query_begins ds w (is_with w) refl goes i
  advance a_query t ds goes known i = absurd (true≢false (sym goes))
  advance a_new_variable (word w) ds goes known i = (ds, w, refl, goes, i)
  advance a_new_variable t ds goes known i = absurd (true≢false (sym goes))
  advance (the_colon z) colon ds goes known i = (i.0, i.1, one_longer ds i.0 (word i.1 ∷ []) colon i.2, i.3, i.4)
  advance (the_colon z) t ds goes known i = absurd (true≢false (sym goes))
  advance (the_type z) (word w) ds goes known i = variables_end ds w goes known i
  advance (the_type z) t ds goes known i = absurd (true≢false (sym goes))
  advance after_type comma ds goes known i = i.1
  advance after_type (word w) ds goes known i = begins_constraints (ds ++ word w ∷ []) i.0.0 (with_behind ds w i.0 goes)
  advance after_type t ds goes known i = absurd (true≢false (sym goes))
  advance a_constraint (word w) ds goes known i = constraint_begins ds w (bytes_eq w (codes "not")) refl goes known i
  advance a_constraint t ds goes known i = absurd (true≢false (sym goes))
  advance a_negated_walk (word w) ds goes known i =
      longer (λ new part. part ≡ word (codes "not") ∷ []) NegatedFirst ds (word w) i (λ new part e. (w, ap (λ z. z ++ word w ∷ []) e, variable_known new w goes known))
  advance a_negated_walk t ds goes known i = absurd (true≢false (sym goes))
  advance (after_variable v true) open_bracket ds goes known i = longer NegatedFirst (Walking OnPath) ds open_bracket i negated_walk_begins
  advance (after_variable v true) t ds goes known i = absurd (true≢false (sym goes))
  advance (after_variable v false) open_bracket ds goes known i = longer NamedFirst (Walking OnPath) ds open_bracket i walk_begins
  advance (after_variable v false) dot ds goes known i = longer NamedFirst Dotted ds dot i (λ new part f. (f.0, ap (λ z. z ++ dot ∷ []) f.1, f.2))
  advance (after_variable v false) t ds goes known i = absurd (true≢false (sym goes))
  advance (an_attribute v) (word w) ds goes known i = longer Dotted Compared ds (word w) i (attribute_compared w goes known)
  advance (an_attribute v) t ds goes known i = absurd (true≢false (sym goes))
  advance a_comparison equal_sign ds goes known i = longer Compared Quoting ds equal_sign i quoting_equal
  advance a_comparison exclamation ds goes known i = longer Compared Quoting ds exclamation i quoting_unequal
  advance a_comparison t ds goes known i = absurd (true≢false (sym goes))
  advance a_quoted_text (quoted s) ds goes known i = ends Quoting ds (quoted s) i (λ new part q. q s)
  advance a_quoted_text t ds goes known i = absurd (true≢false (sym goes))
  advance (a_step k) (word w) ds goes known i =
      on_path (Nest k) (BehindStep k) ds (word w) (λ ps n. (ps, word w ∷ [], refl, n, kind_step w goes known)) i
  advance (a_step k) caret ds goes known i = on_path (Nest k) (BehindCaret k) ds caret (λ ps n. (ps, refl, n)) i
  advance (a_step k) open_paren ds goes known i = on_path (Nest k) (Nest (k + 1)) ds open_paren (opens k) i
  advance (a_step k) t ds goes known i = absurd (true≢false (sym goes))
  advance (a_step_back k) (word w) ds goes known i =
      on_path (BehindCaret k) (BehindStep k) ds (word w)
      (λ ps b. (b.0, caret ∷ word w ∷ [], one_longer ps b.0 (caret ∷ []) (word w) b.1, b.2, kind_step_back w goes known)) i
  advance (a_step_back k) t ds goes known i = absurd (true≢false (sym goes))
  advance (after_step zero) plus ds goes known i = on_path (BehindStep 0) (BehindStep 0) ds plus (plus_on 0) i
  advance (after_step zero) bar ds goes known i = on_path (BehindStep 0) (Nest 0) ds bar (next_step bar (bar_on m (at_start scope)) 0) i
  advance (after_step zero) slash ds goes known i = on_path (BehindStep 0) (Nest 0) ds slash (next_step slash (slash_on m (at_start scope)) 0) i
  advance (after_step zero) close_bracket ds goes known i = on_path (BehindStep 0) BehindPath ds close_bracket path_ends i
  advance (after_step zero) t ds goes known i = absurd (true≢false (sym goes))
  advance (after_step (suc k)) plus ds goes known i = on_path (BehindStep (suc k)) (BehindStep (suc k)) ds plus (plus_on (suc k)) i
  advance (after_step (suc k)) bar ds goes known i =
      on_path (BehindStep (suc k)) (Nest (suc k)) ds bar (next_step bar (bar_on m (at_start scope)) (suc k)) i
  advance (after_step (suc k)) slash ds goes known i =
      on_path (BehindStep (suc k)) (Nest (suc k)) ds slash (next_step slash (slash_on m (at_start scope)) (suc k)) i
  advance (after_step (suc k)) close_paren ds goes known i = on_path (BehindStep (suc k)) (BehindStep k) ds close_paren (closes k) i
  advance (after_step (suc k)) t ds goes known i = absurd (true≢false (sym goes))
  advance the_other_end (word y) ds goes known i = ends (Walking BehindPath) ds (word y) i (walk_ends y goes known)
  advance the_other_end t ds goes known i = absurd (true≢false (sym goes))
  advance after_constraint comma ds goes known i = begins_constraints (ds ++ comma ∷ []) i.new i.on
  advance after_constraint t ds goes known i = absurd (true≢false (sym goes))

  at_end : (n : Next) (ds : List Token) → may_end n ≡ true → Begun n ds → HasQuery (ds ++ [])
  at_end a_query ds e i = subst (λ z. HasQuery (z ++ [])) (sym i) (([], record { variables = []; constraints = [] }), query no_variables unconditional)
  at_end after_type ds e i =
      ((i.0.0, record { variables = map (λ v. v.1) i.0.0; constraints = [] }), query (some_variables i.0.1) unconditional)
  at_end after_constraint ds e i = subst HasQuery (sym (append-nil ds)) i.whole
  at_end n ds e i = absurd (true≢false (sym e))

  -- each word of the tokens is known
  abbrev AllKnown : List Token → Type 0
  AllKnown [] = Unit {0}
  AllKnown (t ∷ ts) = KnownToken t × AllKnown ts

  run_is_query : (ts : List Token) (n : Next) (ds : List Token) → Runs n ts → AllKnown ts → Begun n ds → HasQuery (ds ++ ts)
  run_is_query [] n ds r known i = at_end n ds r i
  run_is_query (t ∷ ts) n ds r known i =
      subst HasQuery (append_assoc ds (t ∷ []) ts) (run_is_query ts (step n t) (ds ++ t ∷ []) r.1 known.1 (advance n t ds r.0 known.0 i))

  -- tokens that go on from the first to an end are a query
  passing_query : (ts : List Token) → Runs a_query ts → AllKnown ts → HasQuery ts
  passing_query ts r known = run_is_query ts a_query [] r known refl

-- ---- all words of the tokens

abbrev words_of : List Token → List (List ℕ)
words_of [] = []
words_of (word w ∷ ts) = w ∷ words_of ts
words_of (t ∷ ts) = words_of ts

still_known : (w v : List ℕ) (ws : List (List ℕ)) → Known ws v → Known (w ∷ ws) v
still_known w v ws k = go (bytes_eq v (codes "x")) (bytes_eq v w) (is_among ws v) k
  where
    go : (a b c : Bool) → a || c ≡ true → a || (b || c) ≡ true
    go true b c e = refl
    go false true c e = refl
    go false false c e = e

all_still_known : (w : List ℕ) (ws : List (List ℕ)) (ts : List Token) → AllKnown ws ts → AllKnown (w ∷ ws) ts
all_still_known w ws [] k = tt
all_still_known w ws (word v ∷ ts) k = (still_known w v ws k.0, all_still_known w ws ts k.1)
all_still_known w ws (t ∷ ts) k = (tt, all_still_known w ws ts k.1)

first_known : (w : List ℕ) (ws : List (List ℕ)) → Known (w ∷ ws) w
first_known w ws = go (bytes_eq w (codes "x")) (bytes_eq w w) (is_among ws w) ((bytes_eq-Decides w w).1 refl)
  where
    go : (a b c : Bool) → b ≡ true → a || (b || c) ≡ true
    go true b c e = refl
    go false true c e = refl
    go false false c e = absurd (true≢false (sym e))

each_known : (ts : List Token) → AllKnown (words_of ts) ts
each_known [] = tt
each_known (word w ∷ ts) = (first_known w (words_of ts), all_still_known w (words_of ts) ts (each_known ts))
each_known (t ∷ ts) = (tt, each_known ts)

-- tokens that go on from the first to an end are a query, over some model and scope
pub runs_query : (ts : List Token) → Runs a_query ts → (m : Model) × (scope : Scope) × (q : Scope × Query) × IsQuery m scope ts q
runs_query ts r = let h = passing_query (words_of ts) ts r (each_known ts) in (model_of (words_of ts), scope_of (codes "x" ∷ words_of ts), h.0, h.1)
