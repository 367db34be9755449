-- A query without a fault has at most three new variables.
use Rattle.std.proofs.Common.{◌≡◌, ℕ, suc, ◌+◌, ◌<◌, ◌≤◌, List, [], ◌∷◌, ◌++◌, map, length, Bool, true, false, not, ◌&&◌, ◌||◌, Option, Some, None, refl, sym, ap, ◌∙◌, arith}
use Rattle.std.specs.Prelude.{codes, option_map, option_and_then, nat_le, unwrap_or, if◌then◌else◌, ⊤}
use Rattle.std.proofs.lemmas.Bool.Decides.{nat_tests}
use Rattle.std.proofs.lemmas.List.{length-map, append-nil}
use Rattle.meaning.specs.Texts.{begins_with_letter, is_name}
use Rattle.meaning.specs.Documents.{Document}
use Rattle.meaning.specs.Models.{Model}
use Rattle.meaning.specs.Queries.{Query, Constraint}
use Rattle.meaning.specs.QueryTexts.{Token, word, quoted, colon, comma, equal_sign, exclamation, blank, strange, cut_at_quotes, signs_of, alternate, then_token, proper, tokens_of, Scope, type_number, read_variables, typed, read_conditions, query_of_tokens, query_of}
use Rattle.meaning.specs.QueryFaults.{placed_signs, placed_tokens, Next, a_query, a_new_variable, the_colon, the_type, after_type, a_constraint, Progress, is_with, goes_on, with_variable, is_known, new_variable, is_variable_too_many, begins_constraint_too_many, stands_in_scope, token_fault, fault_from, query_fault}
use Rattle.meaning.specs.ExpressionFaults.{TextFault, TooMany, Syntax, UnknownName, Repeated}
use Rattle.meaning.specs.BundlePlaces.{text_of_member}
use Rattle.meaning.specs.TemplateTexts.{query_at}
use Rattle.meaning.specs.TemplateRules.{NodeContext, scope_of, query_fault_at, first_query_fault}
use Rattle.lifting.specs.FittingTemplates.{FewVariables}
use Rattle.meaning.proofs.EqualityTests.{not_both, none_is_some, some_is}
use Rattle.lifting.proofs.ReadTemplateOrder.{and_then_some, map_some, both_none}

-- ---- the tokens with their places are the tokens

abbrev unplaced : List (ℕ × Token) → List Token
unplaced ts = map (λ t. t.1) ts

one_more : (t : Token) (o : Option (List Token)) (ts xs : List Token) → then_token t o ≡ Some ts → ((rs : List Token) → o ≡ Some rs → xs ≡ rs) → t ∷ xs ≡ ts
one_more t o ts xs e h =
    let found : (rs : List Token) × (o ≡ Some rs) × (t ∷ rs ≡ ts) = map_some (λ us. t ∷ us) o ts e in ap (λ us. t ∷ us) (h found.0 found.1) ∙ found.2

-- nothing more, or a quoted text
abbrev IsEndOrQuoted : List Token → Type 0
IsEndOrQuoted [] = ⊤
IsEndOrQuoted (quoted q ∷ ts) = ⊤
IsEndOrQuoted _ = ⊥

no_comparison : (vs : List Token) → IsEndOrQuoted vs → proper (exclamation ∷ vs) ≡ None
no_comparison [] h = refl
no_comparison (quoted q ∷ vs) h = refl
no_comparison _ h = elim h [ ]

module _ (vs : List Token) (rest : List (ℕ × Token)) (ends : IsEndOrQuoted vs) (later : (rs : List Token) → proper vs ≡ Some rs → unplaced rest ≡ rs) where
  signs_unplaced : (at : ℕ) (us ts : List Token) → proper (us ++ vs) ≡ Some ts → unplaced (placed_signs at us rest) ≡ ts
  signs_unplaced at [] ts e = later ts e
  signs_unplaced at (blank ∷ us) ts e = signs_unplaced (at + 1) us ts e
  signs_unplaced at (strange ∷ us) ts e = elim (none_is_some ts e) [ ]
  signs_unplaced at (exclamation ∷ []) ts e = elim (none_is_some ts (sym (no_comparison vs ends) ∙ e)) [ ]
  signs_unplaced at (exclamation ∷ equal_sign ∷ us) ts e =
      one_more exclamation (proper (us ++ vs)) ts (unplaced (placed_signs (at + 2) us rest)) e (λ rs f. signs_unplaced (at + 2) us rs f)
  signs_unplaced at (exclamation ∷ t ∷ us) ts e = elim (none_is_some ts e) [ ]
  signs_unplaced at (word w ∷ us) ts e = go (begins_with_letter w) (λ rs f. signs_unplaced (at + length w) us rs f) e
    where
      go : (b : Bool) → ((rs : List Token) → proper (us ++ vs) ≡ Some rs → unplaced (placed_signs (at + length w) us rest) ≡ rs)
          → (if b then then_token (word w) (proper (us ++ vs)) else None) ≡ Some ts
          → (if b then word w else strange) ∷ unplaced (placed_signs (at + length w) us rest) ≡ ts
      go true h e = one_more (word w) (proper (us ++ vs)) ts (unplaced (placed_signs (at + length w) us rest)) e h
      go false h e = elim (none_is_some ts e) [ ]
  signs_unplaced at (t ∷ us) ts e = one_more t (proper (us ++ vs)) ts (unplaced (placed_signs (at + 1) us rest)) e (λ rs f. signs_unplaced (at + 1) us rs f)

pieces_unplaced : (at : ℕ) (pieces : List (List ℕ)) (us ts : List Token) → alternate pieces ≡ Some us → proper us ≡ Some ts → unplaced (placed_tokens at pieces) ≡ ts
pieces_unplaced at [] us ts e f = elim (none_is_some us e) [ ]
pieces_unplaced at (s ∷ []) us ts e f =
    signs_unplaced [] [] tt (λ rs g. some_is [] rs g) at (signs_of s) ts (ap proper (append-nil (signs_of s) ∙ some_is (signs_of s) us e) ∙ f)
pieces_unplaced at (s ∷ q ∷ []) us ts e f = elim (none_is_some us e) [ ]
pieces_unplaced at (s ∷ q ∷ r ∷ ss) us ts e f =
    let found : (vs : List Token) × (alternate (r ∷ ss) ≡ Some vs) × (signs_of s ++ quoted q ∷ vs ≡ us) = map_some (λ ts. signs_of s ++ quoted q ∷ ts) (alternate (r ∷ ss)) us e in
    let behind : ℕ = at + length s + length q + 2 in
    signs_unplaced (quoted q ∷ found.0) ((at + length s, quoted q) ∷ placed_tokens behind (r ∷ ss)) tt
    (λ rs g. one_more (quoted q) (proper found.0) rs (unplaced (placed_tokens behind (r ∷ ss))) g (λ xs h. pieces_unplaced behind (r ∷ ss) found.0 xs found.1 h))
    at (signs_of s) ts (ap proper found.2 ∙ f)

tokens_unplaced : (s : List ℕ) (ts : List Token) → tokens_of s ≡ Some ts → unplaced (placed_tokens 0 (cut_at_quotes s)) ≡ ts
tokens_unplaced s ts e =
    let found : (us : List Token) × (alternate (cut_at_quotes s) ≡ Some us) × (proper us ≡ Some ts) = and_then_some proper (alternate (cut_at_quotes s)) ts e in
    pieces_unplaced 0 (cut_at_quotes s) found.0 ts found.1 found.2

-- ---- tokens without a fault

some_fault : (f : TextFault) → Some f ≡ None → ⊥
some_fault f e = cc

-- there are not too many before it, and it goes on
fault_says : (many goes known again : Bool) (w x y z : TextFault)
    → (if many then Some w else (if not goes then Some x else (if not known then Some y else (if again then Some z else None)))) ≡ None → (many ≡ false) × (goes ≡ true)
fault_says true goes known again w x y z e = elim (some_fault w e) [ ]
fault_says false false known again w x y z e = elim (some_fault x e) [ ]
fault_says false true known again w x y z e = (refl, refl)

second_false : (a b c : Bool) → ((a || b) || c) ≡ false → b ≡ false
second_false false false c e = refl
second_false false true c e = elim (not_both true refl e) [ ]
second_false true b c e = elim (not_both true refl e) [ ]

below_three : (n : ℕ) → nat_le 3 n ≡ false → n < 3
below_three n e = grind (arith, nat_tests)

-- what begins a variable
abbrev IsBegin : Next → Type 0
IsBegin a_query = ⊤
IsBegin a_new_variable = ⊤
IsBegin _ = ⊥

module _ (m : Model) (end : ℕ) where
  abbrev progress : Next → Scope → ℕ → ℕ → Progress
  progress next scope new constraints = record { next = next; scope = scope; new = new; constraints = constraints }

  token_says : (count : ℕ) (p : Progress) (t : ℕ × Token) (rest : List (ℕ × Token)) → token_fault m count p t rest ≡ None
      → ((nat_le 256 count || is_variable_too_many p (new_variable p.next t.1 rest) || begins_constraint_too_many p p.next t.1) ≡ false) × (goes_on p.next t.1 ≡ true)
  token_says count p t rest e =
      fault_says (nat_le 256 count || is_variable_too_many p (new_variable p.next t.1 rest) || begins_constraint_too_many p p.next t.1) (goes_on p.next t.1)
      (is_known m p p.next t.1) (stands_in_scope p (new_variable p.next t.1 rest)) (TooMany t.0) (Syntax t.0) (UnknownName t.0) (Repeated t.0) e

  module _ (scope : Scope) (new constraints : ℕ) where
    abbrev named_at : Next → ℕ → List (ℕ × Token) → Type 0
    named_at next count ts = fault_from m end count (progress next scope new constraints) ts ≡ None

    -- a name and a colon begin a variable, where there are fewer than three so far
    begins : (next : Next) → IsBegin next → (count a b : ℕ) (x : List ℕ) (rest : List (ℕ × Token)) → named_at next count ((a, word x) ∷ (b, colon) ∷ rest)
        → (new < 3) × named_at (the_colon x) (count + 1) ((b, colon) ∷ rest)
    begins a_query s count a b x rest e =
        let parts = both_none (token_fault m count (progress a_query scope new constraints) (a, word x) ((b, colon) ∷ rest)) _ e in
        let says = token_says count (progress a_query scope new constraints) (a, word x) ((b, colon) ∷ rest) parts.0 in
        go (is_with x) (is_name x) says.1 says.0 parts.1
      where
        go : (w n : Bool) → (w || n) ≡ true
            → (nat_le 256 count || is_variable_too_many (progress a_query scope new constraints) (if n && true then Some x else None) || false) ≡ false
            → named_at (if w then a_constraint else the_colon x) (count + 1) ((b, colon) ∷ rest)
            → (new < 3) × named_at (the_colon x) (count + 1) ((b, colon) ∷ rest)
        go true n g f e =
            let parts = both_none (token_fault m (count + 1) (progress a_constraint scope new constraints) (b, colon) rest) _ e in
            elim (not_both false (token_says (count + 1) (progress a_constraint scope new constraints) (b, colon) rest parts.0).1 refl) [ ]
        go false true g f e = (below_three new (second_false (nat_le 256 count) (nat_le 3 new) false f), e)
        go false false g f e = elim (not_both false g refl) [ ]
    begins a_new_variable s count a b x rest e =
        let parts = both_none (token_fault m count (progress a_new_variable scope new constraints) (a, word x) ((b, colon) ∷ rest)) _ e in
        let says = token_says count (progress a_new_variable scope new constraints) (a, word x) ((b, colon) ∷ rest) parts.0 in
        go (is_name x) says.1 says.0 parts.1
      where
        go : (n : Bool) → n ≡ true
            → (nat_le 256 count || is_variable_too_many (progress a_new_variable scope new constraints) (if n && true then Some x else None) || false) ≡ false
            → named_at (the_colon x) (count + 1) ((b, colon) ∷ rest)
            → (new < 3) × named_at (the_colon x) (count + 1) ((b, colon) ∷ rest)
        go true g f e = (below_three new (second_false (nat_le 256 count) (nat_le 3 new) false f), e)
        go false g f e = elim (not_both false g refl) [ ]
    begins _ s count a b x rest e = elim s [ ]

  module _ (scope : Scope) (new constraints : ℕ) where
    -- then its type
    type_follows : (count b d : ℕ) (x t : List ℕ) (rest : List (ℕ × Token)) → named_at scope new constraints (the_colon x) count ((b, colon) ∷ (d, word t) ∷ rest)
        → fault_from m end (count + 1 + 1) (with_variable m (progress (the_colon x) scope new constraints) x t) rest ≡ None
    type_follows count b d x t rest e =
        let first = both_none (token_fault m count (progress (the_colon x) scope new constraints) (b, colon) ((d, word t) ∷ rest)) _ e in
        (both_none (token_fault m (count + 1) (progress (the_type x) scope new constraints) (d, word t) rest) _ first.1).1

    comma_follows : (count c : ℕ) (rest : List (ℕ × Token)) → named_at scope new constraints after_type count ((c, comma) ∷ rest)
        → named_at scope new constraints a_new_variable (count + 1) rest
    comma_follows count c rest e = (both_none (token_fault m count (progress after_type scope new constraints) (c, comma) rest) _ e).1

  few_from : (next : Next) → IsBegin next → (scope : Scope) (new constraints count : ℕ) (ts : List (ℕ × Token)) → new ≤ 3 → named_at scope new constraints next count ts
      → new + length (read_variables (unplaced ts)).0 ≤ 3
  few_from next s scope new constraints count ((a, word x) ∷ (b, colon) ∷ (d, word t) ∷ (c, comma) ∷ ts) l f =
      let one = begins scope new constraints next s count a b x ((d, word t) ∷ (c, comma) ∷ ts) f in
      let two = type_follows scope new constraints (count + 1) b d x t ((c, comma) ∷ ts) one.1 in
      let larger : Scope = scope ++ (x, unwrap_or (type_number m t) 0) ∷ [] in
      let three = comma_follows larger (new + 1) constraints (count + 1 + 1 + 1) c ts two in
      omega (arith, few_from a_new_variable tt larger (new + 1) constraints (count + 1 + 1 + 1 + 1) ts (omega (arith, one.0)) three)
  few_from next s scope new constraints count ((a, word x) ∷ (b, colon) ∷ (d, word t) ∷ ts) l f =
      omega (arith, (begins scope new constraints next s count a b x ((d, word t) ∷ ts) f).0)
  few_from next s scope new constraints count ts l f = omega (arith, l)

-- ---- queries

typed_count : (m : Model) (vs : List (List ℕ × List ℕ)) (new : Scope) → typed m vs ≡ Some new → length new ≡ length vs
typed_count m [] new e = ap length (sym (some_is [] new e))
typed_count m ((x, t) ∷ vs) new e =
    let found : (n : ℕ) × (type_number m t ≡ Some n) × (option_map (λ rest. (x, n) ∷ rest) (typed m vs) ≡ Some new) =
    and_then_some (λ n. option_map (λ rest. (x, n) ∷ rest) (typed m vs)) (type_number m t) new e in
    let others : (rest : Scope) × (typed m vs ≡ Some rest) × ((x, found.0) ∷ rest ≡ new) = map_some (λ rest. (x, found.0) ∷ rest) (typed m vs) new found.2 in
    ap length (sym others.2) ∙ ap suc (typed_count m vs others.0 others.1)

abbrev query_from : List Constraint → Scope → Scope × Query
query_from cs new = (new, record { variables = map (λ v. v.1) new; constraints = cs })

-- the variables that a query adds are those of its text
pub record QueryVariables (m : Model) (scope : Scope) (s : List ℕ) (new : Scope) (q : Query) : Type 0 where
  pub types : q.variables ≡ map (λ v. v.1) new
  pub tokens : List Token
  pub of_text : tokens_of s ≡ Some tokens
  pub are : typed m (read_variables tokens).0 ≡ Some new

pub query_variables : (m : Model) (scope : Scope) (s : List ℕ) (new : Scope) (q : Query) → query_of m scope s ≡ Some (new, q) → QueryVariables m scope s new q
unfolding query_of
query_variables m scope s new q e =
    let found : (ts : List Token) × (tokens_of s ≡ Some ts) × (query_of_tokens m scope ts ≡ Some (new, q)) = and_then_some (query_of_tokens m scope) (tokens_of s) (new, q) e in
    let vars = read_variables found.0 in
    let added : (new' : Scope) × (typed m vars.0 ≡ Some new') × (option_map (λ cs. query_from cs new') (read_conditions m (scope ++ new') vars.1) ≡ Some (new, q)) =
    and_then_some (λ new. option_map (λ cs. query_from cs new) (read_conditions m (scope ++ new) vars.1)) (typed m vars.0) (new, q) found.2 in
    let whole : (cs : List Constraint) × (read_conditions m (scope ++ added.0) vars.1 ≡ Some cs) × (query_from cs added.0 ≡ (new, q)) =
    map_some (λ cs. query_from cs added.0) (read_conditions m (scope ++ added.0) vars.1) (new, q) added.2 in
    let same : added.0 ≡ new = ap (λ x. x.0) whole.2 in
    record {
      types = ap (λ x. x.1.variables) (sym whole.2) ∙ ap (λ n. map (λ v. v.1) n) same;
      tokens = found.0;
      of_text = found.1;
      are = added.1 ∙ ap Some same;
    }

-- as many types as names
pub query_adds : (m : Model) (scope : Scope) (s : List ℕ) (new : Scope) (q : Query) → query_of m scope s ≡ Some (new, q) → length q.variables ≡ length new
query_adds m scope s new q e = ap length (query_variables m scope s new q e).types ∙ length-map new (λ v. v.1)

pub few_variables : (m : Model) (scope : Scope) (s : List ℕ) (new : Scope) (q : Query) → query_of m scope s ≡ Some (new, q) → query_fault m scope s ≡ None → length q.variables ≤ 3
unfolding query_fault
few_variables m scope s new q e f =
    let v : QueryVariables m scope s new q = query_variables m scope s new q e in
    let few : 0 + length (read_variables (unplaced (placed_tokens 0 (cut_at_quotes s)))).0 ≤ 3 =
    few_from m (length s) a_query tt scope 0 0 0 (placed_tokens 0 (cut_at_quotes s)) (omega arith) f in
    let read : length (read_variables (unplaced (placed_tokens 0 (cut_at_quotes s)))).0 ≡ length (read_variables v.tokens).0 =
    ap (λ ts. length (read_variables ts).0) (tokens_unplaced s v.tokens v.of_text) in
    omega (arith, few, read, query_adds m scope s new q e, typed_count m (read_variables v.tokens).0 new v.are)

-- ---- of a node

few_at : (m : Model) (scope : Scope) (o : Option (List ℕ)) → option_and_then (query_fault m scope) o ≡ None
    → FewVariables (option_map (λ q. q.1) (option_and_then (query_of m scope) o))
few_at m scope None e = tt
few_at m scope (Some s) e = go (query_of m scope s) refl
  where
    go : (r : Option (Scope × Query)) → query_of m scope s ≡ r → FewVariables (option_map (λ q. q.1) r)
    go None f = tt
    go (Some q) f = few_variables m scope s q.0 q.1 f e

module _ (c : NodeContext) (j : ℕ) (d : Document) (none : first_query_fault c (j, d) ≡ None) where
  pub few_each_in : FewVariables (option_map (λ q. q.1) (query_at c.model (scope_of c j) (codes "each") d))
  few_each_in = few_at c.model (scope_of c j) (text_of_member (codes "each") d) (both_none (query_fault_at c j (codes "each") d) _ none).0

  pub few_guard_in : FewVariables (option_map (λ q. q.1) (query_at c.model (scope_of c j) (codes "guard") d))
  few_guard_in =
      few_at c.model (scope_of c j) (text_of_member (codes "guard") d)
      (both_none (query_fault_at c j (codes "guard") d) _ (both_none (query_fault_at c j (codes "each") d) _ none).1).0
