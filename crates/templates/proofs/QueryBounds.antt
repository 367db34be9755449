-- A query without a fault has at most three new variables.
use Rattle.std.proofs.Common.{◌≡◌, ◌∙◌, sym, ap, subst, refl, ℕ, suc, ◌+◌, ◌≤◌, ◌<◌, List, [], ◌∷◌, ◌++◌, length, map, Bool, true, false, Option, Some, None, arith}
use Rattle.std.specs.Prelude.{if◌then◌else◌, not, ◌||◌, ◌&&◌, ◌==◌, nat_le, codes, bytes_eq, is_some, option_and_then, option_map}
use Rattle.std.proofs.lemmas.Bool.{true≢false, leb-false}
use Rattle.std.proofs.lemmas.List.{append-nil}
use Rattle.meaning.specs.Texts.{is_name, begins_with_letter}
use Rattle.meaning.specs.Models.{Model}
use Rattle.meaning.specs.Queries.{Query, Constraint}
use Rattle.meaning.specs.BundlePlaces.{or_else}
use Rattle.meaning.specs.ExpressionFaults.{TextFault, TooMany, Syntax, UnknownName, Repeated}
use Rattle.meaning.specs.QueryTexts.{Scope, Token, word, quoted, colon, comma, equal_sign, exclamation, blank, strange, cut_at_quotes, in_first, signs_of, alternate, then_token, proper, tokens_of, type_number, read_variables, typed, read_conditions, query_of_tokens, query_of}
use Rattle.meaning.specs.QueryFaults.{word_or_strange, placed_signs, placed_tokens, Next, a_query, a_new_variable, the_colon, the_type, after_type, a_constraint, after_step, Progress, goes_on, going_on, with_variable, is_with, is_stray, is_known, new_variable, is_variable_too_many, begins_constraint_too_many, stands_in_scope, progress_after, fault_from, query_fault}

-- ---- what no fault at the first token tells

none_parts : (b g k s : Bool) (at : ℕ) (y : Option TextFault)
    → or_else (if b then Some (TooMany at) else (if not g then Some (Syntax at) else (if not k then Some (UnknownName at)
    else (if s then Some (Repeated at) else None)))) y ≡ None → (b ≡ false) × (g ≡ true) × (y ≡ None)
none_parts true g k s at y e = absurd cc
none_parts false false k s at y e = absurd cc
none_parts false true false s at y e = absurd cc
none_parts false true true true at y e = absurd cc
none_parts false true true false at y e = (refl, refl, e)

-- the tokens, without their places
abbrev bare : List (ℕ × Token) → List Token
bare qs = map (λ q. q.1) qs

module _ (m : Model) (end : ℕ) where
  first_part : (count : ℕ) (p : Progress) (q : ℕ × Token) (qs : List (ℕ × Token)) → fault_from m end count p (q ∷ qs) ≡ None
      → ((nat_le 256 count || is_variable_too_many p (new_variable p.next q.1 qs) || begins_constraint_too_many p p.next q.1) ≡ false)
      × (goes_on p.next q.1 ≡ true) × (fault_from m end (count + 1) (progress_after m p p.next q.1) qs ≡ None)
  first_part count p q qs e =
      none_parts (nat_le 256 count || is_variable_too_many p (new_variable p.next q.1 qs) || begins_constraint_too_many p p.next q.1) (goes_on p.next q.1)
      (is_known m p p.next q.1) (stands_in_scope p (new_variable p.next q.1 qs)) q.0 (fault_from m end (count + 1) (progress_after m p p.next q.1) qs) e

-- ---- a text without a fault is a row of tokens, none of them stray

abbrev NoStrays : List (ℕ × Token) → Type 0
NoStrays [] = Unit {0}
NoStrays (q ∷ qs) = (is_stray q.1 ≡ false) × NoStrays qs

stray_halts : (n : Next) → goes_on n strange ≡ false
stray_halts a_query = refl
stray_halts (after_step opened) = refl
stray_halts n = refl

going_no_stray : (n : Next) (t : Token) → goes_on n t ≡ true → is_stray t ≡ false
going_no_stray n strange e = absurd (true≢false (sym e ∙ stray_halts n))
going_no_stray n t e = refl

no_strays : (m : Model) (end : ℕ) (qs : List (ℕ × Token)) (count : ℕ) (p : Progress) → fault_from m end count p qs ≡ None → NoStrays qs
no_strays m end [] count p e = tt
no_strays m end (q ∷ qs) count p e =
    let parts = first_part m end count p q qs e in
    (going_no_stray p.next q.1 parts.1, no_strays m end qs (count + 1) (progress_after m p p.next q.1) parts.2)

word_begins : (w : List ℕ) → is_stray (word_or_strange w) ≡ false → begins_with_letter w ≡ true
word_begins w e = go (begins_with_letter w) e
  where
    go : (b : Bool) → is_stray (if b then word w else strange) ≡ false → b ≡ true
    go true e = refl
    go false e = absurd (true≢false e)

strays_behind : (at : ℕ) (ts : List Token) (rest : List (ℕ × Token)) → NoStrays (placed_signs at ts rest) → NoStrays rest
strays_behind at [] rest h = h
strays_behind at (word w ∷ ts) rest h = strays_behind (at + length w) ts rest h.1
strays_behind at (blank ∷ ts) rest h = strays_behind (at + 1) ts rest h
strays_behind at (exclamation ∷ equal_sign ∷ ts) rest h = strays_behind (at + 2) ts rest h.1
strays_behind at (exclamation ∷ ts) rest h = absurd (true≢false h.0)
strays_behind at (t ∷ ts) rest h = strays_behind (at + 1) ts rest h.1

-- signs in front of tokens are the tokens that stand there
signs_are_proper : (at : ℕ) (ts : List Token) (rest : List (ℕ × Token)) (us : List Token) → NoStrays (placed_signs at ts rest) → proper us ≡ Some (bare rest)
    → proper (ts ++ us) ≡ Some (bare (placed_signs at ts rest))
signs_are_proper at [] rest us h e = e
signs_are_proper at (word w ∷ ts) rest us h e =
    let letter = word_begins w h.0 in
    ap (λ b. if b then then_token (word w) (proper (ts ++ us)) else None) letter
    ∙ (ap (then_token (word w)) (signs_are_proper (at + length w) ts rest us h.1 e)
    ∙ ap (λ b. Some ((if b then word w else strange) ∷ bare (placed_signs (at + length w) ts rest))) (sym letter))
signs_are_proper at (blank ∷ ts) rest us h e = signs_are_proper (at + 1) ts rest us h e
signs_are_proper at (strange ∷ ts) rest us h e = absurd (true≢false h.0)
signs_are_proper at (exclamation ∷ equal_sign ∷ ts) rest us h e = ap (then_token exclamation) (signs_are_proper (at + 2) ts rest us h.1 e)
signs_are_proper at (exclamation ∷ ts) rest us h e = absurd (true≢false h.0)
signs_are_proper at (t ∷ ts) rest us h e = ap (then_token t) (signs_are_proper (at + 1) ts rest us h.1 e)

pieces_are_tokens : (s : List ℕ) (ss : List (List ℕ)) (at : ℕ) → NoStrays (placed_tokens at (s ∷ ss))
    → option_and_then proper (alternate (s ∷ ss)) ≡ Some (bare (placed_tokens at (s ∷ ss)))
pieces_are_tokens s [] at h = ap proper (sym (append-nil (signs_of s))) ∙ signs_are_proper at (signs_of s) [] [] h refl
pieces_are_tokens s (q ∷ []) at h =
    let r = strays_behind at (signs_of s) ((at + length s, strange) ∷ []) h in absurd (true≢false r.0)
pieces_are_tokens s (q ∷ r ∷ ss) at h =
    let behind = strays_behind at (signs_of s) ((at + length s, quoted q) ∷ placed_tokens (at + length s + length q + 2) (r ∷ ss)) h in
    go (alternate (r ∷ ss)) (pieces_are_tokens r ss (at + length s + length q + 2) behind.1)
  where
    go : (o : Option (List Token)) → option_and_then proper o ≡ Some (bare (placed_tokens (at + length s + length q + 2) (r ∷ ss)))
        → option_and_then proper (option_map (λ ts. signs_of s ++ quoted q ∷ ts) o) ≡ Some (bare (placed_tokens at (s ∷ q ∷ r ∷ ss)))
    go None e = absurd cc
    go (Some ts) e =
        signs_are_proper at (signs_of s) ((at + length s, quoted q) ∷ placed_tokens (at + length s + length q + 2) (r ∷ ss)) (quoted q ∷ ts) h (ap (then_token (quoted q)) e)

pub cut_shape : (s : List ℕ) → (h : List ℕ) × (hs : List (List ℕ)) × (cut_at_quotes s ≡ h ∷ hs)
cut_shape [] = ([], [], refl)
cut_shape (c ∷ cs) = go (c == 39) (cut_shape cs)
  where
    go : (b : Bool) → (h : List ℕ) × (hs : List (List ℕ)) × (cut_at_quotes cs ≡ h ∷ hs)
        → (h : List ℕ) × (hs : List (List ℕ)) × ((if b then [] ∷ cut_at_quotes cs else in_first c (cut_at_quotes cs)) ≡ h ∷ hs)
    go true r = ([], cut_at_quotes cs, refl)
    go false r = (c ∷ r.0, r.1, ap (in_first c) r.2)

tokens_are : (s : List ℕ) → NoStrays (placed_tokens 0 (cut_at_quotes s)) → tokens_of s ≡ Some (bare (placed_tokens 0 (cut_at_quotes s)))
tokens_are s strays = go (cut_shape s)
  where
    go : (h : List ℕ) × (hs : List (List ℕ)) × (cut_at_quotes s ≡ h ∷ hs) → tokens_of s ≡ Some (bare (placed_tokens 0 (cut_at_quotes s)))
    go (h, hs, shape) =
        ap (λ ss. option_and_then proper (alternate ss)) shape
        ∙ (pieces_are_tokens h hs 0 (subst (λ ss. NoStrays (placed_tokens 0 ss)) shape strays) ∙ ap (λ ss. Some (bare (placed_tokens 0 ss))) (sym shape))

-- ---- the number of new variables

middle_false : (a v c : Bool) → (a || v || c) ≡ false → v ≡ false
middle_false true v c e = absurd (true≢false e)
middle_false false true c e = absurd (true≢false e)
middle_false false false c e = refl

module _ (m : Model) (end : ℕ) where
  abbrev state : Scope → ℕ → ℕ → Next → Progress
  state scope new constraints next = record { next = next; scope = scope; new = new; constraints = constraints }

  -- a name with a colon behind it is a new variable, and not the fourth
  named : (count new cs : ℕ) (scope : Scope) (x : List ℕ) (at : ℕ) (q : ℕ) (qs : List (ℕ × Token))
      → fault_from m end count (state scope new cs a_new_variable) ((at, word x) ∷ (q, colon) ∷ qs) ≡ None
      → (new < 3) × (fault_from m end (count + 1) (state scope new cs (the_colon x)) ((q, colon) ∷ qs) ≡ None)
  named count new cs scope x at q qs e =
      let parts = first_part m end count (state scope new cs a_new_variable) (at, word x) ((q, colon) ∷ qs) e in
      (go (is_name x) parts.1 (middle_false (nat_le 256 count) _ _ parts.0), parts.2)
    where
      go : (b : Bool) → b ≡ true → is_variable_too_many (state scope new cs a_new_variable) (if b && true then Some x else None) ≡ false → new < 3
      go true is few = let l = leb-false 3 new few in omega arith
      go false is few = absurd cc

  queried : (count new cs : ℕ) (scope : Scope) (x : List ℕ) (at : ℕ) (q : ℕ) (qs : List (ℕ × Token))
      → fault_from m end count (state scope new cs a_query) ((at, word x) ∷ (q, colon) ∷ qs) ≡ None
      → (new < 3) × (fault_from m end (count + 1) (state scope new cs (the_colon x)) ((q, colon) ∷ qs) ≡ None)
  queried count new cs scope x at q qs e =
      let parts = first_part m end count (state scope new cs a_query) (at, word x) ((q, colon) ∷ qs) e in
      go (is_with x) (is_name x) parts.1 (middle_false (nat_le 256 count) _ _ parts.0) parts.2
    where
      go : (w b : Bool) → (w || b) ≡ true → is_variable_too_many (state scope new cs a_query) (if b && true then Some x else None) ≡ false
          → fault_from m end (count + 1) (state scope new cs (if w then a_constraint else the_colon x)) ((q, colon) ∷ qs) ≡ None
          → (new < 3) × (fault_from m end (count + 1) (state scope new cs (the_colon x)) ((q, colon) ∷ qs) ≡ None)
      go true b is few next =
          let parts = first_part m end (count + 1) (state scope new cs a_constraint) (q, colon) qs next in absurd (true≢false (sym parts.1))
      go false false is few next = absurd cc
      go false true is few next = (let l = leb-false 3 new few in omega arith, next)

  -- behind the type of a new variable
  behind_type : (count new cs : ℕ) (scope : Scope) (x t : List ℕ) (q r : ℕ) (qs : List (ℕ × Token))
      → fault_from m end count (state scope new cs (the_colon x)) ((q, colon) ∷ (r, word t) ∷ qs) ≡ None
      → fault_from m end (count + 1 + 1) (with_variable m (state scope new cs (the_type x)) x t) qs ≡ None
  behind_type count new cs scope x t q r qs e =
      let colon_part = first_part m end count (state scope new cs (the_colon x)) (q, colon) ((r, word t) ∷ qs) e in
      let type_part = first_part m end (count + 1) (state scope new cs (the_type x)) (r, word t) qs colon_part.2 in
      type_part.2

  behind_comma : (count new cs : ℕ) (scope : Scope) (q : ℕ) (qs : List (ℕ × Token))
      → fault_from m end count (state scope new cs after_type) ((q, comma) ∷ qs) ≡ None → fault_from m end (count + 1) (state scope new cs a_new_variable) qs ≡ None
  behind_comma count new cs scope q qs e =
      let parts = first_part m end count (state scope new cs after_type) (q, comma) qs e in parts.2

  few_more : (qs : List (ℕ × Token)) (count new cs : ℕ) (scope : Scope) → fault_from m end count (state scope new cs a_new_variable) qs ≡ None → new ≤ 3
      → new + length (read_variables (bare qs)).0 ≤ 3
  few_more [] count new cs scope e l = omega arith
  few_more ((a, word x) ∷ (b, colon) ∷ (c, word t) ∷ (d, comma) ∷ qs) count new cs scope e l =
      let one = named count new cs scope x a b ((c, word t) ∷ (d, comma) ∷ qs) e in
      let two = behind_type (count + 1) new cs scope x t b c ((d, comma) ∷ qs) one.1 in
      let three = behind_comma (count + 1 + 1 + 1) (new + 1) cs _ d qs two in
      let rest = few_more qs (count + 1 + 1 + 1 + 1) (new + 1) cs _ three (let k = one.0 in omega arith) in
      omega arith
  few_more ((a, word x) ∷ (b, colon) ∷ (c, word t) ∷ qs) count new cs scope e l =
      let one = named count new cs scope x a b ((c, word t) ∷ qs) e in let k = one.0 in omega arith
  few_more (q ∷ qs) count new cs scope e l = omega arith

  few_read : (qs : List (ℕ × Token)) (scope : Scope) → fault_from m end 0 (state scope 0 0 a_query) qs ≡ None → length (read_variables (bare qs)).0 ≤ 3
  few_read ((a, word x) ∷ (b, colon) ∷ (c, word t) ∷ (d, comma) ∷ qs) scope e =
      let one = queried 0 0 0 scope x a b ((c, word t) ∷ (d, comma) ∷ qs) e in
      let two = behind_type (0 + 1) 0 0 scope x t b c ((d, comma) ∷ qs) one.1 in
      let three = behind_comma (0 + 1 + 1 + 1) (0 + 1) 0 _ d qs two in
      let rest = few_more qs (0 + 1 + 1 + 1 + 1) (0 + 1) 0 _ three (omega arith) in
      omega arith
  few_read ((a, word x) ∷ (b, colon) ∷ (c, word t) ∷ qs) scope e = omega arith
  few_read qs scope e = omega arith

typed_as_many : (m : Model) (vs : List (List ℕ × List ℕ)) (new : Scope) → typed m vs ≡ Some new → length new ≡ length vs
typed_as_many m [] new e = let is : [] ≡ new = cc in ap length (sym is)
typed_as_many m ((x, t) ∷ vs) new e = go (type_number m t) (typed m vs) (typed_as_many m vs) e
  where
    go : (n : Option ℕ) (o : Option Scope) → ((rest : Scope) → o ≡ Some rest → length rest ≡ length vs)
        → option_and_then (λ k. option_map (λ others. (x, k) ∷ others) o) n ≡ Some new → length new ≡ suc (length vs)
    go None o later e = absurd cc
    go (Some n) None later e = absurd cc
    go (Some n) (Some rest) later e = let whole : (x, n) ∷ rest ≡ new = cc in ap length (sym whole) ∙ ap suc (later rest refl)

abbrev or_first : Scope → Option (Scope × Query) → Scope
or_first vs None = vs
or_first vs (Some p) = p.0

abbrev built : Scope → List Constraint → Scope × Query
built new cs = (new, record { variables = map (λ v. v.1) new; constraints = cs })

pub few_variables : (m : Model) (scope : Scope) (s : List ℕ) (new : Scope) (q : Query) → query_fault m scope s ≡ None → query_of m scope s ≡ Some (new, q) → length new ≤ 3
unfolding query_fault query_of
few_variables m scope s new q none is =
    let qs : List (ℕ × Token) = placed_tokens 0 (cut_at_quotes s) in
    let tokens : tokens_of s ≡ Some (bare qs) = tokens_are s (no_strays m (length s) qs 0 (state m (length s) scope 0 0 a_query) none) in
    let few : length (read_variables (bare qs)).0 ≤ 3 = few_read m (length s) qs scope none in
    let read : query_of_tokens m scope (bare qs) ≡ Some (new, q) = sym (ap (option_and_then (query_of_tokens m scope)) tokens) ∙ is in
    go (read_variables (bare qs)).0 (read_variables (bare qs)).1 (typed m (read_variables (bare qs)).0) (typed_as_many m (read_variables (bare qs)).0) few read
  where
    with_conditions : (vs : Scope) (o : Option (List Constraint)) → length vs ≤ 3 → option_map (built vs) o ≡ Some (new, q) → length new ≤ 3
    with_conditions vs None few e = absurd cc
    with_conditions vs (Some cs) few e =
        let p : Scope × Query = (new, q) in
        let whole : Some (built vs cs) ≡ Some p = e in
        let same : vs ≡ new = ap (λ o. or_first vs o) whole in
        subst (λ x. length x ≤ 3) same few

    go : (vars : List (List ℕ × List ℕ)) (ts : List Token) (o : Option Scope) → ((vs : Scope) → o ≡ Some vs → length vs ≡ length vars) → length vars ≤ 3
        → option_and_then (λ vs. option_map (built vs) (read_conditions m (scope ++ vs) ts)) o ≡ Some (new, q) → length new ≤ 3
    go vars ts None many few e = absurd cc
    go vars ts (Some vs) many few e =
        with_conditions vs (read_conditions m (scope ++ vs) ts) (let l = many vs refl in omega arith) e
