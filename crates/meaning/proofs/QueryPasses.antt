-- A text of a query has no fault exactly where its tokens go on from the first to an end, and aren't too many.
use Rattle.std.proofs.Common.{◌≡◌, ◌∙◌, sym, ap, subst, refl, ℕ, suc, ◌+◌, ◌≤◌, List, [], ◌∷◌, length, Bool, true, false, not, ◌&&◌, ◌||◌, Option, Some, None, arith}
use Rattle.std.specs.Prelude.{if◌then◌else◌, nat_le, unwrap_or}
use Rattle.std.proofs.lemmas.Bool.{true≢false, lt-leb, leb-false}
use Rattle.meaning.specs.Texts.{is_name}
use Rattle.meaning.specs.Models.{Model}
use Rattle.meaning.specs.BundlePlaces.{or_else}
use Rattle.meaning.specs.ExpressionFaults.{TextFault, TooMany, Syntax, UnknownName, Repeated}
use Rattle.meaning.specs.QueryTexts.{Token, word, colon, strange, then_token, Scope, cut_at_quotes, tokens_of}
use Rattle.meaning.specs.QueryFaults.{Next, a_query, a_new_variable, after_step, Progress, goes_on, may_end, is_known, follows_colon, new_variable, is_variable_too_many, begins_constraint_too_many, stands_in_scope, progress_after, fault_from, placed_tokens, query_fault}
use Rattle.meaning.proofs.QueryTokens.{unplaced, then_proper, tokens_are_placed}

-- ---- tokens that go on

abbrev pub colon_next : List Token → Bool
colon_next (colon ∷ ts) = true
colon_next _ = false

-- the new variable that the token names, if it does and a colon follows
abbrev pub named : Next → Token → Bool → Option (List ℕ)
named a_query (word x) b = if is_name x && b then Some x else None
named a_new_variable (word x) b = if is_name x && b then Some x else None
named next t b = None

-- the token has no fault but that it may be past the limit of tokens
pub record Fine (m : Model) (p : Progress) (t : Token) (ts : List Token) : Type 0 where
  pub goes : goes_on p.next t ≡ true
  pub known : is_known m p p.next t ≡ true
  pub few_variables : is_variable_too_many p (named p.next t (colon_next ts)) ≡ false
  pub few_constraints : begins_constraint_too_many p p.next t ≡ false
  pub fresh : stands_in_scope p (named p.next t (colon_next ts)) ≡ false

-- the tokens go on from here to an end
abbrev pub Passes : Model → Progress → List Token → Type 0
Passes m p [] = may_end p.next ≡ true
Passes m p (t ∷ ts) = Fine m p t ts × Passes m (progress_after m p p.next t) ts

-- ---- without places

new_is_named : (next : Next) (t : Token) (qs : List (ℕ × Token)) → new_variable next t qs ≡ named next t (follows_colon qs)
new_is_named a_query (word x) qs = refl
new_is_named a_new_variable (word x) qs = refl
new_is_named next t qs = refl

no_tokens : (o : Option (List Token)) (t : Token) → then_proper t o ≡ Some [] → ⊥
no_tokens None strange e = absurd cc
no_tokens None t e = absurd cc
no_tokens (Some ts) strange e = absurd cc
no_tokens (Some ts) t e = absurd cc

-- one token in front
pub first_token : (t : Token) (o : Option (List Token)) (ts : List Token) → then_proper t o ≡ Some ts → (us : List Token) × (o ≡ Some us) × (ts ≡ t ∷ us)
first_token strange o ts e = absurd cc
first_token t None ts e = absurd cc
first_token t (Some us) ts e = (us, refl, sym (ap (λ o. unwrap_or o []) e))

colon_same : (qs : List (ℕ × Token)) (ts : List Token) → unplaced qs ≡ Some ts → follows_colon qs ≡ colon_next ts
colon_same [] ts e = ap (λ o. colon_next (unwrap_or o [])) e
colon_same ((at, t) ∷ qs) ts e = let r = first_token t (unplaced qs) ts e in head t r.0 ∙ ap colon_next (sym r.2)
  where
    head : (t : Token) (us : List Token) → follows_colon ((at, t) ∷ qs) ≡ colon_next (t ∷ us)
    head colon us = refl
    head t us = refl

stray_halts : (n : Next) → goes_on n strange ≡ false
stray_halts a_query = refl
stray_halts (after_step opened) = refl
stray_halts n = refl

-- the rest is there, and with it what begins with a token that goes on
going_proper : (n : Next) (t : Token) (o : Option (List Token)) → goes_on n t ≡ true → then_proper t o ≡ then_token t o
going_proper n strange o e = absurd (true≢false (sym e ∙ stray_halts n))
going_proper n t o e = refl

-- ---- one token

-- a token has no fault, and neither has what follows
none_parts : (a v c g k s : Bool) (at : ℕ) (y : Option TextFault)
    → or_else (if a || v || c then Some (TooMany at) else (if not g then Some (Syntax at) else (if not k then Some (UnknownName at)
    else (if s then Some (Repeated at) else None)))) y ≡ None
    → (a ≡ false) × (v ≡ false) × (c ≡ false) × (g ≡ true) × (k ≡ true) × (s ≡ false) × (y ≡ None)
none_parts true v c g k s at y e = absurd cc
none_parts false true c g k s at y e = absurd cc
none_parts false false true g k s at y e = absurd cc
none_parts false false false false k s at y e = absurd cc
none_parts false false false true false s at y e = absurd cc
none_parts false false false true true true at y e = absurd cc
none_parts false false false true true false at y e = (refl, refl, refl, refl, refl, refl, e)

none_of : (a v c g k s : Bool) (at : ℕ) (y : Option TextFault)
    → a ≡ false → v ≡ false → c ≡ false → g ≡ true → k ≡ true → s ≡ false → y ≡ None
    → or_else (if a || v || c then Some (TooMany at) else (if not g then Some (Syntax at) else (if not k then Some (UnknownName at)
    else (if s then Some (Repeated at) else None)))) y ≡ None
none_of a v c g k s at y is_a is_v is_c is_g is_k is_s is_y = cc

module _ (m : Model) (end : ℕ) where
  -- ---- no fault to tokens that go on

  abbrev Goes : ℕ → Progress → List (ℕ × Token) → Type 0
  Goes count p qs = (ts : List Token) × (unplaced qs ≡ Some ts) × Passes m p ts × (count + length ts ≤ 256)

  one_more : (at : ℕ) (t : Token) (qs : List (ℕ × Token)) (count : ℕ) (p : Progress)
      → nat_le 256 count ≡ false → is_variable_too_many p (new_variable p.next t qs) ≡ false → begins_constraint_too_many p p.next t ≡ false
      → goes_on p.next t ≡ true → is_known m p p.next t ≡ true → stands_in_scope p (new_variable p.next t qs) ≡ false
      → Goes (count + 1) (progress_after m p p.next t) qs → Goes count p ((at, t) ∷ qs)
  one_more at t qs count p a v c g k s r =
      let new : new_variable p.next t qs ≡ named p.next t (colon_next r.0) = new_is_named p.next t qs ∙ ap (named p.next t) (colon_same qs r.0 r.1) in (
        t ∷ r.0,
        going_proper p.next t (unplaced qs) g ∙ ap (then_token t) r.1,
        (
          record {
            goes = g;
            known = k;
            few_variables = sym (ap (is_variable_too_many p) new) ∙ v;
            few_constraints = c;
            fresh = sym (ap (stands_in_scope p) new) ∙ s;
          },
          r.2,
        ),
        let more = r.3 in omega arith,
      )

  no_fault_goes : (qs : List (ℕ × Token)) (count : ℕ) (p : Progress) → count ≤ 256 → fault_from m end count p qs ≡ None → Goes count p qs
  no_fault_goes [] count p few e = ([], refl, ends (may_end p.next) e, omega arith)
    where
      ends : (b : Bool) → (if b then None else Some (Syntax end)) ≡ None → b ≡ true
      ends true e = refl
      ends false e = absurd cc
  no_fault_goes ((at, t) ∷ qs) count p few e =
      let d = none_parts (nat_le 256 count) (is_variable_too_many p (new_variable p.next t qs)) (begins_constraint_too_many p p.next t) (goes_on p.next t) (is_known m p p.next t)
      (stands_in_scope p (new_variable p.next t qs)) at (fault_from m end (count + 1) (progress_after m p p.next t) qs) e in
      one_more at t qs count p d.0 d.1 d.2 d.3 d.4 d.5
      (no_fault_goes qs (count + 1) (progress_after m p p.next t) (let b = leb-false 256 count d.0 in omega arith) d.6)

  -- ---- and back

  few_so_far : (count : ℕ) (ts us : List Token) → length ts ≡ suc (length us) → count + length ts ≤ 256 → nat_le 256 count ≡ false
  few_so_far count ts us long few = lt-leb 256 count (omega arith)

  goes_no_fault : (qs : List (ℕ × Token)) (ts : List Token) (count : ℕ) (p : Progress) → unplaced qs ≡ Some ts → Passes m p ts → count + length ts ≤ 256
      → fault_from m end count p qs ≡ None
  goes_no_fault [] ts count p e h few = ap (λ b. if b then None else Some (Syntax end)) (subst (Passes m p) (ap (λ o. unwrap_or o []) (sym e)) h)
  goes_no_fault ((at, t) ∷ qs) ts count p e h few =
      let r = first_token t (unplaced qs) ts e in
      let us = r.0 in
      let g : Passes m p (t ∷ us) = subst (Passes m p) r.2 h in
      let long : length ts ≡ suc (length us) = ap length r.2 in
      let new : new_variable p.next t qs ≡ named p.next t (colon_next us) = new_is_named p.next t qs ∙ ap (named p.next t) (colon_same qs us r.1) in
      none_of (nat_le 256 count) (is_variable_too_many p (new_variable p.next t qs)) (begins_constraint_too_many p p.next t)
      (goes_on p.next t) (is_known m p p.next t) (stands_in_scope p (new_variable p.next t qs)) at (fault_from m end (count + 1) (progress_after m p p.next t) qs)
      (few_so_far count ts us long few) (ap (is_variable_too_many p) new ∙ g.0.few_variables) g.0.few_constraints g.0.goes g.0.known
      (ap (stands_in_scope p) new ∙ g.0.fresh)
      (goes_no_fault qs us (count + 1) (progress_after m p p.next t) r.1 g.1 (omega arith))

-- before the first token
abbrev pub at_start : Scope → Progress
at_start scope = record { next = a_query; scope = scope; new = 0; constraints = 0 }

pub faultless_passes : (m : Model) (scope : Scope) (s : List ℕ) → query_fault m scope s ≡ None
    → (ts : List Token) × (tokens_of s ≡ Some ts) × Passes m (at_start scope) ts × (length ts ≤ 256)
unfolding query_fault
faultless_passes m scope s e =
    let r = no_fault_goes m (length s) (placed_tokens 0 (cut_at_quotes s)) 0 (at_start scope) (omega arith) e in
    (r.0, tokens_are_placed s ∙ r.1, r.2, let few = r.3 in omega arith)

pub passing_faultless : (m : Model) (scope : Scope) (s : List ℕ) (ts : List Token) → tokens_of s ≡ Some ts → Passes m (at_start scope) ts → length ts ≤ 256
    → query_fault m scope s ≡ None
unfolding query_fault
passing_faultless m scope s ts e h few =
    goes_no_fault m (length s) (placed_tokens 0 (cut_at_quotes s)) ts 0 (at_start scope) (sym (tokens_are_placed s) ∙ e) h (omega arith)
