-- A syntax fault of a query's text stands where its tokens first begin no query.
use Rattle.std.proofs.Common.{◌≡◌, ◌∙◌, sym, ap, subst, refl, ℕ, zero, suc, ◌+◌, List, [], ◌∷◌, ◌++◌, length, Bool, true, false, not, ◌||◌, append_assoc, Option, Some, None}
use Rattle.std.specs.Prelude.{codes, if◌then◌else◌, nat_le}
use Rattle.std.proofs.lemmas.Bool.{true≢false}
use Rattle.std.proofs.lemmas.List.{append-nil}
use Rattle.meaning.specs.Models.{Model}
use Rattle.meaning.specs.BundlePlaces.{or_else}
use Rattle.meaning.specs.ExpressionFaults.{TextFault, TooMany, Syntax, UnknownName, Repeated}
use Rattle.meaning.specs.QueryTexts.{Token, word, quoted, colon, open_bracket, close_bracket, close_paren, equal_sign, strange, cut_at_quotes}
use Rattle.meaning.specs.QueryFaults.{Next, a_query, a_new_variable, the_colon, the_type, after_type, a_constraint, a_negated_walk, after_variable, an_attribute, a_comparison, a_quoted_text, a_step, a_step_back, after_step, the_other_end, after_constraint, Progress, goes_on, may_end, is_known, is_stray, new_variable, is_variable_too_many, begins_constraint_too_many, stands_in_scope, progress_after, fault_from, placed_tokens, query_fault}
use Rattle.meaning.specs.FaultPlaces.{BeginsQuery, BeginsNoQuery, IsNoQuery, bare_tokens, QueryStopsAt, at_query_token, at_query_stray, at_query_end, SyntaxStandsInQuery}
use Rattle.meaning.proofs.QueryPasses.{at_start}
use Rattle.meaning.proofs.QueryRuns.{shape, step, Runs, query_runs, goes_by_shape, ends_by_shape, after_by_shape}
use Rattle.meaning.proofs.BegunQueries.{runs_query}

-- ---- from everywhere there is a way to an end

-- the tokens lead from here to there
abbrev Leads : Next → List Token → Next → Type 0
Leads n [] last = n ≡ last
Leads n (t ∷ ts) last = (goes_on n t ≡ true) × Leads (step n t) ts last

abbrev x : Token
x = word (codes "x")

-- closing parentheses, the closing bracket and the other end
abbrev behind_step : ℕ → List Token
behind_step zero = close_bracket ∷ x ∷ []
behind_step (suc k) = close_paren ∷ behind_step k

abbrev completion : Next → List Token
completion a_query = []
completion a_new_variable = x ∷ colon ∷ x ∷ []
completion (the_colon z) = colon ∷ x ∷ []
completion (the_type z) = x ∷ []
completion after_type = []
completion a_constraint = x ∷ open_bracket ∷ x ∷ close_bracket ∷ x ∷ []
completion a_negated_walk = x ∷ open_bracket ∷ x ∷ close_bracket ∷ x ∷ []
completion (after_variable v negated) = open_bracket ∷ x ∷ close_bracket ∷ x ∷ []
completion (an_attribute v) = x ∷ equal_sign ∷ quoted [] ∷ []
completion a_comparison = equal_sign ∷ quoted [] ∷ []
completion a_quoted_text = quoted [] ∷ []
completion (a_step k) = x ∷ behind_step k
completion (a_step_back k) = x ∷ behind_step k
completion (after_step k) = behind_step k
completion the_other_end = x ∷ []
completion after_constraint = []

step_completes : (k : ℕ) → Runs (after_step k) (behind_step k)
step_completes zero = (refl, (refl, refl))
step_completes (suc k) = (refl, step_completes k)

completes : (n : Next) → Runs n (completion n)
completes a_query = refl
completes a_new_variable = (refl, (refl, (refl, refl)))
completes (the_colon z) = (refl, (refl, refl))
completes (the_type z) = (refl, refl)
completes after_type = refl
completes a_constraint = (refl, (refl, (refl, (refl, (refl, refl)))))
completes a_negated_walk = (refl, (refl, (refl, (refl, (refl, refl)))))
completes (after_variable v negated) = (refl, (refl, (refl, (refl, refl))))
completes (an_attribute v) = (refl, (refl, (refl, refl)))
completes a_comparison = (refl, (refl, refl))
completes a_quoted_text = (refl, refl)
completes (a_step k) = (refl, step_completes k)
completes (a_step_back k) = (refl, step_completes k)
completes (after_step k) = step_completes k
completes the_other_end = (refl, refl)
completes after_constraint = refl

leads_on : (ts us : List Token) (n last : Next) → Leads n ts last → Runs last us → Runs n (ts ++ us)
leads_on [] us n last l r = subst (λ k. Runs k us) (sym l) r
leads_on (t ∷ ts) us n last l r = (l.0, leads_on ts us (step n t) last l.1 r)

left_over : (ts us : List Token) (n last : Next) → Leads n ts last → Runs n (ts ++ us) → Runs last us
left_over [] us n last l r = subst (λ k. Runs k us) l r
left_over (t ∷ ts) us n last l r = left_over ts us (step n t) last l.1 r.1

module _ (ts : List Token) (last : Next) (leads : Leads a_query ts last) where
  begins : BeginsQuery ts
  begins =
      let r = runs_query (ts ++ completion last) (leads_on ts (completion last) a_query last leads (completes last)) in
      (r.0, r.1, completion last, r.2, r.3)

  begins_none : (t : Token) → goes_on last t ≡ false → BeginsNoQuery (ts ++ t ∷ [])
  begins_none t halts (m, scope, us, q, h) =
      let r = left_over ts (t ∷ us) a_query last leads (subst (Runs a_query) (append_assoc ts (t ∷ []) us) (query_runs m h)) in
      true≢false (sym r.0 ∙ halts)

  is_none : may_end last ≡ false → IsNoQuery ts
  is_none unfinished m scope q h =
      true≢false (sym (left_over ts [] a_query last leads (subst (Runs a_query) (sym (append-nil ts)) (query_runs m h))) ∙ unfinished)

-- ---- the scan

-- the tokens lead to a place where they halt
data Halts (end : ℕ) (n : Next) (all : List (ℕ × Token)) (at : ℕ) : Type 0 where
  by_token : (before : List (ℕ × Token)) (t : Token) (behind : List (ℕ × Token)) (last : Next) → all ≡ before ++ (at, t) ∷ behind
      → Leads n (bare_tokens before) last → goes_on last t ≡ false → Halts end n all at
  by_end : (last : Next) → at ≡ end → Leads n (bare_tokens all) last → may_end last ≡ false → Halts end n all at

later : (end : ℕ) (n : Next) (place : ℕ) (t : Token) (all : List (ℕ × Token)) (at : ℕ) → goes_on n t ≡ true
    → Halts end (step n t) all at → Halts end n ((place, t) ∷ all) at
later end n place t all at goes (by_token before u behind last front leads halts) =
    by_token ((place, t) ∷ before) u behind last (ap (λ qs. (place, t) ∷ qs) front) (goes, leads) halts
later end n place t all at goes (by_end last is leads unfinished) = by_end last is (goes, leads) unfinished

abbrev place_of_fault : Option TextFault → ℕ
place_of_fault (Some (Syntax at)) = at
place_of_fault o = 0

-- the first fault is one of syntax: it is that of the token, or the token has none
fault_parts : (a v c g k s : Bool) (place at : ℕ) (y : Option TextFault)
    → or_else (if a || v || c then Some (TooMany place) else (if not g then Some (Syntax place) else (if not k then Some (UnknownName place)
    else (if s then Some (Repeated place) else None)))) y ≡ Some (Syntax at)
    → (P : Type 0) → (g ≡ false → place ≡ at → P) → (g ≡ true → y ≡ Some (Syntax at) → P) → P
fault_parts true v c g k s place at y e P here there = absurd cc
fault_parts false true c g k s place at y e P here there = absurd cc
fault_parts false false true g k s place at y e P here there = absurd cc
fault_parts false false false false k s place at y e P here there = here refl (ap place_of_fault e)
fault_parts false false false true false s place at y e P here there = absurd cc
fault_parts false false false true true true place at y e P here there = absurd cc
fault_parts false false false true true false place at y e P here there = there refl e

module _ (m : Model) (end : ℕ) where
  halted : (qs : List (ℕ × Token)) (count : ℕ) (p : Progress) (at : ℕ) → fault_from m end count p qs ≡ Some (Syntax at) → Halts end (shape p.next) qs at
  halted [] count p at e = ends (may_end p.next) refl e
    where
      ends : (b : Bool) → may_end p.next ≡ b → (if b then None else Some (Syntax end)) ≡ Some (Syntax at) → Halts end (shape p.next) [] at
      ends true is e = absurd cc
      ends false is e = by_end (shape p.next) (sym (ap place_of_fault e)) refl (ends_by_shape p.next ∙ is)
  halted ((place, t) ∷ qs) count p at e =
      fault_parts (nat_le 256 count) (is_variable_too_many p (new_variable p.next t qs)) (begins_constraint_too_many p p.next t) (goes_on p.next t)
      (is_known m p p.next t) (stands_in_scope p (new_variable p.next t qs)) place at (fault_from m end (count + 1) (progress_after m p p.next t) qs) e
      (Halts end (shape p.next) ((place, t) ∷ qs) at)
      (λ halts is. by_token [] t qs (shape p.next) (ap (λ a. (a, t) ∷ qs) is) refl (goes_by_shape p.next t ∙ halts))
      (λ goes rest.
      later end (shape p.next) place t qs at (goes_by_shape p.next t ∙ goes)
      (subst (λ n. Halts end n qs at) (after_by_shape m p p.next t refl goes) (halted qs (count + 1) (progress_after m p p.next t) at rest)))

stray_or_not : (t : Token) (P : Type 0) → (t ≡ strange → P) → (is_stray t ≡ false → P) → P
stray_or_not strange P stray none = stray refl
stray_or_not t P stray none = none refl

stops_at : (end : ℕ) (all : List (ℕ × Token)) (at : ℕ) → Halts end a_query all at → QueryStopsAt end all at
stops_at end all at (by_token before t behind last front leads halts) =
    stray_or_not t (QueryStopsAt end all at)
    (λ is. at_query_stray before behind (front ∙ ap (λ u. before ++ (at, u) ∷ behind) is) (begins (bare_tokens before) last leads))
    (λ is. at_query_token before t behind front is (begins (bare_tokens before) last leads) (begins_none (bare_tokens before) last leads t halts))
stops_at end all at (by_end last is leads unfinished) =
    at_query_end is (begins (bare_tokens all) last leads) (is_none (bare_tokens all) last leads unfinished)

pub syntax_stands_in_query : SyntaxStandsInQuery
unfolding query_fault
syntax_stands_in_query m scope s at e =
    stops_at (length s) (placed_tokens 0 (cut_at_quotes s)) at (halted m (length s) (placed_tokens 0 (cut_at_quotes s)) 0 (at_start scope) at e)
