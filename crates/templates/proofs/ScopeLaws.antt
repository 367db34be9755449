-- The variables in scope at nodes are those that are kept, and one more node keeps them.
use Rattle.std.proofs.Common.{◌≡◌, refl, sym, ap, ◌∙◌, subst, ℕ, zero, suc, ◌+◌, ◌*◌, ◌<◌, ◌≤◌, List, [], ◌∷◌, ◌++◌, length, map, get_or, length-append, Bool, true, false, Option, Some, None, arith}
use Rattle.std.specs.Prelude.{if◌then◌else◌, option_map, option_and_then, unwrap_or}
use Rattle.std.specs.List.{slice_get, All}
use Rattle.std.proofs.lemmas.List.{map-append, append-nil}
use Rattle.std.proofs.lemmas.List.Elements.{All-append, All-push, All-cons, All-nil, All-weaker}
use Rattle.meaning.specs.QueryTexts.{Scope}
use Rattle.meaning.specs.TemplateRules.{or_empty}
use Rattle.templates.specs.declared.scopes.Spot.{Spot}
use Rattle.templates.specs.declared.scopes.Scopes as code
use Rattle.templates.specs.NodeRules.{Scopes, scope_below, scope_at}
use Rattle.templates.specs.ScopeReads.{scopes_at, place_at, place_below, added_scope, added_spot}
use Rattle.templates.specs.Seen.{scopes_of, ScopesFit}
use Rattle.templates.proofs.UseLaws.{found_mapped, found_item}

-- ---- lists

module _ {X : Type 0} where
  get_there : (xs : List X) (i : ℕ) → i < length xs → (x : X) × (slice_get xs i ≡ Some x)
  get_there [] i l = absurd (omega arith)
  get_there (x ∷ xs) zero l = (x, refl)
  get_there (x ∷ xs) (suc i) l = get_there xs i (omega arith)

  pub got : (xs : List X) (i : ℕ) (x : X) → slice_get xs i ≡ Some x → (i < length xs) × (get_or xs i x ≡ x)
  got [] i x e = absurd cc
  got (y ∷ ys) zero x e = let same : y ≡ x = cc in (omega arith, same)
  got (y ∷ ys) (suc i) x e = let r = got ys i x e in (let l = r.0 in omega arith, r.1)

  get_front : (xs ys : List X) (i : ℕ) → i < length xs → slice_get (xs ++ ys) i ≡ slice_get xs i
  get_front [] ys i l = absurd (omega arith)
  get_front (x ∷ xs) ys zero l = refl
  get_front (x ∷ xs) ys (suc i) l = get_front xs ys i (omega arith)

  get_seam : (xs ys : List X) (y : X) → slice_get (xs ++ y ∷ ys) (length xs) ≡ Some y
  get_seam [] ys y = refl
  get_seam (x ∷ xs) ys y = get_seam xs ys y

  same_on : {Y : Type 0} (f g : X → Y) (xs : List X) → ((i : ℕ) (x : X) → slice_get xs i ≡ Some x → f x ≡ g x) → map f xs ≡ map g xs
  same_on f g [] h = refl
  same_on f g (x ∷ xs) h = ap (λ y. y ∷ map f xs) (h 0 x refl) ∙ ap (λ ys. g x ∷ ys) (same_on f g xs (λ i y e. h (suc i) y e))

or_empty_there : (all : List Scope) (i : ℕ) → i < length all → slice_get all i ≡ Some (or_empty (slice_get all i))
or_empty_there all i l = let r = get_there all i l in r.1 ∙ ap (λ o. Some (or_empty o)) (sym r.1)

-- a scope behind the others, with new variables
pub scope_added : (all : List Scope) (place : ℕ) (scope new : Scope) → place < length all → scope ≡ get_or all place scope
    → all ++ (scope ++ new) ∷ [] ≡ all ++ added_scope (slice_get all place) (Some new)
scope_added all place scope new inside is = ap (λ o. all ++ (or_empty o ++ new) ∷ []) (sym (found_item all place scope inside is))

-- ---- the scope under a node

module _ (parameters : Scope) (s : code.Scopes) (number : ℕ) (fits : ScopesFit parameters s number) where
  spot_inside : (i : ℕ) (p : Spot) → slice_get s.spots.items i ≡ Some p → (p.scope < length s.all.items) × (p.below < length s.all.items)
  spot_inside i p e =
      let r = got s.spots.items i p e in
      (subst (λ q. q.scope < length s.all.items) r.1 (fits.inside i p r.0), subst (λ q. q.below < length s.all.items) r.1 (fits.inside_below i p r.0))

  pub scope_under_is : (above : Option ℕ) (annotation : Bool)
      → slice_get s.all.items (place_below annotation above s.spots.items) ≡ Some (scope_at (scopes_of s) parameters above annotation)
  scope_under_is None annotation = fits.start
  scope_under_is (Some i) annotation = go (slice_get s.spots.items i) refl
    where
      which : (b : Bool) (p : Spot) → (p.scope < length s.all.items) × (p.below < length s.all.items)
          → slice_get s.all.items (if b then p.scope else p.below) ≡ Some (scope_below b parameters (Some (scopes_at s.all.items p)))
      which true p l = or_empty_there s.all.items p.scope l.0
      which false p l = or_empty_there s.all.items p.below l.1

      go : (o : Option Spot) → slice_get s.spots.items i ≡ o
          → slice_get s.all.items (place_at annotation (slice_get s.spots.items i)) ≡ Some (scope_at (scopes_of s) parameters (Some i) annotation)
      go None e =
          ap (λ o. slice_get s.all.items (place_at annotation o)) e
          ∙ (fits.start ∙ ap (λ o. Some (scope_below annotation parameters o)) (sym (found_mapped (scopes_at s.all.items) s.spots.items i ∙ ap (option_map (scopes_at s.all.items)) e)))
      go (Some p) e =
          ap (λ o. slice_get s.all.items (place_at annotation o)) e
          ∙ (which annotation p (spot_inside i p e)
          ∙ ap (λ o. Some (scope_below annotation parameters o)) (sym (found_mapped (scopes_at s.all.items) s.spots.items i ∙ ap (option_map (scopes_at s.all.items)) e)))

-- ---- one more node

module _ (parameters : Scope) (s t : code.Scopes) (number : ℕ) (fits : ScopesFit parameters s number) (place : ℕ) (scope : Scope) (new : Option Scope)
    (there : slice_get s.all.items place ≡ Some scope) (few : length (unwrap_or new []) ≤ 3)
    (all : t.all.items ≡ s.all.items ++ added_scope (slice_get s.all.items place) new)
    (spots : t.spots.items ≡ s.spots.items ++ added_spot place (length s.all.items) new ∷ []) where
  more : List Scope
  more = added_scope (slice_get s.all.items place) new

  kept : (i : ℕ) → i < length s.all.items → slice_get t.all.items i ≡ slice_get s.all.items i
  unfolding more
  kept i l = ap (λ xs. slice_get xs i) all ∙ get_front s.all.items more i l

  longer : length s.all.items ≤ length t.all.items
  unfolding more
  longer = let l = ap length all ∙ length-append s.all.items more in omega arith

  scope_is_short : length scope ≤ 8 + 3 * number
  scope_is_short =
      let r = got s.all.items place scope there in
      subst (λ x. length x ≤ 8 + 3 * number) r.1 (fits.short place scope r.0)

  -- the new spot tells the scope at the node, and the one below its answers
  new_spot : (o : Option Scope) → new ≡ o → scopes_at t.all.items (added_spot place (length s.all.items) o) ≡ (scope, scope ++ unwrap_or o [])
  unfolding more
  new_spot None e =
      let inside = (got s.all.items place scope there).0 in
      let is : or_empty (slice_get t.all.items place) ≡ scope = ap or_empty (kept place inside ∙ there) in
      ap (λ x. (x, x)) is ∙ ap (λ x. (scope, x)) (sym (append-nil scope))
  new_spot (Some n) e =
      let inside = (got s.all.items place scope there).0 in
      let is : or_empty (slice_get t.all.items place) ≡ scope = ap or_empty (kept place inside ∙ there) in
      let last : or_empty (slice_get t.all.items (length s.all.items)) ≡ scope ++ n =
      ap or_empty (ap (λ xs. slice_get xs (length s.all.items)) (all ∙ ap (λ o. s.all.items ++ added_scope (slice_get s.all.items place) o) e)
      ∙ get_seam s.all.items [] (or_empty (slice_get s.all.items place) ++ n)) ∙ ap (λ o. or_empty o ++ n) there in
      ap (λ x. (x, or_empty (slice_get t.all.items (length s.all.items)))) is ∙ ap (λ x. (scope, x)) last

  pub scopes_more : scopes_of t ≡ scopes_of s ++ (scope, scope ++ unwrap_or new []) ∷ []
  scopes_more =
      ap (map (scopes_at t.all.items)) spots
      ∙ (map-append (scopes_at t.all.items) s.spots.items (added_spot place (length s.all.items) new ∷ [])
      ∙ (ap (λ xs. xs ++ scopes_at t.all.items (added_spot place (length s.all.items) new) ∷ [])
      (same_on (scopes_at t.all.items) (scopes_at s.all.items) s.spots.items (λ i p e.
      let l = spot_inside parameters s number fits i p e in
      ap (λ o. (or_empty o, or_empty (slice_get t.all.items p.below))) (kept p.scope l.0)
      ∙ ap (λ o. (or_empty (slice_get s.all.items p.scope), or_empty o)) (kept p.below l.1)))
      ∙ ap (λ x. map (scopes_at s.all.items) s.spots.items ++ x ∷ []) (new_spot new refl)))

  spot_fits : (o : Option Scope) → new ≡ o → ((added_spot place (length s.all.items) o).scope < length t.all.items) × ((added_spot place (length s.all.items) o).below < length t.all.items)
  unfolding more
  spot_fits None e = let inside = (got s.all.items place scope there).0 in let l = longer in (omega arith, omega arith)
  spot_fits (Some n) e =
      let inside = (got s.all.items place scope there).0 in
      let one : length t.all.items ≡ length s.all.items + 1 =
      ap length (all ∙ ap (λ o. s.all.items ++ added_scope (slice_get s.all.items place) o) e)
      ∙ length-append s.all.items ((or_empty (slice_get s.all.items place) ++ n) ∷ []) in
      (omega arith, omega arith)

  more_short : (o : Option Scope) → new ≡ o → All (λ x. length x ≤ 8 + 3 * (number + 1)) (added_scope (slice_get s.all.items place) o)
  more_short None e = All-nil (λ x. length x ≤ 8 + 3 * (number + 1))
  more_short (Some n) e =
      let small : length n ≤ 3 = subst (λ o. length (unwrap_or o []) ≤ 3) e few in
      let whole : length (or_empty (slice_get s.all.items place) ++ n) ≤ 8 + 3 * (number + 1) =
      subst (λ o. length (or_empty o ++ n) ≤ 8 + 3 * (number + 1)) (sym there)
      (let l = length-append scope n in let k = scope_is_short in omega arith) in
      All-cons (λ x. length x ≤ 8 + 3 * (number + 1)) (or_empty (slice_get s.all.items place) ++ n) [] whole (All-nil (λ x. length x ≤ 8 + 3 * (number + 1)))

  pub scopes_fit : ScopesFit parameters t (number + 1)
  scopes_fit = record {
    many = ap length spots ∙ (length-append s.spots.items (added_spot place (length s.all.items) new ∷ []) ∙ ap (λ n. n + 1) fits.many);
    start = kept 0 (let r = got s.all.items 0 parameters fits.start in r.0) ∙ fits.start;
    inside = subst (All (λ p. p.scope < length t.all.items)) (sym spots)
        (All-push (λ p. p.scope < length t.all.items) s.spots.items (added_spot place (length s.all.items) new)
        (All-weaker (λ p. p.scope < length s.all.items) (λ p. p.scope < length t.all.items) (λ p h. let l = longer in omega arith) s.spots.items fits.inside)
        (spot_fits new refl).0);
    inside_below = subst (All (λ p. p.below < length t.all.items)) (sym spots)
        (All-push (λ p. p.below < length t.all.items) s.spots.items (added_spot place (length s.all.items) new)
        (All-weaker (λ p. p.below < length s.all.items) (λ p. p.below < length t.all.items) (λ p h. let l = longer in omega arith) s.spots.items fits.inside_below)
        (spot_fits new refl).1);
    short = subst (All (λ x. length x ≤ 8 + 3 * (number + 1))) (sym all)
        (All-append (λ x. length x ≤ 8 + 3 * (number + 1)) s.all.items (added_scope (slice_get s.all.items place) new)
        (All-weaker (λ x. length x ≤ 8 + 3 * number) (λ x. length x ≤ 8 + 3 * (number + 1)) (λ x h. omega arith) s.all.items fits.short)
        (more_short new refl));
  }
