-- The fields of a line, with one more feature.
use Rattle.std.proofs.Common.{◌≡◌, ◌∙◌, refl, sym, ap, ap₂, subst, ℕ, zero, suc, ◌+◌, ◌<◌, ◌≤◌, List, [], ◌∷◌, ◌++◌, length, take, get_or, Bool, true, false, Option, Some, None, arith}
use Rattle.std.specs.Prelude.{if◌then◌else◌, All, Vec}
use Rattle.std.proofs.lemmas.List.{length-append, length-map, take_more, take_all}
use Rattle.std.proofs.lemmas.List.Elements.{All-nil, All-cons, All-head, All-tail, All-weaker, All-push}
use Rattle.meaning.specs.Features.{Group, Mandatory, Optional, Or, Alternative, Feature, is_or, is_alternative}
use Rattle.meaning.specs.Expressions.{name_bound}
use Rattle.cond_text.specs.declared.expr.Expr.{Expr}
use Rattle.cond_text.specs.View.{expression}
use Rattle.feature_model.specs.declared.line.Placed.{Placed}
use Rattle.feature_model.specs.declared.line.Line.TheInside.{Inside}
use Rattle.feature_model.specs.Groups.{group_view}
use Rattle.feature_model.specs.Contents.{IsBelow, IsProper}
use Rattle.feature_model.specs.Children.{members_of, with_child, total, AreChildren, children_of_first}
use Rattle.feature_model.specs.Line.{feature_with, features_with, contents_of, IsSound, IsPlaced}
use Rattle.feature_model.proofs.ChildLists.{children_with, total_append, total_with_none, total_with_some}
use Rattle.feature_model.proofs.FeatureLists.{length_with, with_push}

pub below_more : (n : ℕ) (o : Option ℕ) → IsBelow n o → IsBelow (n + 1) o
below_more n None h = tt
below_more n (Some p) h = omega arith

pub below_if : (n : ℕ) (b : Bool) (o : Option ℕ) → IsBelow n o → IsBelow n (if b then o else None)
below_if n true o h = h
below_if n false o h = tt

pub parents_with : (n : ℕ) (names : List (List ℕ)) (ps : List Placed) → All (λ p. IsBelow n p.parent) ps → All (λ f. IsBelow n f.parent) (features_with names ps)
parents_with n [] ps all = All-nil (λ f. IsBelow n f.parent)
parents_with n (m ∷ ms) [] all = All-nil (λ f. IsBelow n f.parent)
parents_with n (m ∷ ms) (p ∷ ps) all =
    All-cons (λ f. IsBelow n f.parent) (feature_with m p) (features_with ms ps) (All-head (λ p. IsBelow n p.parent) p ps all) (parents_with n ms ps (All-tail (λ p. IsBelow n p.parent) p ps all))

-- a feature is in at most one of the two groups
one_list : (ors alternatives : List (List ℕ)) (n : ℕ) (group : Group) (parent : Option ℕ) → length ors ≡ n → length alternatives ≡ n → IsBelow n parent
    → total (with_child ors (if is_or group then parent else None) n) + total (with_child alternatives (if is_alternative group then parent else None) n)
    ≤ total ors + total alternatives + 1
one_list ors alternatives n Or None many as_many below = omega (arith, total_with_none ors n, total_with_none alternatives n)
one_list ors alternatives n Or (Some p) many as_many below = omega (arith, total_with_some ors p n (omega arith), total_with_none alternatives n)
one_list ors alternatives n Alternative None many as_many below = omega (arith, total_with_none ors n, total_with_none alternatives n)
one_list ors alternatives n Alternative (Some p) many as_many below = omega (arith, total_with_none ors n, total_with_some alternatives p n (omega arith))
one_list ors alternatives n Mandatory parent many as_many below = omega (arith, total_with_none ors n, total_with_none alternatives n)
one_list ors alternatives n Optional parent many as_many below = omega (arith, total_with_none ors n, total_with_none alternatives n)

module _ (l m : Inside) (name : List ℕ) (p : Placed) (sound : IsSound l) (named : m.names ≡ l.names ++ name ∷ []) (placed : m.placed.items ≡ l.placed.items ++ p ∷ []) where
  one_more_name : length m.names ≡ length l.names + 1
  one_more_name = ap length named ∙ (let e = length-append l.names (name ∷ []) in omega (arith, e))

  pub features_more : features_with m.names m.placed.items ≡ features_with l.names l.placed.items ++ feature_with name p ∷ []
  features_more = ap₂ features_with named placed ∙ with_push l.names l.placed.items name p sound.all_placed

  pub sound_with : length l.names < 256 → IsBelow (length l.names) p.parent
      → members_of m.ors.items ≡ with_child (members_of l.ors.items) (if is_or (group_view p.group) then p.parent else None) (length l.names)
      → members_of m.alternatives.items ≡ with_child (members_of l.alternatives.items) (if is_alternative (group_view p.group) then p.parent else None) (length l.names)
      → m.constraints ≡ l.constraints → IsSound m
  sound_with few below ors alternatives constraints = record {
    few = omega (arith, one_more_name);
    all_placed = ap length placed ∙ (let e = length-append l.placed.items (p ∷ []) in omega (arith, e, one_more_name, sound.all_placed));
    parents = rw (one_more_name, placed) (All-push (λ p. IsBelow (length l.names + 1) p.parent) l.placed.items p
        (All-weaker (λ p. IsBelow (length l.names) p.parent) (λ p. IsBelow (length l.names + 1) p.parent) (λ p h. below_more (length l.names) p.parent h) l.placed.items sound.parents)
        (below_more (length l.names) p.parent below));
    ors = rw (features_more, ors) (joined is_or (members_of l.ors.items) sound.ors);
    alternatives = rw (features_more, alternatives) (joined is_alternative (members_of l.alternatives.items) sound.alternatives);
    few_children = rw (ors, alternatives, one_more_name) (let e = one_list (members_of l.ors.items) (members_of l.alternatives.items) (length l.names) (group_view p.group) p.parent
        (sound.ors.as_many ∙ many) (sound.alternatives.as_many ∙ many) below in omega (arith, e, sound.few_children));
    few_constraints = rw constraints sound.few_constraints;
    bounds = rw (constraints, one_more_name) (All-weaker (λ e. name_bound (expression e) ≤ length l.names) (λ e. name_bound (expression e) ≤ length l.names + 1) (λ e h. omega arith) l.constraints.items sound.bounds);
  }
    where
      many : length (features_with l.names l.placed.items) ≡ length l.names
      many = length_with l.names l.placed.items sound.all_placed

      joined : (g : Group → Bool) (lists : List (List ℕ)) → AreChildren g (features_with l.names l.placed.items) lists
          → AreChildren g (features_with l.names l.placed.items ++ feature_with name p ∷ []) (with_child lists (if g (group_view p.group) then p.parent else None) (length l.names))
      joined g lists are =
          subst (λ n. AreChildren g (features_with l.names l.placed.items ++ feature_with name p ∷ []) (with_child lists (if g (group_view p.group) then p.parent else None) n)) many
          (children_with g (features_with l.names l.placed.items) (feature_with name p) lists (if g (group_view p.group) then p.parent else None) are
          (subst (λ n. All (λ f. IsBelow n f.parent) (features_with l.names l.placed.items)) (sym many) (parents_with (length l.names) l.names l.placed.items sound.parents))
          (subst (λ n. IsBelow n p.parent) (sym many) below) refl)

-- there is a list for each feature
pub lists_below : {Z : Type 0} (g : Group → Bool) (names : List (List ℕ)) (ps : List Placed) (lists : List (Vec ℕ Z)) (b : Bool) (o : Option ℕ) → length ps ≡ length names
    → AreChildren g (features_with names ps) (members_of lists) → IsBelow (length names) o → IsBelow (length lists) (if b then o else None)
lists_below g names ps lists b o placed are below =
    subst (λ n. IsBelow n (if b then o else None))
    (sym (sym (length-map lists (λ v. v.items)) ∙ (are.as_many ∙ length_with names ps placed)))
    (below_if (length names) b o below)

-- ---- what a line's fields are, in words of its contents

total_of_first : (g : Group → Bool) (fs : List Feature) (lists : List (List ℕ)) → AreChildren g fs lists → (n : ℕ) → n ≤ length fs
    → total (take n lists) ≡ children_of_first g fs n
total_of_first g fs lists are zero h = refl
total_of_first g fs lists are (suc n) h =
    let inside : n < length lists = omega (arith, are.as_many) in
    let step : take (suc n) lists ≡ take n lists ++ get_or lists n [] ∷ [] = ap (λ k. take k lists) (let e : suc n ≡ n + 1 = omega arith in e) ∙ take_more lists n [] inside in
    ap total step ∙ (total_append (take n lists) (get_or lists n [] ∷ []) ∙ ap₂ (λ a b. a + b) (total_of_first g fs lists are n (omega arith))
    ((let e : length (get_or lists n []) + 0 ≡ length (get_or lists n []) = omega arith in e) ∙ ap length (are.each n (omega arith))))

total_children : (g : Group → Bool) (fs : List Feature) (lists : List (List ℕ)) → AreChildren g fs lists → total lists ≡ children_of_first g fs (length fs)
total_children g fs lists are =
    ap total (sym (take_all (length fs) lists (omega (arith, are.as_many)))) ∙ total_of_first g fs lists are (length fs) (omega arith)

pub sound_is_proper : (l : Inside) → IsSound l → IsProper (contents_of l)
sound_is_proper l sound =
    let many : length (features_with l.names l.placed.items) ≡ length l.names = length_with l.names l.placed.items sound.all_placed in
    record {
      few = rw many sound.few;
      parents = subst (λ n. All (λ f. IsBelow n f.parent) (features_with l.names l.placed.items)) (sym many) (parents_with (length l.names) l.names l.placed.items sound.parents);
      few_children = omega (
        arith,
        total_children is_or (features_with l.names l.placed.items) (members_of l.ors.items) sound.ors,
        total_children is_alternative (features_with l.names l.placed.items) (members_of l.alternatives.items) sound.alternatives,
        sound.few_children,
        many,
      );
      few_constraints = sound.few_constraints;
      bounds = subst (λ n. All (λ e. name_bound (expression e) ≤ n) l.constraints.items) (sym many) sound.bounds;
    }

pub placed_at : (names : List (List ℕ)) (ps : List Placed) (at : ℕ) (p : Placed) → length ps ≡ length names → at < length ps → p ≡ get_or ps at p
    → IsPlaced (features_with names ps) at p
placed_at [] [] at p e h is = absurd (omega arith)
placed_at [] (q ∷ qs) at p e h is = absurd (omega arith)
placed_at (m ∷ ms) [] at p e h is = absurd (omega arith)
placed_at (m ∷ ms) (q ∷ qs) zero p e h is = record { name = m; there = ap (λ r. Some (feature_with m r)) (sym is) }
placed_at (m ∷ ms) (q ∷ qs) (suc at) p e h is =
    let rest = placed_at ms qs at p (omega arith) (omega arith) is in record { name = rest.name; there = rest.there }

-- one more constraint
pub sound_constrained : (l m : Inside) (e : Expr) → IsSound l → m.names ≡ l.names → m.placed ≡ l.placed → m.ors ≡ l.ors → m.alternatives ≡ l.alternatives
    → m.constraints.items ≡ l.constraints.items ++ e ∷ [] → length l.constraints.items < 1024 → name_bound (expression e) ≤ length l.names → IsSound m
sound_constrained l m e sound names placed ors alternatives constraints few bound = record {
  few = rw names sound.few;
  all_placed = rw (names, placed) sound.all_placed;
  parents = rw (names, placed) sound.parents;
  ors = rw (names, placed, ors) sound.ors;
  alternatives = rw (names, placed, alternatives) sound.alternatives;
  few_children = rw (ors, alternatives, names) sound.few_children;
  few_constraints = rw constraints (omega (arith, length-append l.constraints.items (e ∷ [])));
  bounds = rw (names, constraints) (All-push (λ e. name_bound (expression e) ≤ length l.names) l.constraints.items e sound.bounds bound);
}
