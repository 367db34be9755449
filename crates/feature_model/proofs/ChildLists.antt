-- The lists of children, with one more feature.
use Rattle.std.proofs.Common.{◌≡◌, ◌∙◌, refl, sym, ap, ap₂, subst, ℕ, zero, suc, ◌+◌, ◌<◌, ◌≤◌, List, [], ◌∷◌, ◌++◌, length, map, set, get_or, Bool, true, false, Option, Some, None, inl, inr, arith}
use Rattle.std.specs.Prelude.{◌&&◌, ◌==◌, filter, if◌then◌else◌, All, Vec}
use Rattle.std.specs.List.{enumerate_from}
use Rattle.std.proofs.lemmas.List.{map-append, length-set, length-append, map-set, get_or-map, get_or_append_left, get_or-set_same, get_or-set_other, get_or_push, append-nil}
use Rattle.std.proofs.lemmas.List.Elements.{filter-append, All-nil, All-cons, All-head, All-tail, All-weaker, All-filter, All-map, All-push}
use Rattle.std.proofs.lemmas.Bool.{cases_lt, cases_eq}
use Rattle.std.proofs.lemmas.Bool.Decides.{nat_tests}
use Rattle.meaning.specs.Texts.{numbered}
use Rattle.meaning.specs.Features.{Group, Feature, is_parent}
use Rattle.feature_model.specs.Contents.{IsBelow}
use Rattle.feature_model.specs.Children.{children, members_of, AreChildren, with_child, total}

enumerate_push : (n : ℕ) (fs : List Feature) (f : Feature) → enumerate_from n (fs ++ f ∷ []) ≡ enumerate_from n fs ++ (n + length fs, f) ∷ []
enumerate_push n [] f = ap (λ k. (k, f) ∷ []) (let e : n ≡ n + 0 = omega arith in e)
enumerate_push n (x ∷ xs) f =
    ap (λ r. (n, x) ∷ r) (enumerate_push (n + 1) xs f ∙ ap (λ k. enumerate_from (n + 1) xs ++ (k, f) ∷ []) (let e : n + 1 + length xs ≡ n + suc (length xs) = omega arith in e))

abbrev firsts : List (ℕ × Feature) → List ℕ
firsts xs = map (λ c. c.0) xs

module _ (g : Group → Bool) where
  abbrev passes : ℕ → ℕ × Feature → Bool
  passes p c = is_parent p c.1.parent && g c.1.group

  -- the children of a feature, with one more feature
  pub children_push : (fs : List Feature) (f : Feature) (p : ℕ)
      → children g (fs ++ f ∷ []) p ≡ children g fs p ++ (if is_parent p f.parent && g f.group then length fs ∷ [] else [])
  children_push fs f p =
      ap (λ xs. firsts (filter (passes p) xs)) (enumerate_push 0 fs f ∙ ap (λ k. numbered fs ++ (k, f) ∷ []) (let e : 0 + length fs ≡ length fs = omega arith in e))
      ∙ ap firsts (filter-append (passes p) (numbered fs) ((length fs, f) ∷ []))
      ∙ map-append (λ (c : ℕ × Feature). c.0) (filter (passes p) (numbered fs)) (filter (passes p) ((length fs, f) ∷ []))
      ∙ ap (λ xs. children g fs p ++ xs) (last (passes p (length fs, f)))
    where
      last : (b : Bool) → firsts (if b then (length fs, f) ∷ [] else []) ≡ (if b then length fs ∷ [] else [])
      last true = refl
      last false = refl

  none_of : (n p : ℕ) (fs : List Feature) (k : ℕ) → n ≤ p → All (λ f. IsBelow n f.parent) fs → filter (passes p) (enumerate_from k fs) ≡ []
  none_of n p [] k far all = refl
  none_of n p (f ∷ fs) k far all =
      rw (not_child f.parent (All-head (λ f. IsBelow n f.parent) f fs all)) (none_of n p fs (k + 1) far (All-tail (λ f. IsBelow n f.parent) f fs all))
    where
      not_child : (parent : Option ℕ) → IsBelow n parent → (is_parent p parent && g f.group) ≡ false
      not_child None h = refl
      not_child (Some q) h = let e : (p == q) ≡ false = grind (arith, nat_tests) in rw e refl

  -- a feature that is no parent has none
  pub no_children : (fs : List Feature) (p : ℕ) → All (λ f. IsBelow p f.parent) fs → children g fs p ≡ []
  no_children fs p all = ap firsts (none_of p p fs 0 (omega arith) all)

  numbers_below : (k : ℕ) (fs : List Feature) → All (λ c. c.0 < k + length fs) (enumerate_from k fs)
  numbers_below k [] = All-nil (λ c. c.0 < k + 0)
  numbers_below k (f ∷ fs) =
      All-cons (λ c. c.0 < k + suc (length fs)) (k, f) (enumerate_from (k + 1) fs) (omega arith)
      (All-weaker (λ c. c.0 < k + 1 + length fs) (λ c. c.0 < k + suc (length fs)) (λ c h. omega arith) (enumerate_from (k + 1) fs) (numbers_below (k + 1) fs))

  -- children are features
  pub children_below : (fs : List Feature) (p : ℕ) → All (λ m. m < length fs) (children g fs p)
  children_below fs p =
      All-map (λ m. m < length fs) (λ (c : ℕ × Feature). c.0) (filter (passes p) (numbered fs))
      (All-filter (passes p) (λ c. c.0 < length fs) (numbered fs)
      (All-weaker (λ c. c.0 < 0 + length fs) (λ c. c.0 < length fs) (λ c h. omega arith) (numbered fs) (numbers_below 0 fs)))

  extra : List Feature → Feature → ℕ → List ℕ
  extra fs f p = if is_parent p f.parent && g f.group then length fs ∷ [] else []

  -- the lists of children with one more feature
  with_last : (fs : List Feature) (f : Feature) (lists : List (List ℕ)) → length lists ≡ length fs
      → ((p : ℕ) → p < length fs → get_or lists p [] ≡ children g fs p ++ extra fs f p)
      → All (λ f. IsBelow (length fs) f.parent) fs → IsBelow (length fs) f.parent
      → AreChildren g (fs ++ f ∷ []) (lists ++ [] ∷ [])
  unfolding extra
  with_last fs f lists many each all below = record { as_many = omega (arith, length-append lists ([] ∷ []), length-append fs (f ∷ [])); each = at }
    where
      at : (p : ℕ) → p < length (fs ++ f ∷ []) → get_or (lists ++ [] ∷ []) p [] ≡ children g (fs ++ f ∷ []) p
      at p h = elim (cases_lt p (length fs)) [
        | inl lt ↦ get_or_append_left lists ([] ∷ []) [] p (omega arith) ∙ (each p lt ∙ sym (children_push fs f p))
        | inr ge ↦
            let same : length fs ≡ p = omega (arith, length-append fs (f ∷ [])) in
            get_or_push lists [] [] p (many ∙ same)
            ∙ sym (no_children (fs ++ f ∷ []) p (subst (λ n. All (λ f. IsBelow n f.parent) (fs ++ f ∷ [])) same (All-push (λ f. IsBelow (length fs) f.parent) fs f all below)))
      ]

  no_extra : (fs : List Feature) (f : Feature) (p : ℕ) → None ≡ (if g f.group then f.parent else None) → extra fs f p ≡ []
  unfolding extra
  no_extra fs f p is = go (g f.group) f.parent is
    where
      go : (b : Bool) (parent : Option ℕ) → None ≡ (if b then parent else None) → (if is_parent p parent && b then length fs ∷ [] else []) ≡ []
      go b None is = refl
      go true (Some q) is = absurd cc
      go false (Some q) is = both_ways (p == q)
        where
          both_ways : (c : Bool) → (if c && false then length fs ∷ [] else []) ≡ []
          both_ways true = refl
          both_ways false = refl

  -- of the parent there is one more
  one_extra : (fs : List Feature) (f : Feature) (q p : ℕ) → Some q ≡ (if g f.group then f.parent else None) → extra fs f p ≡ (if p == q then length fs ∷ [] else [])
  unfolding extra
  one_extra fs f q p is = go (g f.group) f.parent is
    where
      go : (b : Bool) (parent : Option ℕ) → Some q ≡ (if b then parent else None) → (if is_parent p parent && b then length fs ∷ [] else []) ≡ (if p == q then length fs ∷ [] else [])
      go true None is = absurd cc
      go false parent is = absurd cc
      go true (Some r) is = let same : q ≡ r = cc in rw (sym same) (both_ways (p == q))
        where
          both_ways : (c : Bool) → (if c && true then length fs ∷ [] else []) ≡ (if c then length fs ∷ [] else [])
          both_ways true = refl
          both_ways false = refl

  -- the lists of children with one more feature, which is a child of this parent in the group
  pub children_with : (fs : List Feature) (f : Feature) (lists : List (List ℕ)) (parent : Option ℕ) → AreChildren g fs lists
      → All (λ f. IsBelow (length fs) f.parent) fs → IsBelow (length fs) f.parent → parent ≡ (if g f.group then f.parent else None)
      → AreChildren g (fs ++ f ∷ []) (with_child lists parent (length fs))
  children_with fs f lists None are all below is =
      with_last fs f lists are.as_many (λ p h. are.each p h ∙ (sym (append-nil (children g fs p)) ∙ ap (λ xs. children g fs p ++ xs) (sym (no_extra fs f p is)))) all below
  children_with fs f lists (Some q) are all below is =
      with_last fs f (set lists q (get_or lists q [] ++ length fs ∷ [])) (length-set lists q (get_or lists q [] ++ length fs ∷ []) ∙ are.as_many) each all below
    where
      each : (p : ℕ) → p < length fs → get_or (set lists q (get_or lists q [] ++ length fs ∷ [])) p [] ≡ children g fs p ++ extra fs f p
      each p h = elim (cases_eq p q) [
        | inl same ↦
            let here : (p == q) ≡ true = grind (arith, nat_tests) in
            rw (one_extra fs f q p is, here) (subst (λ k. get_or (set lists q (get_or lists q [] ++ length fs ∷ [])) k [] ≡ children g fs k ++ length fs ∷ []) (sym same)
            (get_or-set_same lists q (get_or lists q [] ++ length fs ∷ []) [] (omega (arith, are.as_many)) ∙ ap (λ xs. xs ++ length fs ∷ []) (are.each q (omega arith))))
        | inr differ ↦
            let here : (p == q) ≡ false = grind (arith, nat_tests) in
            rw (one_extra fs f q p is, here) (get_or-set_other lists q p (get_or lists q [] ++ length fs ∷ []) [] differ ∙ (are.each p h ∙ sym (append-nil (children g fs p))))
      ]

-- ---- how many children there are

pub total_append : (xs ys : List (List ℕ)) → total (xs ++ ys) ≡ total xs + total ys
total_append [] ys = omega arith
total_append (x ∷ xs) ys = let rest = total_append xs ys in omega arith

total_set : (lists : List (List ℕ)) (q child : ℕ) → q < length lists → total (set lists q (get_or lists q [] ++ child ∷ [])) ≡ total lists + 1
total_set [] q child h = absurd (omega arith)
total_set (x ∷ xs) zero child h = omega (arith, length-append x (child ∷ []))
total_set (x ∷ xs) (suc q) child h = let rest = total_set xs q child (omega arith) in omega arith

pub total_with_none : (lists : List (List ℕ)) (child : ℕ) → total (with_child lists None child) ≡ total lists
total_with_none lists child = total_append lists ([] ∷ []) ∙ (let e : total lists + (0 + 0) ≡ total lists = omega arith in e)

pub total_with_some : (lists : List (List ℕ)) (q child : ℕ) → q < length lists → total (with_child lists (Some q) child) ≡ total lists + 1
total_with_some lists q child h = let one = total_set lists q child h in total_append _ ([] ∷ []) ∙ omega arith

-- ---- the lists as the code keeps them

module _ {Z : Type 0} where
  pub members_with_some : (lists : List (Vec ℕ Z)) (q child : ℕ) (m more none : Vec ℕ Z) → q < length lists → m ≡ get_or lists q m
      → more.items ≡ m.items ++ child ∷ [] → none.items ≡ []
      → members_of (set lists q more ++ none ∷ []) ≡ with_child (members_of lists) (Some q) child
  members_with_some lists q child m more none h is becomes empty =
      map-append (λ (v : Vec ℕ Z). v.items) (set lists q more) (none ∷ [])
      ∙ ap₂ (λ xs x. xs ++ x ∷ [])
      (map-set (λ (v : Vec ℕ Z). v.items) lists q more
      ∙ ap (set (members_of lists) q) (becomes ∙ ap (λ xs. xs ++ child ∷ []) (ap (λ v. v.items) is ∙ sym (get_or-map (λ (v : Vec ℕ Z). v.items) lists q m [] h))))
      empty

  pub members_with_none : (lists : List (Vec ℕ Z)) (child : ℕ) (none : Vec ℕ Z) → none.items ≡ [] → members_of (lists ++ none ∷ []) ≡ with_child (members_of lists) None child
  members_with_none lists child none empty = map-append (λ (v : Vec ℕ Z). v.items) lists (none ∷ []) ∙ ap (λ x. members_of lists ++ x ∷ []) empty
