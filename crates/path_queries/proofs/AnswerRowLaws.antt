-- Rows of answers that grow: what is added tells what is found, at later moments too, and how many there are.
use Rattle.std.proofs.Common.{◌≡◌, ◌∙◌, refl, sym, ap, subst, ℕ, zero, suc, ◌+◌, ◌<◌, ◌≤◌, ◌⊎◌, inl, inr, List, [], ◌∷◌, ◌++◌, length, map, Bool, true, false, cond, append_assoc, arith}
use Rattle.std.specs.Prelude.{filter, Contains}
use Rattle.std.specs.List.{All, AllByRecursion, slice_get}
use Rattle.std.proofs.lemmas.List.{map-append, length-append, length-map}
use Rattle.std.proofs.lemmas.List.Elements.{filter-append, All-append, All-weaker, All-nil, All-contains, recursion_from_All, All-from_recursion, Contains-append_left, Contains-append_right, Contains-append_cases}
use Rattle.meaning.specs.Models.{Model, model_at}
use Rattle.meaning.specs.Queries.{Query, tuples, answers}
use Rattle.meaning.specs.Tidy.{Among, none, taken, passed, whole_model}
use Rattle.worlds.specs.Algebra.{Algebra, Kept}
use Rattle.worlds.proofs.Kept.{world_before}
use Rattle.path_queries.specs.Answering.{Somewhere, tuples_of, tuples_at, answers_at, ManyAnswers}
use Rattle.path_queries.specs.Tuples.{answers_below, answers_from, tuples_from, Adds, Overflows}
use Rattle.path_queries.proofs.TupleOrder.{some_ordered, tuples_ordered, once}
use Rattle.path_queries.proofs.TupleSplits.{answers_from_none, tuples_from_none}

-- ---- some of a list

module _ {X : Type 0} where
  nothing_among : (ys : List X) → Among [] ys
  nothing_among [] = none
  nothing_among (y ∷ ys) = passed (nothing_among ys)

  nothing_at_end : (xs : List X) → xs ≡ xs ++ []
  nothing_at_end [] = refl
  nothing_at_end (x ∷ xs) = ap (λ ys. x ∷ ys) (nothing_at_end xs)

  pub among_more : (xs ys zs : List X) → Among xs ys → Among xs (ys ++ zs)
  among_more _ _ zs none = nothing_among zs
  among_more _ _ zs (taken {x} {xs} {ys} a) = taken (among_more xs ys zs a)
  among_more xs _ zs (passed {y} {ys} a) = passed (among_more xs ys zs a)

  among_both : (xs ys us vs : List X) → Among xs ys → Among us vs → Among (xs ++ us) (ys ++ vs)
  among_both _ _ us vs none b = b
  among_both _ _ us vs (taken {x} {xs} {ys} a) b = taken (among_both xs ys us vs a b)
  among_both xs _ us vs (passed {y} {ys} a) b = passed (among_both xs ys us vs a b)

  filter_same : (P : X → Type 0) (f g : X → Bool) → ((x : X) → P x → f x ≡ g x) → (xs : List X) → AllByRecursion P xs → filter f xs ≡ filter g xs
  filter_same P f g same [] all = refl
  filter_same P f g same (x ∷ xs) all =
      ap (λ b. cond b (x ∷ filter f xs) (filter f xs)) (same x all.0) ∙ ap (λ ys. cond (g x) (x ∷ ys) ys) (filter_same P f g same xs all.1)

  both_hold : (P Q : X → Type 0) (xs : List X) → AllByRecursion P xs → AllByRecursion Q xs → AllByRecursion (λ x. P x × Q x) xs
  both_hold P Q [] p q = tt
  both_hold P Q (x ∷ xs) p q = ((p.0, q.0), both_hold P Q xs p.1 q.1)

-- ---- rows at later moments

module _ {C : Type 0} where
  tuples_later : {a b : Algebra C} (rows : List (List ℕ × C)) (x : List Bool) → Kept a b → All (λ r. a.live r.1) rows → tuples_at b rows x ≡ tuples_at a rows x
  tuples_later {a} {b} rows x kept live =
      ap (map (λ r. r.0)) (filter_same (λ r. a.live r.1) (λ r. b.holds r.1 x) (λ r. a.holds r.1 x) (λ r l. kept.holds r.1 l x) rows (recursion_from_All (λ r. a.live r.1) rows live))

  somewhere_later : {a b : Algebra C} (rows : List (List ℕ × C)) → Kept a b → All (λ r. a.live r.1) rows → All (λ r. Somewhere a r.1) rows → All (λ r. Somewhere b r.1) rows
  somewhere_later {a} {b} rows kept live some =
      All-weaker (λ r. a.live r.1 × Somewhere a r.1) (λ r. Somewhere b r.1)
      (λ r h. (h.1.0, kept.worlds h.1.0 ∙ h.1.1, kept.holds r.1 h.0 h.1.0 ∙ h.1.2)) rows
      (All-from_recursion (λ r. a.live r.1 × Somewhere a r.1) rows
      (both_hold (λ r. a.live r.1) (λ r. Somewhere a r.1) rows (recursion_from_All (λ r. a.live r.1) rows live) (recursion_from_All (λ r. Somewhere a r.1) rows some)))

  pub adds_later : {a b : Algebra C} {old new : List (List ℕ × C)} {found : List Bool → List (List ℕ)} {possible : List (List ℕ)} → Kept a b → Adds a old new found possible → Adds b old new found possible
  adds_later {a} {b} kept h = record {
    added = h.added;
    is = h.is;
    live = All-weaker (λ r. a.live r.1) (λ r. b.live r.1) (λ r l. kept.live r.1 l) h.added h.live;
    holds = λ x w. tuples_later h.added x kept h.live ∙ h.holds x (world_before x kept w);
    somewhere = somewhere_later h.added kept h.live h.somewhere;
    order = h.order;
  }

  -- ---- rows that are added

  pub adds_none : (a : Algebra C) (rows : List (List ℕ × C)) (found : List Bool → List (List ℕ)) (possible : List (List ℕ)) → ((x : List Bool) → a.is_world x ≡ true → found x ≡ []) → Adds a rows rows found possible
  adds_none a rows found possible nothing = record {
    added = [];
    is = nothing_at_end rows;
    live = All-nil (λ r. a.live r.1);
    holds = λ x w. sym (nothing x w);
    somewhere = All-nil (λ r. Somewhere a r.1);
    order = nothing_among possible;
  }

  tuples_of_both : (a : Algebra C) (rows more : List (List ℕ × C)) (x : List Bool) → tuples_at a (rows ++ more) x ≡ tuples_at a rows x ++ tuples_at a more x
  tuples_of_both a rows more x =
      ap (map (λ r. r.0)) (filter-append (λ r. a.holds r.1 x) rows more) ∙ map-append (λ r. r.0) (filter (λ r. a.holds r.1 x) rows) (filter (λ r. a.holds r.1 x) more)

  pub adds_then : {a : Algebra C} {r s t : List (List ℕ × C)} {f g : List Bool → List (List ℕ)} {p q : List (List ℕ)} → Adds a r s f p → Adds a s t g q → Adds a r t (λ x. f x ++ g x) (p ++ q)
  adds_then {a} {r} {s} {t} {f} {g} {p} {q} h k = record {
    added = h.added ++ k.added;
    is = k.is ∙ ap (λ rows. rows ++ k.added) h.is ∙ append_assoc r h.added k.added;
    live = All-append (λ r. a.live r.1) h.added k.added h.live k.live;
    holds = λ x w. tuples_of_both a h.added k.added x ∙ ap (λ ts. ts ++ tuples_at a k.added x) (h.holds x w) ∙ ap (λ ts. f x ++ ts) (k.holds x w);
    somewhere = All-append (λ r. Somewhere a r.1) h.added k.added h.somewhere k.somewhere;
    order = subst (λ ts. Among ts (p ++ q)) (sym (map-append (λ r. r.0) h.added k.added)) (among_both (tuples_of h.added) p (tuples_of k.added) q h.order k.order);
  }

  -- other words for what is found and what is possible
  pub adds_as : {a : Algebra C} {old new : List (List ℕ × C)} {found : List Bool → List (List ℕ)} {possible : List (List ℕ)} (other : List Bool → List (List ℕ)) (others : List (List ℕ))
      → ((x : List Bool) → a.is_world x ≡ true → found x ≡ other x) → possible ≡ others → Adds a old new found possible → Adds a old new other others
  adds_as other others same is h = record {
    added = h.added;
    is = h.is;
    live = h.live;
    holds = λ x w. h.holds x w ∙ same x w;
    somewhere = h.somewhere;
    order = subst (λ ts. Among (tuples_of h.added) ts) is h.order;
  }

  -- ---- more than there is room for

  -- a row that holds at a list has its tuple there
  row_there : (a : Algebra C) (rows : List (List ℕ × C)) (x : List Bool) (r : List ℕ × C) → Contains rows r → a.holds r.1 x ≡ true → Contains (tuples_at a rows x) r.0
  row_there a [] x r c e = let past = c.1 in absurd (omega (arith, past))
  row_there a (s ∷ rows) x r (zero, l, h) e =
      subst (λ b. Contains (map (λ r. r.0) (cond b (s ∷ filter (λ r. a.holds r.1 x) rows) (filter (λ r. a.holds r.1 x) rows))) r.0)
      (sym (ap (λ r. a.holds r.1 x) h ∙ e)) (0, omega arith, ap (λ r. r.0) h)
  row_there a (s ∷ rows) x r (suc k, l, h) e = go (a.holds s.1 x) (row_there a rows x r (k, omega (arith, l), h) e)
    where
      go : (b : Bool) → Contains (tuples_at a rows x) r.0 → Contains (map (λ r. r.0) (cond b (s ∷ filter (λ r. a.holds r.1 x) rows) (filter (λ r. a.holds r.1 x) rows))) r.0
      go true (k, l, h) = (suc k, omega (arith, l), h)
      go false c = c

  row_of : (rows : List (List ℕ × C)) (t : List ℕ) → Contains (tuples_of rows) t → (r : List ℕ × C) × Contains rows r × (r.0 ≡ t)
  row_of [] t c = let past = c.1 in absurd (omega (arith, past))
  row_of (s ∷ rows) t (zero, l, h) = (s, (0, omega arith, refl), h)
  row_of (s ∷ rows) t (suc k, l, h) = let r = row_of rows t (k, omega (arith, l), h) in (r.0, (suc r.1.0, (let m = r.1.1 in omega (arith, m)), r.1.2), r.2)

  -- each tuple that was added is found at some world
  added_found : {a : Algebra C} {old new : List (List ℕ × C)} {found : List Bool → List (List ℕ)} {possible : List (List ℕ)} (h : Adds a old new found possible)
      (t : List ℕ) → Contains (tuples_of h.added) t → (x : List Bool) × (a.is_world x ≡ true) × Contains (found x) t
  added_found {a} {found} h t c =
      let r = row_of h.added t c in
      let some = All-contains (λ r. Somewhere a r.1) h.added r.0 h.somewhere r.1 in
      (some.0, some.1, subst (λ ts. Contains ts t) (h.holds some.0 some.1) (subst (λ u. Contains (tuples_at a h.added some.0) u) r.2 (row_there a h.added some.0 r.0 r.1 some.2)))

  pub overflows_after : {a : Algebra C} {old new : List (List ℕ × C)} {f g : List Bool → List (List ℕ)} {p q : List (List ℕ)} {most : ℕ} → Adds a old new f p → Overflows a new g q most → Overflows a old (λ x. f x ++ g x) (p ++ q) most
  overflows_after {a} {old} {new} {f} {g} {p} {q} {most} h k =
      let total : length new ≡ length old + length h.added = ap length h.is ∙ length-append old h.added in
      let count : length (tuples_of h.added ++ k.added) ≡ length h.added + length k.added =
      length-append (tuples_of h.added) k.added ∙ ap (λ n. n + length k.added) (length-map h.added (λ r. r.0)) in
      record {
        added = tuples_of h.added ++ k.added;
        order = among_both (tuples_of h.added) p k.added q h.order k.order;
        each_found = λ t c. either t (Contains-append_cases (tuples_of h.added) k.added t c);
        many = omega (arith, total, count, k.many);
      }
    where
      either : (t : List ℕ) → Contains (tuples_of h.added) t ⊎ Contains k.added t → (x : List Bool) × (a.is_world x ≡ true) × Contains (f x ++ g x) t
      either t (inl c) = let there = added_found h t c in (there.0, there.1, Contains-append_left (f there.0) (g there.0) t there.2)
      either t (inr c) = let there = k.each_found t c in (there.0, there.1, Contains-append_right (f there.0) (g there.0) t there.2)

  -- where more may be found
  pub overflows_more : {a : Algebra C} {old : List (List ℕ × C)} {f : List Bool → List (List ℕ)} {p : List (List ℕ)} {most : ℕ} (g : List Bool → List (List ℕ)) (q : List (List ℕ))
      → ((x : List Bool) → a.is_world x ≡ true → (t : List ℕ) → Contains (f x) t → Contains (g x) t) → ((ts : List (List ℕ)) → Among ts p → Among ts q) → Overflows a old f p most → Overflows a old g q most
  overflows_more g q further wider h = record {
    added = h.added;
    order = wider h.added h.order;
    each_found = λ t c. let there = h.each_found t c in (there.0, there.1, further there.0 there.1 t there.2);
    many = h.many;
  }

  pub overflows_later : {a b : Algebra C} {old : List (List ℕ × C)} {f : List Bool → List (List ℕ)} {p : List (List ℕ)} {most : ℕ} → Kept a b → Overflows a old f p most → Overflows b old f p most
  overflows_later kept h = record {
    added = h.added;
    order = h.order;
    each_found = λ t c. let there = h.each_found t c in (there.0, kept.worlds there.0 ∙ there.1, there.2);
    many = h.many;
  }

  -- ---- of a whole query

  pub answers_whole : (a : Algebra C) (m : Model) (q : Query) (bound : List ℕ) (under : C) (x : List Bool) → answers_below a m q bound [] under x ≡ answers_at a m q bound under x
  answers_whole a m q bound under x = ap (λ ts. cond (a.holds under x) ts []) (answers_from_none (model_at m x) q bound)

  pub many_answers : {a b : Algebra C} {m : Model} {q : Query} {bound : List ℕ} {under : C} {most : ℕ} → Kept a b
      → Overflows b [] (answers_below a m q bound [] under) (tuples_from (whole_model m) q.variables []) most → ManyAnswers a m q bound under most
  many_answers {a} {b} {m} {q} {bound} {under} {most} kept h = record {
    tuples = h.added;
    once = once h.added (some_ordered h.added (tuples (whole_model m) q.variables) (subst (λ ts. Among h.added ts) (tuples_from_none (whole_model m) q.variables) h.order) (tuples_ordered m q.variables));
    each_answers = λ t c.
        let there = h.each_found t c in
        (there.0, sym (kept.worlds there.0) ∙ there.1, subst (λ ts. Contains ts t) (answers_whole a m q bound under there.0) there.2);
    many = let l = h.many in omega (arith, l);
  }
