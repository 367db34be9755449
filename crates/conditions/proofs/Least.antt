-- The way down to the least world of a function.
use Rattle.std.proofs.Common.{◌≡◌, ◌≢◌, ℕ, zero, suc, ◌+◌, ◌<◌, ◌≤◌, ◌⊎◌, inl, inr, Bool, true, false, cond, List, [], ◌∷◌, length, arith, sym, ap, ◌∙◌, refl, ⊎_elim, get_or, set, get_or-set_other, get_or-set_same}
use Rattle.std.proofs.lemmas.Bool.{cases_lt, false≢true}
use Rattle.meaning.specs.Cofactors.{World}
use Rattle.meaning.specs.Worlds.{is_lower}
use Rattle.node_pool.specs.declared.node.Node.{Node}
use Rattle.node_pool.specs.Nodes.{value, top_of, IsReduced}
use Rattle.node_pool.specs.Regions.{Region}
use Rattle.node_pool.specs.Functions.{put, world_of}
use Rattle.node_pool.proofs.Reduced.{top_of-inner}
use Rattle.node_pool.proofs.Values.{stands_at, value-agrees, value-constant}
use Rattle.node_pool.proofs.Canonical.{canonical}
use Rattle.conditions.specs.Questions.{IsNumberSplit}
use Rattle.conditions.specs.Least.{IsLeastOf}
use Rattle.conditions.proofs.Answers.{put_itself}

-- ---- one step down

-- the number's function is that of the half that the variable picks
pub split_value : (vars : ℕ) (nodes : List Node) (n var low high : ℕ) (w : World) (b : Bool) → IsReduced vars nodes → n < length nodes + 2 → IsNumberSplit vars nodes n var low high → w var ≡ b → value nodes n w ≡ cond b (value nodes high w) (value nodes low w)
split_value vars nodes n var low high w true reduced n_in s at =
    sym (s.high_function w ∙ value-agrees vars nodes n (put w var true) w reduced n_in (λ v above. put_itself w var true at v))
split_value vars nodes n var low high w false reduced n_in s at =
    sym (s.low_function w ∙ value-agrees vars nodes n (put w var false) w reduced n_in (λ v above. put_itself w var false at v))

-- a number that isn't false has a half that isn't
pub high_is_some : (vars : ℕ) (nodes : List Node) (n var low high : ℕ) → IsReduced vars nodes → n < length nodes + 2 → n ≢ 0 → IsNumberSplit vars nodes n var low high → low ≡ 0 → high ≢ 0
high_is_some vars nodes n var low high reduced n_in some s low_none high_none =
    let low_false : (w : World) → value nodes low w ≡ value nodes 0 w = λ w. ap (λ (k : ℕ). value nodes k w) low_none in
    let high_false : (w : World) → value nodes high w ≡ value nodes 0 w = λ w. ap (λ (k : ℕ). value nodes k w) high_none in
    let each : (w : World) (b : Bool) → w var ≡ b → value nodes n w ≡ value nodes 0 w = λ w.
    elim [
      | true ↦ λ at. split_value vars nodes n var low high w true reduced n_in s at ∙ high_false w
      | false ↦ λ at. split_value vars nodes n var low high w false reduced n_in s at ∙ low_false w
    ] in
    some (canonical vars nodes n 0 reduced n_in (omega arith) (λ w. each w (w var) refl))

-- ---- the way

-- the other world has true where the way first differs from it
pub record IsAbove (other way : World) (var : ℕ) : Type 0 where
  pub place : ℕ
  pub before : place < var
  pub agree : (v : ℕ) → v < place → other v ≡ way v
  pub there : other place ≡ true
  pub here : way place ≡ false

-- the other world has gone the same way down to the number, or is above
abbrev pub IsOther : List Node → ℕ → World → ℕ → World → Type 0
IsOther nodes number way var other = (((v : ℕ) → v < var → other v ≡ way v) × (value nodes number other ≡ true)) ⊎ IsAbove other way var

-- from the start the way has led down to the number, with false wherever that leads on to a true world
pub record IsWayDown (vars : ℕ) (nodes : List Node) (start number : ℕ) (way : World) (var : ℕ) : Type 0 where
  pub in_pool : number < length nodes + 2
  pub some : number ≢ 0
  pub top : var ≤ top_of vars nodes number
  pub on_way : (w : World) → ((v : ℕ) → v < var → w v ≡ way v) → value nodes start w ≡ value nodes number w
  pub others : (other : World) → value nodes start other ≡ true → IsOther nodes number way var other

pub way_start : (vars : ℕ) (nodes : List Node) (n : ℕ) (way : World) → n < length nodes + 2 → n ≢ 0 → IsWayDown vars nodes n n way 0
way_start vars nodes n way n_in some = record {
  in_pool = n_in;
  some = some;
  top = omega arith;
  on_way = λ w agree. refl;
  others = λ other holds. inl ((λ v before. absurd (omega arith)), holds);
}

above_later : (other way next : World) (var : ℕ) → ((v : ℕ) → v < var → next v ≡ way v) → IsAbove other way var → IsAbove other next (var + 1)
above_later other way next var same a = record {
  place = a.place;
  before = omega (arith, a.before);
  agree = λ v before. a.agree v before ∙ sym (same v (omega (arith, a.before)));
  there = a.there;
  here = same a.place a.before ∙ a.here;
}

agree_one_more : (w way next : World) (var : ℕ) → ((v : ℕ) → v < var → next v ≡ way v) → ((v : ℕ) → v < var → w v ≡ way v) → w var ≡ next var → (v : ℕ) → v < var + 1 → w v ≡ next v
agree_one_more w way next var same agree at v before =
    ⊎_elim
    (λ (earlier : v < var). agree v earlier ∙ sym (same v earlier))
    (λ (not_earlier : var ≤ v). let here : v ≡ var = omega arith in ap w here ∙ at ∙ sym (ap next here))
    (cases_lt v var)

agree_before : (w way next : World) (var : ℕ) → ((v : ℕ) → v < var → next v ≡ way v) → ((v : ℕ) → v < var + 1 → w v ≡ next v) → (v : ℕ) → v < var → w v ≡ way v
agree_before w way next var same agree v before = agree v (omega arith) ∙ same v before

-- where false leads nowhere, the way goes on with true
pub way_high : (vars : ℕ) (nodes : List Node) (start n var low high : ℕ) (way next : World) → IsReduced vars nodes → IsWayDown vars nodes start n way var → IsNumberSplit vars nodes n var low high → low ≡ 0 → ((v : ℕ) → v < var → next v ≡ way v) → next var ≡ true → IsWayDown vars nodes start high next (var + 1)
way_high vars nodes start n var low high way next reduced d s none same at =
    let value_if : (w : World) (b : Bool) → w var ≡ b → value nodes n w ≡ cond b (value nodes high w) (value nodes low w) = λ w b is. split_value vars nodes n var low high w b reduced d.in_pool s is in
    let low_is : (w : World) → value nodes low w ≡ false = λ w. ap (λ (k : ℕ). value nodes k w) none ∙ value-constant nodes 0 w (omega arith) in
    let same_way : (other : World) (b : Bool) → other var ≡ b → ((v : ℕ) → v < var → other v ≡ way v) → value nodes n other ≡ true → IsOther nodes high next (var + 1) other = λ other.
    elim [
      | true ↦ λ is agree holds. inl (agree_one_more other way next var same agree (is ∙ sym at), sym (value_if other true is) ∙ holds)
      | false ↦ λ is agree holds. absurd (false≢true (sym (value_if other false is ∙ low_is other) ∙ holds))
    ] in
    record {
      in_pool = s.high_in;
      some = high_is_some vars nodes n var low high reduced d.in_pool d.some s none;
      top = omega (arith, s.high_after);
      on_way = λ w agree. d.on_way w (agree_before w way next var same agree) ∙ value_if w true (agree var (omega arith) ∙ at);
      others = λ other holds.
          ⊎_elim
          (λ (going : ((v : ℕ) → v < var → other v ≡ way v) × (value nodes n other ≡ true)). same_way other (other var) refl going.0 going.1)
          (λ (above : IsAbove other way var). inr (above_later other way next var same above))
          (d.others other holds);
    }

-- else it goes on with false
pub way_low : (vars : ℕ) (nodes : List Node) (start n var low high : ℕ) (way next : World) → IsReduced vars nodes → IsWayDown vars nodes start n way var → IsNumberSplit vars nodes n var low high → low ≢ 0 → ((v : ℕ) → v < var → next v ≡ way v) → next var ≡ false → IsWayDown vars nodes start low next (var + 1)
way_low vars nodes start n var low high way next reduced d s some same at =
    let value_if : (w : World) (b : Bool) → w var ≡ b → value nodes n w ≡ cond b (value nodes high w) (value nodes low w) = λ w b is. split_value vars nodes n var low high w b reduced d.in_pool s is in
    let same_way : (other : World) (b : Bool) → other var ≡ b → ((v : ℕ) → v < var → other v ≡ way v) → value nodes n other ≡ true → IsOther nodes low next (var + 1) other = λ other.
    elim [
      | true ↦ λ is agree holds. inr (record { place = var; before = omega arith; agree = λ v before. agree v before ∙ sym (same v before); there = is; here = at })
      | false ↦ λ is agree holds. inl (agree_one_more other way next var same agree (is ∙ sym at), sym (value_if other false is) ∙ holds)
    ] in
    record {
      in_pool = s.low_in;
      some = some;
      top = omega (arith, s.low_after);
      on_way = λ w agree. d.on_way w (agree_before w way next var same agree) ∙ value_if w false (agree var (omega arith) ∙ at);
      others = λ other holds.
          ⊎_elim
          (λ (going : ((v : ℕ) → v < var → other v ≡ way v) × (value nodes n other ≡ true)). same_way other (other var) refl going.0 going.1)
          (λ (above : IsAbove other way var). inr (above_later other way next var same above))
          (d.others other holds);
    }

-- ---- the way as a list

pub written_before : (out : List Bool) (i var : ℕ) (b : Bool) → i ≡ var → (v : ℕ) → v < var → world_of (set out i b) v ≡ world_of out v
written_before out i var b here v before = let ne : v ≢ i = omega arith in rw get_or-set_other refl

pub written_there : (out : List Bool) (i var : ℕ) (b : Bool) → i ≡ var → var < length out → world_of (set out i b) var ≡ b
written_there out i var b here within = let lt : var < length out = within in rw here (rw get_or-set_same refl)

pub way_high_written : (vars : ℕ) (nodes : List Node) (start n var low high i : ℕ) (out : List Bool) (b : Bool) → IsReduced vars nodes → IsWayDown vars nodes start n (world_of out) var → IsNumberSplit vars nodes n var low high → low ≡ 0 → i ≡ var → var < length out → b ≡ true → IsWayDown vars nodes start high (world_of (set out i b)) (var + 1)
way_high_written vars nodes start n var low high i out b reduced d s none here within is =
    way_high vars nodes start n var low high (world_of out) (world_of (set out i b)) reduced d s none (written_before out i var b here) (written_there out i var b here within ∙ is)

pub way_low_written : (vars : ℕ) (nodes : List Node) (start n var low high i : ℕ) (out : List Bool) (b : Bool) → IsReduced vars nodes → IsWayDown vars nodes start n (world_of out) var → IsNumberSplit vars nodes n var low high → low ≢ 0 → i ≡ var → var < length out → b ≡ false → IsWayDown vars nodes start low (world_of (set out i b)) (var + 1)
way_low_written vars nodes start n var low high i out b reduced d s some here within is =
    way_low vars nodes start n var low high (world_of out) (world_of (set out i b)) reduced d s some (written_before out i var b here) (written_there out i var b here within ∙ is)

-- ---- the end

-- a list that has true where it first differs from another one is not the lower of the two
not_lower_above : (y o : List Bool) (i : ℕ) → ((v : ℕ) → v < i → get_or y v false ≡ get_or o v false) → get_or y i false ≡ true → get_or o i false ≡ false → is_lower y o ≡ false
not_lower_above [] o i agree there here = absurd (false≢true there)
not_lower_above (b ∷ y) [] i agree there here = refl
not_lower_above (true ∷ y) (false ∷ o) i agree there here = refl
not_lower_above (false ∷ y) (true ∷ o) zero agree there here = absurd (false≢true there)
not_lower_above (false ∷ y) (true ∷ o) (suc i) agree there here = absurd (false≢true (agree 0 (omega arith)))
not_lower_above (true ∷ y) (true ∷ o) zero agree there here = absurd (false≢true (sym here))
not_lower_above (true ∷ y) (true ∷ o) (suc i) agree there here = not_lower_above y o i (λ v before. agree (suc v) (omega arith)) there here
not_lower_above (false ∷ y) (false ∷ o) zero agree there here = absurd (false≢true there)
not_lower_above (false ∷ y) (false ∷ o) (suc i) agree there here = not_lower_above y o i (λ v before. agree (suc v) (omega arith)) there here

not_lower_same : (y o : List Bool) → length y ≡ length o → ((v : ℕ) → v < length o → get_or y v false ≡ get_or o v false) → is_lower y o ≡ false
not_lower_same [] [] long agree = refl
not_lower_same [] (c ∷ o) long agree = absurd (omega arith)
not_lower_same (b ∷ y) [] long agree = refl
not_lower_same (true ∷ y) (false ∷ o) long agree = refl
not_lower_same (false ∷ y) (true ∷ o) long agree = absurd (false≢true (agree 0 (omega arith)))
not_lower_same (true ∷ y) (true ∷ o) long agree = not_lower_same y o (omega arith) (λ v before. agree (suc v) (omega arith))
not_lower_same (false ∷ y) (false ∷ o) long agree = not_lower_same y o (omega arith) (λ v before. agree (suc v) (omega arith))

-- a way through all variables ends at a world where the function is true, and at the least one
pub way_end : (r : Region) (start number : ℕ) (out : List Bool) (var : ℕ) → IsReduced r.vars r.nodes → length out ≡ r.vars → r.vars ≤ var → var ≤ r.vars → IsWayDown r.vars r.nodes start number (world_of out) var → IsLeastOf r start out
way_end r start number out var reduced long all within d =
    let none_left : r.vars ≤ top_of r.vars r.nodes number = omega (arith, d.top) in
    let constant : number < 2 =
    ⊎_elim
    (λ (small : number < 2). small)
    (λ (inner : 2 ≤ number). absurd (omega (arith, top_of-inner r.vars r.nodes number inner, (stands_at r.vars r.nodes number reduced inner d.in_pool).var_in)))
    (cases_lt number 2) in
    let one : number ≡ 1 = ⊎_elim (λ (small : number < 1). absurd (d.some (omega arith))) (λ (not_small : 1 ≤ number). omega arith) (cases_lt number 1) in
    let holds : value r.nodes number (world_of out) ≡ true = ap (λ (k : ℕ). value r.nodes k (world_of out)) one ∙ value-constant r.nodes 1 (world_of out) (omega arith) in
    record {
      of_line = long;
      inside = d.on_way (world_of out) (λ v before. refl) ∙ holds;
      least = λ other other_long other_holds.
          ⊎_elim
          (λ (going : ((v : ℕ) → v < var → world_of other v ≡ world_of out v) × (value r.nodes number (world_of other) ≡ true)). not_lower_same other out (omega arith) (λ v before. going.0 v (omega arith)))
          (λ (above : IsAbove (world_of other) (world_of out) var). not_lower_above other out above.place above.agree above.there above.here)
          (d.others (world_of other) other_holds);
    }
