-- The laws of the algebra of conditions, for diagrams.
use Rattle.std.proofs.Common.{◌≡◌, ℕ, Bool, true, false, not, ◌&&◌, ◌||◌, cond, eqb, List, length, Result, Ok, Err, IfOk, IfErr, arith, sym, ap, ◌∙◌, refl}
use Rattle.std.proofs.lemmas.Bool.{eqb-true, false≢true}
use Rattle.std.proofs.lemmas.Bool.Decides.{nat_tests}
use Rattle.meaning.specs.Cofactors.{World, Function, IsThere, Agree}
use Rattle.meaning.specs.Reports.{IsLeast}
use Rattle.meaning.specs.Texts.{holds_at}
use Rattle.cond_text.proofs.Values.{value_at_place}
use Rattle.node_pool.specs.declared.node.NodeNo.{NodeNo}
use Rattle.node_pool.specs.Nodes.{value, IsReduced}
use Rattle.node_pool.specs.Regions.{Region}
use Rattle.node_pool.specs.Functions.{pool_of, function_of, world_of}
use Rattle.node_pool.proofs.Values.{value-constant}
use Rattle.node_pool.proofs.Canonical.{canonical_over_lists}
use Rattle.worlds.specs.Algebra.{Kept, HoldsWhere, HoldsNowhere, HoldAlike, IsRefusal, has}
use Rattle.worlds.specs.declared.stops.NodeLimit.{NodeLimit}
use Rattle.conditions.specs.declared.question.Question.{Question}
use Rattle.conditions.specs.declared.question.Question.TheVariants.{Both, Either, Without, Pick}
use Rattle.conditions.specs.Answers.{asked_in}
use Rattle.conditions.specs.Least.{IsLeastOf}
use Rattle.conditions.specs.Diagrams.{State, algebra_of, IsLive, IsExact, IsRestricted, Asks}
use Rattle.conditions.proofs.Cofactors.{Adds-agree, Lacks-agree}

-- ---- two tests at once

pub and_parts : (a b : Bool) → a && b ≡ true → (a ≡ true) × (b ≡ true)
and_parts true b h = (refl, h)
and_parts false b h = absurd (false≢true h)

both_true : (a b : Bool) → a ≡ true → b ≡ true → a && b ≡ true
both_true a b p q = rw (p, q) refl

or_within : (a b v : Bool) → (a ≡ true → v ≡ true) → (b ≡ true → v ≡ true) → a || b ≡ true → v ≡ true
or_within true b v left right h = left refl
or_within false b v left right h = right h

pub equal_test : (n m : ℕ) → n ≡ m → eqb n m ≡ true
equal_test n m same = grind (arith, nat_tests)

-- ---- worlds

pub world_parts : (s : State) (x : List Bool) → (algebra_of s).is_world x ≡ true → (length x ≡ s.region.vars) × (function_of s.region s.valid.0 (world_of x) ≡ true)
world_parts s x inside =
    let parts = and_parts (eqb (length x) s.region.vars) (function_of s.region s.valid.0 (world_of x)) inside in
    (eqb-true (length x) s.region.vars parts.0, parts.1)

pub is_world : (s : State) (x : List Bool) → length x ≡ s.region.vars → function_of s.region s.valid.0 (world_of x) ≡ true → (algebra_of s).is_world x ≡ true
is_world s x long valid = both_true (eqb (length x) s.region.vars) _ (equal_test (length x) s.region.vars long) valid

pub lengths : (s : State) (x : List Bool) → (algebra_of s).is_world x ≡ true → length x ≡ s.region.vars
lengths s x inside = (world_parts s x inside).0

-- ---- constants

pub never_live : (r : Region) (valid : NodeNo) → IsLive r valid (record { 0 = 0 })
never_live r valid = record { there = omega arith; within = λ w h. absurd (false≢true (sym (value-constant r.nodes 0 w (omega arith)) ∙ h)) }

pub never_holds : (s : State) → HoldsWhere (algebra_of s) (record { 0 = 0 }) (λ _. false)
never_holds s = record { live = never_live s.region s.valid; holds = λ x inside. value-constant s.region.nodes 0 (world_of x) (omega arith) }

pub always_holds : (s : State) → IsThere (pool_of s.region) s.valid.0 → HoldsWhere (algebra_of s) s.valid (λ _. true)
always_holds s there = record { live = record { there = there; within = λ w h. h }; holds = λ x inside. (world_parts s x inside).1 }

-- ---- what a growing call keeps

kept_valid : {old new : State} {question : Question} {result : Result NodeNo NodeLimit} (w : World) → Asks old new question result → function_of new.region new.valid.0 w ≡ function_of old.region old.valid.0 w
kept_valid {old} {new} w a = ap (λ (n : NodeNo). function_of new.region n.0 w) a.valid ∙ a.grows.keeps.same old.valid.0 a.valid_there w

pub Kept-asks : (old new : State) (question : Question) (result : Result NodeNo NodeLimit) → Asks old new question result → Kept (algebra_of old) (algebra_of new)
Kept-asks old new question result a = record {
  count = a.grows.vars;
  worlds = λ x. rw (a.grows.vars, kept_valid (world_of x) a) refl;
  live = λ c live. record {
    there = omega (arith, live.there, a.grows.extends.no_shorter);
    within = λ w holds. kept_valid w a ∙ live.within w (sym (a.grows.keeps.same c.0 live.there w) ∙ holds);
  };
  holds = λ c live x. a.grows.keeps.same c.0 live.there (world_of x);
  asked = a.no_less_asked;
  refused = a.no_fewer_refused;
  limit = a.grows.limit;
  taken = a.taken;
  size = a.grows.extends.no_shorter;
}

-- ---- what it makes

pub HoldsWhere-asks : (old new : State) (question : Question) (result : Result NodeNo NodeLimit) (test : List Bool → Bool) → Asks old new question result → ((w : World) → asked_in old.region question w ≡ true → function_of old.region old.valid.0 w ≡ true) → ((x : List Bool) → function_of old.region old.valid.0 (world_of x) ≡ true → asked_in old.region question (world_of x) ≡ test x) → IfOk result (λ c. HoldsWhere (algebra_of new) c test)
HoldsWhere-asks old new question (Ok n) test a within is = record {
  live = record { there = a.answer.there; within = λ w holds. kept_valid w a ∙ within w (sym (a.answer.is w) ∙ holds) };
  holds = λ x inside. a.answer.is (world_of x) ∙ is x (sym (kept_valid (world_of x) a) ∙ (world_parts new x inside).1);
}
HoldsWhere-asks old new question (Err stop) test a within is = tt

pub IsRefusal-asks : (old new : State) (question : Question) (result : Result NodeNo NodeLimit) → Asks old new question result → IfErr result (IsRefusal (algebra_of old) (algebra_of new))
IsRefusal-asks old new question (Ok n) a = tt
IsRefusal-asks old new question (Err stop) a = record { used = a.exact.refused.told; rose = omega (arith, a.refused) }

pub IsExact-agree : (old new : Region) (f g : Function) (result : Result NodeNo NodeLimit) → Agree g f → IsExact old new g result → IsExact old new f result
IsExact-agree old new f g (Ok n) agree e = record { adds = Adds-agree old.vars (pool_of old) (pool_of new) f g agree e.adds; refused = tt }
IsExact-agree old new f g (Err stop) agree e = record {
  adds = Adds-agree old.vars (pool_of old) (pool_of new) f g agree e.adds;
  refused = record { full = e.refused.full; told = e.refused.told; lacks = Lacks-agree old.vars (pool_of new) f g agree e.refused.lacks };
}

-- each is true only at valid worlds

pub both_within : (r : Region) (valid a b : NodeNo) → IsLive r valid a → (w : World) → asked_in r (Both a b) w ≡ true → function_of r valid.0 w ≡ true
both_within r valid a b live w holds = live.within w (and_parts (function_of r a.0 w) (function_of r b.0 w) holds).0

pub without_within : (r : Region) (valid a b : NodeNo) → IsLive r valid a → (w : World) → asked_in r (Without a b) w ≡ true → function_of r valid.0 w ≡ true
without_within r valid a b live w holds = live.within w (and_parts (function_of r a.0 w) (not (function_of r b.0 w)) holds).0

pub either_within : (r : Region) (valid a b : NodeNo) → IsLive r valid a → IsLive r valid b → (w : World) → asked_in r (Either a b) w ≡ true → function_of r valid.0 w ≡ true
either_within r valid a b a_live b_live w holds = or_within (function_of r a.0 w) (function_of r b.0 w) (function_of r valid.0 w) (a_live.within w) (b_live.within w) holds

-- "the variable, and the valid worlds"
abbrev pub feature_asked : ℕ → NodeNo → Question
feature_asked f valid = Pick f (record { 0 = 0 }) valid

cond_and : (b v n : Bool) → n ≡ false → cond b v n ≡ b && v
cond_and true v n none = refl
cond_and false v n none = none

pub feature_is : (r : Region) (valid : NodeNo) (f : ℕ) → Agree (asked_in r (feature_asked f valid)) (λ w. w f && function_of r valid.0 w)
feature_is r valid f w = cond_and (w f) (function_of r valid.0 w) (function_of r 0 w) (value-constant r.nodes 0 w (omega arith))

pub feature_within : (r : Region) (valid : NodeNo) (f : ℕ) (w : World) → asked_in r (feature_asked f valid) w ≡ true → function_of r valid.0 w ≡ true
feature_within r valid f w holds = (and_parts (w f) (function_of r valid.0 w) (sym (feature_is r valid f w) ∙ holds)).1

and_of_true : (b v : Bool) → v ≡ true → b && v ≡ b
and_of_true true v is = is
and_of_true false v is = refl

pub feature_at : (r : Region) (valid : NodeNo) (f : ℕ) (x : List Bool) → function_of r valid.0 (world_of x) ≡ true → asked_in r (feature_asked f valid) (world_of x) ≡ holds_at x f
feature_at r valid f x inside = feature_is r valid f (world_of x) ∙ and_of_true (world_of x f) _ inside ∙ value_at_place x f

-- ---- decisions

pub never_nowhere : (s : State) (a : NodeNo) → a.0 ≡ 0 → HoldsNowhere (algebra_of s) a
never_nowhere s a is x inside = ap (λ (n : ℕ). value s.region.nodes n (world_of x)) is ∙ value-constant s.region.nodes 0 (world_of x) (omega arith)

false_unless : (b : Bool) → (b ≡ true → ⊥) → b ≡ false
false_unless true no_way = absurd (no_way refl)
false_unless false no_way = refl

-- a condition that holds at no world is never
pub nowhere_never : (s : State) (a : NodeNo) → IsReduced s.region.vars s.region.nodes → IsLive s.region s.valid a → HoldsNowhere (algebra_of s) a → a.0 ≡ 0
nowhere_never s a reduced live nowhere =
    let r : Region = s.region in
    canonical_over_lists r.vars r.nodes a.0 0 reduced live.there (omega arith) (λ x long.
    false_unless (function_of r a.0 (world_of x)) (λ holds. false≢true (sym (nowhere x (is_world s x long (live.within (world_of x) holds))) ∙ holds))
    ∙ sym (value-constant r.nodes 0 (world_of x) (omega arith)))

alike_if : (a b : Bool) → (a ≡ true → a ≡ b) → (b ≡ true → a ≡ b) → a ≡ b
alike_if true b left right = left refl
alike_if false true left right = right refl
alike_if false false left right = refl

-- conditions that hold at the same worlds are one
pub alike_same : (s : State) (a b : NodeNo) → IsReduced s.region.vars s.region.nodes → IsLive s.region s.valid a → IsLive s.region s.valid b → HoldAlike (algebra_of s) a b → a.0 ≡ b.0
alike_same s a b reduced a_live b_live alike =
    let r : Region = s.region in
    canonical_over_lists r.vars r.nodes a.0 b.0 reduced a_live.there b_live.there (λ x long.
    alike_if (function_of r a.0 (world_of x)) (function_of r b.0 (world_of x))
    (λ holds. alike x (is_world s x long (a_live.within (world_of x) holds)))
    (λ holds. alike x (is_world s x long (b_live.within (world_of x) holds))))

and_within : (w h : Bool) → (h ≡ true → w ≡ true) → w && h ≡ h
and_within true h within = refl
and_within false true within = within refl
and_within false false within = refl

-- a live condition that holds at a list of the right length holds at a world
pub has_live : (s : State) (a : NodeNo) (x : List Bool) → IsLive s.region s.valid a → length x ≡ s.region.vars → has (algebra_of s) a x ≡ function_of s.region a.0 (world_of x)
has_live s a x live long = and_within ((algebra_of s).is_world x) (function_of s.region a.0 (world_of x)) (λ holds. is_world s x long (live.within (world_of x) holds))

-- the least list at which a live condition holds is its least world
pub least_world : (s : State) (a : NodeNo) (x : List Bool) → IsLive s.region s.valid a → IsLeastOf s.region a.0 x → IsLeast s.region.vars (has (algebra_of s) a) x
least_world s a x live l = record {
  of_line = l.of_line;
  inside_it = has_live s a x live l.of_line ∙ l.inside;
  least = λ y long inside. l.least y long (sym (has_live s a y live long) ∙ inside);
}

-- ---- restricted worlds

three : (l v h : Bool) → (h ≡ true → v ≡ true) → l && h ≡ (l && v) && h
three true v h within = sym (and_within v h within)
three false v h within = refl

-- a list is a world afterwards where it was one at which the condition held
pub restricted_world : (s : State) (c : NodeNo) (x : List Bool) → IsLive s.region s.valid c → (algebra_of (record s { valid = c })).is_world x ≡ has (algebra_of s) c x
restricted_world s c x live =
    let valid : Bool = function_of s.region s.valid.0 (world_of x) in
    let here : Bool = function_of s.region c.0 (world_of x) in
    three (eqb (length x) s.region.vars) valid here (live.within (world_of x))

pub IsRestricted-to : (s : State) (c : NodeNo) → IsLive s.region s.valid c → IsRestricted s (record s { valid = c }) c
IsRestricted-to s c live = record {
  worlds = λ x. restricted_world s c x live;
  always = refl;
  always_live = record { there = live.there; within = λ w h. h };
  never_live = never_live s.region c;
  live = λ a. (
    λ later. (record { there = later.there; within = λ w h. live.within w (later.within w h) }, later.within),
    λ earlier. record { there = earlier.0.there; within = earlier.1 },
  );
  holds = λ a x. refl;
  count = refl;
  limit = refl;
  asked = refl;
  refused = refl;
  taken = refl;
  size = refl;
}
