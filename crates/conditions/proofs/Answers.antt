-- How the answers of a question's two branches become its own.
use Rattle.std.proofs.Common.{◌≡◌, ◌≢◌, ℕ, suc, ◌+◌, ◌-◌, ◌*◌, ◌^◌, ◌<◌, ◌≤◌, Bool, true, false, cond, eqb, length, Result, Ok, Err, OnErr, IsErr, Option, Some, None, IfSome, MatchOption, arith, sym, ap, ◌∙◌, refl, ⊎_elim}
use Rattle.std.proofs.Math.Nat.{pow-suc}
use Rattle.std.proofs.Math.Pow.{pow_mono}
use Rattle.std.proofs.lemmas.Nat.{pow_pos}
use Rattle.std.proofs.lemmas.Bool.{cases_eq, false≢true}
use Rattle.std.proofs.lemmas.Bool.Decides.{nat_tests}
use Rattle.meaning.specs.Cofactors.{World, Function, Agree, Lacks, AddsCofactors}
use Rattle.node_pool.specs.declared.node.NodeNo.{NodeNo}
use Rattle.node_pool.specs.declared.pool.Full.{Full}
use Rattle.node_pool.specs.Nodes.{value, top_of, triple, IsReduced, Extends}
use Rattle.node_pool.specs.Regions.{Region, IsRegion, IsFull}
use Rattle.node_pool.specs.Functions.{pool_of, function_of, branch, put}
use Rattle.node_pool.specs.Made.{Makes, Grows}
use Rattle.node_pool.proofs.Reduced.{top_of-constant, top_of-inner, top_of-extends, Extends-refl, Extends-trans}
use Rattle.node_pool.proofs.Values.{stands_at, value-constant}
use Rattle.node_pool.proofs.Canonical.{top_of-within}
use Rattle.conditions.specs.declared.question.Question.{Question}
use Rattle.conditions.specs.Questions.{first_of, IsAsked, IsSplit}
use Rattle.conditions.specs.Answers.{asked_in, IsAnswer, IsRefused, IsProgress, Answers, IsHalved, Joins}
use Rattle.conditions.proofs.Cofactors.{StartsAt, IsBranch, Lacks-branch, Adds-branch, Adds-agree, Lacks-agree, Adds-then}
use Rattle.conditions.proofs.Questions.{function_asked-extends, function_asked-starts, IsAsked-extends, first_of-extends}

-- ---- regions that grow

pub Grows-itself : (r : Region) → Grows r r
Grows-itself r = record {
  limit = refl;
  vars = refl;
  extends = Extends-refl r.nodes;
  keeps = record { no_fewer = omega arith; same = λ n there w. refl };
}

pub Grows-then : {a b c : Region} → Grows a b → Grows b c → Grows a c
Grows-then {a} {b} {c} first second =
    let no_fewer : length a.nodes ≤ length b.nodes = first.extends.no_shorter in
    record {
      limit = second.limit ∙ first.limit;
      vars = second.vars ∙ first.vars;
      extends = Extends-trans a.nodes b.nodes c.nodes first.extends second.extends;
      keeps = record {
        no_fewer = omega (arith, first.extends.no_shorter, second.extends.no_shorter);
        same = λ n there w. second.keeps.same n (omega arith) w ∙ first.keeps.same n there w;
      };
    }

-- an answer stays one
pub IsAnswer-later : (old new : Region) (question : Question) (answer : NodeNo) → IsReduced old.vars old.nodes → Grows old new → IsAnswer old question answer → IsAnswer new question answer
IsAnswer-later old new question answer reduced grows a =
    let longer : Extends old.nodes new.nodes = grows.extends in
    let asked : IsAsked old.vars new.nodes question = IsAsked-extends old.vars old.nodes new.nodes question longer.no_shorter a.asked in
    let top : first_of old.vars new.nodes question ≤ top_of old.vars new.nodes answer.0 = rw (first_of-extends old.vars old.nodes new.nodes question longer a.asked, top_of-extends old.vars old.nodes new.nodes answer.0 longer a.there) a.top in
    record {
      asked = rw grows.vars asked;
      there = omega (arith, a.there, longer.no_shorter);
      top = rw grows.vars top;
      function = λ w. grows.keeps.same answer.0 a.there w ∙ a.function w ∙ sym (function_asked-extends old.vars old.nodes new.nodes question w reduced longer a.asked);
    }

-- ---- an answer that was known

pub Answers-known : (r : Region) (question : Question) (answer : NodeNo) → IsRegion r → IsAnswer r question answer → Answers r r question (Ok answer)
Answers-known r question answer region is = record {
  progress = record {
    region = region;
    grows = Grows-itself r;
    adds = λ n past there. absurd (omega arith);
    few = omega (arith, pow_pos (r.vars - first_of r.vars r.nodes question));
  };
  ok = is;
  refused = tt;
}

-- ---- a question and its two branches

pub record IsBranching (r : Region) (question : Question) (var : ℕ) (low high : Question) : Type 0 where
  pub region : IsRegion r
  pub asked : IsAsked r.vars r.nodes question
  pub var_in : var < r.vars
  pub var_is : var ≡ first_of r.vars r.nodes question
  pub split : IsSplit r.vars r.nodes question var low high

pub starts : {r : Region} {question : Question} {var : ℕ} {low high : Question} → IsBranching r question var low high → StartsAt (asked_in r question) var
starts {r} {question} b world other agree =
    function_asked-starts r.vars r.nodes question world other b.region.reduced b.asked (λ v above. agree v (omega (arith, b.var_is)))

-- the second branch is asked of a region that has grown
pub high_branch : {r : Region} {question : Question} {var : ℕ} {low high : Question} (more : Region) → IsBranching r question var low high → Grows r more → IsBranch (asked_in more high) (asked_in r question) var true
high_branch {r} {question} {var} {low} {high} more b grows world =
    function_asked-extends r.vars r.nodes more.nodes high world b.region.reduced grows.extends b.split.high_asked ∙ b.split.high_branch world

pub low_branch : {r : Region} {question : Question} {var : ℕ} {low high : Question} (more : Region) → IsBranching r question var low high → Grows r more → IsBranch (asked_in more low) (asked_in r question) var false
low_branch {r} {question} {var} {low} {high} more b grows world =
    function_asked-extends r.vars r.nodes more.nodes low world b.region.reduced grows.extends b.split.low_asked ∙ b.split.low_branch world

-- how many nodes the branches may add
half_below : (vars var top : ℕ) → var < vars → var < top → 2 ^ (vars - top) + 2 ^ (vars - (var + 1)) ≤ 2 ^ (vars - var)
half_below vars var top var_in later =
    let fewer : vars - top ≤ vars - (var + 1) = omega arith in
    let bound : 2 ^ (vars - top) ≤ 2 ^ (vars - (var + 1)) = pow_mono fewer in
    let next : vars - var ≡ suc (vars - (var + 1)) = omega arith in
    let double : 2 ^ (vars - var) ≡ 2 ^ (vars - (var + 1)) * 2 = ap (λ (k : ℕ). 2 ^ k) next ∙ pow-suc 2 (vars - (var + 1)) in
    omega arith

half_of : (vars var top : ℕ) → var < top → 2 ^ (vars - top) ≤ 2 ^ (vars - (var + 1))
half_of vars var top later = let fewer : vars - top ≤ vars - (var + 1) = omega arith in pow_mono fewer

-- what the answer of the first branch makes of the region
pub low_progress : {r : Region} {question : Question} {var : ℕ} {low high : Question} (more : Region) → IsBranching r question var low high → IsProgress r more (asked_in r low) (first_of r.vars r.nodes low) → IsProgress r more (asked_in r question) (first_of r.vars r.nodes question)
low_progress {r} {question} {var} {low} {high} more b p =
    let halves : 2 ^ (r.vars - first_of r.vars r.nodes low) + 2 ^ (r.vars - (var + 1)) ≤ 2 ^ (r.vars - var) = half_below r.vars var (first_of r.vars r.nodes low) b.var_in b.split.low_after in
    let room : 2 ^ (r.vars - var) ≡ 2 ^ (r.vars - first_of r.vars r.nodes question) = ap (λ (v : ℕ). 2 ^ (r.vars - v)) b.var_is in
    record {
      region = p.region;
      grows = p.grows;
      adds = Adds-branch r.vars (pool_of r) (pool_of more) (asked_in r question) (asked_in r low) var false b.var_in (starts b) (low_branch r b (Grows-itself r)) p.adds;
      few = omega (arith, p.few);
    }

-- both branches leave room for the node that joins them
high_few : {r : Region} {question : Question} {var : ℕ} {low high : Question} (more most : Region) → IsBranching r question var low high → IsProgress r more (asked_in r low) (first_of r.vars r.nodes low) → IsProgress more most (asked_in more high) (first_of more.vars more.nodes high) → length most.nodes + 2 ≤ length r.nodes + 2 ^ (r.vars - first_of r.vars r.nodes question)
high_few {r} {question} {var} {low} {high} more most b p q =
    let first_is : first_of r.vars more.nodes high ≡ first_of r.vars r.nodes high = first_of-extends r.vars r.nodes more.nodes high p.grows.extends b.split.high_asked in
    let few : length most.nodes + 1 ≤ length more.nodes + 2 ^ (r.vars - first_of r.vars r.nodes high) = rw (← first_is, ← p.grows.vars) q.few in
    let halves : 2 ^ (r.vars - first_of r.vars r.nodes low) + 2 ^ (r.vars - (var + 1)) ≤ 2 ^ (r.vars - var) = half_below r.vars var (first_of r.vars r.nodes low) b.var_in b.split.low_after in
    let half : 2 ^ (r.vars - first_of r.vars r.nodes high) ≤ 2 ^ (r.vars - (var + 1)) = half_of r.vars var (first_of r.vars r.nodes high) b.split.high_after in
    let room : 2 ^ (r.vars - var) ≡ 2 ^ (r.vars - first_of r.vars r.nodes question) = ap (λ (v : ℕ). 2 ^ (r.vars - v)) b.var_is in
    omega (arith, p.few)

high_adds : {r : Region} {question : Question} {var : ℕ} {low high : Question} (more most : Region) → IsBranching r question var low high → IsProgress r more (asked_in r low) (first_of r.vars r.nodes low) → IsProgress more most (asked_in more high) (first_of more.vars more.nodes high) → AddsCofactors r.vars (pool_of r) (pool_of most) (asked_in r question)
high_adds {r} {question} {var} {low} {high} more most b p q =
    let second : AddsCofactors r.vars (pool_of more) (pool_of most) (asked_in more high) = rw (← p.grows.vars) q.adds in
    Adds-then r.vars (pool_of r) (pool_of more) (pool_of most) (asked_in r question) q.grows.keeps
    (low_progress more b p).adds
    (Adds-branch r.vars (pool_of more) (pool_of most) (asked_in r question) (asked_in more high) var true b.var_in (starts b) (high_branch more b p.grows) second)

pub high_progress : {r : Region} {question : Question} {var : ℕ} {low high : Question} (more most : Region) → IsBranching r question var low high → IsProgress r more (asked_in r low) (first_of r.vars r.nodes low) → IsProgress more most (asked_in more high) (first_of more.vars more.nodes high) → IsProgress r most (asked_in r question) (first_of r.vars r.nodes question)
high_progress more most b p q = record {
  region = q.region;
  grows = Grows-then p.grows q.grows;
  adds = high_adds more most b p q;
  few = omega (arith, high_few more most b p q);
}

-- ---- refusals

-- what holds of each error holds of a result that is one
pub at_error : (result : Result NodeNo Full) (P : Result NodeNo Full → Type 0) → ((e : Full) → P (Err e)) → IsErr result → P result
at_error (Ok n) P each is = absurd (false≢true is)
at_error (Err e) P each is = each e

pub Answers-low_refused : {r : Region} {question : Question} {var : ℕ} {low high : Question} (more : Region) (e e' : Full) → IsBranching r question var low high → Answers r more low (Err e) → Answers r more question (Err e')
Answers-low_refused {r} {question} {var} {low} {high} more e e' b a = record {
  progress = low_progress more b a.progress;
  ok = tt;
  refused = record {
    full = a.refused.full;
    lacks = Lacks-branch r.vars (pool_of more) (asked_in r question) (asked_in r low) var false b.var_in (starts b) (low_branch r b (Grows-itself r)) a.refused.lacks;
  };
}

pub Answers-high_refused : {r : Region} {question : Question} {var : ℕ} {low high : Question} (more most : Region) (answer : NodeNo) (e e' : Full) → IsBranching r question var low high → Answers r more low (Ok answer) → Answers more most high (Err e) → Answers r most question (Err e')
Answers-high_refused {r} {question} {var} {low} {high} more most answer e e' b a d =
    let lacks : Lacks r.vars (pool_of most) (asked_in more high) = rw (← a.progress.grows.vars) d.refused.lacks in
    record {
      progress = high_progress more most b a.progress d.progress;
      ok = tt;
      refused = record {
        full = d.refused.full;
        lacks = Lacks-branch r.vars (pool_of most) (asked_in r question) (asked_in more high) var true b.var_in (starts b) (high_branch more b a.progress.grows) lacks;
      };
    }

-- ---- both branches answered

-- the world with a variable put to what it is
pub put_itself : (world : World) (var : ℕ) (truth : Bool) → world var ≡ truth → (v : ℕ) → put world var truth v ≡ world v
put_itself world var truth at v =
    ⊎_elim
    (λ (same : v ≡ var). let e : eqb v var ≡ true = grind (arith, nat_tests) in rw e (sym (ap world same ∙ at)))
    (λ (ne : v ≢ var). let e : eqb v var ≡ false = grind (arith, nat_tests) in rw e)
    (cases_eq v var)

joined : (b : Bool) (f : Function) (world : World) (var : ℕ) (low high : Bool) → ((w o : World) → ((v : ℕ) → w v ≡ o v) → f w ≡ f o) → world var ≡ b → low ≡ f (put world var false) → high ≡ f (put world var true) → cond b high low ≡ f world
joined true f world var low high extensional at low_is high_is = high_is ∙ extensional (put world var true) world (put_itself world var true at)
joined false f world var low high extensional at low_is high_is = low_is ∙ extensional (put world var false) world (put_itself world var false at)

pub IsHalved-answered : {r : Region} {question : Question} {var : ℕ} {if_false if_true : Question} (more most : Region) (low high : NodeNo) → IsBranching r question var if_false if_true → Answers r more if_false (Ok low) → Answers more most if_true (Ok high) → IsHalved most question var low high
IsHalved-answered {r} {question} {var} {if_false} {if_true} more most low high b a d =
    let both : Grows r most = Grows-then a.progress.grows d.progress.grows in
    let vars_are : most.vars ≡ r.vars = both.vars in
    let low_answer : IsAnswer most if_false low = IsAnswer-later more most if_false low a.progress.region.reduced d.progress.grows a.ok in
    let high_answer : IsAnswer most if_true high = d.ok in
    let first_is : first_of r.vars most.nodes question ≡ first_of r.vars r.nodes question = first_of-extends r.vars r.nodes most.nodes question both.extends b.asked in
    let low_first : first_of r.vars most.nodes if_false ≡ first_of r.vars r.nodes if_false = first_of-extends r.vars r.nodes most.nodes if_false both.extends b.split.low_asked in
    let high_first : first_of r.vars most.nodes if_true ≡ first_of r.vars r.nodes if_true = first_of-extends r.vars r.nodes most.nodes if_true both.extends b.split.high_asked in
    let low_top : first_of r.vars most.nodes if_false ≤ top_of r.vars most.nodes low.0 = rw (← vars_are) low_answer.top in
    let high_top : first_of r.vars most.nodes if_true ≤ top_of r.vars most.nodes high.0 = rw (← vars_are) high_answer.top in
    let asked : IsAsked r.vars most.nodes question = IsAsked-extends r.vars r.nodes most.nodes question both.extends.no_shorter b.asked in
    let first : first_of r.vars most.nodes question ≤ var = omega (arith, b.var_is) in
    let low_after : var < top_of r.vars most.nodes low.0 = omega (arith, b.split.low_after) in
    let high_after : var < top_of r.vars most.nodes high.0 = omega (arith, b.split.high_after) in
    record {
      asked = rw vars_are asked;
      var_in = omega (arith, b.var_in);
      first = rw vars_are first;
      low_there = low_answer.there;
      high_there = high_answer.there;
      low_after = rw vars_are low_after;
      high_after = rw vars_are high_after;
      function = λ w.
          joined (w var) (asked_in r question) w var (function_of most low.0 w) (function_of most high.0 w)
          (λ u o agree. starts b u o (λ v above. agree v))
          refl
          (low_answer.function w ∙ low_branch most b both w)
          (high_answer.function w ∙ high_branch most b both w)
          ∙ sym (function_asked-extends r.vars r.nodes most.nodes question w b.region.reduced both.extends b.asked);
    }

OnErr-map : (r : Result NodeNo Full) (P Q : Type 0) → (P → Q) → OnErr r P → OnErr r Q
OnErr-map (Ok n) P Q f p = tt
OnErr-map (Err e) P Q f p = f p

-- what was joined in the end answers the question that was asked at first
pub Answers-joined : {r : Region} {question : Question} {var : ℕ} {if_false if_true : Question} (more most new : Region) (low high : NodeNo) (result : Result NodeNo Full) → IsBranching r question var if_false if_true → Answers r more if_false (Ok low) → Answers more most if_true (Ok high) → Joins most new question result → Answers r new question result
Answers-joined {r} {question} {var} {if_false} {if_true} more most new low high result b a d j =
    let both : Grows r most = Grows-then a.progress.grows d.progress.grows in
    let same : Agree (asked_in most question) (asked_in r question) = λ w. function_asked-extends r.vars r.nodes most.nodes question w b.region.reduced both.extends b.asked in
    let adds : AddsCofactors r.vars (pool_of most) (pool_of new) (asked_in most question) = rw (← both.vars) j.adds in
    record {
      progress = record {
        region = j.region;
        grows = Grows-then both j.grows;
        adds = Adds-then r.vars (pool_of r) (pool_of most) (pool_of new) (asked_in r question) j.grows.keeps
            (high_adds more most b a.progress d.progress)
            (Adds-agree r.vars (pool_of most) (pool_of new) (asked_in r question) (asked_in most question) same adds);
        few = omega (arith, j.one_more, high_few more most b a.progress d.progress);
      };
      ok = j.ok;
      refused = OnErr-map result _ _
          (λ (no_room : IsRefused most new (asked_in most question)).
          let lacks : Lacks r.vars (pool_of new) (asked_in most question) = rw (← both.vars) no_room.lacks in
          record { full = no_room.full; lacks = Lacks-agree r.vars (pool_of new) (asked_in r question) (asked_in most question) same lacks })
          j.refused;
    }

-- ---- the node that joins two halves

pub Joins-made : (old new : Region) (question : Question) (var : ℕ) (low high answer : NodeNo) → IsHalved old question var low high → IsReduced old.vars old.nodes → IsRegion new → Grows old new → Makes old new (triple var low high) answer → Joins old new question (Ok answer)
Joins-made old new question var low high answer h reduced region grows makes =
    let adds : AddsCofactors old.vars (pool_of old) (pool_of new) (branch var (function_of old low.0) (function_of old high.0)) = rw (← grows.vars) makes.adds in
    let asked : IsAsked old.vars new.nodes question = IsAsked-extends old.vars old.nodes new.nodes question grows.extends.no_shorter h.asked in
    let first_is : first_of old.vars new.nodes question ≡ first_of old.vars old.nodes question = first_of-extends old.vars old.nodes new.nodes question grows.extends h.asked in
    let answer_top : var ≤ top_of old.vars new.nodes answer.0 = rw (← grows.vars) makes.top in
    let top : first_of old.vars new.nodes question ≤ top_of old.vars new.nodes answer.0 = omega (arith, h.first) in
    record {
      region = region;
      grows = grows;
      adds = Adds-agree old.vars (pool_of old) (pool_of new) (asked_in old question) (branch var (function_of old low.0) (function_of old high.0)) h.function adds;
      one_more = makes.one_more;
      ok = record {
        asked = rw grows.vars asked;
        there = makes.there;
        top = rw grows.vars top;
        function = λ w. makes.function w ∙ h.function w ∙ sym (function_asked-extends old.vars old.nodes new.nodes question w reduced grows.extends h.asked);
      };
      refused = tt;
    }

pub Joins-refused : (old new : Region) (question : Question) (var : ℕ) (low high : NodeNo) (e : Full) → IsHalved old question var low high → IsRegion new → Grows old new → new ≡ old → IsFull old (triple var low high) → Lacks old.vars (pool_of new) (branch var (function_of old low.0) (function_of old high.0)) → Joins old new question (Err e)
Joins-refused old new question var low high e h region grows same full lacks =
    let count : length new.nodes ≡ length old.nodes = ap (λ (r : Region). length r.nodes) same in
    record {
      region = region;
      grows = grows;
      adds = λ n past there. absurd (omega arith);
      one_more = omega arith;
      ok = tt;
      refused = record {
        full = count ∙ full.full ∙ sym grows.limit;
        lacks = Lacks-agree old.vars (pool_of new) (asked_in old question) (branch var (function_of old low.0) (function_of old high.0)) h.function lacks;
      };
    }

-- ---- answers without a look at the nodes

pub known_or : (o : Option NodeNo) (P : Type 0) (Q : NodeNo → Type 0) → P → IfSome o Q → MatchOption o P Q
known_or None P Q p some = p
known_or (Some n) P Q p some = some

pub inner_before : (r : Region) → IsReduced r.vars r.nodes → (m : ℕ) → 2 ≤ m → m < length r.nodes + 2 → top_of r.vars r.nodes m < r.vars
inner_before r reduced m inner there = omega (arith, top_of-inner r.vars r.nodes m inner, (stands_at r.vars r.nodes m reduced inner there).var_in)

pub none_after : (r : Region) → IsReduced r.vars r.nodes → (m : ℕ) → m < length r.nodes + 2 → top_of r.vars r.nodes m ≤ r.vars
none_after r reduced m there = top_of-within r.vars r.nodes m reduced there

pub false_at : (r : Region) (w : World) → value r.nodes 0 w ≡ false
false_at r w = value-constant r.nodes 0 w (omega arith)

pub true_at : (r : Region) (w : World) → value r.nodes 1 w ≡ true
true_at r w = value-constant r.nodes 1 w (omega arith)

pub constant_top : (r : Region) (n : ℕ) → n < 2 → top_of r.vars r.nodes n ≡ r.vars
constant_top r n small = top_of-constant r.vars r.nodes n small
