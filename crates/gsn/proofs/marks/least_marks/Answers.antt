use Rattle.std.proofs.Common.{◌≡◌, ◌<◌, ℕ, Bool, List, [], ◌∷◌, ◌++◌, length, get_or, replicate, false, true, set, sym, ap, ◌∙◌, subst, arith}
use Rattle.gsn.specs.Incoming.{IsIncoming, targets}
use Rattle.gsn.specs.Marks.{IsUnderWay, leads_into, is_in, KeepsUnderWay, AllBelow}
use Rattle.gsn.specs.declared.case.CRel.{CRel}
use Rattle.gsn.proofs.UnderWay.{begun, passed, opened, waits_end, now_in, was_in}
use Rattle.gsn.proofs.marks.least_marks.Goals as goal

begun_of : (rs : List CRel) (needed start : List ℕ) (marked : List Bool) (n : ℕ) → n ≡ length needed → marked ≡ replicate n false → AllBelow n start
    → IsUnderWay rs needed start (leads_into marked) marked needed start
begun_of rs needed start marked n size e below =
    let blank : marked ≡ replicate (length needed) false = e ∙ ap (λ k. replicate k false) size in
    subst (λ m. IsUnderWay rs needed start (leads_into m) m needed start) (sym blank) (begun rs needed start (subst (λ k. AllBelow k start) size below))

taken : (rs : List CRel) (needed start : List ℕ) (marked : List Bool) (missing pending rest : List ℕ) (y : ℕ)
    → pending ≡ rest ++ y ∷ [] → IsUnderWay rs needed start (leads_into marked) marked missing pending
    → IsUnderWay rs needed start (leads_into marked) marked missing (rest ++ y ∷ [])
taken rs needed start marked missing pending rest y e u = subst (λ p. IsUnderWay rs needed start (leads_into marked) marked missing p) e u

pub pending-init : goal.pending-init
pending-init c =
    begun_of c.args.relations.now c.args.needed.items c.args.start.items c.in_ok-marked.marked.items c.len.result (omega (arith, c.len.ensures, c.args.needed.ok.0))
    c.in_ok-marked.ensures (subst (λ k. AllBelow k c.args.start.items) (sym c.len.ensures) c.requires.start)

node_in : (rs : List CRel) (needed start : List ℕ) (marked : List Bool) (missing rest : List ℕ) (y : ℕ)
    → IsUnderWay rs needed start (leads_into marked) marked missing (rest ++ y ∷ []) → (y < length marked) × (y < length missing)
node_in rs needed start marked missing rest y u =
    let l = u.pending_in y (waits_end y rest) in (omega (arith, l, u.marked_all), omega (arith, l, u.missing_all))

pub index-requires : goal.index-requires
index-requires c =
    omega (
      arith,
      c.pending.marked.ok.0,
      (node_in c.args.relations.now c.args.needed.items c.args.start.items c.pending.marked.items c.pending.missing.items c.pop.new.self.items c.in-Some.node
          (taken c.args.relations.now c.args.needed.items c.args.start.items c.pending.marked.items c.pending.missing.items c.pending.pending.items c.pop.new.self.items c.in-Some.node c.in-Some.ensures.items c.pending.invariant)).0,
    )

pub index_mut-requires : goal.index_mut-requires
index_mut-requires c =
    omega (
      arith,
      c.pending.marked.ok.0,
      (node_in c.args.relations.now c.args.needed.items c.args.start.items c.pending.marked.items c.pending.missing.items c.pop.new.self.items c.in-Some.node
          (taken c.args.relations.now c.args.needed.items c.args.start.items c.pending.marked.items c.pending.missing.items c.pending.pending.items c.pop.new.self.items c.in-Some.node c.in-Some.ensures.items c.pending.invariant)).0,
    )

pub credit_all-requires-clause-node : goal.credit_all-requires-clause-node
credit_all-requires-clause-node c =
    omega (
      arith,
      c.pending.missing.ok.0,
      (node_in c.args.relations.now c.args.needed.items c.args.start.items c.pending.marked.items c.pending.missing.items c.pop.new.self.items c.in-Some.node
          (taken c.args.relations.now c.args.needed.items c.args.start.items c.pending.marked.items c.pending.missing.items c.pending.pending.items c.pop.new.self.items c.in-Some.node c.in-Some.ensures.items c.pending.invariant)).1,
    )

-- a node is marked, and the relations to it are credited
marked_now : (n : ℕ) (rs : List CRel) (needed start : List ℕ) (marked : List Bool) (missing pending rest missing' pending' last before : List ℕ) (y : ℕ) (b : Bool)
    → n ≡ length needed → IsIncoming n (targets rs) (length rs) last before → pending ≡ rest ++ y ∷ [] → b ≡ get_or marked y b → b ≡ false
    → KeepsUnderWay y rs last missing rest missing' pending'
    → IsUnderWay rs needed start (leads_into marked) marked missing pending
    → IsUnderWay rs needed start (leads_into (set marked y true)) (set marked y true) missing' pending'
marked_now n rs needed start marked missing pending rest missing' pending' last before y b size chains e read off keeps u =
    let v = taken rs needed start marked missing pending rest y e u in
    let away : is_in marked y ≡ false = was_in marked y b false (node_in rs needed start marked missing rest y v).0 read off in
    keeps.keeps needed start (set marked y true) (now_in rs needed start marked missing rest y v)
    (opened rs needed start marked missing rest y v last before (subst (λ k. IsIncoming k (targets rs) (length rs) last before) size chains) away)

pub pending-preserved-in-Continue-branch-2 : goal.pending-preserved-in-Continue-branch-2
pending-preserved-in-Continue-branch-2 c =
    marked_now c.args.needed.len c.args.relations.now c.args.needed.items c.args.start.items c.pending.marked.items c.pending.missing.items c.pending.pending.items c.pop.new.self.items
    c.credit_all.new.missing.items c.credit_all.new.pending.items c.args.incoming.now.last.items c.args.incoming.now.before.items c.in-Some.node c.index.result.now
    c.args.needed.ok.0 c.requires.incoming c.in-Some.ensures.items c.index.ensures c.if-not-index.true c.in_ok-credit_all.ensures.credited c.pending.invariant

pub pending-preserved : goal.pending-preserved
pending-preserved c =
    passed c.args.relations.now c.args.needed.items c.args.start.items c.pending.marked.items c.pending.missing.items c.pop.new.self.items c.in-Some.node
    (taken c.args.relations.now c.args.needed.items c.args.start.items c.pending.marked.items c.pending.missing.items c.pending.pending.items c.pop.new.self.items c.in-Some.node c.in-Some.ensures.items c.pending.invariant)
    (was_in c.pending.marked.items c.in-Some.node c.index.result.now true (node_in c.args.relations.now c.args.needed.items c.args.start.items c.pending.marked.items c.pending.missing.items c.pop.new.self.items c.in-Some.node
    (taken c.args.relations.now c.args.needed.items c.args.start.items c.pending.marked.items c.pending.missing.items c.pending.pending.items c.pop.new.self.items c.in-Some.node c.in-Some.ensures.items c.pending.invariant)).0 c.index.ensures c.if-not-index.false)
