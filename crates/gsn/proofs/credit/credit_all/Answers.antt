use Rattle.std.proofs.Common.{◌≡◌, ◌<◌, ◌≤◌, ◌-◌, ◌+◌, ℕ, Bool, List, true, length, slice_index, get_or, sym, ap, ◌∙◌, subst, refl, vec_len, arith}
use Rattle.std.proofs.lemmas.List.{get_or_read}
use Rattle.std.proofs.lemmas.List.Elements.{All-get_or}
use Rattle.gsn.specs.declared.case.CRel.{CRel}
use Rattle.gsn.specs.declared.case.RelKind.TheVariants as kind
use Rattle.gsn.specs.Incoming.{IsIncoming, targets}
use Rattle.gsn.specs.Marks.{IsUnderWay, IsCredited, JoinsNodes, leads_into_from, is_in}
use Rattle.gsn.proofs.Tallies.{at_place}
use Rattle.gsn.proofs.UnderWay.{credited, all_credited, link_off, link_on, link_other, link_marks}
use Rattle.gsn.proofs.credit.credit_all.Goals as goal

-- one link of the chain: the relation before the place is credited
module _ (rs : List CRel) (n : ℕ) (last before : List ℕ) (chains : IsIncoming n (targets rs) (length rs) last before) (ends : JoinsNodes n rs)
    (node place : ℕ) (some : 0 < place) (within : place ≤ length rs) (here : slice_index (targets rs) (place - 1) ≡ node) (d : CRel) where
  link_in : place - 1 < length rs
  link_in = omega (arith, some, within)

  next_in : slice_index before (place - 1) ≤ length rs
  next_in = let b = chains.before_in (place - 1) in omega (arith, b, link_in)

  next_to : 0 < slice_index before (place - 1) → slice_index (targets rs) (slice_index before (place - 1) - 1) ≡ node
  next_to h = chains.before_to (place - 1) h ∙ here

  linked : (missing pending missing' pending' : List ℕ) → length missing ≡ n → length missing' ≡ length missing
      → IsCredited (get_or rs (place - 1) d) missing pending missing' pending'
      → (needed start : List ℕ) (marked : List Bool) → is_in marked node ≡ true
      → IsUnderWay rs needed start (leads_into_from marked node place) marked missing pending
      → IsUnderWay rs needed start (leads_into_from marked node (slice_index before (place - 1))) marked missing' pending'
  linked missing pending missing' pending' size sized by needed start marked there u =
      let at = at_place rs (place - 1) d link_in in
      let source = (All-get_or (λ r. (r.from < n) × (r.to < n)) rs (place - 1) d link_in ends).0 in
      let one_on : (place - 1) + 1 ≡ place = omega (arith, some) in
      credited rs needed start (leads_into_from marked node ((place - 1) + 1)) (leads_into_from marked node (slice_index before (place - 1))) marked missing pending missing' pending'
      (place - 1) (get_or rs (place - 1) d) at
      (link_off rs n last before chains marked node (place - 1) (get_or rs (place - 1) d) at here)
      (link_on rs n last before chains marked node (place - 1) (get_or rs (place - 1) d) at here there)
      (link_other rs n last before chains marked node (place - 1) (get_or rs (place - 1) d) at here)
      (link_marks rs n last before chains marked node (place - 1) (get_or rs (place - 1) d) at here (slice_index before (place - 1)))
      (omega (arith, source, size, u.missing_all)) sized
      (subst (λ p. IsUnderWay rs needed start (leads_into_from marked node p) marked missing pending) (sym one_on) u) by

pub chain-init : goal.chain-init
chain-init c =
    let chains = c.requires.incoming in
    let read : c.index-place.result.now ≡ slice_index c.args.incoming.now.last.items c.args.node =
    get_or_read c.args.incoming.now.last.items c.args.node c.index-place.result.now (omega (arith, c.requires.node, chains.nodes_all)) c.index-place.ensures 0 in
    record {
      place_in = let l = chains.last_in c.args.node in omega (arith, l, read);
      place_to = λ h. ap (λ i. slice_index (targets c.args.relations.now) (i - 1)) read ∙ chains.last_to c.args.node (omega (arith, h, read));
      sized = refl;
      keeps = λ needed start marked there u. subst (λ p. IsUnderWay c.args.relations.now needed start (leads_into_from marked c.args.node p) marked c.args.missing.now.items c.args.pending.now.items) (sym read) u;
      no_more_steps = omega arith;
    }

pub chain-preserved : goal.chain-preserved
chain-preserved c =
    let chains = c.requires.incoming in
    let rs = c.args.relations.now in
    let n = vec_len c.args.missing.now in
    let before = c.args.incoming.now.before.items in
    let last = c.args.incoming.now.last.items in
    let node = c.args.node in
    let place = c.chain.place in
    let d : CRel = record { from = 0; to = 0; kind = kind.SupportedBy } in
    let some : 0 < c.chain.place = omega arith in
    let within = c.chain.invariant.place_in in
    let here = c.chain.invariant.place_to some in
    let read : c.index-place-in-chain.result.now ≡ slice_index c.args.incoming.now.before.items (c.chain.place - 1) =
    get_or_read c.args.incoming.now.before.items (c.chain.place - 1) c.index-place-in-chain.result.now (omega (arith, some, within, chains.relations_all)) c.index-place-in-chain.ensures 0 in
    let ends = c.requires.ends in
    record {
      place_in = let l = next_in rs n last before chains ends node place some within here d in omega (arith, l, read);
      place_to = λ h. ap (λ i. slice_index (targets c.args.relations.now) (i - 1)) read
          ∙ next_to c.args.relations.now (vec_len c.args.missing.now) c.args.incoming.now.last.items c.args.incoming.now.before.items chains ends c.args.node c.chain.place some within here d (omega (arith, h, read));
      sized = c.in_ok-credit.ensures.sized ∙ c.chain.invariant.sized;
      keeps = λ needed start marked there u.
          subst (λ p. IsUnderWay c.args.relations.now needed start (leads_into_from marked c.args.node p) marked c.credit.new.missing.items c.credit.new.pending.items) (sym read)
          (linked rs n last before chains ends node place some within here d c.chain.missing.items c.chain.pending.items c.credit.new.missing.items c.credit.new.pending.items
          (sym c.chain.missing.ok.0 ∙ c.chain.invariant.sized) (sym c.credit.new.missing.ok.0 ∙ (c.in_ok-credit.ensures.sized ∙ c.chain.missing.ok.0)) c.in_ok-credit.ensures.credited needed start marked there (c.chain.invariant.keeps needed start marked there u));
      no_more_steps = let a = c.in_ok-credit.ensures.credited.no_more_steps in let b = c.chain.invariant.no_more_steps in omega (arith, a, b);
    }

pub returns-clause-credited : goal.returns-clause-credited
returns-clause-credited c =
    let e = c.chain-test.false in
    record {
      keeps = λ needed start marked there u.
          all_credited c.args.relations.now needed start marked c.args.node c.chain.missing.items c.chain.pending.items
          (subst (λ p. IsUnderWay c.args.relations.now needed start (leads_into_from marked c.args.node p) marked c.chain.missing.items c.chain.pending.items)
          (omega arith) (c.chain.invariant.keeps needed start marked there u));
      no_more_steps = c.chain.invariant.no_more_steps;
    }
