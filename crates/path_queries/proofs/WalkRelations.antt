-- The relation of a path is the test for walks of the definitions.
use Rattle.std.proofs.Common.{◌≡◌, refl, sym, ap, ◌∙◌, subst, ℕ, zero, suc, ◌<◌, ◌≤◌, ◌⊎◌, inl, inr, Bool, true, false, arith}
use Rattle.std.specs.Prelude.{◌&&◌, ◌||◌, ◌==◌, Contains}
use Rattle.std.proofs.lemmas.Bool.{eqb-true}
use Rattle.std.proofs.lemmas.List.Folds.{Any-from_list_any}
use Rattle.meaning.specs.Models.{PlainModel}
use Rattle.meaning.specs.Queries.{has_link, LinksJoinElements, Path, Along, Against, Then, OneOf, Chain, IsWalk, along, against, one_then_other, the_first, the_second, once, once_and_on, walks, element_numbers}
use Rattle.meaning.proofs.SearchLaws.{walks_are_walks}
use Rattle.path_queries.specs.Relations.{Relation, any_below, closed, related}
use Rattle.path_queries.proofs.Closures.{both_true, and_true, one_true, left_or, right_or, same_truth, any_found, any_at, Route, direct, onward, route_is_closed}

module _ (m : PlainModel) where
  -- ---- what is related is a walk

  joined : (a : Path) (x z y : ℕ) → IsWalk m (Chain a) x z → IsWalk m (Chain a) z y → IsWalk m (Chain a) x y
  joined _ _ _ y (once {a} {x} {y = z} u) rest = once_and_on z u rest
  joined _ _ _ y (once_and_on {a} {x} {y = z} v u on) rest = once_and_on v u (joined a v z y on rest)

  closed_is_chain : (a : Path) (r : Relation) → ((x y : ℕ) → r x y ≡ true → IsWalk m a x y) → (k x y : ℕ) → closed k r x y ≡ true → IsWalk m (Chain a) x y
  closed_is_chain a r steps zero x y e = once (steps x y e)
  closed_is_chain a r steps (suc k) x y e =
      elim (one_true (closed k r x y) (closed k r x k && closed k r k y) e) [
        | inl one ↦ closed_is_chain a r steps k x y one
        | inr two ↦
            let parts = both_true (closed k r x k) (closed k r k y) two in
            joined a x k y (closed_is_chain a r steps k x k parts.0) (closed_is_chain a r steps k k y parts.1)
      ]

  related_is_walk : (n : ℕ) (p : Path) (x y : ℕ) → related n (has_link m) p x y ≡ true → IsWalk m p x y
  related_is_walk n (Along k) x y e = along e
  related_is_walk n (Against k) x y e = against e
  related_is_walk n (Then a b) x y e =
      let z = any_found n (λ z. related n (has_link m) a x z && related n (has_link m) b z y) e in
      let parts = both_true (related n (has_link m) a x z.0) (related n (has_link m) b z.0 y) z.2 in
      one_then_other z.0 (related_is_walk n a x z.0 parts.0) (related_is_walk n b z.0 y parts.1)
  related_is_walk n (OneOf a b) x y e =
      elim (one_true (related n (has_link m) a x y) (related n (has_link m) b x y) e) [
        | inl first ↦ the_first (related_is_walk n a x y first)
        | inr second ↦ the_second (related_is_walk n b x y second)
      ]
  related_is_walk n (Chain a) x y e = closed_is_chain a (related n (has_link m) a) (related_is_walk n a) n x y e

  -- ---- what is a walk is related, where each element has a number below the bound

  module _ (joins : LinksJoinElements m) where
    link_ends : (k x y : ℕ) → has_link m k x y ≡ true → Contains (element_numbers m) x × Contains (element_numbers m) y
    link_ends k x y e =
        let h = Any-from_list_any (λ l. (l.kind == k) && (l.source == x) && (l.target == y)) m.links e in
        let ends = joins h.1 (h.0, h.2, h.3) in
        let parts = both_true ((h.1.kind == k) && (h.1.source == x)) (h.1.target == y) h.4 in (
          subst (Contains (element_numbers m)) (eqb-true h.1.source x (both_true (h.1.kind == k) (h.1.source == x) parts.0).1) ends.0,
          subst (Contains (element_numbers m)) (eqb-true h.1.target y parts.1) ends.1,
        )

    pub walk_ends : (p : Path) (x y : ℕ) → IsWalk m p x y → Contains (element_numbers m) x × Contains (element_numbers m) y
    walk_ends _ _ _ (along {k} {x} {y} h) = link_ends k x y h
    walk_ends _ _ _ (against {k} {x} {y} h) = let e = link_ends k y x h in (e.1, e.0)
    walk_ends _ _ _ (one_then_other {a} {b} {x} {y} z u v) = ((walk_ends a x z u).0, (walk_ends b z y v).1)
    walk_ends _ _ _ (the_first {a} {b} {x} {y} u) = walk_ends a x y u
    walk_ends _ _ _ (the_second {a} {b} {x} {y} u) = walk_ends b x y u
    walk_ends _ _ _ (once {a} {x} {y} u) = walk_ends a x y u
    walk_ends _ _ _ (once_and_on {a} {x} {y} z u v) = ((walk_ends a x z u).0, (walk_ends (Chain a) z y v).1)

    module _ (n : ℕ) (below : (x : ℕ) → Contains (element_numbers m) x → x < n) where
      chain_is_route : (a : Path) (r : Relation) → ((x y : ℕ) → IsWalk m a x y → r x y ≡ true) → (x y : ℕ) → IsWalk m (Chain a) x y → Route r n x y
      chain_is_route _ r steps _ _ (once {a} {x} {y} u) = direct (steps x y u)
      chain_is_route _ r steps _ _ (once_and_on {a} {x} {y} z u v) =
          onward z (below z (walk_ends a x z u).1) (steps x z u) (chain_is_route a r steps z y v)

      walk_is_related : (p : Path) (x y : ℕ) → IsWalk m p x y → related n (has_link m) p x y ≡ true
      walk_is_related (Along k) x y (along h) = h
      walk_is_related (Against k) x y (against h) = h
      walk_is_related (Then a b) x y (one_then_other z u v) =
          any_at n (λ z. related n (has_link m) a x z && related n (has_link m) b z y) z (below z (walk_ends a x z u).1)
          (and_true (related n (has_link m) a x z) (related n (has_link m) b z y) (walk_is_related a x z u) (walk_is_related b z y v))
      walk_is_related (OneOf a b) x y (the_first u) = left_or (related n (has_link m) a x y) (related n (has_link m) b x y) (walk_is_related a x y u)
      walk_is_related (OneOf a b) x y (the_second u) = right_or (related n (has_link m) a x y) (related n (has_link m) b x y) (walk_is_related b x y u)
      walk_is_related (Chain a) x y walk =
          route_is_closed (related n (has_link m) a) n x y (chain_is_route a (related n (has_link m) a) (walk_is_related a) x y walk)

      pub related_walks : (p : Path) (x y : ℕ) → related n (has_link m) p x y ≡ walks m p x y
      related_walks p x y =
          let same = walks_are_walks m joins p x y in
          same_truth (related n (has_link m) p x y) (walks m p x y) (λ e. same.1 (related_is_walk n p x y e)) (λ e. walk_is_related p x y (same.0 e))

    -- a walk begins and ends at elements
    pub no_walk_from : (p : Path) (x y : ℕ) → (Contains (element_numbers m) x → ⊥) → walks m p x y ≡ false
    no_walk_from p x y none =
        same_truth (walks m p x y) false (λ e. absurd (none (walk_ends p x y ((walks_are_walks m joins p x y).0 e)).0)) (λ e. absurd cc)

    pub no_walk_to : (p : Path) (x y : ℕ) → (Contains (element_numbers m) y → ⊥) → walks m p x y ≡ false
    no_walk_to p x y none =
        same_truth (walks m p x y) false (λ e. absurd (none (walk_ends p x y ((walks_are_walks m joins p x y).0 e)).1)) (λ e. absurd cc)
