-- Two tidy cases of one bundle have the same relations, under conditions that hold at the same valid worlds.
use Rattle.std.proofs.Common.{◌≡◌, ℕ, zero, suc, ◌<◌, List, [], ◌∷◌, map, length, Bool, true, false, ◌&&◌, Some, None, Option, refl, sym, ap, ◌∙◌}
use Rattle.std.specs.Prelude.{IsTrue, option_map, unwrap_or, pred}
use Rattle.std.specs.List.{slice_get}
use Rattle.std.proofs.lemmas.List.{length-map}
use Rattle.std.proofs.lemmas.Option.{slice_get-map}
use Rattle.meaning.specs.Texts.{numbers_from}
use Rattle.meaning.specs.Features.{is_valid}
use Rattle.meaning.specs.CaseFiles.{CaseDocument, CaseNode, CaseRelation, holds, is_there, relation_at_world}
use Rattle.meaning.specs.Derivation.{Bundle}
use Rattle.meaning.specs.Tidy.{Tidy, ValidWorld, key_above}
use Rattle.meaning.proofs.SeenLists.{kept_alike}
use Rattle.meaning.proofs.ValidWorlds.{valid_is_long}
use Rattle.meaning.proofs.Members.{Member, member_each, contains_member, member_at, one_place}
use Rattle.meaning.proofs.ReducedTables.{slice_there}
use Rattle.meaning.proofs.ReadCases.{IsRead, ends_are_there}
use Rattle.meaning.proofs.PairedLists.{Paired, paired_length, paired_place, paired_by, paired_for_all, paired_with, paired_of_maps, paired_two}
use Rattle.meaning.proofs.LikeDocuments.{RelationLike}
use Rattle.meaning.proofs.TidySights.{HasProperNames, Sight, sight_of_node, sight_seen, keys_differ, upper_holds, relations_at}
use Rattle.meaning.proofs.TwinNodes.{AgreeWhereValid, Twins, twins, keys_same, each_own}

-- ---- the node of a number

abbrev key_in_list : List CaseNode → ℕ → List ℕ
key_in_list ns i = elim (slice_get ns i) as (λ _. List ℕ) [ None ↦ [] | Some n ↦ n.key ]

key_is : (ns : List CaseNode) (i : ℕ) → key_in_list ns i ≡ unwrap_or (slice_get (map (λ n. n.key) ns) i) []
key_is ns i = go (slice_get ns i) ∙ ap (λ o. unwrap_or o []) (sym (slice_get-map (λ n. n.key) ns i))
  where
    go : (o : Option CaseNode) → elim o as (λ _. List ℕ) [ None ↦ [] | Some n ↦ n.key ] ≡ unwrap_or (option_map (λ n. n.key) o) []
    go None = refl
    go (Some n) = refl

key_here : (ns : List CaseNode) (i : ℕ) (n : CaseNode) → slice_get ns i ≡ Some n → key_in_list ns i ≡ n.key
key_here ns i n e = ap (λ o. elim o as (λ _. List ℕ) [ None ↦ [] | Some x ↦ x.key ]) e

-- a valid world has a truth value for each feature of a tidy case
pub long_enough : (b : Bundle) (k : CaseDocument) → Tidy k b → (w : List Bool) → IsTrue (is_valid b.line w) → length w ≡ length k.features
long_enough b k tidy w v = valid_is_long b.line w v ∙ sym (length-map b.line.features (λ f. f.name)) ∙ ap length (sym tidy.features)

module _ (b : Bundle) (k : CaseDocument) (tidy : Tidy k b) (read : IsRead k) (r : CaseRelation) (here : Member r k.relations) where
  -- what a relation of a case that is read tells: the nodes at its ends
  pub record Ends : Type 0 where
    pub source : CaseNode
    pub source_at : slice_get k.nodes r.source ≡ Some source
    pub target : CaseNode
    pub target_at : slice_get k.nodes r.target ≡ Some target

  pub ends_of : Ends
  ends_of =
      let within : (r.source < length k.nodes) × (r.target < length k.nodes) = member_each (λ r. (r.source < length k.nodes) × (r.target < length k.nodes)) k.relations (ends_are_there k read) r here in
      let a : (n : CaseNode) × (slice_get k.nodes r.source ≡ Some n) = slice_there k.nodes r.source within.0 in
      let c : (n : CaseNode) × (slice_get k.nodes r.target ≡ Some n) = slice_there k.nodes r.target within.1 in
      record { source = a.0; source_at = a.1; target = c.0; target_at = c.1 }

  module _ (e : Ends) where
    pub above : e.source.key ≡ key_above e.target.key
    above =
        sym (key_here k.nodes r.source e.source e.source_at) ∙ tidy.relations_from_above r (contains_member r k.relations here)
        ∙ ap key_above (key_here k.nodes r.target e.target e.target_at)

    pub with_target : (w : List Bool) → IsTrue (is_valid b.line w) → holds k w r.presence ≡ holds k w e.target.presence
    with_target w v =
        tidy.relations_with_targets r (contains_member r k.relations here) w (long_enough b k tidy w v)
        ∙ ap (λ o. holds k w (elim o as (λ _. ℕ) [ None ↦ 0 | Some n ↦ n.presence ])) e.target_at

    -- where the target is there the relation is, and the source
    pub kept_with_target : HasProperNames b → (w : List Bool) → IsTrue (is_valid b.line w) → holds k w e.target.presence ≡ true
        → (holds k w r.presence && is_there k w r.source && is_there k w r.target) ≡ true
    kept_with_target proper w v t = rw (with_target w v ∙ t, there r.source e.source e.source_at source_holds, there r.target e.target e.target_at t) refl
      where
        source_holds : holds k w e.source.presence ≡ true
        source_holds = upper_holds b k tidy w v proper e.target (member_at k.nodes r.target e.target e.target_at) t e.source (member_at k.nodes r.source e.source e.source_at) above

        there : (i : ℕ) (n : CaseNode) → slice_get k.nodes i ≡ Some n → holds k w n.presence ≡ true → is_there k w i ≡ true
        there i n f h = ap (λ o. unwrap_or (option_map (λ n. holds k w n.presence) o) false) f ∙ h

module _ (b : Bundle) (proper : HasProperNames b) (k o : CaseDocument) (first : Tidy k b) (second : Tidy o b) (read : IsRead k) (other_read : IsRead o) where
  nodes_paired : Paired (Twins b k o) k.nodes o.nodes
  nodes_paired = twins b proper k o first second

  as_many : length k.nodes ≡ length o.nodes
  as_many = paired_length (Twins b k o) k.nodes o.nodes nodes_paired

  targets_paired : Paired (λ r s. r.target ≡ s.target) k.relations o.relations
  targets_paired =
      paired_of_maps (λ r. r.target) (λ s. s.target) k.relations o.relations
      (first.one_relation_each ∙ ap (λ n. numbers_from 1 (pred n)) as_many ∙ sym second.one_relation_each)

  key_at_same : (i : ℕ) → key_in_list k.nodes i ≡ key_in_list o.nodes i
  key_at_same i = key_is k.nodes i ∙ ap (λ ks. unwrap_or (slice_get ks i) []) (keys_same b proper k o first second) ∙ sym (key_is o.nodes i)

  -- ---- ends

  record Ended (r s : CaseRelation) : Type 0 where
    here : Member r k.relations
    there : Member s o.relations
    target : r.target ≡ s.target
    source : r.source ≡ s.source

  same_source : (r s : CaseRelation) → Member r k.relations → Member s o.relations → r.target ≡ s.target → r.source ≡ s.source
  same_source r s here there t =
      one_place (map (λ n. n.key) k.nodes) (keys_differ b k first) r.source s.source a.source.key
      (slice_get-map (λ n. n.key) k.nodes r.source ∙ ap (option_map (λ n. n.key)) a.source_at)
      (ap (λ ks. slice_get ks s.source) (keys_same b proper k o first second) ∙ slice_get-map (λ n. n.key) o.nodes s.source
      ∙ ap (option_map (λ n. n.key)) c.source_at ∙ ap Some (sym keys))
    where
      a : Ends b k first read r here
      a = ends_of b k first read r here

      c : Ends b o second other_read s there
      c = ends_of b o second other_read s there

      target_keys : a.target.key ≡ c.target.key
      target_keys =
          sym (key_here k.nodes r.target a.target a.target_at) ∙ ap (key_in_list k.nodes) t ∙ key_at_same s.target ∙ key_here o.nodes s.target c.target c.target_at

      keys : a.source.key ≡ c.source.key
      keys = above b k first read r here a ∙ ap key_above target_keys ∙ sym (above b o second other_read s there c)

  ended : Paired Ended k.relations o.relations
  ended =
      paired_with (λ r. Member r k.relations) (λ s. Member s o.relations) (λ r s. r.target ≡ s.target) Ended
      (λ r s here there t. record { here = here; there = there; target = t; source = same_source r s here there t })
      k.relations o.relations (each_own k.relations) (each_own o.relations) targets_paired

  -- ---- conditions

  presence_agrees : (r s : CaseRelation) → Ended r s → AgreeWhereValid b k o r.presence s.presence
  presence_agrees r s e w v = with_target b k first read r e.here a w v ∙ twin.2.presence w v ∙ ap (λ m. holds o w m.presence) target_is ∙ sym (with_target b o second other_read s e.there c w v)
    where
      a : Ends b k first read r e.here
      a = ends_of b k first read r e.here

      c : Ends b o second other_read s e.there
      c = ends_of b o second other_read s e.there

      twin : (m : CaseNode) × (slice_get o.nodes r.target ≡ Some m) × Twins b k o a.target m
      twin = paired_place (Twins b k o) k.nodes o.nodes nodes_paired r.target a.target a.target_at

      some_is : (x y : CaseNode) → Some x ≡ Some y → x ≡ y
      some_is x y h = cc

      target_is : twin.0 ≡ c.target
      target_is = some_is twin.0 c.target (sym twin.1 ∙ ap (slice_get o.nodes) e.target ∙ c.target_at)

  -- ---- kinds: where a relation is there, it is that of the product

  there_same : (w : List Bool) → IsTrue (is_valid b.line w) → (i : ℕ) → is_there k w i ≡ is_there o w i
  there_same w v i = go k.nodes o.nodes i nodes_paired
    where
      go : (ns ms : List CaseNode) (i : ℕ) → Paired (Twins b k o) ns ms
          → unwrap_or (option_map (λ n. holds k w n.presence) (slice_get ns i)) false ≡ unwrap_or (option_map (λ m. holds o w m.presence) (slice_get ms i)) false
      go [] [] i h = refl
      go [] (m ∷ ms) i h = elim h [ ]
      go (n ∷ ns) [] i h = elim h [ ]
      go (n ∷ ns) (m ∷ ms) zero h = h.0.presence w v
      go (n ∷ ns) (m ∷ ms) (suc i) h = go ns ms i h.1

  abbrev kept_first : ValidWorld b → CaseRelation → Bool
  kept_first w r = holds k w.0 r.presence && is_there k w.0 r.source && is_there k w.0 r.target

  abbrev kept_second : ValidWorld b → CaseRelation → Bool
  kept_second w s = holds o w.0 s.presence && is_there o w.0 s.source && is_there o w.0 s.target

  kept_same : (w : ValidWorld b) (r s : CaseRelation) → Ended r s → kept_first w r ≡ kept_second w s
  kept_same w r s e =
      rw (presence_agrees r s e w.0 w.1, there_same w.0 w.1 r.source ∙ ap (is_there o w.0) e.source, there_same w.0 w.1 r.target ∙ ap (is_there o w.0) e.target) refl

  abbrev SameAt : ValidWorld b → CaseRelation → CaseRelation → Type 0
  SameAt w r s = kept_first w r ≡ true → relation_at_world k w.0 r ≡ relation_at_world o w.0 s

  same_at : (w : ValidWorld b) → Paired (SameAt w) k.relations o.relations
  same_at w =
      kept_alike (kept_first w) (relation_at_world k w.0) (kept_second w) (relation_at_world o w.0) k.relations o.relations
      (paired_by Ended (λ r s. kept_first w r ≡ kept_second w s) (kept_same w) k.relations o.relations ended)
      (relations_at b k first w.0 w.1 ∙ sym (relations_at b o second w.0 w.1))

  kind_same : (r s : CaseRelation) → Ended r s → ((w : ValidWorld b) → SameAt w r s) → r.kind ≡ s.kind
  kind_same r s e h = ap (λ x. x.kind) (h (sight.world, sight.valid) (kept_with_target b k first read r e.here a proper sight.world sight.valid seen))
    where
      a : Ends b k first read r e.here
      a = ends_of b k first read r e.here

      stands : Member a.target k.nodes
      stands = member_at k.nodes r.target a.target a.target_at

      sight : Sight b a.target.key
      sight = sight_of_node b k first a.target stands

      seen : holds k sight.world a.target.presence ≡ true
      seen = (sight_seen b k first a.target.key sight a.target stands refl).0

  pub relations_like : Paired (RelationLike (AgreeWhereValid b k o)) k.relations o.relations
  relations_like =
      paired_by (λ r s. Ended r s × ((w : ValidWorld b) → SameAt w r s)) (RelationLike (AgreeWhereValid b k o))
      (λ r s h. record { source = h.0.source; target = h.0.target; kind = kind_same r s h.0 h.1; presence = presence_agrees r s h.0 })
      k.relations o.relations
      (paired_two Ended (λ r s. (w : ValidWorld b) → SameAt w r s) k.relations o.relations ended (paired_for_all SameAt Ended k.relations o.relations ended same_at))
