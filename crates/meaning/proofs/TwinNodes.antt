-- Two tidy cases of one bundle have the same keys in the same order, and nodes with one key are there at the same valid worlds, and then are one node of the product.
use Rattle.std.proofs.Common.{◌≡◌, ℕ, zero, suc, List, [], ◌∷◌, map, length, Bool, true, Some, refl, sym, ap, ◌∙◌, subst, arith, inl, inr}
use Rattle.std.specs.Prelude.{IsTrue}
use Rattle.std.specs.List.{slice_get}
use Rattle.meaning.specs.Features.{is_valid}
use Rattle.meaning.specs.CaseFiles.{CaseDocument, CaseNode, holds, node_at_world}
use Rattle.meaning.specs.Derivation.{Bundle, case_at}
use Rattle.meaning.specs.Tidy.{Tidy, ValidWorld, AreConditionsOf, Ascend, possible_keys}
use Rattle.meaning.proofs.SeenLists.{seen_alike}
use Rattle.meaning.proofs.CutTrees.{Each}
use Rattle.meaning.proofs.Members.{Member, member_mapped, mapped_member, member_of_contains, contains_member, member_at, each_from_members}
use Rattle.meaning.proofs.EqualityTests.{none_is_some}
use Rattle.meaning.proofs.PairedLists.{Paired, paired_by_place, paired_for_all, paired_with, paired_of_maps, paired_two}
use Rattle.meaning.proofs.LikeDocuments.{EntryLike}
use Rattle.meaning.proofs.OnceLists.{HasAllOf, among_same, ascending_same}
use Rattle.meaning.proofs.TidySights.{HasProperNames, Sight, sight_in_case, sight_key, sight_of_node, keys_differ, nodes_at}

-- ---- members

pub each_own : {A : Type 0} (xs : List A) → Each (λ x. Member x xs) xs
each_own xs = each_from_members (λ x. Member x xs) xs (λ x m. m)

pub place_of_member : {A : Type 0} (xs : List A) (x : A) → Member x xs → (i : ℕ) × (slice_get xs i ≡ Some x)
place_of_member [] x m = elim m [ ]
place_of_member (y ∷ xs) x (inl e) = (0, ap Some e)
place_of_member (y ∷ xs) x (inr m) = let at : (i : ℕ) × (slice_get xs i ≡ Some x) = place_of_member xs x m in (suc at.0, at.1)

-- ---- conditions that belong to values

-- the conditions hold at the same valid worlds
abbrev pub AgreeWhereValid : Bundle → CaseDocument → CaseDocument → ℕ → ℕ → Type 0
AgreeWhereValid b k o i j = (w : List Bool) → IsTrue (is_valid b.line w) → holds k w i ≡ holds o w j

module _ (b : Bundle) (k o : CaseDocument) {A : Type 0} (occurs : List Bool → A → Bool) (values others : List A) (ids partners : List ℕ)
    (first : AreConditionsOf k b occurs values ids) (second : AreConditionsOf o b occurs others partners) where
  pub other_has_all : HasAllOf others values
  other_has_all v m =
      let at : (i : ℕ) × (slice_get values i ≡ Some v) = place_of_member values v m in
      let there : (w : ValidWorld b) × IsTrue (occurs w.0 v) = first.each_occurs at.0 v at.1 in
      let place : (i : ℕ) × (slice_get others i ≡ Some v) = second.every there.0 v there.1 in
      member_at others place.0 v place.1

  pub conditions_agree : values ≡ others → Paired (AgreeWhereValid b k o) ids partners
  conditions_agree e = paired_by_place (AgreeWhereValid b k o) ids partners (first.same_length ∙ ap length e ∙ sym second.same_length) at_place
    where
      value_there : (vs : List A) (is : List ℕ) (i id : ℕ) → length is ≡ length vs → slice_get is i ≡ Some id → (v : A) × (slice_get vs i ≡ Some v)
      value_there [] [] i id l f = elim (none_is_some id f) [ ]
      value_there [] (j ∷ is) i id l f = absurd (omega (arith, l))
      value_there (v ∷ vs) [] i id l f = elim (none_is_some id f) [ ]
      value_there (v ∷ vs) (j ∷ is) zero id l f = (v, refl)
      value_there (v ∷ vs) (j ∷ is) (suc i) id l f = value_there vs is i id (omega (arith, l)) f

      at_place : (i id partner : ℕ) → slice_get ids i ≡ Some id → slice_get partners i ≡ Some partner → AgreeWhereValid b k o id partner
      at_place i id partner f g w v =
          let value : (x : A) × (slice_get values i ≡ Some x) = value_there values ids i id first.same_length f in
          first.exact i value.0 id value.1 f w v ∙ sym (second.exact i value.0 partner (ap (λ vs. slice_get vs i) (sym e) ∙ value.1) g w v)

-- of tuples that ascend
pub tuples_agree : (b : Bundle) (k o : CaseDocument) (occurs : List Bool → List ℕ → Bool) (values others : List (List ℕ)) (ids partners : List ℕ)
    → Ascend values → Ascend others → AreConditionsOf k b occurs values ids → AreConditionsOf o b occurs others partners → values ≡ others
tuples_agree b k o occurs values others ids partners d e first second =
    ascending_same values others d e (other_has_all b k o occurs values others ids partners first second) (other_has_all b o k occurs others values partners ids second first)

single : ℕ → List ℕ
single n = n ∷ []

first_number : List ℕ → ℕ
first_number [] = 0
first_number (n ∷ ns) = n

first_of_single : {A : Type 0} (f : A → ℕ) (xs : List A) → map first_number (map (λ x. f x ∷ []) xs) ≡ map f xs
unfolding first_number
first_of_single f [] = refl
first_of_single f (x ∷ xs) = ap (λ ns. f x ∷ ns) (first_of_single f xs)

-- of numbers that ascend
pub numbers_agree : (b : Bundle) (k o : CaseDocument) (occurs : List Bool → ℕ → Bool) (values others : List (ℕ × ℕ))
    → Ascend (map (λ t. t.0 ∷ []) values) → Ascend (map (λ t. t.0 ∷ []) others)
    → AreConditionsOf k b occurs (map (λ t. t.0) values) (map (λ t. t.1) values) → AreConditionsOf o b occurs (map (λ t. t.0) others) (map (λ t. t.1) others)
    → map (λ t. t.0) values ≡ map (λ t. t.0) others
numbers_agree b k o occurs values others d e first second =
    sym (first_of_single (λ t. t.0) values) ∙ ap (map first_number) (ascending_same _ _ d e (of_singles values others to) (of_singles others values from)) ∙ first_of_single (λ t. t.0) others
  where
    to : HasAllOf (map (λ t. t.0) others) (map (λ t. t.0) values)
    to = other_has_all b k o occurs _ _ _ _ first second

    from : HasAllOf (map (λ t. t.0) values) (map (λ t. t.0) others)
    from = other_has_all b o k occurs _ _ _ _ second first

    of_singles : (xs ys : List (ℕ × ℕ)) → HasAllOf (map (λ t. t.0) ys) (map (λ t. t.0) xs) → HasAllOf (map (λ t. t.0 ∷ []) ys) (map (λ t. t.0 ∷ []) xs)
    of_singles xs ys h s m =
        let x : (t : ℕ × ℕ) × Member t xs × (t.0 ∷ [] ≡ s) = mapped_member (λ t. t.0 ∷ []) s xs m in
        let y : (t : ℕ × ℕ) × Member t ys × (t.0 ≡ x.0.0) = mapped_member (λ t. t.0) x.0.0 ys (h x.0.0 (member_mapped (λ t. t.0) x.0 xs x.1)) in
        subst (λ r. Member r (map (λ t. t.0 ∷ []) ys)) (ap (λ n. n ∷ []) y.2 ∙ x.2) (member_mapped (λ t. t.0 ∷ []) y.0 ys y.1)

-- values with their conditions
pub entries_like : {A : Type 0} (R : ℕ → ℕ → Type 0) (ts us : List (A × ℕ)) → map (λ t. t.0) ts ≡ map (λ u. u.0) us
    → Paired R (map (λ t. t.1) ts) (map (λ u. u.1) us) → Paired (EntryLike R) ts us
entries_like R ts us e h = paired_two (λ t u. t.0 ≡ u.0) (λ t u. R t.1 u.1) ts us (paired_of_maps (λ t. t.0) (λ u. u.0) ts us e) (second ts us h)
  where
    second : {A : Type 0} (ts us : List (A × ℕ)) → Paired R (map (λ t. t.1) ts) (map (λ u. u.1) us) → Paired (λ t u. R t.1 u.1) ts us
    second [] [] h = tt
    second [] (u ∷ us) h = elim h [ ]
    second (t ∷ ts) [] h = elim h [ ]
    second (t ∷ ts) (u ∷ us) h = (h.0, second ts us h.1)

-- ---- nodes

-- nodes with one key of two tidy cases
pub record Twins (b : Bundle) (k o : CaseDocument) (n m : CaseNode) : Type 0 where
  pub key : n.key ≡ m.key
  pub presence : AgreeWhereValid b k o n.presence m.presence
  pub same : (w : List Bool) → IsTrue (is_valid b.line w) → holds k w n.presence ≡ true → node_at_world k w n ≡ node_at_world o w m
  pub here : Member n k.nodes
  pub there : Member m o.nodes

module _ (b : Bundle) (proper : HasProperNames b) (k o : CaseDocument) (first : Tidy k b) (second : Tidy o b) where
  other_has_keys : (k o : CaseDocument) → Tidy k b → Tidy o b → HasAllOf (map (λ n. n.key) o.nodes) (map (λ n. n.key) k.nodes)
  other_has_keys k o first second key m =
      let n : (n : CaseNode) × Member n k.nodes × (n.key ≡ key) = mapped_member (λ n. n.key) key k.nodes m in
      let s : Sight b n.0.key = sight_of_node b k first n.0 n.1 in
      subst (λ x. Member x (map (λ n. n.key) o.nodes)) (sight_key b n.0.key s ∙ n.2)
      (member_of_contains s.node.key (map (λ n. n.key) o.nodes) (second.every_key (s.world, s.valid) s.node (contains_member s.node (case_at b s.world).nodes (sight_in_case b n.0.key s))))

  pub keys_same : map (λ n. n.key) k.nodes ≡ map (λ n. n.key) o.nodes
  keys_same =
      among_same (possible_keys b) proper.keys (map (λ n. n.key) k.nodes) (map (λ n. n.key) o.nodes) first.in_order second.in_order
      (other_has_keys k o first second) (other_has_keys o k second first)

  keys_paired : Paired (λ n m. n.key ≡ m.key) k.nodes o.nodes
  keys_paired = paired_of_maps (λ n. n.key) (λ m. m.key) k.nodes o.nodes keys_same

  abbrev AlikeAt : ValidWorld b → CaseNode → CaseNode → Type 0
  AlikeAt w n m = (holds k w.0 n.presence ≡ holds o w.0 m.presence) × (holds k w.0 n.presence ≡ true → node_at_world k w.0 n ≡ node_at_world o w.0 m)

  alike_at : (w : ValidWorld b) → Paired (AlikeAt w) k.nodes o.nodes
  alike_at w =
      seen_alike (λ x. x.key) (λ n. holds k w.0 n.presence) (node_at_world k w.0) (λ n. n.key) (λ n. refl)
      (λ m. holds o w.0 m.presence) (node_at_world o w.0) (λ m. m.key) (λ m. refl) k.nodes o.nodes keys_paired
      (keys_differ b k first) (keys_differ b o second) (nodes_at b k first w.0 w.1 ∙ sym (nodes_at b o second w.0 w.1))

  pub twins : Paired (Twins b k o) k.nodes o.nodes
  twins =
      paired_with (λ n. Member n k.nodes) (λ m. Member m o.nodes) (λ n m. (n.key ≡ m.key) × ((w : ValidWorld b) → AlikeAt w n m)) (Twins b k o)
      (λ n m here there h. record { key = h.0; presence = λ w v. (h.1 (w, v)).0; same = λ w v e. (h.1 (w, v)).1 e; here = here; there = there })
      k.nodes o.nodes (each_own k.nodes) (each_own o.nodes)
      (paired_two (λ n m. n.key ≡ m.key) (λ n m. (w : ValidWorld b) → AlikeAt w n m) k.nodes o.nodes keys_paired
      (paired_for_all AlikeAt (λ n m. n.key ≡ m.key) k.nodes o.nodes keys_paired alike_at))
