-- The nodes of a product, as a tidy case has them: each is found under its key, and is what is left of the case's node of that key.
use Rattle.std.proofs.Common.{◌≡◌, ◌≢◌, ℕ, List, [], ◌∷◌, map, length, Bool, true, false, not, Some, None, refl, sym, ap, ◌∙◌, subst, inl, inr}
use Rattle.std.specs.Prelude.{cond, filter, find, bytes_eq, option_map, IsTrue}
use Rattle.std.proofs.lemmas.Slice.Eq.{bytes_eq-Decides}
use Rattle.meaning.specs.Features.{is_valid}
use Rattle.meaning.specs.CaseFiles.{CaseDocument, CaseNode, holds, cut, node_at_world}
use Rattle.meaning.specs.Derivation.{Bundle, case_at}
use Rattle.meaning.specs.Tidy.{Tidy, instance_at, node_with_key}
use Rattle.meaning.specs.Models.{model_at}
use Rattle.meaning.proofs.MappedLists.{map_of_map}
use Rattle.lifting.specs.Lifting.{Seen, key_seen}
use Rattle.meaning.proofs.Pairs.{Pairwise, pairs_from_map, pairs_from_all_differ}
use Rattle.lifting.proofs.AmongLists.{among_mapped, among_filtered, among_pairs}
use Rattle.meaning.proofs.Members.{Member, member_mapped, mapped_member, member_each}
use Rattle.lifting.proofs.InstanceNodes.{TellsNothing, without_verdict}

-- ---- looking for a key

pub find_member : {A : Type 0} (p : A → Bool) (xs : List A) (x : A) → find p xs ≡ Some x → Member x xs × (p x ≡ true)
find_member p [] x e = elim (none_is_some e) [ ]
  where
    none_is_some : None ≡ Some x → ⊥
    none_is_some e = cc
find_member {A = A} p (y ∷ xs) x e = go (p y) refl e (find_member p xs x)
  where
    some_is : Some y ≡ Some x → y ≡ x
    some_is e = cc

    later : Member x xs × (p x ≡ true) → Member x (y ∷ xs) × (p x ≡ true)
    later f = (inr f.0, f.1)

    go : (b : Bool) → p y ≡ b → cond b (Some y) (find p xs) ≡ Some x → (find p xs ≡ Some x → Member x xs × (p x ≡ true)) → Member x (y ∷ xs) × (p x ≡ true)
    go true f g further = (inl (some_is g), sym (ap p (some_is g)) ∙ f)
    go false f g further = later (further g)

kept_member : {A : Type 0} (p : A → Bool) (xs : List A) (x : A) → Member x (filter p xs) → Member x xs
kept_member p [] x m = m
kept_member {A = A} p (y ∷ xs) x m = go (p y) m (kept_member p xs x)
  where
    go : (b : Bool) → Member x (cond b (y ∷ filter p xs) (filter p xs)) → (Member x (filter p xs) → Member x xs) → Member x (y ∷ xs)
    go true (inl e) further = inl e
    go true (inr h) further = inr (further h)
    go false h further = inr (further h)

module _ {A : Type 0} (key : A → List ℕ) where
  -- elements with the same key are the same, where the keys differ
  pub same_by_key : (xs : List A) → Pairwise (λ x y. key x ≢ key y) xs → (x y : A) → Member x xs → Member y xs → key x ≡ key y → x ≡ y
  same_by_key [] d x y m n e = elim m [ ]
  same_by_key (z ∷ xs) d x y (inl f) (inl g) e = sym f ∙ g
  same_by_key (z ∷ xs) d x y (inl f) (inr n) e = elim (member_each (λ u. key z ≢ key u) xs d.0 y n (ap key f ∙ e)) [ ]
  same_by_key (z ∷ xs) d x y (inr m) (inl g) e = elim (member_each (λ u. key z ≢ key u) xs d.0 x m (ap key g ∙ sym e)) [ ]
  same_by_key (z ∷ xs) d x y (inr m) (inr n) e = same_by_key xs d.1 x y m n e

  pub found_by_key : (xs : List A) → Pairwise (λ x y. key x ≢ key y) xs → (x : A) → Member x xs → find (λ y. bytes_eq (key y) (key x)) xs ≡ Some x
  found_by_key [] d x m = elim m [ ]
  found_by_key (z ∷ xs) d x (inl e) =
      ap (λ b. cond b (Some z) (find (λ y. bytes_eq (key y) (key x)) xs)) ((bytes_eq-Decides (key z) (key x)).1 (ap key e)) ∙ ap Some e
  found_by_key (z ∷ xs) d x (inr m) =
      ap (λ b. cond b (Some z) (find (λ y. bytes_eq (key y) (key x)) xs)) (other (bytes_eq (key z) (key x)) refl) ∙ found_by_key xs d.1 x m
    where
      other : (b : Bool) → bytes_eq (key z) (key x) ≡ b → b ≡ false
      other true f = elim (member_each (λ u. key z ≢ key u) xs d.0 x m ((bytes_eq-Decides (key z) (key x)).0 f)) [ ]
      other false f = refl

-- ---- the nodes of a product

module _ (k : CaseDocument) (b : Bundle) (h : Tidy k b) where
  keys_differ : Pairwise (λ s t. s ≢ t) (map (λ n. n.key) k.nodes)
  keys_differ = pairs_from_all_differ (map (λ n. n.key) k.nodes) h.each_once

  pub nodes_differ : Pairwise (λ n m. n.key ≢ m.key) k.nodes
  nodes_differ = pairs_from_map (λ s t. s ≢ t) (λ n. n.key) k.nodes keys_differ

  module _ (w : List Bool) (v : IsTrue (is_valid b.line w)) where
    product_nodes : map (λ s. s.0) (instance_at b w).nodes ≡ map (node_at_world k w) (filter (λ n. holds k w n.presence) k.nodes)
    unfolding cut case_at
    product_nodes = sym (ap (λ c. c.nodes) (h.cuts w v))

    pub product_differs : Pairwise (λ s t. key_seen s ≢ key_seen t) (instance_at b w).nodes
    product_differs =
        pairs_from_map (λ s t. s ≢ t) key_seen (instance_at b w).nodes
        (subst (Pairwise (λ s t. s ≢ t)) (sym keys_are) (among_pairs (λ s t. s ≢ t) (among_mapped (λ n. n.key) (among_filtered (λ n. holds k w n.presence) k.nodes)) keys_differ))
      where
        keys_are : map key_seen (instance_at b w).nodes ≡ map (λ n. n.key) (filter (λ n. holds k w n.presence) k.nodes)
        keys_are =
            sym (map_of_map (λ n. n.key) (λ s. s.0) (instance_at b w).nodes) ∙ ap (map (λ n. n.key)) product_nodes
            ∙ map_of_map (λ n. n.key) (node_at_world k w) (filter (λ n. holds k w n.presence) k.nodes)

    pub product_finds : (s : Seen) → Member s (instance_at b w).nodes → node_with_key b w s.0.key ≡ Some s
    product_finds s m = found_by_key key_seen (instance_at b w).nodes product_differs s m

    -- the case's node that a node of the product is left of
    pub origin : (s : Seen) → Member s (instance_at b w).nodes → (n : CaseNode) × Member n k.nodes × (node_at_world k w n ≡ s.0)
    origin s m =
        let found : (n : CaseNode) × Member n (filter (λ n. holds k w n.presence) k.nodes) × (node_at_world k w n ≡ s.0) =
        mapped_member (node_at_world k w) s.0 (filter (λ n. holds k w n.presence) k.nodes) (subst (Member s.0) product_nodes (member_mapped (λ s. s.0) s (instance_at b w).nodes m)) in
        (found.0, kept_member (λ n. holds k w n.presence) k.nodes found.0 found.1, found.2)

    -- a node that is found under the key of a node without a finding tells no last state and no first answer
    pub nothing_told : (n : CaseNode) → Member n k.nodes → n.finding ≡ None → (s : Seen) → node_with_key b w n.key ≡ Some s → (s.1.last ≡ None) × (s.1.first ≡ None)
    nothing_told n m e s f = member_each TellsNothing (instance_at b w).nodes (without_verdict (length b.model.labels) (model_at b.model w) b.templates) s found.0 no_verdict
      where
        found : Member s (instance_at b w).nodes × (bytes_eq s.0.key n.key ≡ true)
        found = find_member (λ t. bytes_eq t.0.key n.key) (instance_at b w).nodes s f

        from : (c : CaseNode) × Member c k.nodes × (node_at_world k w c ≡ s.0)
        from = origin s found.0

        same_node : from.0 ≡ n
        same_node = same_by_key (λ c. c.key) k.nodes nodes_differ from.0 n from.1 m (ap (λ c. c.key) from.2 ∙ (bytes_eq-Decides s.0.key n.key).0 found.1)

        no_verdict : s.0.verdict ≡ None
        no_verdict =
            sym (ap (λ c. c.verdict) from.2) ∙ ap (λ c. option_map (λ f. not (holds k w f.refuted)) c.finding) same_node
            ∙ ap (option_map (λ f. not (holds k w f.refuted))) e
