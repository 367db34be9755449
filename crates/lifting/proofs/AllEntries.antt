-- All entries of a bundle, as a tidy case has them, each once.
use Rattle.std.proofs.Common.{◌≡◌, ◌≢◌, ◌+◌, List, [], ◌∷◌, ◌++◌, map, length, Option, Some, None, refl, sym, ap, ◌∙◌, subst, arith, inl, inr, ◌⊎◌}
use Rattle.std.proofs.lemmas.List.{length-append}
use Rattle.meaning.specs.CaseFiles.{CaseDocument, CaseNode, Finding, node_at_world}
use Rattle.meaning.specs.Derivation.{Bundle}
use Rattle.meaning.specs.Tidy.{Tidy, TidyNode, ValidWorld, instance_at, node_with_key}
use Rattle.meaning.specs.Entries.{Entry, entries_at, IsEntriesOf}
use Rattle.meaning.specs.Entries as listed
use Rattle.meaning.proofs.CutTrees.{Each}
use Rattle.meaning.proofs.EachMembers.{each_by}
use Rattle.lifting.specs.Lifting.{Seen}
use Rattle.lifting.specs.CaseCounts.{entries_of_finding, entries_of_node, entries_in}
use Rattle.meaning.proofs.Lists.{each_append}
use Rattle.meaning.proofs.Pairs.{Pairwise, pairs_append}
use Rattle.meaning.proofs.Members.{Member, member_front, member_behind, member_mapped, mapped_member, flat_member, member_each, each_from_members, member_of_contains, contains_member, one_place}
use Rattle.lifting.proofs.TidyProducts.{nodes_differ, product_finds, origin}
use Rattle.lifting.proofs.EntryParts.{entry_key, Occurs, EntriesOfKey}
use Rattle.lifting.proofs.CaseEntries.{of_this_node, none_found, some_found}

-- ---- the entries of some nodes whose keys differ

record EntriesOfNodes (b : Bundle) (ns : List CaseNode) : Type 0 where
  list : List Entry
  keyed : Each (λ e. Member (entry_key e) (map (λ n. n.key) ns)) list
  differ : Pairwise (λ d e. d ≢ e) list
  occur : Each (Occurs b) list
  all : (w : ValidWorld b) (s : Seen) → Member s.0.key (map (λ n. n.key) ns) → node_with_key b w.0 s.0.key ≡ Some s → Each (λ e. Member e list) (listed.entries_of_node s)
  count : length list ≡ entries_in ns

module _ (b : Bundle) where
  one_more_node : (n : CaseNode) (ns : List CaseNode) → Each (λ m. n.key ≢ m.key) ns → EntriesOfKey b n.key (entries_of_node n) → EntriesOfNodes b ns → EntriesOfNodes b (n ∷ ns)
  one_more_node n ns d h g = record {
    list = h.list ++ g.list;
    keyed = each_append _ h.list g.list (each_by (λ e. entry_key e ≡ n.key) _ (λ e k. inl (sym k)) h.list h.keyed) (each_by (λ e. Member (entry_key e) (map (λ m. m.key) ns)) _ (λ e m. inr m) g.list g.keyed);
    differ = pairs_append (λ d e. d ≢ e) h.list g.list h.differ g.differ cross;
    occur = each_append (Occurs b) h.list g.list h.occur g.occur;
    all = λ w s m f. listed_by w s m f;
    count = omega (arith, length-append h.list g.list, h.count, g.count);
  }
    where
      not_later : Member n.key (map (λ m. m.key) ns) → ⊥
      not_later m =
          let found : (c : CaseNode) × Member c ns × (c.key ≡ n.key) = mapped_member (λ m. m.key) n.key ns m in
          member_each (λ m. n.key ≢ m.key) ns d found.0 found.1 (sym found.2)

      cross : Each (λ e. Each (λ f. e ≢ f) g.list) h.list
      cross =
          each_by (λ e. entry_key e ≡ n.key) _
          (λ e k. each_by (λ f. Member (entry_key f) (map (λ m. m.key) ns)) (λ f. e ≢ f) (λ f m i. not_later (subst (λ key. Member key (map (λ m. m.key) ns)) (sym (ap entry_key i) ∙ k) m)) g.list g.keyed)
          h.list h.keyed

      listed_by : (w : ValidWorld b) (s : Seen) → (n.key ≡ s.0.key) ⊎ Member s.0.key (map (λ m. m.key) ns) → node_with_key b w.0 s.0.key ≡ Some s
          → Each (λ e. Member e (h.list ++ g.list)) (listed.entries_of_node s)
      listed_by w s (inl k) f =
          each_by (λ e. Member e h.list) _ (λ e m. member_front e h.list g.list m) (listed.entries_of_node s) (h.all w s (ap (node_with_key b w.0) k ∙ f))
      listed_by w s (inr m) f = each_by (λ e. Member e g.list) _ (λ e m. member_behind e h.list g.list m) (listed.entries_of_node s) (g.all w s m f)

  of_all_nodes : (ns : List CaseNode) → Pairwise (λ n m. n.key ≢ m.key) ns → Each (λ n. EntriesOfKey b n.key (entries_of_node n)) ns → EntriesOfNodes b ns
  of_all_nodes [] d h = record { list = []; keyed = tt; differ = tt; occur = tt; all = λ w s m f. elim m [ ]; count = refl }
  of_all_nodes (n ∷ ns) d h = one_more_node n ns d.0 h.0 (of_all_nodes ns d.1 h.1)

-- ---- the entries of a tidy case

pub record CaseEntries (k : CaseDocument) (b : Bundle) : Type 0 where
  pub entries : List Entry
  pub of_bundle : IsEntriesOf b entries
  pub differ : Pairwise (λ d e. d ≢ e) entries
  pub count : length entries ≡ entries_in k.nodes

module _ (k : CaseDocument) (b : Bundle) (h : Tidy k b) where
  of_a_node : (n : CaseNode) (m : Member n k.nodes) → EntriesOfKey b n.key (entries_of_node n)
  of_a_node n m = go n.finding refl
    where
      t : TidyNode b k n
      t = h.nodes n (contains_member n k.nodes m)

      go : (o : Option Finding) → n.finding ≡ o → EntriesOfKey b n.key (1 + (length n.branches + entries_of_finding o))
      go None e = of_this_node k b h n m t 0 (none_found k b h n m t e)
      go (Some f) e = of_this_node k b h n m t (length f.targets + length f.witnesses) (some_found k b h n m t f (t.finding f e))

  all_of : EntriesOfNodes b k.nodes
  all_of = of_all_nodes b k.nodes (nodes_differ k b h) (each_from_members _ k.nodes of_a_node)

  every_entry : (w : ValidWorld b) (e : Entry) → Member e (entries_at b w.0) → Member e all_of.list
  every_entry w e m = go (flat_member listed.entries_of_node e (instance_at b w.0).nodes m)
    where
      go : (s : Seen) × Member s (instance_at b w.0).nodes × Member e (listed.entries_of_node s) → Member e all_of.list
      go (s, i, j) =
          let from : (c : CaseNode) × Member c k.nodes × (node_at_world k w.0 c ≡ s.0) = origin k b h w.0 w.1 s i in
          member_each (λ e. Member e all_of.list) (listed.entries_of_node s)
          (all_of.all w s (subst (λ key. Member key (map (λ n. n.key) k.nodes)) (ap (λ c. c.key) from.2) (member_mapped (λ n. n.key) from.0 k.nodes from.1)) (product_finds k b h w.0 w.1 s i)) e j

  -- as many as the case's nodes, branches, targets and witnesses
  pub tidy_entries : CaseEntries k b
  tidy_entries = record {
    entries = all_of.list;
    of_bundle = record {
      once = one_place all_of.list all_of.differ;
      each_occurs = λ e c. member_each (Occurs b) all_of.list all_of.occur e (member_of_contains e all_of.list c);
      every = λ w e c. contains_member e all_of.list (every_entry w e (member_of_contains e (entries_at b w.0) c));
    };
    differ = all_of.differ;
    count = all_of.count;
  }
