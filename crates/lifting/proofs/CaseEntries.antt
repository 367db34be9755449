-- The entries of a bundle, as a tidy case has them: as many as its nodes, branches, targets and witnesses.
use Rattle.std.proofs.Common.{◌≡◌, ◌≢◌, ℕ, suc, ◌+◌, List, [], ◌∷◌, ◌++◌, map, length, true, false, Option, Some, None, refl, sym, ap, subst, arith, inl, inr}
use Rattle.std.specs.Prelude.{is_some}
use Rattle.std.specs.List.{slice_get}
use Rattle.std.proofs.lemmas.List.{length-append, length-map}
use Rattle.meaning.specs.CaseFiles.{CaseDocument, CaseNode, Finding}
use Rattle.meaning.specs.Derivation.{Bundle}
use Rattle.meaning.specs.Tidy.{Tidy, TidyNode, TidyFinding, ValidWorld, node_with_key, findings_at, has_branch, has_last, has_first, is_before}
use Rattle.meaning.specs.Entries.{Entry, of_node, of_branch, of_target, of_witness, only, entries_at, IsEntriesOf}
use Rattle.meaning.specs.Entries as listed
use Rattle.meaning.proofs.CutTrees.{Each}
use Rattle.meaning.proofs.EachMembers.{each_by}
use Rattle.lifting.specs.Lifting.{Seen}
use Rattle.meaning.proofs.Lists.{each_append, each_of_all}
use Rattle.meaning.proofs.Pairs.{Pairwise, each_of_map, pairs_append, pairs_by, pairs_mapped, pairs_from_map}
use Rattle.meaning.proofs.AscendingTuples.{pairs_from_ascend, before_differ}
use Rattle.meaning.proofs.Members.{Member, member_front, member_behind, member_mapped, each_from_members, member_at}
use Rattle.lifting.proofs.TidyProducts.{nothing_told}
use Rattle.lifting.proofs.EntryParts.{entry_key, Occurs, EntriesOfKey, occurs_at, key_is, tells, told, each_from_places, is_one_of, any_of, is_last, last_is, is_first, first_is}

module _ (k : CaseDocument) (b : Bundle) (h : Tidy k b) (n : CaseNode) (m : Member n k.nodes) (t : TidyNode b k n) where
  -- ---- branches

  branch_occurs : (w : ValidWorld b) (v : List ℕ) → has_branch v (findings_at b w.0 n.key) ≡ true → Occurs b (of_branch n.key v)
  branch_occurs w v e = go (tells b w.0 n.key (has_branch v) refl e)
    where
      go : (s : Seen) × (node_with_key b w.0 n.key ≡ Some s) × (has_branch v (Some s.1) ≡ true) → Occurs b (of_branch n.key v)
      go (s, f, g) =
          occurs_at b w n.key s (of_branch n.key v) f
          (subst (λ key. Member (of_branch key v) (listed.entries_of_node s)) (key_is b w.0 n.key s f)
          (inr (member_front _ _ (map (of_witness s.0.key) (only s.1.first)) (member_front _ _ (map (of_target s.0.key) (only s.1.last)) (member_mapped (of_branch s.0.key) v s.1.branches (is_one_of v s.1.branches g))))))

  branches_occur : Each (Occurs b) (map (of_branch n.key) t.answers)
  branches_occur =
      each_of_map (Occurs b) (of_branch n.key) t.answers
      (each_from_places (λ v. Occurs b (of_branch n.key v)) t.answers (λ i v p. branch_occurs (t.branches.each_occurs i v p).0 v (t.branches.each_occurs i v p).1))

  branches_all : (w : ValidWorld b) (s : Seen) → node_with_key b w.0 n.key ≡ Some s → Each (λ v. Member v t.answers) s.1.branches
  branches_all w s f =
      each_from_members (λ v. Member v t.answers) s.1.branches
      (λ v i. let place : (i : ℕ) × (slice_get t.answers i ≡ Some v) = t.branches.every w v (told b w.0 n.key (has_branch v) s f (any_of v s.1.branches i)) in member_at t.answers place.0 v place.1)

  -- ---- targets and witnesses

  pub record FindingEntries (number : ℕ) : Type 0 where
    pub targets : List ℕ
    pub tuples : List (List ℕ)
    pub targets_differ : Pairwise (λ s u. s ≢ u) targets
    pub tuples_differ : Pairwise (λ s u. s ≢ u) tuples
    pub targets_occur : Each (λ s. Occurs b (of_target n.key s)) targets
    pub tuples_occur : Each (λ s. Occurs b (of_witness n.key s)) tuples
    pub targets_all : (w : ValidWorld b) (s : Seen) → node_with_key b w.0 n.key ≡ Some s → Each (λ v. Member v targets) (only s.1.last)
    pub tuples_all : (w : ValidWorld b) (s : Seen) → node_with_key b w.0 n.key ≡ Some s → Each (λ v. Member v tuples) (only s.1.first)
    pub count : length targets + length tuples ≡ number

  pub none_found : n.finding ≡ None → FindingEntries 0
  none_found e = record {
    targets = [];
    tuples = [];
    targets_differ = tt;
    tuples_differ = tt;
    targets_occur = tt;
    tuples_occur = tt;
    targets_all = λ w s f. subst (λ o. Each (λ v. Member v []) (only o)) (sym (nothing_told k b h w.0 w.1 n m e s f).0) tt;
    tuples_all = λ w s f. subst (λ o. Each (λ v. Member v []) (only o)) (sym (nothing_told k b h w.0 w.1 n m e s f).1) tt;
    count = refl;
  }

  target_occurs : (w : ValidWorld b) (v : ℕ) → has_last v (findings_at b w.0 n.key) ≡ true → Occurs b (of_target n.key v)
  target_occurs w v e = go (tells b w.0 n.key (has_last v) refl e)
    where
      go : (s : Seen) × (node_with_key b w.0 n.key ≡ Some s) × (has_last v (Some s.1) ≡ true) → Occurs b (of_target n.key v)
      go (s, f, g) =
          occurs_at b w n.key s (of_target n.key v) f
          (subst (λ key. Member (of_target key v) (listed.entries_of_node s)) (key_is b w.0 n.key s f)
          (inr (member_front _ _ (map (of_witness s.0.key) (only s.1.first)) (member_behind _ (map (of_branch s.0.key) s.1.branches) _ (member_mapped (of_target s.0.key) v (only s.1.last) (is_last v s.1.last g))))))

  witness_occurs : (w : ValidWorld b) (v : List ℕ) → has_first v (findings_at b w.0 n.key) ≡ true → Occurs b (of_witness n.key v)
  witness_occurs w v e = go (tells b w.0 n.key (has_first v) refl e)
    where
      go : (s : Seen) × (node_with_key b w.0 n.key ≡ Some s) × (has_first v (Some s.1) ≡ true) → Occurs b (of_witness n.key v)
      go (s, f, g) =
          occurs_at b w n.key s (of_witness n.key v) f
          (subst (λ key. Member (of_witness key v) (listed.entries_of_node s)) (key_is b w.0 n.key s f)
          (inr (member_behind _ (map (of_branch s.0.key) s.1.branches ++ map (of_target s.0.key) (only s.1.last)) _ (member_mapped (of_witness s.0.key) v (only s.1.first) (is_first v s.1.first g)))))

  module _ (f : Finding) (tf : TidyFinding b k n f) where
    states_differ : Pairwise (λ s u. s ≢ u) (map (λ x. x.0) f.targets)
    states_differ =
        pairs_by (λ s u. is_before (s ∷ []) (u ∷ [])) (λ s u. s ≢ u) (λ s u i e. before_differ (s ∷ []) (u ∷ []) i (ap (λ z. z ∷ []) e)) (map (λ x. x.0) f.targets)
        (pairs_mapped (λ s u. is_before (s ∷ []) (u ∷ [])) (λ x. x.0) f.targets (pairs_from_map is_before (λ x. x.0 ∷ []) f.targets (pairs_from_ascend (map (λ x. x.0 ∷ []) f.targets) tf.targets_ascend)))

    pub some_found : FindingEntries (length f.targets + length f.witnesses)
    some_found = record {
      targets = map (λ x. x.0) f.targets;
      tuples = tf.tuples_of_witnesses;
      targets_differ = states_differ;
      tuples_differ = pairs_by is_before (λ s u. s ≢ u) before_differ tf.tuples_of_witnesses (pairs_from_ascend tf.tuples_of_witnesses tf.witnesses_ascend);
      targets_occur =
          each_from_places (λ v. Occurs b (of_target n.key v)) (map (λ x. x.0) f.targets)
          (λ i v p. target_occurs (tf.targets.each_occurs i v p).0 v (tf.targets.each_occurs i v p).1);
      tuples_occur =
          each_from_places (λ v. Occurs b (of_witness n.key v)) tf.tuples_of_witnesses
          (λ i v p. witness_occurs (tf.witnesses.each_occurs i v p).0 v (tf.witnesses.each_occurs i v p).1);
      targets_all = λ w s g.
          each_from_members (λ v. Member v (map (λ x. x.0) f.targets)) (only s.1.last)
          (λ v i. let place : (i : ℕ) × (slice_get (map (λ x. x.0) f.targets) i ≡ Some v) = tf.targets.every w v (told b w.0 n.key (has_last v) s g (last_is v s.1.last i)) in
          member_at (map (λ x. x.0) f.targets) place.0 v place.1);
      tuples_all = λ w s g.
          each_from_members (λ v. Member v tf.tuples_of_witnesses) (only s.1.first)
          (λ v i. let place : (i : ℕ) × (slice_get tf.tuples_of_witnesses i ≡ Some v) = tf.witnesses.every w v (told b w.0 n.key (has_first v) s g (first_is v s.1.first i)) in
          member_at tf.tuples_of_witnesses place.0 v place.1);
      count = omega (arith, length-map f.targets (λ x. x.0), tf.witnesses.same_length, length-map f.witnesses (λ x. x.1));
    }

  -- ---- the node itself, and all

  node_occurs : Occurs b (of_node n.key)
  node_occurs = go (node_with_key b t.occurs.0.0 n.key) refl t.occurs.1
    where
      go : (o : Option Seen) → node_with_key b t.occurs.0.0 n.key ≡ o → is_some o ≡ true → Occurs b (of_node n.key)
      go None e i = elim (no_true i) [ ]
        where
          no_true : false ≡ true → ⊥
          no_true e = cc
      go (Some s) e i = occurs_at b t.occurs.0 n.key s (of_node n.key) e (inl (ap of_node (key_is b t.occurs.0.0 n.key s e)))

  module _ (number : ℕ) (f : FindingEntries number) where
    abbrev branch_list : List Entry
    branch_list = map (of_branch n.key) t.answers

    abbrev target_list : List Entry
    target_list = map (of_target n.key) f.targets

    abbrev witness_list : List Entry
    witness_list = map (of_witness n.key) f.tuples

    rest_all : (P : Entry → Type 0) → Each (λ v. P (of_branch n.key v)) t.answers → Each (λ v. P (of_target n.key v)) f.targets → Each (λ v. P (of_witness n.key v)) f.tuples
        → Each P ((branch_list ++ target_list) ++ witness_list)
    rest_all P x y z =
        each_append P (branch_list ++ target_list) witness_list
        (each_append P branch_list target_list (each_of_map P (of_branch n.key) t.answers x) (each_of_map P (of_target n.key) f.targets y)) (each_of_map P (of_witness n.key) f.tuples z)

    rest_differ : Pairwise (λ d e. d ≢ e) ((branch_list ++ target_list) ++ witness_list)
    rest_differ =
        pairs_append (λ d e. d ≢ e) (branch_list ++ target_list) witness_list
        (pairs_append (λ d e. d ≢ e) branch_list target_list
        (pairs_mapped (λ d e. d ≢ e) (of_branch n.key) t.answers (pairs_by is_before _ (λ x y i e. before_differ x y i (same_branch x y e)) t.answers (pairs_from_ascend t.answers t.answers_ascend)))
        (pairs_mapped (λ d e. d ≢ e) (of_target n.key) f.targets (pairs_by (λ x y. x ≢ y) _ (λ x y d e. d (same_target x y e)) f.targets f.targets_differ))
        (each_of_map _ (of_branch n.key) t.answers (each_of_all _ (λ x. each_of_map _ (of_target n.key) f.targets (each_of_all _ (λ y. no_target x y) f.targets)) t.answers)))
        (pairs_mapped (λ d e. d ≢ e) (of_witness n.key) f.tuples (pairs_by (λ x y. x ≢ y) _ (λ x y d e. d (same_witness x y e)) f.tuples f.tuples_differ))
        (each_append _ branch_list target_list
        (each_of_map _ (of_branch n.key) t.answers (each_of_all _ (λ x. each_of_map _ (of_witness n.key) f.tuples (each_of_all _ (λ y. no_witness x y) f.tuples)) t.answers))
        (each_of_map _ (of_target n.key) f.targets (each_of_all _ (λ x. each_of_map _ (of_witness n.key) f.tuples (each_of_all _ (λ y. target_no_witness x y) f.tuples)) f.targets)))
      where
        same_branch : (x y : List ℕ) → of_branch n.key x ≡ of_branch n.key y → x ≡ y
        same_branch x y e = cc

        same_target : (x y : ℕ) → of_target n.key x ≡ of_target n.key y → x ≡ y
        same_target x y e = cc

        same_witness : (x y : List ℕ) → of_witness n.key x ≡ of_witness n.key y → x ≡ y
        same_witness x y e = cc

        no_target : (x : List ℕ) (y : ℕ) → of_branch n.key x ≡ of_target n.key y → ⊥
        no_target x y e = cc

        no_witness : (x y : List ℕ) → of_branch n.key x ≡ of_witness n.key y → ⊥
        no_witness x y e = cc

        target_no_witness : (x : ℕ) (y : List ℕ) → of_target n.key x ≡ of_witness n.key y → ⊥
        target_no_witness x y e = cc

    all_listed : (w : ValidWorld b) (s : Seen) → node_with_key b w.0 n.key ≡ Some s
        → Each (λ e. Member e (of_node n.key ∷ ((branch_list ++ target_list) ++ witness_list))) (listed.entries_of_node s)
    all_listed w s g =
        subst (λ key. Each (λ e. Member e (of_node n.key ∷ ((branch_list ++ target_list) ++ witness_list)))
        (of_node key ∷ ((map (of_branch key) s.1.branches ++ map (of_target key) (only s.1.last)) ++ map (of_witness key) (only s.1.first)))) (sym (key_is b w.0 n.key s g)) (
          inl refl,
          each_append _ (map (of_branch n.key) s.1.branches ++ map (of_target n.key) (only s.1.last)) (map (of_witness n.key) (only s.1.first))
              (each_append _ (map (of_branch n.key) s.1.branches) (map (of_target n.key) (only s.1.last))
              (each_of_map _ (of_branch n.key) s.1.branches
              (each_by (λ v. Member v t.answers) _ (λ v i. inr (member_front _ (branch_list ++ target_list) witness_list (member_front _ branch_list target_list (member_mapped (of_branch n.key) v t.answers i)))) s.1.branches (branches_all w s g)))
              (each_of_map _ (of_target n.key) (only s.1.last)
              (each_by (λ v. Member v f.targets) _ (λ v i. inr (member_front _ (branch_list ++ target_list) witness_list (member_behind _ branch_list target_list (member_mapped (of_target n.key) v f.targets i)))) (only s.1.last) (f.targets_all w s g))))
              (each_of_map _ (of_witness n.key) (only s.1.first)
              (each_by (λ v. Member v f.tuples) _ (λ v i. inr (member_behind _ (branch_list ++ target_list) witness_list (member_mapped (of_witness n.key) v f.tuples i))) (only s.1.first) (f.tuples_all w s g))),
        )

    pub of_this_node : EntriesOfKey b n.key (1 + (length n.branches + number))
    of_this_node = record {
      list = of_node n.key ∷ ((branch_list ++ target_list) ++ witness_list);
      keyed = (refl, rest_all (λ e. entry_key e ≡ n.key) (each_of_all _ (λ v. refl) t.answers) (each_of_all _ (λ v. refl) f.targets) (each_of_all _ (λ v. refl) f.tuples));
      differ = (rest_all (λ e. of_node n.key ≢ e) (each_of_all _ (λ v e. no_branch v e) t.answers) (each_of_all _ (λ v e. no_target v e) f.targets) (each_of_all _ (λ v e. no_witness v e) f.tuples), rest_differ);
      occur = (node_occurs, rest_all (Occurs b) (each_from_places (λ v. Occurs b (of_branch n.key v)) t.answers (λ i v p. branch_occurs (t.branches.each_occurs i v p).0 v (t.branches.each_occurs i v p).1)) f.targets_occur f.tuples_occur);
      all = all_listed;
      count = counted;
    }
      where
        no_branch : (v : List ℕ) → of_node n.key ≡ of_branch n.key v → ⊥
        no_branch v e = cc

        no_target : (v : ℕ) → of_node n.key ≡ of_target n.key v → ⊥
        no_target v e = cc

        no_witness : (v : List ℕ) → of_node n.key ≡ of_witness n.key v → ⊥
        no_witness v e = cc

        counted : suc (length ((branch_list ++ target_list) ++ witness_list)) ≡ 1 + (length n.branches + number)
        counted =
            omega (
              arith,
              f.count,
              t.branches.same_length,
              length-append (branch_list ++ target_list) witness_list,
              length-append branch_list target_list,
              length-map t.answers (of_branch n.key),
              length-map f.targets (of_target n.key),
              length-map f.tuples (of_witness n.key),
            )
