-- The lifted instance of a bundle that fits, over the diagrams of the line's valid worlds, is written as a case, and its bytes are a build.
use Rattle.std.proofs.Common.{◌≡◌, ℕ, ◌+◌, ◌<◌, ◌≤◌, ◌^◌, List, [], ◌∷◌, ◌++◌, map, length, Bool, true, false, ◌==◌, Some, None, refl, sym, ap, ◌∙◌, subst, arith, inr}
use Rattle.std.specs.Prelude.{IsTrue, IsFalse, Contains, option_map}
use Rattle.std.specs.List.{All}
use Rattle.std.proofs.lemmas.List.{length-map}
use Rattle.node_pool.specs.declared.node.NodeNo.{NodeNo}
use Rattle.node_pool.specs.Regions.{IsRegion}
use Rattle.node_pool.specs.Functions.{function_of, world_of}
use Rattle.conditions.specs.Diagrams.{State, algebra_of, IsLive}
use Rattle.conditions.specs.Tables.{case_rows}
use Rattle.meaning.specs.Texts.{flat}
use Rattle.meaning.specs.Documents.{Json, document_of, of_json}
use Rattle.meaning.specs.Features.{feature_names, is_valid}
use Rattle.meaning.specs.CaseFiles.{Row, CaseDocument, CaseNode, Finding, holds}
use Rattle.meaning.specs.CaseReading.{Is, read_case}
use Rattle.meaning.specs.CaseBytes.{case_bytes, case_data}
use Rattle.meaning.specs.TableOrder.{conditions_of}
use Rattle.meaning.specs.Statuses.{BigCase}
use Rattle.meaning.specs.Derivation.{Bundle}
use Rattle.meaning.specs.Entries.{most_entries}
use Rattle.meaning.specs.Evidence.{system_number}
use Rattle.meaning.specs.Headline.{IsBuildOf}
use Rattle.meaning.specs.Tidy.{ValidWorld}
use Rattle.meaning.specs.Answers.{Prints, refusal, Stage, IsBuildAnswer, ShowsCase, most_bytes}
use Rattle.meaning.proofs.EmptyLists.{same_truth, all_true, both_true}
use Rattle.meaning.proofs.CutTrees.{Each}
use Rattle.meaning.proofs.EachMembers.{each_by}
use Rattle.meaning.proofs.ValidWorlds.{valid_is_long}
use Rattle.lifted_case.specs.declared.lifted.Lifted.{Lifted}
use Rattle.lifted_case.specs.declared.lifted.LNode.{LNode}
use Rattle.lifted_case.specs.CaseContents.{BreaksNoRule, TextsAreJoined}
use Rattle.lifted_case.specs.CaseWritten.{document_with, node_with, finding_with, conditions_of_node, conditions_of_finding, conditions_of_system, conditions_in, Stands as StandsFor, IsWrittenFrom}
use Rattle.lifted_case.proofs.CaseReadable.{each_from_all}
use Rattle.lifted_case.proofs.CaseWritten.{conditions_of-with}
use Rattle.lifting.specs.CaseCounts.{entries_in, entries_of_finding}
use Rattle.lifting.specs.FittingBundles.{BundleFits}
use Rattle.lifting.specs.LiftedCases.{IsLiftedCase}
use Rattle.lifting.specs.LiftedInstances.{IsLiftedInstance}
use Rattle.lifting.specs.Noted.{Noted, Stands, conditions_to, entries_of}
use Rattle.lifting.proofs.BigCases.{written_case_reads}
use Rattle.meaning.proofs.EqualityTests.{equal_numbers, same_number, none_is_some}
use Rattle.lifting.proofs.InstanceRules.{all_from_each, instance_keeps_rules, instance_is_joined}
use Rattle.lifting.proofs.InstancesAreCases.{instance_is_case}
use Rattle.meaning.proofs.KeysDiffer.{AreFew}
use Rattle.lifting.proofs.LiftedBuild.{nothing_to_accept, nothing_to_replay, lifted_is_build}
use Rattle.lifting.proofs.LiftedBuilt.{prints_case, case_is_long}
use Rattle.lifting.proofs.LiftedTidy.{lifted_is_tidy}
use Rattle.meaning.proofs.Lists.{each_append, each_two}
use Rattle.meaning.proofs.Pairs.{each_of_map}
use Rattle.meaning.proofs.Members.{Member, member_of_contains, mapped_member, member_each}

-- ---- conditions

module _ {C : Type 0} (P : C → Type 0) where
  each_of_flat : {A : Type 0} (f : A → List C) (xs : List A) → Each (λ x. Each P (f x)) xs → Each P (flat f xs)
  each_of_flat f [] h = tt
  each_of_flat f (x ∷ xs) h = each_append P (f x) (flat f xs) h.0 (each_of_flat f xs h.1)

  -- those of a node without a finding
  of_node : (n : LNode C) → n.finding ≡ None → P n.when → Each P n.branches → Each P (conditions_of_node n)
  of_node n e w bs = (w, each_append P n.branches (conditions_of_finding n.finding) bs (subst (λ o. Each P (conditions_of_finding o)) (sym e) tt))

  -- the relations' conditions are some of the nodes'
  of_relations : (ns : List (Noted C)) → Each (λ n. P n.0.when) ns → Each P (conditions_to None ns)
  of_relations [] h = tt
  of_relations (n ∷ ns) h = each_of_map P (λ n. n.0.when) ns h.1

-- ---- truth values

false_unless : (b : Bool) → (b ≡ true → ⊥) → b ≡ false
false_unless true h = elim (h refl) [ ]
false_unless false h = refl

never_both : (b : Bool) → b ≡ true → b ≡ false → ⊥
never_both b e f = cc

module _ (s : State) (b : Bundle) (case : Lifted NodeNo) (product : ValidWorld b) (worlds : (w : List Bool) → (algebra_of s).is_world w ≡ is_valid b.line w) (fits : BundleFits b)
    (h : IsLiftedInstance (algebra_of s) b.title (feature_names b.line) b.model b.templates case) where
  -- ---- what writing asks for

  -- there are as many variables as features
  pub features_of_case : s.region.vars ≡ length case.features
  features_of_case =
      sym (equal_numbers (length product.0) s.region.vars (both_true (length product.0 == s.region.vars) _ (worlds product.0 ∙ product.1)).0)
      ∙ valid_is_long b.line product.0 product.1 ∙ sym (length-map b.line.features (λ f. f.name)) ∙ ap length (sym h.features)

  abbrev IsLiveHere : NodeNo → Type 0
  IsLiveHere c = IsLive s.region s.valid c

  live_node : (n : Noted NodeNo) → Stands (algebra_of s) n → Each IsLiveHere (conditions_of_node n.0)
  live_node n t =
      of_node IsLiveHere n.0 t.unchecked t.live
      (subst (Each IsLiveHere) (sym t.branches) (each_of_map IsLiveHere (λ r. r.1) n.1.rows (each_from_all (λ r. IsLiveHere r.1) n.1.rows t.branches_live)))

  each_live : Each IsLiveHere (conditions_in case)
  each_live = (
    h.valid.live,
    each_append IsLiveHere (flat conditions_of_node case.nodes ++ map (λ r. r.when) case.relations) (flat conditions_of_system case.systems)
        (each_append IsLiveHere (flat conditions_of_node case.nodes) (map (λ r. r.when) case.relations)
        (each_of_flat IsLiveHere conditions_of_node case.nodes
        (subst (Each (λ n. Each IsLiveHere (conditions_of_node n))) h.of_nodes
        (each_of_map (λ n. Each IsLiveHere (conditions_of_node n)) (λ n. n.0) h.notes (each_by (Stands (algebra_of s)) _ live_node h.notes h.nodes))))
        (subst (Each IsLiveHere) (sym h.relations_with_targets) (of_relations IsLiveHere h.notes (each_by (Stands (algebra_of s)) _ (λ n t. t.live) h.notes h.nodes))))
        (subst (λ ss. Each IsLiveHere (flat conditions_of_system ss)) (sym h.systems) tt),
  )

  pub case_is_live : All (algebra_of s).live (conditions_in case)
  case_is_live = all_from_each IsLiveHere (conditions_in case) each_live

  few_elements : length b.model.elements ≤ 2 ^ 64
  few_elements = omega (arith, fits.few_elements)

  pub case_keeps_rules : BreaksNoRule case
  case_keeps_rules =
      instance_keeps_rules (algebra_of s) b.title (feature_names b.line) b.model b.templates case fits.templates fits.model few_elements h fits.title fits.names fits.few_features

  pub case_is_joined : TextsAreJoined case
  case_is_joined = instance_is_joined (algebra_of s) b.title (feature_names b.line) b.model b.templates case fits.templates fits.model few_elements h

  -- ---- the document that is written

  module _ (id : NodeNo → ℕ) (rows : List Row) (stands : Each (λ c. StandsFor s.region (document_with id rows case) c (id c)) (conditions_in case)) where
    abbrev d : CaseDocument
    d = document_with id rows case

    module _ (w : List Bool) where
      -- a condition that is true at a list is true at a valid world
      true_is_valid : (c : NodeNo) → IsLiveHere c → length w ≡ s.region.vars → function_of s.region c.0 (world_of w) ≡ true → is_valid b.line w ≡ true
      true_is_valid c l e f =
          sym (worlds w) ∙ all_true (length w == s.region.vars) (function_of s.region s.valid.0 (world_of w)) (same_number (length w) s.region.vars e) (l.within (world_of w) f)

      long : length w ≡ length case.features → length w ≡ s.region.vars
      long e = e ∙ sym features_of_case

      valid_here : length w ≡ length case.features → holds d w (id case.valid) ≡ is_valid b.line w
      valid_here e =
          stands.0.function w (long e)
          ∙ same_truth (function_of s.region case.valid.0 (world_of w)) (is_valid b.line w) (true_is_valid case.valid h.valid.live (long e)) (λ v. h.valid.holds w (worlds w ∙ v))

      -- what stands for a condition does not hold beyond
      none_beyond : length w ≡ length case.features → IsFalse (is_valid b.line w) → (c : NodeNo) → StandsFor s.region d c (id c) × IsLiveHere c → holds d w (id c) ≡ false
      none_beyond e v c t = t.0.function w (long e) ∙ false_unless (function_of s.region c.0 (world_of w)) (λ f. never_both (is_valid b.line w) (true_is_valid c t.1 (long e) f) v)

    nowhere_else : (j : ℕ) → Contains (conditions_of d) j → (w : List Bool) → length w ≡ length d.features → IsFalse (is_valid b.line w) → holds d w j ≡ false
    nowhere_else j c w e v =
        let found = mapped_member id j (conditions_in case) (subst (λ js. Member j js) (conditions_of-with id rows case) (inr (member_of_contains j (conditions_of d) c))) in
        subst (λ i. holds d w i ≡ false) found.2
        (member_each (λ c. holds d w (id c) ≡ false) (conditions_in case)
        (each_by (λ c. StandsFor s.region d c (id c) × IsLiveHere c) (λ c. holds d w (id c) ≡ false) (none_beyond w e v) (conditions_in case)
        (each_two (λ c. StandsFor s.region d c (id c)) IsLiveHere (conditions_in case) stands each_live)) found.0 found.1)

    valid_is_world : (w : List Bool) → IsTrue (is_valid b.line w) → length w ≡ s.region.vars
    valid_is_world w v = equal_numbers (length w) s.region.vars (both_true (length w == s.region.vars) _ (worlds w ∙ v)).0

    document_is_case : IsLiftedCase d b
    document_is_case =
        instance_is_case b (algebra_of s) case id rows (λ w v. worlds w ∙ v) (λ w v. sym (worlds w) ∙ v)
        (each_by (λ c. StandsFor s.region d c (id c)) _ (λ c t w v. t.function w (valid_is_world w v)) (conditions_in case) stands) h valid_here nowhere_else

    -- ---- its entries, and no checks

    has_no_finding : Each (λ n. n.finding ≡ None) (map (node_with id) case.nodes)
    has_no_finding =
        each_of_map (λ n. n.finding ≡ None) (node_with id) case.nodes
        (subst (Each (λ n. option_map (finding_with id) n.finding ≡ None)) h.of_nodes
        (each_of_map (λ n. option_map (finding_with id) n.finding ≡ None) (λ n. n.0) h.notes
        (each_by (Stands (algebra_of s)) _ (λ n t. ap (option_map (finding_with id)) t.unchecked) h.notes h.nodes)))

    none_of_systems : (n : CaseNode) (f : Finding) → Contains d.nodes n → n.finding ≡ Some f → system_number f.check ≡ None
    none_of_systems n f c e = elim (none_is_some f (sym (member_each (λ n. n.finding ≡ None) d.nodes has_no_finding n (member_of_contains n d.nodes c)) ∙ e)) [ ]

    counted : (ns : List (Noted NodeNo)) → Each (Stands (algebra_of s)) ns → entries_in (map (node_with id) (map (λ n. n.0) ns)) ≡ entries_of ns
    counted [] t = refl
    counted (n ∷ ns) t =
        ap (λ o. (1 + (length (map id n.0.branches) + entries_of_finding (option_map (finding_with id) o))) + entries_in (map (node_with id) (map (λ n. n.0) ns))) t.0.unchecked
        ∙ omega (arith, length-map n.0.branches id, ap length t.0.branches, length-map n.1.rows (λ r. r.1), counted ns t.1)

    few_entries_written : entries_in d.nodes ≤ most_entries
    few_entries_written = subst (λ n. n ≤ most_entries) (sym (counted h.notes h.nodes) ∙ ap (λ ns. entries_in (map (node_with id) ns)) h.of_nodes) h.few

  few_nodes : AreFew b.templates
  few_nodes u v e = omega (arith, fits.templates.few_nodes u v e)

  module _ (k : CaseDocument) (written : IsWrittenFrom s.region case k) where
    stands_here : Each (λ c. StandsFor s.region (document_with written.identifier (case_rows written.table.rows) case) c (written.identifier c)) (conditions_in case)
    stands_here =
        subst (λ d. Each (λ c. StandsFor s.region d c (written.identifier c)) (conditions_in case)) written.document
        (each_from_all (λ c. StandsFor s.region k c (written.identifier c)) (conditions_in case) written.stands)

    written_is_case : IsLiftedCase k b
    written_is_case = subst (λ d. IsLiftedCase d b) (sym written.document) (document_is_case written.identifier (case_rows written.table.rows) stands_here)

    few_written : entries_in k.nodes ≤ most_entries
    few_written = subst (λ d. entries_in d.nodes ≤ most_entries) (sym written.document) (few_entries_written written.identifier (case_rows written.table.rows) stands_here)

    no_systems : (n : CaseNode) (f : Finding) → Contains k.nodes n → n.finding ≡ Some f → system_number f.check ≡ None
    no_systems =
        subst (λ d. (n : CaseNode) (f : Finding) → Contains d.nodes n → n.finding ≡ Some f → system_number f.check ≡ None) (sym written.document)
        (none_of_systems written.identifier (case_rows written.table.rows) stands_here)

    is_build : read_case (case_bytes k) ≡ Is k → IsBuildOf (case_bytes k) b
    is_build reads = lifted_is_build k b few_elements few_nodes written_is_case reads written.order (nothing_to_accept k b no_systems) (nothing_to_replay k b no_systems)

    printed : (stage : Stage) (bytes : List ℕ) → bytes ≡ case_bytes k → length bytes ≤ most_bytes → read_case bytes ≡ Is k → IsBuildAnswer stage b ShowsCase (Prints bytes)
    printed stage bytes e short reads =
        subst (λ s. IsBuildAnswer stage b ShowsCase (Prints s)) (sym e)
        (prints_case k b (lifted_is_tidy k b few_elements few_nodes written_is_case) stage product (is_build (subst (λ s. read_case s ≡ Is k) e reads)) (λ c. few_written)
        (λ c. subst (λ s. length s ≤ most_bytes) e short))

    too_long : (stage : Stage) → IsTrue stage.counts_bytes → most_bytes < length (case_bytes k) → read_case (case_bytes k) ≡ Is k → IsBuildAnswer stage b ShowsCase (refusal (BigCase false))
    too_long stage counts long reads = case_is_long k b (lifted_is_tidy k b few_elements few_nodes written_is_case) stage product (is_build reads) counts (λ c. few_written) long

  -- ---- the answers

  -- what was written is the case of the bundle
  pub case_prints : (stage : Stage) (bytes : List ℕ)
      → (k : CaseDocument) × IsWrittenFrom s.region case k × (bytes ≡ case_bytes k) × (length bytes ≤ most_bytes) × (read_case bytes ≡ Is k)
      → IsBuildAnswer stage b ShowsCase (Prints bytes)
  case_prints stage bytes x = printed x.0 x.1 stage bytes x.2 x.3 x.4

  -- what was not has too many bytes
  pub case_is_big : IsRegion s.region → (stage : Stage) → IsTrue stage.counts_bytes
      → (k : CaseDocument) × IsWrittenFrom s.region case k × (most_bytes < length (case_bytes k)) × (document_of Json (case_bytes k) ≡ Some (of_json (case_data k)))
      → IsBuildAnswer stage b ShowsCase (refusal (BigCase false))
  case_is_big region stage counts x = too_long x.0 x.1 stage counts x.2 (written_case_reads s.region case x.0 region case_keeps_rules (each_by IsLiveHere (λ c. c.0 < length s.region.nodes + 2) (λ c l. l.there) (conditions_in case) each_live) x.1 x.3)
