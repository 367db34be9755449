-- A lifted instance over the diagrams of a line's valid worlds, written as a document, is a lifted case of the bundle.
use Rattle.std.proofs.Common.{◌≡◌, ◌≢◌, ℕ, zero, suc, List, [], ◌∷◌, ◌++◌, map, length, Bool, true, false, Some, refl, sym, ap, ◌∙◌, subst}
use Rattle.std.specs.Prelude.{cond, option_map, Contains, IsTrue, IsFalse}
use Rattle.std.specs.List.{AllByRecursion, slice_get}
use Rattle.std.proofs.lemmas.List.{length-map}
use Rattle.std.proofs.lemmas.List.Elements.{recursion_from_All}
use Rattle.node_pool.specs.declared.node.NodeNo.{NodeNo}
use Rattle.worlds.specs.Algebra.{Algebra}
use Rattle.path_queries.specs.Answering.{Somewhere, tuples_of}
use Rattle.meaning.specs.Texts.{flat}
use Rattle.meaning.specs.Features.{feature_names, is_valid}
use Rattle.meaning.specs.Models.{model_at}
use Rattle.meaning.specs.CaseFiles.{CaseDocument, CaseRelation, CaseSystem, Row, holds}
use Rattle.meaning.specs.TableOrder.{conditions_of}
use Rattle.meaning.specs.Templates.{instance}
use Rattle.meaning.specs.Derivation.{Bundle}
use Rattle.meaning.specs.Tidy.{Among, ValidWorld, is_before, possible_keys, presence_of, name_of_element}
use Rattle.meaning.proofs.CutTrees.{Each, tree_map}
use Rattle.meaning.proofs.CutCases.{case_tree, plain_relation}
use Rattle.meaning.proofs.EachMembers.{each_by}
use Rattle.meaning.proofs.MappedLists.{map_of_map}
use Rattle.lifted_case.specs.declared.lifted.Lifted.{Lifted}
use Rattle.lifted_case.specs.CaseWritten.{document_with, node_with, relation_with, system_with, finding_with, conditions_of_node, conditions_in}
use Rattle.lifted_case.proofs.CaseReadable.{each_split, each_flat, each_in_map}
use Rattle.lifting.specs.Lifting.{Lifts}
use Rattle.lifting.specs.LiftedCases.{Noted as CaseNoted, there_in, seen_in, noted_tree, IsLiftedNode, IsLiftedCase}
use Rattle.lifting.specs.Noted.{Noted, note_key, there_at, Stands}
use Rattle.lifting.specs.LiftedInstances.{IsLiftedInstance, tree_of}
use Rattle.lifting.specs.RootedTrees.{IsRooted}
use Rattle.lifting.proofs.MappedTrees.{rooted_mapped}
use Rattle.meaning.proofs.Lists.{each_of_all, each_two}
use Rattle.meaning.proofs.EqualityTests.{none_is_some, some_is}
use Rattle.meaning.proofs.Pairs.{pairs_by, each_of_map}
use Rattle.meaning.proofs.AscendingTuples.{pairs_from_ascend, before_differ}
use Rattle.lifting.proofs.AmongLists.{among_nothing}
use Rattle.meaning.proofs.Members.{member_of_contains, member_each}
use Rattle.lifting.proofs.HeldValues.{those_held, branches_from_lists}
use Rattle.lifting.proofs.WrittenNotes.{HaveAll, have_all, IsExactAt, same_there, held, written_nodes, written_lifts, written_targets}

-- each condition of a case, in the order of its document: those of the nodes
pub each_of_nodes : {C : Type 0} (P : C → Type 0) (case : Lifted C) → Each P (conditions_in case) → Each (λ n. Each P (conditions_of_node n)) case.nodes
each_of_nodes P case h =
    each_flat P conditions_of_node case.nodes
    (each_split P (flat conditions_of_node case.nodes) (map (λ r. r.when) case.relations)
    (each_split P (flat conditions_of_node case.nodes ++ map (λ r. r.when) case.relations) _ h.1).0).0

-- ---- what the written document tells: each condition of the case has an identifier that holds where the condition does

module _ (b : Bundle) (a : Algebra NodeNo) (case : Lifted NodeNo) (id : NodeNo → ℕ) (rows : List Row)
    (worlds : (w : List Bool) → IsTrue (is_valid b.line w) → a.is_world w ≡ true)
    (valid_worlds : (w : List Bool) → a.is_world w ≡ true → IsTrue (is_valid b.line w))
    (exact : Each (λ c. (w : List Bool) → IsTrue (is_valid b.line w) → holds (document_with id rows case) w (id c) ≡ a.holds c w) (conditions_in case))
    (h : IsLiftedInstance a b.title (feature_names b.line) b.model b.templates case) where
  abbrev k : CaseDocument
  k = document_with id rows case

  abbrev case_note : Noted NodeNo → CaseNoted
  case_note n = (node_with id n.0, n.1.told)

  -- the identifier of a condition is exact
  abbrev IsExact : NodeNo → Type 0
  IsExact c = (w : List Bool) → IsTrue (is_valid b.line w) → holds (document_with id rows case) w (id c) ≡ a.holds c w

  abbrev IsKnown : Noted NodeNo → Type 0
  IsKnown n = Stands a n × HaveAll IsExact n

  each_known : Each IsKnown h.notes
  each_known =
      each_by (λ n. Stands a n × Each IsExact (conditions_of_node n.0)) IsKnown (λ n s. (s.0, have_all IsExact a n s.0 s.1)) h.notes
      (each_two (Stands a) (λ n. Each IsExact (conditions_of_node n.0)) h.notes h.nodes
      (each_in_map (λ n. Each IsExact (conditions_of_node n)) (λ n. n.0) h.notes
      (subst (Each (λ n. Each IsExact (conditions_of_node n))) (sym h.of_nodes) (each_of_nodes IsExact case exact))))

  module _ (w : List Bool) (v : IsTrue (is_valid b.line w)) where
    exact_here : (n : Noted NodeNo) → HaveAll IsExact n → HaveAll (IsExactAt a case id rows w w (worlds w v)) n
    exact_here n e = record { when = e.when w v; rows = each_by (λ r. IsExact r.1) (λ r. IsExactAt a case id rows w w (worlds w v) r.1) (λ r x. x w v) n.1.rows e.rows }

    lifts_here : Lifts (there_in k w) (seen_in k w) (noted_tree k (map case_note h.notes)) true (instance (length b.model.labels) (model_at b.model w) b.templates)
    lifts_here =
        written_lifts a case id rows w w (worlds w v) (λ n. n.1.told) (λ n. refl) h.notes
        (each_by IsKnown _ (λ n s. (s.0, exact_here n s.1)) h.notes each_known) (instance (length b.model.labels) (model_at b.model w) b.templates) (h.lifts w (worlds w v))

  rooted : IsRooted (λ n. n.key) (case_tree k)
  rooted =
      subst (λ t. IsRooted (λ n. n.key) t) same
      (rooted_mapped (λ n. node_with id n.0) note_key (λ n. n.key) (tree_of h.notes case.relations) (each_of_all _ (λ n. refl) h.notes) h.rooted)
    where
      same : tree_map (λ n. node_with id n.0) (tree_of h.notes case.relations) ≡ case_tree k
      same = rw (sym (map_of_map (node_with id) (λ n. n.0) h.notes), h.of_nodes, map_of_map plain_relation (relation_with id) case.relations) refl

  keys_are : Among (map (λ n. n.key) k.nodes) (possible_keys b)
  unfolding possible_keys
  keys_are = subst (λ ks. Among ks (possible_keys b)) (sym (map_of_map (λ n. n.key) (λ n. n.0) h.notes) ∙ ap (map (λ n. n.key)) h.of_nodes ∙ sym (map_of_map (λ n. n.key) (node_with id) case.nodes)) h.keys

  -- ---- a node

  module _ (n : Noted NodeNo) (s : IsKnown n) where
    abbrev ids : List ℕ
    ids = map id n.0.branches

    ids_of_rows : ids ≡ map (λ r. id r.1) n.1.rows
    ids_of_rows = ap (map id) s.0.branches ∙ map_of_map id (λ r. r.1) n.1.rows

    there_is : (w : List Bool) (v : IsTrue (is_valid b.line w)) → there_in k w (case_note n) ≡ there_at w n
    there_is w v = same_there a case id rows w w (worlds w v) n s.0 (exact_here w v n s.1)

    held_here : (w : List Bool) → IsTrue (is_valid b.line w) → those_held (holds k w) (tuples_of n.1.rows) ids ≡ cond (there_in k w (case_note n)) (n.1.told w).branches []
    held_here w v = held a case id rows w w (worlds w v) n s.0 (exact_here w v n s.1)

    -- a condition of a row holds at a valid world
    somewhere : (c : NodeNo) → IsExact c → Somewhere a c → (w : ValidWorld b) × IsTrue (holds k w.0 (id c))
    somewhere c x o = ((o.0, valid_worlds o.0 o.1), x o.0 (valid_worlds o.0 o.1) ∙ o.2)

    each_somewhere : (i j : ℕ) → slice_get ids i ≡ Some j → (w : ValidWorld b) × IsTrue (holds k w.0 j)
    each_somewhere i j e = go n.1.rows i s.1.rows (recursion_from_All (λ r. Somewhere a r.1) n.1.rows s.0.branches_occur) (ap (λ js. slice_get js i) (sym ids_of_rows) ∙ e)
      where
        go : (rs : List (List ℕ × NodeNo)) (i : ℕ) → Each (λ r. IsExact r.1) rs → AllByRecursion (λ r. Somewhere a r.1) rs → slice_get (map (λ r. id r.1) rs) i ≡ Some j → (w : ValidWorld b) × IsTrue (holds k w.0 j)
        go [] i l o e = elim (none_is_some j e) [ ]
        go (r ∷ rs) zero l o e = let found : (w : ValidWorld b) × IsTrue (holds k w.0 (id r.1)) = somewhere r.1 l.0 o.0 in (found.0, ap (holds k found.0.0) (sym (some_is (id r.1) j e)) ∙ found.1)
        go (r ∷ rs) (suc i) l o e = go rs i l.1 o.1 e

    lifted_node : IsLiftedNode b k (case_note n)
    lifted_node = record {
      occurs = somewhere n.0.when s.1.when s.0.occurs;
      parts = λ w v there. s.0.parts w (worlds w v) (sym (there_is w v) ∙ there);
      answers = tuples_of n.1.rows;
      answers_ascend = s.0.branches_ascend;
      branches =
          branches_from_lists b k (case_note n) (tuples_of n.1.rows) ids (ap length ids_of_rows ∙ length-map n.1.rows (λ r. id r.1) ∙ sym (length-map n.1.rows (λ r. r.0)))
          (pairs_by is_before (λ u v. u ≢ v) before_differ (tuples_of n.1.rows) (pairs_from_ascend (tuples_of n.1.rows) s.0.branches_ascend))
          held_here each_somewhere;
      finding = λ f e. elim (none_is_some f (sym (ap (option_map (finding_with id)) s.0.unchecked) ∙ e)) [ ];
    }

  -- ---- the case

  nodes_lifted : Each (IsLiftedNode b k) (map case_note h.notes)
  nodes_lifted = each_of_map (IsLiftedNode b k) case_note h.notes (each_by IsKnown (λ n. IsLiftedNode b k (case_note n)) lifted_node h.notes each_known)

  -- a relation has the identifier of its target
  target_is : (r : CaseRelation) → Contains k.relations r → r.presence ≡ presence_of k r.target
  target_is r c = member_each (λ r. r.presence ≡ presence_of k r.target) k.relations (written_targets case id rows h.notes h.of_nodes h.rooted.targets h.relations_with_targets) r (member_of_contains r k.relations c)

  -- beyond the valid worlds no condition holds
  pub instance_is_case : ((w : List Bool) → length w ≡ length k.features → holds k w k.valid ≡ is_valid b.line w)
      → ((j : ℕ) → Contains (conditions_of k) j → (w : List Bool) → length w ≡ length k.features → IsFalse (is_valid b.line w) → holds k w j ≡ false)
      → IsLiftedCase k b
  instance_is_case valid nowhere = record {
    title = h.title;
    features = h.features;
    valid = valid;
    nowhere_else = nowhere;
    notes = map case_note h.notes;
    of_nodes = written_nodes case id rows h.notes h.of_nodes (λ n. n.1.told);
    lifts = lifts_here;
    rooted = rooted;
    keys = keys_are;
    nodes = nodes_lifted;
    relations_with_targets = λ r c w l. ap (holds k w) (target_is r c);
    systems = λ x c. elim (no_system x c) [ ];
    systems_in_order = subst (λ ss. Among (map (λ x. x.element) (map (system_with id) ss)) (map (λ s. name_of_element b s.element) b.model.systems)) (sym h.systems) (among_nothing (map (λ s. name_of_element b s.element) b.model.systems));
    systems_of_findings = λ i x e. elim (none_is_some x (ap (λ ss. slice_get (map (system_with id) ss) i) (sym h.systems) ∙ e)) [ ];
  }
    where
      no_system : (x : CaseSystem) → Contains k.systems x → ⊥
      no_system x c = member_of_contains x [] (subst (λ ss. Contains (map (system_with id) ss) x) h.systems c)
