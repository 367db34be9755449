-- Two tidy cases of one bundle differ in their identifiers and tables alone.
use Rattle.std.proofs.Common.{◌≡◌, ℕ, List, map, Bool, Some, None, Option, refl, sym, ap, ◌∙◌, subst}
use Rattle.std.specs.Prelude.{option_map}
use Rattle.meaning.specs.CaseFiles.{CaseDocument, CaseNode, Finding, node_at_world}
use Rattle.meaning.specs.Derivation.{Bundle}
use Rattle.meaning.specs.Tidy.{Tidy, TidyNode, TidyFinding, AreConditionsOf, findings_at, node_with_key, has_branch, has_last, has_first, is_refuted_there, names_of_tuple}
use Rattle.meaning.proofs.Members.{contains_member}
use Rattle.meaning.proofs.EqualityTests.{none_is_some}
use Rattle.meaning.proofs.ReadCases.{IsRead}
use Rattle.meaning.proofs.PairedLists.{Paired, paired_by}
use Rattle.meaning.proofs.LikeDocuments.{EntryLike, FindingLike, FindingsLike, NodeLike, DocumentLike}
use Rattle.meaning.proofs.TidySights.{HasProperNames, Sight, sight_of_node, sight_seen}
use Rattle.meaning.proofs.TwinNodes.{AgreeWhereValid, Twins, twins, conditions_agree, tuples_agree, numbers_agree, entries_like}
use Rattle.meaning.proofs.TwinSystems.{finding_of_twin, checks_same, systems_like}
use Rattle.meaning.proofs.TwinRelations.{relations_like, long_enough}

module _ (b : Bundle) (proper : HasProperNames b) (k o : CaseDocument) (first : Tidy k b) (second : Tidy o b) where
  abbrev Agree : ℕ → ℕ → Type 0
  Agree = AgreeWhereValid b k o

  turned : (n m : CaseNode) → Twins b k o n m → Twins b o k m n
  turned n m t = record {
    key = sym t.key;
    presence = λ w v. sym (t.presence w v);
    same = λ w v e. sym (t.same w v (t.presence w v ∙ e));
    here = t.there;
    there = t.here;
  }

  module _ (n m : CaseNode) (t : Twins b k o n m) where
    here : TidyNode b k n
    here = first.nodes n (contains_member n k.nodes t.here)

    there : TidyNode b o m
    there = second.nodes m (contains_member m o.nodes t.there)

    branches_agree : Paired Agree n.branches m.branches
    branches_agree =
        conditions_agree b k o (λ w t. has_branch t (findings_at b w n.key)) here.answers there.answers n.branches m.branches here.branches same
        (tuples_agree b k o (λ w t. has_branch t (findings_at b w n.key)) here.answers there.answers n.branches m.branches here.answers_ascend there.answers_ascend here.branches same)
      where
        same : AreConditionsOf o b (λ w t. has_branch t (findings_at b w n.key)) there.answers m.branches
        same = subst (λ key. AreConditionsOf o b (λ w t. has_branch t (findings_at b w key)) there.answers m.branches) (sym t.key) there.branches

    module _ (f g : Finding) (e : n.finding ≡ Some f) (h : m.finding ≡ Some g) where
      of_first : TidyFinding b k n f
      of_first = here.finding f e

      of_second : TidyFinding b o m g
      of_second = there.finding g h

      targets_like : Paired (EntryLike Agree) f.targets g.targets
      targets_like = entries_like Agree f.targets g.targets equal (conditions_agree b k o occurs (map (λ t. t.0) f.targets) (map (λ t. t.0) g.targets) (map (λ t. t.1) f.targets) (map (λ t. t.1) g.targets) of_first.targets same equal)
        where
          occurs : List Bool → ℕ → Bool
          occurs w s = has_last s (findings_at b w n.key)

          same : AreConditionsOf o b occurs (map (λ t. t.0) g.targets) (map (λ t. t.1) g.targets)
          same = subst (λ key. AreConditionsOf o b (λ w s. has_last s (findings_at b w key)) (map (λ t. t.0) g.targets) (map (λ t. t.1) g.targets)) (sym t.key) of_second.targets

          equal : map (λ t. t.0) f.targets ≡ map (λ t. t.0) g.targets
          equal = numbers_agree b k o occurs f.targets g.targets of_first.targets_ascend of_second.targets_ascend of_first.targets same

      witnesses_like : Paired (EntryLike Agree) f.witnesses g.witnesses
      witnesses_like =
          entries_like Agree f.witnesses g.witnesses (of_first.witnesses_named ∙ ap (map (names_of_tuple b)) equal ∙ sym of_second.witnesses_named)
          (conditions_agree b k o occurs of_first.tuples_of_witnesses of_second.tuples_of_witnesses (map (λ x. x.1) f.witnesses) (map (λ x. x.1) g.witnesses) of_first.witnesses same equal)
        where
          occurs : List Bool → List ℕ → Bool
          occurs w t = has_first t (findings_at b w n.key)

          same : AreConditionsOf o b occurs of_second.tuples_of_witnesses (map (λ x. x.1) g.witnesses)
          same = subst (λ key. AreConditionsOf o b (λ w t. has_first t (findings_at b w key)) of_second.tuples_of_witnesses (map (λ x. x.1) g.witnesses)) (sym t.key) of_second.witnesses

          equal : of_first.tuples_of_witnesses ≡ of_second.tuples_of_witnesses
          equal = tuples_agree b k o occurs _ _ (map (λ x. x.1) f.witnesses) (map (λ x. x.1) g.witnesses) of_first.witnesses_ascend of_second.witnesses_ascend of_first.witnesses same

      finding_like : FindingLike Agree f g
      finding_like = record {
        check = checks_same b proper k o first second n m t f g e h;
        refuted = λ w v. of_first.refuted w v ∙ ap (λ key. is_refuted_there (node_with_key b w key)) t.key ∙ sym (of_second.refuted w v);
        targets = targets_like;
        witnesses = witnesses_like;
      }

    findings_like : FindingsLike Agree n.finding m.finding
    findings_like = go n.finding m.finding refl refl
      where
        go : (x y : Option Finding) → n.finding ≡ x → m.finding ≡ y → FindingsLike Agree x y
        go None None e h = tt
        go None (Some g) e h =
            let f : (f : Finding) × (n.finding ≡ Some f) = finding_of_twin b o k second first m n (turned n m t) g h in
            elim (none_is_some f.0 (sym e ∙ f.1)) [ ]
        go (Some f) None e h =
            let g : (g : Finding) × (m.finding ≡ Some g) = finding_of_twin b k o first second n m t f e in
            elim (none_is_some g.0 (sym h ∙ g.1)) [ ]
        go (Some f) (Some g) e h = finding_like f g e h

    node_like : NodeLike Agree n m
    node_like = record {
      key = t.key;
      kind = ap (λ x. x.kind) both;
      parts = here.parts sight.world sight.valid sight.findings seen ∙ sym (there.parts sight.world sight.valid sight.findings (ap (findings_at b sight.world) (sym t.key) ∙ seen));
      presence = t.presence;
      undeveloped = ap (λ x. x.undeveloped) both;
      branches = branches_agree;
      finding = findings_like;
    }
      where
        sight : Sight b n.key
        sight = sight_of_node b k first n t.here

        seen : findings_at b sight.world n.key ≡ Some sight.findings
        seen = ap (option_map (λ n. n.1)) sight.found

        both : node_at_world k sight.world n ≡ node_at_world o sight.world m
        both = t.same sight.world sight.valid (sight_seen b k first n.key sight n t.here refl).0

  -- they are alike but for their identifiers, which hold at the same valid worlds
  pub documents_like : IsRead k → IsRead o → DocumentLike Agree k o
  documents_like read other_read = record {
    title = first.title ∙ sym second.title;
    features = first.features ∙ sym second.features;
    valid = λ w v. first.valid w (long_enough b k first w v) ∙ sym (second.valid w (long_enough b o second w v));
    nodes = paired_by (Twins b k o) (NodeLike Agree) node_like k.nodes o.nodes (twins b proper k o first second);
    relations = relations_like b proper k o first second read other_read;
    systems = systems_like b proper k o first second;
  }
