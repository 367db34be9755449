-- Two tidy cases of one bundle tell the same systems in the same order, and their findings the same checks.
use Rattle.std.proofs.Common.{◌≡◌, ◌≢◌, ℕ, List, map, length, not, Some, None, Option, refl, sym, ap, ◌∙◌, subst, arith}
use Rattle.std.specs.Prelude.{option_map}
use Rattle.std.specs.List.{slice_get}
use Rattle.std.proofs.lemmas.List.{length-map}
use Rattle.std.proofs.lemmas.Option.{slice_get-map, slice_get_within}
use Rattle.meaning.specs.Models.{System}
use Rattle.meaning.specs.CaseFiles.{CaseDocument, CaseNode, CaseSystem, Finding, holds, node_at_world}
use Rattle.meaning.specs.Derivation.{Bundle}
use Rattle.meaning.specs.Evidence.{system_number}
use Rattle.meaning.specs.Tidy.{Tidy, TidySystem, IsChecked, element_of_check, name_of_element, reachable_at, goes_back_at}
use Rattle.meaning.proofs.Members.{Member, Pairwise, mapped_member, member_of_contains, contains_member, member_at, member_mapped, one_place}
use Rattle.meaning.proofs.EqualityTests.{none_is_some, some_is}
use Rattle.meaning.proofs.ReducedTables.{slice_there}
use Rattle.meaning.proofs.PairedLists.{Paired, paired_by_place, paired_place, paired_with, paired_of_maps}
use Rattle.meaning.proofs.LikeDocuments.{SystemLike}
use Rattle.meaning.proofs.OnceLists.{HasAllOf, among_same, among_pairs, one_of_name}
use Rattle.meaning.proofs.TidySights.{HasProperNames, Sight, sight_of_node, sight_seen}
use Rattle.meaning.proofs.TwinNodes.{AgreeWhereValid, Twins, twins, each_own, place_of_member}
use Rattle.meaning.proofs.ToldChecks.{Told, told_same, OfElement, of_element, SystemAt, system_at, Checked, finding_checked}

-- ---- findings of twins

module _ (b : Bundle) (k o : CaseDocument) (first : Tidy k b) (second : Tidy o b) (n m : CaseNode) (t : Twins b k o n m) where
  -- both have a finding, or none has
  pub finding_of_twin : (f : Finding) → n.finding ≡ Some f → (g : Finding) × (m.finding ≡ Some g)
  finding_of_twin f e = go m.finding refl (sym (ap (option_map (λ f. not (holds k s.world f.refuted))) e) ∙ ap (λ x. x.verdict) both)
    where
      s : Sight b n.key
      s = sight_of_node b k first n t.here

      both : node_at_world k s.world n ≡ node_at_world o s.world m
      both = t.same s.world s.valid (sight_seen b k first n.key s n t.here refl).0

      go : (x : Option Finding) → m.finding ≡ x → Some (not (holds k s.world f.refuted)) ≡ option_map (λ f. not (holds o s.world f.refuted)) x → (g : Finding) × (m.finding ≡ Some g)
      go None g h = elim (none_is_some _ (sym h)) [ ]
      go (Some x) g h = (x, g)

  -- what both findings tell is of one check
  pub record TwinChecks (f g : Finding) : Type 0 where
    pub sight : Sight b n.key
    pub here : Checked b k sight.findings f
    pub there : Checked b o sight.findings g

  pub twin_checks : (f g : Finding) → n.finding ≡ Some f → m.finding ≡ Some g → TwinChecks f g
  twin_checks f g e h =
      let s : Sight b n.key = sight_of_node b k first n t.here in
      record { sight = s; here = finding_checked b k first n.key s n t.here refl f e; there = finding_checked b o second n.key s m t.there (sym t.key) g h }

  -- so of one check, the other finding tells it too
  pub told_by_twin : (f g : Finding) (c : TwinChecks f g) → Told b o c.sight.findings.system c.here.check g.check
  told_by_twin f g c = subst (λ x. Told b o c.sight.findings.system x g.check) (some_is c.there.check c.here.check (sym c.there.is ∙ c.here.is)) c.there.tells

-- ---- the systems

module _ (b : Bundle) (proper : HasProperNames b) where
  pub elements_differ : (k : CaseDocument) → Tidy k b → Pairwise (λ s t. s ≢ t) (map (λ x. x.element) k.systems)
  elements_differ k tidy = among_pairs (λ s t. s ≢ t) tidy.systems_in_order proper.owners

  other_has_elements : (k o : CaseDocument) → Tidy k b → Tidy o b → HasAllOf (map (λ x. x.element) o.systems) (map (λ x. x.element) k.systems)
  other_has_elements k o first second name given = of_system system.0 system.1 system.2
    where
      system : (x : CaseSystem) × Member x k.systems × (x.element ≡ name)
      system = mapped_member (λ x. x.element) name k.systems given

      of_finding : (i : ℕ) (x : CaseSystem) → slice_get k.systems i ≡ Some x → (n m : CaseNode) (t : Twins b k o n m) (f g : Finding) → n.finding ≡ Some f → m.finding ≡ Some g
          → system_number f.check ≡ Some i → Member x.element (map (λ x. x.element) o.systems)
      of_finding i x e n m t f g told also about =
          subst (λ s. Member s (map (λ x. x.element) o.systems)) (there.named ∙ sym here.named ∙ ap (λ x. x.element) (some_is here.system x (sym here.stands ∙ e)))
          (member_mapped (λ x. x.element) there.system o.systems (member_at o.systems other.system there.system there.stands))
        where
          c : TwinChecks b k o first second n m t f g
          c = twin_checks b k o first second n m t f g told also

          own : Told b k c.sight.findings.system c.here.check f.check
          own = c.here.tells

          other : Told b o c.sight.findings.system c.here.check g.check
          other = told_by_twin b k o first second n m t f g c

          element : (own.system ≡ i) × OfElement b c.sight.findings.system c.here.check
          element = of_element b c.sight.findings.system c.here.check c.here.element own.system i (sym (ap system_number own.is) ∙ about)

          here : SystemAt b k i element.1.number
          here = system_at b k i element.1.number (ap (element_of_check b k) (sym element.0) ∙ element.1.property_of k own.system own.about)

          there : SystemAt b o other.system element.1.number
          there = system_at b o other.system element.1.number (element.1.property_of o other.system other.about)

      of_node : (i : ℕ) (x : CaseSystem) → slice_get k.systems i ≡ Some x → (c : IsChecked k i) (m : CaseNode) → Twins b k o c.node m → Member x.element (map (λ x. x.element) o.systems)
      of_node i x e c m t =
          let g : (g : Finding) × (m.finding ≡ Some g) = finding_of_twin b k o first second c.node m t c.finding c.told in
          of_finding i x e c.node m t c.finding g.0 c.told g.1 c.about

      of_system : (x : CaseSystem) → Member x k.systems → x.element ≡ name → Member name (map (λ x. x.element) o.systems)
      of_system x m e =
          let place : (i : ℕ) × (slice_get k.systems i ≡ Some x) = place_of_member k.systems x m in
          let checked : IsChecked k place.0 = first.systems_of_findings place.0 x place.1 in
          let at : (i : ℕ) × (slice_get k.nodes i ≡ Some checked.node) = place_of_member k.nodes checked.node (member_of_contains checked.node k.nodes checked.stands) in
          let twin : (m : CaseNode) × (slice_get o.nodes at.0 ≡ Some m) × Twins b k o checked.node m = paired_place (Twins b k o) k.nodes o.nodes (twins b proper k o first second) at.0 checked.node at.1 in
          subst (λ s. Member s (map (λ x. x.element) o.systems)) e (of_node place.0 x place.1 checked twin.0 twin.2)

  module _ (k o : CaseDocument) (first : Tidy k b) (second : Tidy o b) where
    pub elements_same : map (λ x. x.element) k.systems ≡ map (λ x. x.element) o.systems
    elements_same =
        among_same (map (λ s. name_of_element b s.element) b.model.systems) proper.owners _ _ first.systems_in_order second.systems_in_order
        (other_has_elements k o first second) (other_has_elements o k second first)

    -- both number a system alike
    pub number_same : (s t e : ℕ) → element_of_check b k s ≡ Some e → element_of_check b o t ≡ Some e → s ≡ t
    number_same s t e g h =
        let here : SystemAt b k s e = system_at b k s e g in
        let there : SystemAt b o t e = system_at b o t e h in
        one_place (map (λ x. x.element) k.systems) (elements_differ k first) s t (name_of_element b e)
        (slice_get-map (λ x. x.element) k.systems s ∙ ap (option_map (λ x. x.element)) here.stands ∙ ap Some here.named)
        (ap (λ xs. slice_get xs t) elements_same ∙ slice_get-map (λ x. x.element) o.systems t ∙ ap (option_map (λ x. x.element)) there.stands ∙ ap Some there.named)

    -- so what they tell of one check is one
    pub checks_same : (n m : CaseNode) (t : Twins b k o n m) (f g : Finding) → n.finding ≡ Some f → m.finding ≡ Some g → f.check ≡ g.check
    checks_same n m t f g e h =
        let c : TwinChecks b k o first second n m t f g = twin_checks b k o first second n m t f g e h in
        told_same b k o c.sight.findings.system c.here.check f.check g.check c.here.element number_same c.here.tells (told_by_twin b k o first second n m t f g c)

    module _ (x y : CaseSystem) (same : x.element ≡ y.element) (s : TidySystem b k x) (t : TidySystem b o y) where
      one_system : s.system ≡ t.system
      one_system =
          one_of_name (λ s. name_of_element b s.element) b.model.systems proper.owners s.system t.system
          (member_of_contains s.system b.model.systems s.stands) (member_of_contains t.system b.model.systems t.stands)
          (sym s.table.0 ∙ same ∙ t.table.0)

      transitions_same : x.transitions ≡ y.transitions
      transitions_same = s.table.2 ∙ ap (λ (z : System). map (λ t. (t.source, t.target, t.action)) z.transitions) one_system ∙ sym t.table.2

      reached_agree : (i id partner : ℕ) → slice_get x.reached i ≡ Some id → slice_get y.reached i ≡ Some partner → AgreeWhereValid b k o id partner
      reached_agree i id partner e f w v = s.reached i id e w v ∙ ap (λ (z : System). reachable_at b z.element i w) one_system ∙ sym (t.reached i partner f w v)

      transition_there : (i id : ℕ) → slice_get x.parents i ≡ Some id → (r : ℕ × ℕ × List ℕ) × (slice_get x.transitions i ≡ Some r)
      transition_there i id e =
          slice_there x.transitions i
          (omega (arith, slice_get_within x.parents i id e, s.one_for_each_transition, ap length s.table.2, length-map {B = ℕ × ℕ × List ℕ} s.system.transitions (λ t. (t.source, t.target, t.action))))

      parents_agree : (i id partner : ℕ) → slice_get x.parents i ≡ Some id → slice_get y.parents i ≡ Some partner → AgreeWhereValid b k o id partner
      parents_agree i id partner e f w v =
          let r : (r : ℕ × ℕ × List ℕ) × (slice_get x.transitions i ≡ Some r) = transition_there i id e in
          s.parents i id r.0 e r.1 w v ∙ ap (λ (z : System). goes_back_at b z.element i r.0.1 w) one_system
          ∙ sym (t.parents i partner r.0 f (ap (λ ts. slice_get ts i) (sym transitions_same) ∙ r.1) w v)

      pub system_like : SystemLike (AgreeWhereValid b k o) x y
      system_like = record {
        element = same;
        states = s.table.1 ∙ ap (λ (z : System). map (λ q. q.name) z.states) one_system ∙ sym t.table.1;
        reached =
            paired_by_place (AgreeWhereValid b k o) x.reached y.reached
            (s.one_for_each_state ∙ ap (λ (z : System). length z.states) one_system ∙ sym t.one_for_each_state) reached_agree;
        transitions = transitions_same;
        parents =
            paired_by_place (AgreeWhereValid b k o) x.parents y.parents
            (s.one_for_each_transition ∙ ap (λ (z : System). length z.transitions) one_system ∙ sym t.one_for_each_transition) parents_agree;
      }

    pub systems_like : Paired (SystemLike (AgreeWhereValid b k o)) k.systems o.systems
    systems_like =
        paired_with (λ x. Member x k.systems) (λ y. Member y o.systems) (λ x y. x.element ≡ y.element) (SystemLike (AgreeWhereValid b k o))
        (λ x y here there e. system_like x y e (first.systems x (contains_member x k.systems here)) (second.systems y (contains_member y o.systems there)))
        k.systems o.systems (each_own k.systems) (each_own o.systems) (paired_of_maps (λ x. x.element) (λ y. y.element) k.systems o.systems elements_same)
