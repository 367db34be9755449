-- From a lifted case every configuration gets what the bundle gives it, and its bytes are a build.
use Rattle.std.proofs.Common.{◌≡◌, ℕ, ◌^◌, ◌≤◌, List, length, Bool, true, false, refl, ap, ◌∙◌}
use Rattle.meaning.specs.Documents.{Form}
use Rattle.meaning.specs.Features.{feature_names, is_valid}
use Rattle.meaning.specs.Cases.{text_of_case}
use Rattle.meaning.specs.CaseFiles.{CaseDocument, CaseNode, Finding, cut}
use Rattle.meaning.specs.CaseReading.{Is, read_case}
use Rattle.meaning.specs.CaseBytes.{case_bytes}
use Rattle.meaning.specs.Configurations.{configuration_of}
use Rattle.meaning.specs.TableOrder.{IsTableInOrder}
use Rattle.meaning.specs.Derivation.{Bundle, case_at, direct, derived, derived_from, derived_at, direct_at, at_world, if_valid, Text, DerivesAsDirect}
use Rattle.meaning.specs.Tidy.{Tidy}
use Rattle.meaning.specs.Headline.{IsBuildOf, IsSystemVerdict, InvariantAccepted, RefutationReplays}
use Rattle.meaning.specs.Evidence.{system_number}
use Rattle.meaning.proofs.ConfiguredWorlds.{configured_world, same_answers}
use Rattle.lifting.specs.LiftedCases.{IsLiftedCase}
use Rattle.meaning.proofs.KeysDiffer.{AreFew}
use Rattle.lifting.proofs.LiftedTidy.{lifted_is_tidy}
use Rattle.meaning.proofs.EqualityTests.{not_both}
use Rattle.std.specs.Prelude.{Some, None, Contains, is_some}

-- ---- the law, of any tidy case

module _ (k : CaseDocument) (b : Bundle) (h : Tidy k b) where
  -- at one world
  pub tidy_derives_as_direct : (w : List Bool) → length w ≡ length k.features → derived_at k w ≡ direct_at b w
  tidy_derives_as_direct w l = ap (λ v. if_valid v (text_of_case (cut k w) k.title k.features w)) (h.valid w l) ∙ go (is_valid b.line w) refl
    where
      go : (v : Bool) → is_valid b.line w ≡ v → if_valid v (text_of_case (cut k w) k.title k.features w) ≡ if_valid v (text_of_case (case_at b w) b.title (feature_names b.line) w)
      go true e =
          ap Text
          (ap (λ c. text_of_case c k.title k.features w) (h.cuts w e)
          ∙ ap (λ t. text_of_case (case_at b w) t k.features w) h.title
          ∙ ap (λ fs. text_of_case (case_at b w) b.title fs w) h.features)
      go false e = refl

  -- for every configuration
  pub tidy_derives : (form : Form) (configuration : List ℕ) → derived_from (Is k) form configuration ≡ direct b form configuration
  unfolding direct
  tidy_derives form configuration =
      same_answers (configuration_of k.features form configuration) (derived_at k) (direct_at b)
      (λ w e. tidy_derives_as_direct w (configured_world k.features w form configuration e))
      ∙ ap (λ fs. at_world (configuration_of fs form configuration) (direct_at b)) h.features

  -- from the bytes on
  pub tidy_bytes_derive : (bytes : List ℕ) → read_case bytes ≡ Is k → DerivesAsDirect bytes b
  unfolding derived
  tidy_bytes_derive bytes reads form configuration = ap (λ r. derived_from r form configuration) reads ∙ tidy_derives form configuration

-- ---- a case without system checks has no verdict that needs evidence

module _ (k : CaseDocument) (b : Bundle) (none_of_systems : (n : CaseNode) (f : Finding) → Contains k.nodes n → n.finding ≡ Some f → system_number f.check ≡ None) where
  no_system_verdict : (w : List Bool) (n : CaseNode) (f : Finding) → IsSystemVerdict b k w n f → ⊥
  no_system_verdict w n f v = not_both (is_some (system_number f.check)) v.of_system (ap is_some (none_of_systems n f v.stands v.told))

  pub nothing_to_accept : InvariantAccepted b k
  nothing_to_accept w n f v e = elim (no_system_verdict w n f v) [ ]

  pub nothing_to_replay : RefutationReplays b k
  nothing_to_replay w n f v e = elim (no_system_verdict w n f v) [ ]

-- ---- of a lifted case

module _ (k : CaseDocument) (b : Bundle) (few_elements : length b.model.elements ≤ 2 ^ 64) (few_nodes : AreFew b.templates) (h : IsLiftedCase k b) where
  pub lifted_derives : (form : Form) (configuration : List ℕ) → derived_from (Is k) form configuration ≡ direct b form configuration
  lifted_derives form configuration = tidy_derives k b (lifted_is_tidy k b few_elements few_nodes h) form configuration

  pub lifted_bytes_derive : (bytes : List ℕ) → read_case bytes ≡ Is k → DerivesAsDirect bytes b
  lifted_bytes_derive bytes reads = tidy_bytes_derive k b (lifted_is_tidy k b few_elements few_nodes h) bytes reads

  -- all that a build promises, where the bytes read back, the table is in order and the verdicts carry their evidence
  pub lifted_is_build : read_case (case_bytes k) ≡ Is k → IsTableInOrder k → InvariantAccepted b k → RefutationReplays b k → IsBuildOf (case_bytes k) b
  lifted_is_build reads in_order accepted replays = record {
    document = k;
    written = refl;
    reads = reads;
    table_in_order = in_order;
    tidy = lifted_is_tidy k b few_elements few_nodes h;
    derives = lifted_bytes_derive (case_bytes k) reads;
    supported = accepted;
    refuted = replays;
  }
