-- What the findings of a tidy case tell of the templates' checks.
use Rattle.std.proofs.Common.{◌≡◌, ℕ, suc, ◌+◌, List, [], ◌∷◌, length, true, not, Some, None, Option, refl, sym, ap, ◌∙◌, arith, inl, inr}
use Rattle.std.specs.Prelude.{bytes_eq, find, option_map, option_and_then}
use Rattle.std.specs.List.{slice_get, enumerate_from}
use Rattle.meaning.specs.Texts.{numbered}
use Rattle.meaning.specs.Expressions.{print}
use Rattle.meaning.specs.Models.{Element}
use Rattle.meaning.specs.Systems.{Never, NoDeadlock}
use Rattle.meaning.specs.Templates.{Check, OfSystem, NoAnswer, SomeAnswer, Findings}
use Rattle.meaning.specs.CaseFiles as file
use Rattle.meaning.specs.CaseFiles.{CaseCheck, CaseDocument, CaseNode, CaseSystem, Finding, holds, node_at_world}
use Rattle.meaning.specs.Derivation.{Bundle}
use Rattle.meaning.specs.Evidence.{system_number}
use Rattle.meaning.specs.Tidy.{Tidy, TellsCheck, element_of_check, name_of_element, findings_at, instance_at}
use Rattle.meaning.proofs.Members.{Member, member_each, contains_member}
use Rattle.meaning.proofs.EqualityTests.{equal_texts, none_is_some, some_is}
use Rattle.meaning.proofs.InstanceNodes.{HasElement, TellsCheckOf, verdicts_tell}
use Rattle.meaning.proofs.TidySights.{Sight, sight_in_instance, sight_seen, found_member}
use Rattle.meaning.specs.Models.{model_at}

-- ---- a check as a case tells it, of a system with a number

abbrev pub case_check : Bundle → Check → ℕ → CaseCheck
case_check b (OfSystem (Never e) v) s = file.Never s (print b.model.labels e)
case_check b (OfSystem NoDeadlock v) s = file.NoDeadlock s
case_check b (NoAnswer q) s = file.NoAnswer
case_check b (SomeAnswer q) s = file.SomeAnswer

abbrev pub IsAbout : Bundle → CaseDocument → Option ℕ → Check → ℕ → Type 0
IsAbout b k element (OfSystem p v) s = element_of_check b k s ≡ element
IsAbout b k element (NoAnswer q) s = Unit {0}
IsAbout b k element (SomeAnswer q) s = Unit {0}

pub record Told (b : Bundle) (k : CaseDocument) (element : Option ℕ) (c : Check) (x : CaseCheck) : Type 0 where
  pub system : ℕ
  pub is : x ≡ case_check b c system
  pub about : IsAbout b k element c system

pub told_is : (b : Bundle) (k : CaseDocument) (element : Option ℕ) (c : Check) (x : CaseCheck) → TellsCheck b k element c x → Told b k element c x
told_is b k element (OfSystem (Never e) v) (file.Never s told) h = record { system = s; is = ap (file.Never s) h.0; about = h.1 }
told_is b k element (OfSystem (Never e) v) (file.NoDeadlock s) h = elim h [ ]
told_is b k element (OfSystem (Never e) v) file.NoAnswer h = elim h [ ]
told_is b k element (OfSystem (Never e) v) file.SomeAnswer h = elim h [ ]
told_is b k element (OfSystem NoDeadlock v) (file.Never s told) h = elim h [ ]
told_is b k element (OfSystem NoDeadlock v) (file.NoDeadlock s) h = record { system = s; is = refl; about = h }
told_is b k element (OfSystem NoDeadlock v) file.NoAnswer h = elim h [ ]
told_is b k element (OfSystem NoDeadlock v) file.SomeAnswer h = elim h [ ]
told_is b k element (NoAnswer q) (file.Never s told) h = elim h [ ]
told_is b k element (NoAnswer q) (file.NoDeadlock s) h = elim h [ ]
told_is b k element (NoAnswer q) file.NoAnswer h = record { system = 0; is = refl; about = tt }
told_is b k element (NoAnswer q) file.SomeAnswer h = elim h [ ]
told_is b k element (SomeAnswer q) (file.Never s told) h = elim h [ ]
told_is b k element (SomeAnswer q) (file.NoDeadlock s) h = elim h [ ]
told_is b k element (SomeAnswer q) file.NoAnswer h = elim h [ ]
told_is b k element (SomeAnswer q) file.SomeAnswer h = record { system = 0; is = refl; about = tt }

-- a check with a system has the element that it is of
pub record OfElement (b : Bundle) (element : Option ℕ) (c : Check) : Type 0 where
  pub number : ℕ
  pub is : element ≡ Some number
  pub property_of : (k : CaseDocument) (s : ℕ) → IsAbout b k element c s → element_of_check b k s ≡ Some number

pub of_element : (b : Bundle) (element : Option ℕ) (c : Check) → HasElement c element → (s i : ℕ) → system_number (case_check b c s) ≡ Some i → (s ≡ i) × OfElement b element c
of_element b element (OfSystem (Never e) v) h s i g = (some_is s i g, record { number = h.0; is = h.1; property_of = λ k s a. a ∙ h.1 })
of_element b element (OfSystem NoDeadlock v) h s i g = (some_is s i g, record { number = h.0; is = h.1; property_of = λ k s a. a ∙ h.1 })
of_element b element (NoAnswer q) h s i g = elim (none_is_some i g) [ ]
of_element b element (SomeAnswer q) h s i g = elim (none_is_some i g) [ ]

-- what two cases tell of one check is one, where they number its system alike
pub told_same : (b : Bundle) (k o : CaseDocument) (element : Option ℕ) (c : Check) (x y : CaseCheck) → HasElement c element
    → ((s t e : ℕ) → element_of_check b k s ≡ Some e → element_of_check b o t ≡ Some e → s ≡ t)
    → Told b k element c x → Told b o element c y → x ≡ y
told_same b k o element (OfSystem p v) x y h same t u =
    t.is ∙ ap (case_check b (OfSystem p v)) (same t.system u.system h.0 (t.about ∙ h.1) (u.about ∙ h.1)) ∙ sym u.is
told_same b k o element (NoAnswer q) x y h same t u = t.is ∙ sym u.is
told_same b k o element (SomeAnswer q) x y h same t u = t.is ∙ sym u.is

-- ---- the system of a check

numbered_place : {A : Type 0} (k : ℕ) (xs : List A) (z : ℕ × A) → Member z (enumerate_from k xs) → (i : ℕ) × (z.0 ≡ k + i) × (slice_get xs i ≡ Some z.1)
numbered_place k [] z m = elim m [ ]
numbered_place k (x ∷ xs) z (inl e) = (0, ap (λ y. y.0) (sym e) ∙ omega arith, ap (λ y. Some y.1) e)
numbered_place k (x ∷ xs) z (inr m) =
    let found : (i : ℕ) × (z.0 ≡ k + 1 + i) × (slice_get xs i ≡ Some z.1) = numbered_place (k + 1) xs z m in
    (suc found.0, found.1 ∙ omega arith, found.2)

pub record SystemAt (b : Bundle) (k : CaseDocument) (s e : ℕ) : Type 0 where
  pub system : CaseSystem
  pub stands : slice_get k.systems s ≡ Some system
  pub named : system.element ≡ name_of_element b e

pub system_at : (b : Bundle) (k : CaseDocument) (s e : ℕ) → element_of_check b k s ≡ Some e → SystemAt b k s e
system_at b k s e h = with_system (slice_get k.systems s) refl h
  where
    number_of : CaseSystem → Option (ℕ × Element)
    number_of x = find (λ e. bytes_eq e.1.name x.element) (numbered b.model.elements)

    named : (x : CaseSystem) (z : ℕ × Element) → number_of x ≡ Some z → z.0 ≡ e → x.element ≡ name_of_element b e
    named x z f g =
        let found : Member z (numbered b.model.elements) × (bytes_eq z.1.name x.element ≡ true) = found_member (λ e. bytes_eq e.1.name x.element) (numbered b.model.elements) z f in
        let place : (i : ℕ) × (z.0 ≡ 0 + i) × (slice_get b.model.elements i ≡ Some z.1) = numbered_place 0 b.model.elements z found.0 in
        let there : slice_get b.model.elements e ≡ Some z.1 = ap (slice_get b.model.elements) (sym g ∙ place.1 ∙ omega arith) ∙ place.2 in
        sym (equal_texts z.1.name x.element found.1) ∙ sym (ap (λ o. elim o as (λ _. List ℕ) [ None ↦ [] | Some y ↦ y.name ]) there)

    with_number : (x : CaseSystem) → slice_get k.systems s ≡ Some x → (o : Option (ℕ × Element)) → number_of x ≡ o → option_map (λ e. e.0) o ≡ Some e → SystemAt b k s e
    with_number x f None g i = elim (none_is_some e i) [ ]
    with_number x f (Some z) g i = record { system = x; stands = f; named = named x z g (some_is z.0 e i) }

    with_system : (o : Option CaseSystem) → slice_get k.systems s ≡ o
        → option_and_then (λ x. option_map (λ e. e.0) (find (λ e. bytes_eq e.1.name x.element) (numbered b.model.elements))) o ≡ Some e → SystemAt b k s e
    with_system None f g = elim (none_is_some e g) [ ]
    with_system (Some x) f g = with_number x f (number_of x) refl g

-- ---- a finding of a node whose key some product has

pub record Checked (b : Bundle) (k : CaseDocument) (told : Findings) (f : Finding) : Type 0 where
  pub check : Check
  pub is : told.check ≡ Some check
  pub element : HasElement check told.system
  pub tells : Told b k told.system check f.check

module _ (b : Bundle) (k : CaseDocument) (tidy : Tidy k b) (key : List ℕ) (s : Sight b key) (n : CaseNode) (here : Member n k.nodes) (same_key : n.key ≡ key) where
  verdict_seen : (f : Finding) → n.finding ≡ Some f → s.node.verdict ≡ Some (not (holds k s.world f.refuted))
  verdict_seen f told = sym (ap (λ x. x.verdict) (sight_seen b k tidy key s n here same_key).1) ∙ ap (option_map (λ f. not (holds k s.world f.refuted))) told

  pub finding_checked : (f : Finding) → n.finding ≡ Some f → Checked b k s.findings f
  finding_checked f told = record { check = own.0; is = own.1; element = own.2; tells = told_is b k s.findings.system own.0 f.check tells }
    where
      own : (c : Check) × (s.findings.check ≡ Some c) × HasElement c s.findings.system
      own =
          member_each TellsCheckOf (instance_at b s.world).nodes (verdicts_tell (length b.model.labels) (model_at b.model s.world) b.templates) (s.node, s.findings)
          (sight_in_instance b key s) (not (holds k s.world f.refuted)) (verdict_seen f told)

      seen : findings_at b s.world n.key ≡ Some s.findings
      seen = ap (findings_at b s.world) same_key ∙ ap (option_map (λ n. n.1)) s.found

      tells : TellsCheck b k s.findings.system own.0 f.check
      tells = ((tidy.nodes n (contains_member n k.nodes here)).finding f told).tells s.world s.valid s.findings own.0 seen own.1
