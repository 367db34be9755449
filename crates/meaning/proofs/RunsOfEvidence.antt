-- A built case has a run for every refuted system verdict.
use Rattle.std.proofs.Common.{◌≡◌, refl, sym, ap, ◌∙◌, subst, ℕ, ◌+◌, List, [], ◌∷◌, length, Bool, true, false, not, Option, Some, None, option_map, option_and_then}
use Rattle.std.specs.Prelude.{◌&&◌, unwrap_or, is_some, find, IsTrue, Contains}
use Rattle.std.specs.List.{enumerate_from, slice_get}
use Rattle.std.proofs.lemmas.Bool.{false≢true, and_parts}
use Rattle.meaning.specs.Features.{is_valid}
use Rattle.meaning.specs.Cases.{is_solution}
use Rattle.meaning.specs.CaseFiles.{CaseDocument, CaseNode, CaseSystem, Finding, holds}
use Rattle.meaning.specs.CaseReading as reading
use Rattle.meaning.specs.CaseReading.{read_case}
use Rattle.meaning.specs.Evidence.{system_number, system_of_finding, run_in, lacks_run, node_lacks_run, without_run}
use Rattle.meaning.specs.Derivation.{Bundle}
use Rattle.meaning.specs.Headline.{IsSystemVerdict, RefutationReplays}
use Rattle.meaning.specs.Answers.{BuiltHasRuns}
use Rattle.meaning.proofs.CutTrees.{Each}
use Rattle.meaning.proofs.EachMembers.{each_from_members}

-- a test that no element meets finds none
none_found : {A : Type 0} (test : A → Bool) (xs : List A) (k : ℕ) → Each (λ x. test x ≡ false) xs → find (λ n. test n.1) (enumerate_from k xs) ≡ None
none_found test [] k h = refl
none_found test (x ∷ xs) k h = rw h.0 (none_found test xs (k + 1) h.1)

is_no : (b : Bool) → (b ≡ true → ⊥) → b ≡ false
is_no true h = absurd (h refl)
is_no false h = refl

-- ---- what is lacked stands somewhere

record Lacks (k : CaseDocument) (w : List Bool) (n : CaseNode) : Type 0 where
  finding : Finding
  told : n.finding ≡ Some finding
  there : holds k w n.presence ≡ true
  refuted : holds k w finding.refuted ≡ true
  system : CaseSystem
  in_case : system_of_finding k finding ≡ Some system
  no_run : is_some (run_in k w system finding) ≡ false

is_false : (b : Bool) → not b ≡ true → b ≡ false
is_false true e = absurd (false≢true e)
is_false false e = refl

lacks_in : (k : CaseDocument) (w : List Bool) (n : CaseNode) (f : Finding) → n.finding ≡ Some f → holds k w n.presence ≡ true → holds k w f.refuted ≡ true
    → (x : Option CaseSystem) → system_of_finding k f ≡ x → unwrap_or (option_map (λ s. not (is_some (run_in k w s f))) x) false ≡ true → Lacks k w n
lacks_in k w n f told there refuted None is e = absurd (false≢true e)
lacks_in k w n f told there refuted (Some x) is e =
    record { finding = f; told = told; there = there; refuted = refuted; system = x; in_case = is; no_run = is_false (is_some (run_in k w x f)) e }

lacks_told : (k : CaseDocument) (w : List Bool) (n : CaseNode) → holds k w n.presence ≡ true
    → (f : Option Finding) → n.finding ≡ f → unwrap_or (option_map (lacks_run k w) f) false ≡ true → Lacks k w n
lacks_told k w n there None is e = absurd (false≢true e)
lacks_told k w n there (Some f) is e =
    let (refuted, rest) = and_parts (holds k w f.refuted) (unwrap_or (option_map (λ s. not (is_some (run_in k w s f))) (system_of_finding k f)) false) e in
    lacks_in k w n f is there refuted (system_of_finding k f) refl rest

lacks : (k : CaseDocument) (w : List Bool) (n : CaseNode) → node_lacks_run k w n ≡ true → Lacks k w n
lacks k w n e =
    let (front, rest) = and_parts (holds k w n.presence && is_solution n.kind) (unwrap_or (option_map (lacks_run k w) n.finding) false) e in
    let (there, solution) = and_parts (holds k w n.presence) (is_solution n.kind) front in
    lacks_told k w n there n.finding refl rest

-- ---- a verdict has its run

numbered_system : {A B : Type 0} (o : Option A) (f : A → Option B) (x : B) → option_and_then f o ≡ Some x → is_some o ≡ true
numbered_system None f x e = absurd cc
numbered_system (Some a) f x e = refl

pub runs_of_verdicts : (b : Bundle) (k : CaseDocument) (w : List Bool) → RefutationReplays b k → IsTrue (is_valid b.line w) → without_run k w ≡ None
runs_of_verdicts b k w replays valid =
    ap (option_map (λ n. n.0)) (none_found (node_lacks_run k w) k.nodes 0 (each_from_members (λ n. node_lacks_run k w n ≡ false) k.nodes has_run))
  where
    has_run : (n : CaseNode) → Contains k.nodes n → node_lacks_run k w n ≡ false
    has_run n stands = is_no (node_lacks_run k w n) (λ e.
        let l = lacks k w n e in
        let verdict : IsSystemVerdict b k w n l.finding = record {
          stands = stands;
          told = l.told;
          of_system = numbered_system (system_number l.finding.check) (slice_get k.systems) l.system l.in_case;
          valid = valid;
          there = l.there;
        } in
        let (subject, run) = replays w n l.finding verdict l.refuted in
        let same : l.system ≡ subject.table = (let both : Some l.system ≡ Some subject.table = sym l.in_case ∙ subject.in_case in cc) in
        let some : is_some (run_in k w l.system l.finding) ≡ true = ap (λ x. is_some (run_in k w x l.finding)) same ∙ ap is_some run.run in
        false≢true (sym l.no_run ∙ some))

pub built_has_runs : BuiltHasRuns
built_has_runs s b built k w is read long valid =
    let build = is.build in
    let same : build.document ≡ k = (let both : reading.Is build.document ≡ reading.Is k = sym build.reads ∙ read in cc) in
    let replays : RefutationReplays b k = subst (RefutationReplays b) same build.refuted in
    let exact : length w ≡ length k.features → holds k w k.valid ≡ is_valid b.line w = subst (λ d. length w ≡ length d.features → holds d w d.valid ≡ is_valid b.line w) same (build.tidy.valid w) in
    runs_of_verdicts b k w replays (sym (exact long) ∙ valid)
