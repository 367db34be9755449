-- A node of a lifted case tells what the product's own node tells: it is tidy.
use Rattle.std.proofs.Common.{◌≡◌, ℕ, List, Bool, true, false, not, ◌&&◌, Some, None, refl, sym, ap, ◌∙◌, subst}
use Rattle.std.specs.Prelude.{cond, option_map, is_some, IsTrue}
use Rattle.std.specs.List.{list_any}
use Rattle.meaning.specs.Features.{is_valid}
use Rattle.meaning.specs.Systems.{is_number}
use Rattle.meaning.specs.Templates.{Findings}
use Rattle.meaning.specs.CaseFiles.{CaseDocument, Finding, holds}
use Rattle.meaning.specs.Derivation.{Bundle}
use Rattle.meaning.specs.Tidy.{ValidWorld, AreConditionsOf, TellsCheck, TidyNode, TidyFinding, node_with_key, findings_at, has_branch, has_last, has_first, is_tuple, same_tuple, is_refuted_there}
use Rattle.lifting.specs.LiftedCases.{Noted, there_in, seen_in, IsLiftedNode, IsLiftedFinding}
use Rattle.meaning.proofs.EqualityTests.{none_is_some, some_is}

-- conditions of the same values, that occur at the same valid worlds
pub same_conditions : {A : Type 0} (k : CaseDocument) (b : Bundle) (occurs other : List Bool → A → Bool) (values : List A) (ids : List ℕ)
    → ((w : List Bool) → IsTrue (is_valid b.line w) → (v : A) → occurs w v ≡ other w v)
    → AreConditionsOf k b occurs values ids → AreConditionsOf k b other values ids
same_conditions k b occurs other values ids same h = record {
  same_length = h.same_length;
  exact = λ i v id p q w o. h.exact i v id p q w o ∙ same w o v;
  each_occurs = λ i v p. let found : (w : ValidWorld b) × IsTrue (occurs w.0 v) = h.each_occurs i v p in (found.0, sym (same found.0.0 found.0.1 v) ∙ found.1);
  every = λ w v o. h.every w v (same w.0 w.1 v ∙ o);
}

-- a node that is found, where it is there, among the nodes of each product
module _ (b : Bundle) (k : CaseDocument) (n : Noted)
    (found : (w : List Bool) → IsTrue (is_valid b.line w) → node_with_key b w n.0.key ≡ cond (there_in k w n) (Some (seen_in k w n)) None) where
  module _ (w : List Bool) (v : IsTrue (is_valid b.line w)) where
    findings_are : findings_at b w n.0.key ≡ cond (there_in k w n) (Some (n.1 w)) None
    findings_are = ap (option_map (λ s. s.1)) (found w v) ∙ go (there_in k w n)
      where
        go : (there : Bool) → option_map (λ s. s.1) (cond there (Some (seen_in k w n)) None) ≡ cond there (Some (n.1 w)) None
        go true = refl
        go false = refl

    -- what some findings tell, only findings of the node tell
    told_where_there : (P : Findings → Type 0) → (there_in k w n ≡ true → P (n.1 w)) → (x : Findings) → findings_at b w n.0.key ≡ Some x → P x
    told_where_there P h x e = go (there_in k w n) h (sym findings_are ∙ e)
      where
        go : (there : Bool) → (there ≡ true → P (n.1 w)) → cond there (Some (n.1 w)) None ≡ Some x → P x
        go true h f = subst P (some_is (n.1 w) x f) (h refl)
        go false h f = elim (none_is_some x f) [ ]

    branches_are : (t : List ℕ) → (there_in k w n && list_any (same_tuple t) (n.1 w).branches) ≡ has_branch t (findings_at b w n.0.key)
    branches_are t = go (there_in k w n) ∙ sym (ap (has_branch t) findings_are)
      where
        go : (there : Bool) → (there && list_any (same_tuple t) (n.1 w).branches) ≡ has_branch t (cond there (Some (n.1 w)) None)
        go true = refl
        go false = refl

    last_is : (s : ℕ) → (there_in k w n && is_number s (n.1 w).last) ≡ has_last s (findings_at b w n.0.key)
    last_is s = go (there_in k w n) ∙ sym (ap (has_last s) findings_are)
      where
        go : (there : Bool) → (there && is_number s (n.1 w).last) ≡ has_last s (cond there (Some (n.1 w)) None)
        go true = refl
        go false = refl

    first_is : (t : List ℕ) → (there_in k w n && is_tuple t (n.1 w).first) ≡ has_first t (findings_at b w n.0.key)
    first_is t = go (there_in k w n) ∙ sym (ap (has_first t) findings_are)
      where
        go : (there : Bool) → (there && is_tuple t (n.1 w).first) ≡ has_first t (cond there (Some (n.1 w)) None)
        go true = refl
        go false = refl

    refuted_is : (f : Finding) → n.0.finding ≡ Some f → (there_in k w n ≡ false → holds k w f.refuted ≡ false) → holds k w f.refuted ≡ is_refuted_there (node_with_key b w n.0.key)
    refuted_is f e h = go (there_in k w n) h ∙ sym (ap is_refuted_there (found w v))
      where
        twice : (b : Bool) → b ≡ not (not b)
        twice true = refl
        twice false = refl

        verdict_is : holds k w f.refuted ≡ is_refuted_there (Some (seen_in k w n))
        verdict_is =
            twice (holds k w f.refuted)
            ∙ sym (ap (λ o. elim (option_map (λ f. not (holds k w f.refuted)) o) as (λ _. Bool) [ None ↦ false | Some v ↦ not v ]) e)

        go : (there : Bool) → (there ≡ false → holds k w f.refuted ≡ false) → holds k w f.refuted ≡ is_refuted_there (cond there (Some (seen_in k w n)) None)
        go true h = verdict_is
        go false h = h refl

  tidy_finding : (f : Finding) → n.0.finding ≡ Some f → IsLiftedFinding b k n f → TidyFinding b k n.0 f
  tidy_finding f e h = record {
    tells = λ w v x c found_x told. told_where_there w v (λ y. y.check ≡ Some c → TellsCheck b k y.system c f.check) (λ there t. h.tells w v there c t) x found_x told;
    refuted = λ w v. refuted_is w v f e (h.only_there w v);
    targets_ascend = h.targets_ascend;
    targets = same_conditions k b (λ w s. there_in k w n && is_number s (n.1 w).last) (λ w s. has_last s (findings_at b w n.0.key)) _ _ last_is h.targets;
    tuples_of_witnesses = h.tuples_of_witnesses;
    witnesses_ascend = h.witnesses_ascend;
    witnesses_named = h.witnesses_named;
    witnesses = same_conditions k b (λ w t. there_in k w n && is_tuple t (n.1 w).first) (λ w t. has_first t (findings_at b w n.0.key)) _ _ first_is h.witnesses;
  }

  pub tidy_node : IsLiftedNode b k n → TidyNode b k n.0
  tidy_node h = record {
    occurs = (h.occurs.0, ap is_some (found h.occurs.0.0 h.occurs.0.1) ∙ ap (λ there. is_some (cond there (Some (seen_in k h.occurs.0.0 n)) None)) h.occurs.1);
    parts = λ w v x e. told_where_there w v (λ y. n.0.parts ≡ y.parts) (h.parts w v) x e;
    answers = h.answers;
    answers_ascend = h.answers_ascend;
    branches = same_conditions k b (λ w t. there_in k w n && list_any (same_tuple t) (n.1 w).branches) (λ w t. has_branch t (findings_at b w n.0.key)) _ _ branches_are h.branches;
    finding = λ f e. tidy_finding f e (h.finding f e);
  }
