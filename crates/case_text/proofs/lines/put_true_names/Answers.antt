use Rattle.std.proofs.Common.{◌≡◌, ◌<◌, ◌+◌, ◌++◌, ◌∷◌, [], ℕ, suc, List, Bool, true, false, Some, length, get_or, take, sym, ap, ◌∙◌, arith}
use Rattle.std.specs.Prelude.{if◌then◌else◌}
use Rattle.std.specs.List.{slice_get}
use Rattle.std.proofs.lemmas.List.{append_assoc}
use Rattle.std.proofs.lemmas.Option.{slice_get-get_or}
use Rattle.gsn.proofs.LeastSets.{holds_is}
use Rattle.case_text.proofs.Pieces.{names_from, names_more, append_none}
use Rattle.case_text.proofs.lines.put_true_names.Goals as goal
use Rattle.case_text.proofs.lines.put_true_names.Goals.{then-world-feature+in_ok-put+in_ok-put-2, else-world-feature}

-- a true feature adds its name after a space, and a false one nothing
with_name : (w : List Bool) (fs : List (List ℕ)) (k : ℕ) (x before out : List ℕ) → slice_get fs k ≡ Some x → get_or w k false ≡ true → out ≡ before ++ names_from w 0 (take k fs)
    → (out ++ 32 ∷ []) ++ x ≡ before ++ names_from w 0 (take (k + 1) fs)
with_name w fs k x before out at here e =
    append_assoc out (32 ∷ []) x
    ∙ (ap (λ xs. xs ++ 32 ∷ x) e
    ∙ (append_assoc before (names_from w 0 (take k fs)) (32 ∷ x)
    ∙ ap (λ xs. before ++ xs) (ap (λ b. names_from w 0 (take k fs) ++ (if b then 32 ∷ x else [])) (sym (holds_is w k ∙ here))
    ∙ (sym (names_more w fs 0 k k x (omega arith) at) ∙ ap (λ n. names_from w 0 (take n fs)) (sym (one k))))))
  where
    one : (n : ℕ) → n + 1 ≡ suc n
    one n = omega arith

without_name : (w : List Bool) (fs : List (List ℕ)) (k : ℕ) (before out : List ℕ) → k < length fs → get_or w k false ≡ false → out ≡ before ++ names_from w 0 (take k fs)
    → out ≡ before ++ names_from w 0 (take (k + 1) fs)
without_name w fs k before out l away e =
    e ∙ ap (λ xs. before ++ xs) (sym (append_none (names_from w 0 (take k fs))) ∙ (ap (λ b. names_from w 0 (take k fs) ++ (if b then 32 ∷ get_or fs k [] else [])) (sym (holds_is w k ∙ away))
    ∙ (sym (names_more w fs 0 k k (get_or fs k []) (omega arith) (slice_get-get_or fs k [] l)) ∙ ap (λ n. names_from w 0 (take n fs)) (sym (one k)))))
  where
    one : (n : ℕ) → n + 1 ≡ suc n
    one n = omega arith

pub features-preserved : goal.features-preserved
features-preserved c =
    let w' = c.args.world.now in
    let fs = c.args.features.now in
    let k = c.features.feature in
    elim c.if-world-feature.branch [
      | then-world-feature+in_ok-put+in_ok-put-2 w ↦
          ap (λ v. v.items) w.out-is ∙ (w.in_ok-put-2.ensures ∙ (ap (λ xs. xs ++ w.as_bytes.result.now) w.in_ok-put.ensures
          ∙ (ap (λ xs. (c.features.out.items ++ 32 ∷ []) ++ xs) w.as_bytes.ensures.value
          ∙ with_name w' fs k w.name.result.now c.args.out.now.items c.features.out.items w.name.ensures.name w.if-world-feature.true c.features.invariant)))
      | else-world-feature w ↦
          ap (λ v. v.items) w.out-is
          ∙ without_name w' fs k c.args.out.now.items c.features.out.items (omega (arith, c.features-test.true, c.count-feature-end.ensures.count)) w.if-world-feature.false c.features.invariant
    ]
