use Rattle.std.proofs.Common.{◌≡◌, refl, sym, ap, ◌∙◌, ℕ, List, Bool, true, false}
use Rattle.std.specs.Prelude.{bytes_eq, codes, if◌then◌else◌}
use Rattle.std.proofs.lemmas.Slice.Eq.{bytes_eq-Decides}
use Rattle.meaning.specs.Documents.{text_at}
use Rattle.meaning.specs.TemplateRules.{kind_named, is_solution, a_goal, a_strategy, a_solution, a_context, an_assumption, a_justification, a_use, no_kind}
use Rattle.doc_tree.specs.View.{document}
use Rattle.workbench.proofs.bundle_rules.is_solution.Goals as goal

-- a solution is a node of this word
solution_word : (s : List ℕ) → is_solution (kind_named s) ≡ bytes_eq s (codes "solution")
solution_word s =
    go (bytes_eq s (codes "goal")) (bytes_eq s (codes "strategy")) (bytes_eq s (codes "solution")) (bytes_eq s (codes "context"))
    (bytes_eq s (codes "assumption")) (bytes_eq s (codes "justification")) (bytes_eq s (codes "use"))
    (λ e. ap (λ t. bytes_eq t (codes "solution")) ((bytes_eq-Decides s (codes "goal")).0 e))
    (λ e. ap (λ t. bytes_eq t (codes "solution")) ((bytes_eq-Decides s (codes "strategy")).0 e))
  where
    go : (a b c d f g h : Bool) → (a ≡ true → c ≡ false) → (b ≡ true → c ≡ false)
        → is_solution (if a then a_goal else (if b then a_strategy else (if c then a_solution else (if d then a_context
        else (if f then an_assumption else (if g then a_justification else (if h then a_use else no_kind))))))) ≡ c
    go true b c d f g h p q = sym (p refl)
    go false true c d f g h p q = sym (q refl)
    go false false true d f g h p q = refl
    go false false false true f g h p q = refl
    go false false false false true g h p q = refl
    go false false false false false true h p q = refl
    go false false false false false false true p q = refl
    go false false false false false false false p q = refl

pub returns : goal.returns
returns c =
    c.eq.ensures ∙ ap (λ s. bytes_eq s (codes "solution")) c.text_at.ensures ∙ sym (solution_word (text_at (codes "kind") (document c.args.node.now)))
