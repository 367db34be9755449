-- Templates whose texts and arguments name variables that are in scope.
use Rattle.std.specs.Prelude.{◌≡◌, ℕ, suc, ◌+◌, ◌<◌, List, length, Option, None, Some}
use Rattle.meaning.specs.Queries.{Query}
use Rattle.meaning.specs.Templates.{Template, TemplateNode, Uses, annotations, supporters}
use Rattle.meaning.proofs.CutTrees.{Each}
use Rattle.lifting.specs.OrderedTemplates.{StandsAt}
use Rattle.lifting.specs.ThereElements.{PartFits}

-- how many variables the answers of a node bind for what supports it
abbrev pub bound_by : Option Query → ℕ
bound_by None = 0
bound_by (Some q) = length q.variables

-- so many variables are in scope at node j of template i
pub record AreScoped (templates : List Template) : Type 0 where
  pub scope : (i j : ℕ) → ℕ
  pub parts_fit : (i : ℕ) (t : Template) (j : ℕ) (n : TemplateNode) → StandsAt templates i t j n → Each (PartFits (scope i j)) n.words
  pub arguments_fit : (i : ℕ) (t : Template) (j : ℕ) (n : TemplateNode) → StandsAt templates i t j n
      → (u : ℕ) (arguments : List ℕ) → n.kind ≡ Uses u arguments → Each (λ v. v < scope i j) arguments × (scope u 0 ≡ length arguments)
  pub annotations_see : (i : ℕ) (t : Template) (j : ℕ) (n : TemplateNode) → StandsAt templates i t j n → Each (λ x. scope i x.0 ≡ scope i j) (annotations t j)
  pub supporters_see : (i : ℕ) (t : Template) (j : ℕ) (n : TemplateNode) → StandsAt templates i t j n
      → Each (λ x. scope i x.0 ≡ scope i j + bound_by n.each) (supporters t j)
  pub none_at_first : (i : ℕ) → suc i ≡ length templates → scope i 0 ≡ 0
