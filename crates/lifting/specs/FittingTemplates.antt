-- Templates as a reader gives them: what instantiating asks of them.
use Rattle.std.specs.Prelude.{◌≡◌, ℕ, ◌≤◌, ◌^◌, List, length, true, false, not, ◌||◌, Option, None, Some, is_none, ⊤}
use Rattle.std.specs.List.{slice_get}
use Rattle.meaning.specs.Texts.{is_text}
use Rattle.meaning.specs.Queries.{Query}
use Rattle.meaning.specs.Cases.{NodeKind, argues, is_solution}
use Rattle.meaning.specs.CaseReading.{is_strategy}
use Rattle.meaning.specs.Templates.{Template, TemplateNode, TextPart, Words, Plain, node_count}
use Rattle.meaning.proofs.CutTrees.{Each}
use Rattle.lifting.specs.OrderedTemplates.{StandsAt, AreOrdered}
use Rattle.lifting.specs.ScopedTemplates.{AreScoped}

-- the words of a part of a text are a text
abbrev pub IsTextPart : TextPart → Type 0
IsTextPart (Words s) = is_text s ≡ true
IsTextPart _ = ⊤

-- a query has at most three new variables
abbrev pub FewVariables : Option Query → Type 0
FewVariables None = ⊤
FewVariables (Some q) = length q.variables ≤ 3

-- every step down leads to a later node or an earlier template, the variables of texts and arguments are in scope, queries have few variables,
-- branches stand at strategies alone and the mark of undeveloped nodes at goals and strategies alone, texts are texts, no node is a solution
-- or has a check, and there are few nodes
pub record TemplatesFit (templates : List Template) : Type 0 where
  pub ordered : AreOrdered templates
  pub scoped : AreScoped templates
  pub few_each : (i : ℕ) (t : Template) (j : ℕ) (n : TemplateNode) → StandsAt templates i t j n → FewVariables n.each
  pub few_guard : (i : ℕ) (t : Template) (j : ℕ) (n : TemplateNode) → StandsAt templates i t j n → FewVariables n.guard
  pub branching : (i : ℕ) (t : Template) (j : ℕ) (n : TemplateNode) → StandsAt templates i t j n → (kind : NodeKind) → n.kind ≡ Plain kind
      → (is_strategy kind || is_none n.each) ≡ true
  pub arguing : (i : ℕ) (t : Template) (j : ℕ) (n : TemplateNode) → StandsAt templates i t j n → (kind : NodeKind) → n.kind ≡ Plain kind
      → (argues kind || not n.undeveloped) ≡ true
  pub no_solution : (i : ℕ) (t : Template) (j : ℕ) (n : TemplateNode) → StandsAt templates i t j n → (kind : NodeKind) → n.kind ≡ Plain kind
      → is_solution kind ≡ false
  pub texts : (i : ℕ) (t : Template) (j : ℕ) (n : TemplateNode) → StandsAt templates i t j n → Each IsTextPart n.words
  pub unchecked : (i : ℕ) (t : Template) (j : ℕ) (n : TemplateNode) → StandsAt templates i t j n → n.check ≡ None
  pub few_nodes : (i : ℕ) (t : Template) → slice_get templates i ≡ Some t → length t.nodes ≤ 2 ^ 16
  pub few : node_count templates ≤ 2 ^ 16

-- no node is a solution or has a check
pub record HaveNoSolutions (templates : List Template) : Type 0 where
  pub no_solution : (i : ℕ) (t : Template) (j : ℕ) (n : TemplateNode) → StandsAt templates i t j n → (kind : NodeKind) → n.kind ≡ Plain kind
      → is_solution kind ≡ false
  pub unchecked : (i : ℕ) (t : Template) (j : ℕ) (n : TemplateNode) → StandsAt templates i t j n → n.check ≡ None
