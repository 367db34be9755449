-- Questions: which function is asked for, and how it splits at its first variable.
use Rattle.std.specs.Prelude.{◌≡◌, ℕ, ◌+◌, ◌<◌, ◌≤◌, true, false, not, ◌&&◌, ◌||◌, List, length, min, if◌then◌else◌}
use Rattle.meaning.specs.Cofactors.{World, Function}
use Rattle.node_pool.specs.declared.node.Node.{Node}
use Rattle.node_pool.specs.Nodes.{value, top_of}
use Rattle.node_pool.specs.Functions.{put}
use Rattle.conditions.specs.declared.question.Question.{Question}
use Rattle.conditions.specs.declared.question.Question.TheVariants.{Number, Both, Either, Without, Pick}

-- the function that is asked for
abbrev pub function_asked : List Node → Question → Function
function_asked nodes (Number n) w = value nodes n.0 w
function_asked nodes (Both a b) w = value nodes a.0 w && value nodes b.0 w
function_asked nodes (Either a b) w = value nodes a.0 w || value nodes b.0 w
function_asked nodes (Without a b) w = value nodes a.0 w && not (value nodes b.0 w)
function_asked nodes (Pick var low high) w = if w var then value nodes high.0 w else value nodes low.0 w

-- the first variable that may matter
abbrev pub first_of : ℕ → List Node → Question → ℕ
first_of vars nodes (Number n) = top_of vars nodes n.0
first_of vars nodes (Both a b) = min (top_of vars nodes a.0) (top_of vars nodes b.0)
first_of vars nodes (Either a b) = min (top_of vars nodes a.0) (top_of vars nodes b.0)
first_of vars nodes (Without a b) = min (top_of vars nodes a.0) (top_of vars nodes b.0)
first_of vars nodes (Pick var low high) = min var (min (top_of vars nodes low.0) (top_of vars nodes high.0))

-- what falls from a question to its branches
abbrev pub weight_of : Question → ℕ
weight_of (Number n) = n.0
weight_of (Both a b) = a.0 + b.0
weight_of (Either a b) = a.0 + b.0
weight_of (Without a b) = a.0 + b.0
weight_of (Pick _ low high) = low.0 + high.0 + 1

-- the numbers of the question are there
abbrev pub IsAsked : ℕ → List Node → Question → Type 0
IsAsked vars nodes (Number n) = n.0 < length nodes + 2
IsAsked vars nodes (Both a b) = (a.0 < length nodes + 2) × (b.0 < length nodes + 2)
IsAsked vars nodes (Either a b) = (a.0 < length nodes + 2) × (b.0 < length nodes + 2)
IsAsked vars nodes (Without a b) = (a.0 < length nodes + 2) × (b.0 < length nodes + 2)
IsAsked vars nodes (Pick var low high) = (var < vars) × (low.0 < length nodes + 2) × (high.0 < length nodes + 2)

-- the two questions at the two truths of the variable
pub record IsSplit (vars : ℕ) (nodes : List Node) (question : Question) (var : ℕ) (low high : Question) : Type 0 where
  pub low_asked : IsAsked vars nodes low
  pub high_asked : IsAsked vars nodes high
  pub low_falls : weight_of low < weight_of question
  pub high_falls : weight_of high < weight_of question
  pub low_after : var < first_of vars nodes low
  pub high_after : var < first_of vars nodes high
  pub low_branch : (w : World) → function_asked nodes low w ≡ function_asked nodes question (put w var false)
  pub high_branch : (w : World) → function_asked nodes high w ≡ function_asked nodes question (put w var true)

-- the children of a number at a variable not after its top: those of its node, or twice the number itself
pub record IsNumberSplit (vars : ℕ) (nodes : List Node) (n var low high : ℕ) : Type 0 where
  pub low_in : low < length nodes + 2
  pub high_in : high < length nodes + 2
  pub low_within : low ≤ n
  pub high_within : high ≤ n
  pub falls : top_of vars nodes n ≡ var → (low < n) × (high < n)
  pub low_after : var < top_of vars nodes low
  pub high_after : var < top_of vars nodes high
  pub low_function : (w : World) → value nodes low w ≡ value nodes n (put w var false)
  pub high_function : (w : World) → value nodes high w ≡ value nodes n (put w var true)
