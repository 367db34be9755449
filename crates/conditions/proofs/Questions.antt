-- Questions while the region grows, and the variables that matter to them.
use Rattle.std.proofs.Common.{◌≡◌, ℕ, ◌≤◌, Bool, not, ◌&&◌, ◌||◌, cond, List, length, arith, ap, ◌∙◌}
use Rattle.meaning.specs.Cofactors.{World}
use Rattle.node_pool.specs.declared.node.Node.{Node}
use Rattle.node_pool.specs.Nodes.{value, IsReduced, Extends}
use Rattle.node_pool.proofs.Reduced.{top_of-extends}
use Rattle.node_pool.proofs.Values.{value-extends, value-agrees}
use Rattle.conditions.specs.declared.question.Question.{Question}
use Rattle.conditions.specs.declared.question.Question.TheVariants.{Number, Both, Either, Without, Pick}
use Rattle.conditions.specs.Questions.{function_asked, first_of, IsAsked}

-- a question keeps its function while the region grows
pub function_asked-extends : (vars : ℕ) (old new : List Node) (question : Question) (w : World) → IsReduced vars old → Extends old new → IsAsked vars old question → function_asked new question w ≡ function_asked old question w
function_asked-extends vars old new (Number n) w reduced longer asked = value-extends vars old new n.0 w reduced longer asked
function_asked-extends vars old new (Both a b) w reduced longer asked = ap (λ (x : Bool). x && value new b.0 w) (value-extends vars old new a.0 w reduced longer asked.0) ∙ ap (λ (y : Bool). value old a.0 w && y) (value-extends vars old new b.0 w reduced longer asked.1)
function_asked-extends vars old new (Either a b) w reduced longer asked = ap (λ (x : Bool). x || value new b.0 w) (value-extends vars old new a.0 w reduced longer asked.0) ∙ ap (λ (y : Bool). value old a.0 w || y) (value-extends vars old new b.0 w reduced longer asked.1)
function_asked-extends vars old new (Without a b) w reduced longer asked = ap (λ (x : Bool). x && not (value new b.0 w)) (value-extends vars old new a.0 w reduced longer asked.0) ∙ ap (λ (y : Bool). value old a.0 w && not y) (value-extends vars old new b.0 w reduced longer asked.1)
function_asked-extends vars old new (Pick var low high) w reduced longer asked = ap (λ (x : Bool). cond (w var) x (value new low.0 w)) (value-extends vars old new high.0 w reduced longer asked.2) ∙ ap (λ (y : Bool). cond (w var) (value old high.0 w) y) (value-extends vars old new low.0 w reduced longer asked.1)

-- no variable before the first one matters
pub function_asked-starts : (vars : ℕ) (nodes : List Node) (question : Question) (w o : World) → IsReduced vars nodes → IsAsked vars nodes question → ((v : ℕ) → first_of vars nodes question ≤ v → w v ≡ o v) → function_asked nodes question w ≡ function_asked nodes question o
function_asked-starts vars nodes (Number n) w o reduced asked agree = value-agrees vars nodes n.0 w o reduced asked agree
function_asked-starts vars nodes (Both a b) w o reduced asked agree =
    let p : value nodes a.0 w ≡ value nodes a.0 o = value-agrees vars nodes a.0 w o reduced asked.0 (λ v above. agree v (omega arith)) in
    let q : value nodes b.0 w ≡ value nodes b.0 o = value-agrees vars nodes b.0 w o reduced asked.1 (λ v above. agree v (omega arith)) in
    rw (p, q)
function_asked-starts vars nodes (Either a b) w o reduced asked agree =
    let p : value nodes a.0 w ≡ value nodes a.0 o = value-agrees vars nodes a.0 w o reduced asked.0 (λ v above. agree v (omega arith)) in
    let q : value nodes b.0 w ≡ value nodes b.0 o = value-agrees vars nodes b.0 w o reduced asked.1 (λ v above. agree v (omega arith)) in
    rw (p, q)
function_asked-starts vars nodes (Without a b) w o reduced asked agree =
    let p : value nodes a.0 w ≡ value nodes a.0 o = value-agrees vars nodes a.0 w o reduced asked.0 (λ v above. agree v (omega arith)) in
    let q : value nodes b.0 w ≡ value nodes b.0 o = value-agrees vars nodes b.0 w o reduced asked.1 (λ v above. agree v (omega arith)) in
    rw (p, q)
function_asked-starts vars nodes (Pick var low high) w o reduced asked agree =
    let p : value nodes low.0 w ≡ value nodes low.0 o = value-agrees vars nodes low.0 w o reduced asked.1 (λ v above. agree v (omega arith)) in
    let q : value nodes high.0 w ≡ value nodes high.0 o = value-agrees vars nodes high.0 w o reduced asked.2 (λ v above. agree v (omega arith)) in
    let at : w var ≡ o var = agree var (omega arith) in
    rw (p, q, at)

-- the numbers of a question go on being there
pub IsAsked-extends : (vars : ℕ) (old new : List Node) (question : Question) → length old ≤ length new → IsAsked vars old question → IsAsked vars new question
IsAsked-extends vars old new (Number n) longer asked = omega arith
IsAsked-extends vars old new (Both a b) longer asked = (omega (arith, asked.0), omega (arith, asked.1))
IsAsked-extends vars old new (Either a b) longer asked = (omega (arith, asked.0), omega (arith, asked.1))
IsAsked-extends vars old new (Without a b) longer asked = (omega (arith, asked.0), omega (arith, asked.1))
IsAsked-extends vars old new (Pick var low high) longer asked = (asked.0, omega (arith, asked.1), omega (arith, asked.2))

-- a question goes on branching where it did
pub first_of-extends : (vars : ℕ) (old new : List Node) (question : Question) → Extends old new → IsAsked vars old question → first_of vars new question ≡ first_of vars old question
first_of-extends vars old new (Number n) longer asked = top_of-extends vars old new n.0 longer asked
first_of-extends vars old new (Both a b) longer asked = omega (arith, top_of-extends vars old new a.0 longer asked.0, top_of-extends vars old new b.0 longer asked.1)
first_of-extends vars old new (Either a b) longer asked = omega (arith, top_of-extends vars old new a.0 longer asked.0, top_of-extends vars old new b.0 longer asked.1)
first_of-extends vars old new (Without a b) longer asked = omega (arith, top_of-extends vars old new a.0 longer asked.0, top_of-extends vars old new b.0 longer asked.1)
first_of-extends vars old new (Pick var low high) longer asked = omega (arith, top_of-extends vars old new low.0 longer asked.1, top_of-extends vars old new high.0 longer asked.2)
