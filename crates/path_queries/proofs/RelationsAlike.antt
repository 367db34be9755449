-- Relations that are alike below a bound give relations that are alike below it.
use Rattle.std.proofs.Common.{◌≡◌, ◌∙◌, refl, ap, ℕ, zero, suc, ◌<◌, ◌≤◌, Bool, true, false, arith}
use Rattle.std.specs.Prelude.{◌&&◌, ◌||◌}
use Rattle.meaning.specs.Queries.{Path, Along, Against, Then, OneOf, Chain}
use Rattle.path_queries.specs.Relations.{Relation, any_below, composed, united, through, closed, related}

-- the same below the bound
abbrev pub Alike : ℕ → Relation → Relation → Type 0
Alike n r s = (i j : ℕ) → i < n → j < n → r i j ≡ s i j

any_alike : (n : ℕ) (p q : ℕ → Bool) → ((k : ℕ) → k < n → p k ≡ q k) → any_below n p ≡ any_below n q
any_alike zero p q same = refl
any_alike (suc n) p q same =
    ap (λ b. b || p n) (any_alike n p q (λ k below. same k (omega (arith, below)))) ∙ ap (λ b. any_below n q || b) (same n (omega arith))

pub composed_alike : (n : ℕ) (r s u v : Relation) → Alike n r u → Alike n s v → Alike n (composed n r s) (composed n u v)
composed_alike n r s u v first second i j row column =
    any_alike n (λ k. r i k && s k j) (λ k. u i k && v k j)
    (λ k below. ap (λ b. b && s k j) (first i k row below) ∙ ap (λ b. u i k && b) (second k j below column))

pub united_alike : (n : ℕ) (r s u v : Relation) → Alike n r u → Alike n s v → Alike n (united r s) (united u v)
united_alike n r s u v first second i j row column = ap (λ b. b || s i j) (first i j row column) ∙ ap (λ b. u i j || b) (second i j row column)

pub through_alike : (n k : ℕ) (r s : Relation) → k < n → Alike n r s → Alike n (through k r) (through k s)
through_alike n k r s below same i j row column =
    ap (λ b. b || (r i k && r k j)) (same i j row column)
    ∙ ap (λ b. s i j || (b && r k j)) (same i k row below)
    ∙ ap (λ b. s i j || (s i k && b)) (same k j below column)

pub closed_alike : (n k : ℕ) (r s : Relation) → k ≤ n → Alike n r s → Alike n (closed k r) (closed k s)
closed_alike n zero r s below same i j row column = same i j row column
closed_alike n (suc k) r s below same i j row column =
    through_alike n k (closed k r) (closed k s) (omega (arith, below)) (closed_alike n k r s (omega (arith, below)) same) i j row column

-- links that are alike give walks that are alike
pub related_alike : (n : ℕ) (link other : ℕ → Relation) → ((k : ℕ) → Alike n (link k) (other k)) → (p : Path) → Alike n (related n link p) (related n other p)
related_alike n link other same (Along k) i j row column = same k i j row column
related_alike n link other same (Against k) i j row column = same k j i column row
related_alike n link other same (Then a b) i j row column =
    composed_alike n (related n link a) (related n link b) (related n other a) (related n other b) (related_alike n link other same a) (related_alike n link other same b) i j row column
related_alike n link other same (OneOf a b) i j row column =
    united_alike n (related n link a) (related n link b) (related n other a) (related n other b) (related_alike n link other same a) (related_alike n link other same b) i j row column
related_alike n link other same (Chain a) i j row column =
    closed_alike n n (related n link a) (related n other a) (omega arith) (related_alike n link other same a) i j row column
