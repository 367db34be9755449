-- Answers of a query bind as many elements as it has new variables.
use Rattle.std.proofs.Common.{◌≡◌, ℕ, suc, List, [], ◌∷◌, map, length, refl, ap}
use Rattle.meaning.specs.Models.{PlainModel}
use Rattle.meaning.specs.Queries.{tuples, elements_of_type}
use Rattle.meaning.proofs.CutTrees.{Each}
use Rattle.meaning.proofs.Lists.{each_of_all}
use Rattle.meaning.proofs.Pairs.{each_of_flat}

lengths_in_front : (k e : ℕ) (ts : List (List ℕ)) → Each (λ t. length t ≡ k) ts → Each (λ t. length t ≡ suc k) (map (λ es. e ∷ es) ts)
lengths_in_front k e [] h = tt
lengths_in_front k e (t ∷ ts) h = (ap suc h.0, lengths_in_front k e ts h.1)

pub tuple_lengths : (m : PlainModel) (vs : List ℕ) → Each (λ t. length t ≡ length vs) (tuples m vs)
tuple_lengths m [] = (refl, tt)
tuple_lengths m (v ∷ vs) =
    each_of_flat (λ t. length t ≡ suc (length vs)) (λ e. map (λ es. e ∷ es) (tuples m vs)) (elements_of_type m v)
    (each_of_all _ (λ e. lengths_in_front (length vs) e (tuples m vs) (tuple_lengths m vs)) (elements_of_type m v))
