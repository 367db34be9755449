-- A valid world has a truth for each feature.
use Rattle.std.proofs.Common.{◌≡◌, ℕ, List, length, Bool, true, false, ◌&&◌, ◌==◌, refl, arith}
use Rattle.std.specs.List.{list_all}
use Rattle.std.proofs.lemmas.Bool.Decides.{nat_tests}
use Rattle.meaning.specs.Expressions.{truth}
use Rattle.meaning.specs.Features.{Line, is_valid, respects_tree, respects_mandatory, respects_groups}

equal_numbers : (a b : ℕ) → (a == b) ≡ true → a ≡ b
equal_numbers a b e = grind (arith, nat_tests)

pub valid_is_long : (line : Line) (w : List Bool) → is_valid line w ≡ true → length w ≡ length line.features
unfolding is_valid
valid_is_long line w e = go (length w == length line.features) refl e
  where
    first_false : (b c d v : Bool) → ((((false && b) && c) && d) && v) ≡ true → ⊥
    first_false b c d v e = cc

    go : (a : Bool) → (length w == length line.features) ≡ a
        → ((((a && respects_tree line w) && respects_mandatory line w) && respects_groups line w) && list_all (λ x. truth x w) line.constraints) ≡ true
        → length w ≡ length line.features
    go true h i = equal_numbers (length w) (length line.features) h
    go false h i = elim (first_false (respects_tree line w) (respects_mandatory line w) (respects_groups line w) (list_all (λ x. truth x w) line.constraints) i) [ ]
