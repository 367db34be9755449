-- One world: what a condition over it is to a caller, and the lists that are it.
use Rattle.std.proofs.Common.{◌≡◌, List, Bool, true, false, ◌&&◌, refl, [], ◌∷◌, ◌∙◌, sym}
use Rattle.std.specs.Cmp.{booleans_Decides}
use Rattle.std.specs.Cmp.Lexicographic.{pointwise}
use Rattle.std.specs.Bool.{beq}
use Rattle.std.proofs.lemmas.Slice.Eq.{slice_eq-Decides}
use Rattle.std.proofs.Math.Bool.{and-true}
use Rattle.meaning.specs.Worlds.{is_lower}
use Rattle.worlds.specs.Algebra.{Algebra, Kept, HoldsWhere}
use Rattle.worlds.specs.OneWorld.{HasOnlyWorld}

-- a condition that was made over one world is the truth of its test there
pub truth_there : {a b : Algebra Bool} {test : List Bool → Bool} (world : List Bool) (c : Bool) → HasOnlyWorld world a → Kept a b → HoldsWhere b c test → c ≡ test world
truth_there world c only kept made =
    sym (only.holds c world) ∙ sym (kept.holds c (only.live c) world) ∙ made.holds world (kept.worlds world ∙ (only.worlds world).1 refl)

pub same_list : (x world : List Bool) → pointwise beq x world ≡ true → x ≡ world
same_list x world = (slice_eq-Decides booleans_Decides x world (pointwise beq x world) refl).0

pub itself : (world : List Bool) → pointwise beq world world ≡ true
itself world = (slice_eq-Decides booleans_Decides world world (pointwise beq world world) refl).1 refl

pub not_lower : (x : List Bool) → is_lower x x ≡ false
not_lower [] = refl
not_lower (true ∷ x) = not_lower x
not_lower (false ∷ x) = not_lower x

-- a list that has a condition of the one world is that world
pub not_lower_than : (world y : List Bool) → (pointwise beq y world && true) ≡ true → is_lower y world ≡ false
not_lower_than world y inside =
    let is : pointwise beq y world ≡ true = sym (and-true (pointwise beq y world)) ∙ inside in
    rw (same_list y world is) (not_lower world)

pub itself_and : (world : List Bool) → (pointwise beq world world && true) ≡ true
itself_and world = and-true (pointwise beq world world) ∙ itself world
