-- The code of a path, by which proofs tell the values apart that hold it: a tree of numbers that gives it back.
use Rattle.std.specs.Prelude.{◌≡◌, ℕ, zero, suc, refl}
use Rattle.std.proofs.Common.{sym, ap, ap₂, ◌∙◌}
use base.Stored.{Gv, gnil, gnum, gcons, Coded}
use Rattle.meaning.specs.Queries.{Path, Along, Against, Then, OneOf, Chain}

abbrev pub tree : Path → Gv
tree (Along k) = gcons gnil (gnum k)
tree (Against k) = gcons (gnum 0) (gnum k)
tree (Then a b) = gcons (gnum 1) (gcons (tree a) (tree b))
tree (OneOf a b) = gcons (gnum 2) (gcons (tree a) (tree b))
tree (Chain a) = gcons (gnum 3) (tree a)

abbrev pub of_tree : Gv → Path
of_tree (gcons gnil (gnum k)) = Along k
of_tree (gcons (gnum zero) (gnum k)) = Against k
of_tree (gcons (gnum (suc zero)) (gcons a b)) = Then (of_tree a) (of_tree b)
of_tree (gcons (gnum (suc (suc zero))) (gcons a b)) = OneOf (of_tree a) (of_tree b)
of_tree (gcons (gnum (suc (suc (suc n)))) a) = Chain (of_tree a)
of_tree _ = Along 0

pub of_tree-tree : (p : Path) → of_tree (tree p) ≡ p
of_tree-tree (Along k) = refl
of_tree-tree (Against k) = refl
of_tree-tree (Then a b) = ap₂ Then (of_tree-tree a) (of_tree-tree b)
of_tree-tree (OneOf a b) = ap₂ OneOf (of_tree-tree a) (of_tree-tree b)
of_tree-tree (Chain a) = ap Chain (of_tree-tree a)

pub tree_inj : (x y : Path) → tree x ≡ tree y → x ≡ y
tree_inj x y e = sym (of_tree-tree x) ∙ ap of_tree e ∙ of_tree-tree y

abbrev pub coded_path : Coded Path
coded_path = record { code = tree; inj = tree_inj }
