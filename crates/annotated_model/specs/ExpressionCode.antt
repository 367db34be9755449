-- The code of an expression, by which proofs tell the values apart that hold it: a tree of numbers that gives it back.
use Rattle.std.specs.Prelude.{◌≡◌, zero, suc, refl}
use Rattle.std.proofs.Common.{sym, ap, ap₂, ◌∙◌}
use base.Stored.{Gv, gnil, gnum, gcons, Coded}
use Rattle.meaning.specs.Expressions.{Expression, Top, Bottom, Name, Not, Both, Either, Implies, Same}

abbrev pub tree : Expression → Gv
tree Top = gnil
tree Bottom = gnum 0
tree (Name n) = gnum (suc n)
tree (Not a) = gcons gnil (tree a)
tree (Both a b) = gcons (gnum 0) (gcons (tree a) (tree b))
tree (Either a b) = gcons (gnum 1) (gcons (tree a) (tree b))
tree (Implies a b) = gcons (gnum 2) (gcons (tree a) (tree b))
tree (Same a b) = gcons (gnum 3) (gcons (tree a) (tree b))

abbrev pub of_tree : Gv → Expression
of_tree gnil = Top
of_tree (gnum zero) = Bottom
of_tree (gnum (suc n)) = Name n
of_tree (gcons gnil a) = Not (of_tree a)
of_tree (gcons (gnum zero) (gcons a b)) = Both (of_tree a) (of_tree b)
of_tree (gcons (gnum (suc zero)) (gcons a b)) = Either (of_tree a) (of_tree b)
of_tree (gcons (gnum (suc (suc zero))) (gcons a b)) = Implies (of_tree a) (of_tree b)
of_tree (gcons (gnum (suc (suc (suc n)))) (gcons a b)) = Same (of_tree a) (of_tree b)
of_tree _ = Top

pub of_tree-tree : (e : Expression) → of_tree (tree e) ≡ e
of_tree-tree Top = refl
of_tree-tree Bottom = refl
of_tree-tree (Name n) = refl
of_tree-tree (Not a) = ap Not (of_tree-tree a)
of_tree-tree (Both a b) = ap₂ Both (of_tree-tree a) (of_tree-tree b)
of_tree-tree (Either a b) = ap₂ Either (of_tree-tree a) (of_tree-tree b)
of_tree-tree (Implies a b) = ap₂ Implies (of_tree-tree a) (of_tree-tree b)
of_tree-tree (Same a b) = ap₂ Same (of_tree-tree a) (of_tree-tree b)

pub tree_inj : (x y : Expression) → tree x ≡ tree y → x ≡ y
tree_inj x y e = sym (of_tree-tree x) ∙ ap of_tree e ∙ of_tree-tree y

abbrev pub coded_expression : Coded Expression
coded_expression = record { code = tree; inj = tree_inj }
