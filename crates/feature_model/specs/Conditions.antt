-- The expression that is true at exactly the valid worlds of a line, part by part.
use Rattle.std.specs.Prelude.{ℕ, zero, suc, ◌/◌, List, [], ◌∷◌, map, length, take, drop, ◌==◌, nat_le, if◌then◌else◌, Option, Some, None}
use Rattle.meaning.specs.Texts.{numbered}
use Rattle.meaning.specs.Expressions.{Expression, Top, Bottom, Name, Not, Both, Either, Implies}
use Rattle.meaning.specs.Features.{Group, Mandatory, Feature, Line, is_or, is_alternative}
use Rattle.feature_model.specs.Children.{children}

-- some of the features are true, or the expression is
abbrev pub any_or : Expression → List ℕ → Expression
any_or e [] = e
any_or e (c ∷ cs) = any_or (Either e (Name c)) cs

abbrev pub any_of : List ℕ → Expression
any_of cs = any_or Bottom cs

-- at most one of at most 2 ^ depth features is true: where one of the first half is, none of the other half is, and at most one of each half is
abbrev pub one_at_most : (depth : ℕ) → List ℕ → Expression
one_at_most zero cs = Top
one_at_most (suc depth) cs =
    if nat_le (length cs) 1 then Top
    else Both (Implies (any_of (take (length cs / 2) cs)) (Not (any_of (drop (length cs / 2) cs))))
    (Both (one_at_most depth (take (length cs / 2) cs)) (one_at_most depth (drop (length cs / 2) cs)))

-- a feature needs its parent, and the first one needs none
abbrev pub child_condition : ℕ → Option ℕ → Expression
child_condition number (Some p) = Implies (Name number) (Name p)
child_condition number None = if number == 0 then Top else Not (Name number)

-- a mandatory feature's parent needs it
abbrev pub mandatory_condition : ℕ → Group → Option ℕ → Expression
mandatory_condition number Mandatory (Some p) = Implies (Name p) (Name number)
mandatory_condition number group parent = Top

abbrev pub or_condition : ℕ → List ℕ → Expression
or_condition number cs = if length cs == 0 then Top else Implies (Name number) (any_of cs)

abbrev pub alternative_condition : ℕ → List ℕ → Expression
alternative_condition number cs = if length cs == 0 then Top else Implies (Name number) (Both (any_of cs) (one_at_most 8 cs))

-- the rules at a feature
abbrev pub feature_condition : List Feature → ℕ × Feature → Expression
feature_condition fs f =
    Both (Both (child_condition f.0 f.1.parent) (mandatory_condition f.0 f.1.group f.1.parent))
    (Both (or_condition f.0 (children is_or fs f.0)) (alternative_condition f.0 (children is_alternative fs f.0)))

-- the expression and all of these
abbrev pub and_all : Expression → List Expression → Expression
and_all e [] = e
and_all e (x ∷ xs) = and_all (Both e x) xs

-- the first feature is true
abbrev pub root_condition : List Feature → Expression
root_condition [] = Bottom
root_condition (f ∷ fs) = Name 0

abbrev pub line_condition : Line → Expression
line_condition line = and_all (and_all (root_condition line.features) (map (feature_condition line.features) (numbered line.features))) line.constraints
