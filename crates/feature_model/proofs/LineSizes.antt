-- The condition of a line is no larger than what its document allows.
use Rattle.std.proofs.Common.{◌≡◌, ◌∙◌, sym, ap, ap₂, subst, ℕ, zero, suc, ◌+◌, ◌*◌, ◌^◌, ◌≤◌, List, [], ◌∷◌, length, map, Option, Some, None, arith}
use Rattle.std.specs.Prelude.{option_map, option_and_then, unwrap_or, sum_by, codes}
use Rattle.std.proofs.Math.Nat.{pow-suc, pow-zero}
use Rattle.std.proofs.lemmas.List.{length-map}
use Rattle.std.proofs.lemmas.List.Sums.{sum_by-append}
use Rattle.meaning.specs.Documents.{Document, texts_in, list_at, table_at}
use Rattle.meaning.specs.Expressions.{Expression, Top, Not, Both, Implies, size_of, expression_of}
use Rattle.meaning.specs.Features.{Feature, feature_names, line_from, first_two, constraint_from, constraint_of, list_member, text_member}
use Rattle.meaning.specs.Bounds.{rule_size, line_asks}
use Rattle.cond_text.specs.View.{expression}
use Rattle.feature_model.specs.Contents.{Contents, line_view, expressions_size, constraints_size}
use Rattle.feature_model.specs.Reading.{names_told}
use Rattle.feature_model.proofs.FeatureReading.{names_of_features}

two_size : (names ss : List (List ℕ)) (make : Expression → Expression → Expression) → ((a b : List ℕ) → size_of (first_two names (a ∷ b ∷ []) make) ≤ 4) → size_of (first_two names ss make) ≤ 4
two_size names [] make h = omega arith
two_size names (a ∷ []) make h = omega arith
two_size names (a ∷ b ∷ rest) make h = h a b

-- of a rule
constraint_size : (names : List (List ℕ)) (d : Document) → 1 + size_of (constraint_of names d) ≤ rule_size names d
constraint_size names d = go (list_member (codes "requires") d) (list_member (codes "excludes") d) (text_member (codes "holds") d)
  where
    go : (needs bars : Option (List Document)) (holds : Option (List ℕ))
        → 1 + size_of (constraint_from names needs bars holds) ≤ 8 + unwrap_or (option_map size_of (option_and_then (expression_of names) holds)) 0
    go (Some ds) bars holds = let s = two_size names (texts_in ds) Implies (λ a b. omega arith) in omega arith
    go None (Some ds) holds = let s = two_size names (texts_in ds) (λ a b. Not (Both a b)) (λ a b. omega arith) in omega arith
    go None None (Some s) = text (expression_of names s)
      where
        text : (o : Option Expression) → 1 + size_of (unwrap_or o Top) ≤ 8 + unwrap_or (option_map size_of o) 0
        text None = omega arith
        text (Some e) = omega arith
    go None None None = omega arith

constraints_sizes : (names : List (List ℕ)) (ds : List Document) → expressions_size (map (constraint_of names) ds) ≤ sum_by (rule_size names) ds
constraints_sizes names [] = omega arith
constraints_sizes names (d ∷ ds) =
    let here = constraint_size names d in
    let rest = constraints_sizes names ds in
    let whole : sum_by (rule_size names) (d ∷ ds) ≡ 0 + rule_size names d + sum_by (rule_size names) ds = sum_by-append (rule_size names) (d ∷ []) ds in
    omega arith

pow_two : (m : ℕ) → m ^ 2 ≡ m * m
pow_two m =
    let none : m ^ 0 ≡ 1 = pow-zero m in
    let one : m ^ 0 * m ≡ m = ap (λ k. k * m) none ∙ (let e : 1 * m ≡ m = omega arith in e) in
    pow-suc m 1 ∙ ap (λ k. k * m) (pow-suc m 0 ∙ one)

squares : (n : ℕ) → 1 + 40 * n ≤ 16 * (n + 1) ^ 2
squares n = subst (λ m. 1 + 40 * n ≤ 16 * m) (sym (pow_two (n + 1))) (go n)
  where
    go : (n : ℕ) → 1 + 40 * n ≤ 16 * ((n + 1) * (n + 1))
    go zero = omega arith
    go (suc k) = omega arith

asks_enough : (names : List (List ℕ)) (bundle : Document) (es : List Expression)
    → es ≡ map (constraint_of names) (list_at (codes "rules") (table_at (codes "line") bundle))
    → 1 + 40 * length names + expressions_size es ≤ line_asks names bundle
asks_enough names bundle es is =
    let a = squares (length names) in
    let b = constraints_sizes names (list_at (codes "rules") (table_at (codes "line") bundle)) in
    let c = ap expressions_size is in omega arith

pub line_asks_enough : (line : Contents) (t bundle : Document) → t ≡ table_at (codes "line") bundle → line_view line ≡ line_from (names_told t) t
    → 1 + 40 * length line.features + constraints_size line ≤ line_asks (feature_names (line_view line)) bundle
line_asks_enough line t bundle is told =
    let ds = list_at (codes "features") t in
    let names : feature_names (line_view line) ≡ names_told t = ap feature_names told ∙ names_of_features (names_told t) ds in
    let constraints : map expression line.constraints ≡ map (constraint_of (feature_names (line_view line))) (list_at (codes "rules") (table_at (codes "line") bundle)) =
    ap (λ l. l.constraints) told ∙ ap₂ (λ ns t. map (constraint_of ns) (list_at (codes "rules") t)) (sym names) is in
    let many = length-map line.features (λ (f : Feature). f.name) in
    let enough = asks_enough (feature_names (line_view line)) bundle (map expression line.constraints) constraints in omega arith
