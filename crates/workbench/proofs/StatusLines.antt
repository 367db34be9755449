-- The lines of the statuses that print numbers, as a writer puts them together.
use Rattle.std.proofs.Common.{lit<, ◌≡◌, sym, ap, ◌∙◌, ℕ, List, [], ◌∷◌, ◌++◌, append_assoc, arith}
use Rattle.std.proofs.lemmas.Grind.{common_steps}
use Rattle.std.proofs.lemmas.Fmt.{decimal_digit}
use Rattle.std.specs.Prelude.{codes, decimal}
use Rattle.meaning.specs.BundlePlaces.{BundleFault, part_word}
use Rattle.meaning.specs.CaseReading.{CaseFault}
use Rattle.meaning.specs.Statuses.{status_line, NodeLimit, TooLong, ReadFault, BadBundle, BadConfig, BadCase}

pub too_long_line : (k : ℕ) → codes "plcase: file " ++ (decimal k ++ codes " too long\n") ≡ status_line (TooLong k)
unfolding status_line
too_long_line k = ap (λ s. codes "plcase: file " ++ s) (sym (append_assoc (decimal k) (codes " too long") (10 ∷ [])))

pub not_read_line : (k : ℕ) → codes "plcase: file " ++ (decimal k ++ codes " not read\n") ≡ status_line (ReadFault k)
unfolding status_line
not_read_line k = ap (λ s. codes "plcase: file " ++ s) (sym (append_assoc (decimal k) (codes " not read") (10 ∷ [])))

pub node_limit_line : (used : ℕ) → codes "plcase: node limit " ++ (decimal used ++ codes " reached\n") ≡ status_line (NodeLimit used)
unfolding status_line
node_limit_line used = ap (λ s. codes "plcase: node limit " ++ s) (sym (append_assoc (decimal used) (codes " reached") (10 ∷ [])))

-- ten parts, joined from the right or from the left
joined : (p q r t u v w x n : List ℕ)
    → p ++ (q ++ (r ++ (t ++ (u ++ (v ++ (u ++ (w ++ (u ++ (x ++ n))))))))) ≡ (p ++ q ++ r ++ (t ++ u ++ v ++ u ++ w ++ u ++ x)) ++ n
joined p q r t u v w x n = grind (arith, common_steps)

pub bad_bundle_line : (f : BundleFault)
    → codes "plcase: bundle rule B" ++ (decimal f.rule ++ (codes " at " ++ (part_word f.part ++ (codes " " ++ (decimal f.item
    ++ (codes " " ++ (decimal f.sub ++ (codes " " ++ (decimal f.at ++ codes "\n"))))))))) ≡ status_line (BadBundle f)
unfolding status_line
bad_bundle_line f =
    joined (codes "plcase: bundle rule B") (decimal f.rule) (codes " at ") (part_word f.part) (codes " ") (decimal f.item) (decimal f.sub) (decimal f.at)
    (codes "\n")

-- six parts
of_configuration : (p q r u t n : List ℕ) → p ++ (q ++ ((r ++ u) ++ (t ++ n))) ≡ ((p ++ q ++ r) ++ u ++ t) ++ n
of_configuration p q r u t n = grind (arith, common_steps)

pub bad_config_line : (rule at : ℕ)
    → codes "plcase: config rule K" ++ (decimal rule ++ (codes " at " ++ (decimal at ++ codes "\n"))) ≡ status_line (BadConfig rule at)
unfolding status_line
bad_config_line rule at = of_configuration (codes "plcase: config rule K") (decimal rule) (codes " at") (codes " ") (decimal at) (codes "\n")

-- eight parts
of_case : (p q r t u v z n : List ℕ) → p ++ (q ++ (r ++ (t ++ (u ++ (v ++ (u ++ (z ++ n))))))) ≡ (p ++ q ++ r ++ (t ++ u ++ v ++ u ++ z)) ++ n
of_case p q r t u v z n = grind (arith, common_steps)

zero_digit : decimal 0 ≡ codes "0"
zero_digit = decimal_digit 0 (lit< tt)

abbrev case_line_with : CaseFault → List ℕ → List ℕ
case_line_with f zero =
    (codes "plcase: case fault F" ++ decimal f.fault ++ codes " at " ++ (part_word f.part ++ codes " " ++ decimal f.item ++ codes " " ++ zero)) ++ codes "\n"

pub bad_case_line : (f : CaseFault)
    → codes "plcase: case fault F" ++ (decimal f.fault ++ (codes " at " ++ (part_word f.part ++ (codes " " ++ (decimal f.item ++ codes " 0\n"))))) ≡ status_line (BadCase f)
unfolding status_line
bad_case_line f =
    of_case (codes "plcase: case fault F") (decimal f.fault) (codes " at ") (part_word f.part) (codes " ") (decimal f.item) (codes "0") (codes "\n")
    ∙ ap (case_line_with f) (sym zero_digit)
