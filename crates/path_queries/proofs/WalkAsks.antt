-- What the walks of a path ask, by its parts.
use Rattle.std.proofs.Common.{◌≡◌, ◌∙◌, sym, ap, subst, ℕ, ◌+◌, ◌*◌, ◌^◌, ◌≤◌, arith}
use Rattle.std.proofs.Math.Nat.{mul-le-mul, add-mul, mul_assoc, mul_comm, pow-suc, pow-zero}

module _ (p q k : ℕ) where
  spread : (1 + p + q) * k ≡ k + p * k + q * k
  spread = add-mul (1 + p) q k ∙ ap (λ n. n + q * k) (add-mul 1 p k) ∙ one
    where
      one : 1 * k + p * k + q * k ≡ k + p * k + q * k
      one = omega arith

  pub first_within : p * k ≤ (1 + p + q) * k
  first_within = let is = spread in omega (arith, is)

  pub both_within : p * k + q * k ≤ (1 + p + q) * k
  both_within = let is = spread in omega (arith, is)

  pub joined_within : (u : ℕ) → u ≤ k → p * k + q * k + u ≤ (1 + p + q) * k
  joined_within u less = let is = spread in omega (arith, is, less)

pub step_within : (p k : ℕ) → p * k ≤ (1 + p) * k
step_within p k = let is = add-mul 1 p k in omega (arith, is)

pub chained_within : (p k u : ℕ) → u ≤ k → p * k + u ≤ (1 + p) * k
chained_within p k u less = let is = add-mul 1 p k in omega (arith, is, less)

pub one_within : (k u : ℕ) → u ≤ k → u ≤ 1 * k
one_within k u less = omega (arith, less)

-- ---- against the cube of the elements

cube : (n : ℕ) → n ^ 3 ≡ n * n * n
cube n = pow-suc n 2 ∙ ap (λ k. k * n) (pow-suc n 1 ∙ ap (λ k. k * n) (pow-suc n 0 ∙ one))
  where
    once : (k : ℕ) → 1 * k ≡ k
    once k = omega arith

    one : n ^ 0 * n ≡ n
    one = ap (λ k. k * n) (pow-zero n) ∙ once n

module _ (n links : ℕ) where
  cube_within : n * n * n ≤ (n + 1) ^ 3
  cube_within =
      let less : n ≤ n + 1 = omega arith in
      subst (λ k. n * n * n ≤ k) (sym (cube (n + 1))) (mul-le-mul (mul-le-mul less less) less)

  doubled : n * n * (2 * n) ≡ 2 * (n * n * n)
  doubled = sym (mul_assoc (n * n) 2 n) ∙ ap (λ k. k * n) (mul_comm (n * n) 2) ∙ mul_assoc 2 (n * n) n

  pub compose_within : n * n * (2 * n) ≤ 16 * (links + (n + 1) ^ 3)
  compose_within = let is = doubled in let less = cube_within in omega (arith, is, less)

  pub chain_within : n * (n * n * 2) ≤ 16 * (links + (n + 1) ^ 3)
  chain_within =
      let is : n * (n * n * 2) ≡ 2 * (n * n * n) = mul_comm n (n * n * 2) ∙ ap (λ k. k * n) (mul_comm (n * n) 2) ∙ mul_assoc 2 (n * n) n in
      let less = cube_within in
      omega (arith, is, less)

  pub unite_within : n * n ≤ 16 * (links + (n + 1) ^ 3)
  unite_within =
      let less : n ≤ n + 1 = omega arith in
      let one : 1 ≤ n + 1 = omega arith in
      let square : n * n * 1 ≤ (n + 1) * (n + 1) * (n + 1) = mul-le-mul (mul-le-mul less less) one in
      let is = cube (n + 1) in
      omega (arith, square, is)

  pub links_within : links ≤ 16 * (links + (n + 1) ^ 3)
  links_within = omega arith
