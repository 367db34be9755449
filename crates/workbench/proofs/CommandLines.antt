-- What a command line is, word by word, and against the words of a program that knows more commands.
use Rattle.std.proofs.Common.{◌≡◌, refl, sym, ap, ◌∙◌, ℕ, List, [], ◌∷◌, length, map, get_or, String, Global, string_bytes, arith}
use Rattle.std.specs.Prelude.{◌^◌, ◌-◌, Bool, true, false, if◌then◌else◌, Option, Some, None, option_map, option_and_then, codes, bytes_eq}
use Rattle.std.proofs.lemmas.Slice.Eq.{bytes_eq-Decides}
use Rattle.meaning.specs.Words.{Task, Build, Derive, Product, Evidence, TestRules, Audit, Report, Replay, Generate, Workload, Invocation, number_within, generated, task_of_one, task_of_two, task_of_three, with_limit, default_limit, either_of, if_known, knows_deriving, limit_of, invocation_of}
use Rattle.workbench.specs.PlainWords.{plain_invocation, plain_task_of_one, plain_task_of_two}

-- six words, each told by its place
pub six_words : (ws : List (String Global)) (a b c o n : String Global) → length ws ≡ 6
    → a ≡ get_or ws 1 a → b ≡ get_or ws 2 b → c ≡ get_or ws 3 c → o ≡ get_or ws 4 o → n ≡ get_or ws 5 n
    → with_limit (limit_of (string_bytes o) (string_bytes n)) (plain_task_of_two (string_bytes a) (string_bytes b) (string_bytes c)) ≡ plain_invocation (map string_bytes ws)
six_words [] a b c o n l ea eb ec eo en = absurd (omega (arith, l))
six_words (p ∷ []) a b c o n l ea eb ec eo en = absurd (omega (arith, l))
six_words (p ∷ q ∷ []) a b c o n l ea eb ec eo en = absurd (omega (arith, l))
six_words (p ∷ q ∷ r ∷ []) a b c o n l ea eb ec eo en = absurd (omega (arith, l))
six_words (p ∷ q ∷ r ∷ s ∷ []) a b c o n l ea eb ec eo en = absurd (omega (arith, l))
six_words (p ∷ q ∷ r ∷ s ∷ t ∷ []) a b c o n l ea eb ec eo en = absurd (omega (arith, l))
six_words (p ∷ q ∷ r ∷ s ∷ t ∷ u ∷ []) a b c o n l ea eb ec eo en = rw (ea, eb, ec, eo, en) refl
six_words (p ∷ q ∷ r ∷ s ∷ t ∷ u ∷ v ∷ ws) a b c o n l ea eb ec eo en = absurd (omega (arith, l))

-- ---- the words of a program that knows all commands, of which three are known

-- what is left of a task where only `build`, `derive` and `product` are known
abbrev known : Option ℕ → Option Task → Option Invocation
known limit task = option_and_then (if_known knows_deriving) (with_limit limit task)

nothing_known : (limit : Option ℕ) → known limit None ≡ None
nothing_known None = refl
nothing_known (Some n) = refl

no_task : (limit : Option ℕ) → with_limit limit None ≡ None
no_task None = refl
no_task (Some n) = refl

unknown_task : (limit : Option ℕ) (t : Task) → knows_deriving t ≡ false → known limit (Some t) ≡ with_limit limit None
unknown_task None t e = refl
unknown_task (Some n) t e = rw e refl

known_task : (limit : Option ℕ) (t : Task) → knows_deriving t ≡ true → known limit (Some t) ≡ with_limit limit (Some t)
known_task None t e = refl
known_task (Some n) t e = rw e refl

no_more : (limit : Option ℕ) → known limit None ≡ with_limit limit None
no_more limit = nothing_known limit ∙ sym (no_task limit)

known_one : (limit : Option ℕ) (word a : List ℕ) → known limit (task_of_one word a) ≡ with_limit limit (plain_task_of_one word a)
known_one limit word a = go (bytes_eq word (codes "build")) (bytes_eq word (codes "rules")) (bytes_eq word (codes "report"))
  where
    go : (b r p : Bool)
        → known limit (if b then Some (Build a) else (if r then Some (TestRules a) else (if p then Some (Report a) else None)))
        ≡ with_limit limit (if b then Some (Build a) else None)
    go true r p = known_task limit (Build a) refl
    go false true p = unknown_task limit (TestRules a) refl
    go false false true = unknown_task limit (Report a) refl
    go false false false = no_more limit

unknown_generated : (limit : Option ℕ) (number size : Option ℕ) (make : ℕ → ℕ → Task) → ((n s : ℕ) → knows_deriving (make n s) ≡ false)
    → known limit (option_and_then (λ n. option_map (make n) size) number) ≡ with_limit limit None
unknown_generated limit None size make h = no_more limit
unknown_generated limit (Some n) None make h = no_more limit
unknown_generated limit (Some n) (Some s) make h = unknown_task limit (make n s) (h n s)

known_two : (limit : Option ℕ) (word a b : List ℕ) → known limit (task_of_two word a b) ≡ with_limit limit (plain_task_of_two word a b)
known_two limit word a b =
    go (bytes_eq word (codes "derive")) (bytes_eq word (codes "product")) (bytes_eq word (codes "evidence")) (bytes_eq word (codes "audit"))
    (bytes_eq word (codes "generate")) (bytes_eq word (codes "workload"))
  where
    go : (d p e u g w : Bool)
        → known limit (if d then Some (Derive a b) else (if p then Some (Product a b) else (if e then Some (Evidence a b)
        else (if u then Some (Audit a b) else (if g then generated Generate a b else (if w then generated Workload a b else None))))))
        ≡ with_limit limit (if d then Some (Derive a b) else (if p then Some (Product a b) else None))
    go true p e u g w = known_task limit (Derive a b) refl
    go false true e u g w = known_task limit (Product a b) refl
    go false false true u g w = unknown_task limit (Evidence a b) refl
    go false false false true g w = unknown_task limit (Audit a b) refl
    go false false false false true w =
        unknown_generated limit (number_within 0 (2 ^ 32 - 1) a) (number_within 3 200 b) Generate (λ n s. refl)
    go false false false false false true =
        unknown_generated limit (number_within 0 (2 ^ 32 - 1) a) (number_within 3 200 b) Workload (λ n s. refl)
    go false false false false false false = no_more limit

known_three : (limit : Option ℕ) (word a b c : List ℕ) → known limit (task_of_three word a b c) ≡ None
known_three limit word a b c = go (bytes_eq word (codes "replay"))
  where
    go : (r : Bool) → known limit (if r then Some (Replay a b c) else None) ≡ None
    go true = unknown_task limit (Replay a b c) refl ∙ no_task limit
    go false = nothing_known limit

same_text : (s t : List ℕ) → bytes_eq s t ≡ true → s ≡ t
same_text s t e = (bytes_eq-Decides s t).0 e

-- four words after the program's name: the three of `replay`, or one with a limit
known_four : (word a b c : List ℕ)
    → option_and_then (if_known knows_deriving) (either_of (with_limit (Some default_limit) (task_of_three word a b c)) (with_limit (limit_of b c) (task_of_one word a)))
    ≡ with_limit (limit_of b c) (plain_task_of_one word a)
known_four word a b c = go (bytes_eq word (codes "replay")) refl
  where
    go : (r : Bool) → bytes_eq word (codes "replay") ≡ r
        → option_and_then (if_known knows_deriving)
        (either_of (with_limit (Some default_limit) (if r then Some (Replay a b c) else None)) (with_limit (limit_of b c) (task_of_one word a)))
        ≡ with_limit (limit_of b c) (plain_task_of_one word a)
    go false e = known_one (limit_of b c) word a
    go true e =
        sym (no_task (limit_of b c)) ∙ ap (λ w. with_limit (limit_of b c) (plain_task_of_one w a)) (sym (same_text word (codes "replay") e))

pub known_words : (words : List (List ℕ)) → invocation_of knows_deriving words ≡ plain_invocation words
unfolding invocation_of
known_words [] = refl
known_words (p ∷ []) = refl
known_words (p ∷ w ∷ []) = refl
known_words (p ∷ w ∷ a ∷ []) = known_one (Some default_limit) w a
known_words (p ∷ w ∷ a ∷ b ∷ []) = known_two (Some default_limit) w a b
known_words (p ∷ w ∷ a ∷ b ∷ c ∷ []) = known_four w a b c
known_words (p ∷ w ∷ a ∷ b ∷ c ∷ d ∷ []) = known_two (limit_of c d) w a b
known_words (p ∷ w ∷ a ∷ b ∷ c ∷ d ∷ e ∷ []) = known_three (limit_of d e) w a b c
known_words (p ∷ w ∷ a ∷ b ∷ c ∷ d ∷ e ∷ f ∷ ws) = refl
