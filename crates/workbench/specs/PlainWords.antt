-- What the words of a command line are where `build`, `derive` and `product` are the commands, said by the number of words.
use Rattle.std.specs.Prelude.{ℕ, List, [], ◌∷◌, if◌then◌else◌, Option, Some, None, codes, bytes_eq}
use Rattle.meaning.specs.Words.{Task, Build, Derive, Product, Invocation, with_limit, default_limit, limit_of}

-- a command with one file
abbrev pub plain_task_of_one : (command file : List ℕ) → Option Task
plain_task_of_one command file = if bytes_eq command (codes "build") then Some (Build file) else None

-- a command with two files
abbrev pub plain_task_of_two : (command file configuration : List ℕ) → Option Task
plain_task_of_two command file configuration =
    if bytes_eq command (codes "derive") then Some (Derive file configuration)
    else (if bytes_eq command (codes "product") then Some (Product file configuration) else None)

-- the program's name first
abbrev pub plain_invocation : List (List ℕ) → Option Invocation
plain_invocation (program ∷ command ∷ a ∷ []) = with_limit (Some default_limit) (plain_task_of_one command a)
plain_invocation (program ∷ command ∷ a ∷ b ∷ []) = with_limit (Some default_limit) (plain_task_of_two command a b)
plain_invocation (program ∷ command ∷ a ∷ option ∷ number ∷ []) = with_limit (limit_of option number) (plain_task_of_one command a)
plain_invocation (program ∷ command ∷ a ∷ b ∷ option ∷ number ∷ []) = with_limit (limit_of option number) (plain_task_of_two command a b)
plain_invocation _ = None
