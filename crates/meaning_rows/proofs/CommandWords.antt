-- Words of command lines, good and bad, computed by the check.
use Rattle.std.specs.Prelude.{◌≡◌, ℕ, List, [], ◌∷◌, Option, Some, None, refl, codes, map}
use Rattle.meaning.specs.Documents.{Json, Toml}
use Rattle.meaning.specs.Words.{Task, Build, Derive, Audit, Replay, Generate, Workload, Invocation, invocation_of, knows_all, knows_build, form_named}
use Rattle.meaning_rows.proofs.Samples.{meaning_on_literals}

-- after the program's name

words : List (List ℕ) → Option Invocation
words ws = invocation_of knows_all (codes "plcase" ∷ ws)

given : Task → ℕ → Option Invocation
given task limit = Some (record { task = task; node_limit = limit })

build_alone : words (codes "build" ∷ []) ≡ None
unfolding meaning_on_literals words given invocation_of
build_alone = refl

no_words : words ([]) ≡ None
unfolding meaning_on_literals words given invocation_of
no_words = refl

limit_of_none : words (codes "build" ∷ codes "f" ∷ codes "--nodes" ∷ codes "0" ∷ []) ≡ None
unfolding meaning_on_literals words given invocation_of
limit_of_none = refl

limit_too_great : words (codes "build" ∷ codes "f" ∷ codes "--nodes" ∷ codes "1048577" ∷ []) ≡ None
unfolding meaning_on_literals words given invocation_of
limit_too_great = refl

size_too_small : words (codes "workload" ∷ codes "1" ∷ codes "2" ∷ []) ≡ None
unfolding meaning_on_literals words given invocation_of
size_too_small = refl

unknown_command : words (codes "paint" ∷ codes "f" ∷ []) ≡ None
unfolding meaning_on_literals words given invocation_of
unknown_command = refl

too_many_files : words (codes "derive" ∷ codes "a" ∷ codes "b" ∷ codes "c" ∷ []) ≡ None
unfolding meaning_on_literals words given invocation_of
too_many_files = refl

sign_in_number : words (codes "workload" ∷ codes "+1" ∷ codes "3" ∷ []) ≡ None
unfolding meaning_on_literals words given invocation_of
sign_in_number = refl

number_too_great : words (codes "workload" ∷ codes "4294967296" ∷ codes "3" ∷ []) ≡ None
unfolding meaning_on_literals words given invocation_of
number_too_great = refl

eleven_digits : words (codes "workload" ∷ codes "00000000001" ∷ codes "3" ∷ []) ≡ None
unfolding meaning_on_literals words given invocation_of
eleven_digits = refl

other_option : words (codes "build" ∷ codes "f" ∷ codes "--limit" ∷ codes "8" ∷ []) ≡ None
unfolding meaning_on_literals words given invocation_of
other_option = refl

builds : words (codes "build" ∷ codes "f.json" ∷ []) ≡ given (Build (codes "f.json")) 262144
unfolding meaning_on_literals words given invocation_of
builds = refl

builds_within : words (codes "build" ∷ codes "f.json" ∷ codes "--nodes" ∷ codes "8" ∷ []) ≡ given (Build (codes "f.json")) 8
unfolding meaning_on_literals words given invocation_of
builds_within = refl

derives : words (codes "derive" ∷ codes "c" ∷ codes "k" ∷ codes "--nodes" ∷ codes "0001048576" ∷ []) ≡ given (Derive (codes "c") (codes "k")) 1048576
unfolding meaning_on_literals words given invocation_of
derives = refl

replays_one : words (codes "replay" ∷ codes "b" ∷ codes "k" ∷ codes "r" ∷ codes "--nodes" ∷ codes "1" ∷ []) ≡ given (Replay (codes "b") (codes "k") (codes "r")) 1
unfolding meaning_on_literals words given invocation_of
replays_one = refl

audits : words (codes "audit" ∷ codes "b" ∷ codes "c" ∷ []) ≡ given (Audit (codes "b") (codes "c")) 262144
unfolding meaning_on_literals words given invocation_of
audits = refl

generates_last : words (codes "generate" ∷ codes "4294967295" ∷ codes "200" ∷ []) ≡ given (Generate 4294967295 200) 262144
unfolding meaning_on_literals words given invocation_of
generates_last = refl

works : words (codes "workload" ∷ codes "007" ∷ codes "3" ∷ []) ≡ given (Workload 7 3) 262144
unfolding meaning_on_literals words given invocation_of
works = refl

not_known_yet : invocation_of knows_build (codes "plcase" ∷ codes "rules" ∷ codes "c" ∷ []) ≡ None
unfolding meaning_on_literals invocation_of
not_known_yet = refl

no_program : invocation_of knows_all [] ≡ None
unfolding meaning_on_literals invocation_of
no_program = refl

toml_by_name : map form_named (codes "t.toml" ∷ codes ".toml" ∷ codes "toml" ∷ codes "t.TOML" ∷ codes "t.json" ∷ codes "" ∷ []) ≡ Toml ∷ Toml ∷ Json ∷ Json ∷ Json ∷ Json ∷ []
unfolding meaning_on_literals
toml_by_name = refl
