-- The files of a shelf in memory, and the counts that lie beside them.
use Rattle.std.specs.Prelude.{ℕ, suc, List, [], ◌∷◌, Bool, Option, Some, None, if◌then◌else◌, string_bytes, slice_index_or}
use Rattle.std.specs.Str.{bytes_eq}
use Rattle.outside.specs.declared.mem_shelf.MemFile.{MemFile}
use Rattle.outside.specs.declared.mem_shelf.ReadCounts.{ReadCounts}

abbrev pub is_named : List ℕ → MemFile → Bool
is_named name file = bytes_eq (string_bytes file.name) name

-- the place of a name, or how many files there are
abbrev pub place : List MemFile → List ℕ → ℕ
place [] name = 0
place (file ∷ files) name = if is_named name file then 0 else suc (place files name)

-- the bytes under a name
abbrev pub held : List MemFile → List ℕ → Option (List ℕ)
held [] name = None
held (file ∷ files) name = if is_named name file then Some file.bytes.items else held files name

-- the counts at a place; the names with no file share one count of faults
abbrev pub count_of : List ReadCounts → ℕ → ℕ → ReadCounts
count_of counts missing i = slice_index_or counts i (record { faults = missing; given = 0 })
