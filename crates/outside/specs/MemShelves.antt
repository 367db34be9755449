-- What a shelf in memory holds and has counted.
use Rattle.std.specs.Prelude.{◌≡◌, ◌||◌, ◌&&◌, ℕ, List, Bool, Option, is_none}
use Rattle.std.specs.Str.{bytes_eq}
use Rattle.outside.specs.declared.mem_shelf.MemShelf.{MemShelf}
use Rattle.outside.specs.MemFiles.{place, held, count_of}

-- the bytes under a name
abbrev pub bytes_under : MemShelf → List ℕ → Option (List ℕ)
bytes_under shelf name = held shelf.files.items name

-- how often a read under a name failed
abbrev pub faults_under : MemShelf → List ℕ → ℕ
faults_under shelf name = (count_of shelf.counts.items shelf.missing (place shelf.files.items name)).faults

-- how many bytes were given under a name
abbrev pub given_under : MemShelf → List ℕ → ℕ
given_under shelf name = (count_of shelf.counts.items shelf.missing (place shelf.files.items name)).given

-- the place after the bytes that the last read gave
abbrev pub next_place : MemShelf → ℕ
next_place shelf = shelf.next

-- how many reads there were, which is the number of the next one
abbrev pub reads_made : MemShelf → ℕ
reads_made shelf = shelf.reads

-- the numbers of the reads that fail
abbrev pub failing_reads : MemShelf → List ℕ
failing_reads shelf = shelf.failing.items

-- a failure under the name is counted at the other one too: they are equal, or no file has either
abbrev pub shares_count : MemShelf → List ℕ → List ℕ → Bool
shares_count shelf name other = bytes_eq name other || (is_none (bytes_under shelf name) && is_none (bytes_under shelf other))

-- no count and no number of a read changed
pub record SameCounts (old new : MemShelf) : Type 0 where
  pub faults : (name : List ℕ) → faults_under new name ≡ faults_under old name
  pub given : (name : List ℕ) → given_under new name ≡ given_under old name
  pub next : next_place new ≡ next_place old
  pub reads : reads_made new ≡ reads_made old
  pub failing : failing_reads new ≡ failing_reads old
