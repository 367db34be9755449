-- The counts that lie beside the files of a shelf in memory.
use Rattle.std.proofs.Common.{◌≡◌, ◌≢◌, ◌<◌, ◌≤◌, ◌||◌, ◌&&◌, ℕ, zero, suc, List, [], ◌∷◌, ◌++◌, length, get_or, Bool, true, false, Some, is_none, if◌then◌else◌, string_bytes, bytes_eq, refl, sym, ap, ◌∙◌, arith}
use Rattle.std.proofs.Math.ListN.{set}
use Rattle.std.proofs.lemmas.List.{get_or_default, get_or-set_same, get_or-set_other}
use Rattle.std.proofs.lemmas.Slice.Eq.{bytes_eq-Decides}
use Rattle.outside.specs.declared.mem_shelf.MemFile.{MemFile}
use Rattle.outside.specs.declared.mem_shelf.ReadCounts.{ReadCounts}
use Rattle.outside.specs.MemFiles.{is_named, place, held, count_of}
use Rattle.outside.proofs.MemFiles.{present-at, absent-at, place-same, apart}
use Rattle.meaning.specs.Counts.{counted}

-- another file of the same name leaves all places
place-set : (files : List MemFile) (i : ℕ) (g : MemFile) (other : List ℕ) → g.name ≡ (get_or files i g).name → place (set files i g) other ≡ place files other
place-set [] i g other same = refl
place-set (f ∷ files) zero g other same = ap (λ n. if bytes_eq (string_bytes n) other then 0 else suc (place files other)) same
place-set (f ∷ files) (suc i) g other same = ap (λ p. if is_named other f then 0 else suc p) (place-set files i g other same)

pub place-set-at : (files : List MemFile) (i : ℕ) (old g : MemFile) (other : List ℕ) → i < length files → old ≡ get_or files i old → g.name ≡ old.name
    → place (set files i g) other ≡ place files other
place-set-at files i old g other h at same =
    place-set files i g other (same ∙ ap (λ f. f.name) (at ∙ get_or_default files i old g h))

-- one more item that equals the default changes no look-up
get_or-default_pushed : (counts : List ReadCounts) (i : ℕ) (d : ReadCounts) → get_or (counts ++ d ∷ []) i d ≡ get_or counts i d
get_or-default_pushed [] zero d = refl
get_or-default_pushed [] (suc i) d = refl
get_or-default_pushed (c ∷ counts) zero d = refl
get_or-default_pushed (c ∷ counts) (suc i) d = get_or-default_pushed counts i d

-- nor does a further file, beyond all counts
get_or-place_pushed : (files : List MemFile) (counts : List ReadCounts) (g : MemFile) (other : List ℕ) (d : ReadCounts) → length counts ≡ length files
    → get_or counts (place (files ++ g ∷ []) other) d ≡ get_or counts (place files other) d
get_or-place_pushed files [] g other d e = refl
get_or-place_pushed [] (c ∷ counts) g other d e = absurd (omega (arith, e))
get_or-place_pushed (f ∷ files) (c ∷ counts) g other d e =
    let P : Bool → Type 0 = λ b. get_or (c ∷ counts) (if b then 0 else suc (place (files ++ g ∷ []) other)) d ≡ get_or (c ∷ counts) (if b then 0 else suc (place files other)) d in
    elim (is_named other f) as P [ true ↦ refl | false ↦ get_or-place_pushed files counts g other d (omega (arith, e)) ]

pub count_of-pushed : (files new : List MemFile) (counts with_room more : List ReadCounts) (missing : ℕ) (g : MemFile) (other : List ℕ) → length counts ≡ length files
    → new ≡ files ++ g ∷ [] → with_room ≡ counts → more ≡ with_room ++ (record { faults = missing; given = 0 }) ∷ [] → count_of more missing (place new other) ≡ count_of counts missing (place files other)
count_of-pushed files new counts with_room more missing g other e at_new at_room at_more =
    rw (at_new, at_more, at_room) (get_or-default_pushed counts (place (files ++ g ∷ []) other) _ ∙ get_or-place_pushed files counts g other _ e)

-- a failure under a name with a file is counted there alone
pub faults-set : (files list : List MemFile) (counts : List ReadCounts) (missing : ℕ) (name other : List ℕ) (i : ℕ) (was c : ReadCounts) → length counts ≡ length files
    → list ≡ files → i ≡ place list name → i < length files → was ≡ get_or counts i was → c.faults ≡ counted was.faults 1
    → (count_of (set counts i c) missing (place files other)).faults
    ≡ (if bytes_eq name other || (is_none (held files name) && is_none (held files other)) then counted (count_of counts missing (place files other)).faults 1 else (count_of counts missing (place files other)).faults)
faults-set files list counts missing name other i was c e same_list is h at risen =
    let i_is : i ≡ place files name = is ∙ ap (λ fs. place fs name) same_list in
    let within : i < length counts = omega (arith, e) in
    let d : ReadCounts = record { faults = missing; given = 0 } in
    let known : get_or counts i d ≡ was = get_or_default counts i d was within ∙ sym at in
    let P : Bool → Type 0 = λ b. bytes_eq name other ≡ b → (get_or (set counts i c) (place files other) d).faults
    ≡ (if b || (false && is_none (held files other)) then counted (get_or counts (place files other) d).faults 1 else (get_or counts (place files other) d).faults) in
    rw (present-at files list name i same_list is h) ((elim (bytes_eq name other) as P [
      | true ↦ λ t.
          let there : place files other ≡ i = ap (place files) (sym ((bytes_eq-Decides name other).0 t)) ∙ sym i_is in
          rw (there, known) (ap (λ x. x.faults) (get_or-set_same counts i c d within) ∙ risen)
      | false ↦ λ t.
          let differ : place files other ≢ i = λ same.
          let equal : name ≡ other = place-same files name other (omega (arith, i_is)) (same ∙ i_is) in
          let yes : bytes_eq name other ≡ true = (bytes_eq-Decides name other).1 equal in (cc) in
          ap (λ x. x.faults) (get_or-set_other counts i (place files other) c d differ)
    ]) refl)

-- a failure under a name with no file is counted at all names with no file
pub faults-missing : (files : List MemFile) (counts : List ReadCounts) (missing risen : ℕ) (name other : List ℕ) → length counts ≡ length files
    → length files ≤ place files name → risen ≡ counted missing 1
    → (count_of counts risen (place files other)).faults
    ≡ (if bytes_eq name other || is_none (held files other) then counted (count_of counts missing (place files other)).faults 1 else (count_of counts missing (place files other)).faults)
faults-missing [] [] missing risen name other e h is =
    let P : Bool → Type 0 = λ b. risen ≡ (if b || true then counted missing 1 else missing) in
    elim (bytes_eq name other) as P [ true ↦ is | false ↦ is ]
faults-missing [] (c ∷ counts) missing risen name other e h is = absurd (omega (arith, e))
faults-missing (f ∷ files) [] missing risen name other e h is = absurd (omega (arith, e))
faults-missing (f ∷ files) (c ∷ counts) missing risen name other e h is =
    let d : ReadCounts = record { faults = missing; given = 0 } in
    let d' : ReadCounts = record { faults = risen; given = 0 } in
    let P : Bool → Type 0 = λ b. is_named name f ≡ b → suc (length files) ≤ (if b then 0 else suc (place files name))
    → (get_or (c ∷ counts) (place (f ∷ files) other) d').faults
    ≡ (if bytes_eq name other || is_none (held (f ∷ files) other) then counted (get_or (c ∷ counts) (place (f ∷ files) other) d).faults 1 else (get_or (c ∷ counts) (place (f ∷ files) other) d).faults) in
    (elim (is_named name f) as P [
      | true ↦ λ t k. absurd (omega arith)
      | false ↦ λ t k.
          let Q : Bool → Type 0 = λ b. is_named other f ≡ b → (get_or (c ∷ counts) (if b then 0 else suc (place files other)) d').faults
          ≡ (if bytes_eq name other || is_none (if b then Some f.bytes.items else held files other) then counted (get_or (c ∷ counts) (if b then 0 else suc (place files other)) d).faults 1 else (get_or (c ∷ counts) (if b then 0 else suc (place files other)) d).faults) in
          (elim (is_named other f) as Q [
            | true ↦ λ u.
                let differ : name ≡ other → ⊥ = λ same. let yes : is_named name f ≡ true = ap (λ n. is_named n f) same ∙ u in (cc) in
                rw (apart name other differ) refl
            | false ↦ λ u. faults-missing files counts missing risen name other (omega (arith, e)) (omega arith) is
          ]) refl
    ]) refl h

-- the same, for what a reader has
pub faults-absent : (files list : List MemFile) (counts : List ReadCounts) (missing risen : ℕ) (name other : List ℕ) (i : ℕ) → length counts ≡ length files
    → list ≡ files → i ≡ place list name → length files ≤ i → risen ≡ counted missing 1
    → (count_of counts risen (place files other)).faults
    ≡ (if bytes_eq name other || (is_none (held files name) && is_none (held files other)) then counted (count_of counts missing (place files other)).faults 1 else (count_of counts missing (place files other)).faults)
faults-absent files list counts missing risen name other i e same_list is h more =
    let i_is : i ≡ place files name = is ∙ ap (λ fs. place fs name) same_list in
    rw (absent-at files list name i same_list is h) (faults-missing files counts missing risen name other e (omega (arith, i_is)) more)

-- bytes are given under the name of a file, and counted there alone
pub given-set : (files list : List MemFile) (counts : List ReadCounts) (missing n : ℕ) (name other : List ℕ) (i : ℕ) (was c : ReadCounts) → length counts ≡ length files
    → list ≡ files → i ≡ place list name → i < length files → was ≡ get_or counts i was → c.given ≡ counted was.given n
    → (count_of (set counts i c) missing (place files other)).given
    ≡ (if bytes_eq name other then counted (count_of counts missing (place files other)).given n else (count_of counts missing (place files other)).given)
given-set files list counts missing n name other i was c e same_list is h at risen =
    let i_is : i ≡ place files name = is ∙ ap (λ fs. place fs name) same_list in
    let within : i < length counts = omega (arith, e) in
    let d : ReadCounts = record { faults = missing; given = 0 } in
    let known : get_or counts i d ≡ was = get_or_default counts i d was within ∙ sym at in
    let P : Bool → Type 0 = λ b. bytes_eq name other ≡ b → (get_or (set counts i c) (place files other) d).given
    ≡ (if b then counted (get_or counts (place files other) d).given n else (get_or counts (place files other) d).given) in
    (elim (bytes_eq name other) as P [
      | true ↦ λ t.
          let there : place files other ≡ i = ap (place files) (sym ((bytes_eq-Decides name other).0 t)) ∙ sym i_is in
          rw (there, known) (ap (λ x. x.given) (get_or-set_same counts i c d within) ∙ risen)
      | false ↦ λ t.
          let differ : place files other ≢ i = λ same.
          let equal : name ≡ other = place-same files name other (omega (arith, i_is)) (same ∙ i_is) in
          let yes : bytes_eq name other ≡ true = (bytes_eq-Decides name other).1 equal in (cc) in
          ap (λ x. x.given) (get_or-set_other counts i (place files other) c d differ)
    ]) refl

-- a failure under a name with a file leaves what was given
pub given-kept : (counts : List ReadCounts) (missing i place_of_other : ℕ) (was c : ReadCounts) → was ≡ get_or counts i was → c.given ≡ was.given
    → (count_of (set counts i c) missing place_of_other).given ≡ (count_of counts missing place_of_other).given
given-kept [] missing i p was c at same = refl
given-kept (x ∷ counts) missing zero zero was c at same = same ∙ ap (λ x. x.given) at
given-kept (x ∷ counts) missing zero (suc p) was c at same = refl
given-kept (x ∷ counts) missing (suc i) zero was c at same = refl
given-kept (x ∷ counts) missing (suc i) (suc p) was c at same = given-kept counts missing i p was c at same

-- and so does one under a name with no file
pub given-absent : (counts : List ReadCounts) (missing risen place_of_other : ℕ)
    → (count_of counts risen place_of_other).given ≡ (count_of counts missing place_of_other).given
given-absent [] missing risen p = refl
given-absent (x ∷ counts) missing risen zero = refl
given-absent (x ∷ counts) missing risen (suc p) = given-absent counts missing risen p
