-- What a shelf in memory holds under a name.
use Rattle.std.proofs.Common.{None, is_none, ◌≡◌, ◌<◌, ◌≤◌, ℕ, suc, List, [], ◌∷◌, ◌++◌, ◌-◌, min, length, get_or, Bool, true, false, Option, Some, if◌then◌else◌, string_bytes, bytes_eq, refl, sym, ap, subst, ◌∙◌, arith}
use Rattle.std.proofs.Math.ListN.{set}
use Rattle.std.proofs.lemmas.Slice.Eq.{bytes_eq-Decides}
use Rattle.outside.specs.declared.mem_shelf.MemFile.{MemFile}
use Rattle.outside.specs.MemFiles.{is_named, place, held}
use Rattle.outside.specs.Pieces.{IsPart}

pub held-place : (files : List MemFile) (name : List ℕ) (d : MemFile) → place files name < length files
    → held files name ≡ Some (get_or files (place files name) d).bytes.items
held-place [] name d h = absurd (omega arith)
held-place (f ∷ files) name d h =
    let P : Bool → Type 0 = λ b. (if b then 0 else suc (place files name)) < suc (length files)
    → (if b then Some f.bytes.items else held files name) ≡ Some (get_or (f ∷ files) (if b then 0 else suc (place files name)) d).bytes.items in
    (elim (is_named name f) as P [ true ↦ λ g. refl | false ↦ λ g. held-place files name d (omega arith) ]) h

-- the file at the place of a name is what is held there
pub held-at : (files list : List MemFile) (name file bytes : List ℕ) (i : ℕ) (at : MemFile) → held files name ≡ Some file
    → list ≡ files → i ≡ place list name → i < length files → at ≡ get_or files i at → bytes ≡ at.bytes.items → bytes ≡ file
held-at files list name file bytes i at e same_list is h same same_bytes =
    let i_is : i ≡ place files name = is ∙ ap (λ fs. place fs name) same_list in
    let within : place files name < length files = omega (arith, i_is) in
    let there : get_or files (place files name) at ≡ at = ap (λ k. get_or files k at) (sym i_is) ∙ sym same in
    let found : Some file ≡ Some at.bytes.items = sym e ∙ held-place files name at within ∙ ap (λ f. Some f.bytes.items) there in
    cc

pub held-part : (files list : List MemFile) (name file bytes : List ℕ) (i from n : ℕ) (buf : List ℕ) (at : MemFile) → held files name ≡ Some file
    → list ≡ files → i ≡ place list name → i < length files → at ≡ get_or files i at → bytes ≡ at.bytes.items → IsPart bytes from n buf → IsPart file from n buf
held-part files list name file bytes i from n buf at e same_list is h same same_bytes part =
    subst (λ b. IsPart b from n buf) (held-at files list name file bytes i at e same_list is h same same_bytes) part

pub held-much : (files list : List MemFile) (name file bytes : List ℕ) (i from n m : ℕ) (at : MemFile) → held files name ≡ Some file
    → list ≡ files → i ≡ place list name → i < length files → at ≡ get_or files i at → bytes ≡ at.bytes.items → n ≡ min m (length bytes - from) → n ≡ min m (length file - from)
held-much files list name file bytes i from n m at e same_list is h same same_bytes much =
    subst (λ b. n ≡ min m (length b - from)) (held-at files list name file bytes i at e same_list is h same same_bytes) much

pub named : (name : List ℕ) (f : MemFile) → is_named name f ≡ true → string_bytes f.name ≡ name
named name f h = (bytes_eq-Decides (string_bytes f.name) name).0 h

pub apart : (xs ys : List ℕ) → (xs ≡ ys → ⊥) → bytes_eq xs ys ≡ false
apart xs ys other =
    let P : Bool → Type 0 = λ b. bytes_eq xs ys ≡ b → b ≡ false in
    (elim (bytes_eq xs ys) as P [ true ↦ λ e. absurd (other ((bytes_eq-Decides xs ys).0 e)) | false ↦ λ e. refl ]) refl

module _ (name other : List ℕ) (g : MemFile) (g_name : string_bytes g.name ≡ name) where
  -- the first file in order that has the name, where another one stands before
  between : (f : MemFile) (held_new held_old : Option (List ℕ)) (named_f : Bool) → is_named name f ≡ named_f → named_f ≡ false
      → held_new ≡ (if bytes_eq name other then Some g.bytes.items else held_old)
      → (if is_named other f then Some f.bytes.items else held_new) ≡ (if bytes_eq name other then Some g.bytes.items else (if is_named other f then Some f.bytes.items else held_old))
  between f new old b e unnamed ih =
      let P : Bool → Type 0 = λ t. is_named other f ≡ t
      → (if t then Some f.bytes.items else new) ≡ (if bytes_eq name other then Some g.bytes.items else (if t then Some f.bytes.items else old)) in
      (elim (is_named other f) as P [
        | true ↦ λ t.
            let differ : name ≡ other → ⊥ = λ same. let yes : is_named name f ≡ true = ap (λ n. is_named n f) same ∙ t in (cc) in
            rw (apart name other differ)
        | false ↦ λ t. ih
      ]) refl

  pub held-set : (files : List MemFile) → place files name < length files → held (set files (place files name) g) other ≡ (if bytes_eq name other then Some g.bytes.items else held files other)
  held-set [] h = absurd (omega arith)
  held-set (f ∷ files) h =
      let P : Bool → Type 0 = λ b. is_named name f ≡ b → (if b then 0 else suc (place files name)) < suc (length files)
      → held (set (f ∷ files) (if b then 0 else suc (place files name)) g) other
      ≡ (if bytes_eq name other then Some g.bytes.items else (if is_named other f then Some f.bytes.items else held files other)) in
      (elim (is_named name f) as P [
        | true ↦ λ e k.
            let Q : Bool → Type 0 = λ b. (if b then Some g.bytes.items else held files other) ≡ (if b then Some g.bytes.items else (if b then Some f.bytes.items else held files other)) in
            rw (g_name, named name f e) (elim (bytes_eq name other) as Q [ true ↦ refl | false ↦ refl ])
        | false ↦ λ e k. between f _ _ false e refl (held-set files (omega arith))
      ]) refl h

  pub held-push : (files : List MemFile) → length files ≤ place files name → held (files ++ g ∷ []) other ≡ (if bytes_eq name other then Some g.bytes.items else held files other)
  held-push [] h = rw g_name refl
  held-push (f ∷ files) h =
      let P : Bool → Type 0 = λ b. is_named name f ≡ b → suc (length files) ≤ (if b then 0 else suc (place files name))
      → held (f ∷ (files ++ g ∷ [])) other
      ≡ (if bytes_eq name other then Some g.bytes.items else (if is_named other f then Some f.bytes.items else held files other)) in
      (elim (is_named name f) as P [
        | true ↦ λ e k. absurd (omega arith)
        | false ↦ λ e k. between f _ _ false e refl (held-push files (omega arith))
      ]) refl h

-- the file at the place of a name has that name
pub place-named : (files : List MemFile) (name : List ℕ) (d : MemFile) → place files name < length files → string_bytes (get_or files (place files name) d).name ≡ name
place-named [] name d h = absurd (omega arith)
place-named (f ∷ files) name d h =
    let P : Bool → Type 0 = λ b. is_named name f ≡ b → (if b then 0 else suc (place files name)) < suc (length files)
    → string_bytes (get_or (f ∷ files) (if b then 0 else suc (place files name)) d).name ≡ name in
    (elim (is_named name f) as P [ true ↦ λ e g. named name f e | false ↦ λ e g. place-named files name d (omega arith) ]) refl h

pub held-set-at : (files list : List MemFile) (name other bytes : List ℕ) (i : ℕ) (old g : MemFile) → list ≡ files → i ≡ place list name → i < length files
    → old ≡ get_or files i old → g.name ≡ old.name → g.bytes.items ≡ bytes → held (set files i g) other ≡ (if bytes_eq name other then Some bytes else held files other)
held-set-at files list name other bytes i old g same_list is h at same_name same_bytes =
    let i_is : i ≡ place files name = is ∙ ap (λ fs. place fs name) same_list in
    let within : place files name < length files = omega (arith, i_is) in
    let there : get_or files (place files name) old ≡ old = ap (λ k. get_or files k old) (sym i_is) ∙ sym at in
    let g_name : string_bytes g.name ≡ name = ap string_bytes same_name ∙ ap (λ f. string_bytes f.name) (sym there) ∙ place-named files name old within in
    rw (i_is, held-set name other g g_name files within, same_bytes) refl

pub held-push-at : (files list new : List MemFile) (name other bytes : List ℕ) (i : ℕ) (g : MemFile) → list ≡ files → i ≡ place list name → length files ≤ i
    → new ≡ files ++ g ∷ [] → string_bytes g.name ≡ name → g.bytes.items ≡ bytes → held new other ≡ (if bytes_eq name other then Some bytes else held files other)
held-push-at files list new name other bytes i g same_list is h at g_name same_bytes =
    let i_is : i ≡ place files name = is ∙ ap (λ fs. place fs name) same_list in
    let past : length files ≤ place files name = omega (arith, i_is) in
    rw (at, held-push name other g g_name files past, same_bytes) refl

held-none : (files : List MemFile) (name : List ℕ) → length files ≤ place files name → held files name ≡ None
held-none [] name h = refl
held-none (f ∷ files) name h =
    let P : Bool → Type 0 = λ b. suc (length files) ≤ (if b then 0 else suc (place files name)) → (if b then Some f.bytes.items else held files name) ≡ None in
    (elim (is_named name f) as P [ true ↦ λ g. absurd (omega arith) | false ↦ λ g. held-none files name (omega arith) ]) h

pub absent-at : (files list : List MemFile) (name : List ℕ) (i : ℕ) → list ≡ files → i ≡ place list name → length files ≤ i → is_none (held files name) ≡ true
absent-at files list name i same is h =
    let i_is : i ≡ place files name = is ∙ ap (λ fs. place fs name) same in
    ap is_none (held-none files name (omega (arith, i_is)))

held-some : (files : List MemFile) (name : List ℕ) → place files name < length files → is_none (held files name) ≡ false
held-some [] name h = absurd (omega arith)
held-some (f ∷ files) name h =
    let P : Bool → Type 0 = λ b. (if b then 0 else suc (place files name)) < suc (length files) → is_none (if b then Some f.bytes.items else held files name) ≡ false in
    (elim (is_named name f) as P [ true ↦ λ g. refl | false ↦ λ g. held-some files name (omega arith) ]) h

pub present-at : (files list : List MemFile) (name : List ℕ) (i : ℕ) → list ≡ files → i ≡ place list name → i < length files → is_none (held files name) ≡ false
present-at files list name i same is h =
    let i_is : i ≡ place files name = is ∙ ap (λ fs. place fs name) same in
    held-some files name (omega (arith, i_is))

-- no two names have the place of one file
pub place-same : (files : List MemFile) (name other : List ℕ) → place files name < length files → place files other ≡ place files name → name ≡ other
place-same [] name other h e = absurd (omega arith)
place-same (f ∷ files) name other h e =
    let within : place (f ∷ files) other < length (f ∷ files) = omega (arith, h, e) in
    sym (place-named (f ∷ files) name f h) ∙ ap (λ k. string_bytes (get_or (f ∷ files) k f).name) (sym e) ∙ place-named (f ∷ files) other f within
