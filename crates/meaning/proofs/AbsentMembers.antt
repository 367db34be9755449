-- Members that are not there.
use Rattle.std.proofs.Common.{◌≡◌, refl, ℕ, List, true, false, not, Option, Some, None}
use Rattle.std.specs.Prelude.{is_some}
use Rattle.meaning.specs.Documents.{Document, member_of}
use Rattle.meaning.specs.BundlePlaces.{has}

pub absent : (k : List ℕ) (d : Document) → not (has k d) ≡ true → member_of k d ≡ None
absent k d e = go (member_of k d) e
  where
    go : (o : Option Document) → not (is_some o) ≡ true → o ≡ None
    go None e = refl
    go (Some x) e = absurd (let n : false ≡ true = e in cc)
