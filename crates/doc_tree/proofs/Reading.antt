-- The document that some bytes are, from what `serde_json` and `toml` read.
use Rattle.std.proofs.Common.{◌≡◌, ℕ, List, Bool, true, false, Option, Some, None, option_map, if◌then◌else◌, IsUtf8, refl, ap}
use Rattle.std.specs.Str.{is_utf8}
use Rattle.std.proofs.lemmas.Str.{IsUtf8-from_is_utf8, is_utf8-from_IsUtf8}
use Rattle.serde_json.specs.Data.{Data}
use Rattle.serde_json.specs.Read.{read}
use Rattle.toml.specs.Data.{Members}
use Rattle.toml.specs.Parse.{parse_document}
use Rattle.meaning.specs.Documents.{Document, table, Json, Toml, document_of, of_json, members_of_toml}

pub document_of-read : (bytes : List ℕ) (v : Data) → IsUtf8 bytes → read bytes ≡ Some v → document_of Json bytes ≡ Some (of_json v)
unfolding document_of
document_of-read bytes v utf8 is = rw (is_utf8-from_IsUtf8 bytes utf8, is)

chosen : {A : Type 0} (test : Bool) (of : A → Document) (found : Option A) → (test ≡ true → found ≡ None)
    → (if test then option_map of found else None) ≡ None
chosen true of found unread = ap (option_map of) (unread refl)
chosen false of found unread = refl

pub document_of-unread : (bytes : List ℕ) → (IsUtf8 bytes → read bytes ≡ None) → document_of Json bytes ≡ None
unfolding document_of
document_of-unread bytes unread = chosen (is_utf8 bytes) of_json (read bytes) (λ e. unread (IsUtf8-from_is_utf8 bytes e))

-- ---- TOML

pub document_of-parsed : (bytes : List ℕ) (ms : Members) → IsUtf8 bytes → parse_document bytes ≡ Some ms
    → document_of Toml bytes ≡ Some (table (members_of_toml ms))
unfolding document_of
document_of-parsed bytes ms utf8 is = rw (is_utf8-from_IsUtf8 bytes utf8, is)

pub document_of-unparsed : (bytes : List ℕ) → (IsUtf8 bytes → parse_document bytes ≡ None) → document_of Toml bytes ≡ None
unfolding document_of
document_of-unparsed bytes unparsed =
    chosen (is_utf8 bytes) (λ ms. table (members_of_toml ms)) (parse_document bytes) (λ e. unparsed (IsUtf8-from_is_utf8 bytes e))
