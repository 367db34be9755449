-- Truth values at places, as code reads them.
use Rattle.std.proofs.Common.{◌≡◌, ℕ, ◌<◌, ◌≤◌, List, Bool, false, length, get_or, sym, ◌∙◌}
use Rattle.std.proofs.lemmas.List.{get_or_past, get_or_read}
use Rattle.meaning.specs.Texts.{holds_at}
use Rattle.cond_text.proofs.Values.{value_at_place}

pub holds_past : (w : List Bool) (n : ℕ) → length w ≤ n → holds_at w n ≡ false
holds_past w n l = sym (value_at_place w n) ∙ get_or_past w n false l

pub holds_read : (w : List Bool) (n : ℕ) (b : Bool) → n < length w → b ≡ get_or w n b → holds_at w n ≡ b
holds_read w n b l at = sym (value_at_place w n) ∙ sym (get_or_read w n b l at false)
