use Rattle.std.proofs.Common.{◌≡◌, ◌∙◌, ap, sym, subst, ◌<◌, length, get_or, map, Some}
use Rattle.std.specs.Prelude.{string_bytes}
use Rattle.meaning.specs.Texts.{place_of}
use Rattle.cond_text.proofs.NamePlaces.{place_of_key}
use Rattle.cond_text.proofs.names.Names.name.Goals as goal

pub returns-clause-place : goal.returns-clause-place
returns-clause-place c =
    let keys = c.self.inside.texts.keys in
    let text = c.index-as_slice-from.result in
    let is : text ≡ get_or keys c.args.no text =
    c.index-as_slice-from.is ∙ (ap (λ ks. get_or ks c.from.result text) c.as_slice.ensures.keys ∙ ap (λ n. get_or keys n text) c.from.ensures) in
    let inside : c.args.no < length (map string_bytes keys) = subst (λ names. c.args.no < length names) (sym c.self.view_is) c.requires in
    subst (λ names. place_of c.as_str.result.now names ≡ Some c.args.no) c.self.view_is
    (subst (λ s. place_of s (map string_bytes keys) ≡ Some c.args.no) (sym c.as_str.ensures.value) (place_of_key string_bytes keys c.args.no text c.as_slice.ensures.unique inside is))
