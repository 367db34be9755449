use Rattle.std.proofs.Common.{◌≡◌, subst, sym, None, map}
use Rattle.std.specs.Prelude.{string_bytes}
use Rattle.meaning.specs.Texts.{place_of}
use Rattle.cond_text.proofs.NamePlaces.{added_last}
use Rattle.cond_text.proofs.names.Names.add_new.Goals as goal

pub returns-clause-added : goal.returns-clause-added
returns-clause-added c =
    let none_in : place_of c.args.name.now (map string_bytes c.self.inside.texts.keys) ≡ None = subst (λ names. place_of c.args.name.now names ≡ None) (sym c.self.view_is) c.requires.new in
    let added = added_last string_bytes c.self.inside.texts.keys c.insert_full.new.self.keys c.in_ok-text.text c.args.name.now c.in_ok-no.no
    c.in_ok-text.ensures.ok none_in c.in_ok-no.ensures.keys c.in_ok-no.ensures.index in
    rw (← c.self.view_is) (added.0, added.1)
