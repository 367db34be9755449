use Rattle.std.proofs.Common.{◌≡◌, sym, ap, ◌∙◌, true, Some}
use Rattle.std.specs.Prelude.{is_some, bytes_eq}
use Rattle.std.specs.List.{list_any}
use Rattle.meaning.specs.Texts.{place_of}
use Rattle.meaning.proofs.NamePlaces.{some_place}
use Rattle.lifted_case.proofs.values.lists.add_new.Goals as goal

pub unreachable-requires : goal.unreachable-requires
unreachable-requires c =
    let there : place_of c.args.name.now c.args.names.now ≡ Some c.in-Err-Repeated.field-0-0 = rw c.in-Err-Repeated.field-0-is at c.in-Err-Repeated.ensures.stop in
    let among : list_any (bytes_eq c.args.name.now) c.args.names.now ≡ true = sym (some_place c.args.names.now c.args.name.now) ∙ ap is_some there in
    let new = c.requires.new in
    cc
