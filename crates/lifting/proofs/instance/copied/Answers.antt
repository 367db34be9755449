use Rattle.std.proofs.Common.{◌≡◌, ◌∙◌, ◌+◌, ◌++◌, [], ◌∷◌, length, take, suc, sym, ap, arith}
use Rattle.std.specs.Prelude.{is_some, true, false, Some}
use Rattle.meaning.specs.Texts.{place_of}
use Rattle.meaning.specs.BundlePlaces.{is_among}
use Rattle.meaning.proofs.NamePlaces.{some_place}
use Rattle.annotated_model.proofs.Lists.{not_before}
use Rattle.std.proofs.lemmas.Option.{slice_get_within}
use Rattle.std.proofs.lemmas.List.{length-take-le}
use Rattle.lifting.proofs.LoopSteps.{taken_more}
use Rattle.lifting.proofs.instance.copied.Goals as goal

pub add-requires : goal.add-requires
add-requires c =
    let within = slice_get_within c.args.names.now c.names.number c.name.result.now c.name.ensures.name in
    let taken = length-take-le c.names.number c.args.names.now (omega (arith, within)) in
    omega (arith, ap length c.names.invariant, taken, within, c.count-number-end.ensures.count)

pub unreachable-requires : goal.unreachable-requires
unreachable-requires c =
    let there : place_of c.name.result.now c.names.copy ≡ Some c.in-Err-Repeated.field-0-0 = rw c.in-Err-Repeated.field-0-is at c.in-Err-Repeated.ensures.stop in
    let among : is_among c.names.copy c.name.result.now ≡ true = sym (some_place c.names.copy c.name.result.now) ∙ ap is_some there in
    let new : is_among c.names.copy c.name.result.now ≡ false =
    ap (λ names. is_among names c.name.result.now) c.names.invariant ∙ not_before c.name.result.now c.args.names.now c.names.number c.name.ensures.place in
    cc

pub names-preserved : goal.names-preserved
names-preserved c =
    let next = taken_more c.args.names.now c.names.number c.name.result.now c.name.ensures.name in
    let after : suc c.names.number ≡ c.names.number + 1 = omega arith in
    c.in-Ok.ensures.added.1 ∙ ap (λ names. names ++ c.name.result.now ∷ []) c.names.invariant ∙ sym next ∙ ap (λ n. take n c.args.names.now) after
