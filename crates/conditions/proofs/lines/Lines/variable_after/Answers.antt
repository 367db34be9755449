use Rattle.std.proofs.Common.{◌≡◌, ◌-◌, ◌∙◌, sym, ap, get_or, slice_get, Some, arith}
use Rattle.std.proofs.lemmas.Option.{slice_get-get_or}
use Rattle.conditions.specs.Tables.{TableRow}
use Rattle.conditions.proofs.TableRows.{variable_after-row}
use Rattle.conditions.proofs.lines.Lines.variable_after.Goals as goal

pub returns : goal.returns
returns c =
    let none : TableRow = (0, 0, 0) in
    let there : slice_get c.args.self.now (c.args.id - 2) ≡ Some (get_or c.list.result.now (c.args.id - 2) none) =
    slice_get-get_or c.args.self.now (c.args.id - 2) none (omega (arith, c.requires, c.if-id-lt2.false)) ∙ ap (λ rows. Some (get_or rows (c.args.id - 2) none)) (sym c.list.ensures) in
    sym (variable_after-row c.args.self.now c.args.features c.args.id _ (omega (arith, c.if-id-lt2.false)) there)
