use Rattle.std.proofs.Common.{◌≡◌, ℕ, ◌+◌, ◌-◌, ◌<◌, ◌≤◌, List, length, slice_index, arith, sym, ap, ◌∙◌, ⊎_elim}
use Rattle.std.proofs.lemmas.Bool.{cases_lt}
use Rattle.conditions.specs.Tables.{TableRow}
use Rattle.conditions.proofs.Leaving.{IsLeft-constant, IsLeft-known, IsLeft-new, rows_few, one_more_row, read_is}
use Rattle.conditions.proofs.export.+leave.Goals as goal
use Rattle.conditions.proofs.export.+leave.Goals.{After-index, After-len}

more_than_none : (n m : ℕ) → (n ≡ 0 → ⊥) → n ≡ m → 0 < m
more_than_none n m some same = ⊎_elim (λ (none : n < 1). absurd (some (omega arith))) (λ (more : 1 ≤ n). omega arith) (cases_lt n 1)

place_in : (t : ℕ) (c : After-index t) → c.args.number.0 - 2 < length c.args.ids.now.items
place_in t c = omega (arith, c.requires.leaving.all_places, c.requires.there, c.if-number-lt2.false)

pub returns-then-number-lt2 : goal.returns-then-number-lt2
returns-then-number-lt2 t c = IsLeft-constant c.args.store.now c.args.number.0 c.args.ids.now.items c.args.rows.now.items c.if-number-lt2.true c.requires.leaving

pub returns-then-index-ne0 : goal.returns-then-index-ne0
returns-then-index-ne0 t c =
    let ids = c.args.ids.now.items in
    let inside : c.args.number.0 - 2 < length ids = place_in t (goal.at.returns-then-index-ne0 t c).After-index in
    let tested : c.index.result.now ≡ slice_index ids (c.args.number.0 - 2) = read_is ids (c.args.number.0 - 2) c.index.result.now inside c.index.ensures in
    let read : c.index-then-index-ne0.result.now ≡ slice_index ids (c.args.number.0 - 2) = read_is ids (c.args.number.0 - 2) c.index-then-index-ne0.result.now inside c.index-then-index-ne0.ensures in
    let some : 0 < slice_index ids (c.args.number.0 - 2) = more_than_none c.index.result.now _ c.if-index-ne0.true tested in
    rw read (IsLeft-known c.args.store.now c.args.number.0 (c.args.number.0 - 2) ids c.args.rows.now.items (omega (arith, c.if-number-lt2.false)) inside some c.requires.leaving)

few : (t : ℕ) (c : After-len t) → c.len.result ≡ length c.leave-2.new.rows.items + 1
few t c =
    let row : TableRow = (c.triple-var.result.0, c.in_ok-low_id.low_id, c.in_ok-high_id.high_id) in
    omega (arith, c.len.ensures, c.push.new.items.ok, ap (λ (rows : List TableRow). length rows) c.in_ok-push.ensures, one_more_row c.leave-2.new.rows.items row)

within : (t : ℕ) (c : After-len t) → c.len.result ≤ 1048577
within t c = omega (arith, few t c, rows_few c.in_ok-high_id.ensures.leaving, c.used-used.ensures.region.within, c.used-used.ensures.region.few)

pub overflow_cast-id : goal.overflow_cast-id
overflow_cast-id t c = omega (arith, within t (goal.at.overflow_cast-id t c).After-len)

pub overflow_add-id : goal.overflow_add-id
overflow_add-id t c = omega (arith, within t (goal.at.overflow_add-id t c).After-len)

pub returns : goal.returns
returns t c =
    let r = c.args.store.now in
    let ids = c.args.ids.now.items in
    let n : ℕ = c.args.number.0 in
    let inside : n - 2 < length ids = place_in t (goal.at.returns t c).After-index in
    let tested : c.index.result.now ≡ slice_index ids (n - 2) = read_is ids (n - 2) c.index.result.now inside c.index.ensures in
    let unknown : slice_index ids (n - 2) ≡ 0 = sym tested ∙ c.if-index-ne0.false in
    let id_is : c.len.result + 1 ≡ length c.leave-2.new.rows.items + 2 = omega (arith, few t (goal.at.returns t c).After-len) in
    rw (c.in_ok-push.ensures, id_is)
    (IsLeft-new r n c.triple-var.result.0 c.triple-var.result.1 c.triple-var.result.2 ids c.leave.new.ids.items c.leave-2.new.ids.items c.args.rows.now.items c.leave.new.rows.items c.leave-2.new.rows.items c.in_ok-low_id.low_id c.in_ok-high_id.high_id
    c.used-used.ensures.region.reduced c.if-number-lt2.false c.requires.there c.triple-var.ensures.triple unknown c.in_ok-low_id.ensures c.in_ok-high_id.ensures)
