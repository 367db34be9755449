use Rattle.std.proofs.Common.{◌≡◌, ◌<◌, ◌∙◌, false, length, sym, arith}
use Rattle.meaning.specs.Texts.{holds_at}
use Rattle.case_derive.proofs.Marks.{holds_read, holds_past}
use Rattle.case_derive.proofs.Numbers.{place_there, place_missing}
use Rattle.case_derive.proofs.places.Places.at.Goals as goal
use Rattle.case_derive.proofs.places.Places.at.Goals.{else-place-len-via-then-place-len+else-index, else-place-len-via-else-place-len}

pub returns-then-index : goal.returns-then-index
returns-then-index c =
    let p = c.args.self.now in
    let here : c.args.place < length p.marks.items = omega (arith, p.marks.ok.0) in
    place_there p.marks.items p.numbers.items c.args.place c.index-then-index.result.now p.numbered here
    (holds_read p.marks.items c.args.place c.index.result.now here c.index.ensures ∙ c.if-index.true) c.index-then-index.ensures

pub returns-else-place-len : goal.returns-else-place-len
returns-else-place-len c =
    let marks = c.args.self.now.marks in
    let missing : holds_at marks.items c.args.place ≡ false = elim c.else-place-len.branch [
      | else-place-len-via-then-place-len+else-index w ↦
          holds_read marks.items c.args.place w.index.result.now (omega (arith, marks.ok.0, w.if-place-len.true)) w.index.ensures ∙ w.if-index.false
      | else-place-len-via-else-place-len w ↦ holds_past marks.items c.args.place (omega (arith, marks.ok.0, w.if-place-len.false))
    ] in
    sym (place_missing marks.items c.args.place missing)
