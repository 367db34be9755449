use Rattle.std.proofs.Common.{◌+◌, sym, ap, subst, ◌∙◌}
use Rattle.gsn.specs.Marks.{IsPlaces}
use Rattle.gsn.proofs.Places.{no_places, place_marked, place_passed}
use Rattle.gsn.proofs.needs.places.Goals as goal
use Rattle.gsn.proofs.needs.places.Goals.{then-mark+in_ok-push, else-mark}

pub marks-init : goal.marks-init
marks-init c = subst (λ xs. IsPlaces c.args.marks.now 0 xs) (sym c.new-places.ensures.items) (no_places c.args.marks.now)

pub marks-preserved : goal.marks-preserved
marks-preserved c = elim c.if-mark.branch [
  | then-mark+in_ok-push w ↦
      subst (λ xs. IsPlaces c.args.marks.now (c.marks.k + 1) xs) (sym (ap (λ v. v.items) w.places-is ∙ w.in_ok-push.ensures.items))
      (place_marked c.args.marks.now c.marks.k c.marks.places.items c.marks.invariant w.if-mark.true)
  | else-mark w ↦
      subst (λ xs. IsPlaces c.args.marks.now (c.marks.k + 1) xs) (sym (ap (λ v. v.items) w.places-is))
      (place_passed c.args.marks.now c.marks.k c.marks.places.items c.marks.invariant w.if-mark.false)
]
