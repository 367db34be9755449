-- What stands at the exit of a `?`.
use Rattle.std.proofs.Common.{◌≡◌}
use Rattle.std.specs.Prelude.{Result, Ok, Err, IfErr, OnOk}
use Rattle.std.specs.Result.{IsErrAnd}
use Rattle.std.proofs.lemmas.Result.{err_from_is_err_and}

-- the returned error is this one
pub stops_with : {T E : Type 0} (r : Result T E) (Q : E → Type 0) (e : E) → IsErrAnd r (λ y. y ≡ e) → Q e → IfErr r Q
stops_with r Q e h q = let p = err_from_is_err_and r h in rw (p.1, p.2) q

-- what holds without the value
pub on_each_ok : {T E : Type 0} (r : Result T E) (P : Type 0) → P → OnOk r P
on_each_ok (Ok x) P p = p
on_each_ok (Err e) P p = tt

-- what holds of each error
pub on_each_err : {T E : Type 0} (r : Result T E) (P : E → Type 0) → ((e : E) → P e) → IfErr r P
on_each_err (Ok x) P p = tt
on_each_err (Err e) P p = p e
