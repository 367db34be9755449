-- What the exit of a `?` returns, and what a call returns that is handed on.
use Rattle.std.proofs.Common.{◌≡◌}
use Rattle.std.specs.Prelude.{Result, Ok, Err, IfOk, IfErr}
use Rattle.std.specs.Result.{IsErrAnd}
use Rattle.std.proofs.lemmas.Result.{err_from_is_err_and}

pub stops_with : {T E : Type 0} (r : Result T E) (Q : E → Type 0) (e : E) → IsErrAnd r (λ y. y ≡ e) → Q e → IfErr r Q
stops_with r Q e h q = let p = err_from_is_err_and r h in rw (p.1, p.2) q

pub ok_along : {T E : Type 0} (r : Result T E) (P Q : T → Type 0) → ((x : T) → P x → Q x) → IfOk r P → IfOk r Q
ok_along (Ok x) P Q f h = f x h
ok_along (Err e) P Q f h = tt

pub err_along : {T E : Type 0} (r : Result T E) (P Q : E → Type 0) → ((e : E) → P e → Q e) → IfErr r P → IfErr r Q
err_along (Ok x) P Q f h = tt
err_along (Err e) P Q f h = f e h
