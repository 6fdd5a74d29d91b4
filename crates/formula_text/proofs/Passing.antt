-- An error that a `?` passes on.
use Rattle.std.proofs.Common.{◌≡◌, Result, Err, ap}
use Rattle.std.specs.Result.{IsErrAnd}
use Rattle.std.proofs.lemmas.Result.{err_from_is_err_and}

-- what the exit of a `?` answers is what the call inside answered
pub error-passed : {T U E : Type 0} (r : Result T E) (y z : E) → IsErrAnd r (λ e. e ≡ y) → r ≡ Err z → ◌≡◌ {A = Result U E} (Err y) (Err z)
error-passed r y z h e =
    let p = err_from_is_err_and r h in
    let same : y ≡ z = error-same r p.0 y z p.1 p.2 e in
    ap Err same
  where
    error-same : {T E : Type 0} (r : Result T E) (x y z : E) → r ≡ Err x → x ≡ y → r ≡ Err z → y ≡ z
    error-same r x y z a b c = cc
