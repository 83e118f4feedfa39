-- A call that fails by the fault of another one.
use Rattle.std.proofs.Common.{◌≡◌, Ok, Err, IsErr, IfErr, ap}
use Rattle.std.specs.declared.result.Result.{Result}

pub err_is : {T E : Type 0} (result : Result T E) (fault : E) → IsErr result → IfErr result (λ e. e ≡ fault) → result ≡ Err fault
err_is (Ok x) fault failed same = absurd (cc)
err_is (Err e) fault failed same = ap (λ f. Err f) same
