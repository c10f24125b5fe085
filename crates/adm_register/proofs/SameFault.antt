-- An error that passes through a `?` is that of the call.
use Rattle.std.proofs.Common.{◌≡◌, ap, Result, Err}
use Rattle.std.specs.Result.{result_err}
use Rattle.std.proofs.lemmas.Option.{same_Some}

-- two errors that are the same in results of one type are so in those of another
pub same_fault : {S T E : Type 0} (e f : E) → ◌≡◌ {A = Result S E} (Err e) (Err f) → ◌≡◌ {A = Result T E} (Err e) (Err f)
same_fault e f same = ap Err (same_Some e f (ap result_err same))
