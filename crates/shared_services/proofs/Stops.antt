-- A stop that a call told, handed on by `?`.
use Rattle.std.proofs.Common.{◌≡◌, Result, Err, IsErrAnd, sym, ap, subst}
use Rattle.resource_lock.specs.declared.ids.WorkerId.{WorkerId}
use Rattle.coordination.specs.declared.halts.Halt.{Halt}
use Rattle.coordination.specs.declared.halts.Halt.TheVariants.{Stopped}

-- where the error that is handed on is a stop, the call told that stop
pub told_stop : {A B : Type 0} (e : Halt) (r : Result B Halt) (by : WorkerId) → r ≡ Err (Stopped by) → IsErrAnd r (λ (h : Halt). h ≡ e) → ◌≡◌ {A = Result A Halt} (Err e) (Err (Stopped by))
told_stop e r by is handed = ap Err (sym (subst (λ x. IsErrAnd x (λ (h : Halt). h ≡ e)) is handed))
