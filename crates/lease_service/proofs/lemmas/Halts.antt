-- What a call of a pass leaves that came to nothing.
use Rattle.std.proofs.Common.{◌≡◌, Bool, Result, Ok, Err, OnErr, refl, subst}
use Rattle.std.specs.Result.{IsErrAnd}
use Rattle.resource_lock.specs.declared.ids.WorkerId.{WorkerId}
use Rattle.coordination.specs.Names.{Cause, HasLooked, WasStopped, ShowsTheSame}
use Rattle.coordination.specs.declared.rule.Sight.{Sight}
use Rattle.coordination.specs.declared.halts.Halt.{Halt}
use Rattle.coordination.specs.declared.halts.Halt.TheVariants.{NoMemory, Stopped}
use Rattle.coordination.proofs.lemmas.Shown.{looked_shows, stopped_shows}

-- whichever way a call came to nothing, its worker has what it had
pub kept_by : {retries : Cause} {old new : Sight} (halt : Halt) → (◌≡◌ {A = Result Bool Halt} (Err halt) (Err NoMemory) → HasLooked old new)
    → ((by : WorkerId) → ◌≡◌ {A = Result Bool Halt} (Err halt) (Err (Stopped by)) → WasStopped retries by old new) → ShowsTheSame old new
kept_by NoMemory looked stopped = looked_shows (looked refl)
kept_by (Stopped by) looked stopped = stopped_shows (stopped by refl)

pub on_err_of : {A E P : Type 0} (r : Result A E) → P → OnErr r P
on_err_of (Ok a) p = tt
on_err_of (Err e) p = p

pub err_at : {A E : Type 0} (P : E → Type 0) (r : Result A E) (e : E) → r ≡ Err e → IsErrAnd r P → P e
err_at P r e is p = subst (λ x. IsErrAnd x P) is p
