-- What is so by the answer of a single step.
use Rattle.std.proofs.Common.{◌≡◌, ◌≢◌, Bool, true, false, Result, Ok, Err, refl}
use Rattle.std.specs.Prelude.{OnOk}
use Rattle.lock_journal.specs.Names.{WorkerId, Kind}
use Rattle.coordination.specs.Names.{Cause, HasFailed}
use Rattle.coordination.specs.declared.halts.Halt.{Halt}
use Rattle.coordination.specs.declared.rule.Sight.{Sight}

-- what is so at every other answer
pub unless_finished : {P : Type 0} (r : Result Bool Halt) → (r ≡ Ok false → P) → (r ≡ Err Halt.NoMemory → P) → ((by : WorkerId) → r ≡ Err (Halt.Stopped by) → P) → r ≢ Ok true → P
unless_finished (Ok true) failed no_memory stopped ne = absurd (ne refl)
unless_finished (Ok false) failed no_memory stopped ne = failed refl
unless_finished (Err Halt.NoMemory) failed no_memory stopped ne = no_memory refl
unless_finished (Err (Halt.Stopped by)) failed no_memory stopped ne = stopped by refl

pub from_ok : {T E P : Type 0} (r : Result T E) (x : T) → r ≡ Ok x → OnOk r P → P
from_ok (Ok y) x is p = p
from_ok (Err e) x is p = absurd (cc)

pub ok_is : {E : Type 0} {b d : Bool} → ◌≡◌ {A = Result Bool E} (Ok b) (Ok d) → b ≡ d
ok_is is = cc

-- the same failure with another cause that held there
pub failed_for : {kind : Kind} {cause other : Cause} {old new : Sight} (f : HasFailed kind cause old new) → other f.before.graph old.worker f.before.state → HasFailed kind other old new
failed_for f held = record {
  before = f.before;
  after = f.after;
  found = f.found;
  graph = f.graph;
  failed = record { cause = held; allowed = f.failed.allowed; history = f.failed.history; state = f.failed.state };
  left = f.left;
  sight = f.sight;
}
