-- Nobody has anything where a run begins.
use Rattle.std.proofs.Common.{◌≡◌, ◌≢◌, ℕ, zero, suc, get_or, length, None, replicate, refl}
use Rattle.lock_journal.specs.Names.{opening_of, GraphView, empty_holding, mark_of, WorkerId, Mark, Running, Waiting, MarkId, TaskOf, ActionOf}
use Rattle.lock_journal.specs.Names.{UnitOf, IsAtRest}

same_anywhere : {X : Type 0} (n k : ℕ) (x : X) → get_or (replicate n x) k x ≡ x
same_anywhere zero k x = refl
same_anywhere (suc n) zero x = refl
same_anywhere (suc n) (suc k) x = same_anywhere n k x

waits : (g : GraphView) (m : MarkId) → mark_of (opening_of g) m ≡ Waiting
waits g (TaskOf t) = same_anywhere (length g.tasks) t Waiting
waits g (ActionOf a) = same_anywhere (length g.actions) a Waiting
waits g (UnitOf u) = same_anywhere g.units u Waiting

not_running : (w : WorkerId) (m : Mark) → m ≡ Waiting → m ≢ Running w
not_running w m is e = absurd (cc)

pub rests : (g : GraphView) → IsAtRest (opening_of g)
rests g = record {
  owners = λ l. same_anywhere g.locks l.0 None;
  holdings = λ w. same_anywhere g.workers w.0 empty_holding;
  marks = λ w m. not_running w (mark_of (opening_of g) m) (waits g m);
}
