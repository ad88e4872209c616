-- Each subject has a key of its own.
use Rattle.std.proofs.Common.{◌≡◌, ℕ, ap, ap₂, arith}
use Rattle.lock_journal.specs.Names.{LockId, WorkerId, TaskOf, ActionOf, UnitOf}
use Rattle.resource_lock.proofs.lemmas.Undo.{same_worker, same_lock}
use Rattle.run_spans.specs.Standing.{IsShort}
use Rattle.run_spans.specs.Subjects.{key_of}
use Rattle.run_spans.specs.declared.subjects.Subject.{Subject}
use Rattle.run_spans.specs.declared.subjects.Subject.TheVariants.{Lease, Blocked, Owned, Parked, Running}

pub one_key : (s t : Subject) → IsShort s → IsShort t → key_of s ≡ key_of t → s ≡ t
one_key (Lease v) (Lease w) a b h = ap (λ (x : WorkerId). Lease x) (same_worker v w h)
one_key (Blocked v) (Blocked w) a b h = ap (λ (x : WorkerId). Blocked x) (same_worker v w (omega (arith, h)))
one_key (Owned k) (Owned l) a b h = ap (λ (x : LockId). Owned x) (same_lock k l (omega (arith, h)))
one_key (Parked v k) (Parked w l) a b h =
    ap₂ (λ (x : WorkerId) (y : LockId). Parked x y) (same_worker v w (omega (arith, a.0, a.1, b.0, b.1, h))) (same_lock k l (omega (arith, a.0, a.1, b.0, b.1, h)))
one_key (Running (TaskOf m)) (Running (TaskOf n)) a b h = ap (λ (x : ℕ). Running (TaskOf x)) (omega (arith, h))
one_key (Running (ActionOf m)) (Running (ActionOf n)) a b h = ap (λ (x : ℕ). Running (ActionOf x)) (omega (arith, h))
one_key (Running (UnitOf m)) (Running (UnitOf n)) a b h = ap (λ (x : ℕ). Running (UnitOf x)) (omega (arith, h))
one_key (Running (TaskOf m)) (Running (ActionOf n)) a b h = absurd (omega (arith, a.0, a.1, b.0, b.1, h))
one_key (Running (TaskOf m)) (Running (UnitOf n)) a b h = absurd (omega (arith, a.0, a.1, b.0, b.1, h))
one_key (Running (ActionOf m)) (Running (TaskOf n)) a b h = absurd (omega (arith, a.0, a.1, b.0, b.1, h))
one_key (Running (ActionOf m)) (Running (UnitOf n)) a b h = absurd (omega (arith, a.0, a.1, b.0, b.1, h))
one_key (Running (UnitOf m)) (Running (TaskOf n)) a b h = absurd (omega (arith, a.0, a.1, b.0, b.1, h))
one_key (Running (UnitOf m)) (Running (ActionOf n)) a b h = absurd (omega (arith, a.0, a.1, b.0, b.1, h))
one_key (Running (TaskOf m)) t a b h = absurd (omega (arith, a.0, a.1, b.0, b.1, h))
one_key (Running (ActionOf m)) t a b h = absurd (omega (arith, a.0, a.1, b.0, b.1, h))
one_key (Running (UnitOf m)) t a b h = absurd (omega (arith, a.0, a.1, b.0, b.1, h))
one_key s (Running (TaskOf n)) a b h = absurd (omega (arith, a.0, a.1, b.0, b.1, h))
one_key s (Running (ActionOf n)) a b h = absurd (omega (arith, a.0, a.1, b.0, b.1, h))
one_key s (Running (UnitOf n)) a b h = absurd (omega (arith, a.0, a.1, b.0, b.1, h))
one_key s t a b h = absurd (omega (arith, a.0, a.1, b.0, b.1, h))
