-- The test that is derived for changes tells whether they are the same.
use Rattle.std.proofs.Common.{◌≡◌, ℕ, eqb, Bool, ◌&&◌, Decides, refl, ◌∙◌, ap}
use Rattle.std.proofs.lemmas.Bool.{eqb-true, eq-eqb, false≢true, and_parts, and_from}
use Rattle.resource_lock.specs.declared.ids.LockId.{LockId}
use Rattle.resource_lock.specs.declared.ids.WorkerId.{WorkerId}
use Rattle.resource_lock.specs.declared.marks.Mark.{Mark}
use Rattle.resource_lock.specs.declared.marks.Mark.TheVariants.{Waiting, Queued, Running, Passed, Failed, Skipped}
use Rattle.resource_lock.specs.declared.marks.MarkId.{MarkId}
use Rattle.resource_lock.specs.declared.marks.MarkId.TheVariants.{Task as TaskOf, Action as ActionOf, Unit as UnitOf}
use Rattle.resource_lock.specs.declared.changes.Change.{Change}
use Rattle.resource_lock.specs.declared.changes.Change.TheVariants.{Lock, Unlock, Take, Give, Move, Park, Unpark, Enter, Leave}
use Rattle.resource_lock.specs.contracts.marks.MarkPartialEq.TheImpl as derived_marks
use Rattle.resource_lock.specs.contracts.marks.MarkIdPartialEq.TheImpl as derived_ids
use Rattle.resource_lock.specs.contracts.changes.ChangePartialEq.TheImpl as derived

abbrev lock_at : ℕ → LockId
lock_at n = record { 0 = n }

abbrev worker_at : ℕ → WorkerId
worker_at n = record { 0 = n }

lock_is : (k l : LockId) → Decides (eqb k.0 l.0) (k ≡ l)
lock_is k l = (λ h. ap lock_at (eqb-true k.0 l.0 h), λ e. eq-eqb k.0 l.0 (ap (λ (x : LockId). x.0) e))

worker_is : (v w : WorkerId) → Decides (eqb v.0 w.0) (v ≡ w)
worker_is v w = (λ h. ap worker_at (eqb-true v.0 w.0 h), λ e. eq-eqb v.0 w.0 (ap (λ (x : WorkerId). x.0) e))

-- what a mark, its number, and a change hold

abbrev runner : WorkerId → Mark → WorkerId
runner d (Running w) = w
runner d _ = d

abbrev number : MarkId → ℕ
number (TaskOf n) = n
number (ActionOf n) = n
number (UnitOf n) = n

abbrev lock_in : LockId → Change → LockId
lock_in d (Lock l) = l
lock_in d (Unlock l) = l
lock_in d (Park l) = l
lock_in d (Unpark l) = l
lock_in d _ = d

abbrev moved : MarkId → Change → MarkId
moved d (Move m from to) = m
moved d _ = d

abbrev moved_from : Mark → Change → Mark
moved_from d (Move m from to) = from
moved_from d _ = d

abbrev moved_to : Mark → Change → Mark
moved_to d (Move m from to) = to
moved_to d _ = d

mark_is : (a b : Mark) → Decides (derived_marks.ghosts.eq a b) (a ≡ b)
mark_is Waiting Waiting = (λ h. refl, λ e. refl)
mark_is Waiting Queued = (λ h. absurd (false≢true h), λ e. cc)
mark_is Waiting (Running w) = (λ h. absurd (false≢true h), λ e. cc)
mark_is Waiting Passed = (λ h. absurd (false≢true h), λ e. cc)
mark_is Waiting Failed = (λ h. absurd (false≢true h), λ e. cc)
mark_is Waiting Skipped = (λ h. absurd (false≢true h), λ e. cc)
mark_is Queued Waiting = (λ h. absurd (false≢true h), λ e. cc)
mark_is Queued Queued = (λ h. refl, λ e. refl)
mark_is Queued (Running w) = (λ h. absurd (false≢true h), λ e. cc)
mark_is Queued Passed = (λ h. absurd (false≢true h), λ e. cc)
mark_is Queued Failed = (λ h. absurd (false≢true h), λ e. cc)
mark_is Queued Skipped = (λ h. absurd (false≢true h), λ e. cc)
mark_is (Running v) Waiting = (λ h. absurd (false≢true h), λ e. cc)
mark_is (Running v) Queued = (λ h. absurd (false≢true h), λ e. cc)
mark_is (Running v) (Running w) = (λ h. ap Running ((worker_is v w).0 h), λ e. (worker_is v w).1 (ap (runner v) e))
mark_is (Running v) Passed = (λ h. absurd (false≢true h), λ e. cc)
mark_is (Running v) Failed = (λ h. absurd (false≢true h), λ e. cc)
mark_is (Running v) Skipped = (λ h. absurd (false≢true h), λ e. cc)
mark_is Passed Waiting = (λ h. absurd (false≢true h), λ e. cc)
mark_is Passed Queued = (λ h. absurd (false≢true h), λ e. cc)
mark_is Passed (Running w) = (λ h. absurd (false≢true h), λ e. cc)
mark_is Passed Passed = (λ h. refl, λ e. refl)
mark_is Passed Failed = (λ h. absurd (false≢true h), λ e. cc)
mark_is Passed Skipped = (λ h. absurd (false≢true h), λ e. cc)
mark_is Failed Waiting = (λ h. absurd (false≢true h), λ e. cc)
mark_is Failed Queued = (λ h. absurd (false≢true h), λ e. cc)
mark_is Failed (Running w) = (λ h. absurd (false≢true h), λ e. cc)
mark_is Failed Passed = (λ h. absurd (false≢true h), λ e. cc)
mark_is Failed Failed = (λ h. refl, λ e. refl)
mark_is Failed Skipped = (λ h. absurd (false≢true h), λ e. cc)
mark_is Skipped Waiting = (λ h. absurd (false≢true h), λ e. cc)
mark_is Skipped Queued = (λ h. absurd (false≢true h), λ e. cc)
mark_is Skipped (Running w) = (λ h. absurd (false≢true h), λ e. cc)
mark_is Skipped Passed = (λ h. absurd (false≢true h), λ e. cc)
mark_is Skipped Failed = (λ h. absurd (false≢true h), λ e. cc)
mark_is Skipped Skipped = (λ h. refl, λ e. refl)

id_is : (a b : MarkId) → Decides (derived_ids.ghosts.eq a b) (a ≡ b)
id_is (TaskOf m) (TaskOf n) = (λ h. ap TaskOf (eqb-true m n h), λ e. eq-eqb m n (ap number e))
id_is (TaskOf m) (ActionOf n) = (λ h. absurd (false≢true h), λ e. cc)
id_is (TaskOf m) (UnitOf n) = (λ h. absurd (false≢true h), λ e. cc)
id_is (ActionOf m) (TaskOf n) = (λ h. absurd (false≢true h), λ e. cc)
id_is (ActionOf m) (ActionOf n) = (λ h. ap ActionOf (eqb-true m n h), λ e. eq-eqb m n (ap number e))
id_is (ActionOf m) (UnitOf n) = (λ h. absurd (false≢true h), λ e. cc)
id_is (UnitOf m) (TaskOf n) = (λ h. absurd (false≢true h), λ e. cc)
id_is (UnitOf m) (ActionOf n) = (λ h. absurd (false≢true h), λ e. cc)
id_is (UnitOf m) (UnitOf n) = (λ h. ap UnitOf (eqb-true m n h), λ e. eq-eqb m n (ap number e))

-- the three parts of a move
move_is : (m n : MarkId) (f g t u : Mark) (x y z : Bool) → Decides x (m ≡ n) → Decides y (f ≡ g) → Decides z (t ≡ u) → Decides (x && (y && z)) (Move m f t ≡ Move n g u)
move_is m n f g t u x y z same from to = (
  λ h. let first = and_parts x (y && z) h in let rest = and_parts y z first.1 in
      ap (λ i. Move i f t) (same.0 first.0) ∙ ap (λ a. Move n a t) (from.0 rest.0) ∙ ap (λ b. Move n g b) (to.0 rest.1),
  λ e. and_from x (y && z) (same.1 (ap (moved m) e)) (and_from y z (from.1 (ap (moved_from f) e)) (to.1 (ap (moved_to t) e))),
)

pub change_is : (a b : Change) → Decides (derived.ghosts.eq a b) (a ≡ b)
change_is (Lock k) (Lock l) = (λ h. ap Lock ((lock_is k l).0 h), λ e. (lock_is k l).1 (ap (lock_in k) e))
change_is (Lock k) (Unlock l) = (λ h. absurd (false≢true h), λ e. cc)
change_is (Lock k) Take = (λ h. absurd (false≢true h), λ e. cc)
change_is (Lock k) Give = (λ h. absurd (false≢true h), λ e. cc)
change_is (Lock k) (Move n g u) = (λ h. absurd (false≢true h), λ e. cc)
change_is (Lock k) (Park l) = (λ h. absurd (false≢true h), λ e. cc)
change_is (Lock k) (Unpark l) = (λ h. absurd (false≢true h), λ e. cc)
change_is (Lock k) Enter = (λ h. absurd (false≢true h), λ e. cc)
change_is (Lock k) Leave = (λ h. absurd (false≢true h), λ e. cc)
change_is (Unlock k) (Lock l) = (λ h. absurd (false≢true h), λ e. cc)
change_is (Unlock k) (Unlock l) = (λ h. ap Unlock ((lock_is k l).0 h), λ e. (lock_is k l).1 (ap (lock_in k) e))
change_is (Unlock k) Take = (λ h. absurd (false≢true h), λ e. cc)
change_is (Unlock k) Give = (λ h. absurd (false≢true h), λ e. cc)
change_is (Unlock k) (Move n g u) = (λ h. absurd (false≢true h), λ e. cc)
change_is (Unlock k) (Park l) = (λ h. absurd (false≢true h), λ e. cc)
change_is (Unlock k) (Unpark l) = (λ h. absurd (false≢true h), λ e. cc)
change_is (Unlock k) Enter = (λ h. absurd (false≢true h), λ e. cc)
change_is (Unlock k) Leave = (λ h. absurd (false≢true h), λ e. cc)
change_is Take (Lock l) = (λ h. absurd (false≢true h), λ e. cc)
change_is Take (Unlock l) = (λ h. absurd (false≢true h), λ e. cc)
change_is Take Take = (λ h. refl, λ e. refl)
change_is Take Give = (λ h. absurd (false≢true h), λ e. cc)
change_is Take (Move n g u) = (λ h. absurd (false≢true h), λ e. cc)
change_is Take (Park l) = (λ h. absurd (false≢true h), λ e. cc)
change_is Take (Unpark l) = (λ h. absurd (false≢true h), λ e. cc)
change_is Take Enter = (λ h. absurd (false≢true h), λ e. cc)
change_is Take Leave = (λ h. absurd (false≢true h), λ e. cc)
change_is Give (Lock l) = (λ h. absurd (false≢true h), λ e. cc)
change_is Give (Unlock l) = (λ h. absurd (false≢true h), λ e. cc)
change_is Give Take = (λ h. absurd (false≢true h), λ e. cc)
change_is Give Give = (λ h. refl, λ e. refl)
change_is Give (Move n g u) = (λ h. absurd (false≢true h), λ e. cc)
change_is Give (Park l) = (λ h. absurd (false≢true h), λ e. cc)
change_is Give (Unpark l) = (λ h. absurd (false≢true h), λ e. cc)
change_is Give Enter = (λ h. absurd (false≢true h), λ e. cc)
change_is Give Leave = (λ h. absurd (false≢true h), λ e. cc)
change_is (Move m f t) (Lock l) = (λ h. absurd (false≢true h), λ e. cc)
change_is (Move m f t) (Unlock l) = (λ h. absurd (false≢true h), λ e. cc)
change_is (Move m f t) Take = (λ h. absurd (false≢true h), λ e. cc)
change_is (Move m f t) Give = (λ h. absurd (false≢true h), λ e. cc)
change_is (Move m f t) (Move n g u) = move_is m n f g t u _ _ _ (id_is m n) (mark_is f g) (mark_is t u)
change_is (Move m f t) (Park l) = (λ h. absurd (false≢true h), λ e. cc)
change_is (Move m f t) (Unpark l) = (λ h. absurd (false≢true h), λ e. cc)
change_is (Move m f t) Enter = (λ h. absurd (false≢true h), λ e. cc)
change_is (Move m f t) Leave = (λ h. absurd (false≢true h), λ e. cc)
change_is (Park k) (Lock l) = (λ h. absurd (false≢true h), λ e. cc)
change_is (Park k) (Unlock l) = (λ h. absurd (false≢true h), λ e. cc)
change_is (Park k) Take = (λ h. absurd (false≢true h), λ e. cc)
change_is (Park k) Give = (λ h. absurd (false≢true h), λ e. cc)
change_is (Park k) (Move n g u) = (λ h. absurd (false≢true h), λ e. cc)
change_is (Park k) (Park l) = (λ h. ap Park ((lock_is k l).0 h), λ e. (lock_is k l).1 (ap (lock_in k) e))
change_is (Park k) (Unpark l) = (λ h. absurd (false≢true h), λ e. cc)
change_is (Park k) Enter = (λ h. absurd (false≢true h), λ e. cc)
change_is (Park k) Leave = (λ h. absurd (false≢true h), λ e. cc)
change_is (Unpark k) (Lock l) = (λ h. absurd (false≢true h), λ e. cc)
change_is (Unpark k) (Unlock l) = (λ h. absurd (false≢true h), λ e. cc)
change_is (Unpark k) Take = (λ h. absurd (false≢true h), λ e. cc)
change_is (Unpark k) Give = (λ h. absurd (false≢true h), λ e. cc)
change_is (Unpark k) (Move n g u) = (λ h. absurd (false≢true h), λ e. cc)
change_is (Unpark k) (Park l) = (λ h. absurd (false≢true h), λ e. cc)
change_is (Unpark k) (Unpark l) = (λ h. ap Unpark ((lock_is k l).0 h), λ e. (lock_is k l).1 (ap (lock_in k) e))
change_is (Unpark k) Enter = (λ h. absurd (false≢true h), λ e. cc)
change_is (Unpark k) Leave = (λ h. absurd (false≢true h), λ e. cc)
change_is Enter (Lock l) = (λ h. absurd (false≢true h), λ e. cc)
change_is Enter (Unlock l) = (λ h. absurd (false≢true h), λ e. cc)
change_is Enter Take = (λ h. absurd (false≢true h), λ e. cc)
change_is Enter Give = (λ h. absurd (false≢true h), λ e. cc)
change_is Enter (Move n g u) = (λ h. absurd (false≢true h), λ e. cc)
change_is Enter (Park l) = (λ h. absurd (false≢true h), λ e. cc)
change_is Enter (Unpark l) = (λ h. absurd (false≢true h), λ e. cc)
change_is Enter Enter = (λ h. refl, λ e. refl)
change_is Enter Leave = (λ h. absurd (false≢true h), λ e. cc)
change_is Leave (Lock l) = (λ h. absurd (false≢true h), λ e. cc)
change_is Leave (Unlock l) = (λ h. absurd (false≢true h), λ e. cc)
change_is Leave Take = (λ h. absurd (false≢true h), λ e. cc)
change_is Leave Give = (λ h. absurd (false≢true h), λ e. cc)
change_is Leave (Move n g u) = (λ h. absurd (false≢true h), λ e. cc)
change_is Leave (Park l) = (λ h. absurd (false≢true h), λ e. cc)
change_is Leave (Unpark l) = (λ h. absurd (false≢true h), λ e. cc)
change_is Leave Enter = (λ h. absurd (false≢true h), λ e. cc)
change_is Leave Leave = (λ h. refl, λ e. refl)
