use Rattle.std.proofs.Common.{◌≡◌, List, [], ◌∷◌, true, sym, ◌∙◌, ap, subst}
use Rattle.std.proofs.lemmas.Bool.{both_ways}
use Rattle.resource_lock.specs.GraphView.{GraphView, task_of}
use Rattle.resource_lock.specs.declared.changes.Change.{Change}
use Rattle.resource_lock.specs.declared.changes.Change.TheVariants.{Lock, Take, Move}
use Rattle.resource_lock.specs.declared.marks.Mark.TheVariants.{Waiting, Running}
use Rattle.resource_lock.specs.declared.marks.MarkId.TheVariants.{Task as TaskOf}
use Rattle.lock_transforms.specs.Making.{Makes}
use Rattle.lock_transforms.specs.TentativeView.{TentativeView}
use Rattle.lock_transforms.proofs.Makings.{makes_then}
use Rattle.lock_transforms.proofs.kinds.starts.StartFixedKind.make.Goals as goal
use Rattle.lock_transforms.proofs.kinds.starts.StartFixedKind.make.Goals.{then-try_change, else-try_change}

-- the lock, the lease and the mark, one after the other
pub returns-then-try_change-2-clause-made : goal.returns-then-try_change-2-clause-made
returns-then-try_change-2-clause-made c = elim c.if-try_change.branch [
  | then-try_change w ↦
      let t = c.args.self.now.task in
      let now = c.args.work.now in
      let lock : c.lock_of-lock.result ≡ (task_of now.graph t).lock = c.lock_of-lock.ensures.value ∙ ap (λ (h : GraphView). (task_of h t).lock) c.graph.ensures.value in
      let first : Makes now c.try_change.new.work (Lock c.lock_of-lock.result ∷ []) true = subst (λ r. Makes now c.try_change.new.work (Lock c.lock_of-lock.result ∷ []) r) w.if-try_change.true c.try_change.ensures in
      let second : Makes c.try_change.new.work c.if-try_change.work (Take ∷ []) true =
      subst (λ (x : TentativeView). Makes c.try_change.new.work x (Take ∷ []) true) (sym w.work-is)
      (subst (λ r. Makes c.try_change.new.work w.try_change-then-try_change.new.work (Take ∷ []) r) (sym w.value-is ∙ c.if-try_change-2.true) w.try_change-then-try_change.ensures) in
      let is : (Lock c.lock_of-lock.result ∷ Take ∷ Move (TaskOf t) Waiting (Running c.worker.result) ∷ []) ≡ (Lock (task_of now.graph t).lock ∷ Take ∷ Move (TaskOf t) Waiting (Running now.worker) ∷ []) =
      λ i. Lock (lock i) ∷ Take ∷ Move (TaskOf t) Waiting (Running (c.worker.ensures.value i)) ∷ [] in
      subst (λ (cs : List Change). Makes now c.try_change-then-try_change-2.new.work cs c.try_change-then-try_change-2.result) is
      (makes_then (makes_then first second) c.try_change-then-try_change-2.ensures)
  | else-try_change w ↦ absurd (both_ways c.if-try_change.value (w.value-is ∙ w.if-try_change.false) c.if-try_change-2.true)
]
