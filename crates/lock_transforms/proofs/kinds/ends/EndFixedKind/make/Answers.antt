use Rattle.std.proofs.Common.{◌≡◌, ◌≤◌, List, Bool, true, false, length, ℕ, sym, ap, subst, ◌∙◌, arith}
use Rattle.std.specs.List.{range_with_len}
use Rattle.resource_lock.specs.GraphView.{GraphView, task_of}
use Rattle.resource_lock.specs.Ranges.{actions_of}
use Rattle.resource_lock.specs.StateView.{StateView, holding_of}
use Rattle.resource_lock.specs.declared.ids.WorkerId.{WorkerId}
use Rattle.resource_lock.specs.declared.marks.Mark.{Mark}
use Rattle.resource_lock.specs.declared.changes.Change.{Change}
use Rattle.lock_transforms.specs.Making.{Makes}
use Rattle.lock_transforms.specs.MostChanges.{changes_below}
use Rattle.lock_transforms.specs.Table.{skipped_waiting, end_mark}
use Rattle.lock_transforms.proofs.Makings.{makes_then, makes_stopped, still_belongs}
use Rattle.lock_transforms.proofs.Most.{ended}
use Rattle.lock_transforms.proofs.Skipped.{fewer_waiting}
use Rattle.lock_transforms.proofs.lemmas.Within.{same_range}
use Rattle.lock_transforms.proofs.kinds.ends.EndFixedKind.make.Goals as goal

same_ended : {g h : GraphView} {v w : WorkerId} (t : ℕ) {m n : Mark} {a b : Bool} → g ≡ h → v ≡ w → m ≡ n → a ≡ b → ended g v t m a ≡ ended h w t n b
same_ended {g} {h} {v} {w} t {m} {n} {a} {b} graph worker mark leased =
    ap (λ x. ended x v t m a) graph ∙ ap (λ x. ended h x t m a) worker ∙ ap (λ x. ended h w t x a) mark ∙ ap (λ x. ended h w t n x) leased

same_actions : {g h : GraphView} {first count : ℕ} (t : ℕ) → first ≡ (task_of g t).first_action → count ≡ (task_of g t).actions → g ≡ h → range_with_len first count ≡ actions_of h t
same_actions t first count same = same_range first count ∙ ap (λ (g : GraphView). actions_of g t) same

pub skip_waiting-requires-clause-room : goal.skip_waiting-requires-clause-room
skip_waiting-requires-clause-room c =
    let few : length (skipped_waiting c.args.work.now.graph c.args.work.now.state (actions_of c.args.work.now.graph c.args.self.now.task)) ≤ changes_below c.args.work.now.graph c.args.self.now.task = fewer_waiting c.args.work.now.graph c.args.work.now.state (actions_of c.args.work.now.graph c.args.self.now.task) in
    subst (λ (l : List ℕ). length (skipped_waiting c.args.work.now.graph c.args.work.now.state l) ≤ c.args.work.now.room) (sym (same_actions c.args.self.now.task c.actions_of-actions.ensures.first c.actions_of-actions.ensures.count c.graph-2.ensures.value)) (omega (arith, few, c.requires.room))

pub returns-then-not-skip_waiting-clause-made : goal.returns-then-not-skip_waiting-clause-made
returns-then-not-skip_waiting-clause-made c =
    makes_stopped (ended c.args.work.now.graph c.args.work.now.worker c.args.self.now.task (end_mark c.args.work.now.graph c.args.work.now.state c.args.self.now.task) (holding_of c.args.work.now.state c.args.work.now.worker).lease)
    (subst (λ (l : List ℕ). Makes c.args.work.now c.skip_waiting.new.work (skipped_waiting c.args.work.now.graph c.args.work.now.state l) false) (same_actions c.args.self.now.task c.actions_of-actions.ensures.first c.actions_of-actions.ensures.count c.graph-2.ensures.value) c.if-not-skip_waiting.ensures)

pub end_task-requires-clause-belongs : goal.end_task-requires-clause-belongs
end_task-requires-clause-belongs c = still_belongs c.if-not-skip_waiting.ensures c.requires.belongs

pub end_task-requires-clause-room : goal.end_task-requires-clause-room
end_task-requires-clause-room c =
    let few : length (skipped_waiting c.args.work.now.graph c.args.work.now.state (actions_of c.args.work.now.graph c.args.self.now.task)) ≤ changes_below c.args.work.now.graph c.args.self.now.task = fewer_waiting c.args.work.now.graph c.args.work.now.state (actions_of c.args.work.now.graph c.args.self.now.task) in
    let same : range_with_len c.actions_of-actions.result.first c.actions_of-actions.result.count ≡ actions_of c.args.work.now.graph c.args.self.now.task = same_actions c.args.self.now.task c.actions_of-actions.ensures.first c.actions_of-actions.ensures.count c.graph-2.ensures.value in
    omega (arith, few, ap (λ (l : List ℕ). length (skipped_waiting c.args.work.now.graph c.args.work.now.state l)) same, c.requires.room, c.skip_waiting.ensures.room, c.skip_waiting.ensures.few)

pub returns-clause-made : goal.returns-clause-made
returns-clause-made c =
    let mark : c.end_mark-mark.result ≡ end_mark c.args.work.now.graph c.args.work.now.state c.args.self.now.task =
    c.end_mark-mark.ensures ∙ ap (λ (g : GraphView). end_mark g c.state-2.result.now c.args.self.now.task) c.graph.ensures.value ∙ ap (λ (s : StateView). end_mark c.args.work.now.graph s c.args.self.now.task) c.state-2.ensures.value in
    let leased : c.has_lease-leased.result ≡ (holding_of c.args.work.now.state c.args.work.now.worker).lease =
    c.has_lease-leased.ensures ∙ ap (λ (s : StateView). (holding_of s c.worker.result).lease) c.state.ensures.value ∙ ap (λ (w : WorkerId). (holding_of c.args.work.now.state w).lease) c.worker.ensures.value in
    let skipped : Makes c.args.work.now c.skip_waiting.new.work (skipped_waiting c.args.work.now.graph c.args.work.now.state (actions_of c.args.work.now.graph c.args.self.now.task)) true =
    subst (λ (l : List ℕ). Makes c.args.work.now c.skip_waiting.new.work (skipped_waiting c.args.work.now.graph c.args.work.now.state l) true) (same_actions c.args.self.now.task c.actions_of-actions.ensures.first c.actions_of-actions.ensures.count c.graph-2.ensures.value) c.if-not-skip_waiting.ensures in
    makes_then skipped
    (subst (λ (l : List Change). Makes c.skip_waiting.new.work c.end_task.new.work l c.end_task.result) (same_ended c.args.self.now.task skipped.graph skipped.worker mark leased) c.end_task.ensures)
