use Rattle.std.proofs.Common.{sym, ap, ◌∙◌, subst}
use Rattle.lock_journal.specs.OwnChanges.{mark_before}
use Rattle.worker_notes.specs.SortedLists.{IsRising}
use Rattle.worker_notes.proofs.SortedLists.{rises_without}
use Rattle.worker_notes.proofs.parts.note_move.Goals as goal
use Rattle.worker_notes.proofs.parts.note_move.Goals.{then-runs_by, else-runs_by}

pub add-requires-clause-rises : goal.add-requires-clause-rises
add-requires-clause-rises c = elim c.if-runs_by.branch [
  | then-runs_by w ↦
      subst (IsRising mark_before) (sym (ap (λ l. l.items) w.claimed-is ∙ w.remove.ensures.items)) (rises_without mark_before c.args.id c.args.claimed.now.items c.requires.rises)
  | else-runs_by w ↦ subst (IsRising mark_before) (sym (ap (λ l. l.items) w.claimed-is)) c.requires.rises
]
