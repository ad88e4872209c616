-- the changes that are left lead on from those that were noted
use Rattle.std.proofs.Common.{◌≡◌, ◌++◌}
use Rattle.lock_journal.specs.Names.{make_all, StateView, changes_left}
use Rattle.worker_notes.specs.Parts.{LeadsOn}
use Rattle.worker_notes.proofs.parts.WorkerPart.note_all.Given as goal

abbrev pub invariant-loop-change : goal.invariant-loop-change
invariant-loop-change l =
    ((s : StateView) → LeadsOn s l.worker l.fn.self (changes_left l.fn.changes) → LeadsOn (make_all s l.worker l.yielded) l.worker l.self (changes_left l.change-iterator))
    × (changes_left l.fn.changes ≡ l.yielded ++ changes_left l.change-iterator)
    × (l.self.last ≡ l.fn.self.last)
