-- those so far were written
use Rattle.std.proofs.Common.{◌≡◌, ◌++◌}
use Rattle.std.specs.List.{flat_map}
use Rattle.file_access.specs.PageView.{Adds}
use Rattle.lock_journal.specs.Changes.{changes_left}
use Rattle.history_text.specs.Text.{further_text}
use Rattle.history_text.proofs.changes.write_further.Given as goal

abbrev pub invariant-loop-change : goal.invariant-loop-change
invariant-loop-change g l =
    Adds (g.K.Sink.seen l.fn.sink) l.fn.page (g.K.Sink.seen l.sink) l.page (flat_map further_text l.yielded)
    × (changes_left l.fn.changes ≡ l.yielded ++ changes_left l.change-iterator)
