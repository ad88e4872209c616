use Rattle.std.proofs.Common.{◌≡◌, ◌-◌, length}
use Rattle.history_text.specs.Reading.{with_front, further_at}
use Rattle.history_text.proofs.entry_lines.read_further.Given as goal

abbrev pub invariant-loop : goal.invariant-loop
invariant-loop l = with_front l.changes.items (further_at (length l.text - l.counter) l.worker l.rest) ≡ with_front l.fn.changes.items (further_at (length l.text) l.worker l.text)
